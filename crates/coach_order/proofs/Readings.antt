-- Sections and rows, as they are cut from bytes.
use Rattle.std.proofs.Common.{◌≡◌, ℕ, zero, suc, ◌+◌, ◌*◌, ◌/◌, ◌<◌, ◌≤◌, List, ◌∷◌, length, get_or, take, drop, refl, sym, ap, ◌∙◌, ap₂, mul-suc, arith}
use Rattle.std.proofs.Math.Nat.{mul-div_cancel_left}
use Rattle.std.proofs.lemmas.List.{drop-drop, drop-take, length-take-le}
use Rattle.fleet.specs.Rows.{rows}
use Rattle.fleet.specs.Entries.{take-take}
use Rattle.directory.specs.Part.{past}
use Rattle.directory.proofs.Thin.{past_drop}

-- the rows of a section are those of its bytes alone
rows-take : (w n : ℕ) (bs : List ℕ) → rows w n (take (w * n) bs) ≡ rows w n bs
rows-take w zero bs = refl
rows-take w (suc n) bs =
    let e : w * suc n ≡ w + w * n = omega (arith, mul-suc w n) in
    ap (λ (k : ℕ). rows w (suc n) (take k bs)) e
    ∙ ap₂ (λ (row : List ℕ) (more : List (List ℕ)). row ∷ more) (take-take w (w + w * n) bs (omega arith))
    (ap (rows w n) (drop-take w (w * n) bs) ∙ rows-take w n (drop w bs))

-- the rows that the code cuts from a section, as so many as fit
pub rows_cut : (w n : ℕ) (bs cut : List ℕ) (chunks : List (List ℕ)) → 0 < w → w * n ≤ length bs → cut ≡ take (w * n) bs → chunks ≡ rows w (length cut / w) cut → chunks ≡ rows w n bs
rows_cut w n bs cut chunks some fits e f =
    let long : length cut ≡ w * n = ap length e ∙ length-take-le (w * n) bs fits in
    let many : length cut / w ≡ n = ap (λ (k : ℕ). k / w) long ∙ mul-div_cancel_left n some in
    f ∙ ap₂ (rows w) many e ∙ rows-take w n bs

-- what stands behind a section, as the code cuts it
pub past_cut : (w : ℕ) (bs : List ℕ) → drop (w * get_or bs 0 0) (drop 1 bs) ≡ past w bs
past_cut w bs = drop-drop (w * get_or bs 0 0) 1 bs ∙ sym (past_drop w bs)
