-- The identities of the consists of a book, one by one.
use Rattle.std.proofs.Common.{◌≡◌, ℕ, zero, suc, ◌-◌, ◌<◌, ◌≤◌, List, [], ◌∷◌, length, get_or, drop, Some, None, Option, sym, refl, ap, ◌∙◌, arith}
use Rattle.std.specs.List.{slice_get}
use Rattle.std.proofs.lemmas.Option.{slice_get_past}
use Rattle.train.specs.declared.identity.Identity.{Identity}
use Rattle.fleet.specs.Rows.{identity_of, size_of}
use Rattle.fleet.specs.Books.{listed}
use Rattle.fleet.specs.Consists.{identity_in, identity_at}
use Rattle.fleet.specs.Readings.{length-listed}

listed_at : (es vs : List (List ℕ)) (i : ℕ) → i < length es → identity_in (slice_get (listed es vs) i) ≡ Some (record { bytes = identity_of (get_or es i []) })
listed_at [] vs i h = absurd (omega arith)
listed_at (r ∷ es) vs zero h = refl
listed_at (r ∷ es) vs (suc i) h = listed_at es (drop (size_of r) vs) i (omega arith)

pub identity_here : (es vs : List (List ℕ)) (k : ℕ) (r b : List ℕ) → (k ≡ 0 → ⊥) → k ≤ length es → r ≡ get_or es (k - 1) [] → b ≡ identity_of r
    → Some (record { bytes = b }) ≡ identity_at (listed es vs) k
identity_here es vs zero r b z h q e = absurd (z refl)
identity_here es vs (suc k) r b z h q e =
    let x : suc k - 1 ≡ k = omega arith in
    let s : b ≡ identity_of (get_or es k []) = e ∙ ap identity_of (q ∙ ap (λ (j : ℕ). get_or es j []) x) in
    ap (λ (bs : List ℕ). let o : Option Identity = Some (record { bytes = bs }) in o) s ∙ sym (listed_at es vs k (omega arith))

pub identity_past : (es vs : List (List ℕ)) (k : ℕ) → length es < k → None ≡ identity_at (listed es vs) k
identity_past es vs zero h = refl
identity_past es vs (suc k) h = let l = length-listed es vs in sym (ap identity_in (slice_get_past (listed es vs) k (omega arith)))
