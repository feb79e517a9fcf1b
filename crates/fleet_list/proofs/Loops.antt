-- Texts of values written one behind another.
use Rattle.std.proofs.Common.{◌≡◌, ℕ, ◌+◌, ◌-◌, ◌<◌, ◌≤◌, List, [], ◌∷◌, ◌++◌, length, get_or, take, drop, sym, ap, ◌∙◌, subst, append_assoc, arith, length-append, length-drop}
use borrow.Rule.Slice.PartMut.{put_mid}
use Rattle.std.specs.List.{flat_map}
use Rattle.std.proofs.lemmas.List.{flat_map_more, take_rest, drop_more}
use Rattle.fleet_list.specs.Writes.{Written}
use Rattle.fleet_list.proofs.Behind.{lend, same_text}

-- all but the rest are written
pub record Writing {V : Type 0} (f : V → List ℕ) (all rest : List V) (at : ℕ) (before out : List ℕ) : Type 0 where
  pub done : List V
  pub split : all ≡ done ++ rest
  pub wrote : Written (flat_map f done) before at out
  pub fits : at + length (flat_map f rest) ≤ length before

-- the next value
pub writing_at : {V : Type 0} (f : V → List ℕ) {all rest next : List V} {at : ℕ} {before out : List ℕ} → rest ≡ next → Writing f all rest at before out → Writing f all next at before out
writing_at f {all} {rest} {next} {at} {before} {out} e w = subst (λ z. Writing f all z at before out) e w

pub writing_next : {V : Type 0} (f : V → List ℕ) {all : List V} (es : List V) {i : ℕ} {x : V} {at : ℕ} {before out : List ℕ} → x ≡ get_or es i x → i < length es → Writing f all (drop i es) at before out → Writing f all (x ∷ drop (i + 1) es) at before out
writing_next f es {i} {x} e l w = writing_at f (drop_more es i x l ∙ ap (λ z. z ∷ drop (i + 1) es) (sym e)) w

module _ {V : Type 0} (f : V → List ℕ) {all : List V} {rest : List V} {x : V} {at : ℕ} {before out : List ℕ} (w : Writing f all (x ∷ rest) at before out) where
  pub writing_more : {last : List ℕ} {m k : ℕ} → Written (f x) (take k (drop at out)) m last → k ≡ length out - at → Writing f all rest (at + m) before (put_mid at k out last)
  writing_more {last} {m} {k} g e = record {
    done = w.done ++ x ∷ [];
    split = w.split ∙ sym (append_assoc w.done (x ∷ []) rest);
    wrote = same_text (flat_map_more f [] w.done x) (lend w.wrote g e);
    fits = omega (arith, w.fits, length-append (f x) (flat_map f rest), g.long);
  }

-- `out[at..]` as it is lent
pub tail_room : (out : List ℕ) (at n : ℕ) → at + n ≤ length out → n ≤ length (take (length out - at) (drop at out))
tail_room out at n l = omega (arith, ap length (take_rest out at), length-drop at out)
