-- What the loops of the checks need, over a part of each entry of a list.
use Rattle.std.proofs.Common.{◌≡◌, ℕ, ◌+◌, ◌<◌, true, false, List, [], ◌∷◌, map, length, get_or, take, drop, Some, None, sym, refl, ap, ◌∙◌, arith, length-drop}
use Rattle.std.proofs.lemmas.List.{get_or-map, drop_more}
use Rattle.train.specs.declared.refusal.Part.{Part}
use Rattle.train.specs.declared.refusal.Place.TheVariants.{At}
use Rattle.train.specs.declared.refusal.Reason.{Reason}
use Rattle.train.specs.declared.refusal.Reason.TheVariants.{IdentityOrder}
use Rattle.train.specs.declared.refusal.Refusal.{Refusal}
use Rattle.train.specs.Refusals.{Check, Rule, each, each_behind, breach, refusal, or_else}
use Rattle.train.proofs.Rules.{each_past, each_here, each-map}
use Rattle.train.specs.Identities.{last_identity, rises, ascending}
use Rattle.fleet_list.specs.declared.tables.Head.{Head}
use Rattle.fleet_list.specs.Entries.{head_identity}
use Rattle.fleet_list.specs.Imports.{rising}
use Rattle.fleet_list.proofs.Four.{length-map}

module _ {A B : Type 0} (rule : Rule A) (reason : Reason) (f : B → A) (ys : List B) (i : ℕ) where
  pub part_past : (d : B) (e x : A) → x ≡ f (get_or ys i d) → i < length ys → rule (take i (map f ys)) x ≡ true
      → each_behind rule reason (take i (map f ys)) (drop i (map f ys)) ≡ each_behind rule reason (take (i + 1) (map f ys)) (drop (i + 1) (map f ys))
  part_past d e x is l r = each_past rule reason (map f ys) i x e (is ∙ sym (get_or-map f ys i d e l)) (omega (arith, length-map f ys)) r

  pub part_here : (part : Part) (d : B) (e x : A) → x ≡ f (get_or ys i d) → i < length ys → rule (take i (map f ys)) x ≡ false
      → breach part (each_behind rule reason (take i (map f ys)) (drop i (map f ys))) ≡ Some (record { part = part; reason = reason; place = At (i + 1) })
  part_here part d e x is l r = each_here rule reason (map f ys) i part x e (is ∙ sym (get_or-map f ys i d e l)) (omega (arith, length-map f ys)) r

-- identities rise as the heads that they are of
last_read : (hs : List Head) → last_identity head_identity hs ≡ last_identity (λ id. id) (map head_identity hs)
last_read [] = refl
last_read (h ∷ []) = refl
last_read (h ∷ k ∷ hs) = last_read (k ∷ hs)

pub heads_rise : (hs : List Head) → each (ascending head_identity) IdentityOrder hs ≡ each rising IdentityOrder (map head_identity hs)
heads_rise hs = each-map head_identity (ascending head_identity) rising (λ before x. ap (λ p. rises p (head_identity x)) (last_read before)) IdentityOrder hs

-- a check that is met, and one that is not
pub met : (part : Part) (c : Check) (cs : List Check) → breach part c ≡ None → refusal part (c ∷ cs) ≡ refusal part cs
met part c cs e = ap (λ o. or_else o (refusal part cs)) e

pub unmet : (part : Part) (c : Check) (cs : List Check) (f : Refusal) → breach part c ≡ Some f → refusal part (c ∷ cs) ≡ Some f
unmet part c cs f e = ap (λ o. or_else o (refusal part cs)) e

-- what stands at the place behind which ys follow
pub stands_at : {V : Type 0} (es : List V) (k : ℕ) (x : V) (ys : List V) → drop k es ≡ x ∷ ys → (k < length es) × (get_or es k x ≡ x) × (drop (k + 1) es ≡ ys)
stands_at es k x ys q =
    let l : k < length es = omega (arith, ap length q, length-drop k es) in
    let d = drop_more es k x l in
    (l, cc, cc)
