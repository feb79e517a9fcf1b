-- A confirmed list walked along the train's names.
use Rattle.std.proofs.Common.{◌≡◌, ℕ, ◌+◌, ◌<◌, ◌≤◌, Bool, true, false, cond, ◌&&◌, eqb, ltb, List, [], ◌∷◌, length, get_or, drop, Some, None, sym, refl, ap, ◌∙◌, ap₂, arith}
use Rattle.std.proofs.lemmas.List.{drop_more, drop_all}
use Rattle.std.proofs.lemmas.Bool.{and_parts, ltb-true, ltb-false, eq-eqb, ne_eqb}
use Rattle.train.specs.declared.name.Name.{Name}
use Rattle.train.specs.Identities.{same_name}
use Rattle.train.specs.Refusals.{among}
use Rattle.directory.specs.Composing.{struck, same_names, in_order}
use Rattle.directory.specs.Steps.{next_place}

nothing_same : {X : Type 0} → ◌≡◌ {A = ℕ} 0 1 → X
nothing_same z = absurd (omega arith)

module _ (held : List Name) where
  -- the train's name is next, and met
  met_next : (n : Name) (ns : List Name) (at : ℕ) → among same_name n held ≡ true → at < length held → same_name n (get_or held at (record { bytes = [] })) ≡ true
      → same_names (struck held (n ∷ ns)) (drop at held) ≡ same_names (struck held ns) (drop (at + 1) held)
  met_next n ns at a h s =
      ap (λ b. same_names (cond b (n ∷ struck held ns) (struck held ns)) (drop at held)) a
      ∙ ap (same_names (n ∷ struck held ns)) (drop_more held at (record { bytes = [] }) h)
      ∙ ap (λ b. b && same_names (struck held ns) (drop (at + 1) held)) s

  passed : (n : Name) (ns : List Name) (at : ℕ) → among same_name n held ≡ false → same_names (struck held (n ∷ ns)) (drop at held) ≡ same_names (struck held ns) (drop at held)
  passed n ns at a = ap (λ b. same_names (cond b (n ∷ struck held ns) (struck held ns)) (drop at held)) a

  abbrev Left : List Name → ℕ → Bool
  Left ns at = same_names (struck held ns) (drop at held)

  -- one name more
  pub walk_on : (ns : List Name) (i at next : ℕ) (d : Name) → i < length ns → Some next ≡ next_place (get_or ns i d) held at
      → same_names (struck held (drop i ns)) (drop at held) ≡ same_names (struck held (drop (i + 1) ns)) (drop next held)
  walk_on ns i at next d h e =
      ap (λ z. same_names (struck held z) (drop at held)) (drop_more ns i d h) ∙ by (among same_name (get_or ns i d) held) refl (ltb at (length held) && same_name (get_or ns i d) (get_or held at (record { bytes = [] }))) refl
    where
      by : (a : Bool) → among same_name (get_or ns i d) held ≡ a → (b : Bool) → (ltb at (length held) && same_name (get_or ns i d) (get_or held at (record { bytes = [] }))) ≡ b
          → same_names (struck held (get_or ns i d ∷ drop (i + 1) ns)) (drop at held) ≡ same_names (struck held (drop (i + 1) ns)) (drop next held)
      by true q true r =
          let w = and_parts (ltb at (length held)) (same_name (get_or ns i d) (get_or held at (record { bytes = [] }))) r in
          let f = rw (q, r) at e in
          let same : next ≡ at + 1 = cc in
          met_next (get_or ns i d) (drop (i + 1) ns) at q (ltb-true at (length held) w.0) w.1 ∙ ap (λ k. same_names (struck held (drop (i + 1) ns)) (drop k held)) (sym same)
      by true q false r = let f = rw (q, r) at e in nothing_same (cc)
      by false q b r =
          let f = rw q at e in
          let same : next ≡ at = cc in
          passed (get_or ns i d) (drop (i + 1) ns) at q ∙ ap (λ k. same_names (struck held (drop (i + 1) ns)) (drop k held)) (sym same)

  pub walk_end : (ns : List Name) (i at n : ℕ) → length ns ≤ i → at ≤ length held → n ≡ length held → same_names (struck held (drop i ns)) (drop at held) ≡ eqb at n
  walk_end ns i at n h w en = ap (λ z. same_names (struck held z) (drop at held)) (drop_all i ns h) ∙ by (ltb at (length held)) refl
    where
      by : (b : Bool) → ltb at (length held) ≡ b → same_names [] (drop at held) ≡ eqb at n
      by true q =
          let l = ltb-true at (length held) q in
          ap (same_names []) (drop_more held at (record { bytes = [] }) l) ∙ sym (ne_eqb at n (λ z. omega arith))
      by false q =
          let l = ltb-false at (length held) q in
          ap (same_names []) (drop_all at held l) ∙ sym (eq-eqb at n (omega arith))

pub some_order : (ns held : List Name) → (length ns ≡ 0 → ⊥) → in_order ns held ≡ same_names (struck held ns) held
some_order [] held h = absurd (h refl)
some_order (n ∷ ns) held h = refl

-- what a step along the train finds
module _ (n : Name) (held : List Name) (at : ℕ) (a : true ≡ among same_name n held) where
  pub step_met : true ≡ (ltb at (length held) && same_name n (get_or held at (record { bytes = [] }))) → Some (at + 1) ≡ next_place n held at
  step_met e = ap₂ (λ x y. cond x (cond y (Some (at + 1)) None) (Some at)) a e
