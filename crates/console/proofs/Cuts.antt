-- A line is cut at its first space outside quotes.
use Rattle.std.proofs.Common.{◌≡◌, ℕ, Bool, true, false, ◌+◌, ◌<◌, List, [], ◌∷◌, ◌++◌, cond, Option, zero, suc, length, slice_get, slice_index_or, IfSome, drop, refl, ap, sym, subst, ◌∙◌, arith}
use Rattle.std.proofs.lemmas.List.{append_assoc, length-append, drop_more}
use Rattle.console.specs.Fields.{ends, past, before, fields_from}
use Rattle.console.specs.declared.pieces.Standing.{Standing}
use Rattle.console.specs.declared.pieces.Standing.TheVariants.{Outside}

before_before : (xs : List ℕ) (b : ℕ) (fs : List (List ℕ)) → before xs (before (b ∷ []) fs) ≡ before (xs ++ b ∷ []) fs
before_before xs b [] = refl
before_before xs b (f ∷ fs) = ap (λ (x : List ℕ). x ∷ fs) (sym (append_assoc xs (b ∷ []) f))

nothing : (e : Bool) (b : ℕ) (others fs : List (List ℕ)) → before [] (cond e ([] ∷ others) (before (b ∷ []) fs)) ≡ cond e ([] ∷ others) (before (b ∷ []) fs)
nothing true b others fs = refl
nothing false b others [] = refl
nothing false b others (f ∷ fs) = refl

-- at the beginning of the line
pub before_none : (s : Standing) (line : List ℕ) → before [] (fields_from s line) ≡ fields_from s line
before_none s [] = refl
before_none s (b ∷ bs) = nothing (ends s b) b (fields_from Outside bs) (fields_from (past s b) bs)

-- what holds of each entry and the field at its place
pub at_field : {E : Type 0} (P : List ℕ → E → Type 0) (fields : List (List ℕ)) (k : ℕ) (entry : Option E) → IfSome entry (λ e. P (slice_index_or fields k []) e) → IfSome (slice_get fields k) (λ f. IfSome entry (λ e. P f e))
at_field P [] k entry h = tt
at_field P (f ∷ fs) zero entry h = h
at_field P (f ∷ fs) (suc k) entry h = at_field P fs k entry h

-- and of one entry more
pub one_more : {E : Type 0} (Q : ℕ → E → Type 0) (es : List E) (e : E) → ((k : ℕ) → IfSome (slice_get es k) (Q k)) → Q (length es) e → (k : ℕ) → IfSome (slice_get (es ++ e ∷ []) k) (Q k)
one_more Q [] e h q zero = q
one_more Q [] e h q (suc k) = tt
one_more Q (x ∷ es) e h q zero = h 0
one_more Q (x ∷ es) e h q (suc k) = one_more (λ j. Q (suc j)) es e (λ j. h (suc j)) q k

module _ {E : Type 0} (P : List ℕ → E → Type 0) (fields : List (List ℕ)) where
  -- entries are what has been read of the fields, up to those that are left
  abbrev pub Read : List (List ℕ) → List E → Type 0
  Read left es = (left ≡ drop (length es) fields) × (length es + length left ≡ length fields) × ((k : ℕ) → IfSome (slice_get es k) (λ e. P (slice_index_or fields k []) e))

  pub read_more : (left rest : List (List ℕ)) (es more : List E) (f : List ℕ) (e : E) → Read left es → left ≡ f ∷ rest → more ≡ es ++ e ∷ [] → P f e → Read rest more
  read_more left rest es more f e r b m p =
      let n : length more ≡ length es + 1 = ap length m ∙ length-append es (e ∷ []) in
      let l : length left ≡ length rest + 1 = rw b (omega arith) in
      let inside : length es < length fields = omega (arith, r.1) in
      let here : drop (length es) fields ≡ slice_index_or fields (length es) [] ∷ drop (length es + 1) fields = drop_more fields (length es) [] inside in
      let both : f ∷ rest ≡ slice_index_or fields (length es) [] ∷ drop (length es + 1) fields = sym b ∙ r.0 ∙ here in
      let d : rest ≡ drop (length es + 1) fields = ap (drop 1) both in
      let at : f ≡ slice_index_or fields (length es) [] = ap (λ (xs : List (List ℕ)). slice_index_or xs 0 []) both in
      (d ∙ ap (λ (k : ℕ). drop k fields) (sym n), omega (arith, r.1), subst (λ (xs : List E). (k : ℕ) → IfSome (slice_get xs k) (λ x. P (slice_index_or fields k []) x)) (sym m) (one_more (λ k x. P (slice_index_or fields k []) x) es e r.2 (subst (λ (x : List ℕ). P x e) at p)))
