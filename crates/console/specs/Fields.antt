-- The fields of a line: what stands between the spaces outside quotes.
use Rattle.std.specs.Prelude.{ℕ, Bool, false, List, [], ◌∷◌, ◌++◌, Option, Some, None, cond, if◌then◌else◌, ◌==◌}
use Rattle.std.specs.Borrow.{Bor}
use Rattle.console.specs.declared.pieces.Standing.{Standing}
use Rattle.console.specs.declared.pieces.Standing.TheVariants.{Outside, Quoted, Escaped}
use Rattle.console.specs.declared.pieces.Fields.{Fields}

-- a space outside quotes ends a field
abbrev pub ends : Standing → ℕ → Bool
ends Outside b = b == 32
ends Quoted b = false
ends Escaped b = false

-- the standing behind one byte more: a quote mark is 34, a backslash 92
abbrev pub past : Standing → ℕ → Standing
past Outside b = if b == 34 then Quoted else Outside
past Quoted b = if b == 34 then Outside else if b == 92 then Escaped else Quoted
past Escaped b = Quoted

-- bytes put before the first of some fields
abbrev pub before : List ℕ → List (List ℕ) → List (List ℕ)
before xs [] = xs ∷ []
before xs (f ∷ fs) = (xs ++ f) ∷ fs

abbrev pub fields_from : Standing → List ℕ → List (List ℕ)
fields_from s [] = [] ∷ []
fields_from s (b ∷ bs) = cond (ends s b) ([] ∷ fields_from Outside bs) (before (b ∷ []) (fields_from (past s b) bs))

abbrev pub fields_of : Option (Bor (List ℕ)) → List (List ℕ)
fields_of None = []
fields_of (Some line) = fields_from Outside line.now

abbrev pub fields_in : Fields → List (List ℕ)
fields_in f = fields_of f.rest
