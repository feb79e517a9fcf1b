-- The book of the consists in tables: its bytes row by row, and its length.
use Rattle.std.proofs.Common.{◌≡◌, ℕ, ◌+◌, ◌/◌, ◌%◌, ◌^◌, ◌<◌, ◌≤◌, List, [], ◌∷◌, ◌++◌, map, length, drop, refl, ap, ◌∙◌, ap₂, append_assoc, arith, length-append, length-drop, length-take-le}
use Rattle.std.specs.List.{flat_map}
use Rattle.std.proofs.lemmas.List.{take_all}
use Rattle.train.specs.declared.entries.Vehicle.{Vehicle}
use Rattle.train.specs.Facings.{code}
use Rattle.fleet_list.specs.declared.tables.Head.{Head}
use Rattle.fleet.specs.Books.{vehicles_in, flat, item_row, vehicle_row, two, four, book_of}
use Rattle.fleet_list.specs.Entries.{head_row}
use Rattle.fleet_list.specs.Tables.{gathered, counts}
use Rattle.fleet_list.proofs.Gathers.{length-gathered, gathered-vehicles}

flat-joined : {A : Type 0} (f : A → List ℕ) (xs : List A) → flat (map f xs) ≡ flat_map f xs
flat-joined f [] = refl
flat-joined f (x ∷ xs) = ap (λ z. f x ++ z) (flat-joined f xs)

rows_heads : (hs : List Head) (vs : List Vehicle) → counts hs ≤ length vs → flat (map item_row (gathered hs vs)) ≡ flat_map head_row hs
rows_heads [] vs l = refl
rows_heads (h ∷ hs) vs l =
    ap₂ (λ n z. (h.identity.bytes ++ (four h.counter ++ n ∷ [])) ++ z) (length-take-le h.count vs (omega arith)) (rows_heads hs (drop h.count vs) (omega (arith, length-drop h.count vs)))

-- as it is written, one part behind another
abbrev pub parts : List Head → List Vehicle → List ℕ
parts hs vs = ((((1 ∷ 0 ∷ []) ++ two (length hs)) ++ flat_map head_row hs) ++ two (length vs)) ++ flat_map vehicle_row vs

flatten : (a b c d e : List ℕ) → a ++ (b ++ (c ++ (d ++ e))) ≡ (((a ++ b) ++ c) ++ d) ++ e
flatten a b c d e = simp append_assoc

pub book_parts : (hs : List Head) (vs : List Vehicle) → counts hs ≡ length vs → book_of (gathered hs vs) ≡ parts hs vs
book_parts hs vs e =
    let l : counts hs ≤ length vs = omega arith in
    let w : vehicles_in (gathered hs vs) ≡ vs = gathered-vehicles hs vs l ∙ take_all (counts hs) vs (omega arith) in
    ap₂ (λ n z. 1 ∷ 0 ∷ (two n ++ (z ++ (two (length (vehicles_in (gathered hs vs))) ++ flat (map vehicle_row (vehicles_in (gathered hs vs))))))) (length-gathered hs vs) (rows_heads hs vs l)
    ∙ ap (λ z. 1 ∷ 0 ∷ (two (length hs) ++ (flat_map head_row hs ++ (two (length z) ++ flat (map vehicle_row z))))) w
    ∙ ap (λ z. 1 ∷ 0 ∷ (two (length hs) ++ (flat_map head_row hs ++ (two (length vs) ++ z)))) (flat-joined vehicle_row vs)
    ∙ flatten (1 ∷ 0 ∷ []) (two (length hs)) (flat_map head_row hs) (two (length vs)) (flat_map vehicle_row vs)

pub parts_long : (hs : List Head) (vs : List Vehicle) → length (parts hs vs) ≡ 2 + 2 + length (flat_map head_row hs) + 2 + length (flat_map vehicle_row vs)
parts_long hs vs =
    let a = flat_map head_row hs in
    let b = flat_map vehicle_row vs in
    let t = (1 ∷ 0 ∷ []) ++ two (length hs) in
    omega (arith, length-append ((t ++ a) ++ two (length vs)) b, length-append (t ++ a) (two (length vs)), length-append t a)

-- the four bytes of a counter
pub four_is : (n : ℕ) → n < 2 ^ 32 → (n / 16777216 % 256) ∷ (n / 65536 % 256) ∷ (n / 256 % 256) ∷ (n % 256) ∷ [] ≡ four n
four_is n l = let e : n / 16777216 % 256 ≡ n / 16777216 = omega arith in ap (λ z. z ∷ (n / 65536 % 256) ∷ (n / 256 % 256) ∷ (n % 256) ∷ []) e

pub head_long : (h : Head) → length (head_row h) ≡ length h.identity.bytes + 5
head_long h = length-append h.identity.bytes (four h.counter ++ (h.count ∷ []))

pub row_long : (v : Vehicle) → length (vehicle_row v) ≡ length v.name.bytes + 1
row_long v = length-append v.name.bytes (code v.facing ∷ [])
