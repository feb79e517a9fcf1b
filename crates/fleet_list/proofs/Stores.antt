-- The exits of `store` and of import, by the checks.
use Rattle.std.proofs.Common.{◌≡◌, ℕ, ◌+◌, ◌*◌, ◌<◌, ◌≤◌, leb, List, [], ◌∷◌, map, length, Some, None, sym, refl, ap, ◌∙◌, arith}
use Rattle.std.specs.List.{AllByRecursion}
use Rattle.std.proofs.lemmas.List.{take_all}
use Rattle.std.proofs.lemmas.Bool.{lt-leb, le-leb}
use Rattle.train.specs.declared.entries.Vehicle.{Vehicle}
use Rattle.train.specs.declared.refusal.Part.{Part}
use Rattle.train.specs.declared.refusal.Part.TheVariants.{Text}
use Rattle.train.specs.declared.refusal.Place.TheVariants.{At}
use Rattle.train.specs.declared.refusal.Reason.TheVariants.{ConsistCount, VehicleCount, IdentityOrder, Repeated, BufferShort}
use Rattle.train.specs.declared.refusal.Refusal.{Refusal}
use Rattle.train.specs.Refusals.{must, each, alone, breach, refusal}
use Rattle.fleet.specs.Books.{Item, book_of, vehicles_in}
use Rattle.fleet_list.specs.declared.tables.Head.{Head}
use Rattle.fleet_list.specs.Entries.{head_identity}
use Rattle.fleet_list.specs.Imports.{identity_in, vehicles_of, rising, names_apart, room_for, line_checks, list_checks}
use Rattle.fleet_list.specs.Lists.{IsLine}
use Rattle.fleet_list.specs.Tables.{gathered, counts}
use Rattle.fleet_list.proofs.Checked.{met, unmet}
use Rattle.fleet_list.proofs.Gathers.{length-gathered, gathered-vehicles}
use Rattle.fleet_list.proofs.Lawful.{book_long}

ids : (hs : List Head) (vs : List Vehicle) → map identity_in (gathered hs vs) ≡ map head_identity hs
ids [] vs = refl
ids (h ∷ hs) vs = ap (λ z. head_identity h ∷ z) (ids hs _)

-- the length of the book from the tables
pub need_is : (hs : List Head) (vs : List Vehicle) → counts hs ≡ length vs → AllByRecursion IsLine (gathered hs vs) → length (book_of (gathered hs vs)) ≡ 6 + 21 * length hs + 17 * length vs
need_is hs vs e l =
    let v : vehicles_in (gathered hs vs) ≡ vs = gathered-vehicles hs vs (omega arith) ∙ take_all (counts hs) vs (omega arith) in
    book_long (gathered hs vs) l ∙ omega (arith, length-gathered hs vs, ap length v)

pub at_rise : (hs : List Head) (vs : List Vehicle) (room : ℕ) (f : Refusal) → Some f ≡ breach Text (each rising IdentityOrder (map head_identity hs)) → refusal Text (line_checks (gathered hs vs) room) ≡ Some f
at_rise hs vs room f e =
    unmet Text (each rising IdentityOrder (map identity_in (gathered hs vs))) (each (alone names_apart) Repeated (map vehicles_of (gathered hs vs)) ∷ room_for (length (book_of (gathered hs vs))) room ∷ []) f
    (ap (λ z. breach Text (each rising IdentityOrder z)) (ids hs vs) ∙ sym e)

past_rise : (hs : List Head) (vs : List Vehicle) (room : ℕ) → None ≡ breach Text (each rising IdentityOrder (map head_identity hs))
    → refusal Text (line_checks (gathered hs vs) room) ≡ refusal Text (each (alone names_apart) Repeated (map vehicles_of (gathered hs vs)) ∷ room_for (length (book_of (gathered hs vs))) room ∷ [])
past_rise hs vs room e =
    met Text (each rising IdentityOrder (map identity_in (gathered hs vs))) (each (alone names_apart) Repeated (map vehicles_of (gathered hs vs)) ∷ room_for (length (book_of (gathered hs vs))) room ∷ [])
    (ap (λ z. breach Text (each rising IdentityOrder z)) (ids hs vs) ∙ sym e)

pub at_apart : (hs : List Head) (vs : List Vehicle) (room : ℕ) (f : Refusal) → None ≡ breach Text (each rising IdentityOrder (map head_identity hs)) → Some f ≡ breach Text (each (alone names_apart) Repeated (map vehicles_of (gathered hs vs)))
    → refusal Text (line_checks (gathered hs vs) room) ≡ Some f
at_apart hs vs room f r e = past_rise hs vs room r ∙ unmet Text (each (alone names_apart) Repeated (map vehicles_of (gathered hs vs))) (room_for (length (book_of (gathered hs vs))) room ∷ []) f (sym e)

past_apart : (hs : List Head) (vs : List Vehicle) (room : ℕ) → None ≡ breach Text (each rising IdentityOrder (map head_identity hs)) → None ≡ breach Text (each (alone names_apart) Repeated (map vehicles_of (gathered hs vs)))
    → refusal Text (line_checks (gathered hs vs) room) ≡ refusal Text (room_for (length (book_of (gathered hs vs))) room ∷ [])
past_apart hs vs room r e = past_rise hs vs room r ∙ met Text (each (alone names_apart) Repeated (map vehicles_of (gathered hs vs))) (room_for (length (book_of (gathered hs vs))) room ∷ []) (sym e)

pub short_of : (part : Part) (need room : ℕ) → room < need → refusal part (room_for need room ∷ []) ≡ Some (record { part = part; reason = BufferShort; place = At need })
short_of part need room l = let e = lt-leb need room l in simp e

pub enough : (part : Part) (need room : ℕ) → need ≤ room → refusal part (room_for need room ∷ []) ≡ None
enough part need room l = let e = le-leb need room l in simp e

pub at_room : (hs : List Head) (vs : List Vehicle) (room need : ℕ) → None ≡ breach Text (each rising IdentityOrder (map head_identity hs)) → None ≡ breach Text (each (alone names_apart) Repeated (map vehicles_of (gathered hs vs)))
    → length (book_of (gathered hs vs)) ≡ need → room < need → refusal Text (line_checks (gathered hs vs) room) ≡ Some (record { part = Text; reason = BufferShort; place = At need })
at_room hs vs room need r e n l = past_apart hs vs room r e ∙ ap (λ z. refusal Text (room_for z room ∷ [])) n ∙ short_of Text need room l

pub at_none : (hs : List Head) (vs : List Vehicle) (room need : ℕ) → None ≡ breach Text (each rising IdentityOrder (map head_identity hs)) → None ≡ breach Text (each (alone names_apart) Repeated (map vehicles_of (gathered hs vs)))
    → length (book_of (gathered hs vs)) ≡ need → need ≤ room → refusal Text (line_checks (gathered hs vs) room) ≡ None
at_none hs vs room need r e n l = past_apart hs vs room r e ∙ ap (λ z. refusal Text (room_for z room ∷ [])) n ∙ enough Text need room l

-- too many lines, too many vehicles, or neither

past_lines : (is : List Item) (room : ℕ) → length is ≤ 200 → refusal Text (list_checks is room) ≡ refusal Text (must (leb (length (vehicles_in is)) 2000) VehicleCount ∷ line_checks is room)
past_lines is room l =
    met Text (must (leb (length is) 200) ConsistCount) (must (leb (length (vehicles_in is)) 2000) VehicleCount ∷ line_checks is room) (let e = le-leb (length is) 200 l in simp e)

pub past_vehicles : (is : List Item) (room : ℕ) → length is ≤ 200 → length (vehicles_in is) ≤ 2000 → refusal Text (list_checks is room) ≡ refusal Text (line_checks is room)
past_vehicles is room l m =
    past_lines is room l ∙ met Text (must (leb (length (vehicles_in is)) 2000) VehicleCount) (line_checks is room) (let e = le-leb (length (vehicles_in is)) 2000 m in simp e)
