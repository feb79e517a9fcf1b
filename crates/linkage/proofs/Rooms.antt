-- What a call with no room says of one with room enough.
use Rattle.std.proofs.Common.{◌≡◌, ℕ, ◌+◌, ◌<◌, Bool, true, false, cond, eqb, leb, ◌⊎◌, List, [], ◌∷◌, ◌++◌, map, length, drop, IfOk, Some, None, Ok, Err, Option, Result, sym, refl, ap, ◌∙◌, inl, inr, arith, lit<}
use Rattle.std.specs.List.{AllByRecursion}
use Rattle.std.proofs.lemmas.Bool.{le-leb, ne_eqb}
use Rattle.train.specs.declared.refusal.Part.{Part}
use Rattle.train.specs.declared.refusal.Part.TheVariants.{Text, Book}
use Rattle.train.specs.declared.refusal.Place.TheVariants.{At}
use Rattle.train.specs.declared.refusal.Reason.TheVariants.{BufferShort, ConsistCount, VehicleCount, IdentityOrder, Repeated}
use Rattle.train.specs.declared.refusal.Refusal.{Refusal}
use Rattle.train.specs.Refusals.{Check, must, each, alone, number, or_else, breach, refusal, refusal_of}
use Rattle.fleet.specs.Rows.{apart_checks, size_of}
use Rattle.fleet.specs.Books.{Item, book_of, vehicles_in, book_checks, consist_rows, vehicle_rows, fleet_of}
use Rattle.fleet_list.specs.Lists.{IsLine, list_text}
use Rattle.fleet_list.specs.Readings.{Broken}
use Rattle.fleet_list.specs.Imports.{Imported, Decided, Unmet, room_for, rising, names_apart, identity_in, vehicles_of}
use Rattle.fleet_list.specs.Exports.{Exported}
use Rattle.linkage.specs.Told.{status_of, unlined, freed, unless, bare}
use Rattle.linkage.specs.Listings.{lines_checked, book_checked}

never : {A : Type 0} {X : Type 0} (x : A) → None ≡ Some x → X
never x e = let z : ◌≡◌ {A = ℕ} 0 1 = cc in absurd (omega arith)

-- a check that is not of the room
abbrev Roomless : Check → Type 0
Roomless c = number c.reason < 24

-- a refusal that is not for want of room stays
kept : (f : Refusal) → number f.reason < 24 → freed (Err f) ≡ Err f
kept f h = let e : eqb (number f.reason) 24 ≡ false = ne_eqb _ _ (λ e. omega arith) in rw e

-- with just the room that is needed, the last check is met
pub enough : (part : Part) (cs : List Check) (n : ℕ) → refusal part (cs ++ room_for n n ∷ []) ≡ refusal part cs
enough part [] n = let e = le-leb n n (omega arith) in simp e
enough part (c ∷ cs) n = ap (or_else (breach part c)) (enough part cs n)

-- the check of the room alone, where there is none
last : (part : Part) (n : ℕ) (r : Result ℕ Refusal) (b : Bool) → refusal_of r ≡ or_else (cond b None (Some (record { part = part; reason = BufferShort; place = At n }))) None
    → IfOk r (λ k. k ≡ n) → freed r ≡ Ok n
last part n (Ok k) b e m = ap Ok m
last part n (Err f) true e m = never f (sym e)
last part n (Err f) false e m = let g : f ≡ record { part = part; reason = BufferShort; place = At n } = cc in ap (λ z. freed (Err z)) g

step : (part : Part) (c : Check) (rest found : Option Refusal) (n : ℕ) (r : Result ℕ Refusal) (b : Bool) → c.ok ≡ b → Roomless c
    → refusal_of r ≡ or_else (breach part c) rest → (refusal_of r ≡ rest → freed r ≡ unless found n) → freed r ≡ unless (or_else (breach part c) found) n
step part c rest found n r true t h e f = rw t (f (rw t at e))
step part c rest found n (Ok k) false t h e f = never _ (rw t at e)
step part c rest found n (Err x) false t h e f =
    let g : Some x ≡ Some (record { part = part; reason = c.reason; place = c.place }) = rw t at e in
    let q : x ≡ record { part = part; reason = c.reason; place = c.place } = cc in
    rw t (ap (λ z. freed (Err z)) q ∙ kept (record { part = part; reason = c.reason; place = c.place }) h)

-- checks that are not of the room, and then the room, where there is none
pub freed_is : (part : Part) (cs : List Check) (n : ℕ) (r : Result ℕ Refusal) → AllByRecursion Roomless cs → refusal_of r ≡ refusal part (cs ++ room_for n 0 ∷ []) → IfOk r (λ k. k ≡ n)
    → freed r ≡ unless (refusal part cs) n
freed_is part [] n r a e m = last part n r (leb n 0) e m
freed_is part (c ∷ cs) n r a e m = step part c (refusal part (cs ++ room_for n 0 ∷ [])) (refusal part cs) n r c.ok refl a.0 e (λ k. freed_is part cs n r a.1 k m)

-- the checks of a list, but for the room
abbrev listed : List Item → List Check
listed is =
    must (leb (length is) 200) ConsistCount
    ∷ must (leb (length (vehicles_in is)) 2000) VehicleCount
    ∷ each rising IdentityOrder (map identity_in is)
    ∷ each (alone names_apart) Repeated (map vehicles_of is)
    ∷ []

-- no list's book has no bytes
unfit : (t after : List ℕ) (r : Result ℕ Refusal) (n : ℕ) → Imported t [] after r → IfOk r (λ k. k ≡ n)
unfit t after (Ok k) n h = absurd (omega (arith, h.wrote.long, h.wrote.fits))
unfit t after (Err f) n h = tt

pub list_either : (t after : List ℕ) (r : Result ℕ Refusal) → Imported t [] after r → ((f : Refusal) × Broken t f) ⊎ ((is : List Item) × AllByRecursion IsLine is × (t ≡ list_text is))
list_either t after (Ok n) h = inr (h.items, h.lines, h.is)
list_either t after (Err f) h = by h.1
  where
    by : Broken t f ⊎ Unmet t 0 f → ((g : Refusal) × Broken t g) ⊎ ((is : List Item) × AllByRecursion IsLine is × (t ≡ list_text is))
    by (inl b) = inl (f, b)
    by (inr u) = inr (u.items, u.lines, u.is)

pub list_breaks : (t : List ℕ) (r : Result ℕ Refusal) → Decided t [] r → (f : Refusal) → Broken t f → freed r ≡ Err f
list_breaks t (Ok n) d f b = never f (d.breaks f b)
list_breaks t (Err g) d f b =
    let e = d.breaks f b in
    let q : g ≡ f = cc in
    ap (λ z. freed (Err z)) q ∙ kept f (rw b.is (lit< tt))

pub list_lists : (t after : List ℕ) (r : Result ℕ Refusal) → Imported t [] after r → Decided t [] r → (is : List Item) → AllByRecursion IsLine is → t ≡ list_text is → freed r ≡ lines_checked is
list_lists t after r h d is l e =
    freed_is Text (listed is) (length (book_of is)) r (lit< tt, (lit< tt, (lit< tt, (lit< tt, tt)))) (d.lists is l e) (unfit t after r (length (book_of is)) h)
    ∙ ap (λ o. unless o (length (book_of is))) (sym (enough Text (listed is) (length (book_of is))))

-- the checks of a book are none of the room
aparts : (from : ℕ) (consists vehicles : List (List ℕ)) → AllByRecursion Roomless (apart_checks from consists vehicles)
aparts from [] vehicles = tt
aparts from (row ∷ rest) vehicles = (lit< tt, aparts (from + size_of row) rest (drop (size_of row) vehicles))

opened : (book : List ℕ) → AllByRecursion Roomless (book_checks book)
opened book =
    (lit< tt, (lit< tt, (lit< tt, (lit< tt, (lit< tt, (lit< tt, (lit< tt, (lit< tt, (lit< tt, aparts 0 (consist_rows book) (vehicle_rows book))))))))))

-- the length of what was exported, without its lines
pub book_freed : (book after : List ℕ) (r : Result (ℕ × ℕ) Refusal) (q : Result ℕ Refusal) → Exported book [] after r → q ≡ bare r → freed q ≡ book_checked book
book_freed book after (Ok n) q h e =
    ap freed e ∙ freed_is Book (book_checks book) (length (list_text (fleet_of book))) (Ok n.0) (opened book) (sym h.0) (sym h.2.wrote.long)
book_freed book after (Err f) q h e =
    ap freed e ∙ freed_is Book (book_checks book) (length (list_text (fleet_of book))) (Err f) (opened book) (sym h.0) tt

pub unlined_told : (r : Result ℕ Refusal) → status_of (refusal_of r) ≡ status_of (refusal_of (unlined r))
unlined_told (Ok n) = refl
unlined_told (Err f) = refl
