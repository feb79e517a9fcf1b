-- What the round trips answer.
use Rattle.std.proofs.Common.{◌≡◌, ℕ, ◌<◌, Bool, true, false, cond, leb, List, [], ◌∷◌, ◌++◌, map, length, take, drop, Some, None, Ok, Err, sym, refl, ap, ◌∙◌, subst, inr, arith}
use Rattle.std.specs.List.{AllByRecursion}
use Rattle.std.proofs.lemmas.List.{take_at}
use Rattle.std.proofs.lemmas.Bool.{leb-false}
use Rattle.train.specs.declared.refusal.Part.{Part}
use Rattle.train.specs.declared.refusal.Part.TheVariants.{Text, Book}
use Rattle.train.specs.declared.refusal.Place.TheVariants.{At}
use Rattle.train.specs.declared.refusal.Reason.TheVariants.{BufferShort}
use Rattle.train.specs.declared.refusal.Refusal.{Refusal}
use Rattle.train.specs.Refusals.{refusal, or_else}
use Rattle.fleet.specs.Books.{Item, IsItem, IsFleet, IsBook, fleet_of, book_of, book_checks, flat, item_row, vehicle_row, vehicles_in, two, four}
use Rattle.fleet.specs.Whole.{written}
use Rattle.fleet_list.specs.Exports.{Exported, Listing}
use Rattle.fleet_list.specs.Imports.{Decided, Carried, room_for}
use Rattle.fleet_list.specs.Lists.{IsLine, list_text}
use Rattle.fleet_list.specs.Trips.{TooShort, ListTrip, BookTrip}
use Rattle.fleet_list.specs.Writes.{Written}
use Rattle.fleet_list.proofs.Back.{apart}
use Rattle.fleet_list.proofs.Behind.{same_text}
use Rattle.fleet_list.proofs.Lawful.{only_room}
use Rattle.fleet_list.proofs.Shows.{behind_met}

-- the bytes that are written, read from the front
pub front : (a xs : List ℕ) (n k : ℕ) (out : List ℕ) → Written a xs n out → k ≡ n → take k out ≡ a
front a xs n k out w e = ap (λ i. take i out) e ∙ ap (take n) w.wrote ∙ take_at a (drop n xs) n w.long

-- the room is all that is refused
short_by : (part : Part) (need room : ℕ) (f : Refusal) (b : Bool) → leb need room ≡ b → or_else (cond b None (Some (record { part = part; reason = BufferShort; place = At need }))) None ≡ Some f
    → (room < need) × (f ≡ record { part = part; reason = BufferShort; place = At need })
short_by part need room f true e h = let z : ◌≡◌ {A = ℕ} 0 1 = cc in absurd (omega arith)
short_by part need room f false e h = (leb-false need room e, cc)

short : (part : Part) (need room : ℕ) (f : Refusal) → refusal part (room_for need room ∷ []) ≡ Some f → (room < need) × (f ≡ record { part = part; reason = BufferShort; place = At need })
short part need room f h = short_by part need room f (leb need room) refl h

too_short : (part : Part) (bytes : List ℕ) (room : List ℕ) (need : ℕ) (f : Refusal) → need ≡ length bytes → refusal part (room_for need (length room) ∷ []) ≡ Some f → TooShort part bytes room f
too_short part bytes room need f e h = short part (length bytes) (length room) f (ap (λ n. refusal part (room_for n (length room) ∷ [])) (sym e) ∙ h)

-- a list, its book and back

module _ (text book book' back back' : List ℕ) (n k : ℕ) (e : k ≡ n) (g : Carried text book n book') where
  is_book : take k book' ≡ book_of g.items
  is_book = front (book_of g.items) book n k book' g.wrote e

  same_fleet : fleet_of (take k book') ≡ g.items
  same_fleet = ap fleet_of is_book ∙ (written g.items g.fleet).1

  same_list : list_text (fleet_of (take k book')) ≡ text
  same_list = ap list_text same_fleet ∙ sym g.is

  accepted : None ≡ refusal Book (book_checks (take k book'))
  accepted = sym (ap (λ z. refusal Book (book_checks z)) is_book ∙ (written g.items g.fleet).0)

  pub list_back : (r : ℕ × ℕ) → Exported (take k book') back back' (Ok r) → ListTrip text book book' back back' (Ok (n, r.0))
  list_back r x = (g, same_text same_list x.2.wrote)

  pub list_short : (f : Refusal) → Exported (take k book') back back' (Err f) → ListTrip text book book' back back' (Err f)
  list_short f x = (x.1, inr (n, g, too_short Book text back (length (list_text (fleet_of (take k book')))) f (ap length same_list) (sym (behind_met (take k book') (length back) accepted) ∙ x.0)))

-- a book, its list and back

all_left : {A : Type 0} (P : A → Type 0) (xs ys : List A) → AllByRecursion P (xs ++ ys) → AllByRecursion P xs
all_left P [] ys h = tt
all_left P (x ∷ xs) ys h = (h.0, all_left P xs ys h.1)

all_right : {A : Type 0} (P : A → Type 0) (xs ys : List A) → AllByRecursion P (xs ++ ys) → AllByRecursion P ys
all_right P [] ys h = h
all_right P (x ∷ xs) ys h = all_right P xs ys h.1

abbrev Small : ℕ → Type 0
Small b = b < 256

lines_by : (is : List Item) → AllByRecursion IsItem is → AllByRecursion Small (flat (map item_row is)) → AllByRecursion IsLine is
lines_by [] g h = tt
lines_by (i ∷ is) g h =
    let a = all_left Small (item_row i) (flat (map item_row is)) h in
    let c = g.0.consist in (
      record {
        whole = g.0.whole;
        bytes = all_left Small i.identity.bytes (four i.consist.counter ++ (length i.consist.vehicles ∷ [])) a;
        counted = c.counted;
        fits = c.fits;
        some = c.some;
        few = c.few;
        each = c.each;
      },
      lines_by is g.1 (all_right Small (item_row i) (flat (map item_row is)) h),
    )

lines : (is : List Item) → IsFleet is → AllByRecursion Small (book_of is) → AllByRecursion IsLine is
lines is f h = lines_by is f.each (all_left Small (flat (map item_row is)) (two (length (vehicles_in is)) ++ flat (map vehicle_row (vehicles_in is))) h.1.1.1.1)

module _ (book text text' back back' : List ℕ) (bytes : AllByRecursion Small book) (n : ℕ × ℕ) (k : ℕ) (e : k ≡ n.0) (b : IsBook book (fleet_of book)) (g : Listing (fleet_of book) text n text') where
  good : AllByRecursion IsLine (fleet_of book)
  good = lines (fleet_of book) b.fleet (subst (AllByRecursion Small) (sym b.written) bytes)

  is_list : take k text' ≡ list_text (fleet_of book)
  is_list = front (list_text (fleet_of book)) text n.0 k text' g.wrote e

  pub book_back : (m : ℕ) → Carried (take k text') back m back' → BookTrip book text text' back back' (Ok (n.0, m))
  book_back m c =
      let same = apart c.items (fleet_of book) c.lines good (sym c.is ∙ is_list) in
      (b, (n.1, g), same_text (ap book_of same ∙ b.written) c.wrote)

  pub book_short : (f : Refusal) → back' ≡ back → Decided (take k text') back (Err f) → BookTrip book text text' back back' (Err f)
  book_short f same d = (
    same,
    inr (
      (n, g),
      too_short Text book back (length (book_of (fleet_of book))) f (ap length b.written)
          (sym (only_room (fleet_of book) (length back) b.fleet) ∙ sym (d.lists (fleet_of book) good is_list)),
    ),
  )
