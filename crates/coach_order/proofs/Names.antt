-- The text of a name that can be printed.
use Rattle.std.proofs.Common.{◌≡◌, ℕ, ◌≤◌, true, List, [], ◌∷◌, Ok, Err, Result, MatchResult, nat_le, refl, ap, ◌∙◌, arith}
use Rattle.std.specs.List.{AllByRecursion}
use Rattle.std.proofs.ByRecursion.{All-append, All-weaker}
use Rattle.std.specs.Result.{IsOk}
use Rattle.std.specs.Str.{IsAscii, IsUtf8, bytes_eq}
use Rattle.std.proofs.lemmas.Bool.{and_parts, leb-true}
use Rattle.std.proofs.lemmas.Str.{IsUtf8-from_ascii}
use Rattle.std.proofs.lemmas.Str.Ascii.{IsAscii-nil, IsAscii-cons}
use Rattle.train.specs.Names.{every, printable, padded, text_of, name_text, well_formed, IsName}
use Rattle.train.specs.declared.entries.Vehicle.{Vehicle}
use Rattle.train.proofs.Names.{every_decides, name_rule}
use Rattle.fleet.specs.Fleets.{IsVehicle}
use Rattle.fleet.specs.Books.{Item, IsItem, vehicles_in}
use Rattle.coach_order.specs.Ordered.{IsOrder}
use Rattle.coach_order.specs.Pages.{named}

IsAscii-from_printable : (bs : List ℕ) → every printable bs ≡ true → IsAscii bs
IsAscii-from_printable [] h = IsAscii-nil
IsAscii-from_printable (b ∷ bs) h =
    let (first, others) = and_parts (printable b) (every printable bs) h in
    let l : b ≤ 126 = leb-true b 126 (and_parts (nat_le 32 b) (nat_le b 126) first).1 in
    IsAscii-cons b bs (omega arith) (IsAscii-from_printable bs others)

pub IsUtf8-from_name : (bs : List ℕ) → well_formed bs ≡ true → IsUtf8 (text_of bs)
IsUtf8-from_name bs h =
    let text = (and_parts (name_text (text_of bs)) (bytes_eq bs (padded (text_of bs))) h).0 in
    IsUtf8-from_ascii (text_of bs) (IsAscii-from_printable (text_of bs) (and_parts _ (every printable (text_of bs)) text).1)

-- a call that fails at no text
pub ok_at_text : {T E : Type 0} {bs : List ℕ} (P : T → Type 0) (Q : E → Type 0) → IsUtf8 bs → (r : Result T E) → MatchResult r P (λ e. ¬ (IsUtf8 bs) × Q e) → IsOk r
ok_at_text P Q u (Ok x) h = refl
ok_at_text P Q u (Err e) h = absurd (h.0 u)

-- the vehicles of an order have names that can be printed
vehicles_named : (is : List Item) → AllByRecursion IsItem is → AllByRecursion (λ v. IsName v.name.bytes) (vehicles_in is)
vehicles_named [] h = tt
vehicles_named (i ∷ is) h =
    All-append (λ v. IsName v.name.bytes) i.consist.vehicles (vehicles_in is) (All-weaker IsVehicle (λ v. IsName v.name.bytes) (λ v k. k.named) i.consist.vehicles h.0.consist.each) (vehicles_named is h.1)

pub order_named : {t : List ℕ} (vs : List Vehicle) → IsOrder t vs → every named vs ≡ true
order_named vs o =
    ap (every named) o.order ∙ (every_decides named (λ v. IsName v.name.bytes) (λ v. name_rule v.name.bytes) (vehicles_in o.items)).1 (vehicles_named o.items o.list.fleet.each)
