-- What the checks of a coupled fleet say of its composition, and the answer of the whole call.
use Rattle.std.proofs.Common.{◌≡◌, ℕ, ◌≤◌, true, ◌⊎◌, List, [], ◌∷◌, length, get_or, take, drop, Some, None, Ok, Err, Option, Result, sym, ap, ◌∙◌, subst, inl, inr, arith, IfOk, IfErr}
use Rattle.std.specs.List.{AllByRecursion}
use Rattle.std.proofs.lemmas.List.{take_at}
use Rattle.std.proofs.lemmas.Bool.{leb-true}
use Rattle.train.specs.declared.entries.Vehicle.{Vehicle}
use Rattle.train.specs.declared.refusal.Part.TheVariants.{Text, Composing}
use Rattle.train.specs.declared.refusal.Refusal.{Refusal}
use Rattle.train.specs.Refusals.{Check, or_else, refusal, refusal_of}
use Rattle.train.proofs.Names.{every_decides}
use Rattle.train.proofs.Rules.{all_met}
use Rattle.fleet.specs.Fleets.{Meaning}
use Rattle.fleet.specs.Books.{Item, IsFleet, IsBook, meaning_of, vehicles_in, book_of}
use Rattle.fleet.specs.Means.{meant_lawful}
use Rattle.fleet_list.specs.Imports.{Carried, Unmet, Decided as ImportDecided, list_checks}
use Rattle.fleet_list.specs.Lists.{IsLine, list_text}
use Rattle.fleet_list.specs.Readings.{Broken}
use Rattle.fleet_list.proofs.Back.{apart}
use Rattle.bench.specs.Calls.{Call}
use Rattle.bench.specs.Facts.{Facts, nothing}
use Rattle.bench.proofs.Acts.{taken_does}
use Rattle.directory.specs.Composing.{checks}
use Rattle.directory.specs.Operation.{operational}
use Rattle.directory.specs.Part.{vehicles, Sections}
use Rattle.directory.specs.Sections.{composition}
use Rattle.directory.specs.Written.{Written}
use Rattle.directory.proofs.Kept.{Kept, run_keeps}
use Rattle.directory.proofs.Cut.{sections_told}
use Rattle.directory.proofs.Fine.{fine}
use Rattle.coach_order.specs.Orders.{formation_of, facts_of, inaugurated, composed, uncoupled}
use Rattle.coach_order.specs.Ordered.{Lists, IsOrder, Refused, Decided}
use Rattle.coach_order.specs.Plain.{plainly}
use Rattle.coach_order.specs.Reads.{vehicles_read}
use Rattle.coach_order.proofs.Composed.{head_first, order_told}
use Rattle.coach_order.proofs.Plainly.{plain_told, import_plainly}
use Rattle.coach_order.proofs.Written.{read_back, count_told}

-- what was written, as the code lends it
lent : {A : Type 0} {a xs out : List A} {n : ℕ} → Written a xs n out → take n out ≡ a
lent {A} {a} {xs} {out} {n} w = ap (take n) w.wrote ∙ take_at a (drop n xs) n w.long

-- the formation that was accepted is what stands
pub stands : (is : List Item) → None ≡ inaugurated is → Kept (facts_of is)
stands is h =
    let k : Call = Call.inaugurate 1 (formation_of is) in
    subst Kept (sym (taken_does nothing k h)) (run_keeps (k ∷ []))

few : (is : List Item) → None ≡ composed is → length (operational (facts_of is) (meaning_of is)) ≤ 63
few is e =
    let cs : List Check = checks (facts_of is) (meaning_of is) 4303 in
    let ok : AllByRecursion (λ c. c.ok ≡ true) cs = (every_decides (λ c. c.ok) (λ c. c.ok ≡ true) (λ c. (λ z. z, λ z. z)) cs).0 (all_met Composing cs e) in
    let l = ap length (head_first is) in
    let b = leb-true _ 63 ok.1.1.0 in
    omega arith

-- the operational vehicles can be read from a composition of the fleet
pub record Ready (is : List Item) (text : List ℕ) : Type 0 where
  pub sections : Sections text
  pub count : get_or (vehicles text) 0 0 ≤ 63
  pub read : vehicles_read text ≡ vehicles_in is

ready : (is : List Item) → IsFleet is → None ≡ inaugurated is → None ≡ composed is → Ready is (composition (facts_of is) (meaning_of is))
ready is fleet a b =
    let f : Facts = facts_of is in
    let m : Meaning = meaning_of is in
    let k = stands is a in
    let w = fine (facts_of is) (meaning_of is) 4303 k (λ x. meant_lawful is x fleet.each) (sym b) in
    let n = count_told f m k.sixteen w.consists w.named in
    let l = few is b in
    record {
      sections = sections_told f m k.sixteen w.consists w.named;
      count = omega arith;
      read = read_back f m k.sixteen w.consists w.named ∙ order_told is fleet.rising;
    }

-- what compose answers over the facts of a coupled fleet, and what it writes
module _ (is : List Item) {f : Facts} (a : None ≡ inaugurated is) (e : f ≡ facts_of is) where
  here : refusal Composing (checks f (meaning_of is) 4303) ≡ composed is
  here = ap (λ (g : Facts). refusal Composing (checks g (meaning_of is) 4303)) e

  pub then_composed : {o : Option Refusal} → o ≡ refusal Composing (checks f (meaning_of is) 4303) → o ≡ uncoupled is
  then_composed b = b ∙ here ∙ ap (λ (x : Option Refusal). or_else x (composed is)) a

  pub then_ready : {xs out : List ℕ} {n : ℕ} → IsFleet is → None ≡ refusal Composing (checks f (meaning_of is) 4303) → Written (composition f (meaning_of is)) xs n out → Ready is (take n out)
  then_ready {xs} {out} {n} fleet b w =
      subst (Ready is) (sym (lent w ∙ ap (λ (g : Facts). composition g (meaning_of is)) e)) (ready is fleet a (b ∙ here))

-- the book of the list, as the code lends it
pub book_lent : {t before after : List ℕ} {n : ℕ} (c : Carried t before n after) → IsBook (take n after) c.items
book_lent {t} {before} {after} {n} c =
    let w = c.wrote in
    record { fleet = c.fleet; written = sym (ap (take n) w.wrote ∙ take_at (book_of c.items) (drop n before) n w.long) }

pub list_of : {t before after : List ℕ} {n : ℕ} (c : Carried t before n after) → Lists t c.items
list_of c = record { lines = c.lines; fleet = c.fleet; text = c.is }

-- the answer where import accepts the text
module _ {A : Type 0} (order : A → List Vehicle) (t : List ℕ) (is held : List Item) (l : Lists t is) (e : is ≡ held) where
  pub order_if : (r : Result A Refusal) → refusal_of r ≡ uncoupled held → IfOk r (λ a. order a ≡ vehicles_in held) → IfOk r (λ a. IsOrder t (order a))
  order_if (Ok a) q o =
      record {
        items = held;
        list = subst (Lists t) e l;
        coupled = sym q;
        composed = order_told held (subst IsFleet e l.fleet).rising;
        order = o;
      }
  order_if (Err f) q o = tt

  pub refused_if : (r : Result A Refusal) → refusal_of r ≡ uncoupled held → IfErr r (Refused t)
  refused_if (Ok a) q = tt
  refused_if (Err f) q = inr (inr (record { items = held; list = subst (Lists t) e l; refused = sym q }))

pub import_refused : (t : List ℕ) (f : Refusal) → Broken t f ⊎ Unmet t 38206 f → Refused t f
import_refused t f (inl b) = inl b
import_refused t f (inr u) = inr (inl u)

-- what the text is decides the answer, where import refuses it and where it does not
pub decided_first : {A : Type 0} (t before : List ℕ) (f : Refusal) → length before ≡ 38206 → ImportDecided t before (Err f) → Decided {A = A} t (Err f)
decided_first {A} t before f long d =
    let q : (is : List Item) → AllByRecursion IsLine is → t ≡ list_text is → Some f ≡ refusal Text (list_checks is 38206) =
    λ is l e. d.lists is l e ∙ ap (λ (n : ℕ). refusal Text (list_checks is n)) long in
    record {
      breaks = d.breaks;
      lists = λ is l e. ap (λ (o : Option Refusal). or_else o (uncoupled is)) (q is l e);
      plain = λ is l e. ap (λ (o : Option Refusal). or_else o (plainly is)) (q is l e ∙ import_plainly is l);
    }

pub decided_then : {A : Type 0} (t before : List ℕ) (n : ℕ) (items : List Item) (r : Result A Refusal) → length before ≡ 38206 → ImportDecided t before (Ok n) → Lists t items
    → refusal_of r ≡ uncoupled items → Decided t r
decided_then {A} t before n items r long d l a =
    let q : (is : List Item) → AllByRecursion IsLine is → t ≡ list_text is → None ≡ refusal Text (list_checks is 38206) =
    λ is k e. d.lists is k e ∙ ap (λ (j : ℕ). refusal Text (list_checks is j)) long in
    let same : (is : List Item) → AllByRecursion IsLine is → t ≡ list_text is → items ≡ is = λ is k e. apart items is l.lines k (sym l.text ∙ e) in
    record {
      breaks = λ f b. let z : ◌≡◌ {A = ℕ} 0 1 = let w = d.breaks f b in cc in absurd (omega arith);
      lists = λ is k e. a ∙ ap uncoupled (same is k e) ∙ ap (λ (o : Option Refusal). or_else o (uncoupled is)) (q is k e);
      plain = λ is k e. a ∙ plain_told items l.fleet ∙ ap plainly (same is k e) ∙ ap (λ (o : Option Refusal). or_else o (plainly is)) (q is k e ∙ import_plainly is k);
    }

-- the same refusal, of a call that answers something else
pub decided_as : {A B : Type 0} {t : List ℕ} {r : Result A Refusal} (s : Result B Refusal) → refusal_of s ≡ refusal_of r → Decided t r → Decided t s
decided_as s e d = record { breaks = λ f b. e ∙ d.breaks f b; lists = λ is k q. e ∙ d.lists is k q; plain = λ is k q. e ∙ d.plain is k q }
