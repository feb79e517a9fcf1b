-- The worked examples.
use Rattle.std.proofs.Common.{◌≡◌, ℕ, ◌+◌, ◌<◌, List, [], ◌∷◌, ◌++◌, length, sym, refl, ap, ◌∙◌, subst, arith}
use Rattle.std.proofs.lemmas.Fmt.{decimal_digit}
use Rattle.train.specs.declared.facing.Facing.TheVariants.{Direct}
use Rattle.train.specs.Names.{IsName}
use Rattle.fleet.specs.Books.{fleet_of}
use Rattle.fleet.specs.Whole.{written}
use Rattle.fleet_list.specs.Counters.{Counter, counter_text}
use Rattle.fleet_list.specs.Forms.{Both, joint, Breaks}
use Rattle.fleet_list.specs.Laws.{OneToOne, Examples, wrong_name}
use Rattle.fleet_list.specs.Parts.{Letter, name_text, Known, GoodCar, car, Few, others, Bytes, bytes_text}
use Rattle.fleet_list.specs.Texts.{escaped, sign}
use Rattle.fleet_list.proofs.Back.{apart, broken_once, broken_no_list}
use Rattle.fleet_list.proofs.Digits.{front_counter}
use Rattle.fleet_list.proofs.Four.{GoodParts, parts_text, line_breaks}
use Rattle.fleet_list.proofs.Hex.{front_identity}
use Rattle.fleet_list.proofs.Letters.{Good, Sized, Hidden, only, show, hide, first_hidden, front_letter, apart_letter}
use Rattle.fleet_list.proofs.Pads.{pad, cut}
use Rattle.fleet_list.proofs.Seq.{in_first, behind, byte_front, wrong_first}
use Rattle.fleet_list.proofs.Series.{ended, item_breaks, past}

pub one_to_one : OneToOne
one_to_one = record {
  list = apart;
  book = λ is js f g e. sym (written is f).1 ∙ ap fleet_of e ∙ (written js g).1;
  place = broken_once;
  apart = broken_no_list;
}

-- "B\n"+ and the end of the line
abbrev tail : List ℕ
tail = 34 ∷ 66 ∷ 92 ∷ 110 ∷ 34 ∷ 43 ∷ 10 ∷ []

-- the letter behind B breaks at its second byte, and the name at its fourth
text_breaks : Breaks IsName name_text tail 3
text_breaks =
    let u : List ℕ = 92 ∷ 110 ∷ 34 ∷ 43 ∷ 10 ∷ [] in
    let l : Breaks Letter escaped u 1 = byte_front Hidden only Letter escaped 92 (110 ∷ 34 ∷ 43 ∷ 10 ∷ []) 0 show hide
    (wrong_first Hidden only Hidden 110 (34 ∷ 43 ∷ 10 ∷ []) 34 ((omega arith, omega arith), refl) first_hidden (λ h. let z : ◌≡◌ {A = ℕ} 110 92 = cc (h.1) in omega arith)) in
    let n : Breaks Good (ended Letter escaped 34) (66 ∷ u) 2 = past Letter escaped 34 front_letter apart_letter (66 ∷ []) ((omega arith, omega arith), tt) Sized u 1
    (item_breaks Letter escaped 34 (λ k. Sized (1 + k)) u 1 [] (omega arith, omega arith) tt (λ y h q. let z : ◌≡◌ {A = ℕ} 92 34 = cc q in omega arith) l) in
    byte_front Good (ended Letter escaped 34) IsName name_text 34 (66 ∷ u) 2 pad (λ w x y h _. cut w h) n

first_identity : List ℕ
first_identity = 0 ∷ 0 ∷ 0 ∷ 0 ∷ 0 ∷ 0 ∷ 0 ∷ 0 ∷ 0 ∷ 0 ∷ 0 ∷ 0 ∷ 0 ∷ 0 ∷ 0 ∷ 1 ∷ []

-- behind an identity and a counter
parts_break : Breaks GoodParts parts_text wrong_name 38
unfolding first_identity
parts_break =
    let o : 0 < 256 = omega arith in
    let l : 1 < 256 = omega arith in
    let g : Bytes 16 first_identity = (refl, (o, (o, (o, (o, (o, (o, (o, (o, (o, (o, (o, (o, (o, (o, (o, (l, tt))))))))))))))))) in
    let t = in_first GoodCar car (Few 31) others tail 3 [] (omega arith, tt) (in_first IsName name_text Known sign tail 3 Direct refl text_breaks) in
    let n = behind Counter counter_text (Both GoodCar (Few 31)) (joint car others) tail 3 7 front_counter (omega arith, omega arith) t in
    let d : counter_text 7 ≡ 55 ∷ 32 ∷ [] = ap (λ z. z ++ 32 ∷ []) (decimal_digit 7 (omega arith)) in
    let n' = subst (λ z. Breaks (Both Counter (Both GoodCar (Few 31))) (joint counter_text (joint car others)) (z ++ tail) (length z + 3)) d n in
    behind (Bytes 16) bytes_text (Both Counter (Both GoodCar (Few 31))) (joint counter_text (joint car others)) (55 ∷ 32 ∷ tail) 5 first_identity (front_identity 16) g n'

pub examples : Examples
examples = record {
  quotes = refl;
  breaks = record { whole = []; good = tt; rest = wrong_name; k = 38; here = refl; some = omega arith; breaks = line_breaks wrong_name 38 parts_break; is = refl };
}
