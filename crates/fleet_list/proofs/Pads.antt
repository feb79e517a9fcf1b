-- Names with zeros behind them: a name of sixteen bytes is written as its text is.
use Rattle.std.proofs.Common.{◌≡◌, ℕ, zero, suc, ◌+◌, ◌-◌, ◌≤◌, cond, List, [], ◌∷◌, ◌++◌, length, take, drop, replicate, sym, refl, ap, ◌∙◌, append_assoc, arith, ne_eqb, length-take-le, take-append-drop}
use Rattle.std.specs.List.{flat_map, AllByRecursion}
use Rattle.std.proofs.lemmas.List.{replicate_more}
use Rattle.train.specs.Names.{IsName, text_of, padded}
use Rattle.fleet_list.specs.Texts.{escaped, quoted}
use Rattle.fleet_list.specs.Forms.{Front}
use Rattle.fleet_list.specs.Parts.{Letter, name_text}
use Rattle.fleet_list.proofs.Letters.{Good, front_name}
use Rattle.fleet_list.proofs.Seq.{First}

text_padded : (n : List ℕ) (k : ℕ) → AllByRecursion Letter n → text_of (n ++ replicate k 0) ≡ n
text_padded [] zero h = refl
text_padded [] (suc k) h = refl
text_padded (b ∷ n) k h = ap (λ z. cond z [] (b ∷ text_of (n ++ replicate k 0))) (ne_eqb b 0 (λ e. omega (arith, h.0.0))) ∙ ap (λ z. b ∷ z) (text_padded n k h.1)

-- the text of a name
pub text_is : (bs : List ℕ) (g : IsName bs) → text_of bs ≡ g.text
text_is bs g = ap text_of g.whole ∙ text_padded g.text (16 - length g.text) g.printed

abbrev pub named : (n : List ℕ) → Good n → IsName (padded n)
named n g = record { text = n; some = omega (arith, g.0.0); few = g.0.1; printed = g.1; whole = refl }

pub texted : (bs : List ℕ) (g : IsName bs) → Good g.text
texted bs g = ((omega (arith, g.some), g.few), g.printed)

pub pad_good : (n : List ℕ) → Good n → IsName (padded n) × (name_text (padded n) ≡ quoted n)
pad_good n g = (named n g, ap quoted (text_is (padded n) (named n g)))

pub pad : (n : List ℕ) → Good n → (bs : List ℕ) × IsName bs × (name_text bs ≡ quoted n)
pad n g = let p = pad_good n g in (padded n, p.0, p.1)

pub cut : (bs : List ℕ) → IsName bs → (n : List ℕ) × Good n × (name_text bs ≡ quoted n)
cut bs g = (g.text, texted bs g, ap quoted (text_is bs g))

pub first_quote : First IsName name_text (λ x. x ≡ 34)
first_quote v g = (34, flat_map escaped (text_of v) ++ 34 ∷ [], refl, refl)

-- sixteen bytes that are these and zeros behind them
pub pads : (letters : List ℕ) (i : ℕ) → length letters ≡ 15 → i ≤ 15 → drop i letters ≡ replicate (15 - i) 0 → letters ++ 0 ∷ [] ≡ padded (take i letters)
pads letters i l h z =
    let k : length (take i letters) ≡ i = length-take-le i letters (omega arith) in
    ap (λ x. x ++ 0 ∷ []) (sym (take-append-drop i letters) ∙ ap (λ x. take i letters ++ x) z) ∙ append_assoc (take i letters) (replicate (15 - i) 0) (0 ∷ [])
    ∙ ap (λ x. take i letters ++ x) (replicate_more (15 - i) 0 ∙ ap (λ (n : ℕ). replicate n 0) (let q : 15 - i + 1 ≡ 16 - length (take i letters) = omega arith in q))

pub front_named : Front IsName name_text
front_named v v' w w' g g' e =
    let p = front_name g.text g'.text w w' (texted v g) (texted v' g') (sym (ap (λ z. quoted z ++ w) (text_is v g)) ∙ e ∙ ap (λ z. quoted z ++ w') (text_is v' g')) in
    (g.whole ∙ ap padded p.0 ∙ sym g'.whole, p.1)
