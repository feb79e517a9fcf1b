-- A page, put together from its parts.
use Rattle.std.proofs.Common.{◌≡◌, ℕ, ◌+◌, ◌/◌, ◌%◌, ◌<◌, ◌≤◌, List, [], ◌∷◌, ◌++◌, length, take, get_or, codes, decimal, Ok, Err, Option, sym, refl, ap, ap₂, ◌∙◌, append_assoc, arith}
use Rattle.train.specs.declared.entries.Vehicle.{Vehicle}
use Rattle.train.specs.declared.facing.Facing.{Facing}
use Rattle.train.specs.declared.facing.Facing.TheVariants.{NotKnown, Direct, Inverse}
use Rattle.train.specs.declared.refusal.Refusal.{Refusal}
use Rattle.train.specs.Names.{text_of}
use Rattle.train.specs.Words.{facing_text}
use Rattle.fleet.specs.Books.{Item, vehicles_in}
use Rattle.fleet_list.proofs.Back.{apart}
use Rattle.directory.specs.Sections.{rows}
use Rattle.directory.proofs.Sections.{rows_more}
use Rattle.coach_order.specs.Ordered.{IsOrder, Refused, Decided}
use Rattle.coach_order.specs.Pages.{line_start, line_text, vehicle_line, order_text, refusal_text, answer_text, Page, Printed}

-- one line more behind a count and the lines before it
pub line_more : (vs : List Vehicle) (i : ℕ) (d : Vehicle) (name : List ℕ) → i < length vs → name ≡ text_of (get_or vs i d).name.bytes
    → (codes "vehicles " ++ (decimal (length vs) ++ 10 ∷ rows vehicle_line 1 (take i vs))) ++ line_text (i + 1) (get_or vs i d).facing name
    ≡ codes "vehicles " ++ (decimal (length vs) ++ 10 ∷ rows vehicle_line 1 (take (i + 1) vs))
line_more vs i d name h e =
    append_assoc (codes "vehicles ") (decimal (length vs) ++ 10 ∷ rows vehicle_line 1 (take i vs)) _
    ∙ ap (λ x. codes "vehicles " ++ x) (append_assoc (decimal (length vs)) (10 ∷ rows vehicle_line 1 (take i vs)) _)
    ∙ ap (λ x. codes "vehicles " ++ (decimal (length vs) ++ 10 ∷ x))
    (ap (λ t. rows vehicle_line 1 (take i vs) ++ line_text (i + 1) (get_or vs i d).facing t) e ∙ rows_more vehicle_line vs i (get_or vs i d) d refl h)

-- the beginning of a line, the name and the line's end
pub line_told : (p : List ℕ) (n : ℕ) (f : Facing) (name : List ℕ) (start l m all name' : List ℕ) → start ≡ line_start n f → l ≡ p ++ start → m ≡ l ++ name' → name' ≡ name → all ≡ m ++ (10 ∷ []) → all ≡ p ++ line_text n f name
line_told p n f name start l m all name' s e g h i =
    i ∙ ap (λ (x : List ℕ). x ++ (10 ∷ [])) (g ∙ ap₂ (λ (x y : List ℕ). x ++ y) (e ∙ ap (λ (x : List ℕ). p ++ x) s) h)
    ∙ append_assoc (p ++ line_start n f) name (10 ∷ []) ∙ append_assoc p (line_start n f) (name ++ 10 ∷ [])
    ∙ ap (λ (x : List ℕ). p ++ x) (begun f name)
  where
    begun : (g : Facing) (xs : List ℕ) → line_start n g ++ (xs ++ 10 ∷ []) ≡ line_text n g xs
    begun NotKnown xs = refl
    begun Direct xs = refl
    begun Inverse xs = refl

-- two digits are those of the number below 100
pub start_below : (n : ℕ) (f : Facing) → line_start (n % 100) f ≡ line_start n f
start_below n f =
    let tens : n % 100 / 10 % 10 ≡ n / 10 % 10 = omega arith in
    let ones : n % 100 % 10 ≡ n % 10 = omega arith in
    ap₂ (λ (a b : ℕ). (48 + a) ∷ (48 + b) ∷ (32 ∷ (facing_text f ++ (32 ∷ [])))) tens ones

-- one line more behind a count and the lines before it
pub lines_more : (word digits rows line more : List ℕ) (l m : List ℕ) → l ≡ word ++ (digits ++ 10 ∷ rows) → m ≡ l ++ line → rows ++ line ≡ more → m ≡ word ++ (digits ++ 10 ∷ more)
lines_more word digits rows line more l m e f g =
    f ∙ ap (λ (x : List ℕ). x ++ line) e ∙ append_assoc word (digits ++ 10 ∷ rows) line
    ∙ ap (λ (x : List ℕ). word ++ x) (append_assoc digits (10 ∷ rows) line)
    ∙ ap (λ (x : List ℕ). word ++ (digits ++ 10 ∷ x)) g

-- the page of an answer is the text of its order, or of its refusal
pub order_page : {A : Type 0} {t page : List ℕ} {a : A} {vs : List Vehicle} → length t ≤ 65535 → IsOrder t vs → Decided t (Ok a) → page ≡ order_text vs → Page t page × Printed t page
order_page {A} {t} {page} {a} {vs} le o d p =
    let e = p ∙ ap order_text o.order in (
      Page.order le o.items o.list o.coupled e,
      record {
        long = λ h. absurd (omega arith);
        breaks = λ _ f b. let z : ◌≡◌ {A = ℕ} 0 1 = let w = d.breaks f b in cc in absurd (omega arith);
        lists = λ _ js k q.
            e ∙ ap (λ (xs : List Item). order_text (vehicles_in xs)) (apart o.items js o.list.lines k (sym o.list.text ∙ q))
            ∙ ap (λ (r : Option Refusal). answer_text r (vehicles_in js)) (d.plain js k q);
      },
    )

pub refusal_page : {A : Type 0} {t page : List ℕ} {f : Refusal} → length t ≤ 65535 → Refused t f → Decided {A = A} t (Err f) → page ≡ refusal_text f → Page t page × Printed t page
refusal_page {A} {t} {page} {f} le r d p = (
  Page.refused le f r p,
  record {
    long = λ h. absurd (omega arith);
    breaks = λ _ g b. p ∙ ap (λ (o : Option Refusal). answer_text o []) (d.breaks g b);
    lists = λ _ js k e. p ∙ ap (λ (o : Option Refusal). answer_text o (vehicles_in js)) (d.plain js k e);
  },
)
