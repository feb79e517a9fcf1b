-- Lists and books are one to one, and a text breaks at one place; two known texts.
use Rattle.std.specs.Prelude.{◌≡◌, ℕ, List, [], ◌∷◌, ◌≢◌}
use Rattle.std.specs.List.{AllByRecursion}
use Rattle.train.specs.declared.refusal.Refusal.{Refusal}
use Rattle.fleet.specs.Books.{Item, IsFleet, book_of}
use Rattle.fleet_list.specs.Forms.{fault}
use Rattle.fleet_list.specs.Lists.{IsLine, list_text}
use Rattle.fleet_list.specs.Readings.{Broken}
use Rattle.fleet_list.specs.Texts.{quoted}

pub record OneToOne : Type 0 where
  pub list : (is js : List Item) → AllByRecursion IsLine is → AllByRecursion IsLine js → list_text is ≡ list_text js → is ≡ js
  pub book : (is js : List Item) → IsFleet is → IsFleet js → book_of is ≡ book_of js → is ≡ js
  pub place : (t : List ℕ) (f g : Refusal) → Broken t f → Broken t g → f ≡ g
  pub apart : (t : List ℕ) (f : Refusal) → Broken t f → (is : List Item) → AllByRecursion IsLine is → t ≢ list_text is

-- thirty zeros before a text
abbrev pub zeros30 : List ℕ → List ℕ
zeros30 t = 48 ∷ 48 ∷ 48 ∷ 48 ∷ 48 ∷ 48 ∷ 48 ∷ 48 ∷ 48 ∷ 48 ∷ 48 ∷ 48 ∷ 48 ∷ 48 ∷ 48 ∷ 48 ∷ 48 ∷ 48 ∷ 48 ∷ 48 ∷ 48 ∷ 48 ∷ 48 ∷ 48 ∷ 48 ∷ 48 ∷ 48 ∷ 48 ∷ 48 ∷ 48 ∷ t

-- an identity that ends in 01, counter 7, and a first vehicle "B\n", which is no name
abbrev pub wrong_name : List ℕ
wrong_name = zeros30 (48 ∷ 49 ∷ 32 ∷ 55 ∷ 32 ∷ 34 ∷ 66 ∷ 92 ∷ 110 ∷ 34 ∷ 43 ∷ 10 ∷ [])

pub record Examples : Type 0 where
  pub quotes : quoted (66 ∷ 34 ∷ 50 ∷ []) ≡ 34 ∷ 66 ∷ 92 ∷ 34 ∷ 50 ∷ 34 ∷ []
  pub breaks : Broken wrong_name (fault 1 39)
