-- The order from the head is the one that the rule tells.
use Rattle.std.proofs.Common.{◌≡◌, ℕ, ◌+◌, List, [], ◌∷◌, ◌++◌, map, reverse, Option, sym, refl, ap, ◌∙◌}
use Rattle.std.specs.List.{flat_map, AllByRecursion}
use Rattle.std.proofs.ByRecursion.{All-weaker}
use Rattle.train.specs.declared.facing.Facing.{Facing}
use Rattle.train.specs.declared.facing.Facing.TheVariants.{NotKnown, Direct, Inverse}
use Rattle.train.specs.declared.entries.Coupled.{Coupled}
use Rattle.train.specs.declared.entries.Vehicle.{Vehicle}
use Rattle.train.specs.declared.identity.Identity.{Identity}
use Rattle.bench.specs.declared.claims.Claim.{Claim}
use Rattle.fleet.specs.Fleets.{Meaning, vehicles_of}
use Rattle.directory.proofs.Vocabulary.{Known}
use Rattle.train.specs.Facings.{composed, opposite}
use Rattle.train.specs.Turning.{turned_coupled}
use Rattle.train.proofs.Facings.{facing_laws}
use Rattle.directory.specs.Cars.{met, turned_car, cars, stretch, train}
use Rattle.bench.specs.Facts.{Facts}
use Rattle.directory.specs.Operation.{orientation, from_head}
use Rattle.directory.specs.Order.{along, coaches, block, told}
use Rattle.directory.proofs.Turns.{reverse-map}
use Rattle.directory.proofs.Asks.{joined_cong}
use Rattle.directory.proofs.Blocks.{all_reverse}
use Rattle.directory.proofs.Oriented.{train_met}

opposite_as : (f : Facing) → opposite f ≡ composed f Inverse
opposite_as NotKnown = refl
opposite_as Direct = refl
opposite_as Inverse = refl

joined-map : {X Y Z : Type 0} (f : Y → List Z) (g : X → Y) (xs : List X) → flat_map f (map g xs) ≡ flat_map (λ x. f (g x)) xs
joined-map f g [] = refl
joined-map f g (x ∷ xs) = ap (λ z. f (g x) ++ z) (joined-map f g xs)

kept : (x : Identity) (o : Option Claim) (k : ℕ) (vs : List Vehicle) → cars x o k vs ≡ coaches x Direct o k vs
kept x o k [] = refl
kept x o k (v ∷ vs) = rw (kept x o (k + 1) vs, facing_laws.commutative v.facing Direct)

reversed : (x : Identity) (o : Option Claim) (k : ℕ) (vs : List Vehicle) → map turned_car (cars x o k vs) ≡ coaches x Inverse o k vs
reversed x o k [] = refl
reversed x o k (v ∷ vs) = rw (reversed x o (k + 1) vs, opposite_as v.facing)

met_told : (g : Facing) → Known g → (x : Identity) (o : Option Claim) (vs : List Vehicle) → met turned_car g (cars x o 1 vs) ≡ along g (coaches x g o 1 vs)
met_told NotKnown h x o vs = absurd h
met_told Direct h x o vs = kept x o 1 vs
met_told Inverse h x o vs = sym (reverse-map turned_car (cars x o 1 vs)) ∙ ap reverse (reversed x o 1 vs)

turn_known : (g : Facing) → Known g → Known (opposite g)
turn_known NotKnown h = h
turn_known Direct h = tt
turn_known Inverse h = tt

module _ (m : Meaning) (claims : Identity → Option Claim) where
  -- an entry met from the head
  stretch_told : (o g : Facing) (e : Coupled) → g ≡ composed e.facing o → Known g
      → met turned_car g (cars e.identity (claims e.identity) 1 (vehicles_of (m e.identity))) ≡ block m claims o e
  stretch_told o g e p h =
      met_told g h e.identity (claims e.identity) (vehicles_of (m e.identity))
      ∙ ap (λ s. along s (coaches e.identity s (claims e.identity) 1 (vehicles_of (m e.identity)))) p

  train_told : (o : Facing) → Known o → (es : List Coupled) → AllByRecursion (λ e. Known e.facing) es
      → train m claims (met turned_coupled o es) ≡ flat_map (block m claims o) (along o es)
  train_told NotKnown k es h = absurd k
  train_told Direct k es h = joined_cong _ _ es (All-weaker _ _ (λ e z. stretch_told Direct e.facing e (facing_laws.commutative Direct e.facing) z) es h)
  train_told Inverse k es h =
      joined-map (stretch m claims) turned_coupled (reverse es)
      ∙ joined_cong _ _ (reverse es)
      (All-weaker _ _ (λ e z. stretch_told Inverse (opposite e.facing) e (opposite_as e.facing) (turn_known e.facing z)) (reverse es) (all_reverse _ es h))

pub head_told : (f : Facts) (m : Meaning) → AllByRecursion (λ e. Known e.facing) f.formation → Known (orientation f) → from_head f m ≡ told f m
head_told f m h k = train_met m f.claims (orientation f) f.formation h ∙ train_told m f.claims (orientation f) k f.formation h
