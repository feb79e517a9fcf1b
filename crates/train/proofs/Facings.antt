-- The laws of composing facings, case by case.
use Rattle.std.proofs.Common.{◌≡◌, true, Some, refl}
use Rattle.train.specs.declared.facing.Facing.{Facing}
use Rattle.train.specs.declared.facing.Facing.TheVariants.{NotKnown, Direct, Inverse}
use Rattle.train.specs.Facings.{composed, known, opposite, code, coded, FacingLaws}
use Rattle.train.proofs.Bytes.{nowhere}

assoc : (f g h : Facing) → composed (composed f g) h ≡ composed f (composed g h)
assoc NotKnown g h = refl
assoc Direct g h = refl
assoc Inverse NotKnown h = refl
assoc Inverse Direct h = refl
assoc Inverse Inverse NotKnown = refl
assoc Inverse Inverse Direct = refl
assoc Inverse Inverse Inverse = refl

comm : (f g : Facing) → composed f g ≡ composed g f
comm NotKnown NotKnown = refl
comm NotKnown Direct = refl
comm NotKnown Inverse = refl
comm Direct NotKnown = refl
comm Direct Direct = refl
comm Direct Inverse = refl
comm Inverse NotKnown = refl
comm Inverse Direct = refl
comm Inverse Inverse = refl

undo : (f : Facing) → known f ≡ true → composed f f ≡ Direct
undo NotKnown e = nowhere e
undo Direct e = refl
undo Inverse e = refl

turn : (f : Facing) → opposite f ≡ composed Inverse f
turn NotKnown = refl
turn Direct = refl
turn Inverse = refl

read : (f : Facing) → coded (code f) ≡ Some f
read NotKnown = refl
read Direct = refl
read Inverse = refl

pub facing_laws : FacingLaws
facing_laws = record {
  associative = assoc;
  commutative = comm;
  neutral = λ f. refl;
  unknown = λ f. refl;
  undoes = undo;
  turns = turn;
  reads = read;
}
