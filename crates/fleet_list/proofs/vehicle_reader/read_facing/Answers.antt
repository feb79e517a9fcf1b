use Rattle.std.proofs.Common.{◌≡◌, ℕ, ◌⊎◌, [], Some, None, Option, refl, inl, inr}
use Rattle.train.proofs.Bytes.{nowhere}
use Rattle.train.specs.declared.facing.Facing.{Facing}
use Rattle.train.specs.declared.facing.Facing.TheVariants.{NotKnown, Direct, Inverse}
use Rattle.fleet_list.specs.Parts.{same, Known, Sign}
use Rattle.fleet_list.specs.Texts.{sign}
use Rattle.fleet_list.proofs.Cursors.{Makes, one_taken}
use Rattle.fleet_list.proofs.Seq.{First}
use Rattle.fleet_list.proofs.vehicle_reader.read_facing.Goals as goal

abbrev IsSign : ℕ → Type 0
IsSign b = (b ≡ 43) ⊎ (b ≡ 45)

first : First Known sign IsSign
first NotKnown g = nowhere g
first Direct g = (43, [], inl refl, refl)
first Inverse g = (45, [], inr refl, refl)

makes : (b : ℕ) (o : Option Facing) → Sign b o → Makes Known sign same IsSign b o
makes b (Some f) h = h
makes b None h = h

pub returns : goal.returns
returns c = one_taken Known sign same IsSign Direct refl first c.take.ensures (λ o l p. makes _ o p)
