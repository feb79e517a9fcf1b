use Rattle.std.proofs.Common.{◌≡◌, ◌+◌, [], ◌∷◌, length, take, set, Ok, Err, refl, arith, length-take-le}
use Rattle.train.specs.Names.{IsName, padded}
use Rattle.fleet_list.specs.Parts.{name_text, name_bytes, same, Letter}
use Rattle.fleet_list.specs.Texts.{escaped}
use Rattle.fleet_list.proofs.Cursors.{passed_on, byte_missing, taken_as, stuck_as, not_at}
use Rattle.fleet_list.proofs.Letters.{Sized, front_letter, apart_letter}
use Rattle.fleet_list.proofs.Pads.{named, first_quote}
use Rattle.fleet_list.proofs.Runs.{item_stuck}
use Rattle.fleet_list.proofs.Spelled.{spelled_more, Spelt, quoted_name, spelt_done, spelt_stuck, spelt_bytes}
use Rattle.fleet_list.proofs.name_reader.read_name.Goals as goal
use Rattle.fleet_list.proofs.name_reader.read_name.Goals.{After-expect-2, else-loop-slot-test, then-loop-slot-test+in_ok-slot+then-is_at}

pub returns-in_err-expect : goal.returns-in_err-expect
returns-in_err-expect c =
    passed_on c.from_residual.ensures.1 (byte_missing IsName name_text name_bytes 34 (padded (65 ∷ [])) (named (65 ∷ []) ((omega arith, omega arith), ((omega arith, omega arith), tt))) first_quote c.in_err-expect.ensures)

pub returns-in_err-slot : goal.returns-in_err-slot
returns-in_err-slot c =
    let i = c.loop-slot.slot-index in
    let v = c.loop-slot.invariant in
    let n : length (take i c.loop-slot.letters) ≡ i = length-take-le i c.loop-slot.letters (omega (arith, v.spelled.long)) in
    passed_on c.from_residual-in_err-slot.ensures.1
    (stuck_as IsName name_text name_bytes (quoted_name (Err _) c.in_ok-expect.ensures
    (item_stuck Letter escaped 34 front_letter apart_letter Sized same [] (omega arith, omega arith) tt (λ h l e. v.onward (omega (arith, h.0)) (record { more = l; byte = e })) v.spelled.along c.in_err-slot.ensures)))

pub loop-slot-preserved : goal.loop-slot-preserved
loop-slot-preserved c = record { spelled = spelled_more c.loop-slot.invariant.spelled (omega arith) c.in_ok-slot.ensures; onward = λ _ h. not_at c.is_at.ensures c.if-is_at.false h.more h.byte }

spelt : (c : After-expect-2) → Spelt c.expect.new.self c.loop-slot-test.cursor c.loop-slot-test.bytes
spelt c = elim c.loop-slot-test.branch [
  | else-loop-slot-test w ↦ rw (w.cursor-is, w.bytes-is) (record { places = c.loop-slot.letters; count = c.loop-slot.slot-index; spelled = c.loop-slot.invariant.spelled; some = omega arith; whole = refl; ends = λ l. absurd (omega arith) })
  | then-loop-slot-test+in_ok-slot+then-is_at w ↦ rw (w.cursor-is, w.bytes-is) (record { places = set c.loop-slot.letters c.loop-slot.slot-index w.in_ok-slot.field-0; count = c.loop-slot.slot-index + 1; spelled = spelled_more c.loop-slot.invariant.spelled (omega arith) w.in_ok-slot.ensures; some = omega arith; whole = refl; ends = λ l. w.is_at.ensures.0 w.if-is_at.true })
]

pub returns-in_err-expect-2 : goal.returns-in_err-expect-2
returns-in_err-expect-2 c =
    passed_on c.from_residual-in_err-expect-2.ensures.1 (stuck_as IsName name_text name_bytes (quoted_name (Err _) c.in_ok-expect.ensures (spelt_stuck (spelt (goal.at.returns-in_err-expect-2 c).After-expect-2) c.in_err-expect-2.ensures)))

pub returns : goal.returns
returns c =
    let s = spelt (goal.at.returns c).After-expect-2 in
    taken_as IsName name_text name_bytes (record { bytes = c.loop-slot-test.bytes }) (spelt_bytes s) (quoted_name (Ok (take s.count s.places)) c.in_ok-expect.ensures (spelt_done s c.in_ok-expect-2.ensures))
