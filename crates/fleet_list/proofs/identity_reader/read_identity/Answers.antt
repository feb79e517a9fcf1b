use Rattle.std.proofs.Common.{◌≡◌, ◌+◌, ◌-◌, [], length, take, arith, length-take-le}
use Rattle.fleet_list.specs.Parts.{Byte, bytes_of}
use Rattle.fleet_list.specs.Texts.{byte_text}
use Rattle.fleet_list.proofs.Cursors.{passed_on}
use Rattle.fleet_list.proofs.Hex.{front_byte, apart_byte, zeros, zeros_long, zeros_good}
use Rattle.fleet_list.proofs.Runs.{item_stuck, end_stuck}
use Rattle.fleet_list.proofs.Series.{first_end}
use Rattle.fleet_list.proofs.identity_reader.read_identity.Goals as goal

pub returns-in_err-slot : goal.returns-in_err-slot
returns-in_err-slot c =
    let i = c.loop-slot.slot-index in
    let l : length (take i c.loop-slot.slot-items) ≡ i = length-take-le i c.loop-slot.slot-items (omega arith) in
    passed_on c.from_residual.ensures.1
    (item_stuck Byte byte_text 32 front_byte apart_byte (λ n. n ≡ 16) bytes_of (zeros (15 - i)) (omega (arith, zeros_long (15 - i))) (zeros_good (15 - i)) (λ h _ _. omega arith) c.loop-slot.invariant c.in_err-slot.ensures)

pub returns-in_err-expect : goal.returns-in_err-expect
returns-in_err-expect c =
    let i = c.loop-slot.slot-index in
    let l : length (take i c.loop-slot.slot-items) ≡ i = length-take-le i c.loop-slot.slot-items (omega arith) in
    passed_on c.from_residual-in_err-expect.ensures.1
    (end_stuck Byte byte_text 32 front_byte apart_byte (λ n. n ≡ 16) bytes_of (λ b. b ≡ 32) [] (omega arith, tt) (first_end Byte byte_text 32 (λ n. length (take i c.loop-slot.slot-items) + n ≡ 16) (λ n h. omega arith)) (λ l n e. n e) c.loop-slot.invariant c.in_err-expect.ensures)
