use Rattle.std.proofs.Common.{arith}
use Rattle.fleet_list.specs.Forms.{Both, joint}
use Rattle.fleet_list.specs.Parts.{same, Nibble, digit_text, Byte}
use Rattle.fleet_list.specs.Texts.{byte_text}
use Rattle.fleet_list.proofs.Cursors.{passed_on, first_stuck, second_stuck, stuck_same}
use Rattle.fleet_list.proofs.Hex.{front_digit, digits_byte, byte_digits}
use Rattle.fleet_list.proofs.identity_reader.read_byte.Goals as goal

pub returns-in_err-high : goal.returns-in_err-high
returns-in_err-high c =
    passed_on c.from_residual.ensures.1 (stuck_same (Both Nibble Nibble) (joint digit_text digit_text) Byte byte_text same digits_byte byte_digits (first_stuck Nibble digit_text Nibble digit_text same 0 (omega arith) c.in_err-high.ensures))

pub returns-in_err-low : goal.returns-in_err-low
returns-in_err-low c =
    passed_on c.from_residual-in_err-low.ensures.1 (stuck_same (Both Nibble Nibble) (joint digit_text digit_text) Byte byte_text same digits_byte byte_digits (second_stuck Nibble digit_text Nibble digit_text same front_digit c.in_ok-high.ensures c.in_err-low.ensures))
