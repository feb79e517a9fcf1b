use Rattle.std.proofs.Common.{◌≡◌, ℕ, List, [], ◌∷◌, ◌++◌, decimal, refl, append_assoc, arith, length-append}
use Rattle.std.specs.List.{flat_map}
use Rattle.fleet_list.specs.Consists.{item_in}
use Rattle.fleet_list.specs.Texts.{byte_text, vehicle_text}
use Rattle.fleet_list.proofs.Behind.{lend, then_byte, same_text}
use Rattle.fleet_list.proofs.Sizes.{line_sized}
use Rattle.fleet_list.proofs.text_writer.put_line.Goals as goal

flat : (a b d : List ℕ) → (((a ++ 32 ∷ []) ++ b) ++ d) ++ 10 ∷ [] ≡ a ++ 32 ∷ (b ++ (d ++ 10 ∷ []))
flat a b d = simp append_assoc

pub returns : goal.returns
returns c =
    let a = lend (lend c.put_hex-at.ensures c.put_decimal-at.ensures refl) c.put_each-at.ensures refl in
    same_text (flat (flat_map byte_text c.args.consist.head.now.identity.bytes) (decimal c.args.consist.head.now.counter) (flat_map vehicle_text c.args.consist.vehicles.now))
    (then_byte a 10 (omega (
      arith,
      line_sized (item_in c.args.consist),
      length-append (flat_map byte_text c.args.consist.head.now.identity.bytes) (32 ∷ []),
      c.requires,
      c.put_hex-at.ensures.long,
      c.put_decimal-at.ensures.long,
      c.put_each-at.ensures.long,
    )))
