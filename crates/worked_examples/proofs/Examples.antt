-- The examples: most compute, and that both runs lead the same train is by the law of two runs.
use Rattle.std.proofs.Common.{◌≡◌, Bool, true, false, cond, [], ◌∷◌, Some, None, refl, inl, arith}
use Rattle.train.specs.declared.facing.Facing.TheVariants.{Inverse}
use Rattle.train.specs.Identities.{same_identity}
use Rattle.train.specs.Turning.{turned_list, turned_coupled}
use Rattle.sc32.specs.Checksum.{bit_steps, checksum}
use Rattle.fleet.specs.Fleets.{IsConsist, Lawful}
use Rattle.fleet.specs.Sound.{checks_lawful}
use Rattle.fleet_list.proofs.Examples.{examples as texts}
use Rattle.bench.specs.Calls.Call.{inaugurate}
use Rattle.directory.specs.Law.{IsFleet, Led}
use Rattle.directory.proofs.Sides.{joint}
use Rattle.worked_examples.specs.Runs.{id_a, id_b, consist_a, consist_b, fleet, formation, led, led_turned, side}
use Rattle.worked_examples.specs.Examples.{Examples, bytes}

lawful_a : IsConsist consist_a
lawful_a = checks_lawful id_a 7 consist_a.vehicles (omega arith) refl

lawful_b : IsConsist consist_b
lawful_b = checks_lawful id_b 9 consist_b.vehicles (omega arith) refl

lawful : IsFleet fleet
lawful x = by (same_identity x id_a) (same_identity x id_b)
  where
    by : (a b : Bool) → Lawful (cond a (Some consist_a) (cond b (Some consist_b) None))
    by true b = lawful_a
    by false true = lawful_b
    by false false = tt

led_claimed : Led (side led 251)
led_claimed = (id_b, record { vehicle = 3; direction = Inverse }, record { before = inaugurate 1 formation ∷ []; rest = []; split = refl; was_taken = refl; untouched = tt })

turned_claimed : Led (side led_turned 251)
turned_claimed = (id_b, record { vehicle = 3; direction = Inverse }, record { before = inaugurate 1 (turned_list turned_coupled formation) ∷ []; rest = []; split = refl; was_taken = refl; untouched = tt })

checked : checksum 0 (1 ∷ []) ≡ 0xF4AC_FB13
unfolding bit_steps checksum
checked = refl

pub examples : Examples
examples =
    record {
      lawful = lawful;
      turned = refl;
      led_composes = refl;
      led_short = record { answers = refl; numbered = refl };
      led_orientation = refl;
      led_order = refl;
      led_numbers = refl;
      led_consists = refl;
      led_consist_numbers = refl;
      led_seating = refl;
      led_facings = refl;
      led_marks = refl;
      turned_composes = refl;
      turned_orientation = refl;
      turned_order = refl;
      turned_numbers = refl;
      turned_consist_numbers = refl;
      same_part = refl;
      led_claimed = led_claimed;
      turned_claimed = turned_claimed;
      same_lead = ((joint (side led 251) (side led_turned 251) lawful lawful).led (bytes led) (bytes led_turned) refl refl (inl led_claimed)).0 refl;
      fourth_composes = refl;
      fourth_order = refl;
      fourth_numbers = refl;
      fourth_seating = refl;
      fourth_consists = refl;
      third_refused = λ room. record { answers = refl; numbered = refl };
      both_refused = λ room. record { answers = refl; numbered = refl };
      beyond_taken = refl;
      beyond_refused = λ room. record { answers = refl; numbered = refl };
      checked = checked;
      texts = texts;
      line_number = refl;
    }
