use Rattle.std.proofs.Common.{◌≡◌, ℕ, ◌<◌, ◌≤◌, [], length, take, get_or, ⊎_elim, arith, length-take-le}
use Rattle.fleet_list.specs.Parts.{GoodCar, spaced, cars}
use Rattle.fleet_list.proofs.Cars.{length-cars, Next, first_next, front_spaced, apart_spaced}
use Rattle.fleet_list.proofs.Cursors.{passed_on, not_at}
use Rattle.fleet_list.proofs.Runs.{item_stuck, end_stuck}
use Rattle.fleet_list.proofs.vehicle_reader.read_others.Goals as goal
use Rattle.fleet_list.proofs.vehicle_reader.read_others.Goals.{After-expect, then-loop-count-test+else-is_at, else-loop-count-test}

pub returns-in_err-room-clause-answer : goal.returns-in_err-room-clause-answer
returns-in_err-room-clause-answer c =
    let vs = take c.loop-count.count c.loop-count.room in
    let h = c.is_at.ensures.0 c.if-is_at.true in
    passed_on c.from_residual.ensures.1
    (item_stuck GoodCar spaced 10 front_spaced apart_spaced (λ n. n ≤ 31) _ [] (omega (arith, length-cars vs, length-take-le c.loop-count.count c.loop-count.room)) tt (λ _ _ e. omega (arith, h.byte)) c.loop-count.invariant.along c.in_err-room.ensures)

-- no vehicle may follow, or none does
none_next : (c : After-expect) (n : ℕ) → n ≡ c.loop-count.count → c.loop-count.cursor.at < length c.loop-count.cursor.text.now → (get_or c.loop-count.cursor.text.now c.loop-count.cursor.at 0 ≡ 10 → ⊥)
    → Next n (get_or c.loop-count.cursor.text.now c.loop-count.cursor.at 0) → ⊥
none_next c n q l h = ⊎_elim h (λ k. elim c.loop-count-test.branch [
  | then-loop-count-test+else-is_at w ↦ not_at w.is_at.ensures w.if-is_at.false l k.1
  | else-loop-count-test w ↦ omega (arith, k.0, w.loop-count-test.false)
])

pub returns-in_err-expect-clause-answer : goal.returns-in_err-expect-clause-answer
returns-in_err-expect-clause-answer c =
    let vs = take c.loop-count.count c.loop-count.room in
    let n : length (cars vs) ≡ c.loop-count.count = omega (arith, length-cars vs, length-take-le c.loop-count.count c.loop-count.room) in
    passed_on c.from_residual-in_err-expect.ensures.1
    (end_stuck GoodCar spaced 10 front_spaced apart_spaced (λ n. n ≤ 31) _ (Next (length (cars vs))) [] (omega arith, tt) (first_next (length (cars vs)))
    (none_next (goal.at.returns-in_err-expect-clause-answer c).After-expect (length (cars vs)) n) c.loop-count.invariant.along c.in_err-expect.ensures)
