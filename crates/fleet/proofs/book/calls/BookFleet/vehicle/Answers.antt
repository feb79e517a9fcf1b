use Rattle.std.proofs.Common.{◌≡◌, ℕ, ◌+◌, ◌-◌, List, [], get_or, take, Some, sym, refl, ap, ap₂, ◌∙◌, arith}
use Rattle.train.specs.declared.entries.Vehicle.{Vehicle}
use Rattle.fleet.specs.Fleets.{vehicle_in}
use Rattle.fleet.specs.Rows.{sizes}
use Rattle.fleet.specs.Books.{Item, meaning_of, listed}
use Rattle.fleet.specs.Held.{held}
use Rattle.fleet.specs.Means.{vehicle_at, vehicle_past, vehicle_none, vehicle_zeroth, meaning_none, sizes_in}
use Rattle.fleet.proofs.Holds.{held_is}
use Rattle.fleet.proofs.book.calls.BookFleet.vehicle.Goals as goal

pub returns-in_err-i : goal.returns-in_err-i
returns-in_err-i c =
    let b = c.args.self.now in
    c.from_residual.ensures
    ∙ vehicle_none (meaning_of (listed b.consists.now b.vehicles.now) c.args.identity.now) c.args.k (meaning_none c.args.identity.now 0 b.consists.now b.vehicles.now (sym c.in_err-i.ensures.found))
    ∙ sym (ap (λ (is : List Item). vehicle_in (meaning_of is c.args.identity.now) c.args.k) (held_is b))

pub returns-then-k-eq0 : goal.returns-then-k-eq0
returns-then-k-eq0 c =
    let b = c.args.self.now in
    let f = c.in_ok-i.ensures in
    elim c.then-k-eq0.branch [
      | goal.then-k-eq0-via-then-k-eq0 w ↦ vehicle_zeroth (meaning_of (held b) c.args.identity.now) c.args.k w.if-k-eq0.true
      | goal.then-k-eq0-via-else-k-eq0+then-k-size_of w ↦
          vehicle_past b.consists.now b.vehicles.now c.args.identity.now c.in_ok-i.i b.sum f.below f.found _ refl c.args.k (omega arith)
          ∙ sym (ap (λ (is : List Item). vehicle_in (meaning_of is c.args.identity.now) c.args.k) (held_is b))
    ]

pub overflow_add-at : goal.overflow_add-at
overflow_add-at c =
    let b = c.args.self.now in
    let f = c.in_ok-i.ensures.below in
    let q = sizes_in b.consists.now c.in_ok-i.i f in
    omega arith

pub bounds-self-at : goal.bounds-self-at
bounds-self-at c =
    let b = c.args.self.now in
    let f = c.in_ok-i.ensures.below in
    let q = sizes_in b.consists.now c.in_ok-i.i f in
    omega arith

pub offset_bounds-self-at : goal.offset_bounds-self-at
offset_bounds-self-at c =
    let b = c.args.self.now in
    let f = c.in_ok-i.ensures.below in
    let q = sizes_in b.consists.now c.in_ok-i.i f in
    omega arith

pub returns : goal.returns
returns c =
    let b = c.args.self.now in
    let f = c.in_ok-i.ensures in
    let w : get_or b.vehicles.now (c.vehicles_in.result + (c.from.result - 1)) [] ≡ get_or b.vehicles.now (sizes (take c.in_ok-i.i b.consists.now) + (c.args.k - 1)) [] =
    ap₂ (λ (m n : ℕ). get_or b.vehicles.now (m + (n - 1)) []) c.vehicles_in.ensures c.from.ensures in
    ap (λ (v : Vehicle). Some v) c.from-2.ensures
    ∙ vehicle_at b.consists.now b.vehicles.now c.args.identity.now c.in_ok-i.i b.sum f.below f.found _ refl c.args.k _ c.if-k-eq0.false (omega arith) w
    ∙ sym (ap (λ (is : List Item). vehicle_in (meaning_of is c.args.identity.now) c.args.k) (held_is b))
