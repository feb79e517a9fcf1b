use Rattle.std.proofs.Common.{◌≡◌, ◌+◌, [], length, Some, inl, sym, refl, ap, ◌∙◌, arith, length-drop}
use Rattle.train.specs.Refusals.{breach, alone, refused_at}
use Rattle.train.specs.declared.refusal.Part.TheVariants.{Text}
use Rattle.train.specs.declared.refusal.Reason.TheVariants.{Repeated}
use Rattle.fleet_list.specs.Consists.{item_in, items_in}
use Rattle.fleet_list.specs.Imports.{names_apart, vehicles_of}
use Rattle.fleet_list.proofs.Checked.{part_past, part_here, stands_at}
use Rattle.fleet_list.proofs.Gathers.{length-gathered}
use Rattle.fleet_list.proofs.checks.names_apart.Goals as goal

pub loop-i-init : goal.loop-i-init
loop-i-init c =
    let e : c.into_iter-i-iterator.result.count ≡ 0 = ap (λ s. s.count) c.into_iter-i-iterator.ensures.into_iter_gives ∙ c.enumerate-i-items.ensures.count in
    let f : c.into_iter-i-iterator.result.iter ≡ c.args.consists = ap (λ s. s.iter) c.into_iter-i-iterator.ensures.into_iter_gives ∙ c.enumerate-i-items.ensures.source in
    rw (e, f) ((tt, tt, inl (omega (arith, length-gathered c.args.consists.heads.now c.args.consists.vehicles.now))), tt, refl, refl)

pub returns-then-not-are_apart : goal.returns-then-not-are_apart
returns-then-not-are_apart c =
    let h = c.in-Some.ensures.steps in
    let all = items_in c.args.consists in
    let at = stands_at all c.loop-i.i-iterator.count (item_in c.in-Some.consist) _ (c.loop-i.invariant.2 ∙ h.0) in
    ap (λ x. Some x) (c.at.ensures ∙ ap (λ i. refused_at Text Repeated (i + 1)) h.1)
    ∙ sym (ap (breach Text) c.loop-i.invariant.3
    ∙ part_here (alone names_apart) Repeated vehicles_of all c.loop-i.i-iterator.count Text (item_in c.in-Some.consist) [] _ (ap vehicles_of (sym at.1)) at.0 (sym c.are_apart.ensures ∙ c.if-not-are_apart.true))

pub loop-i-preserved : goal.loop-i-preserved
loop-i-preserved c =
    let h = c.in-Some.ensures.steps in
    let all = items_in c.args.consists in
    let at = stands_at all c.loop-i.i-iterator.count (item_in c.in-Some.consist) _ (c.loop-i.invariant.2 ∙ h.0) in
    rw h.2 ((tt, tt, inl (omega (arith, ap length at.2, length-drop (c.loop-i.i-iterator.count + 1) all, length-gathered c.args.consists.heads.now c.args.consists.vehicles.now))), tt, at.2, c.loop-i.invariant.3 ∙ part_past (alone names_apart) Repeated vehicles_of all c.loop-i.i-iterator.count (item_in c.in-Some.consist) [] _ (ap vehicles_of (sym at.1)) at.0 (sym c.are_apart.ensures ∙ c.if-not-are_apart.false))
