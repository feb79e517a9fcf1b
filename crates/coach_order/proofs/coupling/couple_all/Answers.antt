use Rattle.std.proofs.Common.{arith}
use Rattle.coach_order.proofs.Coupled.{coupling_here, coupling_more, coupling_all}
use Rattle.coach_order.proofs.coupling.couple_all.Goals as goal

pub push-requires : goal.push-requires
push-requires c =
    let h = coupling_here c.loop-identity.invariant c.len.result c.len.ensures.value _ c.in-Some.ensures in
    (omega arith, omega arith)

pub loop-identity-smaller : goal.loop-identity-smaller
loop-identity-smaller c =
    let h = coupling_here c.loop-identity.invariant c.len.result c.len.ensures.value _ c.in-Some.ensures in
    omega arith

pub loop-identity-preserved : goal.loop-identity-preserved
loop-identity-preserved c = coupling_more c.loop-identity.invariant c.len.result c.len.ensures.value _ _ c.in-Some.ensures c.push.ensures.items c.push.ensures.len

pub returns : goal.returns
returns c = coupling_all c.loop-identity.invariant c.len.result c.len.ensures.value c.in_default.ensures
