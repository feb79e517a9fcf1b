use Rattle.std.proofs.Common.{◌≡◌, ℕ, ◌+◌, ◌<◌, ◌≤◌, List, length, get_or, drop, sym, ap, ◌∙◌, subst}
use Rattle.std.proofs.lemmas.List.{drop_more, drop_all}
use Rattle.bench.specs.declared.calls.Call.{Call as Lent}
use Rattle.bench.specs.Calls.{said, run}
use Rattle.bench.specs.Facts.{Facts, after, after_all}
use Rattle.bench.specs.Standing.{Shows}
use Rattle.bench.proofs.Runs.{stands}
use Rattle.bench.proofs.Accepting.{accepted_as_told, standing_laws}
use Rattle.bench.proofs.calls.play.Goals as goal

one_more : (f g : Facts) (calls : List Lent) (i : ℕ) (d : Lent) → i < length calls → g ≡ after f (said (get_or calls i d))
    → after_all f (run (drop i calls)) ≡ after_all g (run (drop (i + 1) calls))
one_more f g calls i d h e = rw (drop_more calls i d, e)

all_done : (f : Facts) (calls : List Lent) (i : ℕ) → length calls ≤ i → after_all f (run (drop i calls)) ≡ f
all_done f calls i h = rw drop_all

pub loop-call-preserved : goal.loop-call-preserved
loop-call-preserved c = c.loop-call.invariant ∙ one_more _ _ _ _ _ c.loop-call-test.true c.carry_out.ensures.facts

pub returns : goal.returns
returns c =
    let calls = c.args.calls.now in
    let e = sym (c.loop-call.invariant ∙ all_done _ _ _ c.loop-call-test.false) in
    record {
      facts = e;
      stands = λ z. subst (λ f. Shows f (run calls)) (sym (e ∙ ap (λ f. after_all f (run calls)) z)) (λ fact. stands (run calls) fact);
      accepting = accepted_as_told (run calls);
      laws = standing_laws (run calls);
    }
