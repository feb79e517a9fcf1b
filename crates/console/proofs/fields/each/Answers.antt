use Rattle.std.proofs.Common.{rules, ℕ, Ok, slice_get}
use Rattle.std.specs.Fn.{FnReturnsAt}
use Rattle.console.specs.Fields.{fields_in}
use Rattle.console.proofs.Cuts.{at_field, read_more}
use Rattle.console.proofs.fields.each.Goals as goal

pub loop-field-preserved : goal.loop-field-preserved
loop-field-preserved g c =
    let more = read_more (λ f e. FnReturnsAt g.R.Fn c.args.read f (Ok e)) (fields_in c.args.fields) (fields_in c.loop-field.field-iterator) (fields_in c.next.new.self) c.loop-field.entries.items c.push.new.self.items c.in-Some.field.now c.in_ok-read.field-0 (c.loop-field.invariant.2, c.loop-field.invariant.3, c.loop-field.invariant.4) c.in-Some.ensures.steps (search rules) (search rules) in
    (tt, tt, more.0, more.1, more.2)

pub returns-clause-each : goal.returns-clause-each
returns-clause-each g c =
    λ (k : ℕ). at_field (λ f e. FnReturnsAt g.R.Fn c.args.read f (Ok e)) (fields_in c.args.fields) k (slice_get c.loop-field.entries.items k) (c.loop-field.invariant.4 k)
