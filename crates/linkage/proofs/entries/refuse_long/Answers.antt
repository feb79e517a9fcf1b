use Rattle.std.proofs.Common.{rules, arith}
use Rattle.linkage.proofs.Plays.{too_long}
use Rattle.linkage.proofs.Tables.{identities_read}
use Rattle.linkage.proofs.entries.refuse_long.Goals as goal

pub returns-in_err-identities_well_formed-clause-answer : goal.returns-in_err-identities_well_formed-clause-answer
returns-in_err-identities_well_formed-clause-answer c = search (rules, identities_read c.args.rows.now)

pub returns-in_err-require-clause-answer : goal.returns-in_err-require-clause-answer
returns-in_err-require-clause-answer c = search (rules, identities_read c.args.rows.now)

pub returns-clause-answer : goal.returns-clause-answer
returns-clause-answer c = too_long c.args.etb c.args.rows.now c.at.result c.requires (omega arith) c.in_ok-identities_well_formed.ensures c.in_ok-require.ensures c.at.ensures
