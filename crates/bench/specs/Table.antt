-- Claims kept in places, one for each entry of the formation.
use Rattle.std.specs.Prelude.{cond, List, [], ◌∷◌, None, Option}
use Rattle.train.specs.declared.identity.Identity.{Identity}
use Rattle.train.specs.declared.entries.Coupled.{Coupled}
use Rattle.train.specs.Identities.{same_identity}
use Rattle.bench.specs.declared.claims.Claim.{Claim}

-- the claim that is kept for a consist: at the place of its first entry
abbrev pub kept : List Coupled → List (Option Claim) → Identity → Option Claim
kept [] table x = None
kept (e ∷ es) [] x = None
kept (e ∷ es) (c ∷ table) x = cond (same_identity x e.identity) c (kept es table x)
