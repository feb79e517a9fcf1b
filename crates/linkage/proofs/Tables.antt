-- Entries, and what they are read as.
use Rattle.std.proofs.Common.{◌≡◌, ℕ, List, map, refl, ap}
use Rattle.train.specs.declared.refusal.Part.TheVariants.{Bench}
use Rattle.train.specs.declared.refusal.Reason.TheVariants.{IdentityOrder}
use Rattle.train.specs.Identities.{is_identity}
use Rattle.train.specs.Refusals.{breach, each, alone}
use Rattle.train.specs.Rows.{label_in, coupled_in}
use Rattle.train.proofs.Rules.{each-map}

-- the identities of entries are those of what the entries are read as
pub identities_read : (rows : List (List ℕ)) → breach Bench (each (alone (λ row. is_identity (label_in row))) IdentityOrder rows) ≡ breach Bench (each (alone (λ e. is_identity e.identity.bytes)) IdentityOrder (map coupled_in rows))
identities_read rows =
    ap (breach Bench) (each-map coupled_in (alone (λ row. is_identity (label_in row))) (alone (λ e. is_identity e.identity.bytes)) (λ before x. refl) IdentityOrder rows)
