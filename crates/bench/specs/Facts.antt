-- The facts that stand on a bench, and what each call does to them.
use Rattle.std.specs.Prelude.{◌≡◌, ℕ, ◌<◌, Bool, true, false, cond, ◌&&◌, List, [], ◌∷◌, ◌++◌, length, take, is_some, Some, None, Option, ◌==◌, nat_le, slice_index_or}
use Rattle.std.specs.Str.{bytes_eq}
use Rattle.train.specs.declared.identity.Identity.{Identity}
use Rattle.train.specs.declared.name.Name.{Name}
use Rattle.train.specs.declared.entries.Coupled.{Coupled}
use Rattle.train.specs.declared.facing.Facing.{Facing}
use Rattle.train.specs.declared.facing.Facing.TheVariants.{NotKnown, Direct, Inverse}
use Rattle.train.specs.declared.refusal.Reason.TheVariants.{IdentityOrder, ZeroCounter, EntryCount, NameForm, UnknownFacing, Repeated, NoFormation, NotPresent, ClaimRange, NothingStands}
use Rattle.train.specs.Facings.{known}
use Rattle.train.specs.Identities.{is_identity, is_counter, same_identity}
use Rattle.train.specs.Names.{every, well_formed}
use Rattle.train.specs.Refusals.{Check, must, each, alone, fresh, by}
use Rattle.bench.specs.declared.claims.Claim.{Claim}
use Rattle.bench.specs.Calls.{Call}
use Rattle.bench.specs.Calls.Call.{inaugurate, claim, yield, confirm, withdraw}

-- An empty formation is none, and an empty confirmed list is none.
pub record Facts : Type 0 where
  pub etb : ℕ
  pub formation : List Coupled
  pub claims : Identity → Option Claim
  pub confirmed : List Name

-- a new bench has none
abbrev pub nothing : Facts
nothing = record { etb = 0; formation = []; claims = λ _. None; confirmed = [] }

abbrev pub within : ℕ → ℕ → ℕ → Bool
within low high n = nat_le low n && nat_le n high

abbrev pub some : {A : Type 0} → List A → Bool
some xs = nat_le 1 (length xs)

-- a consist is in the formation
abbrev pub coupled_in : Identity → List Coupled → Bool
coupled_in x [] = false
coupled_in x (e ∷ es) = cond (same_identity x e.identity) true (coupled_in x es)

-- the way that a direction's number says
abbrev pub directed : ℕ → Facing
directed n = cond (n == 1) Direct (cond (n == 2) Inverse NotKnown)

-- a consist that a call names is one of the formation
abbrev pub place_checks : Facts → Identity → List Check
place_checks f x =
    must (is_identity x.bytes) IdentityOrder
    ∷ must (some f.formation) NoFormation
    ∷ must (coupled_in x f.formation) NotPresent
    ∷ []

abbrev pub list_checks : List Name → List Check
list_checks names =
    must (within 1 63 (length names)) EntryCount
    ∷ each (alone (λ n. well_formed n.bytes)) NameForm names
    ∷ each (fresh (by bytes_eq (λ n. n.bytes))) Repeated names
    ∷ []

-- The checks of each call, in order.
abbrev pub checks : Facts → Call → List Check
checks f (inaugurate etb es) =
    each (alone (λ e. is_identity e.identity.bytes)) IdentityOrder es
    ∷ must (is_counter etb) ZeroCounter
    ∷ must (within 1 63 (length es)) EntryCount
    ∷ each (alone (λ e. known e.facing)) UnknownFacing es
    ∷ each (fresh (by bytes_eq (λ e. e.identity.bytes))) Repeated es
    ∷ []
checks f (claim x vehicle direction) = place_checks f x ++ must (within 1 32 vehicle && within 1 2 direction) ClaimRange ∷ []
checks f (yield x) = place_checks f x ++ must (is_some (f.claims x)) NothingStands ∷ []
checks f (confirm names) = list_checks names ++ must (some f.formation) NoFormation ∷ []
checks f withdraw = must (some f.formation) NoFormation ∷ must (some f.confirmed) NothingStands ∷ []

-- a call is accepted where every check is met
abbrev pub accepted : Facts → Call → Bool
accepted f k = every (λ c. c.ok) (checks f k)

abbrev pub put : (Identity → Option Claim) → Identity → Option Claim → Identity → Option Claim
put claims x c y = cond (same_identity x y) c (claims y)

-- what an accepted call does
abbrev pub done : Facts → Call → Facts
done f (inaugurate etb es) = record { etb = etb; formation = es; claims = λ _. None; confirmed = [] }
done f (claim x vehicle direction) = record {
  etb = f.etb;
  formation = f.formation;
  claims = put f.claims x (Some (record { vehicle = vehicle; direction = directed direction }));
  confirmed = f.confirmed;
}
done f (yield x) = record { etb = f.etb; formation = f.formation; claims = put f.claims x None; confirmed = f.confirmed }
done f (confirm names) = record { etb = f.etb; formation = f.formation; claims = f.claims; confirmed = names }
done f withdraw = record { etb = f.etb; formation = f.formation; claims = f.claims; confirmed = [] }

-- a call that is refused alters no fact
abbrev pub after : Facts → Call → Facts
after f k = cond (accepted f k) (done f k) f

-- the calls one after another
abbrev pub after_all : Facts → List Call → Facts
after_all f [] = f
after_all f (k ∷ ks) = after_all (after f k) ks

-- the place of a consist, from 0: it stands there, and nowhere before
pub record Place (x : Identity) (es : List Coupled) (i : ℕ) : Type 0 where
  pub inside : i < length es
  pub here : same_identity x (slice_index_or es i (record { identity = x; facing = NotKnown })).identity ≡ true
  pub first : coupled_in x (take i es) ≡ false
