-- Identities and names are equal where their bytes are.
use Rattle.std.proofs.Common.{◌≡◌, ℕ, List, Decides, sym, ap}
use Rattle.std.specs.Str.{bytes_eq}
use Rattle.std.proofs.lemmas.Slice.Eq.{bytes_eq-Decides}
use Rattle.std.proofs.lemmas.Bool.Decides.{same_from_decides}
use Rattle.train.specs.declared.identity.Identity.{Identity}
use Rattle.train.specs.declared.name.Name.{Name}
use Rattle.train.specs.Identities.{same_identity, same_name}

pub identity_same : (x y : Identity) → x.bytes ≡ y.bytes → x ≡ y
identity_same x y p = λ i. record { bytes = p i }

pub name_same : (x y : Name) → x.bytes ≡ y.bytes → x ≡ y
name_same x y p = λ i. record { bytes = p i }

pub same_identity_decides : (x y : Identity) → Decides (same_identity x y) (x ≡ y)
same_identity_decides x y = (
  λ e. identity_same x y ((bytes_eq-Decides x.bytes y.bytes).0 e),
  λ e. (bytes_eq-Decides x.bytes y.bytes).1 (ap (λ z. z.bytes) e),
)

pub same_name_decides : (x y : Name) → Decides (same_name x y) (x ≡ y)
same_name_decides x y = (
  λ e. name_same x y ((bytes_eq-Decides x.bytes y.bytes).0 e),
  λ e. (bytes_eq-Decides x.bytes y.bytes).1 (ap (λ z. z.bytes) e),
)

pub bytes_eq_sym : (xs ys : List ℕ) → bytes_eq xs ys ≡ bytes_eq ys xs
bytes_eq_sym xs ys =
    same_from_decides (bytes_eq xs ys) (bytes_eq ys xs) (bytes_eq-Decides xs ys)
    (λ e. sym ((bytes_eq-Decides ys xs).0 e), λ e. (bytes_eq-Decides ys xs).1 (sym e))

pub same_identity_sym : (x y : Identity) → same_identity x y ≡ same_identity y x
same_identity_sym x y = bytes_eq_sym x.bytes y.bytes

pub same_name_sym : (x y : Name) → same_name x y ≡ same_name y x
same_name_sym x y = bytes_eq_sym x.bytes y.bytes
