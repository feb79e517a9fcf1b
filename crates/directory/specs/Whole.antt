-- A composition of sections that are already bytes.
use Rattle.std.specs.Prelude.{ℕ, cond, List, [], ◌∷◌, ◌++◌, length, ◌==◌}
use Rattle.sc32.specs.Checksum.{checksum}
use Rattle.train.specs.Facings.{code}
use Rattle.bench.specs.Facts.{Facts}
use Rattle.directory.specs.declared.writing.Head.{Head}
use Rattle.directory.specs.declared.writing.Status.{Status}
use Rattle.directory.specs.declared.writing.Status.TheVariants.{Unconfirmed, Confirmed}
use Rattle.directory.specs.Sections.{four}

abbrev pub status_code : Status → ℕ
status_code Unconfirmed = 1
status_code Confirmed = 2

-- confirmed where a vehicle list stands
abbrev pub standing : Facts → Status
standing f = cond (0 == length f.confirmed) Unconfirmed Confirmed

abbrev pub header_of : Head → ℕ → ℕ → List ℕ
header_of h train operational = (1 ∷ 0 ∷ code h.orientation ∷ status_code h.status ∷ []) ++ (four h.etb ++ (four train ++ four operational))

-- the header with both counters, and the sections behind it
abbrev pub whole_of : Head → List ℕ → List ℕ → List ℕ
whole_of h first rest = header_of h (checksum h.etb first) (checksum (checksum h.etb first) rest) ++ (first ++ rest)
