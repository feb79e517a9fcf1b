-- What an exported call tells: its status, and the answer beside it.
use Rattle.std.specs.Prelude.{◌≡◌, ℕ, cond, Some, None, Ok, Err, Option, Result, ◌==◌}
use Rattle.train.specs.Refusals.{number, refusal_of}
use Rattle.train.specs.declared.refusal.Place.{Place}
use Rattle.train.specs.declared.refusal.Place.TheVariants.{At, InLine}
use Rattle.train.specs.declared.refusal.Reason.TheVariants.{BufferShort}
use Rattle.train.specs.declared.refusal.Refusal.{Refusal}
use Rattle.linkage.specs.declared.answer.Answer.{Answer}

-- 0, or the number of the refusal
abbrev pub status_of : Option Refusal → ℕ
status_of None = 0
status_of (Some f) = number f.reason

-- the line of a place in a text, else 0
abbrev pub line_in : Place → ℕ
line_in (At p) = 0
line_in (InLine l b) = l

abbrev pub place_in : Place → ℕ
place_in (At p) = p
place_in (InLine l b) = b

abbrev pub refused_in : Place → Answer
refused_in p = record { line = line_in p; place = place_in p; length = 0; lines = 0 }

-- how many bytes and lines, or where it was refused
abbrev pub answer_of : Result (ℕ × ℕ) Refusal → Answer
answer_of (Ok n) = record { line = 0; place = 0; length = n.0; lines = n.1 }
answer_of (Err f) = refused_in f.place

-- a status and an answer tell this result
pub record Tells (r : Result (ℕ × ℕ) Refusal) (s : ℕ) (a : Answer) : Type 0 where
  pub status : s ≡ status_of (refusal_of r)
  pub answer : a ≡ answer_of r

-- a length with no lines
abbrev pub unlined : Result ℕ Refusal → Result (ℕ × ℕ) Refusal
unlined (Ok n) = Ok (n, 0)
unlined (Err f) = Err f

-- the length alone
abbrev pub bare : Result (ℕ × ℕ) Refusal → Result ℕ Refusal
bare (Ok n) = Ok n.0
bare (Err f) = Err f

-- a call with no room, as if there were room: a refusal for want of room names the length
abbrev pub freed : Result ℕ Refusal → Result ℕ Refusal
freed (Ok n) = Ok n
freed (Err f) = cond (number f.reason == number BufferShort) (Ok (place_in f.place)) (Err f)

-- a length, unless it was refused
abbrev pub unless : Option Refusal → ℕ → Result ℕ Refusal
unless None n = Ok n
unless (Some f) n = Err f
