-- What came of writing into a buffer, as the answer of the call that wrote.
use Rattle.std.specs.Prelude.{ℕ, List, [], ◌∷◌, ◌++◌, Ok, Err, Result}
use Rattle.bench.specs.declared.calls.Call.{Call}
use Rattle.console.specs.declared.answers.Answer.{Answer}
use Rattle.console.specs.declared.answers.Failure.{Failure}
use Rattle.console.specs.declared.answers.Failure.TheVariants.{Refused, OutOfMemory}
use Rattle.train.specs.declared.refusal.Refusal.{Refusal}
use Rattle.console.specs.declared.answers.Written.{Written}
use Rattle.console.specs.declared.answers.Written.TheVariants.{Imported, Exported, Composed}

abbrev pub imported_as : Result ℕ Refusal → Result Written Refusal
imported_as (Ok length) = Ok (Imported length)
imported_as (Err refusal) = Err refusal

abbrev pub exported_as : Result (ℕ × ℕ) Refusal → Result Written Refusal
exported_as (Ok p) = Ok (Exported p.0 p.1)
exported_as (Err refusal) = Err refusal

abbrev pub composed_as : Result ℕ Refusal → Result Written Refusal
composed_as (Ok length) = Ok (Composed length)
composed_as (Err refusal) = Err refusal

-- a call that is carried out or refused is kept
abbrev pub calls_after : Result Answer Failure → List Call → Call → List Call
calls_after (Ok answer) calls call = calls ++ call ∷ []
calls_after (Err (Refused refusal)) calls call = calls ++ call ∷ []
calls_after (Err (OutOfMemory error)) calls call = calls
