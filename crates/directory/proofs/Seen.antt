-- The answer of composing a run, read from its buffer.
use Rattle.std.proofs.Common.{◌≡◌, ℕ, List, ◌++◌, length, take, drop, Ok, Err, Result, sym, ap, ◌∙◌, MatchResult}
use Rattle.std.proofs.lemmas.List.{take_at}
use Rattle.train.specs.declared.refusal.Refusal.{Refusal}
use Rattle.train.specs.declared.refusal.Part.TheVariants.{Composing}
use Rattle.train.specs.Refusals.{refusal, refusal_of}
use Rattle.bench.specs.Facts.{Facts}
use Rattle.directory.specs.Composing.{Outcome, checks, outcome, composed_into}
use Rattle.directory.specs.Sections.{composition}
use Rattle.directory.specs.Compared.{Answered}
use Rattle.directory.specs.Law.{Side, facts}
use Rattle.directory.specs.Written.{Written}

-- what is written is so many bytes of the buffer
lent : (a before after : List ℕ) (n : ℕ) → Written a before n after → take n after ≡ a
lent a before after n w = ap (take n) w.wrote ∙ take_at a (drop n before) n w.long

pub answered : (s : Side) (f : Facts) (r : Result ℕ Refusal) (before after : List ℕ) → f ≡ facts s → s.room ≡ length before
    → refusal_of r ≡ refusal Composing (checks f s.fleet (length before))
    → MatchResult r (λ n. Written (composition f s.fleet) before n after) (λ _. after ≡ before) → Answered s r before after
answered s f (Ok n) before after e z p w =
    let t : take n after ≡ composition f s.fleet = lent (composition f s.fleet) before after n w in
    record {
      outcome =
          ap Outcome.written t ∙ ap (λ o. outcome o (composition f s.fleet)) p ∙ ap (λ k. composed_into f s.fleet k) (sym z)
          ∙ ap (λ g. composed_into g s.fleet s.room) e;
      buffer = record { wrote = w.wrote ∙ ap (λ a. a ++ drop n before) (sym t); long = ap length t ∙ w.long; fits = w.fits };
    }
answered s f (Err x) before after e z p w =
    record {
      outcome =
          ap (λ o. outcome o (composition f s.fleet)) p ∙ ap (λ k. composed_into f s.fleet k) (sym z)
          ∙ ap (λ g. composed_into g s.fleet s.room) e;
      buffer = w;
    }
