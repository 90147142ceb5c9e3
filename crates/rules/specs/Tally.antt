-- "The tally counts direct lexing calls accepted and refused, and their steps, one record for all; each number stops at 2^64 − 1."
use Rattle.std.specs.Prelude.{ℕ, ◌+◌, ◌-◌, ◌^◌, min}
use Rattle.rules.specs.Answers.{Verdict, given, refused}
use Rattle.rules.specs.Lexing.{Lexed}

pub record Tally : Type 0 where
  pub accepted : ℕ
  pub refused : ℕ
  pub steps : ℕ

-- a fresh one
abbrev pub fresh : Tally
fresh = record { accepted = 0; refused = 0; steps = 0 }

abbrev pub top : ℕ
top = 2 ^ 64 - 1

abbrev pub plus : ℕ → ℕ → ℕ
plus m n = min (m + n) top

unfoldable pub tallied : Tally → Verdict → (steps : ℕ) → Tally
tallied t (given u) n = record { accepted = plus t.accepted 1; refused = t.refused; steps = plus t.steps n }
tallied t (refused r) n = record { accepted = t.accepted; refused = plus t.refused 1; steps = plus t.steps n }

-- after one more lexing call
abbrev pub after_call : Tally → Lexed → Tally
after_call t l = tallied t l.verdict l.steps
