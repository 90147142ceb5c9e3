-- What a part that was checked is; the bytes of an escape, and how many of them were written.
use Rattle.std.specs.Prelude.{ℕ, ◌-◌, List, [], Option, Some, None, Result}
use Rattle.rules.specs.Answers.{and_then, Answer, given}
use Rattle.rules.specs.Lent.{Lexeme}
use Rattle.rules.specs.Indent.{part_verdict}
use Rattle.source.specs.Meaning.{answer_meant}
use Rattle.source.specs.declared.Refusal.{Refusal}
use Rattle.output.specs.declared.Output.{Output}
use Rattle.utf8.specs.Meaning.{encoded_meant}
use Rattle.utf8.specs.declared.Encoded.{Encoded}

-- a part that nothing is said against
unfoldable pub part_checked : List ℕ → Lexeme → Answer Lexeme
part_checked text p = and_then (part_verdict text p) (given p)

-- the bytes of an escape; none where it is refused
abbrev pub bytes_or_none : Option Encoded → List ℕ
bytes_or_none None = []
bytes_or_none (Some e) = encoded_meant e

-- how many bytes were written to an output, or the refusal
abbrev pub bytes_written : Output → Result (Unit {0}) Refusal → Output → Answer ℕ
bytes_written o r o' = answer_meant (λ u. o'.at - o.at) r
