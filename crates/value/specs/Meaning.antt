-- What the answers mean.
use Rattle.std.specs.Prelude.{ℕ, Result}
use Rattle.rules.specs.Answers.{Answer}
use Rattle.rules.specs.Value.{Held as HeldRule, in_text, in_output}
use Rattle.source.specs.Meaning.{answer_meant}
use Rattle.source.specs.declared.Refusal.{Refusal}
use Rattle.output.specs.declared.Output.{Output as CodeOutput}
use Rattle.value.specs.declared.Held.{Held}
use Rattle.value.specs.declared.Held.TheVariants.{Text, Output}

abbrev pub held_meant : Held → HeldRule
held_meant (Text a e) = in_text a e
held_meant (Output a e) = in_output a e

abbrev pub held_answer : Result Held Refusal → Answer HeldRule
held_answer = answer_meant held_meant

-- the position that writing to an output came to, or the refusal
abbrev pub reached : Result (Unit {0}) Refusal → CodeOutput → Answer ℕ
reached r o = answer_meant (λ u. o.at) r
