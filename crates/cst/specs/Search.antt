-- What one lexeme does to the search for the closer, in the code's terms; and where the search stands after it.
use Rattle.std.specs.Prelude.{ℕ, ◌≡◌, cond, leb, length}
use Rattle.rules.specs.Refusals.{BadSpan, ListFull, NoString}
use Rattle.rules.specs.Spans.{nowhere, is_bad}
use Rattle.rules.specs.Answers.{Answer as AnswerRule, Verdict, given, refuse, accepted}
use Rattle.rules.specs.Kinds.{is_quote_open}
use Rattle.rules.specs.Lent.{Lexeme, Arrays, array_places, holding}
use Rattle.rules.specs.Parts.{Effect as EffectRule, closes, refuses, passes, yields, Parts, in_room}
use Rattle.source.specs.Meaning.{span_meant}
use Rattle.cst.specs.Meaning.{part_meant}
use Rattle.cst.specs.declared.search.Effect.{Effect}
use Rattle.cst.specs.declared.search.Effect.TheVariants.{Closes, Passes, Yields}

-- what is not refused
abbrev pub effect_meant : Effect → EffectRule
effect_meant Closes = closes
effect_meant (Passes o) = passes o.depth (span_meant o.hole)
effect_meant (Yields p) = yields (part_meant p)

-- an effect as an answer: the refusal, or what is not refused
abbrev pub answered : EffectRule → AnswerRule EffectRule
answered closes = given closes
answered (refuses n s) = refuse n s
answered (passes d h) = given (passes d h)
answered (yields p) = given (yields p)

-- the opener: "or a start that is no QuoteOpen, gives 50"
unfoldable pub opener_verdict : Lexeme → Verdict
opener_verdict l = cond (is_bad l.at) (refuse BadSpan nowhere) (cond (is_quote_open l.kind) accepted (refuse NoString l.at))

-- "31": a part for which there is no place
unfoldable pub or_full : (room count : ℕ) → EffectRule → EffectRule
or_full room count closes = closes
or_full room count (refuses n s) = refuses n s
or_full room count (passes d h) = passes d h
or_full room count (yields p) = cond (leb room count) (refuses ListFull p.at) (yields p)

-- what the search leaves, of the parts that there are with ample room
pub record Searched (p : Parts) (answer : AnswerRule ℕ) (n : ℕ) (parts parts' : Arrays) : Type 0 where
  pub answered : answer ≡ (in_room (array_places parts) p.found p.answer).answer
  pub counted : n ≡ length (in_room (array_places parts) p.found p.answer).found
  pub listed : parts' ≡ holding (in_room (array_places parts) p.found p.answer).found parts
