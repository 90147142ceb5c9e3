-- What a step's answer means: its kind or number, and its offsets in the whole text.
use Rattle.std.specs.Prelude.{ℕ, ◌+◌, cond, leb, eqb, Option, Some, None, Result, Ok, Err}
use Rattle.rules.specs.Kinds.{Nothing}
use Rattle.rules.specs.Reasons.{number_of}
use Rattle.rules.specs.Refusals.{WrongForm}
use Rattle.rules.specs.Step.{Step as StepRule, found, stop}
use Rattle.token.specs.Codes.{code_of, state_code}
use Rattle.token.specs.declared.State.{State}
use Rattle.sublexers.specs.declared.Match.{Match}
use Rattle.sublexers.specs.declared.Fault.{Fault}

pub data Outcome : Type 0 where
  lexeme_to : (kind end : ℕ) → Outcome
  refused_at : (number start end : ℕ) → Outcome
  -- a code beside a token of another code: no step of the rules has this outcome
  miscoded : Outcome

-- of a step of the rules that begins at `at`
abbrev pub outcome : (at : ℕ) → StepRule → Outcome
outcome at (found k n) = lexeme_to k (at + n)
outcome at (stop number from n) = refused_at number (at + from) (at + from + n)

-- of the code's answer: a token and its code
abbrev pub step_meant : Result Match Fault → Outcome
step_meant (Ok m) = cond (eqb m.kind (code_of m.token)) (lexeme_to m.kind m.end) miscoded
step_meant (Err f) = refused_at (number_of f.reason) f.start f.end

-- the last position that there is: no text reaches it, and no position comes after it
abbrev pub last_position : ℕ
last_position = 0xFFFFFFFFFFFFFFFF

-- of a step of the rules at any position: 40 at the last one
abbrev pub anywhere : (at : ℕ) → StepRule → Outcome
anywhere at r = cond (leb last_position at) (refused_at WrongForm at at) (outcome at r)

-- the innermost opener's code
abbrev pub innermost_of : Option State → ℕ
innermost_of (Some s) = state_code s
innermost_of None = Nothing
