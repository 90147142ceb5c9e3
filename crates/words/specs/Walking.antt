-- What a walker keeps and its steps as words for C.
use Rattle.std.specs.Prelude.{ℕ, min, ◌≡◌, cond, ◌&&◌, List, leb, ltb, eqb, length, Option as CodeOption, Result, Ok, Err}
use Rattle.std.proofs.Math.Option.{Option, none, some}
use Rattle.rules.specs.Refusals.{NotUtf8, TooLong, WrongForm}
use Rattle.rules.specs.Spans.{span, low, high, span_of, limit}
use Rattle.rules.specs.Answers.{Refusal, refusal, Answer, given, refused, refuse}
use Rattle.rules.specs.Lent.{Lexeme, lexeme, Arrays}
use Rattle.rules.specs.Walker.{Kept, nothing, too_long, not_utf8, Walked, stays, walking}
use Rattle.lexer.specs.Stepping.{walker_at}
use Rattle.walker.specs.Meaning.{kept_meant}
use Rattle.walker.specs.declared.Kept.{Kept as CodeKept}
use Rattle.words.specs.Refusals.{note_in, note_if_set, no_refusal_said}
use Rattle.words.specs.declared.refusals.RefusalWords.{RefusalWords}
use Rattle.words.specs.declared.walking.SteppedWords.{SteppedWords}
use Rattle.words.specs.declared.walking.NotKept.{NotKept}

-- a refusal that is kept, if there is one
abbrev pub kept_said : Option Refusal → RefusalWords
kept_said none = no_refusal_said
kept_said (some r) = record { refused = 1; number = r.number; low = low r.at; high = high r.at }

-- what a walker of a document keeps from an opening: 2 at 0-0, or 1 with the empty span where the bad sequence begins
abbrev pub kept_as : (doc : ℕ) → Kept → RefusalWords
kept_as doc nothing = kept_said none
kept_as doc too_long = kept_said (some (refusal TooLong (span doc 0 0)))
kept_as doc (not_utf8 at) = kept_said (some (refusal NotUtf8 (span doc at at)))

-- by the number, where the span is empty at a position
abbrev pub told_at : (number at : ℕ) → Option Kept
told_at number at = cond (eqb number NotUtf8) (some (not_utf8 at)) (cond (eqb number TooLong && eqb at 0) (some too_long) none)

-- what words tell that a walker keeps; none where no walker of the document keeps anything of the kind
unfoldable pub told_by : (doc kept number low high : ℕ) → Option Kept
told_by doc kept number l h =
    cond (eqb kept 0 && eqb number 0 && eqb l 0 && eqb h 0) (some nothing) (
    cond (eqb kept 1 && eqb (span_of l h).doc doc && eqb (span_of l h).start (span_of l h).end) (told_at number (span_of l h).start) none)

abbrev pub told_meant : Result (CodeOption CodeKept) NotKept → Option Kept
told_meant (Ok k) = some (kept_meant k)
told_meant (Err e) = none

-- a step by what words tell; where they tell nothing, 2 and then 40, and nothing changes
abbrev pub walking_told : List ℕ → (doc position depth : ℕ) → Option Kept → (stack : Arrays) → Walked
walking_told text doc at depth (some k) stack = walking text (walker_at doc at depth k) stack
walking_told text doc at depth none stack = stays text (walker_at doc at depth nothing) stack (refuse (cond (ltb limit (length text)) TooLong WrongForm) (span doc 0 0))

-- a lexeme where `answer` is 0, "ended" where it is 1, else a refusal
abbrev pub step_in : SteppedWords → Answer (Option Lexeme)
step_in w =
    cond (eqb w.answer 0) (given (some (lexeme w.number (span_of w.low w.high)))) (
    cond (eqb w.answer 1) (given none)
    (refused (record { number = w.number; at = span_of w.low w.high; note = note_in w.note })))

-- number and span are said unless the walk ended
abbrev pub unless_ended : (answer word : ℕ) → ℕ
unless_ended answer word = cond (eqb answer 1) 0 word

-- the canonical form: a refusal is 2, and it alone has a note
abbrev pub canonical_stepped : SteppedWords → SteppedWords
canonical_stepped w = record {
  answer = min w.answer 2;
  number = unless_ended w.answer w.number;
  low = unless_ended w.answer w.low;
  high = unless_ended w.answer w.high;
  note = note_if_set (cond (leb w.answer 1) 0 1) w.note;
  position = w.position;
  depth = w.depth;
}

-- words in that form with this answer, position and depth
pub record SteppedAs (a : Answer (Option Lexeme)) (at deep : ℕ) (w : SteppedWords) : Type 0 where
  pub answer : step_in w ≡ a
  pub position : w.position ≡ at
  pub depth : w.depth ≡ deep
  pub canonical : w ≡ canonical_stepped w

-- words with the answer, the position and the depth of a step, and the stack after it
pub record StepsTo (step : Walked) (w : SteppedWords) (stack' : Arrays) : Type 0 where
  pub answer : step_in w ≡ step.answer
  pub position : w.position ≡ step.walker.at
  pub depth : w.depth ≡ step.walker.depth
  pub stacked : stack' ≡ step.stack
