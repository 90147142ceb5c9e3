-- A single step at a position, given a stack: what its answer means, what it leaves, and the step by its innermost opener alone.
use Rattle.std.specs.Prelude.{ℕ, ◌+◌, ◌≤◌, ◌<◌, ◌^◌, ◌≡◌, List, [], ◌∷◌, Bool, false, cond, not, ◌&&◌, ◌||◌, leb, ltb, length, drop, Option as CodeOption, Some, None, Result}
use Rattle.std.proofs.Math.Option.{Option, none, some}
use Rattle.rules.specs.Refusals.{StackFull}
use Rattle.rules.specs.Spans.{Span, span}
use Rattle.rules.specs.Answers.{Answer, Verdict, given, refused, refuse}
use Rattle.rules.specs.Kinds.{Nothing, is_opener}
use Rattle.rules.specs.Step.{Step, found, stop, step}
use Rattle.rules.specs.Lent.{Lexeme as LexemeRule, lexeme, Arrays, array_places}
use Rattle.rules.specs.Lexing.{note_of, depth_after}
use Rattle.rules.specs.Walker.{Kept, Walker, Walked, walking}
use Rattle.source.specs.Meaning.{span_meant, answer_meant}
use Rattle.source.specs.declared.Refusal.{Refusal}
use Rattle.token.specs.Codes.{code_of}
use Rattle.list.specs.Entries.{put_in}
use Rattle.lexer.specs.declared.TokenAt.{TokenAt}
use Rattle.lexer.specs.declared.Stepped.{Stepped}
use Rattle.lexer.specs.Memory.{opener_in, code_in, end_by}

-- a lexeme, or none where the text has ended
abbrev pub found_meant : CodeOption TokenAt → Option LexemeRule
found_meant (Some l) = some (lexeme (code_of l.token) (span_meant l.at))
found_meant None = none

abbrev pub step_answer : Result (CodeOption TokenAt) Refusal → Answer (Option LexemeRule)
step_answer = answer_meant found_meant

abbrev pub stepped_by : Result (CodeOption TokenAt) Refusal → (position depth : ℕ) → Stepped
stepped_by a position depth = record { answer = a; position = position; depth = depth }

-- the walker that stands there
abbrev pub walker_at : (doc position depth : ℕ) → Kept → Walker
walker_at doc position depth kept = record { doc = doc; at = position; depth = depth; kept = kept }

-- one step of a walker with a stack: the answer, the next position and depth, and the stack whole are the rule's
pub record Walks (text : List ℕ) (w : Walker) (stack : Arrays) (r : Stepped) (stack' : Arrays) : Type 0 where
  pub answer : step_answer r.answer ≡ (walking text w stack).answer
  pub position : r.position ≡ (walking text w stack).walker.at
  pub depth : r.depth ≡ (walking text w stack).walker.depth
  pub stacked : stack' ≡ (walking text w stack).stack

-- the answer, the next position and the next depth
pub record Moved : Type 0 where
  pub answer : Answer (Option LexemeRule)
  pub at : ℕ
  pub depth : ℕ

abbrev pub moved : Answer (Option LexemeRule) → (at depth : ℕ) → Moved
moved a at depth = record { answer = a; at = at; depth = depth }

abbrev pub moved_meant : Stepped → Moved
moved_meant r = moved (step_answer r.answer) r.position r.depth

abbrev pub moved_of : Walked → Moved
moved_of r = moved r.answer r.walker.at r.walker.depth

-- "40 with 0-0", by the code of the innermost opener
abbrev pub no_opener : List LexemeRule → Bool
no_opener [] = false
no_opener (l ∷ openers) = not (is_opener l.kind)

abbrev pub misplaced_by : List ℕ → (at depth places : ℕ) → List LexemeRule → Bool
misplaced_by text at depth places openers = ltb (length text) at || ltb places depth || no_opener openers

-- the answer at the text's end
abbrev pub nothing_if : Verdict → Answer (Option LexemeRule)
nothing_if (given u) = given none
nothing_if (refused r) = refused r

-- a lexeme, then 30
abbrev pub found_by : LexemeRule → (end at depth places : ℕ) → Moved
found_by l end at depth places =
    cond (is_opener l.kind && leb places depth) (moved (refuse StackFull l.at) at depth)
    (moved (given (some l)) end (depth_after depth l.kind))

-- the answer to a step that was refused
abbrev pub refused_by : Span → (number : ℕ) → List LexemeRule → Answer (Option LexemeRule)
refused_by s number openers = refused (record { number = number; at = s; note = note_of number openers })

abbrev pub step_by : (doc at depth places : ℕ) → List LexemeRule → Step → Moved
step_by doc at depth places openers (found k n) = found_by (lexeme k (span doc at (at + n))) (at + n) at depth places
step_by doc at depth places openers (stop number from n) = moved (refused_by (span doc (at + from) (at + from + n)) number openers) at depth

-- what is open to a step: the innermost code if it is an opener's, and else nothing
abbrev pub open_to : List LexemeRule → ℕ
open_to openers = cond (is_opener (code_in openers)) (code_in openers) Nothing

-- within the text, or at its end
unfoldable pub moved_by : (doc : ℕ) → List ℕ → (at depth places : ℕ) → List LexemeRule → Moved
moved_by doc text at depth places openers =
    cond (leb (length text) at) (moved (nothing_if (end_by (span doc at at) openers)) at depth)
    (step_by doc at depth places openers (step (open_to openers) (drop at text)))

-- the stack after an answer: an opener that was found is put at the depth before it
abbrev pub stack_by : Answer (Option LexemeRule) → (depth : ℕ) → Arrays → Arrays
stack_by (given (some l)) depth stack = cond (is_opener l.kind) (put_in depth l stack) stack
stack_by (given none) depth stack = stack
stack_by (refused r) depth stack = stack

-- a step in the text, by its innermost opener
pub record StepsOn (doc : ℕ) (text : List ℕ) (at depth : ℕ) (openers : List LexemeRule) (stack : Arrays) (r : Stepped) (stack' : Arrays) : Type 0 where
  pub moves : moved_meant r ≡ moved_by doc text at depth (array_places stack) openers
  pub stacked : stack' ≡ stack_by (step_answer r.answer) depth stack

-- the position lies in a text within the limit, what is open in the stack, and this is innermost
pub record CanStep (text : List ℕ) (at depth : ℕ) (openers : List LexemeRule) (stack : Arrays) : Type 0 where
  pub inside : at < length text
  pub small : length text < 2 ^ 48
  pub shallow : depth ≤ array_places stack
  pub innermost : openers ≡ opener_in depth stack
