-- "The walker, opened with a text and an id".
use Rattle.std.specs.Prelude.{ℕ, ◌+◌, List, [], ◌∷◌, map, reverse, Bool, cond, not, ◌&&◌, ◌||◌, leb, ltb, eqb, take, drop, length}
use Rattle.std.proofs.Math.Option.{Option, none, some}
use Rattle.rules.specs.Utf8.{first_bad}
use Rattle.rules.specs.Refusals.{NotUtf8, TooLong, StackFull, WrongForm}
use Rattle.rules.specs.Spans.{span, limit}
use Rattle.rules.specs.Answers.{Refusal, refusal, Answer, given, refused, refuse, Verdict}
use Rattle.rules.specs.Lent.{Lexeme, lexeme, Arrays, array_places, contents, put_at}
use Rattle.rules.specs.Kinds.{is_opener}
use Rattle.rules.specs.Step.{Step, found, stop, step}
use Rattle.rules.specs.Lexing.{stopped, at_end, innermost, depth_after, verdict_of}

-- "keeps a refusal 2 or 1 met there": what a walker keeps from its opening
pub data Kept : Type 0 where
  nothing : Kept
  too_long : Kept
  not_utf8 : (at : ℕ) → Kept

-- what a walker has beside the text that it borrows: its document id, position and depth, and what it keeps from its opening
pub record Walker : Type 0 where
  pub doc : ℕ
  pub at : ℕ
  pub depth : ℕ
  pub kept : Kept

abbrev pub bad_at : Option ℕ → Kept
bad_at none = nothing
bad_at (some at) = not_utf8 at

abbrev pub kept_of : List ℕ → Kept
kept_of text = cond (ltb limit (length text)) too_long (bad_at (first_bad text))

unfoldable pub opening : (doc : ℕ) → List ℕ → Walker
opening doc text = record { doc = doc; at = 0; depth = 0; kept = kept_of text }

-- refusal 1 at a position; 40 where no span can have it, which no opening keeps
unfoldable pub kept_bad : (doc at : ℕ) → Refusal
kept_bad doc at = cond (leb at limit) (refusal NotUtf8 (span doc at at)) (refusal WrongForm (span doc 0 0))

-- the refusal that is kept
abbrev pub kept_refusal : (doc : ℕ) → Kept → Option Refusal
kept_refusal doc nothing = none
kept_refusal doc too_long = some (refusal TooLong (span doc 0 0))
kept_refusal doc (not_utf8 at) = some (kept_bad doc at)

-- a step's answer: a lexeme, "a Space included"; or none, "ended"
pub record Walked : Type 0 where
  pub answer : Answer (Option Lexeme)
  pub walker : Walker
  pub stack : Arrays

-- what the stack has open, innermost first
abbrev pub open_in : (stack : Arrays) (depth : ℕ) → List Lexeme
open_in stack depth = reverse (take depth (contents stack))

abbrev pub codes_of : List Lexeme → List ℕ
codes_of = map (λ l. l.kind)

-- "40 with 0-0 when the position is past the end, the depth is above the stack's places, or the innermost opener's code is none of 5 to 8, 14, 33, 35, 37"
unfoldable pub is_misplaced : List ℕ → Walker → (stack : Arrays) → Bool
is_misplaced text w stack =
    ltb (length text) w.at
    || ltb (array_places stack) w.depth
    || not (eqb w.depth 0) && not (is_opener (innermost (codes_of (open_in stack w.depth))))

-- "Only an opener writes to the stack, at the place numbered by the depth before it"
unfoldable pub opener_put : (depth : ℕ) → Lexeme → Arrays → Arrays
opener_put depth l stack = cond (is_opener l.kind) (put_at depth l stack) stack

module _ (text : List ℕ) (w : Walker) (stack : Arrays) where
  -- "a refused step changes nothing"; nor does the end
  abbrev pub stays : Answer (Option Lexeme) → Walked
  stays a = record { answer = a; walker = w; stack = stack }

  abbrev pub goes : Lexeme → Walked
  goes l = record {
    answer = given (some l);
    walker = record { doc = w.doc; at = l.at.end; depth = depth_after w.depth l.kind; kept = w.kept };
    stack = opener_put w.depth l stack;
  }

  -- "at the end it gives 25 to 28 or else \"ended\""
  abbrev pub walked_end : Verdict → Walked
  walked_end (given u) = stays (given none)
  walked_end (refused r) = stays (refused r)

  -- a lexeme, then 30
  abbrev pub walked_step : Step → Walked
  walked_step (stop number from n) = walked_end (verdict_of w.doc w.at (open_in stack w.depth) (stopped number from n))
  walked_step (found k n) =
      let l = lexeme k (span w.doc w.at (w.at + n)) in
      cond (is_opener k && leb (array_places stack) w.depth) (stays (refuse StackFull l.at)) (goes l)

  abbrev pub walked_at : List ℕ → Walked
  walked_at [] = walked_end (verdict_of w.doc w.at (open_in stack w.depth) (at_end (codes_of (open_in stack w.depth))))
  walked_at (b ∷ s) = walked_step (step (innermost (codes_of (open_in stack w.depth))) (b ∷ s))

  -- "Before that a step gives 2, then 40"
  abbrev pub walked_fresh : Option Refusal → Walked
  walked_fresh (some r) = stays (refused r)
  walked_fresh none =
      cond (ltb limit (length text)) (stays (refuse TooLong (span w.doc 0 0))) (
      cond (is_misplaced text w stack) (stays (refuse WrongForm (span w.doc 0 0)))
      (walked_at (drop w.at text)))

-- one step of a walker over its text, with a stack in two arrays
unfoldable pub walking : (text : List ℕ) → Walker → (stack : Arrays) → Walked
walking text w stack = walked_fresh text w stack (kept_refusal w.doc w.kept)
