-- Steps from a cursor on, up to a position or a kind: what the loop needs, and what it says of its end.
use Rattle.std.specs.Prelude.{ℕ, ◌+◌, ◌≤◌, ◌<◌, ◌^◌, ◌≡◌, true, false, cond, not, ◌||◌, List, ◌⊎◌, eqb, leb, length, drop, Option as CodeOption, Some, None, Result, Ok, Err}
use Rattle.rules.specs.Measuring.{measured}
use Rattle.rules.specs.Step.{step}
use Rattle.token.specs.Codes.{code_of}
use Rattle.rules.specs.Reasons.{number_of}
use Rattle.rules.specs.declared.refusal.Reason.{Reason}
use Rattle.token.specs.declared.State.{State as StateCode}
use Rattle.token.specs.declared.Token.{Token}
use Rattle.lexer.specs.Cursor.{no_room_of}
use Rattle.rules.specs.Lent.{Lent}
use Rattle.lexer.specs.Going.{State, state_at, stack_codes, Course, innermost_in, Goes}
use Rattle.lexer.specs.Memory.{TopState}
use Rattle.sublexers.specs.Outcome.{Outcome, lexeme_to, refused_at, outcome}
use Rattle.lexer.specs.declared.Behind.{Behind}
use Rattle.lexer.specs.declared.Behind.TheVariants.{Space as SpaceBehind, Blank as BlankBehind}
use Rattle.lexer.specs.declared.Cursor.{Cursor}
use Rattle.sublexers.specs.declared.Fault.{Fault}
use Rattle.lexer.specs.declared.Ran.{Ran}

-- the position and what is open lie inside what is lent, with this innermost; no count can overflow
pub record CanRun (w : Course) (s : State) (top : CodeOption StateCode) : Type 0 where
  pub small : w.shift + length w.text < 2 ^ 48
  pub before : w.stop ≤ length w.text
  pub inside : s.cur.at ≤ length w.text
  pub stack : s.cur.depth ≤ w.stack
  pub deepest : s.cur.depth ≤ s.cur.deepest
  pub steps : s.cur.lexemes + s.cur.spaces ≤ w.shift + s.cur.at
  pub dropped : s.cur.dropped ≤ w.shift + s.cur.at
  pub going : w.ends s.kind ≡ false
  pub innermost : TopState s.cur.depth (stack_codes s) top

-- there is no room for a lexeme
abbrev pub ran_full : Cursor → (at end : ℕ) → Reason → Ran
ran_full c at end reason = record { cursor = c; end = Err (record { end = end; reason = reason; start = at }) }

-- the whitespace at a position behind a lexeme, outside strings and before `stop`: a Space or a Blank, and where it ends. The byte is that which ends an inner part, 0 outside strings.
abbrev pub behind_of : List ℕ → (at stop byte : ℕ) → CodeOption Behind
behind_of text at stop byte =
    let run = measured (drop at text) in
    cond (not (eqb byte 0) || leb stop at) None (
    cond (eqb run.length 0) None (
    cond (leb 2 run.lines) (Some (BlankBehind (at + run.length))) (Some (SpaceBehind (at + run.length)))))

-- the rules' step where a run stands
abbrev pub due_at : Course → State → Outcome
due_at w s = outcome s.cur.at (step (innermost_in s.cur.depth (stack_codes s)) (drop s.cur.at w.text))

-- that step is refused: by the text, or there is no room for what it finds
pub data Refuses (w : Course) (s : State) (f : Fault) : Type 0 where
  by_text : refused_at (number_of f.reason) f.start f.end ≡ due_at w s → Refuses w s f
  by_room : (k : ℕ) → lexeme_to k f.end ≡ due_at w s → number_of f.reason ≡ no_room_of w.stack w.places s.cur k → (number_of f.reason ≡ 0 → ⊥) → f.start ≡ s.cur.at → Refuses w s f

-- what a run says: the steps that it took, and how they ended. They came to their end, the position or a kind, with the last step's token; or to a step that is refused.
pub data RunsBy (w : Course) (from : State) (list' stack' : Lent) : Cursor → Result Token Fault → Type 0 where
  reached : (c : Cursor) (t : Token) → Goes w from (state_at c (code_of t) list' stack') → (w.stop ≤ c.at) ⊎ (w.ends (code_of t) ≡ true) → RunsBy w from list' stack' c (Ok t)
  halted : (c : Cursor) (kind : ℕ) (f : Fault) → Goes w from (state_at c kind list' stack') → c.at < w.stop → w.ends kind ≡ false → Refuses w (state_at c kind list' stack') f → RunsBy w from list' stack' c (Err f)

abbrev pub Runs : (w : Course) (from : State) (list' stack' : Lent) → Ran → Type 0
Runs w from list' stack' r = RunsBy w from list' stack' r.cursor r.end

abbrev pub reached_at : Cursor → Token → Ran
reached_at c t = record { cursor = c; end = Ok t }
