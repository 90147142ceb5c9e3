-- The account of every byte, and of lent memory: in ample memory the steps of a call are those of the text, and in any memory they are a front of it.
use Prim.Native.Nat.{ℕ, ◌+◌}
use mathlib.Core.Path.{◌≡◌, refl, sym, ap, ◌∙◌}
use mathlib.Core.Bool.{true, false}
use mathlib.Core.List.{List, [], ◌∷◌, ◌++◌, append-nil}
use native.Mathlib.Omega.{arith}
use lib.ListN.{length}
use Rattle.rules.specs.Answers.{accepted}
use Rattle.rules.specs.Lexing.{Taken, trace, accepts, trace_in, joined, placed, lexing, lexed_of}
use Rattle.rules.proofs.Text.{decide}
use Rattle.laws.specs.Demand3.{is_short, Memory, Account, Consecutive, InOrder}
use Rattle.rules.proofs.Front.{Walked, walked-trace, Begins, begins-in, placed-bytes, front_bytes}
use Rattle.laws.proofs.Spaces.{few-spaces, steps-sum, bytes-sum, steps-bytes}
use Rattle.laws.proofs.Nesting.{deepest-twice}
use Rattle.laws.proofs.Lent.{in-ample, in-short, verdict-ended, verdict-short}

-- the spans of steps are consecutive
placed-consecutive : (doc at : ℕ) (ps : List Taken) → Consecutive doc at (placed doc at ps)
placed-consecutive doc at [] = tt
placed-consecutive doc at (p ∷ ps) = (refl, refl, omega arith, placed-consecutive doc (at + length p.bytes) ps)

-- which lent memory is ample, and where lexing stops in less
pub memory : (text : List ℕ) → accepts text ≡ true → (doc places stack : ℕ) → Memory text doc places stack
memory text a doc places stack =
    let ample : is_short text places stack ≡ false → (lexing doc places stack text).verdict ≡ accepted =
    λ e. verdict-ended doc places stack text (rw (in-ample places stack text e) a) in
    record {
      exactly = decide (is_short text places stack)
          (λ e. verdict-short doc places stack text (in-short places stack text e) ∙ sym e)
          (λ e. rw (ample e) (sym e));
      short = in-short places stack text;
      ample = ample;
    }

-- in ample memory every byte, step and lexeme is accounted for
pub account : (text : List ℕ) → accepts text ≡ true → (doc places stack : ℕ) → is_short text places stack ≡ false → Account text doc places stack
unfolding lexing lexed_of
account text a doc places stack s =
    let all : trace_in places stack text ≡ trace text = in-ample places stack text s in
    let w : Walked [] text (trace text) = walked-trace text in
    let ps : List Taken = (trace text).taken in
    let left = w.nothing_left a in
    let nothing_left_lem : joined ps ++ [] ≡ text = rw left.0 at w.whole in
    let whole : joined ps ≡ text = sym (append-nil (joined ps)) ∙ nothing_left_lem in
    let size : length (joined ps) ≡ length text = ap length whole in
    record {
      whole = rw all whole;
      bytes = rw all (omega (arith, bytes-sum ps));
      steps = rw all (steps-sum ps);
      steps_bytes = rw all (omega (arith, steps-bytes w.rest [] ps w.steps));
      steps_lexemes = rw all (omega (arith, steps-sum ps, (few-spaces w.rest [] ps w.steps).0));
      deepest = rw all (omega (arith, deepest-twice 0 ps, left.1));
    }

-- of any text, in any memory: no byte is passed over and none is read twice
pub in_order : (text : List ℕ) (doc places stack : ℕ) → InOrder text doc places stack
in_order text doc places stack =
    let ps : List Taken = (trace_in places stack text).taken in
    let front : Begins (joined ps) text = begins-in places stack text in
    record {
      consecutive = placed-consecutive doc 0 ps;
      bytes = placed-bytes doc 0 text front.rest ps front.whole;
      front = front_bytes (joined ps) text front;
    }
