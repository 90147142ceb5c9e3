-- A run up to the next position: the rules' step there, and what it put to the stack.
use Rattle.std.specs.Prelude.{Result, Ok, Err}
use Prim.Native.Nat.{ℕ, ◌+◌, ◌<◌}
use mathlib.Core.Path.{◌≡◌, refl, sym, ap, ◌∙◌}
use mathlib.Core.List.{List}
use mathlib.Core.Logic.{⊎_elim}
use mathlib.Core.Bool.{Bool, true, false, not, ◌&&◌, false≢true}
use native.Mathlib.Nat.{zero-add}
use native.Mathlib.Omega.{arith}
use lib.Dec.{leb}
use lib.ListN.{length, drop}
use borrow.Author.Tests.{lt-leb}
use Rattle.rules.specs.Reasons.{number_of}
use Rattle.rules.specs.Refusals.{StackFull}
use Rattle.rules.specs.Spans.{span}
use Rattle.rules.specs.Kinds.{Space, is_space, is_opener}
use Rattle.rules.specs.Step.{step}
use Rattle.rules.specs.Lent.{lexeme, Lent, places_in}
use Rattle.rules.specs.Lexing.{depth_after}
use Rattle.rules.proofs.Text.{decide}
use Rattle.token.specs.Codes.{code_of}
use Rattle.lexer.specs.declared.Cursor.{Cursor}
use Rattle.sublexers.specs.declared.Fault.{Fault}
use Rattle.token.specs.declared.Token.{Token}
use Rattle.lexer.specs.declared.Ran.{Ran}
use Rattle.lexer.specs.Cursor.{no_room_of}
use Rattle.lexer.specs.Going.{State, state_at, Course, course_of, innermost_in, put_if, Steps}
use Rattle.sublexers.specs.Outcome.{Outcome, lexeme_to, refused_at, outcome}
use Rattle.lexer.specs.Running.{Refuses, by_text as refused_text, by_room, RunsBy, reached, halted}
use Rattle.lexer.proofs.Standing.{has_room}
use Rattle.lexer.proofs.Going.{advance-at, advance-depth, none_yet, goes-single}

-- the list has room, so it is the stack that has none
stack-lacks : (stack places : ℕ) (c : Cursor) (k number : ℕ) → c.lexemes < places → number ≡ no_room_of stack places c k → (number ≡ 0 → ⊥) →
    (is_opener k && leb stack c.depth ≡ true) × (number ≡ StackFull)
unfolding no_room_of
stack-lacks stack places c k number lt e z = decide (is_opener k && leb stack c.depth)
    (λ a. (a, e ∙ rw a))
    (λ a. absurd (z (e ∙ rw (a, lt-leb places c.lexemes lt, and-false (not (is_space k))))))
  where
    and-false : (b : Bool) → b && false ≡ false
    and-false true = refl
    and-false false = refl

module _ (doc : ℕ) (text : List ℕ) (from : Cursor) (list stack : Lent) where
  -- the rules' step there
  abbrev due : Outcome
  due = outcome from.at (step (innermost_in from.depth stack.arrays.kinds) (drop from.at text))

  -- it was refused by the text, or opens and the stack is full
  pub data RefusedOnce (f : Fault) : Type 0 where
    by_text : refused_at (number_of f.reason) f.start f.end ≡ due → RefusedOnce f
    by_stack : (k : ℕ) → lexeme_to k f.end ≡ due → is_opener k && leb (places_in stack) from.depth ≡ true → (number_of f.reason) ≡ StackFull → f.start ≡ from.at → RefusedOnce f

  -- nothing was put
  pub record SingleHalted (f : Fault) (stack' : Lent) : Type 0 where
    pub refuses : RefusedOnce f
    pub stacked : stack' ≡ stack

  -- it found a lexeme, for which there was room, and put it to the list unless it is a Space, and to the stack if it opens
  pub record SingleReached (c : Cursor) (k : ℕ) (list' stack' : Lent) : Type 0 where
    pub is : lexeme_to k c.at ≡ due
    pub depth : c.depth ≡ depth_after from.depth k
    pub room : is_opener k && leb (places_in stack) from.depth ≡ false
    pub listed : list' ≡ put_if (not (is_space k)) from.lexemes (lexeme k (span doc from.at c.at)) list
    pub stacked : stack' ≡ put_if (is_opener k) from.depth (lexeme k (span doc from.at c.at)) stack

  abbrev pub SingleBy : Cursor → Result Token Fault → (list' stack' : Lent) → Type 0
  SingleBy c (Err f) list' stack' = SingleHalted f stack'
  SingleBy c (Ok t) list' stack' = SingleReached c (code_of t) list' stack'

  abbrev pub Single : Ran → (list' stack' : Lent) → Type 0
  Single r list' stack' = SingleBy r.cursor r.end list' stack'

  abbrev course : Course
  course = course_of doc 0 text (from.at + 1) true false list stack

  abbrev first : State
  first = state_at from Space list stack

  module _ (inside : from.at < length text) (room : from.lexemes < places_in list) where
    refused-once : (f : Fault) → Refuses course first f → RefusedOnce f
    refused-once f (refused_text q) = by_text q
    refused-once f (by_room k q number z begin) =
        let full = stack-lacks (places_in stack) (places_in list) from k (number_of f.reason) room number z in
        by_stack k q full.0 full.1 begin

    stepped : (t : State) → Steps course first t → SingleReached t.cur t.kind t.list t.stack
    stepped t x =
        let k : ℕ = t.kind in
        let end : t.cur.at ≡ from.at + x.size = ap (λ (c : Cursor). c.at) x.cursor ∙ advance-at from k (from.at + x.size) in
        let begins : 0 + from.at ≡ from.at = zero-add _ in
        let ends : 0 + (from.at + x.size) ≡ t.cur.at = zero-add _ ∙ sym end in
        record {
          is = rw (x.is, end) refl;
          depth = ap (λ (c : Cursor). c.depth) x.cursor ∙ advance-depth from k (from.at + x.size);
          room = (has_room (places_in stack) (places_in list) from k x.room).0;
          listed = rw (begins, ends) at x.list;
          stacked = rw (begins, ends) at x.stack;
        }

    pub single_of : {c : Cursor} {end : Result Token Fault} {list' stack' : Lent} → RunsBy course first list' stack' c end → SingleBy c end list' stack'
    single_of (reached c t g x) = stepped _ (goes-single (omega arith) refl _ g (⊎_elim (λ l. l) (λ e. absurd (false≢true e)) x))
    single_of {list' = list'} {stack'} (halted c kind f g h o x) =
        let same : state_at c kind list' stack' ≡ first = none_yet (omega arith) _ g (omega (arith, h)) in
        record { refuses = refused-once f (rw same at x); stacked = ap (λ (s : State). s.stack) same }
