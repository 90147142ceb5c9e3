-- A step of the walker by its innermost opener, what it writes by its answer, and what a turn of the loop tells of it.
use Prim.Native.Nat.{ℕ, zero, suc, ◌+◌, ◌≤◌, ◌<◌, ◌^◌}
use native.Mathlib.Omega.{arith}
use native.Mathlib.Nat.{add-zero}
use mathlib.Core.Path.{◌≡◌, refl, sym, ap, ◌∙◌}
use mathlib.Core.List.{List, [], ◌∷◌}
use mathlib.Core.Bool.{Bool, true, false, cond, ◌&&◌}
use mathlib.Core.Option.{Option, none, some}
use lib.Dec.{leb, ltb}
use lib.ListN.{length, drop, length-drop}
use borrow.Author.Tests.{le-ltb, le-leb, lt-leb, ltb-false, leb-false}
use Rattle.rules.specs.Reasons.{number_of}
use Rattle.rules.specs.Refusals.{StackFull, WrongForm}
use Rattle.rules.specs.Spans.{Span, span, limit}
use Rattle.rules.specs.Answers.{Answer, given, refused, refuse, Refusal, Verdict}
use Rattle.rules.specs.Kinds.{is_opener}
use Rattle.rules.specs.Step.{Step, found, stop, step}
use Rattle.rules.specs.Lent.{Lexeme, lexeme, Arrays, array_places, contents, Lent, lent}
use Rattle.rules.specs.Lexing.{stopped, at_end, innermost, depth_after, note_of, verdict_of}
use Rattle.rules.specs.Walker.{nothing, kept_refusal, Walker, Walked, walking, walked_fresh, walked_at, walked_step, walked_end, goes, opener_put, open_in, codes_of, is_misplaced}
use Rattle.rules.proofs.Text.{decide}
use Rattle.rules.proofs.Bounds.{found_inside, stop-inside}
use Rattle.lexer.specs.declared.Cursor.{Cursor}
use Rattle.sublexers.specs.declared.Fault.{Fault}
use Rattle.lexer.specs.declared.Stepped.{Stepped}
use Rattle.sublexers.specs.Outcome.{lexeme_to, refused_at, outcome}
use Rattle.list.specs.Entries.{put_in, first_of}
use Rattle.list.proofs.Entries.{put-there}
use Rattle.lexer.specs.Going.{innermost_in, put_if}
use Rattle.lexer.specs.Stepping.{step_answer, walker_at, Walks, Moved, moved, moved_meant, moved_of, no_opener, nothing_if, found_by, refused_by, step_by, open_to, moved_by, stack_by, CanStep}
use Rattle.lexer.specs.Memory.{opener_in, end_by}
use Rattle.lexer.proofs.Loop.{outcome-found, Stop, outcome-stop, unclosed-noted}
use Rattle.lexer.proofs.Single.{RefusedOnce, by_text, by_stack}
use Rattle.lexer.proofs.Openers.{opener-suc, open-suc, innermost-top, innermost-here, misplaced-top, none_of}

module _ (doc at : ℕ) (text : List ℕ) (stack : Arrays) where
  -- a walker that keeps nothing
  abbrev pub fresh : ℕ → Walker
  fresh depth = walker_at doc at depth nothing

  step_same : (depth : ℕ) → depth ≤ array_places stack → (st : Step) →
      moved_of (walked_step text (fresh depth) stack st) ≡ step_by doc at depth (array_places stack) (opener_in depth stack) st
  unfolding verdict_of
  step_same depth le (found k n) = decide (is_opener k && leb (array_places stack) depth) (λ e. rw e) (λ e. rw e)
  step_same zero le (stop number from n) = refl
  step_same (suc d) le (stop number from n) = rw (open-suc d stack le, opener-suc d stack) refl

  end-open : (d : ℕ) (l : Lexeme) (ls : List Lexeme) →
      moved_of (walked_end text (fresh (suc d)) stack (verdict_of doc at (l ∷ ls) (at_end (codes_of (l ∷ ls))))) ≡ moved (nothing_if (end_by (span doc at at) (l ∷ []))) at (suc d)
  unfolding verdict_of
  end-open d l ls = rw (unclosed-noted l.kind) (simp add-zero)

  end_same : (depth : ℕ) → depth ≤ array_places stack →
      moved_of (walked_at text (fresh depth) stack []) ≡ moved (nothing_if (end_by (span doc at at) (opener_in depth stack))) at depth
  unfolding verdict_of
  end_same zero le = refl
  end_same (suc d) le =
      ap (λ (ls : List Lexeme). moved_of (walked_end text (fresh (suc d)) stack (verdict_of doc at ls (at_end (codes_of ls))))) (open-suc d stack le)
      ∙ end-open d (first_of (drop d (contents stack))) (open_in stack d)
      ∙ rw (opener-suc d stack) refl

  rest-same : (depth : ℕ) → depth ≤ array_places stack → no_opener (opener_in depth stack) ≡ false →
      (s : List ℕ) → drop at text ≡ s → moved_of (walked_at text (fresh depth) stack s) ≡ moved_by doc text at depth (array_places stack) (opener_in depth stack)
  unfolding moved_by
  rest-same depth le o [] e =
      let over : length text ≤ at = omega (arith, length-drop at text, ap (λ (l : List ℕ). length l) e) in
      rw (le-leb (length text) at over) (end_same depth le)
  rest-same depth le o (b ∷ s) e =
      let l : length (drop at text) ≡ suc (length s) = ap (λ (l : List ℕ). length l) e in
      let inside : at < length text = omega (arith, length-drop at text, l) in
      rw (lt-leb (length text) at inside, ← innermost-top depth stack le o, e)
      (step_same depth le (step (innermost (codes_of (open_in stack depth))) (b ∷ s)))

  -- past 2 comes 40
  pub walking-misplaced : (depth : ℕ) → length text ≤ limit → is_misplaced text (fresh depth) stack ≡ true →
      moved_of (walking text (fresh depth) stack) ≡ moved (refuse WrongForm (span doc 0 0)) at depth
  unfolding walking
  walking-misplaced depth small e = rw (le-ltb limit (length text) small, e)

  -- past 2 and 40 a step is one by the innermost opener
  pub walking_on : (depth : ℕ) → length text ≤ limit → is_misplaced text (fresh depth) stack ≡ false →
      moved_of (walking text (fresh depth) stack) ≡ moved_by doc text at depth (array_places stack) (opener_in depth stack)
  unfolding walking
  walking_on depth small e =
      let three = none_of (ltb (length text) at) (ltb (array_places stack) depth) (no_opener (opener_in depth stack)) (sym (misplaced-top text (fresh depth) stack) ∙ e) in
      rw (le-ltb limit (length text) small, e) (rest-same depth (ltb-false (array_places stack) depth three.1) three.2 (drop at text) refl)

  -- and stands in the text or at its end
  pub walking-inside : (depth : ℕ) → is_misplaced text (fresh depth) stack ≡ false → at ≤ length text
  walking-inside depth e =
      let three = none_of (ltb (length text) at) (ltb (array_places stack) depth) (no_opener (opener_in depth stack)) (sym (misplaced-top text (fresh depth) stack) ∙ e) in
      ltb-false (length text) at three.0

  -- what is open stands in the stack
  pub walking-shallow : (depth : ℕ) → is_misplaced text (fresh depth) stack ≡ false → depth ≤ array_places stack
  walking-shallow depth e =
      let three = none_of (ltb (length text) at) (ltb (array_places stack) depth) (no_opener (opener_in depth stack)) (sym (misplaced-top text (fresh depth) stack) ∙ e) in
      ltb-false (array_places stack) depth three.1

-- what a step writes is told by its answer
module _ (text : List ℕ) (w : Walker) (stack : Arrays) where
  abbrev Told : Walked → Type 0
  Told r = r.stack ≡ stack_by r.answer w.depth stack

  either : (b : Bool) (x y : Walked) → (b ≡ true → Told x) → (b ≡ false → Told y) → Told (cond b x y)
  either true x y f g = f refl
  either false x y f g = g refl

  end-told : (v : Verdict) → Told (walked_end text w stack v)
  end-told (given u) = refl
  end-told (refused r) = refl

  goes-told : (l : Lexeme) → is_opener l.kind && leb (array_places stack) w.depth ≡ false → Told (goes text w stack l)
  unfolding opener_put
  goes-told l e = decide (is_opener l.kind)
      (λ o. rw (o, put-there w.depth l stack (leb-false (array_places stack) w.depth (rw o at e))))
      (λ o. rw o)

  step-told : (s : Step) → Told (walked_step text w stack s)
  step-told (stop number from n) = end-told (verdict_of w.doc w.at (open_in stack w.depth) (stopped number from n))
  step-told (found k n) = either (is_opener k && leb (array_places stack) w.depth) _ _ (λ e. refl) (λ e. goes-told (lexeme k (span w.doc w.at (w.at + n))) e)

  rest-told : (s : List ℕ) → Told (walked_at text w stack s)
  rest-told [] = end-told (verdict_of w.doc w.at (open_in stack w.depth) (at_end (codes_of (open_in stack w.depth))))
  rest-told (b ∷ s) = step-told (step (innermost (codes_of (open_in stack w.depth))) (b ∷ s))

  fresh-told : (r : Option Refusal) → Told (walked_fresh text w stack r)
  fresh-told (some r) = refl
  fresh-told none = either (ltb limit (length text)) _ _ (λ e. refl) (λ e.
      either (is_misplaced text w stack) _ _ (λ e. refl) (λ e. rest-told (drop w.at text)))

  pub walking-told : Told (walking text w stack)
  unfolding walking
  walking-told = fresh-told (kept_refusal w.doc w.kept)

-- an answer that is no lexeme
abbrev pub Still : Answer (Option Lexeme) → Type 0
Still (given (some l)) = ⊥
Still (given none) = Unit {0}
Still (refused r) = Unit {0}

still-stack : (x : Answer (Option Lexeme)) (depth : ℕ) (stack : Arrays) → Still x → stack ≡ stack_by x depth stack
still-stack (given (some l)) depth stack s = absurd s
still-stack (given none) depth stack s = refl
still-stack (refused r) depth stack s = refl

pub end-still : (at : Span) (openers : List Lexeme) → Still (nothing_if (end_by at openers))
end-still at [] = tt
end-still at (l ∷ openers) = tt

-- a step that moves as the rule does and leaves the stack that its answer says is the rule's
module _ (doc at depth : ℕ) (text : List ℕ) (stack : Arrays) (r : Stepped) where
  pub walks-by : {stack' : Arrays} → moved_meant r ≡ moved_of (walking text (walker_at doc at depth nothing) stack) → stack' ≡ stack_by (step_answer r.answer) depth stack →
      Walks text (walker_at doc at depth nothing) stack r stack'
  walks-by same stacked =
      let answer = ap (λ (m : Moved). m.answer) same in
      record {
        answer = answer;
        position = ap (λ (m : Moved). m.at) same;
        depth = ap (λ (m : Moved). m.depth) same;
        stacked = stacked ∙ rw answer (sym (walking-told text (walker_at doc at depth nothing) stack));
      }

  -- where the walker stays, nothing is written
  pub stays_by : moved_meant r ≡ moved_of (walking text (walker_at doc at depth nothing) stack) → Still (step_answer r.answer) → Walks text (walker_at doc at depth nothing) stack r stack
  stays_by same still = walks-by same (still-stack (step_answer r.answer) depth stack still)

-- a step in the text
module _ (doc : ℕ) {at depth : ℕ} {text : List ℕ} {openers : List Lexeme} {stack : Arrays} (can : CanStep text at depth openers stack) where
  abbrev here : Step
  here = step (open_to openers) (drop at text)

  left : 0 < length (drop at text)
  left = omega (arith, length-drop at text, can.inside)

  -- the innermost code is the opener's
  pub due-here : outcome at (step (innermost_in depth stack.kinds) (drop at text)) ≡ outcome at here
  due-here = rw can.innermost (ap (λ (k : ℕ). outcome at (step k (drop at text))) (innermost-here depth stack can.shallow))

  -- the walker moves by the step
  moved_here : moved_by doc text at depth (array_places stack) openers ≡ step_by doc at depth (array_places stack) openers here
  unfolding moved_by
  moved_here = rw (lt-leb (length text) at can.inside)

  module _ (k e : ℕ) (q : lexeme_to k e ≡ outcome at (step (innermost_in depth stack.kinds) (drop at text))) where
    sized : (n : ℕ) × (here ≡ found k n) × (e ≡ at + n)
    sized = outcome-found at k e here (q ∙ due-here)

    pub found-small : e < 2 ^ 48
    found-small =
        let i = found_inside (open_to openers) (drop at text) k sized.0 left sized.1 in
        omega (arith, length-drop at text, sized.2, i.1, can.inside, can.small)

    by-found : moved_by doc text at depth (array_places stack) openers ≡ found_by (lexeme k (span doc at e)) e at depth (array_places stack)
    by-found =
        moved_here
        ∙ ap (λ (s : Step). step_by doc at depth (array_places stack) openers s) sized.1
        ∙ ap (λ (j : ℕ). found_by (lexeme k (span doc at j)) j at depth (array_places stack)) (sym sized.2)

    pub found-on : is_opener k && leb (array_places stack) depth ≡ false → moved (given (some (lexeme k (span doc at e)))) e (depth_after depth k) ≡ moved_by doc text at depth (array_places stack) openers
    found-on room = sym (by-found ∙ rw room)

    pub full-on : is_opener k && leb (array_places stack) depth ≡ true → moved (refuse StackFull (span doc at e)) at depth ≡ moved_by doc text at depth (array_places stack) openers
    full-on room = sym (by-found ∙ rw room)

  module _ (f : Fault) (q : refused_at (number_of f.reason) f.start f.end ≡ outcome at (step (innermost_in depth stack.kinds) (drop at text))) where
    stops : Stop at here (number_of f.reason) f.start f.end
    stops = outcome-stop at (number_of f.reason) f.start f.end here (q ∙ due-here)

    stop-small : (f.start < 2 ^ 48) × (f.end < 2 ^ 48)
    stop-small =
        let i = stop-inside (open_to openers) (drop at text) (number_of f.reason) stops.from stops.size left stops.is in
        (omega (arith, length-drop at text, stops.starts, i, can.inside, can.small), omega (arith, length-drop at text, stops.ends, i, can.inside, can.small))

    stop-on : moved (refused_by (span doc f.start f.end) (number_of f.reason) openers) at depth ≡ moved_by doc text at depth (array_places stack) openers
    stop-on =
        ap (λ (i : ℕ). moved (refused_by (span doc i f.end) (number_of f.reason) openers) at depth) stops.starts
        ∙ ap (λ (j : ℕ). moved (refused_by (span doc (at + stops.from) j) (number_of f.reason) openers) at depth) stops.ends
        ∙ ap (λ (s : Step). step_by doc at depth (array_places stack) openers s) (sym stops.is)
        ∙ sym moved_here

  -- a step that was refused, by the text or for want of room on the stack
  module _ {from : Cursor} {list : Lent} (f : Fault) (a : from.at ≡ at) (d : from.depth ≡ depth) where
    pub refused-small : RefusedOnce doc text from list (lent stack.kinds stack.words) f → (f.start < 2 ^ 48) × (f.end < 2 ^ 48)
    refused-small (by_text q) = stop-small f (rw (a, d) at q)
    refused-small (by_stack k q full number start) = (omega (arith, start, a, can.inside, can.small), found-small k f.end (rw (a, d) at q))

    pub refused-on : RefusedOnce doc text from list (lent stack.kinds stack.words) f → moved (refused_by (span doc f.start f.end) (number_of f.reason) openers) at depth ≡ moved_by doc text at depth (array_places stack) openers
    refused-on (by_text q) = stop-on f (rw (a, d) at q)
    refused-on (by_stack k q full number start) =
        let s : f.start ≡ at = start ∙ a in
        rw (number, s) (rw (unnoted openers) (full-on k f.end (rw (a, d) at q) (rw d at full)))
      where
        unnoted : (os : List Lexeme) → note_of StackFull os ≡ none
        unnoted [] = refl
        unnoted (l ∷ os) = refl

-- what a turn of the loop puts on the stack, by its arrays
pub put-arrays : (b : Bool) (place : ℕ) (l : Lexeme) (m : Lent) → (put_if b place l m).arrays ≡ cond b (put_in place l m.arrays) m.arrays
put-arrays true place l m = refl
put-arrays false place l m = refl
