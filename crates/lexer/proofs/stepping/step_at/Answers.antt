-- The tests are those of `walking`, in its order; past them the step is one by the innermost opener (`walking_on`).
use mathlib.Core.Path.{◌≡◌, sym, ap, ◌∙◌}
use mathlib.Core.Bool.{true, false}
use mathlib.Core.List.{List}
use native.Mathlib.Omega.{arith}
use lib.ListN.{length}
use borrow.Author.Tests.{lt-ltb, le-leb}
use mathlib.Core.Option.{Option}
use Rattle.rules.specs.Spans.{Span, span, limit}
use Rattle.rules.specs.Answers.{Answer}
use Rattle.rules.specs.Lent.{Lexeme, array_places}
use Rattle.rules.specs.Walker.{walking, is_misplaced}
use Rattle.list.specs.Entries.{lent_meant}
use Rattle.lexer.specs.Memory.{opener_in, opener_meant, end_by}
use Rattle.lexer.specs.Stepping.{moved, nothing_if, moved_by}
use Rattle.lexer.proofs.Openers.{misplaced-found}
use Rattle.lexer.proofs.Walking.{fresh, walking-misplaced, walking_on, walking-inside, walking-shallow, end-still, stays_by, walks-by}
use Rattle.lexer.proofs.stepping.step_at.Goals as goal

pub returns-then-text-gt-LIMIT-clause-walks : goal.returns-then-text-gt-LIMIT-clause-walks
unfolding walking
returns-then-text-gt-LIMIT-clause-walks c =
    let a = c.args in
    let start = c.start_of-start.ensures in
    rw c.stays.ensures (stays_by a.doc a.position a.depth a.text.now (lent_meant a.stack.now) _ (rw (c.refuse.ensures, start, lt-ltb limit _ c.if-text-gt-LIMIT.true)) tt)

pub returns-then-misplaced-clause-walks : goal.returns-then-misplaced-clause-walks
returns-then-misplaced-clause-walks c =
    let a = c.args in
    let w = fresh a.doc a.position a.text.now (lent_meant a.stack.now) a.depth in
    let start = c.start_of-start.ensures in
    let misplaced : is_misplaced a.text.now w (lent_meant a.stack.now) ≡ true = misplaced-found a.text.now w (lent_meant a.stack.now) _ _ _ c.misplaced.ensures (c.places-places.ensures.places ∙ ap array_places c.list.ensures) (c.top-opener.ensures ∙ ap (opener_in a.depth) c.list-2.ensures) ∙ c.if-misplaced.true in
    rw c.stays-then-misplaced.ensures (stays_by a.doc a.position a.depth a.text.now (lent_meant a.stack.now) _ (rw (c.refuse-then-misplaced.ensures, start) (sym (walking-misplaced a.doc a.position a.text.now (lent_meant a.stack.now) a.depth (omega (arith, c.if-text-gt-LIMIT.false)) misplaced))) tt)

pub pack-at-requires : goal.pack-at-requires
pack-at-requires c =
    let a = c.args in
    let w = fresh a.doc a.position a.text.now (lent_meant a.stack.now) a.depth in
    let misplaced : is_misplaced a.text.now w (lent_meant a.stack.now) ≡ false = misplaced-found a.text.now w (lent_meant a.stack.now) _ _ _ c.misplaced.ensures (c.places-places.ensures.places ∙ ap array_places c.list.ensures) (c.top-opener.ensures ∙ ap (opener_in a.depth) c.list-2.ensures) ∙ c.if-misplaced.false in
    let inside = walking-inside a.doc a.position a.text.now (lent_meant a.stack.now) a.depth misplaced in
    (omega (arith, inside, c.if-text-gt-LIMIT.false), omega (arith, inside, c.if-text-gt-LIMIT.false))

pub returns-then-text-position-clause-walks : goal.returns-then-text-position-clause-walks
unfolding moved_by
returns-then-text-position-clause-walks c =
    let a = c.args in
    let w = fresh a.doc a.position a.text.now (lent_meant a.stack.now) a.depth in
    let misplaced : is_misplaced a.text.now w (lent_meant a.stack.now) ≡ false = misplaced-found a.text.now w (lent_meant a.stack.now) _ _ _ c.misplaced.ensures (c.places-places.ensures.places ∙ ap array_places c.list.ensures) (c.top-opener.ensures ∙ ap (opener_in a.depth) c.list-2.ensures) ∙ c.if-misplaced.false in
    let inside = walking-inside a.doc a.position a.text.now (lent_meant a.stack.now) a.depth misplaced in
    let at = c.pack-at.ensures in
    let on = walking_on a.doc a.position a.text.now (lent_meant a.stack.now) a.depth (omega (arith, c.if-text-gt-LIMIT.false)) misplaced in
    let ends = c.at_end.ensures ∙ ap (λ (s : Span). nothing_if (end_by s (opener_meant c.top-opener.result))) at ∙ ap (λ (l : List Lexeme). nothing_if (end_by (span a.doc a.position a.position) l)) (c.top-opener.ensures ∙ ap (opener_in a.depth) c.list-2.ensures) in
    rw c.stays-then-text-position.ensures (stays_by a.doc a.position a.depth a.text.now (lent_meant a.stack.now) _ (ap (λ (x : Answer (Option Lexeme)). moved x a.position a.depth) ends ∙ sym (on ∙ rw (le-leb (length a.text.now) a.position c.if-text-position.true))) (rw c.at_end.ensures (end-still _ _)))

pub step_on-requires : goal.step_on-requires
step_on-requires c =
    let a = c.args in
    let w = fresh a.doc a.position a.text.now (lent_meant a.stack.now) a.depth in
    let misplaced : is_misplaced a.text.now w (lent_meant a.stack.now) ≡ false = misplaced-found a.text.now w (lent_meant a.stack.now) _ _ _ c.misplaced.ensures (c.places-places.ensures.places ∙ ap array_places c.list.ensures) (c.top-opener.ensures ∙ ap (opener_in a.depth) c.list-2.ensures) ∙ c.if-misplaced.false in
    record {
      inside = omega (arith, c.if-text-position.false);
      small = omega (arith, c.if-text-gt-LIMIT.false);
      shallow = walking-shallow a.doc a.position a.text.now (lent_meant a.stack.now) a.depth misplaced;
      innermost = (c.top-opener.ensures ∙ ap (opener_in a.depth) c.list-2.ensures);
    }

pub returns-clause-walks : goal.returns-clause-walks
returns-clause-walks c =
    let a = c.args in
    let w = fresh a.doc a.position a.text.now (lent_meant a.stack.now) a.depth in
    let misplaced : is_misplaced a.text.now w (lent_meant a.stack.now) ≡ false = misplaced-found a.text.now w (lent_meant a.stack.now) _ _ _ c.misplaced.ensures (c.places-places.ensures.places ∙ ap array_places c.list.ensures) (c.top-opener.ensures ∙ ap (opener_in a.depth) c.list-2.ensures) ∙ c.if-misplaced.false in
    let on = walking_on a.doc a.position a.text.now (lent_meant a.stack.now) a.depth (omega (arith, c.if-text-gt-LIMIT.false)) misplaced in
    walks-by a.doc a.position a.depth a.text.now (lent_meant a.stack.now) c.step_on.result (c.step_on.ensures.steps.moves ∙ rw (c.top-opener.ensures ∙ ap (opener_in a.depth) c.list-2.ensures) (sym on)) c.step_on.ensures.steps.stacked
