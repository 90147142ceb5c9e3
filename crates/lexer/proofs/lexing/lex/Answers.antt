-- The two checks before the first step are laws of `Loop`; then `run` from the text's start to its end says what a whole call needs (`whole_of`).
use mathlib.Core.Path.{refl, sym, ap, ◌∙◌}
use native.Mathlib.Omega.{arith}
use Rattle.rules.specs.Lent.{Arrays}
use Rattle.utf8.specs.Meaning.{checked_meant}
use Rattle.lexer.specs.Memory.{opener_in}
use Rattle.lexer.specs.Results.{refused_with, verdict_at}
use Rattle.lexer.proofs.Loop.{can-stop-first, bad-inside, long-out, bad-out}
use Rattle.lexer.proofs.Opening.{nothing-open, at-start}
use Rattle.lexer.proofs.Whole.{whole_of}
use Rattle.lexer.proofs.lexing.lex.Goals as goal

pub returns-then-text-gt-LIMIT-clause-lexes : goal.returns-then-text-gt-LIMIT-clause-lexes
returns-then-text-gt-LIMIT-clause-lexes c = long-out _ _ _ _ c.stopped.result (omega (arith, c.if-text-gt-LIMIT.true)) (rw (at-start c.default-start.ensures) at c.stopped.ensures)

pub stopped-requires-in-Err : goal.stopped-requires-in-Err
stopped-requires-in-Err c = rw (at-start c.default-start.ensures) (can-stop-first c.args.text.now (bad-inside _ _ (sym c.check.ensures.first_bad ∙ ap checked_meant c.in-Err.is)) (omega (arith, c.if-text-gt-LIMIT.false)))

pub returns-in-Err-clause-lexes : goal.returns-in-Err-clause-lexes
returns-in-Err-clause-lexes c = bad-out _ _ _ _ _ c.stopped-in-Err.result (omega (arith, c.if-text-gt-LIMIT.false)) (sym c.check.ensures.first_bad ∙ ap checked_meant c.in-Err.is) (rw (at-start c.default-start.ensures) at c.stopped-in-Err.ensures)

pub run-ran-requires : goal.run-ran-requires
run-ran-requires c = rw (at-start c.default-start.ensures) (record { small = omega (arith, c.if-text-gt-LIMIT.false); before = omega arith; inside = omega arith; stack = omega arith; deepest = omega arith; steps = omega arith; dropped = omega arith; going = refl; innermost = nothing-open c.args.stack.now.kinds.now })

pub report_unclosed_delimiters-requires : goal.report_unclosed_delimiters-requires
report_unclosed_delimiters-requires c =
    let good = sym c.check.ensures.first_bad ∙ ap checked_meant c.in_default.is in
    let whole = rw c.in-Ok.is at (whole_of _ _ _ _ _ _ (omega (arith, c.ranges.doc.fits)) (omega (arith, c.if-text-gt-LIMIT.false)) good (rw (at-start c.default-start.ensures) at c.run-ran.ensures.runs)) in
    whole.finishes

pub stopped-requires-in-Err-end : goal.stopped-requires-in-Err-end
stopped-requires-in-Err-end c =
    let good = sym c.check.ensures.first_bad ∙ ap checked_meant c.in_default.is in
    let whole = rw c.in-Err-end.is at (whole_of _ _ _ _ _ _ (omega (arith, c.ranges.doc.fits)) (omega (arith, c.if-text-gt-LIMIT.false)) good (rw (at-start c.default-start.ensures) at c.run-ran.ensures.runs)) in
    whole.stops

pub returns-in-Ok-clause-lexes : goal.returns-in-Ok-clause-lexes
returns-in-Ok-clause-lexes c =
    let good = sym c.check.ensures.first_bad ∙ ap checked_meant c.in_default.is in
    let whole = rw c.in-Ok.is at (whole_of _ _ _ _ _ _ (omega (arith, c.ranges.doc.fits)) (omega (arith, c.if-text-gt-LIMIT.false)) good (rw (at-start c.default-start.ensures) at c.run-ran.ensures.runs)) in
    whole.ended c.report_unclosed_delimiters.result (c.report_unclosed_delimiters.ensures ∙ ap (λ (a : Arrays). verdict_at c.args.doc c.run-ran.result.cursor (opener_in c.run-ran.result.cursor.depth a)) c.list-in-Ok.ensures)

pub returns-in-Err-end-clause-lexes : goal.returns-in-Err-end-clause-lexes
returns-in-Err-end-clause-lexes c =
    let good = sym c.check.ensures.first_bad ∙ ap checked_meant c.in_default.is in
    let whole = rw c.in-Err-end.is at (whole_of _ _ _ _ _ _ (omega (arith, c.ranges.doc.fits)) (omega (arith, c.if-text-gt-LIMIT.false)) good (rw (at-start c.default-start.ensures) at c.run-ran.ensures.runs)) in
    whole.refused c.stopped-in-Err-end.result (c.stopped-in-Err-end.ensures ∙ ap (λ (a : Arrays). refused_with c.args.doc c.in-Err-end.fault c.run-ran.result.cursor (opener_in c.run-ran.result.cursor.depth a)) c.list-in-Err-end.ensures)
