-- The tests are the rule's, in its order.
use mathlib.Core.Path.{sym, ◌∙◌}
use native.Mathlib.Omega.{arith}
use Rattle.scan.proofs.Measuring.{measured-within}
use Rattle.lexer.proofs.Ahead.{behind-not, behind-none, behind-blank, behind-space}
use Rattle.lexer.proofs.lexing.behind.Goals as goal

pub returns-then-mode-stop : goal.returns-then-mode-stop
returns-then-mode-stop c = behind-not c.args.text.now c.args.at c.args.stop c.args.mode.stop c.if-mode-stop.true

pub returns-then-length-eq0 : goal.returns-then-length-eq0
returns-then-length-eq0 c = behind-none c.args.text.now c.args.at c.args.stop c.args.mode.stop c.whitespace_behind-run.result c.whitespace_behind-run.ensures c.if-mode-stop.false c.if-length-eq0.true

pub overflow_add-end : goal.overflow_add-end
overflow_add-end c =
    omega (arith, measured-within c.args.text.now c.args.at c.whitespace_behind-run.result c.whitespace_behind-run.ensures)

pub returns-then-is_blank : goal.returns-then-is_blank
returns-then-is_blank c = behind-blank c.args.text.now c.args.at c.args.stop c.args.mode.stop c.whitespace_behind-run.result c.whitespace_behind-run.ensures c.if-mode-stop.false c.if-length-eq0.false (sym c.is_blank.ensures ∙ c.if-is_blank.true)

pub returns : goal.returns
returns c = behind-space c.args.text.now c.args.at c.args.stop c.args.mode.stop c.whitespace_behind-run.result c.whitespace_behind-run.ensures c.if-mode-stop.false c.if-length-eq0.false (sym c.is_blank.ensures ∙ c.if-is_blank.false)
