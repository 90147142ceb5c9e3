-- What is measured lies inside the text.
use native.Mathlib.Omega.{arith}
use Rattle.scan.proofs.Measuring.{measured-within}
use Rattle.sublexers.proofs.space.lex_in_space.Goals as goal

pub overflow_add-end : goal.overflow_add-end
overflow_add-end c = omega (arith, measured-within c.args.text.now c.args.at c.whitespace-run.result c.whitespace-run.ensures)
