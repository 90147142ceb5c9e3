-- Where the text was answered, it was by the call.
use Rattle.std.proofs.Common.{arith}
use Rattle.std.proofs.lemmas.Grind.{common_steps}
use Rattle.report.proofs.Answered.{answered_ok}
use Rattle.report.proofs.answer.answer.Goals as goal
use Rattle.report.proofs.answer.answer.Goals.{in-Some, in-None}

pub returns-clause-answered : goal.returns-clause-answered
returns-clause-answered g c = elim c.match-branch-2.branch [
  | in-Some w ↦ rw (w.write-is, w.refusals-is) (answered_ok g.F.FnMut _ _ _ _ _ _ _ _ _ _ (rw w.written-is at c.map_err.ensures.variant) w.write-written.ensures (rw w.in-Some.is at c.in_ok-text.ensures))
  | in-None w ↦ grind (arith, common_steps)
]
