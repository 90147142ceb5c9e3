use native.Mathlib.Omega.{arith}
use Rattle.scan.proofs.Measuring.{going, passing_more, passing_end}
use Rattle.scan.proofs.rest.Goals as goal

pub loop-run-preserved : goal.loop-run-preserved
loop-run-preserved c =
    let g = going c.loop-run.invariant c.goes_on.ensures c.loop-run-test.true in
    rw c.further-run.ensures (passing_more c.loop-run.invariant g.0 (omega (arith, g.1)) (omega (arith, g.1)) c.spaces.ensures)

pub returns : goal.returns
returns c = passing_end c.loop-run.invariant c.goes_on.ensures c.loop-run-test.false
