use native.Mathlib.Omega.{arith}
use Rattle.utf8.proofs.Ahead.{passed_to}
use Rattle.utf8.proofs.Reading.{start, over_block, to-boundary}
use Rattle.utf8.proofs.skip_mixed_blocks.Goals as goal

pub loop-i-init : goal.loop-i-init
loop-i-init c = (c.requires.0, start _ _ (omega arith) c.requires.1)

pub loop-i-preserved : goal.loop-i-preserved
loop-i-preserved c = (
  omega arith,
  over_block _ _ 64 (omega arith) (omega arith) (c.mixed.ensures c.if-mixed.true) c.loop-i.invariant.1,
)

pub returns : goal.returns
returns c = rw c.last_boundary.ensures (passed_to _ (to-boundary _ c.loop-i.invariant.1))
