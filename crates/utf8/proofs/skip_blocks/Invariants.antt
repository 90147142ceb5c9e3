-- `skip_blocks` passes over blocks that `is_ascii` finds to be ASCII. The invariant: `rest` is left behind them.
use lib.ListN.{length}
use Rattle.utf8.specs.Ahead.{Passed}
use Rattle.utf8.proofs.skip_blocks.Given as goal

abbrev pub invariant-loop-rest : goal.invariant-loop-rest
invariant-loop-rest g l = Passed l.text l.rest

abbrev pub decreases-loop-rest : goal.decreases-loop-rest
decreases-loop-rest g l = length l.rest
