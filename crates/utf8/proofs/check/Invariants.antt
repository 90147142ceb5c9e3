-- `check` meets its contract. The invariant: behind whole characters `rest` is left.
use lib.ListN.{length}
use Rattle.utf8.specs.Ahead.{Passed}
use Rattle.utf8.proofs.check.Given as goal

abbrev pub invariant-loop-rest : goal.invariant-loop-rest
invariant-loop-rest l = Passed l.text l.rest

abbrev pub decreases-loop-rest : goal.decreases-loop-rest
decreases-loop-rest l = length l.rest
