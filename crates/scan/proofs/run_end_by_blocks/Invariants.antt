-- The scan has come to here; each turn joins a block to it, or stops in one.
use Rattle.std.proofs.Common.{◌-◌}
use Rattle.scan.specs.Reach.{Reach}
use Rattle.scan.proofs.run_end_by_blocks.Given as goal

abbrev pub invariant-loop-i : goal.invariant-loop-i
invariant-loop-i g l = Reach (g.C.ByteClass.passes l.class) l.text l.at l.i

abbrev pub decreases-loop-i : goal.decreases-loop-i
decreases-loop-i g l = l.last - l.i
