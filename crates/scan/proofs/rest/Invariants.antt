-- The pass has come so far; while no byte has ended the run and bytes are left, more of them are looked at.
use Prim.Native.Nat.{◌+◌, ◌-◌}
use lib.ListN.{length}
use Rattle.scan.specs.Measuring.{Passing}
use Rattle.scan.proofs.rest.Given as goal

abbrev pub invariant-loop-run : goal.invariant-loop-run
invariant-loop-run l = Passing l.text l.at l.run

abbrev pub decreases-loop-run : goal.decreases-loop-run
decreases-loop-run l = length l.text - (l.at + l.run.looked)
