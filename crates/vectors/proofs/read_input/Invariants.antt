-- Each turn reads a byte or more.
use Rattle.std.specs.Prelude.{◌≤◌, ◌-◌, length}
use Rattle.vectors.proofs.read_input.Given as goal

abbrev pub invariant-loop-done : goal.invariant-loop-done
invariant-loop-done g l = l.done ≤ length l.room

abbrev pub decreases-loop-done : goal.decreases-loop-done
decreases-loop-done g l = length l.room - l.done
