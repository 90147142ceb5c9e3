-- All bytes so far are spaces; the pass ends at the first that is none, or after as many as asked.
use Prim.Native.Nat.{◌+◌, ◌-◌, ◌≤◌}
use Rattle.rules.specs.Text.{is}
use Rattle.scan.specs.Reach.{Reach}
use Rattle.scan.proofs.look.Given as goal

abbrev pub invariant-loop-count : goal.invariant-loop-count
invariant-loop-count l = (l.count ≤ l.most) × Reach (is " ") l.text l.at (l.at + l.count)

abbrev pub decreases-loop-count : goal.decreases-loop-count
decreases-loop-count l = l.most - l.count
