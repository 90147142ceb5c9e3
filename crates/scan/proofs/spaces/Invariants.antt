-- All bytes so far are spaces; eight more are, or the pass ends among them; the last few are looked at by themselves.
use Prim.Native.Nat.{◌+◌, ◌-◌, ◌≤◌}
use lib.ListN.{length}
use Rattle.rules.specs.Text.{is}
use Rattle.scan.specs.Reach.{Reach}
use Rattle.scan.proofs.spaces.Given as goal

abbrev pub invariant-loop-looked : goal.invariant-loop-looked
invariant-loop-looked l = (l.at + l.looked ≤ length l.text) × Reach (is " ") l.text l.at (l.at + l.looked)

abbrev pub decreases-loop-looked : goal.decreases-loop-looked
decreases-loop-looked l = length l.text - (l.at + l.looked)
