-- `skip_mixed_blocks` passes over characters. The invariant: the bytes before `i + 3` have been read, the last character perhaps in part; each return goes back to where that begins.
use Prim.Native.Nat.{◌+◌, ◌-◌, ◌≤◌}
use lib.ListN.{length}
use Rattle.utf8.proofs.Reading.{ReadTo}
use Rattle.utf8.proofs.skip_mixed_blocks.Given as goal

abbrev pub invariant-loop-i : goal.invariant-loop-i
invariant-loop-i l = (l.i + 3 ≤ length l.text) × ReadTo l.text 0 l.i

abbrev pub decreases-loop-i : goal.decreases-loop-i
decreases-loop-i l = length l.text - l.i
