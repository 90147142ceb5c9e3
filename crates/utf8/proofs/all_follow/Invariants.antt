-- `all_follow` tells that each byte of a block can stand behind the three before it. The invariant: those so far can.
use Prim.Native.Nat.{ℕ, ◌+◌, ◌<◌}
use mathlib.Core.Path.{◌≡◌}
use mathlib.Core.Bool.{true}
use Rattle.utf8.specs.Blocks.{FollowsAt}
use Rattle.utf8.proofs.all_follow.Given as goal

abbrev pub invariant-loop-j : goal.invariant-loop-j
invariant-loop-j l = l.all ≡ true → (k : ℕ) → k + 3 < l.j → FollowsAt l.block k
