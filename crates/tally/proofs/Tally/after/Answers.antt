-- The rule's case is the answer's; each count is the one before or the sum that stops at its top.
use native.Mathlib.Omega.{arith}
use Rattle.rules.specs.Tally.{tallied}
use Rattle.tally.proofs.Counts.{same-counts}
use Rattle.tally.proofs.Tally.after.Goals as goal

pub returns-in-Ok : goal.returns-in-Ok
unfolding tallied
returns-in-Ok c = rw c.in-Ok.is (same-counts (omega (arith, c.saturating_add-in-Ok.ensures)) (omega arith) (omega (arith, c.saturating_add.ensures)))

pub returns-in-Err : goal.returns-in-Err
unfolding tallied
returns-in-Err c = rw c.in-Err.is (same-counts (omega arith) (omega (arith, c.saturating_add-in-Err.ensures)) (omega (arith, c.saturating_add.ensures)))
