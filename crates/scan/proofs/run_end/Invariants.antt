-- The scan has come to here; each turn is one more byte of it.
use Rattle.scan.specs.Reach.{Reach}
use Rattle.scan.proofs.run_end.Given as goal

abbrev pub invariant-loop-i : goal.invariant-loop-i
invariant-loop-i g l = Reach (g.C.ByteClass.passes l.class) l.text l.at l.i
