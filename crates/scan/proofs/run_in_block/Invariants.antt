-- So many bytes of the block are read.
use Rattle.std.proofs.Common.{◌≡◌, drop}
use Rattle.rules.specs.Text.{run}
use Rattle.scan.proofs.Reach.{read}
use Rattle.scan.proofs.run_in_block.Given as goal

abbrev pub invariant-loop-j : goal.invariant-loop-j
invariant-loop-j g l = l.first ≡ read g.row.N (run (g.C.ByteClass.passes l.class) (drop l.at l.text)) l.j
