use mathlib.Core.Bool.{true, false}
use native.Mathlib.Omega.{arith}
use Rattle.scan.proofs.Reach.{read-more}
use Rattle.scan.proofs.run_in_block.Goals as goal
use Rattle.scan.proofs.run_in_block.Goals.{then-has, else-has}

pub loop-j-preserved : goal.loop-j-preserved
loop-j-preserved g c =
    let more = read-more (g.C.ByteClass.passes c.args.class) c.args.text.now c.args.at g.row.N c.loop-j.j in
    let here = rw c.from.ensures at c.has.ensures in
    rw c.min-first.ensures (elim c.if-has.branch [
      | then-has w ↦ more true (omega arith) (omega arith) here w.if-has.true c.loop-j.invariant w.here-is
      | else-has w ↦ more false (omega arith) (omega arith) here w.if-has.false c.loop-j.invariant w.here-is
    ])
