-- Nothing is said against the escape, so its bytes are written where they fit.
use Rattle.cst.proofs.Told.{escape-code}
use Rattle.value.proofs.OnePart.{escape-written}
use Rattle.value.proofs.piece.write_escape.Goals as goal

pub returns-clause-written : goal.returns-clause-written
returns-clause-written c =
    let written = c.unescape_into.ensures in
    escape-written c.args.indent c.args.output.now c.unescape_into.new.output c.unescape_into.result (escape-code c.args.escape) c.requires.escape written.onward (rw c.from.ensures at written.unescapes)
