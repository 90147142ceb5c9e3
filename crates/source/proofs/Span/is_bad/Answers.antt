-- A start after the end is all that can be wrong with two words (`bad-of-words`).
use native.Mathlib.Omega.{arith}
use Rattle.rules.proofs.Spans.{bad-of-words}
use Rattle.source.proofs.Span.is_bad.Goals as goal

pub returns : goal.returns
returns c =
    let p = c.args.self in
    rw (c.end.ensures, c.start.ensures, bad-of-words p.low p.high (omega arith))
