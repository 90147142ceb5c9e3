-- The two words are those of the span, and the words of a span name that span (`span-of-words`).
use mathlib.Core.Path.{ap₂, ◌∙◌}
use native.Mathlib.Omega.{arith}
use Rattle.rules.specs.Spans.{span, span_of}
use Rattle.rules.proofs.Spans.{span-of-words}
use Rattle.lexer.proofs.pack.Goals as goal

pub returns : goal.returns
returns c =
    let s = span c.args.doc c.args.start c.args.end in
    ap₂ span_of (omega arith) (omega arith) ∙ span-of-words s (omega arith) (omega arith)
