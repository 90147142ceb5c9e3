-- The byte that ends an inner part tells strings from what is outside.
use Prim.Native.Nat.{◌+◌}
use mathlib.Core.List.{◌∷◌}
use mathlib.Core.Path.{refl, ap, ◌∙◌}
use native.Mathlib.Omega.{arith}
use lib.ListN.{drop, get_or}
use Rattle.rules.proofs.Runs.{drop-byte}
use Rattle.sublexers.specs.Outcome.{innermost_of}
use Rattle.sublexers.specs.Quotes.{inside_by}
use Rattle.sublexers.proofs.Outcomes.{before_last}
use Rattle.lexer.specs.declared.Mode.{Mode}
use Rattle.lexer.proofs.Steps.{step-outside, step-inside}
use Rattle.lexer.proofs.next.next.Goals as goal

pub returns-then-stop-eq0 : goal.returns-then-stop-eq0
returns-then-stop-eq0 c =
    let a = c.args in
    rw (step-outside (innermost_of a.mode.top) a.mode.stop (drop a.at a.text.now) (ap (λ (m : Mode). m.stop) c.requires.2) c.if-stop-eq0.true) c.next_normal.ensures

pub returns : goal.returns
returns c =
    let a = c.args in
    rw (
      step-inside (innermost_of a.mode.top) a.mode.stop a.mode.triple (drop a.at a.text.now) (ap (λ (m : Mode). m.stop) c.requires.2) c.if-stop-eq0.false (ap (λ (m : Mode). m.triple) c.requires.2),
      drop-byte a.text.now a.at (get_or a.text.now a.at 0) c.requires.1.inside refl,
    )
    (c.lex_in_string.ensures ∙ before_last a.at (inside_by a.mode.stop a.mode.triple (get_or a.text.now a.at 0 ∷ drop (a.at + 1) a.text.now)) (omega arith))
