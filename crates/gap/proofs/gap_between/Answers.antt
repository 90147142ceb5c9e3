-- The tests are those of the rule, in its order.
use mathlib.Core.Path.{◌≡◌}
use mathlib.Core.Bool.{true, false, ◌||◌}
use lib.Dec.{eqb}
use Rattle.rules.specs.Kinds.{Blank, Shebang, LineComment}
use Rattle.token.specs.Codes.{joins_next}
use Rattle.gap.proofs.Rule.{gap-joins}
use Rattle.gap.proofs.gap_between.Goals as goal

pub returns-then-first-second : goal.returns-then-first-second
returns-then-first-second c =
    let a = c.args.first in
    let b = c.args.second in
    let nothing : eqb a Blank || eqb b Blank || joins_next a ≡ true = rw (← c.joins_next.ensures) c.if-first-second.true in
    rw (gap-joins a b, nothing)

pub returns-then-first : goal.returns-then-first
returns-then-first c =
    let a = c.args.first in
    let b = c.args.second in
    let some-gap : eqb a Blank || eqb b Blank || joins_next a ≡ false = rw (← c.joins_next.ensures) c.if-first-second.false in
    let line-end : eqb a Shebang || eqb a LineComment ≡ true = c.if-first.true in
    rw (gap-joins a b, some-gap, line-end)

pub returns : goal.returns
returns c =
    let a = c.args.first in
    let b = c.args.second in
    let some-gap : eqb a Blank || eqb b Blank || joins_next a ≡ false = rw (← c.joins_next.ensures) c.if-first-second.false in
    let space : eqb a Shebang || eqb a LineComment ≡ false = c.if-first.false in
    rw (gap-joins a b, some-gap, space)
