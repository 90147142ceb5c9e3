-- Each look carries the pass on.
use Rattle.scan.proofs.Measuring.{looked-none, look-on}
use Rattle.scan.proofs.first_two.Goals as goal

pub returns-then-not-goes_on-2 : goal.returns-then-not-goes_on-2
returns-then-not-goes_on-2 c = look-on (looked-none c.default-none.ensures) c.goes_on.ensures c.if-not-goes_on.false c.look.ensures c.further-first.ensures

pub returns : goal.returns
returns c = look-on (look-on (looked-none c.default-none.ensures) c.goes_on.ensures c.if-not-goes_on.false c.look.ensures c.further-first.ensures) c.goes_on-2.ensures c.if-not-goes_on-2.false c.look-2.ensures c.further.ensures
