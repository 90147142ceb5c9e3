-- At depth 0 nothing is open; else the answer is what `state_of` ensures of the code below the depth.
use borrow.Author.Tests.{ne_eqb}
use Rattle.token.specs.Codes.{state_meant}
use Rattle.lexer.proofs.lent.top_state.Goals as goal

pub returns-then-depth-eq0 : goal.returns-then-depth-eq0
unfolding state_meant
returns-then-depth-eq0 c = rw c.if-depth-eq0.true

pub returns : goal.returns
returns c = rw (ne_eqb c.args.depth 0 c.if-depth-eq0.false) c.state_of.ensures
