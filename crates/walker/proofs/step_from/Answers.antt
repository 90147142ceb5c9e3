-- A refusal that is kept is given (`gives-walks`); a walker that keeps nothing takes a step of the lexer.
use Rattle.std.specs.Prelude.{Some}
use Rattle.list.specs.Entries.{lent_meant}
use Rattle.walker.specs.Meaning.{kept_meant}
use Rattle.walker.proofs.Keeping.{gives-walks}
use Rattle.walker.proofs.step_from.Goals as goal

pub returns-in-Some-clause-walks : goal.returns-in-Some-clause-walks
returns-in-Some-clause-walks c = rw c.in-Some.is (gives-walks c.args.text.now (lent_meant c.args.stack.now) c.args.doc c.args.position c.args.depth (kept_meant (Some c.in-Some.kept)) _ c.refusal.ensures)
