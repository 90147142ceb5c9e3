-- As many lexemes stand in the arrays as there are places (`places-length`).
use mathlib.Core.Path.{sym, ◌∙◌}
use Rattle.rules.proofs.Listed.{places-length}
use Rattle.list.proofs.List.places.Goals as goal

pub returns-clause-entries : goal.returns-clause-entries
returns-clause-entries c = c.places.ensures.places ∙ sym (places-length c.args.self.kinds.now c.args.self.words.now)
