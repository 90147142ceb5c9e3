-- Dashes are given back up to here; each turn is one more.
use Rattle.sublexers.proofs.Identifier.{Back}
use Rattle.sublexers.proofs.ident.give_back.Given as goal

abbrev pub invariant-loop-end : goal.invariant-loop-end
invariant-loop-end l = Back l.text l.at l.initial.end l.end

abbrev pub decreases-loop-end : goal.decreases-loop-end
decreases-loop-end l = l.end
