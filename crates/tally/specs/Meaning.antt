-- What a tally means.
use Rattle.rules.specs.Tally.{Tally as TallyRule}
use Rattle.tally.specs.declared.Tally.{Tally}

abbrev pub tally_meant : Tally → TallyRule
tally_meant t = record { accepted = t.accepted; refused = t.refused; steps = t.steps }
