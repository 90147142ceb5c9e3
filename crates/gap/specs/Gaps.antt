-- What the gaps mean.
use Rattle.std.specs.Prelude.{ℕ, List}
use Rattle.rules.specs.Text.{ascii}
use Rattle.gap.specs.declared.Gap.{Gap}
use Rattle.gap.specs.declared.Gap.TheVariants.{Nothing, LineEnd, Space}

abbrev pub gap_meant : Gap → List ℕ
gap_meant Nothing = ascii ""
gap_meant LineEnd = ascii "\n"
gap_meant Space = ascii " "
