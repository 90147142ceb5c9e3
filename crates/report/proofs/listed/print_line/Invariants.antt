-- The entries before this one are written.
use Rattle.std.specs.Io.KnownBytes.{Appends}
use Rattle.list.specs.Entries.{list_meant}
use Rattle.rules.specs.Lent.{contents}
use Rattle.report.specs.Printed.{entries_of}
use Rattle.report.proofs.listed.print_line.Given as goal

abbrev pub invariant-loop-i : goal.invariant-loop-i
invariant-loop-i g l = Appends (g.W.Write.contents l.initial.to) (g.W.Write.contents l.to) (entries_of g.C.Column.said (contents (list_meant l.list)) l.i)
