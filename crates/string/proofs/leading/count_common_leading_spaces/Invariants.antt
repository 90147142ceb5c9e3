-- At each place the call is the indent from there on, with what the parts before it added (`indent-start`, `indent-on`, `indent-stop`).
use Rattle.std.proofs.Common.{◌≡◌, drop}
use Rattle.rules.specs.Lent.{contents}
use Rattle.rules.specs.Indent.{indent_call}
use Rattle.list.specs.Entries.{list_meant}
use Rattle.string.specs.Indents.{fewest_meant}
use Rattle.string.proofs.Lines.{indent_from}
use Rattle.string.proofs.leading.count_common_leading_spaces.Given as goal

abbrev pub invariant-loop-i : goal.invariant-loop-i
invariant-loop-i l =
    indent_call l.text (list_meant l.list) l.count ≡ indent_from l.text (fewest_meant l.n_spaces) (drop l.i (contents (list_meant l.parts)))
