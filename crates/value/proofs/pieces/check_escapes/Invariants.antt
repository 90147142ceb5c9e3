-- The first refusal of all is the one of the entries that are left.
use Rattle.std.proofs.Common.{◌≡◌}
use Rattle.rules.specs.Answers.{first_refusal}
use Rattle.rules.specs.Lent.{contents}
use Rattle.rules.specs.Value.{escape_verdict}
use Rattle.list.specs.Entries.{list_meant, entries_left}
use Rattle.value.proofs.pieces.check_escapes.Given as goal

abbrev pub invariant-loop-entry : goal.invariant-loop-entry
invariant-loop-entry l =
    first_refusal (escape_verdict l.text) (contents (list_meant l.parts)) ≡ first_refusal (escape_verdict l.text) (entries_left l.entry-iterator)
