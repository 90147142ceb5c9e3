-- The pieces before the entries that are left are written; each piece adds to them, or ends the writing.
use Rattle.rules.specs.Lent.{contents}
use Rattle.list.specs.Entries.{list_meant, entries_left}
use Rattle.output.specs.Places.{SameBytes}
use Rattle.tidy.proofs.Written.{Writing}
use Rattle.tidy.proofs.write_lexemes.Given as goal

abbrev pub invariant-loop-entry : goal.invariant-loop-entry
invariant-loop-entry l =
    record {
      writing : Writing l.text (contents (list_meant l.lexemes)) (entries_left l.entry-iterator) l.initial.output.bytes.now l.output.bytes.now l.output.at l.first;
      same : SameBytes l.initial.output l.output;
    }
