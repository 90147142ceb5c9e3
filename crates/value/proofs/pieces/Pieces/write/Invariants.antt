-- Nothing is said against the entries that are left; whatever writing them comes to, writing all of them comes to.
use Rattle.std.proofs.Common.{ℕ, List}
use Rattle.rules.specs.Answers.{Answer}
use Rattle.rules.specs.Lent.{contents}
use Rattle.list.specs.Entries.{list_meant, entries_left}
use Rattle.output.specs.Places.{SameBytes}
use Rattle.value.specs.Pieces.{PartsAccepted, AllWritten}
use Rattle.value.proofs.pieces.Pieces.write.Given as goal

abbrev pub invariant-loop-entry : goal.invariant-loop-entry
invariant-loop-entry l =
    record {
      accepted : PartsAccepted l.self.text.now (entries_left l.entry-iterator);
      written : (r : Answer ℕ) (out' : List ℕ) → AllWritten l.self.text.now l.self.indent (entries_left l.entry-iterator) l.output.at l.output.bytes.now r out'
          → AllWritten l.self.text.now l.self.indent (contents (list_meant l.self.parts)) l.initial.output.at l.initial.output.bytes.now r out';
      same : SameBytes l.initial.output l.output;
    }
