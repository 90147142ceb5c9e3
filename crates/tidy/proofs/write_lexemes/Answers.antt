use Rattle.std.specs.Prelude.{Ok, Err}
use mathlib.Core.Path.{refl, ◌∙◌}
use Rattle.rules.specs.Lent.{Lexeme, contents}
use Rattle.list.specs.Entries.{entry_meant, list_meant}
use Rattle.output.specs.Places.{Put}
use Rattle.tidy.proofs.Written.{piece_of, writing_start, writing-on, writing-stop, writing-end}
use Rattle.tidy.proofs.write_lexemes.Goals as goal

pub loop-entry-init : goal.loop-entry-init
loop-entry-init c =
    record {
      writing = rw (c.requires, c.into_iter-entry-iterator.ensures.into_iter_gives) (writing_start c.args.text.now (contents (list_meant c.args.lexemes)) c.args.output.now.bytes.now);
      same = refl;
    }

pub returns-in-Err-clause-written : goal.returns-in-Err-clause-written
returns-in-Err-clause-written c =
    let loop = c.loop-entry in
    let l : Lexeme = entry_meant c.in-Some.entry in
    let put : Put (piece_of c.args.text.now loop.first l) loop.output (Err c.in-Err.field-0) c.put_piece.new.output = rw (← c.gap_between-between.ensures, ← c.resolve-lexeme.ensures.part) (rw c.in-Err.is at c.put_piece.ensures) in
    rw c.refuse.ensures (writing-stop l (rw c.in-Some.ensures.steps at loop.invariant.writing) put)

pub loop-entry-preserved : goal.loop-entry-preserved
loop-entry-preserved c =
    let loop = c.loop-entry in
    let l : Lexeme = entry_meant c.in-Some.entry in
    let put : Put (piece_of c.args.text.now loop.first l) loop.output (Ok c.in-Ok.field-0) c.put_piece.new.output = rw (← c.gap_between-between.ensures, ← c.resolve-lexeme.ensures.part) (rw c.in-Ok.is at c.put_piece.ensures) in
    record {
      writing = writing-on l (rw c.in-Some.ensures.steps at loop.invariant.writing) put;
      same = c.put_piece.ensures.same ∙ loop.invariant.same;
    }

pub returns-clause-written : goal.returns-clause-written
returns-clause-written c = writing-end (rw c.in-None.ensures.steps.0 at c.loop-entry.invariant.writing)
