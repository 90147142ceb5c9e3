-- What was printed is the listing of the text.
use Rattle.std.proofs.Common.{rules, ◌≡◌, sym, refl, length}
use Rattle.rules.specs.Answers.{accepted}
use Rattle.rules.specs.Lent.{contents, places_in}
use Rattle.list.specs.Entries.{lent_in, lent_meant}
use Rattle.lexer.specs.Results.{lexed_meant}
use Rattle.report.specs.Printed.{listed_lines, text_listed}
use Rattle.report.proofs.Lines.{lines_listed}
use Rattle.report.proofs.listed.list_text.Goals as goal

pub returns-in-Ok : goal.returns-in-Ok
returns-in-Ok g c =
    let lex = c.lex-lexed in
    let ok : (lexed_meant lex.result).verdict ≡ accepted = rw c.in-Ok.is refl in
    let places : places_in (lent_in c.lend-list.result) ≡ 1024 = rw (sym c.lend-list.ensures.kinds, sym c.lend-list.ensures.words) refl in
    let stack : places_in (lent_in c.lend-stack.result) ≡ 64 = rw (sym c.lend-stack.ensures.kinds, sym c.lend-stack.ensures.words) refl in
    let e : listed_lines (length c.args.text.now) (lexed_meant lex.result) (contents (lent_meant lex.new.list)) ≡ text_listed c.args.text.now = rw (sym places, sym stack) (lines_listed lex.ensures.lexes ok) in
    rw (sym e) (search rules)
