-- A refused lexing is the whole result; after an accepted one, what was listed is read back and written.
use mathlib.Core.Path.{◌≡◌, refl, ap, ◌∙◌, subst}
use Rattle.std.proofs.Common.{ℕ, List, rules}
use lib.ListN.{take}
use Rattle.rules.specs.Lent.{Arrays, contents}
use Rattle.rules.specs.Answers.{Refusal, accepted, refused}
use Rattle.source.specs.Meaning.{refusal_meant, verdict_meant}
use Rattle.lexer.specs.Results.{lexed_meant}
use Rattle.list.specs.Entries.{list_meant, lent_meant}
use Rattle.tidy.proofs.Whole.{tidies-refused, tidies-written}
use Rattle.tidy.specs.Pieces.{WritesPieces}
use Rattle.tidy.proofs.tidy.Goals as goal

pub returns-in_default-clause-tidies : goal.returns-in_default-clause-tidies
returns-in_default-clause-tidies c =
    let why : Refusal = refusal_meant c.in_default.field-0 in
    let verdict : (lexed_meant c.lex-lexed.result).verdict ≡ refused why = rw c.in_default.is refl in
    tidies-refused c.args.output.now why c.lex-lexed.ensures.lexes verdict

pub returns-clause-tidies : goal.returns-clause-tidies
returns-clause-tidies c =
    let lex = c.lex-lexed in
    let writing = c.write_lexemes-answer in
    let verdict : (lexed_meant lex.result).verdict ≡ accepted = rw c.in-Ok.is refl in
    let read : contents (list_meant c.first-lexemes.result) ≡ take lex.result.lexemes (contents (lent_meant lex.new.list)) =
    c.first-lexemes.ensures ∙ ap (λ (a : Arrays). take lex.result.lexemes (contents a)) c.list.ensures in
    tidies-written (verdict_meant writing.result) writing.new.output.at lex.ensures.lexes verdict
    (subst (λ (out' : List ℕ). WritesPieces c.args.text.now (take lex.result.lexemes (contents (lent_meant lex.new.list))) c.args.output.now (verdict_meant writing.result) writing.new.output.at out') (search rules)
    (rw read at writing.ensures.written))
