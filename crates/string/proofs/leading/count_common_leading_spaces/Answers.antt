-- Where no part is refused the call goes on behind it with what it adds; a part that is refused stops it.
use Rattle.std.proofs.Common.{◌≡◌, ◌+◌, drop, sym, ◌∙◌, ap, arith, rules, List, ℕ}
use Rattle.rules.specs.Answers.{refused, accepted}
use Rattle.rules.specs.Lent.{contents}
use Rattle.rules.specs.Indent.{part_verdict, string_next, is_string_part}
use Rattle.source.specs.Meaning.{count_meant, refusal_meant}
use Rattle.list.specs.Entries.{entry_meant, list_meant}
use Rattle.list.proofs.Entries.{place_on}
use Rattle.string.specs.Indents.{fewest_meant, part_indents}
use Rattle.string.proofs.Lines.{part-accepted, part_same, part-refused, next_first, indent_from, indent-start, indent-on, indent-stop}
use Rattle.string.proofs.leading.count_common_leading_spaces.Goals as goal

pub loop-i-init : goal.loop-i-init
loop-i-init c =
    let a = c.args in
    rw c.first-parts.ensures (indent-start a.text.now (list_meant a.list) a.count)

pub returns-in_err-part : goal.returns-in_err-part
returns-in_err-part c =
    let text = c.args.text.now in
    let ls = contents (list_meant c.first-parts.result) in
    let ns = fewest_meant c.loop-i.n_spaces in
    let entry = entry_meant c.get.result in
    let here = place_on ls c.loop-i.i entry (omega (arith, c.loop-i-test.true, c.places-i-end.ensures.entries)) c.get.ensures in
    let no_part = part-refused text entry _ c.in_err-part.ensures in
    let stops : count_meant c.from_residual.result ≡ refused (refusal_meant c.in_err-part.field-0.0) = search rules in
    stops ∙ sym (c.loop-i.invariant ∙ ap (indent_from text ns) here ∙ indent-stop text ns entry (drop (c.loop-i.i + 1) ls) _ no_part)

pub loop-i-preserved : goal.loop-i-preserved
loop-i-preserved c =
    let text = c.args.text.now in
    let ls = contents (list_meant c.first-parts.result) in
    let ns = fewest_meant c.loop-i.n_spaces in
    let entry = entry_meant c.get.result in
    let behind = drop (c.loop-i.i + 1) ls in
    let here = place_on ls c.loop-i.i entry (omega (arith, c.loop-i-test.true, c.places-i-end.ensures.entries)) c.get.ensures in
    let told = c.in_ok-part.ensures in
    let fine : part_verdict text entry ≡ accepted = part-accepted text entry _ told in
    let next : string_next behind ≡ is_string_part (entry_meant c.get-has_next_line.result) = next_first behind ∙ ap is_string_part (sym c.get-has_next_line.ensures) in
    let adds : fewest_meant c.part_indent-n.result ≡ part_indents text (string_next behind) entry = c.part_indent-n.ensures ∙ rw (part_same text entry _ told, next) in
    let more = indent-on text c.loop-i.n_spaces c.part_indent-n.result entry behind fine adds in
    c.loop-i.invariant ∙ ap (indent_from text ns) here ∙ more ∙ ap (λ (ms : List ℕ). indent_from text ms behind) (sym c.fewer-n_spaces.ensures)
