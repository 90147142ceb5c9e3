-- The indent is refused, or nothing is and the value is the call's.
use Rattle.std.proofs.Common.{◌≡◌, rules}
use Rattle.rules.specs.Answers.{refused}
use Rattle.source.specs.Meaning.{refusal_meant}
use Rattle.list.specs.Entries.{list_meant}
use Rattle.value.specs.Meaning.{held_answer}
use Rattle.value.proofs.Call.{listed-no-indent, listed-no-escapes, listed-written}
use Rattle.value.proofs.valuing.value_of.Goals as goal

pub returns-in_err-spaces-clause-listed : goal.returns-in_err-spaces-clause-listed
returns-in_err-spaces-clause-listed c =
    let a = c.args in
    let stops : held_answer c.from_residual.result ≡ refused (refusal_meant c.in_err-spaces.field-0.0) = search rules in
    rw stops (listed-no-indent a.text.now a.quote (list_meant a.parts) _ a.output.now.at a.output.now.bytes.now c.places.ensures.entries _ c.in_err-spaces.ensures)

pub returns-in_err-check_escapes-clause-listed : goal.returns-in_err-check_escapes-clause-listed
returns-in_err-check_escapes-clause-listed c =
    let a = c.args in
    let stops : held_answer c.from_residual-in_err-check_escapes.result ≡ refused (refusal_meant c.in_err-check_escapes.field-0.0) = search rules in
    rw stops (listed-no-escapes a.text.now a.quote (list_meant a.parts) _ a.output.now.at a.output.now.bytes.now c.places.ensures.entries _ c.in_ok-spaces.ensures _ c.in_err-check_escapes.ensures)

pub returns-clause-listed : goal.returns-clause-listed
returns-clause-listed c =
    let a = c.args in
    listed-written a.text.now a.quote (list_meant a.parts) _ a.output.now.at a.output.now.bytes.now c.places.ensures.entries _ c.in_ok-spaces.ensures c.in_ok-check_escapes.ensures (rw c.indent_taken-indent.ensures at c.write_value.ensures.written)
