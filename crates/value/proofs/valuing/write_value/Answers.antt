-- A value that is not handed back as a part of the text is written, or its writing ends.
use Rattle.std.proofs.Common.{◌≡◌, sym, ◌∙◌, rules}
use Rattle.rules.specs.Answers.{refused}
use Rattle.source.specs.Meaning.{refusal_meant}
use Rattle.value.specs.Meaning.{held_answer}
use Rattle.value.proofs.Unbroken.{value-in-output, value-not-written}
use Rattle.value.proofs.valuing.write_value.Goals as goal

pub returns-in_err-write-clause-written : goal.returns-in_err-write-clause-written
returns-in_err-write-clause-written c =
    let stops : held_answer c.from_residual.result ≡ refused (refusal_meant c.in_err-write.field-0.0) = search rules in
    rw stops (value-not-written (sym c.is_unbroken.ensures ∙ c.if-is_unbroken.false) c.in_err-write.ensures.written)

pub returns-clause-written : goal.returns-clause-written
returns-clause-written c = value-in-output (sym c.is_unbroken.ensures ∙ c.if-is_unbroken.false) c.in_ok-write.ensures.written
