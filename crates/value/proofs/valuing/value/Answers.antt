-- The parts are refused, or their value is the call's.
use Rattle.std.proofs.Common.{ℕ, List, take, ap, ◌∙◌, subst, rules}
use Rattle.rules.specs.Lent.{Arrays, contents}
use Rattle.source.specs.Meaning.{count_meant}
use Rattle.list.specs.Entries.{lent_meant}
use Rattle.value.specs.Meaning.{held_answer}
use Rattle.value.specs.Pieces.{ListedValue}
use Rattle.value.proofs.Call.{call-no-parts, call-listed}
use Rattle.value.proofs.valuing.value.Goals as goal

pub returns-in-Err-clause-values : goal.returns-in-Err-clause-values
returns-in-Err-clause-values c = call-no-parts c.parts-parted.ensures.lists (ap count_meant c.in-Err.is)

pub returns-in-Ok-clause-values : goal.returns-in-Ok-clause-values
returns-in-Ok-clause-values c =
    let read = c.first-listed.ensures ∙ ap (λ (list : Arrays). take c.parts-parted.result.parts (contents list)) c.list.ensures in
    let text = c.args.text.now in
    let parts = take c.parts-parted.result.parts (contents (lent_meant c.parts-parted.new.parts)) in
    let answer = held_answer c.value_of-answer.result in
    let value = rw read at c.value_of-answer.ensures.listed in
    call-listed c.parts-parted.ensures.lists (ap count_meant c.in-Ok.is) c.get-quote.ensures
    (subst (λ (out' : List ℕ). ListedValue text c.get-quote.result.kind parts c.args.position c.args.output.now answer out') (search rules) value)
