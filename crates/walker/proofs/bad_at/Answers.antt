-- The span is made, or refused, as `new_span` says (`bad-made`, `bad-refused`).
use mathlib.Core.Path.{sym, ap, ◌∙◌}
use Rattle.rules.specs.Refusals.{WrongForm}
use Rattle.rules.specs.Spans.{Span}
use Rattle.rules.specs.Answers.{refusal}
use Rattle.source.specs.Meaning.{spanned_meant}
use Rattle.walker.proofs.Keeping.{bad-made, bad-refused}
use Rattle.walker.proofs.bad_at.Goals as goal

pub returns-in-Ok : goal.returns-in-Ok
returns-in-Ok c = bad-made c.args.doc c.args.bad _ _ (sym (ap spanned_meant c.in-Ok.is) ∙ c.new.ensures) c.refuse.ensures

pub returns-in-Err : goal.returns-in-Err
returns-in-Err c = bad-refused c.args.doc c.args.bad _ _ (sym (ap spanned_meant c.in-Err.is) ∙ c.new.ensures) (c.refuse-in-Err.ensures ∙ ap (λ (s : Span). refusal WrongForm s) c.start_of.ensures)
