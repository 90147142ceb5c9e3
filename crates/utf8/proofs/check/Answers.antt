-- Where nothing is left the text is UTF-8 (`good_answer`).
use mathlib.Core.Path.{◌≡◌, refl, sym}
use mathlib.Core.Option.{none}
use borrow.Author.Rules.{rules}
use Rattle.rules.specs.Utf8.{first_bad}
use Rattle.utf8.proofs.Ahead.{good_answer}
use Rattle.utf8.proofs.check.Goals as goal

pub returns-clause-first_bad : goal.returns-clause-first_bad
returns-clause-first_bad c = sym (good_answer c.loop-rest.invariant c.is_empty.ensures (search rules))

pub returns-clause-verdict : goal.returns-clause-verdict
returns-clause-verdict c = λ doc.
    let good : first_bad c.args.text.now ≡ none = good_answer c.loop-rest.invariant c.is_empty.ensures (search rules) in
    rw good refl
