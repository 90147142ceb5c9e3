-- The code is that of the state's opener (`opener_code`), or no opener's.
use mathlib.Core.Path.{sym, ap, ◌∙◌}
use Rattle.token.specs.Codes.{state_meant}
use Rattle.token.proofs.Openers.{opener_code, no_opener, no_quote, no_hole}
use Rattle.token.proofs.opens_string_or_hole.Goals as goal

pub returns-in-Some : goal.returns-in-Some
unfolding state_meant
returns-in-Some c =
    let same = opener_code c.args.kind _ (ap state_meant (sym c.in-Some.is) ∙ c.state_of.ensures) in
    c.is_string_or_hole.ensures ∙ rw same

pub returns-in-None : goal.returns-in-None
unfolding state_meant
returns-in-None c =
    let k = c.args.kind in
    let none = no_opener k (ap state_meant (sym c.in-None.is) ∙ c.state_of.ensures) in
    rw (no_quote k none, no_hole k none)
