-- What the chain counts is the longest front of spaces.
use Rattle.std.proofs.Common.{◌≡◌, ◌-◌, length, sym, ◌∙◌, rules, tests, take, drop, arith}
use Rattle.std.proofs.lemmas.Grind.{common_steps}
use Rattle.std.proofs.lemmas.Iterator.{YieldsList-from_slice}
use Rattle.std.proofs.lemmas.Iterator.Consumers.{count_from_yields_List}
use Rattle.std.proofs.lemmas.Iterator.Search.{YieldsList-from_take_while}
use Rattle.std.proofs.lemmas.List.Folds.{length-prefix_len}
use Rattle.rules.specs.Text.{is}
use Rattle.string.proofs.Texts.{run_prefix}
use Rattle.string.proofs.leading.leading_spaces.Goals as goal

pub returns-in-len1-up : goal.returns-in-len1-up
returns-in-len1-up c =
    let line = c.args.line.now in
    let rest = drop 1 line in
    let whole : take (length line - 1) rest ≡ rest = grind (arith, common_steps) in
    count_from_yields_List c.take_while.result _ c.count.ensures.ran
    (YieldsList-from_take_while _ (is " ") (YieldsList-from_slice rest (cc whole)) c.take_while.ensures.closure c.take_while.ensures.done (λ x b q k. search (rules, tests)))
    ∙ length-prefix_len (is " ") rest ∙ sym (run_prefix (is " ") rest)
