use Rattle.std.proofs.Common.{sym, ◌∙◌, rules, tests}
use Rattle.std.proofs.lemmas.Iterator.{YieldsList-from_slice}
use Rattle.std.proofs.lemmas.Iterator.Search.{all_from_yields_List}
use Rattle.rules.specs.Bytes.{is_identifier_byte}
use Rattle.string.proofs.Texts.{all_list}
use Rattle.string.proofs.names.all_identifier_bytes.Goals as goal

pub returns : goal.returns
returns c =
    let bytes = c.args.bytes.now in
    all_from_yields_List is_identifier_byte _ _ _ c.all.ensures.ran (YieldsList-from_slice bytes cc) (λ x b q k. search (rules, tests)) ∙ sym (all_list is_identifier_byte bytes)
