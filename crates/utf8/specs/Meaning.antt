-- What the answers mean. Of `check`: the paper's number and values for each case, in the document that the text is; and where the first bad sequence begins, if there is one.
use Rattle.std.specs.Prelude.{ℕ, List, take, Result, Ok, Err}
use Rattle.std.proofs.Math.Option.{Option, none, some}
use Rattle.rules.specs.Refusals.{NotUtf8}
use Rattle.rules.specs.Spans.{span}
use Rattle.rules.specs.Answers.{refuse, Verdict, accepted}
use Rattle.utf8.specs.declared.Utf8Error.{Utf8Error}
use Rattle.utf8.specs.declared.character.Encoded.{Encoded}

abbrev pub verdict_meant : (doc : ℕ) → Result Unit Utf8Error → Verdict
verdict_meant doc (Ok _) = accepted
verdict_meant doc (Err e) = refuse NotUtf8 (span doc e.valid_up_to e.valid_up_to)

abbrev pub checked_meant : Result Unit Utf8Error → Option ℕ
checked_meant (Ok _) = none
checked_meant (Err e) = some e.valid_up_to

-- the bytes of a character: so many of the four
abbrev pub encoded_meant : Encoded → List ℕ
encoded_meant e = take e.length e.bytes
