-- Where what is handed back stands.
use Rattle.std.specs.Prelude.{ℕ, List}
use Rattle.std.specs.Borrow.{Bor}
use Rattle.rules.specs.Answers.{Verdict as VerdictRule, given, refused}
use Rattle.rules.specs.Value.{Held as HeldRule, in_text, in_output, hand_check}
use Rattle.source.specs.Meaning.{moved}

-- where a part of slices at these addresses stands: at its start in its own slice; at the text's start where the check refuses it
abbrev pub stands_at : (text out : ℕ × ℕ) → VerdictRule → HeldRule → ℕ × ℕ
stands_at text out (given u) (in_text a e) = moved a text
stands_at text out (given u) (in_output a e) = moved a out
stands_at text out (refused r) p = text

-- "handed back as that part of the text ..; any other as the written part of the output": the address of what is handed back
abbrev pub handed_at : (text out : Bor (List ℕ)) → HeldRule → ℕ × ℕ
handed_at text out p = stands_at text.ref_ptr out.ref_ptr (hand_check text.now out.now p) p
