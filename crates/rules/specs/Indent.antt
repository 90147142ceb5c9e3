-- "Indent: over String parts that begin with LF, the fewest spaces after it"
use Rattle.std.specs.Prelude.{ℕ, min, List, [], ◌∷◌, Bool, false, cond, not, ◌&&◌, leb, eqb, take, drop, length}
use Rattle.rules.specs.Text.{is, begins, run}
use Rattle.rules.specs.Refusals.{WrongForm}
use Rattle.rules.specs.Spans.{bytes_at}
use Rattle.rules.specs.Answers.{Answer, given, refuse, Verdict, accepted, and_then, first_refusal, unless_bad}
use Rattle.rules.specs.Kinds.{StringInner, HoleOpen, between}
use Rattle.rules.specs.Lent.{Lexeme, Arrays, contents}

-- "Refusals per part, in order: 3, then 40 for a kind outside 10 to 14 or a span outside the text."
unfoldable pub part_verdict : List ℕ → Lexeme → Verdict
part_verdict text p =
    unless_bad p.at (
    cond (between StringInner HoleOpen p.kind && leb p.at.end (length text)) accepted (refuse WrongForm p.at))

abbrev pub is_string_part : Lexeme → Bool
is_string_part p = eqb p.kind StringInner

-- the spaces after the first byte
abbrev pub spaces_after : List ℕ → ℕ
spaces_after w = run (is " ") (drop 1 w)

-- "a part of LF and spaces alone"
abbrev pub is_blank_line : List ℕ → Bool
is_blank_line w = eqb (spaces_after w) (length (drop 1 w))

abbrev pub string_next : List Lexeme → Bool
string_next [] = false
string_next (p ∷ ps) = is_string_part p

-- ".. is passed over if the next part is a String"
abbrev pub counts_for : List ℕ → Lexeme → List Lexeme → Bool
counts_for text p ps =
    let w = bytes_at text p.at in
    is_string_part p && begins "\n" w && not (is_blank_line w && string_next ps)

abbrev pub indents_of : List ℕ → List Lexeme → List ℕ
indents_of text [] = []
indents_of text (p ∷ ps) =
    let more = indents_of text ps in
    cond (counts_for text p ps) (spaces_after (bytes_at text p.at) ∷ more) more

-- "No such part: 0."
abbrev pub fewest : List ℕ → ℕ
fewest [] = 0
fewest (n ∷ []) = n
fewest (n ∷ (m ∷ ns)) = min n (fewest (m ∷ ns))

unfoldable pub indent_of : List ℕ → List Lexeme → ℕ
indent_of text ps = fewest (indents_of text ps)

-- the call, over a parts list with so many in it
unfoldable pub indent_call : List ℕ → (parts : Arrays) (count : ℕ) → Answer ℕ
indent_call text parts count =
    let ps = take count (contents parts) in
    and_then (first_refusal (part_verdict text) ps) (given (indent_of text ps))
