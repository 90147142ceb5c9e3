-- "Value": String and Escape parts in order; and handing it back.
use Rattle.std.specs.Prelude.{ℕ, ◌+◌, min, ◌≡◌, List, [], ◌∷◌, ◌++◌, Bool, false, cond, ◌&&◌, eqb, take, drop, length}
use Rattle.rules.specs.Text.{begins}
use Rattle.rules.specs.Spans.{span, bytes_at}
use Rattle.rules.specs.Answers.{Answer, given, refused, Verdict, accepted, verdict_on, and_then, unless_refused, first_refusal}
use Rattle.rules.specs.Source.{resolved}
use Rattle.rules.specs.Kinds.{HoleOpen, Nothing, is_triple, is_escape}
use Rattle.rules.specs.Lent.{Lexeme, Arrays, array_places, lexemes_from, holding}
use Rattle.rules.specs.Output.{end_of, Piece, piece, written, overwritten}
use Rattle.rules.specs.Escapes.{escape_scalar, escape_bytes}
use Rattle.rules.specs.Parts.{Parts, parts_in}
use Rattle.rules.specs.Indent.{part_verdict, is_string_part, spaces_after, indent_of}

-- "the indent is taken off after each leading LF, as far as spaces go"
unfoldable pub dedented : (indent : ℕ) → List ℕ → List ℕ
dedented indent w = cond (begins "\n" w) (take 1 w ++ drop (min indent (spaces_after w)) (drop 1 w)) w

-- the bytes of a String or Escape part
unfoldable pub part_bytes : List ℕ → (indent : ℕ) → Lexeme → List ℕ
part_bytes text indent p =
    cond (is_string_part p) (dedented indent (bytes_at text p.at)) (escape_bytes (escape_scalar text p.at p.kind))

-- "Holes give no byte."
abbrev pub value_pieces : List ℕ → (indent : ℕ) → List Lexeme → List Piece
value_pieces text indent [] = []
value_pieces text indent (p ∷ ps) =
    let more = value_pieces text indent ps in
    cond (eqb p.kind HoleOpen) more (piece (part_bytes text indent p) p.at ∷ more)

-- "\"Unbroken\" means nothing taken off and no second part, a hole included"
abbrev pub is_unbroken : List ℕ → (indent : ℕ) → List Lexeme → Bool
is_unbroken text indent [] = false
is_unbroken text indent (p ∷ []) = is_string_part p && eqb (length (part_bytes text indent p)) (length (bytes_at text p.at))
is_unbroken text indent (p ∷ (q ∷ ps)) = false

-- "handed back as that part of the text ..; any other as the written part of the output"
pub data Held : Type 0 where
  in_text : (start end : ℕ) → Held
  in_output : (start end : ℕ) → Held

abbrev pub text_part : List Lexeme → Held
text_part [] = in_text 0 0
text_part (p ∷ ps) = in_text p.at.start p.at.end

abbrev pub output_part : (at length : ℕ) → Verdict → Answer Held
output_part at n (given u) = given (in_output at (at + n))
output_part at n (refused r) = refused r

pub record Valued : Type 0 where
  pub answer : Answer Held
  pub output : List ℕ

-- the refusal of an Escape part
abbrev pub escape_verdict : List ℕ → Lexeme → Verdict
escape_verdict text p = cond (is_escape p.kind) (verdict_on (escape_scalar text p.at p.kind)) accepted

-- of parts that nothing is to be said against: "output and position are then not read and 46 is not given"
unfoldable pub value_written : List ℕ → (indent : ℕ) → List Lexeme → (out : List ℕ) (at : ℕ) → Valued
value_written text indent ps out at =
    let w = written (end_of out) at (value_pieces text indent ps) in
    cond (is_unbroken text indent ps)
    (record { answer = given (text_part ps); output = out })
    (record { answer = output_part at (length w.bytes) w.verdict; output = overwritten out at w.bytes })

abbrev pub kind_of_first : List Lexeme → ℕ
kind_of_first [] = Nothing
kind_of_first (l ∷ ls) = l.kind

-- "in triple quotes"
abbrev pub indent_taken : List ℕ → (quote : ℕ) → List Lexeme → ℕ
indent_taken text quote ps = cond (is_triple quote) (indent_of text ps) 0

-- of the lexemes from an opener on, with the parts that were found: "Refusals as of parts, indent, escapes, each over the whole string before a byte is written, then 46"
unfoldable pub value_of : List ℕ → List Lexeme → Parts → (out : List ℕ) (at : ℕ) → Valued
value_of text ls p out at =
    unless_refused
    (and_then (verdict_on p.answer) (and_then (first_refusal (part_verdict text) p.found) (first_refusal (escape_verdict text) p.found)))
    (λ r. record { answer = refused r; output = out })
    (value_written text (indent_taken text (kind_of_first ls) p.found) p.found out at)

-- the call: where the value is or the refusal, how many parts there are, and the arrays after it
pub record ValueCall : Type 0 where
  pub answer : Answer Held
  pub parts : ℕ
  pub arrays : Arrays
  pub output : List ℕ

unfoldable pub value_call : List ℕ → (list : Arrays) (count place : ℕ) (parts : Arrays) (out : List ℕ) (at : ℕ) → ValueCall
value_call text list count place parts out at =
    let ls = lexemes_from list count place in
    let p = parts_in (array_places parts) place ls in
    let v = value_of text ls p out at in
    record { answer = v.answer; parts = length p.found; arrays = holding p.found parts; output = v.output }

-- what the value call leaves, where its answer, its count, the parts list and the output after it are these
pub record Values (text : List ℕ) (list : Arrays) (count place : ℕ) (parts : Arrays) (out : List ℕ) (at : ℕ) (answer : Answer Held) (n : ℕ) (parts' : Arrays) (out' : List ℕ) : Type 0 where
  pub answered : answer ≡ (value_call text list count place parts out at).answer
  pub counted : n ≡ (value_call text list count place parts out at).parts
  pub listed : parts' ≡ (value_call text list count place parts out at).arrays
  pub output : out' ≡ (value_call text list count place parts out at).output

-- "Handing back": "a check gives 3, then 40 for a part outside its slice"
unfoldable pub handed_part : (text out : List ℕ) → Held → Answer (List ℕ)
handed_part text out (in_text a e) = resolved text (span 0 a e)
handed_part text out (in_output a e) = resolved out (span 0 a e)

abbrev pub hand_check : (text out : List ℕ) → Held → Verdict
hand_check text out p = verdict_on (handed_part text out p)

-- "and the handing call then returns the text's empty start"
abbrev pub or_empty : Answer (List ℕ) → List ℕ
or_empty (given w) = w
or_empty (refused r) = []

abbrev pub handed : (text out : List ℕ) → Held → List ℕ
handed text out p = or_empty (handed_part text out p)

-- what the check answers
abbrev pub ChecksPart : (text out : List ℕ) → Held → Verdict → Type 0
ChecksPart text out p verdict = verdict ≡ hand_check text out p

-- what the handing call returns
abbrev pub HandsBack : (text out : List ℕ) → Held → (bytes : List ℕ) → Type 0
HandsBack text out p bytes = bytes ≡ handed text out p
