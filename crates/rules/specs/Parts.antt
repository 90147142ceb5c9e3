-- "Parts list: from a QuoteOpen, depth 1."
use Rattle.std.specs.Prelude.{ℕ, zero, suc, pred, ◌≡◌, List, [], ◌∷◌, cond, ◌||◌, eqb, length}
use Rattle.rules.specs.Refusals.{BadSpan, ListFull, NoString}
use Rattle.rules.specs.Spans.{Span, nowhere, is_bad, enclosing}
use Rattle.rules.specs.Answers.{Answer, given, refuse}
use Rattle.rules.specs.Kinds.{QuoteClose, StringInner, HoleOpen, HoleClose, is_quote_open, is_escape}
use Rattle.rules.specs.Lent.{Lexeme, lexeme, Arrays, array_places, lexemes_from, holding}

-- what one lexeme does: it is the closer; it is refused; it is passed over, with the depth and the open hole's span after it; or it completes a part
pub data Effect : Type 0 where
  closes : Effect
  refuses : (number : ℕ) (at : Span) → Effect
  passes : (depth : ℕ) (hole : Span) → Effect
  yields : Lexeme → Effect

-- "At depth 1, StringInner and Escape are parts; a hole is one part ..; a QuoteClose met at depth 1 ends; any other kind at depth 1 .. gives 50"
abbrev pub at_depth1 : Lexeme → Effect
at_depth1 l =
    cond (eqb l.kind StringInner || is_escape l.kind) (yields l) (
    cond (eqb l.kind HoleOpen) (passes 2 l.at) (
    cond (eqb l.kind QuoteClose) closes (refuses NoString l.at)))

-- "a hole's span is the union of its two ends, and the 3 .. of that part comes at its closer"
abbrev pub hole_ends : Span → Span → Effect
hole_ends a b = cond (eqb a.doc b.doc) (yields (lexeme HoleOpen (enclosing a b))) (refuses BadSpan nowhere)

-- "Openers (QuoteOpen, HoleOpen) add one, closers take one"; "Deeper, other kinds are passed over"
abbrev pub deeper : (depth : ℕ) (hole : Span) → Lexeme → Effect
deeper depth hole l =
    cond (is_quote_open l.kind || eqb l.kind HoleOpen) (passes (suc depth) hole) (
    cond (eqb l.kind QuoteClose || eqb l.kind HoleClose)
    (cond (eqb depth 2) (hole_ends hole l.at) (passes (pred depth) hole))
    (passes depth hole))

-- "Per lexeme: 3, 50"
unfoldable pub effect : (depth : ℕ) (hole : Span) → Lexeme → Effect
effect depth hole l =
    cond (is_bad l.at) (refuses BadSpan nowhere) (
    cond (eqb depth 1) (at_depth1 l) (deeper depth hole l))

-- the parts, and the place of the closer, or a refusal
pub record Parts : Type 0 where
  pub found : List Lexeme
  pub answer : Answer ℕ

abbrev pub no_parts : Answer ℕ → Parts
no_parts a = record { found = []; answer = a }

abbrev pub part_then : Lexeme → Parts → Parts
part_then p ps = record { found = p ∷ ps.found; answer = ps.answer }

abbrev pub follow_effect : Effect → (place : ℕ) → ((depth : ℕ) (hole : Span) → Parts) → Parts
follow_effect closes place go = no_parts (given place)
follow_effect (refuses n s) place go = no_parts (refuse n s)
follow_effect (passes depth hole) place go = go depth hole
follow_effect (yields p) place go = part_then p (go 1 nowhere)

-- of the lexemes from a place on; "or no end": 50 with 0-0, "where the list has ended"
abbrev pub parts_from : (place depth : ℕ) (hole : Span) → List Lexeme → Parts
parts_from place depth hole [] = no_parts (refuse NoString nowhere)
parts_from place depth hole (l ∷ ls) = follow_effect (effect depth hole l) place (λ d h. parts_from (suc place) d h ls)

-- "or a start that is no QuoteOpen, gives 50"
unfoldable pub parts_of : (place : ℕ) → List Lexeme → Parts
parts_of place [] = no_parts (refuse NoString nowhere)
parts_of place (l ∷ ls) =
    cond (is_bad l.at) (no_parts (refuse BadSpan nowhere)) (
    cond (is_quote_open l.kind) (parts_from (suc place) 1 nowhere ls) (no_parts (refuse NoString l.at)))

-- "31": in a list of so many places
abbrev pub in_room : (room : ℕ) → List Lexeme → Answer ℕ → Parts
in_room room [] a = no_parts a
in_room zero (p ∷ ps) a = no_parts (refuse ListFull p.at)
in_room (suc room) (p ∷ ps) a = part_then p (in_room room ps a)

unfoldable pub parts_in : (room place : ℕ) → List Lexeme → Parts
parts_in room place ls = in_room room (parts_of place ls).found (parts_of place ls).answer

-- the call: the closer's place or the refusal, how many parts there are, and the arrays after it
pub record PartsCall : Type 0 where
  pub answer : Answer ℕ
  pub parts : ℕ
  pub arrays : Arrays

unfoldable pub parts_call : (list : Arrays) (count place : ℕ) (parts : Arrays) → PartsCall
parts_call list count place parts =
    let p = parts_in (array_places parts) place (lexemes_from list count place) in
    record { answer = p.answer; parts = length p.found; arrays = holding p.found parts }

-- what a call that lists a string's parts leaves, where its answer, its count and the parts list after it are these
pub record ListsParts (list : Arrays) (count place : ℕ) (parts : Arrays) (answer : Answer ℕ) (n : ℕ) (parts' : Arrays) : Type 0 where
  pub answered : answer ≡ (parts_call list count place parts).answer
  pub counted : n ≡ (parts_call list count place parts).parts
  pub listed : parts' ≡ (parts_call list count place parts).arrays
