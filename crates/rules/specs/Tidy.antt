-- "The gap rule and the tidy writer".
use Rattle.std.specs.Prelude.{ℕ, ◌≡◌, List, [], ◌∷◌, ◌++◌, cond, ◌||◌, eqb, length}
use Rattle.rules.specs.Text.{ascii, join}
use Rattle.rules.specs.Answers.{Verdict, given, refused, and_then}
use Rattle.rules.specs.Kinds.{Blank, Shebang, LineComment, StringInner, HoleClose, is_quote_open, is_escape}
use Rattle.rules.specs.Lent.{Lexeme, Lent, places_in}
use Rattle.rules.specs.Lexing.{Taken, trace, trace_in, lexemes_of, placed, listed_of, Lexed, lexed_of, lexing, Lexes}
use Rattle.rules.specs.Output.{end_of, Piece, piece, written, overwritten}

-- "Between two: nothing if either is Blank or the first is QuoteOpen, StringInner, Escape or HoleClose; one LF after LineComment or Shebang; else one space."
unfoldable pub gap : (first second : ℕ) → List ℕ
gap a b =
    cond (eqb a Blank || eqb b Blank || is_quote_open a || eqb a StringInner || is_escape a || eqb a HoleClose) [] (
    cond (eqb a LineComment || eqb a Shebang) (ascii "\n") (ascii " "))

-- "A gap and the lexeme after it are one piece."
abbrev pub spaced_after : (first : ℕ) → List Taken → List (List ℕ)
spaced_after k [] = []
spaced_after k (p ∷ ps) = (gap k p.kind ++ p.bytes) ∷ spaced_after p.kind ps

-- "Nothing before the first or after the last."
abbrev pub spaced : List Taken → List (List ℕ)
spaced [] = []
spaced (p ∷ ps) = p.bytes ∷ spaced_after p.kind ps

-- "Re-spacing is joining all these pieces, memory aside."
unfoldable pub respaced : List ℕ → List ℕ
respaced text = join (spaced (lexemes_of (trace text).taken))

-- the pieces with the spans of their lexemes
abbrev pub pieces_of : List (List ℕ) → List Lexeme → List Piece
pieces_of [] ls = []
pieces_of (w ∷ ws) [] = []
pieces_of (w ∷ ws) (l ∷ ls) = piece w l.at ∷ pieces_of ws ls

-- what the writer is to write after its lexing: nothing after a refusal
abbrev pub pieces_unless_refused : Verdict → List Piece → List Piece
pieces_unless_refused (given u) cs = cs
pieces_unless_refused (refused r) cs = []

-- "Lexing refusals come first, then 46; writing begins at the output's start; the result adds the bytes written."
pub record Tidied : Type 0 where
  pub lexed : Lexed
  pub written : ℕ
  pub output : List ℕ

unfoldable pub tidying : (doc places stack : ℕ) → List ℕ → (out : List ℕ) → Tidied
tidying doc places stack text out =
    let t = trace_in places stack text in
    let l = lexed_of doc t in
    let w = written (end_of out) 0 (pieces_unless_refused l.verdict (pieces_of (spaced (lexemes_of t.taken)) (listed_of (placed doc 0 t.taken)))) in
    record {
      lexed = record {
        verdict = and_then l.verdict w.verdict;
        lexemes = l.lexemes;
        steps = l.steps;
        kept = l.kept;
        dropped = l.dropped;
        deepest = l.deepest;
      };
      written = length w.bytes;
      output = overwritten out 0 w.bytes;
    }

-- what a call leaves of the list, the stack and the output lent to it: list and stack as lexing leaves them, and what is above
pub record Tidies (doc : ℕ) (text : List ℕ) (list stack : Lent) (out : List ℕ) (r : Lexed) (n : ℕ) (list' stack' : Lent) (out' : List ℕ) : Type 0 where
  pub lexes : Lexes doc text list stack (lexing doc (places_in list) (places_in stack) text) list' stack'
  pub result : r ≡ (tidying doc (places_in list) (places_in stack) text out).lexed
  pub written : n ≡ (tidying doc (places_in list) (places_in stack) text out).written
  pub output : out' ≡ (tidying doc (places_in list) (places_in stack) text out).output
