-- "Of the definitions themselves the marked pairs a to l are shown, gathered in one theorem"; and the two worked texts of "Beside the line".
use Prim.Native.Nat.{ℕ}
use mathlib.Core.Path.{◌≡◌, refl}
use mathlib.Core.List.{List, [], ◌∷◌, map}
use mathlib.Core.Option.{some}
use lib.ListN.{length, replicate}
use Rattle.rules.specs.Text.{ascii}
use Rattle.rules.specs.Refusals.{ControlByte, NoFractionDigit, NoExponentDigit, NoBinaryDigit, AnotherDue, UnclosedHole, NoDigits, ManyDigits}
use Rattle.rules.specs.Spans.{Span, span, low, high}
use Rattle.rules.specs.Answers.{Answer, given, refused, refuse, Verdict, accepted}
use Rattle.rules.specs.Kinds.{Ident, FormatDouble, QuoteClose, HoleOpen, HoleClose, NumDecimal, ThinArrow, Minus, Eq1, Semicolon}
use Rattle.rules.specs.Lent.{Lexeme, lexeme, arrays, words_of}
use Rattle.rules.specs.Lexing.{Lexed, listing, lexing}
use Rattle.rules.specs.Value.{Held, in_output, value_call, handed}
use Rattle.rules.specs.Tidy.{respaced}
use Rattle.rules.specs.Measuring.{Measured, measured}
use Rattle.rules.proofs.Computes.{computes}

-- ample memory for these texts
abbrev places : ℕ
places = 32

abbrev lexed : ℕ → List ℕ → Lexed
lexed doc text = lexing doc places places text

abbrev listed : ℕ → List ℕ → List Lexeme
listed doc text = listing doc places places text

abbrev refused_with : ℕ → Span → Span → Verdict
refused_with n s note = refused (record { number = n; at = s; note = some note })

-- the value of the string that a text begins with, in an output of four bytes, from its start
abbrev kinds_in : List Lexeme → List ℕ
kinds_in = map (λ l. l.kind)

abbrev output : List ℕ
output = replicate 4 0

abbrev value : List ℕ → Answer Held
value text =
    (value_call text (arrays (kinds_in (listed 0 text)) (words_of (listed 0 text))) places 0 (arrays (replicate 4 0) (replicate 8 0)) output 0).answer

abbrev value_bytes : List ℕ → List ℕ
value_bytes text =
    (value_call text (arrays (kinds_in (listed 0 text)) (words_of (listed 0 text))) places 0 (arrays (replicate 4 0) (replicate 8 0)) output 0).output

pub record MarkedPairs (doc : ℕ) : Type 0 where
  -- (a) empty text: accepted, all counts 0
  pub a : lexed doc [] ≡ record { verdict = accepted; lexemes = 0; steps = 0; kept = 0; dropped = 0; deepest = 0 }
  -- (b) `01`: accepted; decimals 0-1, 1-2
  pub b-accepted : (lexed doc (ascii "01")).verdict ≡ accepted
  pub b : listed doc (ascii "01") ≡ lexeme NumDecimal (span doc 0 1) ∷ lexeme NumDecimal (span doc 1 2) ∷ []
  -- (c) `1..2`: 16 at 1-2
  pub c : (lexed doc (ascii "1..2")).verdict ≡ refuse NoFractionDigit (span doc 1 2)
  -- (d) `x-->y`: accepted; Ident, Minus, ThinArrow, Ident
  pub d-accepted : (lexed doc (ascii "x-->y")).verdict ≡ accepted
  pub d : kinds_in (listed doc (ascii "x-->y")) ≡ Ident ∷ Minus ∷ ThinArrow ∷ Ident ∷ []
  -- (e) `1e+`: 17 at 3-3
  pub e : (lexed doc (ascii "1e+")).verdict ≡ refuse NoExponentDigit (span doc 3 3)
  -- (f) `0b_`: 14 at 0-3
  pub f : (lexed doc (ascii "0b_")).verdict ≡ refuse NoBinaryDigit (span doc 0 3)
  -- (g) 0x0B LF: 10 at 0-2
  pub g : (lexed doc (0x0B ∷ ascii "\n")).verdict ≡ refuse ControlByte (span doc 0 2)
  -- (h) `f"{a // b}"`: 26 at 11-11, note 2-3, 4 lexemes
  pub h : (lexed doc (ascii "f\"{a // b}\"")).verdict ≡ refused_with UnclosedHole (span doc 11 11) (span doc 2 3)
  pub h-lexemes : (lexed doc (ascii "f\"{a // b}\"")).lexemes ≡ 4
  -- (i) `(]`: 24 at 1-2, note 0-1
  pub i : (lexed doc (ascii "(]")).verdict ≡ refused_with AnotherDue (span doc 1 2) (span doc 0 1)
  -- (j) `"\u{}"` lexes; value 43
  pub j : (lexed doc (ascii "\"\\u{}\"")).verdict ≡ accepted
  pub j-value : value (ascii "\"\\u{}\"") ≡ refuse NoDigits (span 0 1 5)
  -- (k) `"\u{0000041}"` gives 44 as a value, `"\u{000041}"` gives `A`
  pub k : value (ascii "\"\\u{0000041}\"") ≡ refuse ManyDigits (span 0 1 12)
  pub k-six : value (ascii "\"\\u{000041}\"") ≡ given (in_output 0 1)
  pub k-bytes : handed (ascii "\"\\u{000041}\"") (value_bytes (ascii "\"\\u{000041}\"")) (in_output 0 1) ≡ ascii "A"
  -- (l) the span 1-3, id 2, is 844424930131969 and 8589934592
  pub l-low : low (span 2 1 3) ≡ 844424930131969
  pub l-high : high (span 2 1 3) ≡ 8589934592

pub marked : (doc : ℕ) → MarkedPairs doc
unfolding computes
marked doc = record {
  a = refl;
  b-accepted = refl;
  b = refl;
  c = refl;
  d-accepted = refl;
  d = refl;
  e = refl;
  f = refl;
  g = refl;
  h = refl;
  h-lexemes = refl;
  i = refl;
  j = refl;
  j-value = refl;
  k = refl;
  k-six = refl;
  k-bytes = refl;
  l-low = refl;
  l-high = refl;
}

-- `a = f"{b_1}";`, as the listing program prints it and as the tidy writer writes it
abbrev pub worked : List ℕ
worked = ascii "a = f\"{b-1}\";"

pub record WorkedTexts (doc : ℕ) : Type 0 where
  -- 13 8 2 10 2
  pub sizes : lexed doc worked ≡ record { verdict = accepted; lexemes = 8; steps = 10; kept = 11; dropped = 2; deepest = 2 }
  pub bytes : length worked ≡ 13
  -- 4 47 7 14 4 15 9 58, and 0-1 2-3 4-6 6-7 7-10 10-11 11-12 12-13
  pub listing :
      listed doc worked ≡
      lexeme Ident (span doc 0 1) ∷
      lexeme Eq1 (span doc 2 3) ∷
      lexeme FormatDouble (span doc 4 6) ∷
      lexeme HoleOpen (span doc 6 7) ∷
      lexeme Ident (span doc 7 10) ∷
      lexeme HoleClose (span doc 10 11) ∷
      lexeme QuoteClose (span doc 11 12) ∷
      lexeme Semicolon (span doc 12 13) ∷ []
  pub tidied : respaced worked ≡ ascii "a = f\"{ b-1 }\" ;"
  -- the gap rule's cases are in order: Blank first, so a comment before a Blank gets no LF
  pub commented : respaced (ascii "x // c\n\ny//d\nz") ≡ ascii "x // c\n\ny //d\nz"

pub worked-texts : (doc : ℕ) → WorkedTexts doc
unfolding computes
worked-texts doc = record { sizes = refl; bytes = refl; listing = refl; tidied = refl; commented = refl }

-- Runs of whitespace, measured: a byte follows the first, the third and the fifth, and none the others. Tab, LF, FF, CR and space are whitespace, 0x0B is not.
abbrev pub run_of : (length lines looked : ℕ) → Measured
run_of length lines looked = record { length = length; lines = lines; looked = looked }

pub record MeasuredRuns : Type 0 where
  pub none : measured (ascii "x ") ≡ run_of 0 0 1
  pub nothing : measured (ascii "") ≡ run_of 0 0 0
  pub one : measured (ascii " x") ≡ run_of 1 0 2
  pub last : measured (ascii "  ") ≡ run_of 2 0 2
  pub lines : measured (9 ∷ 10 ∷ 12 ∷ 13 ∷ 10 ∷ 32 ∷ 11 ∷ 32 ∷ []) ≡ run_of 6 2 7

pub measured-runs : MeasuredRuns
unfolding computes
measured-runs = record { none = refl; nothing = refl; one = refl; last = refl; lines = refl }
