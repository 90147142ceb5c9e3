-- "Escapes are RFC 8259's single letters plus `\{` and `\}`; output is UTF-8."
use Rattle.std.specs.Prelude.{ℕ, ◌+◌, ◌-◌, ◌*◌, ◌≡◌, List, [], ◌∷◌, Bool, cond, ◌&&◌, ◌||◌, leb, ltb, eqb, take, drop, length, get_or}
use Prim.Native.Char.{code}
use Rattle.rules.specs.Text.{is, begins, same, all}
use Rattle.rules.specs.Bytes.{is_digit, is_hex_digit, is_capital}
use Rattle.rules.specs.Utf8.{encode, is_scalar}
use Rattle.rules.specs.Refusals.{WrongForm, UnknownEscape, CapitalEscape, NoDigits, ManyDigits, NotScalar}
use Rattle.rules.specs.Spans.{Span, bytes_at}
use Rattle.rules.specs.Answers.{Answer, given, refused, refuse, Verdict, unless_bad}
use Rattle.rules.specs.Kinds.{Single, Unicode4, UnicodeDelim}
use Rattle.rules.specs.Output.{end_of, piece, written, overwritten}

-- "Form: kind 11 is `\` and one byte"
unfoldable pub is_single : List ℕ → Bool
is_single w = eqb (length w) 2 && begins "\\" w

-- "12 is `\u` and four hex digits"
unfoldable pub is_unicode4 : List ℕ → Bool
is_unicode4 w = eqb (length w) 6 && begins "\\u" w && all is_hex_digit (drop 2 w)

-- "13 is `\u{`, any number of hex digits, none included, and `}`": what stands between the braces, and the form
abbrev pub delimited : List ℕ → List ℕ
delimited w = take (length w - 4) (drop 3 w)

unfoldable pub is_unicode_delim : List ℕ → Bool
is_unicode_delim w = leb 4 (length w) && begins "\\u{" w && all is_hex_digit (delimited w) && same "}" (drop (length w - 1) w)

-- hex digits of either case, the first the highest
unfoldable pub hex_digit : ℕ → ℕ
hex_digit b = cond (is_digit b) (b - code "0") (cond (is_capital b) (b - code "A" + 10) (b - code "a" + 10))

abbrev pub hex_from : ℕ → List ℕ → ℕ
hex_from n [] = n
hex_from n (d ∷ ds) = hex_from (n * 16 + hex_digit d) ds

abbrev pub hex_value : List ℕ → ℕ
hex_value = hex_from 0

-- the scalar value of the byte after `\`, for an escape with this span
unfoldable pub single_scalar : Span → ℕ → Answer ℕ
single_scalar s b =
    cond (is "\"" b || is "\\" b || is "/" b || is "{" b || is "}" b) (given b) (
    cond (is "b" b) (given 0x08) (
    cond (is "f" b) (given 0x0C) (
    cond (is "n" b) (given (code "\n")) (
    cond (is "r" b) (given (code "\r")) (
    cond (is "t" b) (given (code "\t")) (
    cond (is_capital b) (refuse CapitalEscape s) (refuse UnknownEscape s)))))))

-- that of hex digits: "`\u{}`; over 6 digits; surrogate or over 0x10FFFF"
unfoldable pub unicode_scalar : Span → List ℕ → Answer ℕ
unicode_scalar s ds =
    cond (eqb (length ds) 0) (refuse NoDigits s) (
    cond (ltb 6 (length ds)) (refuse ManyDigits s) (
    cond (is_scalar (hex_value ds)) (given (hex_value ds)) (refuse NotScalar s)))

-- that of an escape of a kind; "wrong kind code or form" is 40
unfoldable pub scalar_of : Span → (kind : ℕ) → List ℕ → Answer ℕ
scalar_of s k w =
    cond (eqb k Single && is_single w) (single_scalar s (get_or w 1 0)) (
    cond (eqb k Unicode4 && is_unicode4 w) (unicode_scalar s (drop 2 w)) (
    cond (eqb k UnicodeDelim && is_unicode_delim w) (unicode_scalar s (delimited w))
    (refuse WrongForm s)))

-- "Check order 3, 40, 43, 44, 45, 41, 42": the scalar value of an escape of a text
unfoldable pub escape_scalar : List ℕ → Span → (kind : ℕ) → Answer ℕ
escape_scalar text s k = unless_bad s (cond (leb s.end (length text)) (scalar_of s k (bytes_at text s)) (refuse WrongForm s))

-- the bytes of an escape; none where it is refused
abbrev pub escape_bytes : Answer ℕ → List ℕ
escape_bytes (given u) = encode u
escape_bytes (refused r) = []

-- the call: how many bytes were written, and the output after it
pub record Unescaped : Type 0 where
  pub answer : Answer ℕ
  pub output : List ℕ

abbrev pub wrote_all : ℕ → Verdict → Answer ℕ
wrote_all n (given u) = given n
wrote_all n (refused r) = refused r

-- "46" last: written whole or not at all
unfoldable pub scalar_put : Span → (out : List ℕ) (at : ℕ) → Answer ℕ → Unescaped
scalar_put s out at (refused r) = record { answer = refused r; output = out }
scalar_put s out at (given u) =
    let w = written (end_of out) at (piece (encode u) s ∷ []) in
    record { answer = wrote_all (length w.bytes) w.verdict; output = overwritten out at w.bytes }

-- the character of the escape sequence at a span, written to an output at a position, or the refusal
unfoldable pub unescape : List ℕ → Span → (kind : ℕ) (out : List ℕ) (at : ℕ) → Unescaped
unescape text s k out at = scalar_put s out at (escape_scalar text s k)

-- what a call that writes an escape sequence's character leaves, where its answer and the output after it are these
pub record Unescapes (text : List ℕ) (s : Span) (kind : ℕ) (out : List ℕ) (at : ℕ) (answer : Answer ℕ) (out' : List ℕ) : Type 0 where
  pub answered : answer ≡ (unescape text s kind out at).answer
  pub output : out' ≡ (unescape text s kind out at).output
