-- "One step of the lexer": a function of the innermost opener's code and the text that is left.
use Rattle.std.specs.Prelude.{ℕ, zero, suc, ◌+◌, List, Bool, cond, not, ◌&&◌, ◌||◌, leb, eqb, take, drop, get_or}
use Rattle.rules.specs.Text.{is, begins, same, starts, run, count}
use Rattle.rules.specs.Bytes.{is_whitespace, is_control, is_digit, is_letter, is_punctuation, is_over127, is_identifier_byte, is_hex_digit, is_binary_digit, is_not_lf}
use Rattle.rules.specs.Utf8.{is_tail}
use Rattle.rules.specs.Refusals.{ControlByte, NotAscii, UnknownPunctuation, LoneHash, NoBinaryDigit, NoHexDigit, NoFractionDigit, NoExponentDigit, NoClosingBrace, FewHexDigits, EscapeAtEnd, EscapedLineEnd, EscapedNotAscii, NothingOpen, AnotherDue}
use Rattle.rules.specs.Kinds.{Space, Blank, Shebang, LineComment, Ident, PlainDouble, PlainTriple, FormatDouble, FormatTriple, QuoteClose, StringInner, Single, Unicode4, UnicodeDelim, HoleOpen, HoleClose, NumHexadecimal, NumBinary, NumDecimal, KwAnd, KwAssert, KwFalse, KwFor, KwElse, KwIf, KwImport, KwIn, KwLet, KwNot, KwNull, KwOr, KwTrace, KwTrue, LParen, RParen, LBracket, RBracket, LBrace, RBrace, Lt, Gt, LtEq, GtEq, Eq2, Neq, ThinArrow, FatArrow, Eq1, Bang, Star, Plus, Comma, Minus, Dot, DotDot, DotDotDot, Slash, Colon, Semicolon, Pipe, Nothing, is_quote_open, is_format, is_triple}

-- a lexeme of a kind, so many bytes long; or a refusal's number, where its span starts, counted from here, and the span's length
pub data Step : Type 0 where
  found : (kind length : ℕ) → Step
  stop : (number from length : ℕ) → Step

-- Numbers. "Decimals are RFC 8259's without the sign, with `_` after a first digit 1 to 9 and after the first digit of fraction and exponent."
abbrev pub is_underscore : ℕ → Bool
is_underscore = is "_"

unfoldable pub is_digit_or_underscore : ℕ → Bool
is_digit_or_underscore b = is_digit b || is_underscore b

-- 0, or a first digit 1 to 9 and what follows it
unfoldable pub int_length : List ℕ → ℕ
int_length s = cond (begins "0" s) 1 (run is_digit_or_underscore s)

-- e or E, and perhaps a sign
unfoldable pub exponent_mark : List ℕ → ℕ
exponent_mark s = cond (begins "+" (drop 1 s) || begins "-" (drop 1 s)) 2 1

-- perhaps an exponent, after n bytes of the number
unfoldable pub exponent : ℕ → List ℕ → Step
exponent n s =
    let m = exponent_mark s in
    cond (begins "e" s || begins "E" s)
    (cond (starts is_digit (drop m s)) (found NumDecimal (n + m + run is_digit_or_underscore (drop m s))) (stop NoExponentDigit (n + m) 0))
    (found NumDecimal n)

-- perhaps a fraction, after n bytes of the number
unfoldable pub fraction : ℕ → List ℕ → Step
fraction n s =
    let m = suc (run is_digit_or_underscore (drop 1 s)) in
    cond (begins "." s)
    (cond (starts is_digit (drop 1 s)) (exponent (n + m) (drop m s)) (stop NoFractionDigit n 1))
    (exponent n s)

unfoldable pub decimal : List ℕ → Step
decimal s = fraction (int_length s) (drop (int_length s) s)

-- "Hexadecimal and binary accept `_` anywhere after the prefix": a kind, the refusal where there is no digit, and what is a digit
unfoldable pub prefixed : (kind number : ℕ) → (ℕ → Bool) → List ℕ → Step
prefixed kind number is_any s =
    let n = run (λ b. is_any b || is_underscore b) (drop 2 s) in
    cond (eqb (run is_underscore (drop 2 s)) n) (stop number 0 (2 + n)) (found kind (2 + n))

unfoldable pub number : List ℕ → Step
number s =
    cond (begins "0b" s) (prefixed NumBinary NoBinaryDigit is_binary_digit s) (
    cond (begins "0x" s) (prefixed NumHexadecimal NoHexDigit is_hex_digit s)
    (decimal s))

-- Identifiers. "takes ASCII letters, digits, `_`, `-`, then gives back every `-` at its end"
abbrev pub give_back : List ℕ → ℕ → ℕ
give_back s zero = 0
give_back s (suc n) = let less = give_back s n in cond (is "-" (get_or s n 0)) less (suc n)

unfoldable pub identifier_length : List ℕ → ℕ
identifier_length s = give_back s (run is_identifier_byte s)

-- which keyword the bytes are, or Ident
unfoldable pub keyword_or_ident : List ℕ → ℕ
keyword_or_ident w =
    cond (same "and" w) KwAnd (
    cond (same "assert" w) KwAssert (
    cond (same "else" w) KwElse (
    cond (same "false" w) KwFalse (
    cond (same "for" w) KwFor (
    cond (same "if" w) KwIf (
    cond (same "import" w) KwImport (
    cond (same "in" w) KwIn (
    cond (same "let" w) KwLet (
    cond (same "not" w) KwNot (
    cond (same "null" w) KwNull (
    cond (same "or" w) KwOr (
    cond (same "trace" w) KwTrace (
    cond (same "true" w) KwTrue Ident)))))))))))))

unfoldable pub identifier : List ℕ → Step
identifier s = found (keyword_or_ident (take (identifier_length s) s)) (identifier_length s)

-- "whitespace (..; Blank with two LF or more)"
unfoldable pub whitespace : List ℕ → Step
whitespace s =
    let n = run is_whitespace s in
    found (cond (leb 2 (count (is "\n") (take n s))) Blank Space) n

-- Punctuation. A closer, the opener that it closes, and its kind: 23 where nothing is open, 24 where another one is due
unfoldable pub closer : (innermost opener kind : ℕ) → Step
closer innermost opener kind =
    cond (eqb innermost opener) (found kind 1) (
    cond (eqb innermost Nothing) (stop NothingOpen 0 1) (stop AnotherDue 0 1))

unfoldable pub monograph : (innermost : ℕ) → List ℕ → Step
monograph innermost s =
    cond (begins "(" s) (found LParen 1) (
    cond (begins "[" s) (found LBracket 1) (
    cond (begins "{" s) (found LBrace 1) (
    cond (begins ")" s) (closer innermost LParen RParen) (
    cond (begins "]" s) (closer innermost LBracket RBracket) (
    cond (begins "}" s) (closer innermost LBrace RBrace) (
    cond (begins "<" s) (found Lt 1) (
    cond (begins ">" s) (found Gt 1) (
    cond (begins "=" s) (found Eq1 1) (
    cond (begins "!" s) (found Bang 1) (
    cond (begins "*" s) (found Star 1) (
    cond (begins "+" s) (found Plus 1) (
    cond (begins "," s) (found Comma 1) (
    cond (begins "-" s) (found Minus 1) (
    cond (begins "." s) (found Dot 1) (
    cond (begins "/" s) (found Slash 1) (
    cond (begins ":" s) (found Colon 1) (
    cond (begins ";" s) (found Semicolon 1) (
    cond (begins "|" s) (found Pipe 1) (
    cond (begins "#" s) (stop LoneHash 0 1) (stop UnknownPunctuation 0 1))))))))))))))))))))

-- "punctuation, three bytes, then two, then one"
unfoldable pub punctuation : (innermost : ℕ) → List ℕ → Step
punctuation innermost s =
    cond (begins "..." s) (found DotDotDot 3) (
    cond (begins "<=" s) (found LtEq 2) (
    cond (begins ">=" s) (found GtEq 2) (
    cond (begins "==" s) (found Eq2 2) (
    cond (begins "!=" s) (found Neq 2) (
    cond (begins "->" s) (found ThinArrow 2) (
    cond (begins "=>" s) (found FatArrow 2) (
    cond (begins ".." s) (found DotDot 2)
    (monograph innermost s))))))))

-- "Outside strings, in this order: .."
unfoldable pub outside : (innermost : ℕ) → List ℕ → Step
outside innermost s =
    cond (begins "#!" s) (found Shebang (run is_not_lf s)) (
    cond (begins "//" s) (found LineComment (run is_not_lf s)) (
    cond (begins "f\"\"\"" s) (found FormatTriple 4) (
    cond (begins "\"\"\"" s) (found PlainTriple 3) (
    cond (begins "f\"" s) (found FormatDouble 2) (
    cond (begins "\"" s) (found PlainDouble 1) (
    cond (begins "}" s && eqb innermost HoleOpen) (found HoleClose 1) (
    cond (starts is_digit s) (number s) (
    cond (starts is_letter s) (identifier s) (
    cond (starts is_whitespace s) (whitespace s) (
    cond (starts is_punctuation s) (punctuation innermost s) (
    cond (starts is_control s) (stop ControlByte 0 (run is_control s))
    (stop NotAscii 0 (run is_over127 s)))))))))))))

-- In a string. `\u{` and hex digits, with `}` or without
unfoldable pub unicode_delim : List ℕ → Step
unicode_delim s =
    let n = 3 + run is_hex_digit (drop 3 s) in
    cond (begins "}" (drop n s)) (found UnicodeDelim (suc n)) (stop NoClosingBrace n 0)

-- `\u` and four hex digits, or fewer
unfoldable pub unicode4 : List ℕ → Step
unicode4 s =
    let n = run is_hex_digit (drop 2 s) in
    cond (leb 4 n) (found Unicode4 6) (stop FewHexDigits 0 (2 + n))

-- `\` and what follows it
unfoldable pub single_escape : List ℕ → Step
single_escape s =
    cond (same "\\" s) (stop EscapeAtEnd 0 1) (
    cond (begins "\r" (drop 1 s) || begins "\n" (drop 1 s)) (stop EscapedLineEnd 0 2) (
    cond (starts is_over127 (drop 1 s)) (stop EscapedNotAscii 0 (2 + run is_tail (drop 2 s)))
    (found Single 2)))

-- bytes that go on an inner part: "to before `\`, `"`, LF (and `{` in a format string)"
unfoldable pub is_inner : (quote : ℕ) → ℕ → Bool
is_inner quote b = not (is "\\" b || is "\"" b || is "\n" b || is_format quote && is "{" b)

-- the closing quote stands here
unfoldable pub closes_quote : (quote : ℕ) → List ℕ → Bool
closes_quote quote s = cond (is_triple quote) (begins "\"\"\"" s) (begins "\"" s)

-- "In a string: `\u{`, `\u`, `\`, the closing quote, `{` in a format string, else one byte and on to before .."
unfoldable pub inside : (quote : ℕ) → List ℕ → Step
inside quote s =
    cond (begins "\\u{" s) (unicode_delim s) (
    cond (begins "\\u" s) (unicode4 s) (
    cond (begins "\\" s) (single_escape s) (
    cond (closes_quote quote s) (found QuoteClose (cond (is_triple quote) 3 1)) (
    cond (is_format quote && begins "{" s) (found HoleOpen 1)
    (found StringInner (suc (run (is_inner quote) (drop 1 s))))))))

-- one step, where the text has not ended
unfoldable pub step : (innermost : ℕ) → List ℕ → Step
step innermost s = cond (is_quote_open innermost) (inside innermost s) (outside innermost s)
