-- "The class of each of the 256 byte values stands in a table: whitespace, other control, digit, letter or `_`, other punctuation, over 127."
use Rattle.std.specs.Prelude.{ℕ, Bool, cond, not, ◌||◌, ltb, eqb}
use Rattle.rules.specs.Text.{is, within}

-- "whitespace (space, TAB, LF, 0x0C, CR ..)"
unfoldable pub is_whitespace : ℕ → Bool
is_whitespace b = is " " b || is "\t" b || is "\n" b || eqb b 0x0C || is "\r" b

-- refusal 10: "bytes under 0x20 or equal 0x7F, line ends included"
unfoldable pub is_control : ℕ → Bool
is_control b = ltb b 0x20 || eqb b 0x7F

unfoldable pub is_digit : ℕ → Bool
is_digit b = within "0" "9" b

-- "an ASCII letter or `_`"
unfoldable pub is_letter : ℕ → Bool
is_letter b = within "a" "z" b || within "A" "Z" b || is "_" b

-- ASCII punctuation
unfoldable pub is_punctuation : ℕ → Bool
is_punctuation b = within "!" "/" b || within ":" "@" b || within "[" "`" b || within "{" "~" b

-- refusal 11: "byte over 127"
unfoldable pub is_over127 : ℕ → Bool
is_over127 b = ltb 127 b

-- the classes, numbered in the order of that sentence
abbrev pub Whitespace : ℕ
Whitespace = 0

abbrev pub Control : ℕ
Control = 1

abbrev pub Digit : ℕ
Digit = 2

abbrev pub Letter : ℕ
Letter = 3

abbrev pub Punctuation : ℕ
Punctuation = 4

abbrev pub Over127 : ℕ
Over127 = 5

unfoldable pub class_of : ℕ → ℕ
class_of b =
    cond (is_whitespace b) Whitespace (
    cond (is_control b) Control (
    cond (is_digit b) Digit (
    cond (is_letter b) Letter (
    cond (is_punctuation b) Punctuation Over127))))

-- "takes ASCII letters, digits, `_`, `-`"
unfoldable pub is_identifier_byte : ℕ → Bool
is_identifier_byte b = is_letter b || is_digit b || is "-" b

unfoldable pub is_hex_digit : ℕ → Bool
is_hex_digit b = is_digit b || within "a" "f" b || within "A" "F" b

unfoldable pub is_binary_digit : ℕ → Bool
is_binary_digit b = within "0" "1" b

-- "A to Z"
unfoldable pub is_capital : ℕ → Bool
is_capital b = within "A" "Z" b

-- "to before LF"
unfoldable pub is_not_lf : ℕ → Bool
is_not_lf b = not (is "\n" b)
