-- The step by the class of the text's first byte, as the code finds it: for each class, what is left of the rules' order.
use Rattle.std.specs.Prelude.{ℕ, ◌+◌, List, Bool, cond, ◌&&◌, eqb, drop}
use Prim.Native.Char.{code}
use Rattle.rules.specs.Text.{is, begins, starts, run}
use Rattle.rules.specs.Bytes.{is_digit, is_not_lf}
use Rattle.rules.specs.Refusals.{NoFractionDigit}
use Rattle.rules.specs.Kinds.{Shebang, LineComment, PlainDouble, PlainTriple, FormatDouble, FormatTriple, HoleOpen, HoleClose, NumDecimal}
use Rattle.rules.specs.Step.{Step, found, stop, is_underscore, is_digit_or_underscore, punctuation, unicode_delim, unicode4, single_escape}
use Rattle.sublexers.specs.Words.{identifier_by}

-- a text that begins with a letter or `_`: its first byte and the rest for the quotes, the whole of it for the identifier, by any test of a byte
unfoldable pub lettered_by : (ℕ → Bool) → (first : ℕ) (rest s : List ℕ) → Step
lettered_by is_any first rest s =
    cond (is "f" first && begins "\"" rest)
    (cond (begins "\"\"" (drop 1 rest)) (found FormatTriple 4) (found FormatDouble 2))
    (identifier_by is_any s)

-- a text that begins with punctuation
unfoldable pub punctuated : (innermost : ℕ) → List ℕ → Step
punctuated innermost s =
    cond (begins "#!" s) (found Shebang (run is_not_lf s)) (
    cond (begins "//" s) (found LineComment (run is_not_lf s)) (
    cond (begins "\"\"\"" s) (found PlainTriple 3) (
    cond (begins "\"" s) (found PlainDouble 1) (
    cond (begins "}" s && eqb innermost HoleOpen) (found HoleClose 1)
    (punctuation innermost s)))))

-- the byte `\`
abbrev pub backslash : ℕ
backslash = code "\\"

-- in a string, a text that begins with it
unfoldable pub escaped : List ℕ → Step
escaped s = cond (begins "\\u{" s) (unicode_delim s) (cond (begins "\\u" s) (unicode4 s) (single_escape s))

-- the rules' `prefixed`, by any test of a byte that goes on the number, digit or underscore
unfoldable pub prefixed_by : (kind number : ℕ) → (ℕ → Bool) → List ℕ → Step
prefixed_by kind number goes s =
    let n = run goes (drop 2 s) in
    cond (eqb (run is_underscore (drop 2 s)) n) (stop number 0 (2 + n)) (found kind (2 + n))

-- perhaps a fraction, without the exponent that may follow it
unfoldable pub fraction_alone : List ℕ → Step
fraction_alone s =
    cond (begins "." s)
    (cond (starts is_digit (drop 1 s)) (found NumDecimal (1 + run is_digit_or_underscore (drop 1 s))) (stop NoFractionDigit 0 1))
    (found NumDecimal 0)
