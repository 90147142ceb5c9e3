-- The gap rule as the code tests it.
use Prim.Native.Nat.{ℕ}
use mathlib.Core.Path.{◌≡◌, refl}
use mathlib.Core.Bool.{Bool, true, false, cond, ◌||◌}
use mathlib.Core.List.{[]}
use lib.Dec.{eqb}
use Rattle.rules.specs.Text.{ascii}
use Rattle.rules.specs.Kinds.{Blank, Shebang, LineComment, StringInner, HoleClose, is_quote_open, is_escape}
use Rattle.rules.specs.Tidy.{gap}
use Rattle.token.specs.Codes.{joins_next}

-- the gap, where one test says what the string goes on after
pub gap-joins : (a b : ℕ) → gap a b ≡ cond (eqb a Blank || eqb b Blank || joins_next a) [] (cond (eqb a Shebang || eqb a LineComment) (ascii "\n") (ascii " "))
unfolding gap joins_next
gap-joins a b =
    rw (five (eqb a Blank || eqb b Blank) (is_quote_open a) (eqb a StringInner) (is_escape a) (eqb a HoleClose), two (eqb a LineComment) (eqb a Shebang)) refl
  where
    five : (a b c d e : Bool) → a || b || c || d || e ≡ a || (b || c || d || e)
    five true b c d e = refl
    five false b c d e = refl

    two : (a b : Bool) → a || b ≡ b || a
    two true true = refl
    two true false = refl
    two false true = refl
    two false false = refl
