-- RFC 8259, section 6: the grammar of numbers, without the sign.
use Rattle.std.specs.Prelude.{List, [], ◌∷◌, ◌++◌, ◌≡◌, true, ℕ, not}
use Rattle.rules.specs.Text.{ascii, within, keep, is}

abbrev pub DIGIT : ℕ → Type 0
DIGIT b = within "0" "9" b ≡ true

abbrev pub digit1-9 : ℕ → Type 0
digit1-9 b = within "1" "9" b ≡ true

-- *DIGIT
pub data Digits : List ℕ → Type 0 where
  none : Digits []
  more : {b : ℕ} {s : List ℕ} → DIGIT b → Digits s → Digits (b ∷ s)

-- 1*DIGIT
pub data Digits1 : List ℕ → Type 0 where
  some : {b : ℕ} {s : List ℕ} → DIGIT b → Digits s → Digits1 (b ∷ s)

-- int = zero / ( digit1-9 *DIGIT )
pub data Int : List ℕ → Type 0 where
  zero : Int (ascii "0")
  nonzero : {b : ℕ} {s : List ℕ} → digit1-9 b → Digits s → Int (b ∷ s)

-- [ frac ], where frac = decimal-point 1*DIGIT
pub data Frac : List ℕ → Type 0 where
  no-frac : Frac []
  frac : {s : List ℕ} → Digits1 s → Frac (ascii "." ++ s)

-- e = %x65 / %x45
pub data E : List ℕ → Type 0 where
  lower : E (ascii "e")
  upper : E (ascii "E")

-- [ minus / plus ]
pub data Sign : List ℕ → Type 0 where
  no_sign : Sign []
  minus : Sign (ascii "-")
  plus : Sign (ascii "+")

-- [ exp ], where exp = e [ minus / plus ] 1*DIGIT
pub data Exp : List ℕ → Type 0 where
  no-exp : Exp []
  exp : {e sign s : List ℕ} → E e → Sign sign → Digits1 s → Exp (e ++ (sign ++ s))

-- int [ frac ] [ exp ]
pub data Unsigned : List ℕ → Type 0 where
  unsigned : {i f e : List ℕ} → Int i → Frac f → Exp e → Unsigned (i ++ (f ++ e))

-- the bytes without their underscores
abbrev pub without_underscores : List ℕ → List ℕ
without_underscores = keep (λ b. not (is "_" b))
