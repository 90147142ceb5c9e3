-- The first and the last byte of a text, where they are read.
use Prim.Native.Nat.{ℕ, ◌-◌}
use Prim.Native.Char.{code}
use mathlib.Core.Path.{◌≡◌, refl}
use mathlib.Core.List.{List}
use lib.Dec.{eqb}
use lib.ListN.{length, drop, get_or}
use Rattle.rules.specs.Text.{starts, begins}
use Rattle.rules.specs.Bytes.{is_letter}
use Rattle.rules.proofs.Runs.{starts-at, begins-at}

-- a text starts with a letter where its first byte is one
pub first_letter : (w : List ℕ) → starts is_letter w ≡ is_letter (get_or w 0 0)
unfolding is_letter
first_letter w = starts-at is_letter w 0 refl

-- a text ends with `-` where its last byte is one
pub last_dash : (w : List ℕ) → begins "-" (drop (length w - 1) w) ≡ eqb (get_or w (length w - 1) 0) (code "-")
last_dash w = begins-at "-" w (length w - 1) refl
