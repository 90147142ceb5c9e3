-- Laws of hex digits: each of them is one, and the number that they make up.
use Prim.Native.Nat.{ℕ, zero, suc, ◌+◌, ◌*◌, ◌^◌, ◌≤◌, ◌<◌}
use native.Mathlib.Numerals.{add-one}
use native.Mathlib.Omega.{arith}
use mathlib.Core.Path.{◌≡◌, refl}
use mathlib.Core.Bool.{Bool, true}
use mathlib.Core.List.{List, [], ◌∷◌}
use lib.ListN.{length, drop, get_or, drop_of_length-le}
use lib.Pow.{pow-add}
use lib.Seq.{drop-cons}
use Rattle.rules.specs.Text.{all}
use Rattle.rules.specs.Escapes.{hex_digit, hex_from}
use Rattle.rules.proofs.Text.{both}

-- where every byte passes a test, the one at a place does
pub all_at : (p : ℕ → Bool) (w : List ℕ) (i : ℕ) → all p w ≡ true → i < length w → p (get_or w i 0) ≡ true
all_at p [] i e h = absurd (omega arith)
all_at p (b ∷ w) zero e h = (both (p b) (all p w) e).0
all_at p (b ∷ w) (suc i) e h = all_at p w i (both (p b) (all p w) e).1 (omega arith)

-- the number so far and the digits from a place on: one digit more
pub hex_more : (w : List ℕ) (i n : ℕ) → i < length w → hex_from n (drop i w) ≡ hex_from (n * 16 + hex_digit (get_or w i 0)) (drop (i + 1) w)
hex_more w i n h = rw (add-one, drop-cons w i 0 h) refl

-- no digit is left
pub hex_done : (w : List ℕ) (i n : ℕ) → length w ≤ i → hex_from n (drop i w) ≡ n
hex_done w i n h = rw (drop_of_length-le w {i = i} h) refl

-- one power more
pub power_more : (i : ℕ) → 16 ^ (i + 1) ≡ 16 ^ i * 16
power_more i = pow-add 16 i 1

-- fewer than six digits stay below 2^20
pub power_six : (i : ℕ) → i < 6 → 16 ^ i ≤ 1048576
power_six zero h = omega arith
power_six (suc zero) h = omega arith
power_six (suc (suc zero)) h = omega arith
power_six (suc (suc (suc zero))) h = omega arith
power_six (suc (suc (suc (suc zero)))) h = omega arith
power_six (suc (suc (suc (suc (suc zero))))) h = omega arith
power_six (suc (suc (suc (suc (suc (suc i)))))) h = absurd (omega arith)
