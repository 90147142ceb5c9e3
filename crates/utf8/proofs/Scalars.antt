-- Laws of the bytes of a scalar value: which they are by its size.
use Prim.Native.Nat.{ℕ, ◌+◌, ◌/◌, ◌%◌, ◌≤◌, ◌<◌}
use native.Mathlib.Omega.{arith}
use mathlib.Core.Path.{◌≡◌, refl}
use mathlib.Core.Bool.{true, ◌&&◌}
use mathlib.Core.List.{[], ◌∷◌}
use borrow.Author.Tests.{lt-ltb, le-ltb, leb-true, ltb-true}
use lib.Dec.{ltb, leb}
use Rattle.rules.specs.Utf8.{encode, is_scalar}
use Rattle.rules.proofs.Text.{either, and_right}

-- the one byte of a scalar value under 0x80
pub encode_one : (u : ℕ) → u < 0x80 → encode u ≡ u ∷ []
unfolding encode
encode_one u h = rw (lt-ltb u 0x80 h) refl

-- the two bytes of one under 0x800
pub encode_two : (u : ℕ) → 0x80 ≤ u → u < 0x800 → encode u ≡ (0xC0 + u / 64) ∷ (0x80 + u % 64) ∷ []
unfolding encode
encode_two u l h = rw (le-ltb u 0x80 l, lt-ltb u 0x800 h) refl

-- the three bytes of one under 0x10000
pub encode_three : (u : ℕ) → 0x800 ≤ u → u < 0x10000 → encode u ≡ (0xE0 + u / 4096) ∷ (0x80 + u / 64 % 64) ∷ (0x80 + u % 64) ∷ []
unfolding encode
encode_three u l h = rw (le-ltb u 0x80 (omega arith), le-ltb u 0x800 l, lt-ltb u 0x10000 h) refl

-- the four bytes of any other
pub encode_four : (u : ℕ) → 0x10000 ≤ u → encode u ≡ (0xF0 + u / 262144) ∷ (0x80 + u / 4096 % 64) ∷ (0x80 + u / 64 % 64) ∷ (0x80 + u % 64) ∷ []
unfolding encode
encode_four u l = rw (le-ltb u 0x80 (omega arith), le-ltb u 0x800 (omega arith), le-ltb u 0x10000 l) refl

-- a scalar value is at most 0x10FFFF
pub scalar_most : (u : ℕ) → is_scalar u ≡ true → u ≤ 0x10FFFF
unfolding is_scalar
scalar_most u e = either (ltb u 0xD800) (leb 0xE000 u && leb u 0x10FFFF) e
    (λ f. let h = ltb-true u 0xD800 f in omega arith)
    (λ f. leb-true u 0x10FFFF (and_right (leb 0xE000 u) (leb u 0x10FFFF) f))

-- a number under 0x800 is a scalar value
pub low_scalar : (u : ℕ) → u < 0x800 → is_scalar u ≡ true
unfolding is_scalar
low_scalar u h = rw (lt-ltb u 0xD800 (omega (arith, h))) refl
