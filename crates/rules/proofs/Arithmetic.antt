-- The places of the two words of the next entry.
use Prim.Native.Nat.{ℕ, suc, ◌+◌, ◌*◌}
use native.Mathlib.Omega.{arith}
use mathlib.Core.Path.{◌≡◌}

pub suc-double : (n : ℕ) → suc n * 2 ≡ suc (suc (n * 2))
suc-double n = omega arith

pub suc-double-one : (n : ℕ) → suc n * 2 + 1 ≡ suc (suc (n * 2 + 1))
suc-double-one n = omega arith
