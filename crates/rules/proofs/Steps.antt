-- What a step answers: by its two cases, and where it is one of them.
use Prim.Native.Nat.{ℕ}
use mathlib.Core.Path.{◌≡◌, refl}
use native.Mathlib.Omega.{arith}
use Rattle.rules.specs.Step.{Step, found, stop}

-- a lexeme or a refusal
pub step-cases : {P : Type 0} (r : Step) → ((k n : ℕ) → r ≡ found k n → P) → ((number from n : ℕ) → r ≡ stop number from n → P) → P
step-cases (found k n) f g = f k n refl
step-cases (stop number from n) f g = g number from n refl

-- the same lexeme has the same kind
pub kind-of : {a b k n : ℕ} → found a b ≡ found k n → a ≡ k
kind-of e = cc

-- and the same length
pub length-of : {a b k n : ℕ} → found a b ≡ found k n → b ≡ n
length-of e = cc

-- a refusal is no lexeme
pub refuted : {P : Type 0} {number from l k n : ℕ} → stop number from l ≡ found k n → P
refuted e = let z : ◌≡◌ {A = ℕ} 0 1 = cc in absurd (omega arith)
