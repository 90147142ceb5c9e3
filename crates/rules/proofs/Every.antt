-- One computed test over all the numbers below a bound, or over all the entries of a list, proves its rule at each of them: by induction on the bound.
use Prim.Native.Nat.{ℕ, zero, suc, ◌<◌}
use mathlib.Core.Path.{◌≡◌}
use mathlib.Core.Bool.{Bool, true, false, not, ◌&&◌, ◌||◌, false≢true}
use mathlib.Core.List.{List}
use native.Mathlib.Omega.{arith}
use lib.ListN.{length, get_or}
use Rattle.rules.proofs.Text.{both}

-- every number below `n` passes the test
abbrev pub all_below : ℕ → (ℕ → Bool) → Bool
all_below zero p = true
all_below (suc n) p = p 0 && all_below n (λ k. p (suc k))

pub below : (n : ℕ) (p : ℕ → Bool) → all_below n p ≡ true → (k : ℕ) → k < n → p k ≡ true
below zero p h k lt = absurd (omega arith)
below (suc n) p h zero lt = (both (p 0) (all_below n (λ k. p (suc k))) h).0
below (suc n) p h (suc k) lt = below n (λ k. p (suc k)) (both (p 0) (all_below n (λ k. p (suc k))) h).1 k (omega arith)

-- every entry of a list, with its place, passes the test
abbrev pub every : (ℕ → ℕ → Bool) → List ℕ → Bool
every p xs = all_below (length xs) (λ k. p k (get_or xs k 0))

pub entries : (p : ℕ → ℕ → Bool) (xs : List ℕ) → every p xs ≡ true → (k : ℕ) → k < length xs → p k (get_or xs k 0) ≡ true
entries p xs = below (length xs) (λ k. p k (get_or xs k 0))

-- of two tests, whatever passes the one passes the other
abbrev pub implies : (ℕ → Bool) → (ℕ → Bool) → ℕ → Bool
implies p q k = not (p k) || q k

then : (a b : Bool) → (not a || b) ≡ true → a ≡ true → b ≡ true
then true b h e = h
then false b h e = absurd (false≢true e)

pub implied : (n : ℕ) (p q : ℕ → Bool) → all_below n (implies p q) ≡ true → (k : ℕ) → k < n → p k ≡ true → q k ≡ true
implied n p q h k lt = then (p k) (q k) (below n (implies p q) h k lt)
