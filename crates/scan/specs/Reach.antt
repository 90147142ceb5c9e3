-- A scan from `at` that has come to `i`: the run from `at` ends where the run from `i` ends. It has passed the text's end only where it started there.
use Rattle.std.specs.Prelude.{ℕ, ◌+◌, ◌≤◌, max, ◌≡◌, Bool, List, length, drop}
use Rattle.rules.specs.Text.{run}

pub record Reach (p : ℕ → Bool) (t : List ℕ) (at i : ℕ) : Type 0 where
  pub up : at ≤ i
  pub inside : i ≤ max at (length t)
  pub same : at + run p (drop at t) ≡ i + run p (drop i t)
