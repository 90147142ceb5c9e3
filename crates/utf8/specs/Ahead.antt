-- What the private functions ensure of two places of a text, and of what is left of it.
use Rattle.std.specs.Prelude.{ℕ, ◌+◌, ◌≤◌, ◌≡◌, List, length, drop}
use Rattle.rules.specs.Utf8.{first_bad_from}

-- the first bad sequence from `at` on is the first from `r` on, wherever the text stands: between the two stand whole characters
pub record Ahead (t : List ℕ) (at r : ℕ) : Type 0 where
  pub up : at ≤ r
  pub inside : r ≤ length t
  pub same : (base : ℕ) → first_bad_from 0 (base + at) (drop at t) ≡ first_bad_from 0 (base + r) (drop r t)

-- what is left of a text behind whole characters
pub record Passed (t rest : List ℕ) : Type 0 where
  pub bytes : ℕ
  pub left : rest ≡ drop bytes t
  pub ahead : Ahead t 0 bytes
