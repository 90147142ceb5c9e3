-- Document 02, Point 2: "Whitespace in one pass".
use Rattle.std.specs.Prelude.{ℕ, suc, cond, List, ltb, length, take}
use Rattle.rules.specs.Text.{is, run, count}
use Rattle.rules.specs.Bytes.{is_whitespace}

-- "a run of whitespace is to be measured and its line ends counted ..": how long the run is and how many line ends it has; "the measuring answer carries the number of bytes looked at"
pub record Measured : Type 0 where
  pub length : ℕ
  pub lines : ℕ
  pub looked : ℕ

-- the run at the front of a text; the bytes looked at are "the run's length, or one more where a byte follows it"
unfoldable pub measured : List ℕ → Measured
measured s =
    let n = run is_whitespace s in
    record { length = n; lines = count (is "\n") (take n s); looked = cond (ltb n (length s)) (suc n) n }
