-- A table that has the class of each of the 256 byte values at its place.
use Rattle.std.specs.Prelude.{ℕ, ◌<◌, ◌≡◌, List, get_or}
use Rattle.rules.specs.Bytes.{class_of}

pub record IsTable (t : List ℕ) : Type 0 where
  pub right : (b : ℕ) → b < 256 → get_or t b 0 ≡ class_of b
