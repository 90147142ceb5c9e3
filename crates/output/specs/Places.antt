-- What writing to an output does.
use Rattle.std.specs.Prelude.{ℕ, ◌+◌, ◌≡◌, cond, List, leb, length, Result, Ok, Err}
use Rattle.rules.specs.Output.{end_of, overwritten}
use Rattle.output.specs.declared.Full.{Full}
use Rattle.output.specs.declared.Output.{Output}

-- the error of a piece that does not fit
abbrev pub full : Full
full = record {}

-- the array is still the one that was lent
abbrev pub SameBytes : Output → Output → Type 0
SameBytes o o' = o'.bytes.ghost_name ≡ o.bytes.ghost_name

-- "a piece is written whole or not": where it fits, the position is then the one behind it, and the output is overwritten with it
pub record Put (w : List ℕ) (o : Output) (answer : Result (Unit {0}) Full) (o' : Output) : Type 0 where
  pub whole : answer ≡ cond (leb (o.at + length w) (end_of o.bytes.now)) (Ok tt) (Err full)
  pub position : o'.at ≡ cond (leb (o.at + length w) (end_of o.bytes.now)) (o.at + length w) o.at
  pub output : o'.bytes.now ≡ cond (leb (o.at + length w) (end_of o.bytes.now)) (overwritten o.bytes.now o.at w) o.bytes.now
  pub same : SameBytes o o'
