-- The number so far and the digits that are left make up the whole; it stays below the power of 16.
use Rattle.std.proofs.Common.{◌≡◌, ◌^◌, ◌<◌, drop}
use Rattle.rules.specs.Escapes.{hex_value, hex_from}
use Rattle.string.proofs.hex.hex_value.Given as goal

abbrev pub invariant-loop-b : goal.invariant-loop-b
invariant-loop-b l = (l.n < 16 ^ l.b-index) × (hex_value l.digits ≡ hex_from l.n (drop l.b-index l.digits))
