-- Nothing is said against the part, so what is left of its line is written where it fits.
use Rattle.value.proofs.OnePart.{string-put, string-not}
use Rattle.value.proofs.piece.write_string.Goals as goal

pub returns-in-Ok-clause-written : goal.returns-in-Ok-clause-written
returns-in-Ok-clause-written c = string-put c.requires (rw (c.in-Ok.is, c.resolve-line.ensures.part) at c.put_string.ensures)

pub returns-in-Err-clause-written : goal.returns-in-Err-clause-written
returns-in-Err-clause-written c = rw c.refuse.ensures (string-not c.requires (rw (c.in-Err.is, c.resolve-line.ensures.part) at c.put_string.ensures))
