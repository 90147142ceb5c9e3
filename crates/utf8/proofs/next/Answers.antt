-- Behind an ASCII byte the check goes on (`passed_ascii_byte`).
use borrow.Author.Rules.{rules}
use Rattle.utf8.proofs.Ahead.{passed_ascii_byte}
use Rattle.utf8.proofs.next.Goals as goal

pub returns-then-text-lt128 : goal.returns-then-text-lt128
returns-then-text-lt128 c = passed_ascii_byte (search rules) (search rules) c.skip.ensures
