-- `skip_far` passes over ASCII bytes: the block that it tests and what its two calls ensure, joined.
use native.Mathlib.Omega.{arith}
use Rattle.utf8.proofs.Ahead.{passed_none, passed_join, passed_ascii}
use Rattle.utf8.proofs.skip_far.Goals as goal

pub returns : goal.returns
returns c =
    passed_join (passed_join (passed_ascii 32 (omega arith) (c.is_ascii.ensures c.if-not-is_ascii.false) passed_none) c.skip_blocks.ensures) c.skip_blocks-2.ensures
