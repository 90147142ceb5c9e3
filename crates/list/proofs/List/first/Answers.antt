-- The end is within the places of both arrays (`end_inside`); up to there they hold the first entries (`first_entries`).
use native.Mathlib.Omega.{arith}
use Prim.Native.Nat.{◌*◌}
use lib.ListN.{length-take}
use Rattle.list.proofs.Entries.{end_inside, first_entries}
use Rattle.list.proofs.List.first.Goals as goal

pub slice_bounds-result-end : goal.slice_bounds-result-end
slice_bounds-result-end c = omega (arith, end_inside _ _ _ _ c.end-end.ensures, length-take c.end-end.result c.args.self.kinds.now)

pub overflow_mul-result : goal.overflow_mul-result
overflow_mul-result c = omega (arith, end_inside _ _ _ _ c.end-end.ensures)

pub slice_bounds-result-end-2 : goal.slice_bounds-result-end-2
slice_bounds-result-end-2 c = omega (arith, end_inside _ _ _ _ c.end-end.ensures, length-take (c.end-end.result * 2) c.args.self.words.now)

pub returns : goal.returns
returns c =
    let l = c.args.self in
    first_entries c.args.count c.end-end.result l.kinds.now l.words.now c.end-end.ensures
