-- The list has ended, the opener is refused, or the parts are those that the search from the next place on finds.
use native.Mathlib.Omega.{arith}
use lib.ListN.{length}
use Prim.Native.Nat.{◌≤◌}
use Rattle.rules.specs.Lent.{contents}
use Rattle.list.specs.Entries.{list_meant}
use Rattle.list.proofs.Entries.{place_on}
use Rattle.cst.proofs.Standing.{lists-past, lists-stopped, lists-searched}
use Rattle.cst.proofs.search.parts.Goals as goal

pub returns-then-places-place-clause-lists : goal.returns-then-places-place-clause-lists
returns-then-places-place-clause-lists c =
    let list = c.first-list.result in
    let ended : length (contents (list_meant list)) ≤ c.args.place = omega (arith, c.if-places-place.true, c.places.ensures.entries) in
    rw (c.refuse.ensures, c.nowhere.ensures) (lists-past _ _ _ _ (rw c.first-list.ensures at ended))

pub returns-in-Err-clause-lists : goal.returns-in-Err-clause-lists
returns-in-Err-clause-lists c =
    let here = place_on (contents (list_meant c.first-list.result)) c.args.place _ (omega (arith, c.if-places-place.false, c.places.ensures.entries)) c.get.ensures in
    lists-stopped _ _ _ _ _ (rw c.first-list.ensures at here) _ c.in-Err.ensures

pub returns-in-Ok-clause-lists : goal.returns-in-Ok-clause-lists
returns-in-Ok-clause-lists c =
    let here = place_on (contents (list_meant c.first-list.result)) c.args.place _ (omega (arith, c.if-places-place.false, c.places.ensures.entries)) c.get.ensures in
    lists-searched _ _ _ _ _ _ (rw c.first-list.ensures at here) c.in-Ok.ensures _ _ (rw c.first-list.ensures at c.search.ensures.searched)
