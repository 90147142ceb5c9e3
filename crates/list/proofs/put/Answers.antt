-- The test is that of `put_in`; the two words that are written are those of the span that they name (`low-of-span`, `high-of-span`).
use native.Mathlib.Omega.{arith}
use Prim.Native.Nat.{◌^◌, ◌<◌}
use mathlib.Core.Path.{◌≡◌}
use mathlib.Core.Bool.{true}
use lib.Dec.{ltb}
use borrow.Author.Tests.{lt-ltb}
use Rattle.rules.specs.Lent.{places_of}
use Rattle.rules.proofs.Spans.{low-of-span, high-of-span}
use Rattle.list.proofs.put.Goals as goal

pub returns : goal.returns
returns c =
    let a = c.args in
    let n = places_of a.kinds.now a.words.now in
    let there : ltb a.place n ≡ true = lt-ltb a.place n (omega (arith, c.if-places-place.false, c.places.ensures.places)) in
    let l = a.entry.at.low in
    let h = a.entry.at.high in
    let word : l < 2 ^ 64 = omega arith in
    rw (there, low-of-span l h word, high-of-span l h word)
