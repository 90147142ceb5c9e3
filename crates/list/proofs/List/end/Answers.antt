-- As many lexemes stand in the arrays as there are places (`places-length`), and of them the first ones are taken (`length-take`).
use native.Mathlib.Omega.{arith}
use lib.ListN.{length-take}
use Rattle.rules.specs.Lent.{lexemes_in}
use Rattle.rules.proofs.Listed.{places-length}
use Rattle.list.proofs.List.end.Goals as goal

pub returns : goal.returns
returns c =
    let l = c.args.self in
    let ks = l.kinds.now in
    let ws = l.words.now in
    omega (arith, c.min.ensures, c.places.ensures.places, length-take c.args.count (lexemes_in ks ws), places-length ks ws)
