-- Past the places stands no lexeme (`first_past`); at a place stands the lexeme of its kind and its two words (`lexeme-at`).
use native.Mathlib.Omega.{arith}
use Prim.Native.Nat.{◌≤◌, ◌<◌}
use mathlib.Core.Path.{sym, ap, ◌∙◌}
use lib.ListN.{length}
use Rattle.rules.specs.Kinds.{Space}
use Rattle.rules.specs.Lent.{lexeme, places_of, lexemes_in}
use Rattle.rules.proofs.Listed.{places-length}
use Rattle.list.proofs.Entries.{first_past, lexeme-at}
use Rattle.list.proofs.List.get.Goals as goal

pub returns-then-places-place : goal.returns-then-places-place
returns-then-places-place c =
    let ks = c.args.self.kinds.now in
    let ws = c.args.self.words.now in
    let past : length (lexemes_in ks ws) ≤ c.args.place = omega (arith, c.if-places-place.true, c.places.ensures.places, places-length ks ws) in
    ap (lexeme Space) c.nowhere.ensures ∙ sym (first_past (lexemes_in ks ws) c.args.place past)

pub returns : goal.returns
returns c =
    let ks = c.args.self.kinds.now in
    let ws = c.args.self.words.now in
    let there : c.args.place < places_of ks ws = omega (arith, c.if-places-place.false, c.places.ensures.places) in
    sym (lexeme-at ks ws c.args.place there)
