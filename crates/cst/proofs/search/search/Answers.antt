-- What the lexeme at this place does takes the search on to the next place, or out of the loop with its answer.
use native.Mathlib.Omega.{arith}
use mathlib.Core.Path.{◌≡◌}
use mathlib.Core.List.{List, ◌∷◌}
use Prim.Native.Nat.{ℕ, ◌+◌, ◌-◌, ◌<◌}
use lib.ListN.{length, drop}
use Rattle.rules.specs.Lent.{Lexeme}
use Rattle.rules.proofs.Listed.{places-length}
use Rattle.list.specs.Entries.{first_of}
use Rattle.list.proofs.Entries.{place_on}
use Rattle.cst.proofs.Standing.{stands-passes, stands-yields, stands-closed, stands-refused}
use Rattle.cst.proofs.search.search.Goals as goal

-- the lexeme at the next of the list's places, and those after it
met : (ls : List Lexeme) {start end place : ℕ} {l : Lexeme} → end ≡ length ls → 0 < end - start → place ≡ start → l ≡ first_of (drop place ls) → drop start ls ≡ l ∷ drop (start + 1) ls
met ls {start = start} {l = l} ended ahead same here = place_on ls start l (omega (arith, ended, ahead)) (rw same at here)

pub effect_in_room-requires : goal.effect_in_room-requires
effect_in_room-requires c =
    let a = c.args in
    let turn = c.in-Some.ensures.steps in
    omega (arith, c.loop-place.invariant.stands.upper, c.loop-place.invariant.end, turn.1.0, places-length a.list.kinds.now a.list.words.now)

pub loop-place-preserved-in-Ok-Passes : goal.loop-place-preserved-in-Ok-Passes
loop-place-preserved-in-Ok-Passes c =
    let known = c.loop-place.invariant in
    let turn = c.in-Some.ensures.steps in
    let here = met _ known.end turn.1.0 turn.1.1 c.get.ensures in
    record {
      end = rw (turn.0, known.end);
      stands = rw turn.1.2 (stands-passes known.stands _ here (rw (known.room, c.in-Ok-Passes.field-0-is) at c.in-Ok-Passes.ensures));
      same = known.same;
      room = known.room;
    }

pub loop-place-preserved : goal.loop-place-preserved
loop-place-preserved c =
    let known = c.loop-place.invariant in
    let turn = c.in-Some.ensures.steps in
    let here = met _ known.end turn.1.0 turn.1.1 c.get.ensures in
    record {
      end = rw (turn.0, known.end);
      stands = rw (turn.1.2, c.only_string-opened-in-Ok-Yields.ensures.depth, c.only_string-opened-in-Ok-Yields.ensures.hole)
          (stands-yields known.stands _ here (rw (known.room, c.in-Ok-Yields.field-0-is) at c.in-Ok-Yields.ensures) c.from.ensures c.put.ensures.put);
      same = rw (c.put.ensures.same.0, c.put.ensures.same.1) known.same;
      room = known.room;
    }

pub returns-in-Ok-Closes-clause-searched : goal.returns-in-Ok-Closes-clause-searched
returns-in-Ok-Closes-clause-searched c =
    let known = c.loop-place.invariant in
    let turn = c.in-Some.ensures.steps in
    let here = met _ known.end turn.1.0 turn.1.1 c.get.ensures in
    stands-closed known.stands _ here turn.1.1 (rw (known.room, c.in-Ok-Closes.field-0-is) at c.in-Ok-Closes.ensures)

pub returns-in-Err-clause-searched : goal.returns-in-Err-clause-searched
returns-in-Err-clause-searched c =
    let known = c.loop-place.invariant in
    let turn = c.in-Some.ensures.steps in
    let here = met _ known.end turn.1.0 turn.1.1 c.get.ensures in
    stands-refused known.stands _ here (rw known.room at c.in-Err.ensures)
