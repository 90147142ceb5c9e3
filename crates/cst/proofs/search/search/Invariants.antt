-- The loop stands where `Stands` says; each way out of it is a law of `Standing`.
use Prim.Native.Nat.{◌-◌}
use mathlib.Core.Path.{◌≡◌}
use lib.ListN.{length}
use Rattle.rules.specs.Lent.{array_places, contents}
use Rattle.source.specs.Meaning.{span_meant}
use Rattle.list.specs.Entries.{list_meant, lent_meant, SameArrays}
use Rattle.cst.proofs.Standing.{Stands}
use Rattle.cst.proofs.search.search.Given as goal

abbrev pub invariant-loop-place : goal.invariant-loop-place
invariant-loop-place l =
    record {
      end : l.places.end ≡ length (contents (list_meant l.list));
      stands : Stands (contents (list_meant l.list)) l.start (lent_meant l.initial.parts) (lent_meant l.parts) l.places.start l.opened.depth (span_meant l.opened.hole) l.listed;
      same : SameArrays l.initial.parts l.parts;
      room : l.room ≡ array_places (lent_meant l.initial.parts);
    }

abbrev pub decreases-loop-place : goal.decreases-loop-place
decreases-loop-place l =
    l.places.end - l.places.start
