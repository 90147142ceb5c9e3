-- The loop stands where `Running` says; each way out and each way on is a law of `Running`.
use Prim.Native.Nat.{◌-◌, ◌<◌, ◌^◌}
use mathlib.Core.Path.{◌≡◌}
use lib.ListN.{length}
use Rattle.rules.specs.Kinds.{Space}
use Rattle.rules.specs.Lent.{lent, places_of}
use Rattle.token.specs.Codes.{code_of}
use Rattle.token.specs.Table.{IsTable}
use Rattle.lexer.specs.Going.{room_of, course_of, state_at}
use Rattle.lexer.specs.Mode.{mode_of}
use Rattle.lexer.proofs.Running.{Running}
use Rattle.lexer.proofs.lexing.run_in.Given as goal

abbrev pub invariant-loop-cur : goal.invariant-loop-cur
invariant-loop-cur l =
    Running (course_of l.doc l.shift l.text l.stop l.listed l.to_format (lent l.initial.kinds l.initial.words) (lent l.initial.skinds l.initial.swords)) (state_at l.initial.cur Space (lent l.initial.kinds l.initial.words) (lent l.initial.skinds l.initial.swords)) (state_at l.cur (code_of l.token) (lent l.kinds l.words) (lent l.skinds l.swords)) l.mode.top × (l.places ≡ room_of l.listed (lent l.initial.kinds l.initial.words)) × (l.stack_places ≡ places_of l.initial.skinds l.initial.swords) × IsTable l.table × (places_of l.initial.skinds l.initial.swords < 2 ^ 63) × (l.mode ≡ mode_of l.mode.top)

abbrev pub decreases-loop-cur : goal.decreases-loop-cur
decreases-loop-cur l =
    length l.text - l.cur.at
