use mathlib.Core.Path.{◌≡◌, refl, sym, ap, ◌∙◌}
use native.Mathlib.Omega.{arith}
use borrow.Author.Tests.{ne_eqb}
use Rattle.token.specs.Codes.{code_of, if_opener}
use Rattle.token.specs.declared.State.{State}
use Rattle.std.specs.Prelude.{Option}
use Rattle.lexer.specs.Mode.{mode_of}
use Rattle.lexer.specs.declared.Mode.{Mode}
use Rattle.lexer.proofs.Running.{running-start, as_long, ends-not, space-ends, taken, token-code, in-document, refused-out, stack-full, opener-unlisted, other-unlisted, opener-fits, other_fits, can-advance, runs-less, ends_at, space-on, opener-long, opener-on, opener-out, other-on, other-shallow, other-top, space-behind, blank-behind, ahead_before, ahead-taken, ahead-words, ahead-unlisted, blank-opens, blank-closes, end-stop}
use Rattle.lexer.proofs.lexing.run_in.Goals as goal

-- a mode that is an opener's is that of its own opener
kept : {m : Mode} {top : Option State} → m ≡ mode_of top → m ≡ mode_of m.top
kept e = rw e refl

pub loop-cur-init : goal.loop-cur-init
unfolding code_of
loop-cur-init c = (rw c.mode_of-mode.ensures (running-start _ _ _ c.requires refl), c.room-places.ensures, c.places-stack_places.ensures.places, c.table-table.ensures, omega (arith, c.places-stack_places.ensures.places, c.places-stack_places.ensures.small), kept c.mode_of-mode.ensures)

pub next-answer-requires : goal.next-answer-requires
next-answer-requires c =
    let i = c.loop-cur.invariant in
    (i.3, record { inside = omega (arith, i.0.before, c.loop-cur-test.true); small = omega (arith, i.0.small) }, i.5)

pub shape_of-kinds-in_default : goal.shape_of-kinds-in_default
shape_of-kinds-in_default c = (as_long c.loop-cur.invariant.0).list.kinds

pub shape_of-words-in_default : goal.shape_of-words-in_default
shape_of-words-in_default c = (as_long c.loop-cur.invariant.0).list.words

pub shape_of-skinds-in_default : goal.shape_of-skinds-in_default
shape_of-skinds-in_default c = (as_long c.loop-cur.invariant.0).stack.kinds

pub shape_of-swords-in_default : goal.shape_of-swords-in_default
shape_of-swords-in_default c = (as_long c.loop-cur.invariant.0).stack.words

pub returns-in_default : goal.returns-in_default
returns-in_default c =
    let i = c.loop-cur.invariant in
    let h = c.loop-cur-test.true in
    refused-out i.0 h _ _ _ c.in_default.is c.refused_step.ensures c.next-answer.ensures

pub past_space-cur-requires : goal.past_space-cur-requires
past_space-cur-requires c =
    let i = c.loop-cur.invariant in
    let h = c.loop-cur-test.true in
    let t = taken i.0 h _ _ c.in-Ok.is c.next-answer.ensures in
    can-advance i.0 h t i.4

pub loop-cur-smaller-then-kind-eq-SPACE : goal.loop-cur-smaller-then-kind-eq-SPACE
loop-cur-smaller-then-kind-eq-SPACE c =
    let i = c.loop-cur.invariant in
    let h = c.loop-cur-test.true in
    let t = taken i.0 h _ _ c.in-Ok.is c.next-answer.ensures in
    runs-less i.0 h t _ c.past_space-cur.ensures

pub loop-cur-preserved-then-kind-eq-SPACE : goal.loop-cur-preserved-then-kind-eq-SPACE
loop-cur-preserved-then-kind-eq-SPACE c =
    let i = c.loop-cur.invariant in
    let h = c.loop-cur-test.true in
    let t = taken i.0 h _ _ c.in-Ok.is c.next-answer.ensures in
    let tc = token-code i.0 h _ _ c.in-Ok.is c.next-answer.ensures in
    (rw (← tc) (space-on i.0 h t c.if-kind-eq-SPACE.true (space-ends c.args.to_format _ c.if-kind-eq-SPACE.true) c.past_space-cur.ensures), i.1, i.2, i.3, i.4, i.5)

pub overflow_add-shift : goal.overflow_add-shift
overflow_add-shift c =
    let i = c.loop-cur.invariant in
    let h = c.loop-cur-test.true in
    let t = taken i.0 h _ _ c.in-Ok.is c.next-answer.ensures in
    omega (arith, (in-document i.0 h t).0)

pub overflow_add-shift-else-kind-eq-SPACE : goal.overflow_add-shift-else-kind-eq-SPACE
overflow_add-shift-else-kind-eq-SPACE c =
    let i = c.loop-cur.invariant in
    let h = c.loop-cur-test.true in
    let t = taken i.0 h _ _ c.in-Ok.is c.next-answer.ensures in
    omega (arith, (in-document i.0 h t).1)

pub pack-requires : goal.pack-requires
pack-requires c =
    let i = c.loop-cur.invariant in
    let h = c.loop-cur-test.true in
    let t = taken i.0 h _ _ c.in-Ok.is c.next-answer.ensures in
    in-document i.0 h t

pub shape_of-kinds-then-stack_places-depth : goal.shape_of-kinds-then-stack_places-depth
shape_of-kinds-then-stack_places-depth c = (as_long c.loop-cur.invariant.0).list.kinds

pub shape_of-words-then-stack_places-depth : goal.shape_of-words-then-stack_places-depth
shape_of-words-then-stack_places-depth c = (as_long c.loop-cur.invariant.0).list.words

pub shape_of-skinds-then-stack_places-depth : goal.shape_of-skinds-then-stack_places-depth
shape_of-skinds-then-stack_places-depth c = (as_long c.loop-cur.invariant.0).stack.kinds

pub shape_of-swords-then-stack_places-depth : goal.shape_of-swords-then-stack_places-depth
shape_of-swords-then-stack_places-depth c = (as_long c.loop-cur.invariant.0).stack.words

pub returns-then-stack_places-depth : goal.returns-then-stack_places-depth
returns-then-stack_places-depth c =
    let i = c.loop-cur.invariant in
    let h = c.loop-cur-test.true in
    let t = taken i.0 h _ _ c.in-Ok.is c.next-answer.ensures in
    let o = sym c.opens.ensures ∙ c.if-opens.true in
    rw c.no_room.ensures (stack-full i.0 h t o (omega (arith, i.2, c.if-stack_places-depth.true)))

pub shape_of-kinds-then-places-place : goal.shape_of-kinds-then-places-place
shape_of-kinds-then-places-place c = (as_long c.loop-cur.invariant.0).list.kinds

pub shape_of-words-then-places-place : goal.shape_of-words-then-places-place
shape_of-words-then-places-place c = (as_long c.loop-cur.invariant.0).list.words

pub shape_of-skinds-then-places-place : goal.shape_of-skinds-then-places-place
shape_of-skinds-then-places-place c = (as_long c.loop-cur.invariant.0).stack.kinds

pub shape_of-swords-then-places-place : goal.shape_of-swords-then-places-place
shape_of-swords-then-places-place c = (as_long c.loop-cur.invariant.0).stack.words

pub returns-then-places-place : goal.returns-then-places-place
returns-then-places-place c =
    let i = c.loop-cur.invariant in
    let h = c.loop-cur-test.true in
    let t = taken i.0 h _ _ c.in-Ok.is c.next-answer.ensures in
    let o = sym c.opens.ensures ∙ c.if-opens.true in
    rw c.no_room-then-places-place.ensures (opener-unlisted i.0 h t o (omega (arith, i.2, c.if-stack_places-depth.false)) (omega (arith, i.1, c.if-places-place.true)))

pub past_opener-cur-requires : goal.past_opener-cur-requires
past_opener-cur-requires c =
    let i = c.loop-cur.invariant in
    let h = c.loop-cur-test.true in
    let t = taken i.0 h _ _ c.in-Ok.is c.next-answer.ensures in
    (can-advance i.0 h t i.4, sym c.opens.ensures ∙ c.if-opens.true)

pub shape_of-kinds-then-ends_after : goal.shape_of-kinds-then-ends_after
shape_of-kinds-then-ends_after c =
    let i = c.loop-cur.invariant in
    let h = c.loop-cur-test.true in
    let t = taken i.0 h _ _ c.in-Ok.is c.next-answer.ensures in
    let z = ne_eqb _ 0 c.if-kind-eq-SPACE.false in
    let o = sym c.opens.ensures ∙ c.if-opens.true in
    let n = opener-fits i.0 h t o (omega (arith, i.2, c.if-stack_places-depth.false)) (omega (arith, i.1, c.if-places-place.false)) in
    (opener-long i.0 h t z n c.pack.result c.pack.ensures c.put.ensures o c.put-then-opens.ensures).list.kinds

pub shape_of-words-then-ends_after : goal.shape_of-words-then-ends_after
shape_of-words-then-ends_after c =
    let i = c.loop-cur.invariant in
    let h = c.loop-cur-test.true in
    let t = taken i.0 h _ _ c.in-Ok.is c.next-answer.ensures in
    let z = ne_eqb _ 0 c.if-kind-eq-SPACE.false in
    let o = sym c.opens.ensures ∙ c.if-opens.true in
    let n = opener-fits i.0 h t o (omega (arith, i.2, c.if-stack_places-depth.false)) (omega (arith, i.1, c.if-places-place.false)) in
    (opener-long i.0 h t z n c.pack.result c.pack.ensures c.put.ensures o c.put-then-opens.ensures).list.words

pub shape_of-skinds-then-ends_after : goal.shape_of-skinds-then-ends_after
shape_of-skinds-then-ends_after c =
    let i = c.loop-cur.invariant in
    let h = c.loop-cur-test.true in
    let t = taken i.0 h _ _ c.in-Ok.is c.next-answer.ensures in
    let z = ne_eqb _ 0 c.if-kind-eq-SPACE.false in
    let o = sym c.opens.ensures ∙ c.if-opens.true in
    let n = opener-fits i.0 h t o (omega (arith, i.2, c.if-stack_places-depth.false)) (omega (arith, i.1, c.if-places-place.false)) in
    (opener-long i.0 h t z n c.pack.result c.pack.ensures c.put.ensures o c.put-then-opens.ensures).stack.kinds

pub shape_of-swords-then-ends_after : goal.shape_of-swords-then-ends_after
shape_of-swords-then-ends_after c =
    let i = c.loop-cur.invariant in
    let h = c.loop-cur-test.true in
    let t = taken i.0 h _ _ c.in-Ok.is c.next-answer.ensures in
    let z = ne_eqb _ 0 c.if-kind-eq-SPACE.false in
    let o = sym c.opens.ensures ∙ c.if-opens.true in
    let n = opener-fits i.0 h t o (omega (arith, i.2, c.if-stack_places-depth.false)) (omega (arith, i.1, c.if-places-place.false)) in
    (opener-long i.0 h t z n c.pack.result c.pack.ensures c.put.ensures o c.put-then-opens.ensures).stack.words

pub returns-then-ends_after : goal.returns-then-ends_after
returns-then-ends_after c =
    let i = c.loop-cur.invariant in
    let h = c.loop-cur-test.true in
    let t = taken i.0 h _ _ c.in-Ok.is c.next-answer.ensures in
    let tc = token-code i.0 h _ _ c.in-Ok.is c.next-answer.ensures in
    let z = ne_eqb _ 0 c.if-kind-eq-SPACE.false in
    let o = sym c.opens.ensures ∙ c.if-opens.true in
    let n = opener-fits i.0 h t o (omega (arith, i.2, c.if-stack_places-depth.false)) (omega (arith, i.1, c.if-places-place.false)) in
    opener-out i.0 h t z n c.pack.result c.pack.ensures c.put.ensures o c.put-then-opens.ensures _ tc (sym c.ends_after.ensures ∙ c.if-ends_after.true) c.past_opener-cur.ensures

pub loop-cur-smaller-else-ends_after : goal.loop-cur-smaller-else-ends_after
loop-cur-smaller-else-ends_after c =
    let i = c.loop-cur.invariant in
    let h = c.loop-cur-test.true in
    let t = taken i.0 h _ _ c.in-Ok.is c.next-answer.ensures in
    runs-less i.0 h t _ c.past_opener-cur.ensures

pub loop-cur-preserved-else-ends_after : goal.loop-cur-preserved-else-ends_after
loop-cur-preserved-else-ends_after c =
    let i = c.loop-cur.invariant in
    let h = c.loop-cur-test.true in
    let t = taken i.0 h _ _ c.in-Ok.is c.next-answer.ensures in
    let tc = token-code i.0 h _ _ c.in-Ok.is c.next-answer.ensures in
    let z = ne_eqb _ 0 c.if-kind-eq-SPACE.false in
    let o = sym c.opens.ensures ∙ c.if-opens.true in
    let n = opener-fits i.0 h t o (omega (arith, i.2, c.if-stack_places-depth.false)) (omega (arith, i.1, c.if-places-place.false)) in
    (rw (c.mode_of-mode-then-opens.ensures, ← tc) (opener-on i.0 h t z n c.pack.result c.pack.ensures c.put.ensures o c.put-then-opens.ensures _ (sym c.ends_after.ensures ∙ c.if-ends_after.false) c.past_opener-cur.ensures (c.opened_by.ensures ∙ ap if_opener (sym tc))), i.1, i.2, i.3, i.4, kept c.mode_of-mode-then-opens.ensures)

pub shape_of-kinds-then-places-place-2 : goal.shape_of-kinds-then-places-place-2
shape_of-kinds-then-places-place-2 c = (as_long c.loop-cur.invariant.0).list.kinds

pub shape_of-words-then-places-place-2 : goal.shape_of-words-then-places-place-2
shape_of-words-then-places-place-2 c = (as_long c.loop-cur.invariant.0).list.words

pub shape_of-skinds-then-places-place-2 : goal.shape_of-skinds-then-places-place-2
shape_of-skinds-then-places-place-2 c = (as_long c.loop-cur.invariant.0).stack.kinds

pub shape_of-swords-then-places-place-2 : goal.shape_of-swords-then-places-place-2
shape_of-swords-then-places-place-2 c = (as_long c.loop-cur.invariant.0).stack.words

pub returns-then-places-place-2 : goal.returns-then-places-place-2
returns-then-places-place-2 c =
    let i = c.loop-cur.invariant in
    let h = c.loop-cur-test.true in
    let t = taken i.0 h _ _ c.in-Ok.is c.next-answer.ensures in
    let z = ne_eqb _ 0 c.if-kind-eq-SPACE.false in
    let o = sym c.opens.ensures ∙ c.if-opens.false in
    rw c.no_room-then-places-place-2.ensures (other-unlisted i.0 h t z o (omega (arith, i.1, c.if-places-place-2.true)))

pub past_closer-cur-requires : goal.past_closer-cur-requires
past_closer-cur-requires c =
    let i = c.loop-cur.invariant in
    let h = c.loop-cur-test.true in
    let t = taken i.0 h _ _ c.in-Ok.is c.next-answer.ensures in
    let o = sym c.opens.ensures ∙ c.if-opens.false in
    (can-advance i.0 h t i.4, o, sym c.closes.ensures ∙ c.if-closes.true)

pub top_state-requires : goal.top_state-requires
top_state-requires c =
    let i = c.loop-cur.invariant in
    let h = c.loop-cur-test.true in
    let t = taken i.0 h _ _ c.in-Ok.is c.next-answer.ensures in
    let o = sym c.opens.ensures ∙ c.if-opens.false in
    other-shallow i.0 h t o c.past_closer-cur.ensures

pub loop-cur-smaller-then-closes : goal.loop-cur-smaller-then-closes
loop-cur-smaller-then-closes c =
    let i = c.loop-cur.invariant in
    let h = c.loop-cur-test.true in
    let t = taken i.0 h _ _ c.in-Ok.is c.next-answer.ensures in
    runs-less i.0 h t _ c.past_closer-cur.ensures

pub loop-cur-preserved-then-closes : goal.loop-cur-preserved-then-closes
loop-cur-preserved-then-closes c =
    let i = c.loop-cur.invariant in
    let h = c.loop-cur-test.true in
    let t = taken i.0 h _ _ c.in-Ok.is c.next-answer.ensures in
    let tc = token-code i.0 h _ _ c.in-Ok.is c.next-answer.ensures in
    let z = ne_eqb _ 0 c.if-kind-eq-SPACE.false in
    let o = sym c.opens.ensures ∙ c.if-opens.false in
    let n = other_fits i.0 h t z o (omega (arith, i.1, c.if-places-place-2.false)) in
    let e = ends-not c.args.to_format _ o in
    (rw (c.mode_of-mode-then-closes.ensures, ← tc) (other-on i.0 h t z n c.pack.result c.pack.ensures c.put-else-opens.ensures _ o e c.past_closer-cur.ensures c.top_state.ensures), i.1, i.2, i.3, i.4, kept c.mode_of-mode-then-closes.ensures)

pub past_other-cur-requires : goal.past_other-cur-requires
past_other-cur-requires c =
    let i = c.loop-cur.invariant in
    let h = c.loop-cur-test.true in
    let t = taken i.0 h _ _ c.in-Ok.is c.next-answer.ensures in
    let o = sym c.opens.ensures ∙ c.if-opens.false in
    (can-advance i.0 h t i.4, ne_eqb _ 0 c.if-kind-eq-SPACE.false, o, sym c.closes.ensures ∙ c.if-closes.false)

pub loop-cur-smaller-in-None : goal.loop-cur-smaller-in-None
loop-cur-smaller-in-None c =
    let i = c.loop-cur.invariant in
    let h = c.loop-cur-test.true in
    let t = taken i.0 h _ _ c.in-Ok.is c.next-answer.ensures in
    runs-less i.0 h t _ c.past_other-cur.ensures

pub loop-cur-preserved-in-None : goal.loop-cur-preserved-in-None
loop-cur-preserved-in-None c =
    let i = c.loop-cur.invariant in
    let h = c.loop-cur-test.true in
    let t = taken i.0 h _ _ c.in-Ok.is c.next-answer.ensures in
    let tc = token-code i.0 h _ _ c.in-Ok.is c.next-answer.ensures in
    let z = ne_eqb _ 0 c.if-kind-eq-SPACE.false in
    let o = sym c.opens.ensures ∙ c.if-opens.false in
    let n = other_fits i.0 h t z o (omega (arith, i.1, c.if-places-place-2.false)) in
    let e = ends-not c.args.to_format _ o in
    let r = other-on i.0 h t z n c.pack.result c.pack.ensures c.put-else-opens.ensures _ o e c.past_other-cur.ensures (other-top i.0 h t o (sym c.closes.ensures ∙ c.if-closes.false) c.past_other-cur.ensures) in
    (rw (← tc) r, i.1, i.2, i.3, i.4, i.5)

pub past_space-cur-requires-in-Some-Space : goal.past_space-cur-requires-in-Some-Space
past_space-cur-requires-in-Some-Space c =
    let i = c.loop-cur.invariant in
    let h = c.loop-cur-test.true in
    let t = taken i.0 h _ _ c.in-Ok.is c.next-answer.ensures in
    let z = ne_eqb _ 0 c.if-kind-eq-SPACE.false in
    let o = sym c.opens.ensures ∙ c.if-opens.false in
    let n = other_fits i.0 h t z o (omega (arith, i.1, c.if-places-place-2.false)) in
    let e = ends-not c.args.to_format _ o in
    let r = other-on i.0 h t z n c.pack.result c.pack.ensures c.put-else-opens.ensures _ o e c.past_other-cur.ensures (other-top i.0 h t o (sym c.closes.ensures ∙ c.if-closes.false) c.past_other-cur.ensures) in
    let a = ends_at i.0 h t c.past_other-cur.ensures in
    let x = space-behind r a c.loop-cur.mode i.5 c.in-Some-Space.is (rw c.in-Some-Space.is at c.in-Some-Space.field-0-is) c.behind-space.ensures in
    let b = ahead_before r a x in
    let y = ahead-taken r a x in
    can-advance r b y i.4

pub loop-cur-smaller-in-Some-Space : goal.loop-cur-smaller-in-Some-Space
loop-cur-smaller-in-Some-Space c =
    let i = c.loop-cur.invariant in
    let h = c.loop-cur-test.true in
    let t = taken i.0 h _ _ c.in-Ok.is c.next-answer.ensures in
    let z = ne_eqb _ 0 c.if-kind-eq-SPACE.false in
    let o = sym c.opens.ensures ∙ c.if-opens.false in
    let n = other_fits i.0 h t z o (omega (arith, i.1, c.if-places-place-2.false)) in
    let e = ends-not c.args.to_format _ o in
    let r = other-on i.0 h t z n c.pack.result c.pack.ensures c.put-else-opens.ensures _ o e c.past_other-cur.ensures (other-top i.0 h t o (sym c.closes.ensures ∙ c.if-closes.false) c.past_other-cur.ensures) in
    let a = ends_at i.0 h t c.past_other-cur.ensures in
    let x = space-behind r a c.loop-cur.mode i.5 c.in-Some-Space.is (rw c.in-Some-Space.is at c.in-Some-Space.field-0-is) c.behind-space.ensures in
    let b = ahead_before r a x in
    let y = ahead-taken r a x in
    omega (arith, runs-less i.0 h t _ c.past_other-cur.ensures, runs-less r b y _ c.past_space-cur-in-Some-Space.ensures)

pub loop-cur-preserved-in-Some-Space : goal.loop-cur-preserved-in-Some-Space
unfolding code_of
loop-cur-preserved-in-Some-Space c =
    let i = c.loop-cur.invariant in
    let h = c.loop-cur-test.true in
    let t = taken i.0 h _ _ c.in-Ok.is c.next-answer.ensures in
    let z = ne_eqb _ 0 c.if-kind-eq-SPACE.false in
    let o = sym c.opens.ensures ∙ c.if-opens.false in
    let n = other_fits i.0 h t z o (omega (arith, i.1, c.if-places-place-2.false)) in
    let e = ends-not c.args.to_format _ o in
    let r = other-on i.0 h t z n c.pack.result c.pack.ensures c.put-else-opens.ensures _ o e c.past_other-cur.ensures (other-top i.0 h t o (sym c.closes.ensures ∙ c.if-closes.false) c.past_other-cur.ensures) in
    let a = ends_at i.0 h t c.past_other-cur.ensures in
    let x = space-behind r a c.loop-cur.mode i.5 c.in-Some-Space.is (rw c.in-Some-Space.is at c.in-Some-Space.field-0-is) c.behind-space.ensures in
    let b = ahead_before r a x in
    let y = ahead-taken r a x in
    (space-on r b y refl (space-ends c.args.to_format _ refl) c.past_space-cur-in-Some-Space.ensures, i.1, i.2, i.3, i.4, i.5)

pub overflow_add-shift-in-Some-Blank : goal.overflow_add-shift-in-Some-Blank
overflow_add-shift-in-Some-Blank c =
    let i = c.loop-cur.invariant in
    let h = c.loop-cur-test.true in
    let t = taken i.0 h _ _ c.in-Ok.is c.next-answer.ensures in
    let z = ne_eqb _ 0 c.if-kind-eq-SPACE.false in
    let o = sym c.opens.ensures ∙ c.if-opens.false in
    let n = other_fits i.0 h t z o (omega (arith, i.1, c.if-places-place-2.false)) in
    let e = ends-not c.args.to_format _ o in
    let r = other-on i.0 h t z n c.pack.result c.pack.ensures c.put-else-opens.ensures _ o e c.past_other-cur.ensures (other-top i.0 h t o (sym c.closes.ensures ∙ c.if-closes.false) c.past_other-cur.ensures) in
    let a = ends_at i.0 h t c.past_other-cur.ensures in
    let x = blank-behind r a c.loop-cur.mode i.5 c.in-Some-Blank.is (rw c.in-Some-Blank.is at c.in-Some-Blank.field-0-is) c.behind-space.ensures in
    let b = ahead_before r a x in
    let y = ahead-taken r a x in
    omega (arith, a, (in-document r b y).0)

pub overflow_add-shift-in-Some-Blank-2 : goal.overflow_add-shift-in-Some-Blank-2
overflow_add-shift-in-Some-Blank-2 c =
    let i = c.loop-cur.invariant in
    let h = c.loop-cur-test.true in
    let t = taken i.0 h _ _ c.in-Ok.is c.next-answer.ensures in
    let z = ne_eqb _ 0 c.if-kind-eq-SPACE.false in
    let o = sym c.opens.ensures ∙ c.if-opens.false in
    let n = other_fits i.0 h t z o (omega (arith, i.1, c.if-places-place-2.false)) in
    let e = ends-not c.args.to_format _ o in
    let r = other-on i.0 h t z n c.pack.result c.pack.ensures c.put-else-opens.ensures _ o e c.past_other-cur.ensures (other-top i.0 h t o (sym c.closes.ensures ∙ c.if-closes.false) c.past_other-cur.ensures) in
    let a = ends_at i.0 h t c.past_other-cur.ensures in
    let x = blank-behind r a c.loop-cur.mode i.5 c.in-Some-Blank.is (rw c.in-Some-Blank.is at c.in-Some-Blank.field-0-is) c.behind-space.ensures in
    let b = ahead_before r a x in
    let y = ahead-taken r a x in
    omega (arith, (in-document r b y).1)

pub pack-requires-in-Some-Blank : goal.pack-requires-in-Some-Blank
pack-requires-in-Some-Blank c =
    let i = c.loop-cur.invariant in
    let h = c.loop-cur-test.true in
    let t = taken i.0 h _ _ c.in-Ok.is c.next-answer.ensures in
    let z = ne_eqb _ 0 c.if-kind-eq-SPACE.false in
    let o = sym c.opens.ensures ∙ c.if-opens.false in
    let n = other_fits i.0 h t z o (omega (arith, i.1, c.if-places-place-2.false)) in
    let e = ends-not c.args.to_format _ o in
    let r = other-on i.0 h t z n c.pack.result c.pack.ensures c.put-else-opens.ensures _ o e c.past_other-cur.ensures (other-top i.0 h t o (sym c.closes.ensures ∙ c.if-closes.false) c.past_other-cur.ensures) in
    let a = ends_at i.0 h t c.past_other-cur.ensures in
    let x = blank-behind r a c.loop-cur.mode i.5 c.in-Some-Blank.is (rw c.in-Some-Blank.is at c.in-Some-Blank.field-0-is) c.behind-space.ensures in
    let b = ahead_before r a x in
    let y = ahead-taken r a x in
    (omega (arith, a, (in-document r b y).0), (in-document r b y).1)

pub shape_of-kinds-then-places-next : goal.shape_of-kinds-then-places-next
shape_of-kinds-then-places-next c =
    let i = c.loop-cur.invariant in
    let h = c.loop-cur-test.true in
    let t = taken i.0 h _ _ c.in-Ok.is c.next-answer.ensures in
    let z = ne_eqb _ 0 c.if-kind-eq-SPACE.false in
    let o = sym c.opens.ensures ∙ c.if-opens.false in
    let n = other_fits i.0 h t z o (omega (arith, i.1, c.if-places-place-2.false)) in
    let e = ends-not c.args.to_format _ o in
    let r = other-on i.0 h t z n c.pack.result c.pack.ensures c.put-else-opens.ensures _ o e c.past_other-cur.ensures (other-top i.0 h t o (sym c.closes.ensures ∙ c.if-closes.false) c.past_other-cur.ensures) in
    (as_long r).list.kinds

pub shape_of-words-then-places-next : goal.shape_of-words-then-places-next
shape_of-words-then-places-next c =
    let i = c.loop-cur.invariant in
    let h = c.loop-cur-test.true in
    let t = taken i.0 h _ _ c.in-Ok.is c.next-answer.ensures in
    let z = ne_eqb _ 0 c.if-kind-eq-SPACE.false in
    let o = sym c.opens.ensures ∙ c.if-opens.false in
    let n = other_fits i.0 h t z o (omega (arith, i.1, c.if-places-place-2.false)) in
    let e = ends-not c.args.to_format _ o in
    let r = other-on i.0 h t z n c.pack.result c.pack.ensures c.put-else-opens.ensures _ o e c.past_other-cur.ensures (other-top i.0 h t o (sym c.closes.ensures ∙ c.if-closes.false) c.past_other-cur.ensures) in
    (as_long r).list.words

pub shape_of-skinds-then-places-next : goal.shape_of-skinds-then-places-next
shape_of-skinds-then-places-next c =
    let i = c.loop-cur.invariant in
    let h = c.loop-cur-test.true in
    let t = taken i.0 h _ _ c.in-Ok.is c.next-answer.ensures in
    let z = ne_eqb _ 0 c.if-kind-eq-SPACE.false in
    let o = sym c.opens.ensures ∙ c.if-opens.false in
    let n = other_fits i.0 h t z o (omega (arith, i.1, c.if-places-place-2.false)) in
    let e = ends-not c.args.to_format _ o in
    let r = other-on i.0 h t z n c.pack.result c.pack.ensures c.put-else-opens.ensures _ o e c.past_other-cur.ensures (other-top i.0 h t o (sym c.closes.ensures ∙ c.if-closes.false) c.past_other-cur.ensures) in
    (as_long r).stack.kinds

pub shape_of-swords-then-places-next : goal.shape_of-swords-then-places-next
shape_of-swords-then-places-next c =
    let i = c.loop-cur.invariant in
    let h = c.loop-cur-test.true in
    let t = taken i.0 h _ _ c.in-Ok.is c.next-answer.ensures in
    let z = ne_eqb _ 0 c.if-kind-eq-SPACE.false in
    let o = sym c.opens.ensures ∙ c.if-opens.false in
    let n = other_fits i.0 h t z o (omega (arith, i.1, c.if-places-place-2.false)) in
    let e = ends-not c.args.to_format _ o in
    let r = other-on i.0 h t z n c.pack.result c.pack.ensures c.put-else-opens.ensures _ o e c.past_other-cur.ensures (other-top i.0 h t o (sym c.closes.ensures ∙ c.if-closes.false) c.past_other-cur.ensures) in
    (as_long r).stack.words

pub returns-then-places-next : goal.returns-then-places-next
returns-then-places-next c =
    let i = c.loop-cur.invariant in
    let h = c.loop-cur-test.true in
    let t = taken i.0 h _ _ c.in-Ok.is c.next-answer.ensures in
    let z = ne_eqb _ 0 c.if-kind-eq-SPACE.false in
    let o = sym c.opens.ensures ∙ c.if-opens.false in
    let n = other_fits i.0 h t z o (omega (arith, i.1, c.if-places-place-2.false)) in
    let e = ends-not c.args.to_format _ o in
    let r = other-on i.0 h t z n c.pack.result c.pack.ensures c.put-else-opens.ensures _ o e c.past_other-cur.ensures (other-top i.0 h t o (sym c.closes.ensures ∙ c.if-closes.false) c.past_other-cur.ensures) in
    let a = ends_at i.0 h t c.past_other-cur.ensures in
    let x = blank-behind r a c.loop-cur.mode i.5 c.in-Some-Blank.is (rw c.in-Some-Blank.is at c.in-Some-Blank.field-0-is) c.behind-space.ensures in
    rw c.no_room-then-places-next.ensures (ahead-unlisted r a x refl blank-opens (omega (arith, i.1, c.if-places-next.true)))

pub past_other-cur-requires-in-Some-Blank : goal.past_other-cur-requires-in-Some-Blank
past_other-cur-requires-in-Some-Blank c =
    let i = c.loop-cur.invariant in
    let h = c.loop-cur-test.true in
    let t = taken i.0 h _ _ c.in-Ok.is c.next-answer.ensures in
    let z = ne_eqb _ 0 c.if-kind-eq-SPACE.false in
    let o = sym c.opens.ensures ∙ c.if-opens.false in
    let n = other_fits i.0 h t z o (omega (arith, i.1, c.if-places-place-2.false)) in
    let e = ends-not c.args.to_format _ o in
    let r = other-on i.0 h t z n c.pack.result c.pack.ensures c.put-else-opens.ensures _ o e c.past_other-cur.ensures (other-top i.0 h t o (sym c.closes.ensures ∙ c.if-closes.false) c.past_other-cur.ensures) in
    let a = ends_at i.0 h t c.past_other-cur.ensures in
    let x = blank-behind r a c.loop-cur.mode i.5 c.in-Some-Blank.is (rw c.in-Some-Blank.is at c.in-Some-Blank.field-0-is) c.behind-space.ensures in
    let b = ahead_before r a x in
    let y = ahead-taken r a x in
    (can-advance r b y i.4, refl, blank-opens, blank-closes)

pub loop-cur-smaller : goal.loop-cur-smaller
loop-cur-smaller c =
    let i = c.loop-cur.invariant in
    let h = c.loop-cur-test.true in
    let t = taken i.0 h _ _ c.in-Ok.is c.next-answer.ensures in
    let z = ne_eqb _ 0 c.if-kind-eq-SPACE.false in
    let o = sym c.opens.ensures ∙ c.if-opens.false in
    let n = other_fits i.0 h t z o (omega (arith, i.1, c.if-places-place-2.false)) in
    let e = ends-not c.args.to_format _ o in
    let r = other-on i.0 h t z n c.pack.result c.pack.ensures c.put-else-opens.ensures _ o e c.past_other-cur.ensures (other-top i.0 h t o (sym c.closes.ensures ∙ c.if-closes.false) c.past_other-cur.ensures) in
    let a = ends_at i.0 h t c.past_other-cur.ensures in
    let x = blank-behind r a c.loop-cur.mode i.5 c.in-Some-Blank.is (rw c.in-Some-Blank.is at c.in-Some-Blank.field-0-is) c.behind-space.ensures in
    let b = ahead_before r a x in
    let y = ahead-taken r a x in
    omega (arith, runs-less i.0 h t _ c.past_other-cur.ensures, runs-less r b y _ c.past_other-cur-in-Some-Blank.ensures)

pub loop-cur-preserved : goal.loop-cur-preserved
unfolding code_of
loop-cur-preserved c =
    let i = c.loop-cur.invariant in
    let h = c.loop-cur-test.true in
    let t = taken i.0 h _ _ c.in-Ok.is c.next-answer.ensures in
    let z = ne_eqb _ 0 c.if-kind-eq-SPACE.false in
    let o = sym c.opens.ensures ∙ c.if-opens.false in
    let n = other_fits i.0 h t z o (omega (arith, i.1, c.if-places-place-2.false)) in
    let e = ends-not c.args.to_format _ o in
    let r = other-on i.0 h t z n c.pack.result c.pack.ensures c.put-else-opens.ensures _ o e c.past_other-cur.ensures (other-top i.0 h t o (sym c.closes.ensures ∙ c.if-closes.false) c.past_other-cur.ensures) in
    let a = ends_at i.0 h t c.past_other-cur.ensures in
    let x = blank-behind r a c.loop-cur.mode i.5 c.in-Some-Blank.is (rw c.in-Some-Blank.is at c.in-Some-Blank.field-0-is) c.behind-space.ensures in
    let b = ahead_before r a x in
    let y = ahead-taken r a x in
    let f = other_fits r b y refl blank-opens (omega (arith, i.1, c.if-places-next.false)) in
    (other-on r b y refl f c.pack-in-Some-Blank.result (ahead-words r a x c.pack-in-Some-Blank.result c.pack-in-Some-Blank.ensures) c.put-in-Some-Blank.ensures _ blank-opens (ends-not c.args.to_format _ blank-opens) c.past_other-cur-in-Some-Blank.ensures (other-top r b y blank-opens blank-closes c.past_other-cur-in-Some-Blank.ensures), i.1, i.2, i.3, i.4, i.5)

pub shape_of-kinds : goal.shape_of-kinds
shape_of-kinds c = (as_long c.loop-cur.invariant.0).list.kinds

pub shape_of-words : goal.shape_of-words
shape_of-words c = (as_long c.loop-cur.invariant.0).list.words

pub shape_of-skinds : goal.shape_of-skinds
shape_of-skinds c = (as_long c.loop-cur.invariant.0).stack.kinds

pub shape_of-swords : goal.shape_of-swords
shape_of-swords c = (as_long c.loop-cur.invariant.0).stack.words

pub returns : goal.returns
returns c = end-stop c.loop-cur.invariant.0 _ refl c.loop-cur-test.false
