-- Steps in lent memory: all of them where it is ample, and otherwise those before the first one for which there is no place.
use Prim.Native.Nat.{ℕ, suc, pred, ◌≤◌, ◌<◌}
use mathlib.Core.Path.{◌≡◌, refl, sym, ap, ◌∙◌}
use mathlib.Core.Bool.{Bool, true, false, cond, not, ◌&&◌, ◌||◌, or-true, false≢true}
use mathlib.Core.List.{List, [], ◌∷◌, ◌++◌}
use native.Mathlib.Omega.{arith}
use borrow.Author.Tests.{ltb-true, ltb-false, lt-ltb, leb-true, leb-false, lt-leb, eqb-true, eqb-false, ne_eqb, not-true}
use lib.Dec.{leb, ltb, eqb}
use lib.ListN.{length}
use Rattle.rules.specs.Refusals.{StackFull, ListFull}
use Rattle.rules.specs.Answers.{accepted}
use Rattle.rules.specs.Kinds.{is_space, is_opener, is_closer}
use Rattle.rules.specs.Lexing.{Taken, End, ended, stopped, Trace, after, trace, meets_no_refusal, depth_after, room_after, limited, trace_in, lexemes_of, joined, deepest_from, placed, open_of, verdict_of, lexed_of, lexing, open_after_all}
use Rattle.rules.proofs.Text.{decide, either, both, neither}
use Rattle.rules.proofs.Trace.{within-ends, within-after, within-full-stack, within-full-list}
use Rattle.laws.specs.Demand3.{is_memory_refusal, lexeme_count, deepest_in, is_short, StopsShort}
use Rattle.laws.proofs.Nesting.{depth-deepest}

-- a stack that holds what is open after a lexeme is not too full for it
stack-free : (stack depth k : ℕ) → depth_after depth k ≤ stack → is_opener k && leb stack depth ≡ false
stack-free stack depth k h = decide (is_opener k)
    (λ e.
    let free : suc depth ≤ stack = rw e at h in
    rw e (lt-leb stack depth (omega arith)))
    (λ e. rw e)

-- ample memory keeps every step
pub limited-ample : (stack depth room : ℕ) (ps : List Taken) (e : End) → deepest_from depth ps ≤ stack → length (lexemes_of ps) ≤ room → limited stack depth room ps e ≡ record { taken = ps; end = e }
limited-ample stack depth room [] e deep long = within-ends stack depth room e
limited-ample stack depth room (p ∷ ps) e deep long =
    let rest : Trace = record { taken = ps; end = e } in
    let deeper : deepest_from (depth_after depth p.kind) ps ≤ stack = omega arith in
    let stack-ok : is_opener p.kind && leb stack depth ≡ false = stack-free stack depth p.kind (omega (arith, depth-deepest (depth_after depth p.kind) ps)) in
    decide (is_space p.kind)
    (λ s.
    let long' : length (lexemes_of ps) ≤ room = rw s at long in
    within-after stack depth room p rest stack-ok (rw s refl) ∙ ap (λ (t : Trace). after p t) (limited-ample stack (depth_after depth p.kind) (room_after room p.kind) ps e deeper (rw s long')))
    (λ s.
    let long' : suc (length (lexemes_of ps)) ≤ room = rw s at long in
    let left : length (lexemes_of ps) ≤ pred room = omega arith in
    within-after stack depth room p rest stack-ok (rw s (ne_eqb room 0 (λ z. absurd (omega arith))))
    ∙ ap (λ (t : Trace). after p t) (limited-ample stack (depth_after depth p.kind) (room_after room p.kind) ps e deeper (rw s left)))

-- where memory is short: the steps before the one that is refused, that step, and which of 30 and 31 it is
pub record Stops (stack depth room : ℕ) (ps : List Taken) (e : End) : Type 0 where
  pub before : List Taken
  pub step : Taken
  pub later : List Taken
  pub number : ℕ
  pub steps : ps ≡ before ++ (step ∷ later)
  pub stops : limited stack depth room ps e ≡ record { taken = before; end = stopped number 0 (length step.bytes) }
  pub which : number ≡ cond (is_opener step.kind && leb stack (open_after_all depth before)) StackFull ListFull
  pub stack_full : number ≡ StackFull → (is_opener step.kind ≡ true) × (open_after_all depth before ≡ stack)
  pub list_full : number ≡ ListFull → (is_space step.kind ≡ false) × (length (lexemes_of before) ≡ room)

-- at the first step: the stack is full
stops-stack : (stack depth room : ℕ) (p : Taken) (ps : List Taken) (e : End) → depth ≤ stack → is_opener p.kind && leb stack depth ≡ true → Stops stack depth room (p ∷ ps) e
stops-stack stack depth room p ps e h full =
    let t = both (is_opener p.kind) (leb stack depth) full in
    record {
      before = [];
      step = p;
      later = ps;
      number = StackFull;
      steps = refl;
      stops = within-full-stack stack depth room p (record { taken = ps; end = e }) full;
      which = rw full;
      stack_full = λ z. (t.0, omega (arith, leb-true stack depth t.1));
      list_full = λ z. absurd (omega arith);
    }

-- at the first step: the list is full
stops-list : (stack depth room : ℕ) (p : Taken) (ps : List Taken) (e : End) → is_opener p.kind && leb stack depth ≡ false → not (is_space p.kind) && eqb room 0 ≡ true → Stops stack depth room (p ∷ ps) e
stops-list stack depth room p ps e free full =
    let t = both (not (is_space p.kind)) (eqb room 0) full in
    record {
      before = [];
      step = p;
      later = ps;
      number = ListFull;
      steps = refl;
      stops = within-full-list stack depth room p (record { taken = ps; end = e }) free full;
      which = rw free;
      stack_full = λ z. absurd (omega arith);
      list_full = λ z. (not-true (is_space p.kind) t.0, sym (eqb-true room 0 t.1));
    }

-- at a later step
stops-later : (stack depth room : ℕ) (p : Taken) (ps : List Taken) (e : End) → is_opener p.kind && leb stack depth ≡ false → not (is_space p.kind) && eqb room 0 ≡ false
    → Stops stack (depth_after depth p.kind) (room_after room p.kind) ps e → Stops stack depth room (p ∷ ps) e
stops-later stack depth room p ps e free fits s =
    record {
      before = p ∷ s.before;
      step = s.step;
      later = s.later;
      number = s.number;
      steps = ap (λ (r : List Taken). p ∷ r) s.steps;
      stops = within-after stack depth room p (record { taken = ps; end = e }) free fits ∙ ap (λ (t : Trace). after p t) s.stops;
      which = s.which;
      stack_full = s.stack_full;
      list_full = λ z. ((s.list_full z).0, counted (s.list_full z).1);
    }
  where
    counted : length (lexemes_of s.before) ≡ room_after room p.kind → length (lexemes_of (p ∷ s.before)) ≡ room
    counted n = decide (is_space p.kind)
        (λ q.
        let same : length (lexemes_of s.before) ≡ room = rw q at n in
        rw q same)
        (λ q.
        let fewer : length (lexemes_of s.before) ≡ pred room = rw q at n in
        let some_left : eqb room 0 ≡ false = rw q at fits in
        let one_more : suc (length (lexemes_of s.before)) ≡ room = omega (arith, eqb-false room 0 some_left) in
        rw q one_more)

-- the depth after a lexeme for which the stack has a place is within the stack
depth-within : (stack depth k : ℕ) → depth ≤ stack → is_opener k && leb stack depth ≡ false → depth_after depth k ≤ stack
depth-within stack depth k h free = decide (is_opener k)
    (λ e.
    let left : leb stack depth ≡ false = rw e at free in
    let less : suc depth ≤ stack = omega (arith, leb-false stack depth left) in
    rw e less)
    (λ e. rw e (closes (is_closer k)))
  where
    closes : (b : Bool) → cond b (pred depth) depth ≤ stack
    closes true = let less : pred depth ≤ stack = omega arith in less
    closes false = h

-- what is too long for the room before a lexeme is too long after it
room_within : (room : ℕ) (p : Taken) (ps : List Taken) → not (is_space p.kind) && eqb room 0 ≡ false → room < length (lexemes_of (p ∷ ps)) → room_after room p.kind < length (lexemes_of ps)
room_within room p ps fits h = decide (is_space p.kind)
    (λ e.
    let same : room < length (lexemes_of ps) = rw e at h in
    rw e same)
    (λ e.
    let more : room < suc (length (lexemes_of ps)) = rw e at h in
    let some_left : eqb room 0 ≡ false = rw e at fits in
    let less : pred room < length (lexemes_of ps) = omega (arith, eqb-false room 0 some_left) in
    rw e less)

-- short memory stops at a step
pub limited-short : (stack depth room : ℕ) (ps : List Taken) (e : End) → depth ≤ stack → ltb stack (deepest_from depth ps) || ltb room (length (lexemes_of ps)) ≡ true → Stops stack depth room ps e
limited-short stack depth room [] e h short = absurd (either (ltb stack depth) (ltb room 0) short (λ z. omega (arith, ltb-true stack depth z)) (λ z. omega (arith, ltb-true room 0 z)))
limited-short stack depth room (p ∷ ps) e h short =
    decide (is_opener p.kind && leb stack depth) (stops-stack stack depth room p ps e h) (λ free.
    decide (not (is_space p.kind) && eqb room 0) (stops-list stack depth room p ps e free) (λ fits.
    let deeper : ℕ = deepest_from (depth_after depth p.kind) ps in
    let longer : ℕ = length (lexemes_of ps) in
    let short' : ltb stack deeper || ltb (room_after room p.kind) longer ≡ true =
    either (ltb stack (deepest_from depth (p ∷ ps))) (ltb room (length (lexemes_of (p ∷ ps)))) short
    (λ z. let more : stack < deeper = omega (arith, ltb-true stack (deepest_from depth (p ∷ ps)) z) in rw (lt-ltb stack deeper more))
    (λ z. let more : room_after room p.kind < longer = room_within room p ps fits (ltb-true room (length (lexemes_of (p ∷ ps))) z) in rw (lt-ltb (room_after room p.kind) longer more) (or-true (ltb stack deeper))) in
    stops-later stack depth room p ps e free fits
    (limited-short stack (depth_after depth p.kind) (room_after room p.kind) ps e (depth-within stack depth p.kind h free) short')))

-- in ample memory the steps of a call are the text's
pub in-ample : (places stack : ℕ) (text : List ℕ) → is_short text places stack ≡ false → trace_in places stack text ≡ trace text
unfolding trace_in
in-ample places stack text h =
    let t = neither (ltb stack (deepest_in text)) (ltb places (lexeme_count text)) h in
    limited-ample stack 0 places (trace text).taken (trace text).end (ltb-false stack (deepest_in text) t.0) (ltb-false places (lexeme_count text) t.1)

-- in short memory they stop
pub in-short : (places stack : ℕ) (text : List ℕ) → is_short text places stack ≡ true → StopsShort text places stack
unfolding trace_in
in-short places stack text h =
    let s : Stops stack 0 places (trace text).taken (trace text).end = limited-short stack 0 places (trace text).taken (trace text).end (omega arith) h in
    record {
      before = s.before;
      step = s.step;
      later = s.later;
      number = s.number;
      steps = s.steps;
      stops = s.stops;
      which = s.which;
      stack_full = s.stack_full;
      list_full = s.list_full;
    }

-- a call that meets no refusal accepts
pub verdict-ended : (doc places stack : ℕ) (text : List ℕ) → meets_no_refusal (trace_in places stack text).end ≡ true → (lexing doc places stack text).verdict ≡ accepted
unfolding lexing lexed_of verdict_of
verdict-ended doc places stack text = cases (trace_in places stack text).end
  where
    ps : List Taken
    ps = (trace_in places stack text).taken

    cases : (e : End) → meets_no_refusal e ≡ true → verdict_of doc (length (joined ps)) (open_of [] (placed doc 0 ps)) e ≡ accepted
    cases ended h = refl
    cases (stopped number from n) h = absurd (false≢true h)

-- a call that stops with 30 or 31 refuses with it
pub verdict-short : (doc places stack : ℕ) (text : List ℕ) → StopsShort text places stack → is_memory_refusal (lexing doc places stack text).verdict ≡ true
unfolding lexing lexed_of verdict_of
verdict-short doc places stack text s =
    rw (s.stops, s.which) (either_number (is_opener s.step.kind && leb stack (open_after_all 0 s.before)))
  where
    either_number : (b : Bool) → eqb (cond b StackFull ListFull) StackFull || eqb (cond b StackFull ListFull) ListFull ≡ true
    either_number true = refl
    either_number false = refl
