-- Walking goes by the steps of lexing: the stack's arrays hold what is open, so that a step of the walk is the next step of the trace.
use Prim.Native.Nat.{ℕ, zero, suc, pred, ◌+◌, ◌*◌, ◌^◌, ◌≤◌, ◌<◌}
use mathlib.Core.Path.{◌≡◌, refl, sym, ap, ◌∙◌}
use mathlib.Core.Bool.{Bool, true, false, cond, not, ◌&&◌}
use mathlib.Core.List.{List, [], ◌∷◌, ◌++◌, map, reverse, reverse-append}
use mathlib.Core.Option.{Option, none, some}
use native.Mathlib.Omega.{arith}
use borrow.Author.Tests.{ltb-true, ltb-false, lt-ltb, le-ltb, le-leb, leb-false, ne_eqb}
use lib.Dec.{leb, ltb, eqb}
use lib.ListN.{length, take, drop, set, get_or, get_elem?, length-append, length-drop, length-set}
use lib.Seq.{drop-drop, take-suc, length-take-le}
use Rattle.rules.specs.Utf8.{first_bad}
use Rattle.rules.specs.Refusals.{NotUtf8, TooLong, StackFull, WrongForm}
use Rattle.rules.specs.Spans.{Span, span, low, high, span_of, limit}
use Rattle.rules.specs.Answers.{Refusal, refusal, Answer, given, refused, refuse, Verdict}
use Rattle.rules.specs.Kinds.{is_space, is_opener, is_closer}
use Rattle.rules.specs.Step.{Step, found, stop, step}
use Rattle.rules.specs.Lent.{Lexeme, lexeme, places_of, lexemes_in, Arrays, arrays, array_places, contents, put_at}
use Rattle.rules.specs.Lexing.{Taken, taken, End, stopped, Trace, ends, after, open_after, codes_after, innermost, at_end, trace_from, trace, depth_after, room_after, trace_in, lexemes_of, joined, placed, open_of, note_of, verdict_of, lexed_of}
use Rattle.rules.specs.Walker.{Kept, nothing, too_long, not_utf8, kept_bad, kept_refusal, Walker, opening, Walked, open_in, codes_of, is_misplaced, opener_put, stays, goes, walked_end, walked_step, walked_at, walked_fresh, walking}
use Rattle.rules.proofs.Text.{decide}
use Rattle.rules.proofs.Spans.{span-of-words}
use Rattle.rules.proofs.Bounds.{found_inside}
use Rattle.rules.proofs.Rfc3629.{first-bad}
use Rattle.rules.proofs.Arithmetic.{suc-double, suc-double-one}
use Rattle.rules.proofs.Listed.{places-length}
use Rattle.rules.proofs.Trace.{open-codes, open-length, trace-found, trace-stopped, trace-ended, trace-long, trace-bad, trace-good, within, within-ends, within-after, within-full-stack}
use Rattle.laws.specs.Demand3.{deepest_in}
use Rattle.laws.specs.Walking.{step_from, step_of, ending, WalksAs, WalksText}
use Rattle.laws.proofs.Lent.{limited-ample}

-- The stack in two arrays
-- a lexeme written at a place comes after those before it
put-take : (ks ws : List ℕ) (n k l h : ℕ) → n < places_of ks ws →
    take (suc n) (lexemes_in (set ks n k) (set (set ws (n * 2) l) (n * 2 + 1) h)) ≡ take n (lexemes_in ks ws) ++ (lexeme k (span_of l h) ∷ [])
put-take [] ws n k l h room = absurd (omega arith)
put-take (x ∷ ks) [] n k l h room = absurd (omega arith)
put-take (x ∷ ks) (a ∷ []) n k l h room = absurd (omega arith)
put-take (x ∷ ks) (a ∷ (b ∷ ws)) zero k l h room = refl
put-take (x ∷ ks) (a ∷ (b ∷ ws)) (suc n) k l h room =
    rw (suc-double-one n, suc-double n)
    (ap (λ (r : List Lexeme). lexeme x (span_of a b) ∷ r) (put-take ks ws n k l h (omega arith)))

-- an opener written at the depth is the innermost
open-push : (two : Arrays) (n k l h : ℕ) → n < array_places two →
    open_in (arrays (set two.kinds n k) (set (set two.words (n * 2) l) (n * 2 + 1) h)) (suc n) ≡ lexeme k (span_of l h) ∷ open_in two n
open-push two n k l h room =
    ap (λ (r : List Lexeme). reverse r) (put-take two.kinds two.words n k l h room) ∙ reverse-append (take n (contents two)) (lexeme k (span_of l h) ∷ [])

-- without the innermost the others are open
open-pop : (two : Arrays) (n : ℕ) → n < array_places two → open_in two n ≡ drop 1 (open_in two (suc n))
open-pop two n room =
    let none-there : Lexeme = lexeme 0 (span 0 0 0) in
    let last : List Lexeme = get_or (contents two) n none-there ∷ [] in
    let split : open_in two (suc n) ≡ reverse (take n (contents two) ++ last) =
    ap (λ (r : List Lexeme). reverse r) (take-suc (contents two) n none-there (rw (places-length two.kinds two.words) room)) in
    sym (ap (λ (r : List Lexeme). drop 1 r) (split ∙ reverse-append (take n (contents two)) last))

-- every one of these is an opener
abbrev Openers : List Lexeme → Type 0
Openers [] = Unit {0}
Openers (o ∷ os) = (is_opener o.kind ≡ true) × Openers os

-- Under way
-- a walker that met no refusal at its opening, at a position and where these are open, innermost first
abbrev here : (doc at : ℕ) → List Lexeme → Walker
here doc at os = record { doc = doc; at = at; depth = length os; kept = nothing }

-- its stack, of so many places, holds what is open
record Under (text : List ℕ) (at : ℕ) (os : List Lexeme) (stack : ℕ) (two : Arrays) : Type 0 where
  short : length text ≤ limit
  inside : at ≤ length text
  places : array_places two ≡ stack
  room : length os ≤ stack
  stacked : open_in two (length os) ≡ os
  openers : Openers os

-- the innermost, if any, is an opener
innermost-opens : (os : List Lexeme) → Openers os → not (eqb (length os) 0) && not (is_opener (innermost (codes_of os))) ≡ false
innermost-opens [] h = refl
innermost-opens (o ∷ os) h = rw (h.0, ne_eqb (suc (length os)) 0 (λ z. absurd (omega arith)))

-- such a walker is not misplaced: its step is that of the rest of the text
goes_on : (doc : ℕ) (text : List ℕ) (at : ℕ) (os : List Lexeme) (stack : ℕ) (two : Arrays) → Under text at os stack two →
    walking text (here doc at os) two ≡ walked_at text (here doc at os) two (drop at text)
unfolding walking is_misplaced
goes_on doc text at os stack two u =
    rw (le-ltb limit (length text) u.short, le-ltb (length text) at u.inside, le-ltb (array_places two) (length os) (omega (arith, u.places, u.room)), u.stacked, innermost-opens os u.openers)

-- a step that stays is answered again and again
stay-answer : (text : List ℕ) (w : Walker) (two : Arrays) (a : Answer (Option Lexeme)) → walking text w two ≡ stays text w two a → (i : ℕ) → (step_from text w two i).answer ≡ a
stay-answer text w two a e zero = ap (λ (r : Walked). r.answer) e
stay-answer text w two a e (suc i) = ap (λ (r : Walked). (step_from text r.walker r.stack i).answer) e ∙ stay-answer text w two a e i

-- at an end the walker stays
end_stays : (text : List ℕ) (w : Walker) (two : Arrays) (v : Verdict) → walked_end text w two v ≡ stays text w two (ending v)
end_stays text w two (given x) = refl
end_stays text w two (refused r) = refl

-- What the steps of a trace answer
-- a lexeme is given
abbrev gives : Lexeme → Answer (Option Lexeme)
gives l = given (some l)

-- what step i is due to answer, from a position on and where these are open: its lexeme or, past the last, how the trace ends
abbrev due : (doc at : ℕ) → List Lexeme → Trace → ℕ → Answer (Option Lexeme)
due doc at os t i =
    get_or (map gives (placed doc at t.taken)) i (ending (verdict_of doc (at + length (joined t.taken)) (open_of os (placed doc at t.taken)) t.end))

-- at the trace's end that end is due
due-ends : (doc at : ℕ) (os : List Lexeme) (e : End) (i : ℕ) → due doc at os (ends e) i ≡ ending (verdict_of doc at os e)
due-ends doc at os e i =
    let same : at + 0 ≡ at = omega arith in
    ap (λ (n : ℕ). ending (verdict_of doc n os e)) same

-- a step's lexeme at a position
abbrev lexeme_of : (doc at : ℕ) → Taken → Lexeme
lexeme_of doc at p = lexeme p.kind (span doc at (at + length p.bytes))

-- what is open after it
abbrev opened : List Lexeme → Lexeme → List Lexeme
opened os l = open_after (λ x. x.kind) os l

-- after a step what is due is that of the rest
due-later : (doc at : ℕ) (os : List Lexeme) (p : Taken) (t : Trace) (i : ℕ) → due doc at os (after p t) (suc i) ≡ due doc (at + length p.bytes) (opened os (lexeme_of doc at p)) t i
due-later doc at os p t i =
    let next : ℕ = at + length p.bytes in
    let ls : List Lexeme = placed doc next t.taken in
    let same : at + length (p.bytes ++ joined t.taken) ≡ next + length (joined t.taken) = omega (arith, length-append p.bytes (joined t.taken)) in
    ap (λ (n : ℕ). get_or (map gives ls) i (ending (verdict_of doc n (open_of (opened os (lexeme_of doc at p)) ls) t.end))) same

-- 30 as a lexing call gives it
full-answer : (doc at n : ℕ) (os : List Lexeme) → ending (verdict_of doc at os (stopped StackFull 0 n)) ≡ refuse StackFull (span doc at (at + n))
unfolding verdict_of
full-answer doc at n os =
    let start : at + 0 ≡ at = omega arith in
    rw start (ap (λ (s : Option Span). refused (record { number = StackFull; at = span doc at (at + n); note = s })) (unnoted os))
  where
    -- it notes no opener
    unnoted : (ls : List Lexeme) → note_of StackFull ls ≡ none
    unnoted [] = refl
    unnoted (l ∷ ls) = refl

-- A step keeps a walker under way
-- without the innermost
under-pop : (text : List ℕ) (at to : ℕ) (os : List Lexeme) (stack : ℕ) (two : Arrays) → to ≤ length text → Under text at os stack two → Under text to (drop 1 os) stack two
under-pop text at to [] stack two h u = record { short = u.short; inside = h; places = u.places; room = u.room; stacked = u.stacked; openers = tt }
under-pop text at to (o ∷ os) stack two h u =
    record {
      short = u.short;
      inside = h;
      places = u.places;
      room = omega (arith, u.room);
      stacked = open-pop two (length os) (omega (arith, u.places, u.room)) ∙ ap (λ (r : List Lexeme). drop 1 r) u.stacked;
      openers = u.openers.1;
    }

-- with one more, written at the depth
under-push : (doc : ℕ) (text : List ℕ) (at to k : ℕ) (os : List Lexeme) (stack : ℕ) (two : Arrays) → at ≤ to → to ≤ length text → is_opener k ≡ true → length os < stack → Under text at os stack two →
    Under text to (lexeme k (span doc at to) ∷ os) stack (put_at (length os) (lexeme k (span doc at to)) two)
under-push doc text at to k os stack two le h opens free u =
    let n : ℕ = length os in
    let s : Span = span doc at to in
    let small : length text < 2 ^ 48 = omega (arith, u.short) in
    let words : span_of (low s) (high s) ≡ s = span-of-words s (omega arith) (omega arith) in
    let pushed : open_in (put_at n (lexeme k s) two) (suc n) ≡ lexeme k (span_of (low s) (high s)) ∷ open_in two n = open-push two n k (low s) (high s) (omega (arith, u.places)) in
    record {
      short = u.short;
      inside = h;
      places = rw (length-set two.kinds n k, length-set (set two.words (n * 2) (low s)) (n * 2 + 1) (high s), length-set two.words (n * 2) (low s)) u.places;
      room = free;
      stacked = pushed ∙ (ap (λ (x : Span). lexeme k x ∷ open_in two n) words ∙ ap (λ (r : List Lexeme). lexeme k s ∷ r) u.stacked);
      openers = (opens, u.openers);
    }

-- after a lexeme for which the stack has a place
under_next : (doc : ℕ) (text : List ℕ) (at to k : ℕ) (os : List Lexeme) (stack : ℕ) (two : Arrays) → at ≤ to → to ≤ length text → is_opener k && leb stack (length os) ≡ false → Under text at os stack two →
    Under text to (opened os (lexeme k (span doc at to))) stack (opener_put (length os) (lexeme k (span doc at to)) two)
unfolding open_after opener_put
under_next doc text at to k os stack two le h free u =
    decide (is_opener k)
    (λ e.
    let left : leb stack (length os) ≡ false = rw e at free in
    rw e (under-push doc text at to k os stack two le h e (leb-false stack (length os) left) u))
    (λ e. rw e (
    decide (is_closer k)
    (λ f. rw f (under-pop text at to os stack two h u))
    (λ f. rw f (record { short = u.short; inside = h; places = u.places; room = u.room; stacked = u.stacked; openers = u.openers }))))

-- a list with room for every lexeme has room for the first
room-first : (room : ℕ) (p : Taken) (ps : List Taken) → length (lexemes_of (p ∷ ps)) ≤ room → not (is_space p.kind) && eqb room 0 ≡ false
room-first room p ps long = decide (is_space p.kind)
    (λ e. rw e)
    (λ e.
    let more : suc (length (lexemes_of ps)) ≤ room = rw e at long in
    rw e (ne_eqb room 0 (λ z. absurd (omega arith))))

-- and then for the others
room-others : (room : ℕ) (p : Taken) (ps : List Taken) → length (lexemes_of (p ∷ ps)) ≤ room → length (lexemes_of ps) ≤ room_after room p.kind
room-others room p ps long = decide (is_space p.kind)
    (λ e.
    let same : length (lexemes_of ps) ≤ room = rw e at long in
    rw e same)
    (λ e.
    let more : suc (length (lexemes_of ps)) ≤ room = rw e at long in
    let left : length (lexemes_of ps) ≤ pred room = omega arith in
    rw e left)

-- A step of the walk beside a step of the trace
-- the steps that are ahead
abbrev ahead : (text : List ℕ) (at : ℕ) (os : List Lexeme) → Trace
ahead text at os = trace_from (codes_of os) 0 (drop at text)

-- both stop with the same end, or both go on by the same piece and the walker is still under way
data Beside (doc : ℕ) (text : List ℕ) (at : ℕ) (os : List Lexeme) (stack room : ℕ) (two : Arrays) : Type 0 where
  stops : (e : End) → walking text (here doc at os) two ≡ stays text (here doc at os) two (ending (verdict_of doc at os e)) → within stack (length os) room (ahead text at os) ≡ ends e →
      Beside doc text at os stack room two
  moves : (p : Taken) (more : ℕ) → walking text (here doc at os) two ≡ goes text (here doc at os) two (lexeme_of doc at p) →
      within stack (length os) room (ahead text at os) ≡ after p (within stack (length (opened os (lexeme_of doc at p))) more (ahead text (at + length p.bytes) (opened os (lexeme_of doc at p)))) →
      Under text (at + length p.bytes) (opened os (lexeme_of doc at p)) stack (opener_put (length os) (lexeme_of doc at p) two) →
      length (lexemes_of (ahead text (at + length p.bytes) (opened os (lexeme_of doc at p))).taken) ≤ more →
      Beside doc text at os stack room two

module _ (doc : ℕ) (text : List ℕ) (at : ℕ) (os : List Lexeme) (stack room : ℕ) (two : Arrays) (u : Under text at os stack two) where
  -- the walker
  abbrev w : Walker
  w = here doc at os

  -- at the text's end
  beside_end : drop at text ≡ [] → Beside doc text at os stack room two
  beside_end e =
      let stands : walking text w two ≡ walked_at text w two [] = goes_on doc text at os stack two u ∙ ap (λ (s : List ℕ). walked_at text w two s) e in
      let there : walked_at text w two [] ≡ walked_end text w two (verdict_of doc at os (at_end (codes_of os))) =
      ap (λ (r : List Lexeme). walked_end text w two (verdict_of doc at r (at_end (codes_of r)))) u.stacked in
      let traced : ahead text at os ≡ ends (at_end (codes_of os)) = trace-ended (codes_of os) (drop at text) (ap length e) in
      stops (at_end (codes_of os))
      (stands ∙ (there ∙ end_stays text w two (verdict_of doc at os (at_end (codes_of os)))))
      (ap (λ (t : Trace). within stack (length os) room t) traced ∙ within-ends stack (length os) room (at_end (codes_of os)))

  -- before it the walker takes the text's step
  walked_step_lem : 0 < length (drop at text) → walking text w two ≡ walked_step text w two (step (innermost (codes_of os)) (drop at text))
  walked_step_lem left = goes_on doc text at os stack two u ∙ (some_left (drop at text) left ∙ ap (λ (r : List Lexeme). walked_step text w two (step (innermost (codes_of r)) (drop at text))) u.stacked)
    where
      -- of a text with some bytes left
      some_left : (s : List ℕ) → 0 < length s → walked_at text w two s ≡ walked_step text w two (step (innermost (codes_of (open_in two (length os)))) s)
      some_left [] h = absurd (omega arith)
      some_left (b ∷ s) h = refl

  -- a step that the text refuses
  beside-stop : (number from n : ℕ) → 0 < length (drop at text) → step (innermost (codes_of os)) (drop at text) ≡ stop number from n → Beside doc text at os stack room two
  beside-stop number from n left e =
      let there : walking text w two ≡ walked_step text w two (stop number from n) = walked_step_lem left ∙ ap (λ (r : Step). walked_step text w two r) e in
      let ended-there : walked_step text w two (stop number from n) ≡ walked_end text w two (verdict_of doc at os (stopped number from n)) =
      ap (λ (r : List Lexeme). walked_end text w two (verdict_of doc at r (stopped number from n))) u.stacked in
      stops (stopped number from n)
      (there ∙ (ended-there ∙ end_stays text w two (verdict_of doc at os (stopped number from n))))
      (ap (λ (t : Trace). within stack (length os) room t) (trace-stopped (codes_of os) (drop at text) number from n left e) ∙ within-ends stack (length os) room (stopped number from n))

  -- a lexeme, or 30 for it
  beside-found : (k n : ℕ) → 0 < length (drop at text) → step (innermost (codes_of os)) (drop at text) ≡ found k n → length (lexemes_of (ahead text at os).taken) ≤ room → Beside doc text at os stack room two
  beside-found k n left e long =
      let s : List ℕ = drop at text in
      let p : Taken = taken k (take n s) in
      let l : Lexeme = lexeme k (span doc at (at + n)) in
      let bounds : (0 < n) × (n ≤ length s) = found_inside (innermost (codes_of os)) s k n left e in
      let size : length (take n s) ≡ n = length-take-le n s bounds.1 in
      let next : List Lexeme = opened os (lexeme_of doc at p) in
      let same_place : at + length (take n s) ≡ at + n = omega (arith, size) in
      let same_codes : codes_after (codes_of os) k ≡ codes_of next = sym (open-codes os (lexeme_of doc at p)) in
      let same_rest : drop n s ≡ drop (at + length (take n s)) text = drop-drop n at text ∙ ap (λ (m : ℕ). drop m text) (sym same_place) in
      let traced : ahead text at os ≡ after p (ahead text (at + length (take n s)) next) =
      trace-found (codes_of os) s k n left bounds.0 e ∙ (ap (λ (c : List ℕ). after p (trace_from c 0 (drop n s))) same_codes ∙ ap (λ (r : List ℕ). after p (trace_from (codes_of next) 0 r)) same_rest) in
      let there : walking text w two ≡ walked_step text w two (found k n) = walked_step_lem left ∙ ap (λ (r : Step). walked_step text w two r) e in
      let tested : walked_step text w two (found k n) ≡ cond (is_opener k && leb stack (length os)) (stays text w two (refuse StackFull l.at)) (goes text w two l) =
      ap (λ (m : ℕ). cond (is_opener k && leb m (length os)) (stays text w two (refuse StackFull l.at)) (goes text w two l)) u.places in
      let long' : length (lexemes_of (p ∷ (ahead text (at + length (take n s)) next).taken)) ≤ room = rw traced at long in
      decide (is_opener k && leb stack (length os))
      (λ full.
      let whole : ending (verdict_of doc at os (stopped StackFull 0 (length (take n s)))) ≡ refuse StackFull l.at =
      full-answer doc at (length (take n s)) os ∙ ap (λ (m : ℕ). refuse StackFull (span doc at m)) same_place in
      stops (stopped StackFull 0 (length (take n s)))
      (there ∙ (tested ∙ (ap (λ (b : Bool). cond b (stays text w two (refuse StackFull l.at)) (goes text w two l)) full ∙ ap (λ (a : Answer (Option Lexeme)). stays text w two a) (sym whole))))
      (ap (λ (t : Trace). within stack (length os) room t) traced ∙ within-full-stack stack (length os) room p (ahead text (at + length (take n s)) next) full))
      (λ free.
      let deeper : depth_after (length os) k ≡ length next = sym (open-length (λ x. x.kind) os (lexeme_of doc at p)) in
      moves p (room_after room k)
      (there ∙ (tested ∙ (ap (λ (b : Bool). cond b (stays text w two (refuse StackFull l.at)) (goes text w two l)) free ∙ ap (λ (m : ℕ). goes text w two (lexeme k (span doc at m))) (sym same_place))))
      (ap (λ (t : Trace). within stack (length os) room t) traced
      ∙ (within-after stack (length os) room p (ahead text (at + length (take n s)) next) free (room-first room p (ahead text (at + length (take n s)) next).taken long')
      ∙ ap (λ (d : ℕ). after p (within stack d (room_after room k) (ahead text (at + length (take n s)) next))) deeper))
      (under_next doc text at (at + length (take n s)) k os stack two (omega arith) (omega (arith, size, bounds.1, length-drop at text, u.inside)) free u)
      (room-others room p (ahead text (at + length (take n s)) next).taken long'))

  -- any step
  beside : length (lexemes_of (ahead text at os).taken) ≤ room → Beside doc text at os stack room two
  beside long = front (drop at text) refl
    where
      -- by what the step is
      stepped : 0 < length (drop at text) → (r : Step) → step (innermost (codes_of os)) (drop at text) ≡ r → Beside doc text at os stack room two
      stepped left (found k n) e = beside-found k n left e long
      stepped left (stop number from n) e = beside-stop number from n left e

      -- by what is left of the text
      front : (s : List ℕ) → drop at text ≡ s → Beside doc text at os stack room two
      front [] e = beside_end e
      front (b ∷ s) e =
          let left : 0 < length (drop at text) = rw e (omega arith) in
          stepped left (step (innermost (codes_of os)) (drop at text)) refl

-- The walk
-- step i of the walk answers what is due
abbrev AsDue : (i doc : ℕ) (text : List ℕ) (at : ℕ) (os : List Lexeme) (stack room : ℕ) (two : Arrays) → Type 0
AsDue i doc text at os stack room two = (step_from text (here doc at os) two i).answer ≡ due doc at os (within stack (length os) room (ahead text at os)) i

-- it does so wherever it is under way, with a list that is never full
abbrev Walks : ℕ → Type 0
Walks i = (doc : ℕ) (text : List ℕ) (at : ℕ) (os : List Lexeme) (stack room : ℕ) (two : Arrays) → Under text at os stack two → length (lexemes_of (ahead text at os).taken) ≤ room → AsDue i doc text at os stack room two

-- where both stop
walks-stop : (i doc : ℕ) (text : List ℕ) (at : ℕ) (os : List Lexeme) (stack room : ℕ) (two : Arrays) (e : End) →
    walking text (here doc at os) two ≡ stays text (here doc at os) two (ending (verdict_of doc at os e)) → within stack (length os) room (ahead text at os) ≡ ends e → AsDue i doc text at os stack room two
walks-stop i doc text at os stack room two e stands traced =
    stay-answer text (here doc at os) two (ending (verdict_of doc at os e)) stands i ∙ sym (ap (λ (t : Trace). due doc at os t i) traced ∙ due-ends doc at os e i)

-- the first step
walks-first : (doc : ℕ) (text : List ℕ) (at : ℕ) (os : List Lexeme) (stack room : ℕ) (two : Arrays) → Beside doc text at os stack room two → AsDue 0 doc text at os stack room two
walks-first doc text at os stack room two (stops e stands traced) = walks-stop 0 doc text at os stack room two e stands traced
walks-first doc text at os stack room two (moves p more stands traced u long) = ap (λ (r : Walked). r.answer) stands ∙ sym (ap (λ (t : Trace). due doc at os t 0) traced)

-- a later step, from the walker after the first
walks-later : (i : ℕ) → Walks i → (doc : ℕ) (text : List ℕ) (at : ℕ) (os : List Lexeme) (stack room : ℕ) (two : Arrays) → Beside doc text at os stack room two → AsDue (suc i) doc text at os stack room two
walks-later i h doc text at os stack room two (stops e stands traced) = walks-stop (suc i) doc text at os stack room two e stands traced
walks-later i h doc text at os stack room two (moves p more stands traced u long) =
    let next : ℕ = at + length p.bytes in
    let l : Lexeme = lexeme_of doc at p in
    let os₁ : List Lexeme = opened os l in
    let two₁ : Arrays = opener_put (length os) l two in
    let deeper : depth_after (length os) p.kind ≡ length os₁ = sym (open-length (λ x. x.kind) os l) in
    let ahead₁ : Trace = within stack (length os₁) more (ahead text next os₁) in
    ap (λ (r : Walked). (step_from text r.walker r.stack i).answer) stands
    ∙ (ap (λ (d : ℕ). (step_from text (record { doc = doc; at = next; depth = d; kept = nothing }) two₁ i).answer) deeper
    ∙ (h doc text next os₁ stack more two₁ u long
    ∙ sym (ap (λ (t : Trace). due doc at os t (suc i)) traced ∙ due-later doc at os p ahead₁ i)))

-- every step
walks : (i : ℕ) → Walks i
walks zero doc text at os stack room two u long = walks-first doc text at os stack room two (beside doc text at os stack room two u long)
walks (suc i) doc text at os stack room two u long = walks-later i (walks i) doc text at os stack room two (beside doc text at os stack room two u long)

-- From the opening
-- a walker as it is opened, with what it keeps
abbrev keeping : ℕ → Kept → Walker
keeping doc k = record { doc = doc; at = 0; depth = 0; kept = k }

-- a refusal that is kept is given at every step
keeping-stays : (doc : ℕ) (text : List ℕ) (two : Arrays) (k : Kept) (r : Refusal) → kept_refusal doc k ≡ some r → walking text (keeping doc k) two ≡ stays text (keeping doc k) two (refused r)
unfolding walking
keeping-stays doc text two k r e = rw e

-- 2 is kept
opening-long : (doc : ℕ) (text : List ℕ) → limit < length text → opening doc text ≡ keeping doc too_long
unfolding opening
opening-long doc text h = rw (lt-ltb limit (length text) h)

-- so is 1
opening-bad : (doc : ℕ) (text : List ℕ) (j : ℕ) → length text ≤ limit → first_bad text ≡ some j → opening doc text ≡ keeping doc (not_utf8 j)
unfolding opening
opening-bad doc text j h e = rw (le-ltb limit (length text) h, e)

-- else the walker is under way, with nothing open
opening-good : (doc : ℕ) (text : List ℕ) → length text ≤ limit → first_bad text ≡ none → opening doc text ≡ here doc 0 []
unfolding opening
opening-good doc text h e = rw (le-ltb limit (length text) h, e)

-- every step of the walk answers what is due of a trace
abbrev GoesBy : (doc : ℕ) (text : List ℕ) (two : Arrays) → Trace → Type 0
GoesBy doc text two t = (i : ℕ) → (step_of doc text two i).answer ≡ due doc 0 [] t i

-- it does where a refusal was kept
goes-refused : (doc : ℕ) (text : List ℕ) (two : Arrays) (places : ℕ) (e : End) (k : Kept) (r : Refusal) → opening doc text ≡ keeping doc k → kept_refusal doc k ≡ some r → trace text ≡ ends e → ending (verdict_of doc 0 [] e) ≡ refused r →
    GoesBy doc text two (trace_in places (array_places two) text)
unfolding trace_in
goes-refused doc text two places e k r opens kept traced same i =
    let traced-in : within (array_places two) 0 places (trace text) ≡ ends e = ap (λ (t : Trace). within (array_places two) 0 places t) traced ∙ within-ends (array_places two) 0 places e in
    ap (λ (w : Walker). (step_from text w two i).answer) opens
    ∙ (stay-answer text (keeping doc k) two (refused r) (keeping-stays doc text two k r kept) i
    ∙ sym (ap (λ (t : Trace). due doc 0 [] t i) traced-in ∙ (due-ends doc 0 [] e i ∙ same)))

-- and where none was
goes-good : (doc : ℕ) (text : List ℕ) (two : Arrays) (places : ℕ) → length text ≤ limit → first_bad text ≡ none → length (lexemes_of (trace text).taken) ≤ places →
    GoesBy doc text two (trace_in places (array_places two) text)
unfolding trace_in
goes-good doc text two places short good long i =
    let stack : ℕ = array_places two in
    let traced : trace text ≡ ahead text 0 [] = trace-good text short good in
    let u : Under text 0 [] stack two = record { short = short; inside = omega arith; places = refl; room = omega arith; stacked = refl; openers = tt } in
    let long' : length (lexemes_of (ahead text 0 []).taken) ≤ places = rw traced at long in
    ap (λ (w : Walker). (step_from text w two i).answer) (opening-good doc text short good)
    ∙ (walks i doc text 0 [] stack places two u long'
    ∙ sym (ap (λ (t : Trace). due doc 0 [] (within stack 0 places t) i) traced))

-- 1 as a lexing call gives it
bad-answer : (doc j : ℕ) → ending (verdict_of doc 0 [] (stopped NotUtf8 j 0)) ≡ refused (refusal NotUtf8 (span doc j j))
unfolding verdict_of
bad-answer doc j =
    let start : 0 + j ≡ j = omega arith in
    let end : j + 0 ≡ j = omega arith in
    rw (start, end)

-- 2 as a lexing call gives it
long-answer : (doc : ℕ) → ending (verdict_of doc 0 [] (stopped TooLong 0 0)) ≡ refused (refusal TooLong (span doc 0 0))
unfolding verdict_of
long-answer doc = refl

-- the walk of any text
goes_by : (doc : ℕ) (text : List ℕ) (two : Arrays) (places : ℕ) → length (lexemes_of (trace text).taken) ≤ places → GoesBy doc text two (trace_in places (array_places two) text)
goes_by doc text two places long =
    decide (ltb limit (length text))
    (λ e.
    let h : limit < length text = ltb-true limit (length text) e in
    goes-refused doc text two places (stopped TooLong 0 0) too_long (refusal TooLong (span doc 0 0)) (opening-long doc text h) refl (trace-long text h) (long-answer doc))
    (λ e. checked (ltb-false limit (length text) e) (first_bad text) refl)
  where
    kept-bad : (j : ℕ) → length text ≤ limit → first_bad text ≡ some j → kept_refusal doc (not_utf8 j) ≡ some (refusal NotUtf8 (span doc j j))
    kept-bad j h e = unfold kept_bad in rw (le-leb j limit (omega (arith, ((first-bad text j).0 e).inside)))

    checked : length text ≤ limit → (b : Option ℕ) → first_bad text ≡ b → GoesBy doc text two (trace_in places (array_places two) text)
    checked h (some j) e =
        goes-refused doc text two places (stopped NotUtf8 j 0) (not_utf8 j) (refusal NotUtf8 (span doc j j)) (opening-bad doc text j h e) (kept-bad j h e) (trace-bad text j h e) (bad-answer doc j)
    checked h none e = goes-good doc text two places h e long

-- Positions
-- where an answer leaves a walker that stood at a position
abbrev end_in : ℕ → Answer (Option Lexeme) → ℕ
end_in at (given (some l)) = l.at.end
end_in at (given none) = at
end_in at (refused r) = at

-- every step leaves it there
walked_to : (text : List ℕ) (w : Walker) (two : Arrays) → (walking text w two).walker.at ≡ end_in w.at (walking text w two).answer
unfolding walking
walked_to text w two = fresh (kept_refusal w.doc w.kept)
  where
    To : Walked → Type 0
    To r = r.walker.at ≡ end_in w.at r.answer

    tested : (b : Bool) (x y : Walked) → To x → To y → To (cond b x y)
    tested true x y p q = p
    tested false x y p q = q

    at-end : (v : Verdict) → To (walked_end text w two v)
    at-end (given x) = refl
    at-end (refused r) = refl

    at-step : (r : Step) → To (walked_step text w two r)
    at-step (stop number from n) = at-end (verdict_of w.doc w.at (open_in two w.depth) (stopped number from n))
    at-step (found k n) =
        let l : Lexeme = lexeme k (span w.doc w.at (w.at + n)) in
        tested (is_opener k && leb (array_places two) w.depth) (stays text w two (refuse StackFull l.at)) (goes text w two l) refl refl

    along : (s : List ℕ) → To (walked_at text w two s)
    along [] = at-end (verdict_of w.doc w.at (open_in two w.depth) (at_end (codes_of (open_in two w.depth))))
    along (b ∷ s) = at-step (step (innermost (codes_of (open_in two w.depth))) (b ∷ s))

    fresh : (o : Option Refusal) → To (walked_fresh text w two o)
    fresh (some r) = refl
    fresh none =
        let there : Walked = walked_at text w two (drop w.at text) in
        let misplaced : Walked = stays text w two (refuse WrongForm (span w.doc 0 0)) in
        tested (ltb limit (length text)) (stays text w two (refuse TooLong (span w.doc 0 0))) (cond (is_misplaced text w two) misplaced there) refl
        (tested (is_misplaced text w two) misplaced there refl (along (drop w.at text)))

-- after a lexeme the walker stands at its end
stands_after : (i : ℕ) (text : List ℕ) (w : Walker) (two : Arrays) (l : Lexeme) → (step_from text w two i).answer ≡ given (some l) → (step_from text w two i).walker.at ≡ l.at.end
stands_after zero text w two l e = walked_to text w two ∙ ap (λ (a : Answer (Option Lexeme)). end_in w.at a) e
stands_after (suc i) text w two l e =
    let r : Walked = walking text w two in
    stands_after i text r.walker r.stack l e

-- Together
-- a lexeme, or else another answer
abbrev or_else : Answer (Option Lexeme) → Option Lexeme → Answer (Option Lexeme)
or_else a none = a
or_else a (some l) = given (some l)

-- what is due, by the lexeme of that step
due-lexeme : (ls : List Lexeme) (i : ℕ) (a : Answer (Option Lexeme)) → get_or (map gives ls) i a ≡ or_else a (get_elem? ls i)
due-lexeme [] i a = refl
due-lexeme (l ∷ ls) zero a = refl
due-lexeme (l ∷ ls) (suc i) a = due-lexeme ls i a

-- past the last step
due-past : (doc at : ℕ) (ps : List Taken) (i : ℕ) (a : Answer (Option Lexeme)) → length ps ≤ i → get_or (map gives (placed doc at ps)) i a ≡ a
due-past doc at [] i a h = refl
due-past doc at (p ∷ ps) zero a h = absurd (omega arith)
due-past doc at (p ∷ ps) (suc i) a h = due-past doc (at + length p.bytes) ps i a (omega arith)

-- a walk that answers what is due walks as the trace
walks-as : (doc : ℕ) (text : List ℕ) (two : Arrays) (t : Trace) → GoesBy doc text two t → WalksAs doc text two t
unfolding lexed_of
walks-as doc text two t Goes-so =
    let ls : List Lexeme = placed doc 0 t.taken in
    let last : Answer (Option Lexeme) = ending (verdict_of doc (0 + length (joined t.taken)) (open_of [] ls) t.end) in
    let start : 0 + length (joined t.taken) ≡ length (joined t.taken) = omega arith in
    let each : (i : ℕ) (l : Lexeme) → get_elem? ls i ≡ some l → (step_of doc text two i).answer ≡ given (some l) =
    λ i l e. Goes-so i ∙ (due-lexeme ls i last ∙ ap (λ (o : Option Lexeme). or_else last o) e) in
    record {
      steps = each;
      positions = λ i l e. stands_after i text (opening doc text) two l (each i l e);
      ends = λ i h. Goes-so i ∙ (due-past doc 0 t.taken i last h ∙ ap (λ (n : ℕ). ending (verdict_of doc n (open_of [] ls) t.end)) start);
    }

-- in ample memory the steps of a call are the text's
ample-steps : (places stack : ℕ) (text : List ℕ) → deepest_in text ≤ stack → length (lexemes_of (trace text).taken) ≤ places → trace_in places stack text ≡ trace text
unfolding trace_in
ample-steps places stack text deep long = limited-ample stack 0 places (trace text).taken (trace text).end deep long

-- walking a text from its opening gives the steps of lexing it and ends as lexing ends
pub walks-text : (doc : ℕ) (text : List ℕ) (two : Arrays) → WalksText doc text two
walks-text doc text two = record {
  ample = λ deep.
      let places : ℕ = length (lexemes_of (trace text).taken) in
      let same : trace_in places (array_places two) text ≡ trace text = ample-steps places (array_places two) text deep (omega arith) in
      walks-as doc text two (trace text) (rw same at (goes_by doc text two places (omega arith)));
  any = λ places long. walks-as doc text two (trace_in places (array_places two) text) (goes_by doc text two places long);
}
