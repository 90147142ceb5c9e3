-- The loop of `lex`, in the words of its parts' contracts: what a step's answer says of the text, and that each way out gives the call's result and arrays.
use Rattle.std.specs.Prelude.{Option as CodeOption, Some, None, Result, Err}
use Prim.Native.Nat.{ℕ, ◌+◌, ◌-◌, ◌*◌, ◌≤◌, ◌<◌, ◌^◌}
use mathlib.Core.Path.{◌≡◌, refl, sym, ap, ◌∙◌}
use mathlib.Core.List.{List, [], ◌∷◌, map}
use mathlib.Core.Bool.{Bool, true, false, cond, not}
use mathlib.Core.Option.{none, some}
use native.Mathlib.Omega.{arith}
use lib.Dec.{ltb, eqb}
use lib.ListN.{length, drop, get_or, length-drop}
use borrow.Author.Tests.{eqb-true, eqb-false, ne_eqb, ltb-true, ltb-false}
use native.Mathlib.Nat.{add-zero, zero-add}
use Rattle.rules.specs.Reasons.{number_of}
use Rattle.rules.specs.Utf8.{first_bad}
use Rattle.rules.specs.Refusals.{NotUtf8, TooLong, AnotherDue, UnclosedBracket, UnclosedHole, UnclosedString, UnclosedFormat}
use Rattle.rules.specs.declared.refusal.Reason.{Reason}
use Rattle.rules.specs.declared.refusal.Reason.TheVariants.{TooLong as LongReason, NotUtf8 as BadReason}
use Rattle.rules.specs.Spans.{span, span_of, limit}
use Rattle.rules.specs.Answers.{accepted, refused}
use Rattle.rules.specs.Kinds.{HoleOpen, Nothing, between, is_space, is_quote_open, is_format, is_opener}
use Rattle.rules.specs.Step.{Step as StepRule, found, stop, step}
use Rattle.rules.specs.Lent.{Lexeme, lexeme, Lent, places_in}
use Rattle.rules.specs.Lexing.{End, stopped, ends, innermost, unclosed, at_end, note_of, verdict_of, Lexed as LexedRule, lexed_of, trace_in, listing, lexing, Lexes}
use Rattle.rules.proofs.Lent.{all-untouched}
use Rattle.rules.proofs.Bounds.{found_inside, stop-inside}
use Rattle.rules.proofs.Rfc3629.{first-bad}
use Rattle.rules.proofs.Text.{decide}
use Rattle.rules.proofs.Trace.{trace-long, trace-bad, within-ends}
use Rattle.token.specs.Codes.{state_meant}
use Rattle.token.specs.declared.State.{State as StateCode}
use Rattle.lexer.specs.declared.Cursor.{Cursor}
use Rattle.sublexers.specs.declared.Fault.{Fault}
use Rattle.sublexers.specs.declared.Match.{Match}
use Rattle.lexer.specs.declared.Lexed.{Lexed}
use Rattle.lexer.specs.Cursor.{start, advance_of, no_room_of}
use Rattle.lexer.specs.Going.{innermost_in, put_if}
use Rattle.sublexers.specs.Outcome.{lexeme_to, refused_at, outcome, step_meant, innermost_of}
use Rattle.lexer.specs.Memory.{opener_in}
use Rattle.list.proofs.Entries.{lexeme-at}
use Rattle.lexer.specs.Results.{lexed_meant, counted_at, refused_with, verdict_at, CanReport, CanStop, CanFinish}
use Rattle.lexer.proofs.Standing.{Standing, opened, codes, bounds, standing_on, top-code, top-none, top-opener, note-some, note-none, note-other, answer, listing-here, standing-end, standing-stop, standing-full}

-- what an outcome says of the step
pub outcome-found : (at k e : ℕ) (r : StepRule) → lexeme_to k e ≡ outcome at r → (n : ℕ) × (r ≡ found k n) × (e ≡ at + n)
outcome-found at k e (found j n) q = (n, cc, cc)
outcome-found at k e (stop a b m) q = let z : ◌≡◌ {A = ℕ} 0 1 = cc in absurd (omega arith)

pub record Stop (at : ℕ) (r : StepRule) (number start end : ℕ) : Type 0 where
  pub from : ℕ
  pub size : ℕ
  pub is : r ≡ stop number from size
  pub starts : start ≡ at + from
  pub ends : end ≡ at + from + size

pub outcome-stop : (at a b e : ℕ) (r : StepRule) → refused_at a b e ≡ outcome at r → Stop at r a b e
outcome-stop at a b e (found j n) q = let z : ◌≡◌ {A = ℕ} 0 1 = cc in absurd (omega arith)
outcome-stop at a b e (stop x f m) q = record { from = f; size = m; is = cc; starts = cc; ends = cc }

-- a step that was refused
pub fault-means : (answer : Result Match Fault) (f : Fault) → answer ≡ Err f → refused_at (number_of f.reason) f.start f.end ≡ step_meant answer
fault-means answer f a = rw a

-- what the innermost opener's state says of its code
pub no-state : (top : CodeOption StateCode) → state_meant top ≡ none → innermost_of top ≡ Nothing
unfolding state_meant
no-state (Some s) e = let z : ◌≡◌ {A = ℕ} 0 1 = cc in absurd (omega arith)
no-state None e = refl

-- the verdict at the text's end, by what is open
at-end-none : (doc at : ℕ) (os : List Lexeme) → length os ≡ 0 → verdict_of doc at os (at_end (map (λ l. l.kind) os)) ≡ accepted
unfolding verdict_of
at-end-none doc at [] e = refl
at-end-none doc at (o ∷ os) e = absurd (omega arith)

at-end-some : (doc at : ℕ) (os : List Lexeme) → 0 < length os →
    verdict_of doc at os (at_end (map (λ l. l.kind) os)) ≡
    refused (record { number = unclosed (innermost (map (λ l. l.kind) os)); at = span doc at at; note = note_of (unclosed (innermost (map (λ l. l.kind) os))) os })
unfolding verdict_of
at-end-some doc at [] h = absurd (omega arith)
at-end-some doc at (o ∷ os) h = simp add-zero

pub unclosed-noted : (k : ℕ) → between AnotherDue UnclosedFormat (unclosed k) ≡ true
unfolding unclosed
unclosed-noted k = pick (eqb k HoleOpen) (is_format k) (is_quote_open k)
  where
    pick : (a b d : Bool) → between AnotherDue UnclosedFormat (cond a UnclosedHole (cond b UnclosedFormat (cond d UnclosedString UnclosedBracket))) ≡ true
    pick true b d = refl
    pick false true d = refl
    pick false false true = refl
    pick false false false = refl

module _ {doc : ℕ} {text : List ℕ} {list₀ stack₀ list stack : Lent} {c : Cursor} (s : Standing doc text list₀ stack₀ list stack c) where
  -- the innermost code of the stack is that of the steps behind
  pub standing-innermost : innermost_in c.depth stack.arrays.kinds ≡ innermost (codes doc s.past)
  standing-innermost = decide (eqb c.depth 0)
      (λ z. rw z (sym (top-none s (eqb-true c.depth 0 z))))
      (λ z.
      let deep : 0 < c.depth = omega (arith, eqb-false c.depth 0 z) in
      rw (z, top-opener s deep) (top-code s deep))

  -- a way out: the trace ends here, and the result says so
  pub way_out : (e : End) (r : Lexed) → trace_in (places_in list₀) (places_in stack₀) text ≡ record { taken = s.past; end = e } →
      lexed_meant r ≡ counted_at (verdict_of doc c.at (opened doc s.past) e) c → Lexes doc text list₀ stack₀ (lexed_meant r) list stack
  way_out e r q v =
      let d : r.deepest ≡ c.deepest = ap (λ (l : LexedRule). l.deepest) v in
      record {
        result = v ∙ sym (answer s e q);
        listed = rw (listing-here s e q) s.listed;
        stacked = rw d s.untouched;
      }

  -- the innermost opener by the arrays
  opener-here : 0 < c.depth → opener_in c.depth stack.arrays ≡ lexeme (get_or stack.arrays.kinds (c.depth - 1) 0) (span_of (get_or stack.arrays.words ((c.depth - 1) * 2) 0) (get_or stack.arrays.words ((c.depth - 1) * 2 + 1) 0)) ∷ []
  opener-here d = rw (ne_eqb c.depth 0 (λ z. absurd (omega arith)), lexeme-at stack.arrays.kinds stack.arrays.words (c.depth - 1) (omega (arith, s.shallow, s.untouched.kinds_length, s.untouched.words_length))) refl

  -- the note that the code gives is the rules'
  note-agrees : (number : ℕ) → note_of number (opener_in c.depth stack.arrays) ≡ note_of number (opened doc s.past)
  note-agrees number = decide (ltb 0 c.depth)
      (λ d. rw (opener-here (ltb-true 0 c.depth d)) (decide (between AnotherDue UnclosedFormat number)
      (λ b. rw b (sym (note-some s number (ltb-true 0 c.depth d) b)))
      (λ b. rw b (sym (note-other s number b)))))
      (λ d.
      let z : c.depth ≡ 0 = omega (arith, ltb-false 0 c.depth d) in
      rw z (sym (note-none s number z)))

  pub can-report : CanReport c
  can-report = record { steps = (bounds s).steps; dropped = (bounds s).dropped }

  pub can-finish : CanFinish c
  can-finish = record { at = omega (arith, s.inside, s.small); counts = can-report }

  pub can-stop : (f : Fault) → (f.start < 2 ^ 48) × (f.end < 2 ^ 48) → CanStop f c
  can-stop f b = record { start = b.0; end = b.1; counts = can-report }

  -- the text has ended
  pub end-out : (r : Lexed) → length text ≤ c.at → lexed_meant r ≡ verdict_at doc c (opener_in c.depth stack.arrays) → Lexes doc text list₀ stack₀ (lexed_meant r) list stack
  end-out r h v = way_out (at_end (codes doc s.past)) r (standing-end s h) (v ∙ at-end)
    where
      at-end : verdict_at doc c (opener_in c.depth stack.arrays) ≡ counted_at (verdict_of doc c.at (opened doc s.past) (at_end (codes doc s.past))) c
      at-end = decide (eqb c.depth 0)
          (λ z. rw (z, at-end-none doc c.at (opened doc s.past) (omega (arith, s.counted.depth, eqb-true c.depth 0 z))))
          (λ z.
          let deep : 0 < c.depth = omega (arith, eqb-false c.depth 0 z) in
          rw (opener-here deep, at-end-some doc c.at (opened doc s.past) (omega (arith, s.counted.depth)), ← (top-code s deep), note-some s (unclosed (get_or stack.arrays.kinds (c.depth - 1) 0)) deep (unclosed-noted (get_or stack.arrays.kinds (c.depth - 1) 0))))

  module _ (h : c.at < length text) where
    stop-here : (f : Fault) →
        refused_at (number_of f.reason) f.start f.end ≡ outcome c.at (step (innermost_in c.depth stack.arrays.kinds) (drop c.at text)) →
        Stop c.at (step (innermost (codes doc s.past)) (drop c.at text)) (number_of f.reason) f.start f.end
    stop-here f o = outcome-stop c.at (number_of f.reason) f.start f.end (step (innermost (codes doc s.past)) (drop c.at text)) (rw standing-innermost at o)

    left : 0 < length (drop c.at text)
    left = omega (arith, length-drop c.at text)

    -- the text refuses the step
    pub stop-out : (f : Fault) (r : Lexed) →
        refused_at (number_of f.reason) f.start f.end ≡ outcome c.at (step (innermost_in c.depth stack.arrays.kinds) (drop c.at text)) →
        lexed_meant r ≡ refused_with doc f c (opener_in c.depth stack.arrays) → Lexes doc text list₀ stack₀ (lexed_meant r) list stack
    stop-out f r o v =
        let x : Stop c.at (step (innermost (codes doc s.past)) (drop c.at text)) (number_of f.reason) f.start f.end = stop-here f o in
        way_out (stopped (number_of f.reason) x.from x.size) r (standing-stop s h (number_of f.reason) x.from x.size x.is) (v ∙ same x (note-agrees (number_of f.reason)))
      where
        same : (x : Stop c.at (step (innermost (codes doc s.past)) (drop c.at text)) (number_of f.reason) f.start f.end) →
            note_of (number_of f.reason) (opener_in c.depth stack.arrays) ≡ note_of (number_of f.reason) (opened doc s.past) →
            refused_with doc f c (opener_in c.depth stack.arrays) ≡ counted_at (verdict_of doc c.at (opened doc s.past) (stopped (number_of f.reason) x.from x.size)) c
        same x e = unfold verdict_of in rw (e, x.starts, x.ends)

    -- the fault's offsets are within the limit
    pub stop-small : (f : Fault) →
        refused_at (number_of f.reason) f.start f.end ≡ outcome c.at (step (innermost_in c.depth stack.arrays.kinds) (drop c.at text)) →
        (f.start < 2 ^ 48) × (f.end < 2 ^ 48)
    stop-small f o =
        let x : Stop c.at (step (innermost (codes doc s.past)) (drop c.at text)) (number_of f.reason) f.start f.end = stop-here f o in
        let i : x.from + x.size ≤ length (drop c.at text) = stop-inside (innermost (codes doc s.past)) (drop c.at text) (number_of f.reason) x.from x.size left x.is in
        let small : length text < 2 ^ 48 = s.small in
        let a : f.start ≡ c.at + x.from = x.starts in
        let b : f.end ≡ c.at + x.from + x.size = x.ends in
        let l : length (drop c.at text) ≡ length text - c.at = length-drop c.at text in
        (omega arith, omega arith)

    -- what a lexeme that was found says of the text
    pub record Took (k e : ℕ) : Type 0 where
      pub size : ℕ
      pub is : step (innermost (codes doc s.past)) (drop c.at text) ≡ found k size
      pub moves : 0 < size
      pub fits : c.at + size ≤ length text
      pub ends : e ≡ c.at + size

    pub took : (k e : ℕ) → lexeme_to k e ≡ outcome c.at (step (innermost_in c.depth stack.arrays.kinds) (drop c.at text)) → Took k e
    took k e o =
        let x : (n : ℕ) × (step (innermost (codes doc s.past)) (drop c.at text) ≡ found k n) × (e ≡ c.at + n) =
        outcome-found c.at k e (step (innermost (codes doc s.past)) (drop c.at text)) (rw standing-innermost at o) in
        let i : (0 < x.0) × (x.0 ≤ length (drop c.at text)) = found_inside (innermost (codes doc s.past)) (drop c.at text) k x.0 left x.1 in
        let l : length (drop c.at text) ≡ length text - c.at = length-drop c.at text in
        record { size = x.0; is = x.1; moves = i.0; fits = omega arith; ends = x.2 }

    pub took-small : {k e : ℕ} → Took k e → (c.at < 2 ^ 48) × (e < 2 ^ 48)
    took-small t = (omega (arith, s.small), omega (arith, s.small, t.ends, t.fits))

    -- there is no room for it
    pub full-out : (k e : ℕ) (reason : Reason) (r : Lexed) → Took k e → number_of reason ≡ no_room_of (places_in stack₀) (places_in list₀) c k → (number_of reason ≡ 0 → ⊥) →
        lexed_meant r ≡ refused_with doc (record { end = e; reason = reason; start = c.at }) c (opener_in c.depth stack.arrays) → Lexes doc text list₀ stack₀ (lexed_meant r) list stack
    full-out k e reason r t f z v =
        way_out (stopped (number_of reason) 0 t.size) r (standing-full s h k t.size t.moves t.fits t.is (number_of reason) (sym f) z)
        (v ∙ same (note-agrees (number_of reason)))
      where
        same : note_of (number_of reason) (opener_in c.depth stack.arrays) ≡ note_of (number_of reason) (opened doc s.past) →
            refused_with doc (record { end = e; reason = reason; start = c.at }) c (opener_in c.depth stack.arrays) ≡
            counted_at (verdict_of doc c.at (opened doc s.past) (stopped (number_of reason) 0 t.size)) c
        same q = unfold verdict_of in rw (q, t.ends) (simp add-zero)

    -- the loop goes on
    pub goes_on : {k e : ℕ} → Took k e → no_room_of (places_in stack₀) (places_in list₀) c k ≡ 0 →
        Standing doc text list₀ stack₀ (put_if (not (is_space k)) c.lexemes (lexeme k (span doc c.at e)) list) (put_if (is_opener k) c.depth (lexeme k (span doc c.at e)) stack) (advance_of c k e)
    goes_on {k} t f = rw t.ends (standing_on s h k t.size t.moves t.fits t.is f)

-- a refusal before the first step leaves everything as it was
at_once : (doc : ℕ) (text : List ℕ) (list stack : Lent) (reason : Reason) (at : ℕ) (r : Lexed) → trace_in (places_in list) (places_in stack) text ≡ ends (stopped (number_of reason) at 0) →
    lexed_meant r ≡ refused_with doc (record { end = at; reason = reason; start = at }) start [] → Lexes doc text list stack (lexed_meant r) list stack
unfolding lexing listing lexed_of verdict_of
at_once doc text list stack reason at r t v =
    record {
      result = v ∙ rw t (simp (zero-add, add-zero));
      listed = rw t;
      stacked = all-untouched r.deepest stack.arrays;
    }

-- the two checks before the first step
pub long-out : (doc : ℕ) (text : List ℕ) (list stack : Lent) (r : Lexed) → limit < length text →
    lexed_meant r ≡ refused_with doc (record { end = 0; reason = LongReason; start = 0 }) start [] → Lexes doc text list stack (lexed_meant r) list stack
unfolding trace_in
long-out doc text list stack r h v =
    let t : trace_in (places_in list) (places_in stack) text ≡ ends (stopped TooLong 0 0) = rw (trace-long text h) (within-ends (places_in stack) 0 (places_in list) (stopped TooLong 0 0)) in
    at_once doc text list stack LongReason 0 r t v

pub bad-out : (doc : ℕ) (text : List ℕ) (list stack : Lent) (bad : ℕ) (r : Lexed) → length text ≤ limit → first_bad text ≡ some bad →
    lexed_meant r ≡ refused_with doc (record { end = bad; reason = BadReason; start = bad }) start [] → Lexes doc text list stack (lexed_meant r) list stack
unfolding trace_in
bad-out doc text list stack bad r h e v =
    let t : trace_in (places_in list) (places_in stack) text ≡ ends (stopped NotUtf8 bad 0) = rw (trace-bad text bad h e) (within-ends (places_in stack) 0 (places_in list) (stopped NotUtf8 bad 0)) in
    at_once doc text list stack BadReason bad r t v

pub bad-inside : (text : List ℕ) (bad : ℕ) → first_bad text ≡ some bad → bad < length text
bad-inside text bad e = ((first-bad text bad).0 e).inside

-- a refusal before the first step may be reported
pub can-stop-first : (text : List ℕ) {bad : ℕ} {reason : Reason} → bad < length text → length text ≤ limit → CanStop (record { end = bad; reason = reason; start = bad }) start
can-stop-first text b h = record { start = omega arith; end = omega arith; counts = record { steps = omega arith; dropped = omega arith } }
