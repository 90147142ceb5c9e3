-- The steps of any text, in any lent memory, are a front of it: each is what the step rule finds where the step before it ended.
use Prim.Native.Nat.{ℕ, zero, suc, pred, ◌+◌, ◌-◌, ◌≤◌, ◌<◌, zero-le}
use mathlib.Core.Path.{◌≡◌, refl, sym, ap, ◌∙◌}
use mathlib.Core.Bool.{Bool, true, false, cond, not, ◌&&◌, false≢true}
use mathlib.Core.Option.{Option, none, some}
use mathlib.Core.List.{List, [], ◌∷◌, ◌++◌, map, append_assoc}
use native.Mathlib.Omega.{arith}
use lib.Dec.{leb, ltb, eqb}
use lib.ListN.{length, take, drop, take-append-drop}
use lib.Seq.{length-take-le, take-append_seam, drop-append_seam, drop-drop}
use Rattle.rules.specs.Utf8.{first_bad}
use Rattle.rules.specs.Refusals.{TooLong, StackFull, ListFull}
use Rattle.rules.specs.Kinds.{is_space, is_opener}
use Rattle.rules.specs.Spans.{limit, bytes_at}
use Rattle.rules.specs.Step.{found, step}
use Rattle.rules.specs.Lexing.{Taken, taken, End, stopped, Trace, ends, after, codes_after, innermost, at_end, trace_from, unless_not_utf8, trace, meets_no_refusal, depth_after, open_after_all, room_after, limited, trace_in, joined, placed}
use Rattle.rules.proofs.Bounds.{found_inside}
use Rattle.rules.proofs.Trace.{open-length, joined-append}
use Rattle.rules.proofs.Steps.{step-cases}

-- steps where these codes are open before them and `rest` is left after them: each is what the step rule finds there, and has a byte
abbrev pub Steps : (rest openers : List ℕ) → List Taken → Type 0
Steps rest openers [] = Unit {0}
Steps rest openers (p ∷ ps) =
    (step (innermost openers) (p.bytes ++ (joined ps ++ rest)) ≡ found p.kind (length p.bytes))
    × (0 < length p.bytes)
    × Steps rest (codes_after openers p.kind) ps

-- the steps of a text and what they leave of it: nothing, with nothing open, where they meet no refusal
pub record Walked (openers s : List ℕ) (t : Trace) : Type 0 where
  pub rest : List ℕ
  pub whole : joined t.taken ++ rest ≡ s
  pub steps : Steps rest openers t.taken
  pub nothing_left : meets_no_refusal t.end ≡ true → (rest ≡ []) × (open_after_all (length openers) t.taken ≡ 0)

-- no step, and nothing left
walked_end_lem : (openers : List ℕ) → Walked openers [] (ends (at_end openers))
walked_end_lem [] = record { rest = []; whole = refl; steps = tt; nothing_left = λ e. (refl, refl) }
walked_end_lem (k ∷ openers) = record { rest = []; whole = refl; steps = tt; nothing_left = λ e. absurd (false≢true e) }

-- no step, and the whole text left
walked_stop : (openers s : List ℕ) (number from n : ℕ) → Walked openers s (ends (stopped number from n))
walked_stop openers s number from n = record { rest = s; whole = refl; steps = tt; nothing_left = λ e. absurd (false≢true e) }

-- one step before others
walked-after : (openers s : List ℕ) (b k n : ℕ) (t : Trace) → step (innermost openers) (b ∷ s) ≡ found k n → 0 < n → n ≤ suc (length s)
    → Walked (codes_after openers k) (drop (pred n) s) t → Walked openers (b ∷ s) (after (taken k (take n (b ∷ s))) t)
walked-after openers s b k zero t e some_bytes inside w = absurd (omega arith)
walked-after openers s b k (suc n) t e some_bytes inside w =
    let back : take n s ++ (joined t.taken ++ w.rest) ≡ s = rw w.whole (take-append-drop n s) in
    let size : length (take n s) ≡ n = length-take-le n s (omega arith) in
    let depth : length (codes_after openers k) ≡ depth_after (length openers) k = open-length (λ c. c) openers k in
    record {
      rest = w.rest;
      whole = ap (λ (r : List ℕ). b ∷ r) (append_assoc (take n s) (joined t.taken) w.rest ∙ back);
      steps = (rw (back, size) e, omega arith, w.steps);
      nothing_left = λ h. rw depth at (w.nothing_left h);
    }

-- the steps of any text
pub walked : (openers : List ℕ) (skip : ℕ) (s : List ℕ) → skip ≤ length s → Walked openers (drop skip s) (trace_from openers skip s)
unfolding trace_from
walked openers zero [] h = walked_end_lem openers
walked openers (suc skip) [] h = absurd (omega arith)
walked openers (suc skip) (b ∷ s) h = walked openers skip s (omega arith)
walked openers zero (b ∷ s) h = step-cases (step (innermost openers) (b ∷ s))
    (λ k n e.
    let within = found_inside (innermost openers) (b ∷ s) k n (omega arith) e in
    rw e (walked-after openers s b k n (trace_from (codes_after openers k) (pred n) s) e within.0 within.1 (walked (codes_after openers k) (pred n) s (omega arith))))
    (λ number from n e. rw e (walked_stop openers (b ∷ s) number from n))

-- the same with the checks before the first step
pub walked-trace : (text : List ℕ) → Walked [] text (trace text)
unfolding trace
walked-trace text = checks (ltb limit (length text)) (first_bad text)
  where
    checks : (long : Bool) (bad : Option ℕ) → Walked [] text (cond long (ends (stopped TooLong 0 0)) (unless_not_utf8 bad (trace_from [] 0 text)))
    checks true bad = walked_stop [] text _ _ _
    checks false none = walked [] 0 text zero-le
    checks false (some i) = walked_stop [] text _ _ _

-- some steps are a front of others
pub record Front (ps qs : List Taken) : Type 0 where
  pub later : List Taken
  pub same : ps ++ later ≡ qs

-- no step is a front of any steps
front-none : (qs : List Taken) → Front [] qs
front-none qs = record { later = qs; same = refl }

-- a step before a front and before the whole
front-after : (p : Taken) (ps qs : List Taken) → Front ps qs → Front (p ∷ ps) (p ∷ qs)
front-after p ps qs f = record { later = f.later; same = ap (λ (r : List Taken). p ∷ r) f.same }

-- lent memory keeps a front of the steps
pub front-limited : (stack depth room : ℕ) (ps : List Taken) (e : End) → Front (limited stack depth room ps e).taken ps
unfolding limited
front-limited stack depth room [] e = front-none []
front-limited stack depth room (p ∷ ps) e =
    checks (is_opener p.kind && leb stack depth) (not (is_space p.kind) && eqb room 0) (limited stack (depth_after depth p.kind) (room_after room p.kind) ps e)
    (front-limited stack (depth_after depth p.kind) (room_after room p.kind) ps e)
  where
    checks : (full fuller : Bool) (more : Trace) → Front more.taken ps
        → Front (cond full (ends (stopped StackFull 0 (length p.bytes))) (cond fuller (ends (stopped ListFull 0 (length p.bytes))) (after p more))).taken (p ∷ ps)
    checks true fuller more f = front-none (p ∷ ps)
    checks false true more f = front-none (p ∷ ps)
    checks false false more f = front-after p more.taken ps f

-- a text begins with these bytes
pub record Begins (bytes text : List ℕ) : Type 0 where
  pub rest : List ℕ
  pub whole : bytes ++ rest ≡ text

-- a text begins with the steps of any call on it
pub begins-in : (places stack : ℕ) (text : List ℕ) → Begins (joined (trace_in places stack text).taken) text
unfolding trace_in
begins-in places stack text =
    let w : Walked [] text (trace text) = walked-trace text in
    let ps : List Taken = (limited stack 0 places (trace text).taken (trace text).end).taken in
    let f : Front ps (trace text).taken = front-limited stack 0 places (trace text).taken (trace text).end in
    let both : joined ps ++ joined f.later ≡ joined (trace text).taken = sym (joined-append ps f.later) ∙ ap joined f.same in
    record { rest = joined f.later ++ w.rest; whole = sym (append_assoc (joined ps) (joined f.later) w.rest) ∙ rw both w.whole }

-- each step has the bytes that the text has there
pub placed-bytes : (doc at : ℕ) (text rest : List ℕ) (ps : List Taken) → joined ps ++ rest ≡ drop at text → map (λ l. bytes_at text l.at) (placed doc at ps) ≡ map (λ p. p.bytes) ps
placed-bytes doc at text rest [] e = refl
placed-bytes doc at text rest (p ∷ ps) e =
    let next : ℕ = at + length p.bytes in
    let here : p.bytes ++ (joined ps ++ rest) ≡ drop at text = sym (append_assoc p.bytes (joined ps) rest) ∙ e in
    let size : next - at ≡ length p.bytes = omega arith in
    let there : joined ps ++ rest ≡ drop next text =
    sym (drop-append_seam p.bytes (joined ps ++ rest)) ∙ ap (λ (r : List ℕ). drop (length p.bytes) r) here ∙ drop-drop (length p.bytes) at text in
    let first : take (next - at) (drop at text) ≡ p.bytes = rw (size, ← here) (take-append_seam p.bytes (joined ps ++ rest)) in
    rw first (ap (λ (r : List (List ℕ)). p.bytes ∷ r) (placed-bytes doc next text rest ps there))

-- a front of a text is so many bytes of it
pub front_bytes : (bytes text : List ℕ) → Begins bytes text → bytes ≡ take (length bytes) text
front_bytes bytes text b = sym (take-append_seam bytes b.rest) ∙ ap (λ (r : List ℕ). take (length bytes) r) b.whole
