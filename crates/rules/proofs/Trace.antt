-- The steps of a text as a loop meets them: one step more of the trace, and what is listed, counted and open after one more.
use Prim.Native.Nat.{ℕ, zero, suc, pred, ◌+◌, ◌≤◌, ◌<◌, max}
use mathlib.Core.Path.{◌≡◌, refl, sym, ap, ◌∙◌}
use mathlib.Core.List.{List, [], ◌∷◌, ◌++◌, map, append_assoc, append-nil}
use mathlib.Core.Bool.{true, false, not, ◌&&◌}
use mathlib.Core.Option.{none, some}
use native.Mathlib.Omega.{arith}
use borrow.Author.Tests.{lt-ltb, le-ltb}
use lib.Dec.{leb, eqb}
use lib.ListN.{take, drop, length, length-append, length-drop}
use Rattle.rules.specs.Utf8.{first_bad}
use Rattle.rules.specs.Refusals.{NotUtf8, TooLong, StackFull, ListFull}
use Rattle.rules.specs.Spans.{span, limit}
use Rattle.rules.specs.Kinds.{is_space, is_opener, is_closer}
use Rattle.rules.specs.Step.{found, stop, step}
use Rattle.rules.specs.Lent.{Lexeme, lexeme}
use Rattle.rules.specs.Lexing.{Taken, taken, End, stopped, Trace, ends, after, open_after, codes_after, innermost, at_end, trace_from, trace, depth_after, room_after, limited, lexemes_of, joined, deepest_from, placed, listed_of, open_of}
use Rattle.rules.proofs.Text.{decide}

pub joined-append : (ps qs : List Taken) → joined (ps ++ qs) ≡ joined ps ++ joined qs
joined-append [] qs = refl
joined-append (p ∷ ps) qs = ap (λ (r : List ℕ). p.bytes ++ r) (joined-append ps qs) ∙ sym (append_assoc p.bytes (joined ps) (joined qs))

-- The spans of steps one after the other
pub placed-append : (doc at : ℕ) (ps qs : List Taken) → placed doc at (ps ++ qs) ≡ placed doc at ps ++ placed doc (at + length (joined ps)) qs
placed-append doc at [] qs = ap (λ (n : ℕ). placed doc n qs) (omega arith)
placed-append doc at (p ∷ ps) qs =
    let next : ℕ = at + length p.bytes in
    let same : next + length (joined ps) ≡ at + length (p.bytes ++ joined ps) = omega (arith, length-append p.bytes (joined ps)) in
    let more : placed doc next (ps ++ qs) ≡ placed doc next ps ++ placed doc (next + length (joined ps)) qs = placed-append doc next ps qs in
    ap (λ (r : List Lexeme). lexeme p.kind (span doc at next) ∷ r) (more ∙ ap (λ (n : ℕ). placed doc next ps ++ placed doc n qs) same)

pub listed_kept : (doc at : ℕ) (ps : List Taken) → length (listed_of (placed doc at ps)) ≡ length (lexemes_of ps)
listed_kept doc at [] = refl
listed_kept doc at (p ∷ ps) =
    let more : length (listed_of (placed doc (at + length p.bytes) ps)) ≡ length (lexemes_of ps) = listed_kept doc (at + length p.bytes) ps in
    decide (is_space p.kind) (λ e. rw e more) (λ e. rw e (ap suc more))

pub open-append : (os ls ms : List Lexeme) → open_of os (ls ++ ms) ≡ open_of (open_of os ls) ms
open-append os [] ms = refl
open-append os (l ∷ ls) ms = open-append (open_after (λ x. x.kind) os l) ls ms

map-drop-one : (os : List Lexeme) → map (λ x. x.kind) (drop 1 os) ≡ drop 1 (map (λ x. x.kind) os)
map-drop-one [] = refl
map-drop-one (o ∷ os) = refl

-- the codes of what is open
pub open-codes : (os : List Lexeme) (l : Lexeme) → map (λ x. x.kind) (open_after (λ x. x.kind) os l) ≡ codes_after (map (λ x. x.kind) os) l.kind
unfolding open_after
open-codes os l =
    decide (is_opener l.kind) (λ e. rw e)
    (λ e. rw e (decide (is_closer l.kind) (λ f. rw f (map-drop-one os)) (λ f. rw f)))

length-drop-one : {A : Type 0} (os : List A) → length (drop 1 os) ≡ pred (length os)
length-drop-one os = length-drop 1 os ∙ omega arith

pub open-length : {A : Type 0} (kind_of : A → ℕ) (os : List A) (x : A) → length (open_after kind_of os x) ≡ depth_after (length os) (kind_of x)
unfolding open_after
open-length kind_of os x =
    decide (is_opener (kind_of x)) (λ e. rw e)
    (λ e. rw e (decide (is_closer (kind_of x)) (λ f. rw f (length-drop-one os)) (λ f. rw f)))

-- the deepest after one more step: what is open after the steps before it is as deep as the openers that are open
pub deepest-snoc : (doc at : ℕ) (os : List Lexeme) (ps : List Taken) (p : Taken) →
    deepest_from (length os) (ps ++ (p ∷ [])) ≡ max (deepest_from (length os) ps) (depth_after (length (open_of os (placed doc at ps))) p.kind)
deepest-snoc doc at os [] p = refl
deepest-snoc doc at os (q ∷ ps) p =
    let next : ℕ = at + length q.bytes in
    let l : Lexeme = lexeme q.kind (span doc at next) in
    let opened : List Lexeme = open_after (λ x. x.kind) os l in
    let depth : length opened ≡ depth_after (length os) q.kind = open-length (λ x. x.kind) os l in
    omega (arith, rw depth at (deepest-snoc doc next opened ps p))

-- The trace, one step at a time
pub skip : (openers : List ℕ) (n : ℕ) (s : List ℕ) → trace_from openers n s ≡ trace_from openers 0 (drop n s)
unfolding trace_from
skip openers zero s = refl
skip openers (suc n) [] = refl
skip openers (suc n) (b ∷ s) = skip openers n s

pub trace-found : (openers s : List ℕ) (k n : ℕ) → 0 < length s → 0 < n → step (innermost openers) s ≡ found k n →
    trace_from openers 0 s ≡ after (taken k (take n s)) (trace_from (codes_after openers k) 0 (drop n s))
unfolding trace_from
trace-found openers [] k n some_left moves e = absurd (omega arith)
trace-found openers (b ∷ s) k zero some_left moves e = absurd (omega arith)
trace-found openers (b ∷ s) k (suc n) some_left moves e = rw e (ap (λ (t : Trace). after (taken k (b ∷ take n s)) t) (skip (codes_after openers k) n s))

pub trace-stopped : (openers s : List ℕ) (number from n : ℕ) → 0 < length s → step (innermost openers) s ≡ stop number from n → trace_from openers 0 s ≡ ends (stopped number from n)
unfolding trace_from
trace-stopped openers [] number from n some_left e = absurd (omega arith)
trace-stopped openers (b ∷ s) number from n some_left e = rw e

pub trace-ended : (openers s : List ℕ) → length s ≡ 0 → trace_from openers 0 s ≡ ends (at_end openers)
unfolding trace_from
trace-ended openers [] e = refl
trace-ended openers (b ∷ s) e = absurd (omega arith)

-- the checks before the first step
pub trace-long : (text : List ℕ) → limit < length text → trace text ≡ ends (stopped TooLong 0 0)
unfolding trace
trace-long text h = rw (lt-ltb limit (length text) h)

pub trace-bad : (text : List ℕ) (i : ℕ) → length text ≤ limit → first_bad text ≡ some i → trace text ≡ ends (stopped NotUtf8 i 0)
unfolding trace
trace-bad text i h e = rw (le-ltb limit (length text) h, e)

pub trace-good : (text : List ℕ) → length text ≤ limit → first_bad text ≡ none → trace text ≡ trace_from [] 0 text
unfolding trace
trace-good text h e = rw (le-ltb limit (length text) h, e)

-- In lent memory, with t a trace
abbrev pub within : (stack depth room : ℕ) → Trace → Trace
within stack depth room t = limited stack depth room t.taken t.end

pub within-ends : (stack depth room : ℕ) (e : End) → within stack depth room (ends e) ≡ ends e
unfolding limited
within-ends stack depth room e = refl

-- a lexeme for which there is room
pub within-after : (stack depth room : ℕ) (p : Taken) (t : Trace) → is_opener p.kind && leb stack depth ≡ false → not (is_space p.kind) && eqb room 0 ≡ false →
    within stack depth room (after p t) ≡ after p (within stack (depth_after depth p.kind) (room_after room p.kind) t)
unfolding limited
within-after stack depth room p t a b = rw (a, b)

-- a full stack, then a full list
pub within-full-stack : (stack depth room : ℕ) (p : Taken) (t : Trace) → is_opener p.kind && leb stack depth ≡ true →
    within stack depth room (after p t) ≡ ends (stopped StackFull 0 (length p.bytes))
unfolding limited
within-full-stack stack depth room p t a = rw a

pub within-full-list : (stack depth room : ℕ) (p : Taken) (t : Trace) → is_opener p.kind && leb stack depth ≡ false → not (is_space p.kind) && eqb room 0 ≡ true →
    within stack depth room (after p t) ≡ ends (stopped ListFull 0 (length p.bytes))
unfolding limited
within-full-list stack depth room p t a b = rw (a, b)

-- Steps that are behind, and a trace that is ahead
abbrev pub behind : List Taken → Trace → Trace
behind ps t = record { taken = ps ++ t.taken; end = t.end }

pub behind-after : (ps : List Taken) (p : Taken) (t : Trace) → behind ps (after p t) ≡ behind (ps ++ (p ∷ [])) t
behind-after ps p t = rw (append_assoc ps (p ∷ []) t.taken)

pub behind-ends : (ps : List Taken) (e : End) → behind ps (ends e) ≡ record { taken = ps; end = e }
behind-ends ps e = rw (append-nil ps)
