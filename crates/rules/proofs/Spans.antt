-- Laws of spans and their two words: nothing is lost on the way there or back, and the offsets that two words name are within the limit.
use Prim.Native.Nat.{ℕ, ◌^◌, ◌<◌}
use native.Mathlib.Omega.{arith}
use mathlib.Core.Path.{◌≡◌, refl, sym}
use mathlib.Core.Bool.{Bool, true, false, not, cond, ◌&&◌, or-false}
use lib.Dec.{ltb, leb, eqb}
use borrow.Author.Tests.{le-ltb, le-leb, lt-leb, ltb-true, ltb-false}
use Rattle.rules.specs.Refusals.{BadSpan}
use Rattle.rules.specs.Spans.{Span, span, low, high, limit, span_of, is_bad, nowhere}
use Rattle.rules.specs.Answers.{Answer, refuse}
use Rattle.rules.specs.Source.{unless_apart}

-- spans are equal by their parts
pub same_span : {d a e d' a' e' : ℕ} → d ≡ d' → a ≡ a' → e ≡ e' → span d a e ≡ span d' a' e'
same_span p q r = rw (p, q, r)

-- the start that two words name is within the limit
pub start-within : (l h : ℕ) → (span_of l h).start < 2 ^ 48
unfolding span_of
start-within l h = omega arith

-- so is the end
pub end-within : (l h : ℕ) → l < 2 ^ 64 → (span_of l h).end < 2 ^ 48
unfolding span_of
end-within l h word = omega arith

-- the words of a span name that span
pub span-of-words : (s : Span) → s.start < 2 ^ 48 → s.end < 2 ^ 48 → span_of (low s) (high s) ≡ s
unfolding span_of
span-of-words s p q = same_span (omega arith) (omega arith) (omega arith)

-- the low word of the span that two words name is the low word of the two
pub low-of-span : (l h : ℕ) → l < 2 ^ 64 → low (span_of l h) ≡ l
unfolding span_of
low-of-span l h word = omega arith

-- its high word is the high word of the two
pub high-of-span : (l h : ℕ) → l < 2 ^ 64 → high (span_of l h) ≡ h
unfolding span_of
high-of-span l h word = omega arith

-- the span that two words name is bad only where its start is after its end
pub bad-of-words : (l h : ℕ) → l < 2 ^ 64 → is_bad (span_of l h) ≡ ltb (span_of l h).end (span_of l h).start
bad-of-words l h word =
    rw (le-ltb limit (span_of l h).end (omega (arith, end-within l h word))) (or-false _)

-- it is not bad where its start is up to its end
pub not-bad-of-words : (l h : ℕ) → l < 2 ^ 64 → not (is_bad (span_of l h)) ≡ leb (span_of l h).start (span_of l h).end
not-bad-of-words l h word = rw (bad-of-words l h word) (tested (span_of l h).end (span_of l h).start _ refl)
  where
    tested : (a b : ℕ) (t : Bool) → ltb a b ≡ t → not t ≡ leb b a
    tested a b true e = sym (lt-leb b a (ltb-true a b e))
    tested a b false e = sym (le-leb b a (ltb-false a b e))

-- two spans pass where neither is bad and they are of one document
pub unless-apart : {A : Type 0} (s t : Span) (a : Answer A) → unless_apart s t a ≡ cond (not (is_bad s) && not (is_bad t) && eqb s.doc t.doc) a (refuse BadSpan nowhere)
unless-apart {A} s t a = tests (is_bad s) (is_bad t) (eqb s.doc t.doc) (refuse BadSpan nowhere)
  where
    tests : (p q r : Bool) (e : Answer A) → cond p e (cond q e (cond r a e)) ≡ cond (not p && not q && r) a e
    tests true q r e = refl
    tests false true r e = refl
    tests false false r e = refl
