-- A refusal that a walker keeps: as it is made, and that every step gives it.
use Rattle.std.specs.Prelude.{Err}
use Prim.Native.Nat.{ℕ, ◌≤◌, ◌<◌}
use mathlib.Core.Path.{◌≡◌, sym, ◌∙◌}
use mathlib.Core.List.{List}
use mathlib.Core.Option.{some}
use native.Mathlib.Omega.{arith}
use lib.Dec.{leb}
use borrow.Author.Tests.{leb-true, leb-false, lt-ltb, le-ltb}
use Rattle.rules.specs.Lent.{Arrays}
use Rattle.rules.specs.Refusals.{BadSpan, NotUtf8, WrongForm}
use Rattle.rules.specs.Spans.{Span, span, nowhere, limit}
use Rattle.rules.specs.Answers.{Refusal as RefusalRule, refusal, given, refused, refuse}
use Rattle.rules.specs.Source.{new_span}
use Rattle.rules.specs.Walker.{Kept, kept_bad, kept_refusal, walking}
use Rattle.rules.proofs.Text.{decide}
use Rattle.source.specs.Meaning.{refusal_meant}
use Rattle.source.specs.declared.Refusal.{Refusal}
use Rattle.lexer.specs.Stepping.{stepped_by, walker_at, Walks}

-- the empty span at a position, within the limit and over it
empty-span : (doc at : ℕ) → at ≤ limit → new_span doc at at ≡ given (span doc at at)
unfolding new_span
empty-span doc at h = rw (le-ltb at at (omega arith), le-ltb limit at h)

no_span : (doc at : ℕ) → limit < at → new_span doc at at ≡ refuse BadSpan nowhere
unfolding new_span
no_span doc at h = rw (le-ltb at at (omega arith), lt-ltb limit at h)

apart : (s : Span) (k : RefusalRule) → given s ≡ refused k → ⊥
apart s k q = let z : ◌≡◌ {A = ℕ} 0 1 = cc in absurd (omega arith)

same : (s t : Span) → given s ≡ given t → s ≡ t
same s t q = cc

pub bad-made : (doc at : ℕ) (s : Span) (r : RefusalRule) → given s ≡ new_span doc at at → r ≡ refusal NotUtf8 s → r ≡ kept_bad doc at
unfolding kept_bad
bad-made doc at s r q e = decide (leb at limit)
    (λ h. rw (h, e, same s (span doc at at) (q ∙ empty-span doc at (leb-true at limit h))))
    (λ h. absurd (apart s _ (q ∙ no_span doc at (leb-false at limit h))))

pub bad-refused : (doc at : ℕ) (k r : RefusalRule) → refused k ≡ new_span doc at at → r ≡ refusal WrongForm (span doc 0 0) → r ≡ kept_bad doc at
unfolding kept_bad
bad-refused doc at k r q e = decide (leb at limit)
    (λ h. absurd (apart (span doc at at) k (sym (q ∙ empty-span doc at (leb-true at limit h)))))
    (λ h. rw (h, e))

-- what is kept is given, and nothing changes
pub gives-walks : (text : List ℕ) (stack : Arrays) (doc at depth : ℕ) (k : Kept) (r : Refusal) → kept_refusal doc k ≡ some (refusal_meant r) → Walks text (walker_at doc at depth k) stack (stepped_by (Err r) at depth) stack
unfolding walking
gives-walks text stack doc at depth k r e = record { answer = rw e; position = rw e; depth = rw e; stacked = rw e }
