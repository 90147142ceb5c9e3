-- What a call answers: what is given, or a refusal with its number, its span and perhaps a note; and how answers follow one another.
use Rattle.std.specs.Prelude.{ℕ, List, [], ◌∷◌, cond}
use Rattle.std.proofs.Math.Option.{Option, none}
use Rattle.rules.specs.Refusals.{BadSpan}
use Rattle.rules.specs.Spans.{Span, nowhere, is_bad}

-- "an error here is a refusal number, a span and perhaps a note span"
pub record Refusal : Type 0 where
  pub number : ℕ
  pub at : Span
  pub note : Option Span

pub data Answer (A : Type 0) : Type 0 where
  given : A → Answer A
  refused : Refusal → Answer A

-- a refusal without a note
abbrev pub refusal : (number : ℕ) (at : Span) → Refusal
refusal n s = record { number = n; at = s; note = none }

abbrev pub refuse : {A : Type 0} → (number : ℕ) (at : Span) → Answer A
refuse n s = refused (refusal n s)

-- nothing against it, or a refusal
abbrev pub Verdict : Type 0
Verdict = Answer (Unit {0})

abbrev pub accepted : Verdict
accepted = given tt

-- whether something is given
abbrev pub verdict_on : {A : Type 0} → Answer A → Verdict
verdict_on (given x) = accepted
verdict_on (refused r) = refused r

-- a verdict, or what comes after it
abbrev pub and_then : {A : Type 0} → Verdict → Answer A → Answer A
and_then (given u) a = a
and_then (refused r) a = refused r

-- what a refusal leads to, or what comes where nothing is refused
abbrev pub unless_refused : {A : Type 0} → Verdict → (Refusal → A) → A → A
unless_refused (given u) otherwise x = x
unless_refused (refused r) otherwise x = otherwise r

-- the first refusal along a list
abbrev pub first_refusal : {A : Type 0} → (A → Verdict) → List A → Verdict
first_refusal f [] = accepted
first_refusal f (x ∷ xs) = and_then (f x) (first_refusal f xs)

-- "Refusal 3 carries the span 0-0"
abbrev pub unless_bad : {A : Type 0} → Span → Answer A → Answer A
unless_bad s a = cond (is_bad s) (refuse BadSpan nowhere) a
