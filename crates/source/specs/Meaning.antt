-- What the code's answers mean: the paper's number and values for each case.
use Rattle.std.specs.Prelude.{ℕ, ◌+◌, Option as CodeOption, Some, None, Result, Ok, Err}
use mathlib.Core.List.{List}
use Rattle.std.proofs.Math.Option.{Option, none, some}
use Rattle.std.specs.Borrow.{Bor}
use Rattle.rules.specs.Reasons.{number_of}
use Rattle.rules.specs.Spans.{Span as SpanRule, span_of, bytes_at}
use Rattle.rules.specs.Answers.{Refusal as RefusalRule, Answer, given, refused, Verdict as VerdictRule}
use Rattle.rules.specs.Source.{resolved}
use Rattle.source.specs.declared.Span.{Span}
use Rattle.source.specs.declared.Refusal.{Refusal}

-- the span that two words name
abbrev pub span_meant : Span → SpanRule
span_meant s = span_of s.low s.high

abbrev pub note_meant : CodeOption Span → Option SpanRule
note_meant None = none
note_meant (Some s) = some (span_meant s)

abbrev pub refusal_meant : Refusal → RefusalRule
refusal_meant r = record { number = number_of r.reason; at = span_meant r.at; note = note_meant r.note }

-- what is given, or the refusal
abbrev pub answer_meant : {A B : Type 0} → (A → B) → Result A Refusal → Answer B
answer_meant f (Ok x) = given (f x)
answer_meant f (Err r) = refused (refusal_meant r)

abbrev pub spanned_meant : Result Span Refusal → Answer SpanRule
spanned_meant = answer_meant span_meant

abbrev pub count_meant : Result ℕ Refusal → Answer ℕ
count_meant = answer_meant (λ n. n)

abbrev pub offsets_meant : Result (ℕ × ℕ) Refusal → Answer (ℕ × ℕ)
offsets_meant = answer_meant (λ p. p)

-- nothing is said against it, or the refusal
abbrev pub verdict_meant : Result (Unit {0}) Refusal → VerdictRule
verdict_meant = answer_meant (λ u. u)

-- of a span and the text that it was held against
abbrev pub inside_meant : Result (Unit {0}) Refusal → List ℕ → SpanRule → Answer (List ℕ)
inside_meant r text s = answer_meant (λ u. bytes_at text s) r

-- the bytes handed out: none where the span is refused
abbrev pub part_of : Answer (List ℕ) → List ℕ
part_of (given w) = w
part_of (refused r) = mathlib.Core.List.List.[]

-- an address, a block of memory and an offset in it, moved on by so many bytes
abbrev pub moved : (bytes : ℕ) → ℕ × ℕ → ℕ × ℕ
moved n p = (p.0, n + p.1)

-- where the part that a span names stands, of a text at this address: at its start; at the text's start where the span is refused
abbrev pub part_at : (text : ℕ × ℕ) → Answer (List ℕ) → SpanRule → ℕ × ℕ
part_at text (given w) s = moved s.start text
part_at text (refused r) s = text

-- the address of what is handed out
abbrev pub resolved_at : (text : Bor (List ℕ)) → SpanRule → ℕ × ℕ
resolved_at text s = part_at text.ref_ptr (resolved text.now s) s
