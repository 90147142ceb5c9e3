-- What the Rust's `Span` can do, the part of a text that a span names, and whether a text is UTF-8: each an answer or a refusal.
use Rattle.std.specs.Prelude.{ℕ, ◌+◌, ◌-◌, min, List, cond, leb, eqb, length}
use Rattle.std.proofs.Math.Option.{Option, none, some}
use Rattle.rules.specs.Utf8.{first_bad}
use Rattle.rules.specs.Refusals.{NotUtf8, BadSpan, WrongForm}
use Rattle.rules.specs.Spans.{Span, span, nowhere, enclosing, bytes_at}
use Rattle.rules.specs.Answers.{Answer, given, refuse, Verdict, accepted, unless_bad}

unfoldable pub new_span : (doc start end : ℕ) → Answer Span
new_span d a e = unless_bad (span d a e) (given (span d a e))

unfoldable pub len_of : Span → Answer ℕ
len_of s = unless_bad s (given (s.end - s.start))

-- "Trimming takes at most the length."
unfoldable pub trim_start : Span → ℕ → Answer Span
trim_start s n = unless_bad s (given (span s.doc (s.start + min n (s.end - s.start)) s.end))

unfoldable pub trim_end : Span → ℕ → Answer Span
trim_end s n = unless_bad s (given (span s.doc s.start (s.end - min n (s.end - s.start))))

-- of two spans of one document
abbrev pub unless_apart : {A : Type 0} → Span → Span → Answer A → Answer A
unless_apart s t a = unless_bad s (unless_bad t (cond (eqb s.doc t.doc) a (refuse BadSpan nowhere)))

-- from a span up to but not including another one
unfoldable pub until_of : Span → Span → Answer Span
until_of s t = unless_apart s t (new_span s.doc s.start t.start)

unfoldable pub union_of : Span → Span → Answer Span
union_of s t = unless_apart s t (given (enclosing s t))

-- "span outside the text" is 40
unfoldable pub resolved : List ℕ → Span → Answer (List ℕ)
resolved text s = unless_bad s (cond (leb s.end (length text)) (given (bytes_at text s)) (refuse WrongForm s))

-- refusal 1, where a bad sequence begins: "empty span where the first bad sequence begins"
abbrev pub not_utf8_at : (doc : ℕ) → Option ℕ → Verdict
not_utf8_at doc none = accepted
not_utf8_at doc (some at) = refuse NotUtf8 (span doc at at)

-- "not UTF-8 by RFC 3629"
abbrev pub utf8_verdict : (doc : ℕ) → List ℕ → Verdict
utf8_verdict doc text = not_utf8_at doc (first_bad text)
