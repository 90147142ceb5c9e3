-- A refusal and its note as words for C: what they mean, and their canonical form.
use Rattle.std.specs.Prelude.{ℕ, ◌≡◌, cond, eqb, Option as CodeOption, Some, None}
use Rattle.std.proofs.Math.Option.{Option, none, some}
use Rattle.rules.specs.Reasons.{number_of}
use Rattle.rules.specs.Spans.{Span, span_of}
use Rattle.rules.specs.Answers.{Answer, given, refused}
use Rattle.source.specs.declared.Span.{Span as CodeSpan}
use Rattle.source.specs.declared.Refusal.{Refusal}
use Rattle.words.specs.declared.refusals.RefusalWords.{RefusalWords}
use Rattle.words.specs.declared.refusals.NoteWords.{NoteWords}

-- a note, unless `noted` is 0
abbrev pub note_in : NoteWords → Option Span
note_in w = cond (eqb w.noted 0) none (some (span_of w.low w.high))

-- what was found where `refused` is 0, else the refusal, with a note or none
abbrev pub given_or_refused : {A : Type 0} → RefusalWords → Option Span → A → Answer A
given_or_refused w note x = cond (eqb w.refused 0) (given x) (refused (record { number = w.number; at = span_of w.low w.high; note = note }))

-- What words mean leaves some of them free: a number beside an acceptance, or which number other than 0 says yes. In the canonical form, which every exported result has, yes is 1 and what is not said is 0.
-- A word that is said where a flag is set, and one that is said where it is not:
abbrev pub if_set : (flag word : ℕ) → ℕ
if_set flag word = cond (eqb flag 0) 0 word

abbrev pub if_clear : (flag word : ℕ) → ℕ
if_clear flag word = cond (eqb flag 0) word 0

abbrev pub canonical_refusal : RefusalWords → RefusalWords
canonical_refusal w = record {
  refused = if_set w.refused 1;
  number = if_set w.refused w.number;
  low = if_set w.refused w.low;
  high = if_set w.refused w.high;
}

abbrev pub canonical_note : NoteWords → NoteWords
canonical_note w = record {
  noted = if_set w.noted 1;
  low = if_set w.noted w.low;
  high = if_set w.noted w.high;
}

-- a note is said of a refusal alone: where this flag is set
abbrev pub note_if_set : (flag : ℕ) → NoteWords → NoteWords
note_if_set flag w = record {
  noted = if_set flag (canonical_note w).noted;
  low = if_set flag (canonical_note w).low;
  high = if_set flag (canonical_note w).high;
}

-- the words of no refusal, of a refusal, and of either
abbrev pub no_refusal_said : RefusalWords
no_refusal_said = record { refused = 0; number = 0; low = 0; high = 0 }

abbrev pub refusal_said : (number : ℕ) → CodeSpan → RefusalWords
refusal_said number at = record { refused = 1; number = number; low = at.low; high = at.high }

abbrev pub told_said : CodeOption Refusal → RefusalWords
told_said None = no_refusal_said
told_said (Some r) = refusal_said (number_of r.reason) r.at

-- words in that form with this note
pub record NoteAs (note : Option Span) (w : NoteWords) : Type 0 where
  pub meaning : note_in w ≡ note
  pub canonical : w ≡ canonical_note w
