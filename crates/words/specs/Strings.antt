-- Answers about strings as words for C.
use Rattle.std.specs.Prelude.{ℕ, ◌≡◌, cond, eqb}
use Rattle.std.proofs.Math.Option.{none}
use Rattle.rules.specs.Answers.{Refusal, Answer, given, refused, refuse, Verdict}
use Rattle.rules.specs.Value.{Held, in_text, in_output}
use Rattle.words.specs.Refusals.{given_or_refused, if_set, if_clear, canonical_refusal}
use Rattle.words.specs.declared.strings.AnswerWords.{AnswerWords}
use Rattle.words.specs.declared.strings.PartedWords.{PartedWords}
use Rattle.words.specs.declared.strings.ValuedWords.{ValuedWords}

-- a refusal without its note, for which these words have no room
abbrev pub refusal_alone : {A : Type 0} → Refusal → Answer A
refusal_alone r = refuse r.number r.at

abbrev pub without_note : {A : Type 0} → Answer A → Answer A
without_note (given x) = given x
without_note (refused r) = refusal_alone r

-- a check that passes, as a number: 0
abbrev pub or_zero : Verdict → Answer ℕ
or_zero (given u) = given 0
or_zero (refused r) = refused r

-- a number, the closer's place
abbrev pub answer_in : AnswerWords → Answer ℕ
answer_in w = given_or_refused w.refusal none w.count

abbrev pub closer_in : PartedWords → Answer ℕ
closer_in w = given_or_refused w.refusal none w.closer

-- in the text where `output` is 0
abbrev pub held_in : (output start end : ℕ) → Held
held_in o a e = cond (eqb o 0) (in_text a e) (in_output a e)

abbrev pub value_in : ValuedWords → Answer Held
value_in w = given_or_refused w.refusal none (held_in w.output w.start w.end)

-- the canonical form of each: an answer is said where there is no refusal
abbrev pub canonical_answer : AnswerWords → AnswerWords
canonical_answer w = record {
  refusal = canonical_refusal w.refusal;
  count = if_clear w.refusal.refused w.count;
}

-- how many parts were put is told where it is refused too
abbrev pub canonical_parted : PartedWords → PartedWords
canonical_parted w = record {
  refusal = canonical_refusal w.refusal;
  closer = if_clear w.refusal.refused w.closer;
  parts = w.parts;
}

abbrev pub canonical_valued : ValuedWords → ValuedWords
canonical_valued w = record {
  refusal = canonical_refusal w.refusal;
  output = if_clear w.refusal.refused (if_set w.output 1);
  start = if_clear w.refusal.refused w.start;
  end = if_clear w.refusal.refused w.end;
  parts = w.parts;
}

-- words in that form with this answer
pub record AnswerAs (answer : Answer ℕ) (w : AnswerWords) : Type 0 where
  pub answered : answer_in w ≡ answer
  pub canonical : w ≡ canonical_answer w

-- and with this number of parts
pub record PartedAs (answer : Answer ℕ) (parts : ℕ) (w : PartedWords) : Type 0 where
  pub answered : closer_in w ≡ answer
  pub counted : w.parts ≡ parts
  pub canonical : w ≡ canonical_parted w

pub record ValuedAs (answer : Answer Held) (parts : ℕ) (w : ValuedWords) : Type 0 where
  pub answered : value_in w ≡ answer
  pub counted : w.parts ≡ parts
  pub canonical : w ≡ canonical_valued w
