-- The UTF-8 check, results of lexing and the tally as words for C.
use Rattle.std.specs.Prelude.{ℕ, ◌-◌, ◌^◌, ◌≡◌}
use Rattle.std.proofs.Math.Option.{Option, none, some}
use Rattle.rules.specs.Lexing.{Lexed as LexedRule}
use Rattle.rules.specs.Tally.{Tally}
use Rattle.lexer.specs.Results.{lexed_meant}
use Rattle.tidy.specs.declared.Tidied.{Tidied}
use Rattle.tally.specs.Meaning.{tally_meant}
use Rattle.tally.specs.declared.Counted.{Counted}
use Rattle.words.specs.Refusals.{note_in, given_or_refused, canonical_refusal, note_if_set}
use Rattle.words.specs.declared.lexing.LexedWords.{LexedWords}
use Rattle.words.specs.declared.lexing.TidiedWords.{TidiedWords}
use Rattle.words.specs.declared.lexing.CountedWords.{CountedWords}

-- an offset, or all ones where there is none
abbrev pub offset_or_all : Option ℕ → ℕ
offset_or_all none = 2 ^ 64 - 1
offset_or_all (some at) = at

-- a result of lexing
abbrev pub lexed_in : LexedWords → LexedRule
lexed_in w = record {
  verdict = given_or_refused w.refusal (note_in w.note) tt;
  lexemes = w.lexemes;
  steps = w.steps;
  kept = w.kept;
  dropped = w.dropped;
  deepest = w.deepest;
}

-- its canonical form; its counts are always said
abbrev pub canonical_lexed : LexedWords → LexedWords
canonical_lexed w = record {
  refusal = canonical_refusal w.refusal;
  note = note_if_set w.refusal.refused w.note;
  lexemes = w.lexemes;
  steps = w.steps;
  kept = w.kept;
  dropped = w.dropped;
  deepest = w.deepest;
}

abbrev pub tally_by : (accepted refused steps : ℕ) → Tally
tally_by a r n = record { accepted = a; refused = r; steps = n }

abbrev pub tally_in : CountedWords → Tally
tally_in w = tally_by w.accepted w.refused w.steps

-- words in that form with this result
pub record LexedAs (r : LexedRule) (w : LexedWords) : Type 0 where
  pub meaning : lexed_in w ≡ r
  pub canonical : w ≡ canonical_lexed w

pub record TidiedAs (r : Tidied) (w : TidiedWords) : Type 0 where
  pub lexed : LexedAs (lexed_meant r.lexed) w.lexed
  pub written : w.written ≡ r.written

pub record CountedAs (r : Counted) (w : CountedWords) : Type 0 where
  pub lexed : LexedAs (lexed_meant r.lexed) w.lexed
  pub tally : tally_in w ≡ tally_meant r.tally
