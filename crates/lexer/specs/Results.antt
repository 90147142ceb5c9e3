-- What the code's result means, and the contracts of the loop's parts.
use Rattle.std.specs.Prelude.{ℕ, ◌+◌, ◌-◌, ◌≤◌, ◌<◌, ◌^◌, List, Result, Ok, Err}
use Rattle.rules.specs.Spans.{span}
use Rattle.rules.specs.Answers.{Verdict, refused}
use Rattle.rules.specs.Lent.{Lexeme}
use Rattle.rules.specs.Lexing.{Lexed as LexedRule}
use Rattle.source.specs.Meaning.{verdict_meant}
use Rattle.source.specs.declared.Refusal.{Refusal}
use Rattle.lexer.specs.declared.Cursor.{Cursor}
use Rattle.sublexers.specs.declared.Fault.{Fault}
use Rattle.lexer.specs.declared.Lexed.{Lexed}
use Rattle.lexer.specs.declared.Ran.{Ran}
use Rattle.sublexers.specs.declared.Match.{Match}
use Rattle.lexer.specs.Memory.{refusal_by, end_by}

abbrev pub lexed_meant : Lexed → LexedRule
lexed_meant r = record {
  verdict = verdict_meant r.answer;
  lexemes = r.lexemes;
  steps = r.steps;
  kept = r.kept;
  dropped = r.dropped;
  deepest = r.deepest;
}

-- a result with the counts of a cursor
abbrev pub lexed_at : Result (Unit {0}) Refusal → Cursor → Lexed
lexed_at a c = record {
  answer = a;
  lexemes = c.lexemes;
  steps = c.lexemes + c.spaces;
  kept = c.at - c.dropped;
  dropped = c.dropped;
  deepest = c.deepest;
}

abbrev pub counted_at : Verdict → Cursor → LexedRule
counted_at v c = record {
  verdict = v;
  lexemes = c.lexemes;
  steps = c.lexemes + c.spaces;
  kept = c.at - c.dropped;
  dropped = c.dropped;
  deepest = c.deepest;
}

abbrev pub refused_with : (doc : ℕ) → Fault → Cursor → List Lexeme → LexedRule
refused_with doc f c openers = counted_at (refused (refusal_by doc f openers)) c

-- the result at the text's end
abbrev pub verdict_at : (doc : ℕ) → Cursor → List Lexeme → LexedRule
verdict_at doc c openers = counted_at (end_by (span doc c.at c.at) openers) c

-- where a step was refused
abbrev pub refused_by : Result Match Fault → Cursor → Ran
refused_by (Err f) c = record { cursor = c; end = Err f }
refused_by (Ok m) c = record { cursor = c; end = Ok m.token }

-- no count can overflow; no more is open than the deepest
pub record CanAdvance (c : Cursor) (end : ℕ) : Type 0 where
  pub forward : c.at ≤ end
  pub small : end < 2 ^ 48
  pub steps : c.lexemes + c.spaces < 2 ^ 48
  pub dropped : c.dropped < 2 ^ 48
  pub depth : c.depth ≤ c.deepest
  pub shallow : c.depth < 2 ^ 63

-- the counts that follow from a cursor can be told
pub record CanReport (c : Cursor) : Type 0 where
  pub steps : c.lexemes + c.spaces ≤ c.at
  pub dropped : c.dropped ≤ c.at

pub record CanStop (f : Fault) (c : Cursor) : Type 0 where
  pub start : f.start < 2 ^ 48
  pub end : f.end < 2 ^ 48
  pub counts : CanReport c

pub record CanFinish (c : Cursor) : Type 0 where
  pub at : c.at < 2 ^ 48
  pub counts : CanReport c
