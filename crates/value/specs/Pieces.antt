-- One piece of a value, and all of them, as the writing loop meets them.
use Rattle.std.specs.Prelude.{ℕ, ◌+◌, ◌≡◌, true, false, cond, List, leb, eqb, length}
use Rattle.rules.specs.Refusals.{OutputFull}
use Rattle.rules.specs.Answers.{Answer as AnswerRule, given, refused, refuse, Verdict as VerdictRule, accepted, first_refusal, and_then, unless_refused}
use Rattle.rules.specs.Kinds.{HoleOpen}
use Rattle.rules.specs.Lent.{Lexeme}
use Rattle.rules.specs.Output.{end_of, overwritten, written}
use Rattle.rules.specs.Indent.{part_verdict}
use Rattle.rules.specs.Value.{part_bytes, value_pieces, escape_verdict, value_written, indent_taken, Valued, Held as HeldRule}

-- nothing is to be said against a part, or against parts
pub record PartAccepted (text : List ℕ) (p : Lexeme) : Type 0 where
  pub inside : part_verdict text p ≡ accepted
  pub escape : escape_verdict text p ≡ accepted

pub record PartsAccepted (text : List ℕ) (ps : List Lexeme) : Type 0 where
  pub inside : first_refusal (part_verdict text) ps ≡ accepted
  pub escapes : first_refusal (escape_verdict text) ps ≡ accepted

-- a piece at a position, whole or not: where the next one begins, or the refusal, and the output after it; "Holes give no byte."
pub record PartWritten (text : List ℕ) (indent : ℕ) (p : Lexeme) (at : ℕ) (out : List ℕ) (r : AnswerRule ℕ) (out' : List ℕ) : Type 0 where
  pub hole : eqb p.kind HoleOpen ≡ true → (r ≡ given at) × (out' ≡ out)
  pub answered : eqb p.kind HoleOpen ≡ false →
      r ≡ cond (leb (at + length (part_bytes text indent p)) (end_of out)) (given (at + length (part_bytes text indent p))) (refuse OutputFull p.at)
  pub output : eqb p.kind HoleOpen ≡ false →
      out' ≡ cond (leb (at + length (part_bytes text indent p)) (end_of out)) (overwritten out at (part_bytes text indent p)) out

-- where writing came to, or the refusal
abbrev pub reached_from : (at length : ℕ) → VerdictRule → AnswerRule ℕ
reached_from at n (given u) = given (at + n)
reached_from at n (refused r) = refused r

-- all pieces
pub record AllWritten (text : List ℕ) (indent : ℕ) (ps : List Lexeme) (at : ℕ) (out : List ℕ) (r : AnswerRule ℕ) (out' : List ℕ) : Type 0 where
  pub answered : r ≡ reached_from at (length (written (end_of out) at (value_pieces text indent ps)).bytes) (written (end_of out) at (value_pieces text indent ps)).verdict
  pub output : out' ≡ overwritten out at (written (end_of out) at (value_pieces text indent ps)).bytes

-- the value of parts that nothing is said against
pub record WrittenValue (text : List ℕ) (indent : ℕ) (ps : List Lexeme) (at : ℕ) (out : List ℕ) (answer : AnswerRule HeldRule) (out' : List ℕ) : Type 0 where
  pub answered : answer ≡ (value_written text indent ps out at).answer
  pub output : out' ≡ (value_written text indent ps out at).output

-- the value of the parts of a string with this opener, or what is said against its indent or its escapes
abbrev pub listed_value : List ℕ → (quote : ℕ) → List Lexeme → (out : List ℕ) (at : ℕ) → Valued
listed_value text quote ps out at =
    unless_refused
    (and_then (first_refusal (part_verdict text) ps) (first_refusal (escape_verdict text) ps))
    (λ r. record { answer = refused r; output = out })
    (value_written text (indent_taken text quote ps) ps out at)

pub record ListedValue (text : List ℕ) (quote : ℕ) (ps : List Lexeme) (at : ℕ) (out : List ℕ) (answer : AnswerRule HeldRule) (out' : List ℕ) : Type 0 where
  pub answered : answer ≡ (listed_value text quote ps out at).answer
  pub output : out' ≡ (listed_value text quote ps out at).output
