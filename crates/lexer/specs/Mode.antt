-- Where a step begins, and what the innermost opener makes of it.
use Rattle.std.specs.Prelude.{ℕ, ◌<◌, ◌^◌, List, cond, length, Option}
use Rattle.rules.specs.Kinds.{is_quote_open, is_triple}
use Rattle.token.specs.declared.State.{State}
use Rattle.sublexers.specs.Outcome.{innermost_of}
use Rattle.sublexers.specs.Quotes.{stop_of}
use Rattle.lexer.specs.declared.Mode.{Mode}

-- a position in a text within the limit
pub record Here (at : ℕ) (t : List ℕ) : Type 0 where
  pub inside : at < length t
  pub small : length t < 2 ^ 48

-- the mode of an innermost opener
abbrev pub mode_of : Option State → Mode
mode_of top = record {
  stop = cond (is_quote_open (innermost_of top)) (stop_of (innermost_of top)) 0;
  triple = is_triple (innermost_of top);
  top = top;
}
