-- The pieces of a listed text, as the writing loop meets them.
use Rattle.std.specs.Prelude.{ℕ, ◌≡◌, List, [], ◌∷◌, ◌++◌, length}
use Rattle.rules.specs.Answers.{Verdict}
use Rattle.rules.specs.Source.{resolved}
use Rattle.rules.specs.Kinds.{Blank}
use Rattle.rules.specs.Lent.{Lexeme}
use Rattle.rules.specs.Output.{Piece, piece, end_of, written, overwritten}
use Rattle.rules.specs.Tidy.{gap}
use Rattle.source.specs.Meaning.{part_of}

-- "A gap and the lexeme after it are one piece": after a lexeme of a kind
abbrev pub pieces_after : List ℕ → (first : ℕ) → List Lexeme → List Piece
pieces_after text k [] = []
pieces_after text k (l ∷ ls) = piece (gap k l.kind ++ part_of (resolved text l.at)) l.at ∷ pieces_after text l.kind ls

-- all of them, from the output's start
pub record WritesPieces (text : List ℕ) (ls : List Lexeme) (out : List ℕ) (verdict : Verdict) (n : ℕ) (out' : List ℕ) : Type 0 where
  pub answered : verdict ≡ (written (end_of out) 0 (pieces_after text Blank ls)).verdict
  pub bytes : n ≡ length (written (end_of out) 0 (pieces_after text Blank ls)).bytes
  pub output : out' ≡ overwritten out 0 (written (end_of out) 0 (pieces_after text Blank ls)).bytes
