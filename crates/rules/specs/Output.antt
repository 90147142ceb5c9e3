-- Writing to a lent output: "a piece is written whole or not".
use Rattle.std.specs.Prelude.{ℕ, ◌+◌, min, List, [], ◌∷◌, ◌++◌, cond, leb, take, drop, length}
use Rattle.rules.specs.Refusals.{OutputFull}
use Rattle.rules.specs.Spans.{Span, nowhere, limit}
use Rattle.rules.specs.Answers.{Verdict, accepted, refuse}

-- "An output ends at 2^48 − 1 bytes at most"
abbrev pub end_of : List ℕ → ℕ
end_of out = min (length out) limit

-- bytes that are written whole or not, and the span of refusal 46 if not
pub record Piece : Type 0 where
  pub bytes : List ℕ
  pub at : Span

abbrev pub piece : List ℕ → Span → Piece
piece w s = record { bytes = w; at = s }

pub record Written : Type 0 where
  pub bytes : List ℕ
  pub verdict : Verdict

-- one after another, from a position, in an output with this end: "a position past its end gives 46", also where there is nothing to write
unfoldable pub written : (end at : ℕ) → List Piece → Written
written end at [] = record { bytes = []; verdict = cond (leb at end) accepted (refuse OutputFull nowhere) }
written end at (c ∷ cs) =
    let next = at + length c.bytes in
    let more = written end next cs in
    cond (leb next end)
    (record { bytes = c.bytes ++ more.bytes; verdict = more.verdict })
    (record { bytes = []; verdict = refuse OutputFull c.at })

-- the output with these bytes at a position, every other place untouched
abbrev pub overwritten : List ℕ → (at : ℕ) → List ℕ → List ℕ
overwritten out at w = take at out ++ (w ++ drop (at + length w) out)
