-- Answers that are the same but for the spans of refusals, and what is written where the pieces have the same bytes and other spans.
use Prim.Native.Nat.{ℕ, ◌+◌}
use mathlib.Core.Path.{◌≡◌, refl, ap}
use mathlib.Core.List.{List, [], ◌∷◌, ◌++◌}
use mathlib.Core.Bool.{Bool, true, false, cond}
use lib.Dec.{leb}
use lib.ListN.{length}
use Rattle.rules.specs.Answers.{Refusal, Answer, given, refused, Verdict, verdict_on, and_then}
use Rattle.rules.specs.Output.{Piece, Written, written}
use Rattle.laws.specs.Demand3.{number_of}

-- the same is given, or both are refused with the same number
pub data SameButSpans {A : Type 0} : Answer A → Answer A → Type 0 where
  both-given : (x : A) → SameButSpans (given x) (given x)
  both-refused : {r q : Refusal} → q.number ≡ r.number → SameButSpans (refused r) (refused q)

-- answers that agree have the same number, or none
pub agree-number : {A : Type 0} {a b : Answer A} → SameButSpans a b → number_of b ≡ number_of a
agree-number (both-given x) = refl
agree-number (both-refused e) = rw e

-- they agree in both branches
pub agree-cond : {A : Type 0} (b : Bool) {t u v w : Answer A} → SameButSpans t u → SameButSpans v w → SameButSpans (cond b t v) (cond b u w)
agree-cond true f g = f
agree-cond false f g = g

-- one after the other
pub agree_then : {A : Type 0} {v w : Verdict} {a b : Answer A} → SameButSpans v w → SameButSpans a b → SameButSpans (and_then v a) (and_then w b)
agree_then (both-given u) g = g
agree_then (both-refused e) g = both-refused e

-- as verdicts
pub agree-verdict : {A : Type 0} {a b : Answer A} → SameButSpans a b → SameButSpans (verdict_on a) (verdict_on b)
agree-verdict (both-given x) = both-given tt
agree-verdict (both-refused e) = both-refused e

-- pieces with the same bytes
pub data SamePieces : List Piece → List Piece → Type 0 where
  no_pieces : SamePieces [] []
  piece-more : {c d : Piece} {cs ds : List Piece} → d.bytes ≡ c.bytes → SamePieces cs ds → SamePieces (c ∷ cs) (d ∷ ds)

-- the same bytes written, and verdicts that agree
pub record SameWritten (w v : Written) : Type 0 where
  pub bytes : v.bytes ≡ w.bytes
  pub verdicts : SameButSpans w.verdict v.verdict

written-cond : (b : Bool) {t u v w : Written} → SameWritten t u → SameWritten v w → SameWritten (cond b t v) (cond b u w)
written-cond true f g = f
written-cond false f g = g

-- what is written of pieces with the same bytes
pub written_same : (end at : ℕ) {cs ds : List Piece} → SamePieces cs ds → SameWritten (written end at cs) (written end at ds)
unfolding written
written_same end at no_pieces = record { bytes = refl; verdicts = agree-cond (leb at end) (both-given tt) (both-refused refl) }
written_same end at (piece-more {c} {d} e more) =
    let rest = written_same end (at + length c.bytes) more in
    rw e
    (written-cond (leb (at + length c.bytes) end)
    (record { bytes = ap (λ (r : List ℕ). c.bytes ++ r) rest.bytes; verdicts = rest.verdicts })
    (record { bytes = refl; verdicts = both-refused refl }))
