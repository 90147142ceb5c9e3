-- The tidy writer writes the same for lists that show the same lexemes.
use Prim.Native.Nat.{ℕ}
use mathlib.Core.Path.{◌≡◌, refl, ap}
use mathlib.Core.List.{List, [], ◌∷◌}
use lib.ListN.{length}
use Rattle.rules.specs.Answers.{Verdict}
use Rattle.rules.specs.Lent.{Lexeme}
use Rattle.rules.specs.Lexing.{Taken, End, ended, stopped, trace_in, lexemes_of, listing, verdict_of, lexed_of, lexing}
use Rattle.rules.specs.Output.{end_of, Piece, overwritten}
use Rattle.rules.specs.Tidy.{spaced, pieces_of, pieces_unless_refused, tidying}
use Rattle.laws.specs.Demand3.{SameTidying}
use Rattle.rules.proofs.Listing.{ShowsAll, no_more, one_more}
use Rattle.laws.proofs.SameButSpans.{SameButSpans, both-given, both-refused, agree-number, agree_then, SamePieces, no_pieces, piece-more, written_same}

-- verdicts on steps that come to the same end
pub verdict-same : (doc doc' at at' : ℕ) (os os' : List Lexeme) (e : End) → SameButSpans (verdict_of doc at os e) (verdict_of doc' at' os' e)
unfolding verdict_of
verdict-same doc doc' at at' os os' ended = both-given tt
verdict-same doc doc' at at' os os' (stopped number from n) = both-refused refl

-- so of two lexing calls
pub lexing-verdict-same : (text text' : List ℕ) (doc doc' places stack : ℕ) → (trace_in places stack text').end ≡ (trace_in places stack text).end →
    SameButSpans (lexing doc places stack text).verdict (lexing doc' places stack text').verdict
unfolding lexing lexed_of
lexing-verdict-same text text' doc doc' places stack e = rw e (verdict-same doc doc' _ _ _ _ (trace_in places stack text).end)

-- the same pieces with the spans of two lists
pieces-same : {text text' : List ℕ} {doc doc' : ℕ} {ls ls' : List Lexeme} {ps : List Taken} (ws : List (List ℕ)) → ShowsAll text doc ls ps → ShowsAll text' doc' ls' ps →
    SamePieces (pieces_of ws ls) (pieces_of ws ls')
pieces-same [] a b = no_pieces
pieces-same (w ∷ ws) no_more no_more = no_pieces
pieces-same (w ∷ ws) (one_more h more) (one_more h' more') = piece-more refl (pieces-same ws more more')

-- nothing of them after a refusal
after_same : {v w : Verdict} {cs ds : List Piece} → SameButSpans v w → SamePieces cs ds → SamePieces (pieces_unless_refused v cs) (pieces_unless_refused w ds)
after_same (both-given u) h = h
after_same (both-refused e) h = no_pieces

-- the writer on two lists that show the same lexemes, whose steps come to the same end
pub tidying-same : (text text' : List ℕ) (doc doc' places stack : ℕ) (out : List ℕ) →
    ShowsAll text doc (listing doc places stack text) (lexemes_of (trace_in places stack text).taken) →
    ShowsAll text' doc' (listing doc' places stack text') (lexemes_of (trace_in places stack text).taken) →
    lexemes_of (trace_in places stack text').taken ≡ lexemes_of (trace_in places stack text).taken →
    (trace_in places stack text').end ≡ (trace_in places stack text).end →
    SameTidying doc doc' places stack text text' out
unfolding tidying listing lexing
tidying-same text text' doc doc' places stack out shows shows' lexemes end =
    let verdicts : SameButSpans (lexing doc places stack text).verdict (lexing doc' places stack text').verdict = lexing-verdict-same text text' doc doc' places stack end in
    let pieces : List (List ℕ) = spaced (lexemes_of (trace_in places stack text).taken) in
    let all = written_same (end_of out) 0 (after_same verdicts (pieces-same pieces shows shows')) in
    record {
      written = rw lexemes (ap length all.bytes);
      output = rw lexemes (ap (overwritten out 0) all.bytes);
      number = rw lexemes (agree-number (agree_then verdicts all.verdicts));
    }
