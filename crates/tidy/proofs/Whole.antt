-- Laws of a whole call: what is listed is read back, its pieces are those of the rule, and nothing is written after a refusal.
use Prim.Native.Nat.{ℕ}
use native.Mathlib.Omega.{arith}
use mathlib.Core.Path.{◌≡◌, refl, sym, ap, ◌∙◌}
use mathlib.Core.List.{List, [], ◌∷◌, ◌++◌}
use lib.Dec.{ltb}
use lib.ListN.{length, take}
use borrow.Author.Tests.{le-leb, le-ltb, ltb-true, ltb-false}
use Rattle.rules.specs.Spans.{Span, limit, bytes_at}
use Rattle.rules.specs.Answers.{refused, Refusal, Verdict, accepted}
use Rattle.rules.specs.Source.{resolved}
use Rattle.rules.specs.Kinds.{Blank}
use Rattle.rules.specs.Lent.{Lexeme, contents, Lent, places_in, filled}
use Rattle.rules.specs.Lexing.{Taken, limited, trace_in, lexemes_of, Lexed, lexed_of, lexing, listing, Lexes}
use Rattle.rules.specs.Output.{end_of, piece, Piece, written, overwritten}
use Rattle.rules.specs.Tidy.{gap, spaced, spaced_after, pieces_of, tidying, Tidies}
use Rattle.rules.proofs.Text.{decide}
use Rattle.rules.proofs.Trace.{listed_kept, trace-long}
use Rattle.rules.proofs.Listed.{contents-holding}
use Rattle.source.specs.Meaning.{part_of}
use Rattle.rules.proofs.Listing.{Inside, ShowsAll, no_more, one_more, placed-shows, listing-room, shown-words}
use Rattle.rules.proofs.Front.{Begins, begins-in}
use Rattle.output.proofs.Overwritten.{overwritten-nothing, written-nothing}
use Rattle.tidy.specs.Pieces.{pieces_after, WritesPieces}

-- a span inside a text names the bytes there
inside-bytes : (text : List ℕ) (doc : ℕ) (s : Span) → Inside text doc s → part_of (resolved text s) ≡ bytes_at text s
unfolding resolved
inside-bytes text doc s h = rw (le-ltb s.end s.start h.order, le-ltb limit s.end h.small, le-leb s.end (length text) h.room) refl

-- the pieces of a list that shows some lexemes are theirs, after a lexeme of a kind
pub shown-after : {text : List ℕ} {doc : ℕ} {ls : List Lexeme} {ps : List Taken} (k : ℕ) → ShowsAll text doc ls ps → pieces_after text k ls ≡ pieces_of (spaced_after k ps) ls
shown-after k no_more = refl
shown-after {text} {doc} k (one_more {l} {p} h more) =
    rw (inside-bytes text doc l.at h.inside, h.bytes, h.kind) (ap (λ (cs : List Piece). piece (gap k p.kind ++ p.bytes) l.at ∷ cs) (shown-after p.kind more))

-- and from the first on
pub shown-first : {text : List ℕ} {doc : ℕ} {ls : List Lexeme} {ps : List Taken} → ShowsAll text doc ls ps → pieces_after text Blank ls ≡ pieces_of (spaced ps) ls
unfolding gap
shown-first no_more = refl
shown-first {text} {doc} (one_more {l} {p} h more) =
    rw (inside-bytes text doc l.at h.inside, h.bytes, h.kind) (ap (λ (cs : List Piece). piece p.bytes l.at ∷ cs) (shown-after p.kind more))

-- what is listed of any text shows the lexemes among its steps
pub listing-shows-all : (text : List ℕ) (doc places stack : ℕ) → ShowsAll text doc (listing doc places stack text) (lexemes_of (trace_in places stack text).taken)
unfolding listing trace_in limited
listing-shows-all text doc places stack = decide (ltb limit (length text))
    (λ long. rw (trace-long text (ltb-true limit (length text) long)) no_more)
    (λ short.
    let front : Begins _ text = begins-in places stack text in
    placed-shows text doc 0 [] (trace_in places stack text).taken front.rest (ltb-false limit (length text) short) refl front.whole)

-- they are as many as are counted
counted : (text : List ℕ) (doc places stack : ℕ) → (lexing doc places stack text).lexemes ≡ length (listing doc places stack text)
unfolding listing lexing lexed_of
counted text doc places stack = sym (listed_kept doc 0 (trace_in places stack text).taken)

-- the lexemes that a lexing call lists are read back from the arrays
pub listing-back : (text : List ℕ) (doc stack : ℕ) (list : Lent) → let ls = listing doc (places_in list) stack text in take (lexing doc (places_in list) stack text).lexemes (contents (filled ls list).arrays) ≡ ls
listing-back text doc stack list =
    let ls : List Lexeme = listing doc (places_in list) stack text in
    rw (counted text doc (places_in list) stack) (contents-holding ls list.arrays (listing-room text doc list stack) (shown-words (listing-shows-all text doc (places_in list) stack)))

-- a result with another verdict
abbrev pub answered_with : Verdict → Lexed → Lexed
answered_with v r = record { verdict = v; lexemes = r.lexemes; steps = r.steps; kept = r.kept; dropped = r.dropped; deepest = r.deepest }

-- the rule for a call whose lexing is refused
tidying-refused : (doc places stack : ℕ) (text out : List ℕ) (f : Refusal) → (lexing doc places stack text).verdict ≡ refused f
    → tidying doc places stack text out ≡ record { lexed = lexing doc places stack text; written = 0; output = out }
unfolding tidying lexing
tidying-refused doc places stack text out f e =
    rw (e, written-nothing (end_of out) 0 (omega arith), overwritten-nothing out 0) refl

-- the rule for a call whose lexing is accepted
tidying-accepted : (doc places stack : ℕ) (text out : List ℕ) → (lexing doc places stack text).verdict ≡ accepted → let w = written (end_of out) 0 (pieces_after text Blank (listing doc places stack text)) in
    tidying doc places stack text out ≡ record { lexed = answered_with w.verdict (lexing doc places stack text); written = length w.bytes; output = overwritten out 0 w.bytes }
unfolding tidying lexing listing
tidying-accepted doc places stack text out e = rw (e, shown-first (listing-shows-all text doc places stack)) refl

-- a call whose lexing is refused writes nothing
pub tidies-refused : {doc : ℕ} {text : List ℕ} {list stack : Lent} {r : Lexed} {list' stack' : Lent} (out : List ℕ) (f : Refusal) → Lexes doc text list stack r list' stack' → r.verdict ≡ refused f
    → Tidies doc text list stack out r 0 list' stack' out
tidies-refused {doc} {text} {list} {stack} {r} {list'} {stack'} out f h e =
    let places = places_in list in
    let depth = places_in stack in
    let nothing = tidying-refused doc places depth text out f (ap (λ (x : Lexed). x.verdict) (sym h.result) ∙ e) in
    record { lexes = rw h.result at h; result = h.result ∙ rw nothing refl; written = rw nothing refl; output = rw nothing refl }

-- a call whose lexing is accepted writes the pieces of what was listed
pub tidies-written : {doc : ℕ} {text : List ℕ} {list stack : Lent} {r : Lexed} {list' stack' : Lent} {out out' : List ℕ} (v : Verdict) (n : ℕ) → Lexes doc text list stack r list' stack' → r.verdict ≡ accepted
    → WritesPieces text (take r.lexemes (contents list'.arrays)) out v n out' → Tidies doc text list stack out (answered_with v r) n list' stack' out'
tidies-written {doc} {text} {list} {stack} {r} {list'} {stack'} {out} {out'} v n h e w =
    let places = places_in list in
    let depth = places_in stack in
    let ls : List Lexeme = listing doc places depth text in
    let back : take r.lexemes (contents list'.arrays) ≡ ls = rw (h.result, h.listed) (listing-back text doc depth list) in
    let all : WritesPieces text ls out v n out' = rw back at w in
    let rule = tidying-accepted doc places depth text out (ap (λ (x : Lexed). x.verdict) (sym h.result) ∙ e) in
    record { lexes = rw h.result at h; result = rw (rule, h.result, all.answered) refl; written = rw rule all.bytes; output = rw rule all.output }
