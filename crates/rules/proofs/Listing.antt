-- What is listed of a text shows its lexemes: the same kinds, and spans inside the text at which it has their bytes.
use Prim.Native.Nat.{ℕ, ◌+◌, ◌-◌, ◌≤◌}
use native.Mathlib.Omega.{arith}
use mathlib.Core.Path.{◌≡◌, refl, sym, ap, ◌∙◌}
use mathlib.Core.List.{List, [], ◌∷◌, ◌++◌, map, append_assoc}
use mathlib.Core.Bool.{true, false≢true}
use borrow.Author.Tests.{ltb-true, ltb-false}
use lib.Dec.{ltb}
use lib.ListN.{length, length-append}
use lib.Seq.{take_at, drop_at}
use Rattle.rules.specs.Refusals.{TooLong}
use Rattle.rules.specs.Spans.{Span, span, limit, bytes_from, bytes_at}
use Rattle.rules.specs.Kinds.{is_space}
use Rattle.rules.specs.Lent.{Lexeme, lexeme, array_places, Lent, places_in}
use Rattle.rules.specs.Lexing.{Taken, End, ended, stopped, ends, trace, accepts, meets_no_refusal, trace_in, lexemes_of, joined, placed, listed_of, listing}
use Rattle.rules.proofs.Text.{decide}
use Rattle.rules.proofs.Trace.{joined-append, listed_kept, trace-long}
use Rattle.rules.proofs.Listed.{AllWords}
use Rattle.rules.proofs.Front.{front-limited}
use Rattle.rules.proofs.SpacesAside.{limited-room}
use Rattle.rules.proofs.Lent.{places-arrays}

-- a span of a document that lies in the text and is not bad
pub record Inside (text : List ℕ) (doc : ℕ) (s : Span) : Type 0 where
  pub order : s.start ≤ s.end
  pub room : s.end ≤ length text
  pub small : s.end ≤ limit
  pub document : s.doc ≡ doc

-- a listed lexeme has the kind of a step, and its bytes
pub record Shows (text : List ℕ) (doc : ℕ) (l : Lexeme) (p : Taken) : Type 0 where
  pub kind : l.kind ≡ p.kind
  pub bytes : bytes_at text l.at ≡ p.bytes
  pub inside : Inside text doc l.at

-- one after another
pub data ShowsAll (text : List ℕ) (doc : ℕ) : List Lexeme → List Taken → Type 0 where
  no_more : ShowsAll text doc [] []
  one_more : {l : Lexeme} {p : Taken} {ls : List Lexeme} {ps : List Taken} → Shows text doc l p → ShowsAll text doc ls ps → ShowsAll text doc (l ∷ ls) (p ∷ ps)

-- the bytes of a text from where some bytes start to where they end are those
bytes-between : (text before w later : List ℕ) (at : ℕ) → length before ≡ at → before ++ (w ++ later) ≡ text → bytes_from text at (at + length w) ≡ w
bytes-between text before w later at here whole =
    let n : (at + length w) - at ≡ length w = omega arith in
    rw (← whole, drop_at before (w ++ later) at here, n) (take_at w later (length w) refl)

-- of steps whose bytes stand in a text from a position on
pub placed-shows : (text : List ℕ) (doc at : ℕ) (before : List ℕ) (ps : List Taken) (later : List ℕ) → length text ≤ limit → length before ≡ at → before ++ (joined ps ++ later) ≡ text →
    ShowsAll text doc (listed_of (placed doc at ps)) (lexemes_of ps)
placed-shows text doc at before [] later short here whole = no_more
placed-shows text doc at before (p ∷ ps) later short here whole =
    let next : ℕ = at + length p.bytes in
    let there : length (before ++ p.bytes) ≡ next = length-append before p.bytes ∙ ap (λ (n : ℕ). n + length p.bytes) here in
    let split : before ++ (p.bytes ++ (joined ps ++ later)) ≡ text = ap (λ (r : List ℕ). before ++ r) (sym (append_assoc p.bytes (joined ps) later)) ∙ whole in
    let more = placed-shows text doc next (before ++ p.bytes) ps later short there (append_assoc before p.bytes (joined ps ++ later) ∙ split) in
    let most : length text ≡ length before + (length p.bytes + length (joined ps ++ later)) =
    ap length (sym split) ∙ (length-append before _ ∙ ap (λ (n : ℕ). length before + n) (length-append p.bytes (joined ps ++ later))) in
    let first : Shows text doc (lexeme p.kind (span doc at next)) p =
    record {
      kind = refl;
      bytes = bytes-between text before p.bytes (joined ps ++ later) at here split;
      inside = record { order = omega arith; room = omega (arith, here, most); small = omega (arith, here, most, short); document = refl };
    } in
    decide (is_space p.kind) (λ s. rw s more) (λ s. rw s (one_more first more))

-- what a lexing call lists shows the lexemes among its steps
pub listing-shows : (text : List ℕ) (doc places stack : ℕ) → length text ≤ limit → joined (trace text).taken ≡ text → ShowsAll text doc (listing doc places stack text) (lexemes_of (trace_in places stack text).taken)
unfolding listing trace_in
listing-shows text doc places stack short whole =
    let front = front-limited stack 0 places (trace text).taken (trace text).end in
    let steps = (trace_in places stack text).taken in
    placed-shows text doc 0 [] steps (joined front.later) short refl (sym (joined-append steps front.later) ∙ (ap joined front.same ∙ whole))

-- and has room in the list
listing-most : (text : List ℕ) (doc places stack : ℕ) → length (listing doc places stack text) ≤ places
unfolding listing trace_in
listing-most text doc places stack = omega (arith, listed_kept doc 0 (trace_in places stack text).taken, limited-room stack 0 places (trace text).taken (trace text).end)

-- so what is listed stands in the arrays that are lent for it
pub listing-room : (text : List ℕ) (doc : ℕ) (list : Lent) (stack : ℕ) → length (listing doc (places_in list) stack text) ≤ array_places list.arrays
listing-room text doc list stack = omega (arith, listing-most text doc (places_in list) stack, places-arrays list)

-- What follows of such lists
-- the same kinds
pub shown-kinds : {text : List ℕ} {doc : ℕ} {ls : List Lexeme} {ps : List Taken} → ShowsAll text doc ls ps → map (λ l. l.kind) ls ≡ map (λ p. p.kind) ps
shown-kinds no_more = refl
shown-kinds (one_more h more) = rw (h.kind, shown-kinds more)

-- the same bytes
pub shown-bytes : {text : List ℕ} {doc : ℕ} {ls : List Lexeme} {ps : List Taken} → ShowsAll text doc ls ps → map (λ l. bytes_at text l.at) ls ≡ map (λ p. p.bytes) ps
shown-bytes no_more = refl
shown-bytes (one_more h more) = rw (h.bytes, shown-bytes more)

-- two words name each span
pub shown-words : {text : List ℕ} {doc : ℕ} {ls : List Lexeme} {ps : List Taken} → ShowsAll text doc ls ps → AllWords ls
shown-words no_more = tt
shown-words (one_more h more) = (omega (arith, h.inside.order, h.inside.small), omega (arith, h.inside.small), shown-words more)

-- Of an accepted text
-- its steps come to the text's end
pub accepted-ended : (text : List ℕ) → accepts text ≡ true → (trace text).end ≡ ended
accepted-ended text e = to_end (trace text).end e
  where
    to_end : (end : End) → meets_no_refusal end ≡ true → end ≡ ended
    to_end ended e = refl
    to_end (stopped number from n) e = absurd (false≢true e)

-- it is within the limit
pub accepted-short : (text : List ℕ) → accepts text ≡ true → length text ≤ limit
accepted-short text e = decide (ltb limit (length text))
    (λ long. let refused : trace text ≡ ends (stopped TooLong 0 0) = trace-long text (ltb-true limit (length text) long) in absurd (false≢true (rw refused at e)))
    (λ short. ltb-false limit (length text) short)
