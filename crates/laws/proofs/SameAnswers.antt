-- Two accepted texts with the same lexemes cannot be told apart by lexing, by the tidy writer or by the value of any string.
use Prim.Native.Nat.{ℕ, ◌≤◌}
use mathlib.Core.Path.{◌≡◌, sym, ◌∙◌}
use mathlib.Core.Bool.{true}
use mathlib.Core.List.{List}
use lib.ListN.{drop, length}
use Rattle.rules.specs.Lent.{Lexeme, Arrays, array_places, holding, Lent, places_in}
use Rattle.rules.specs.Lexing.{ended, accepts, trace, trace_in, lexemes_of, joined, listing}
use Rattle.rules.specs.Parts.{parts_in}
use Rattle.rules.specs.Value.{value_call}
use Rattle.rules.proofs.Listed.{AllWords, lexemes-from-holding}
use Rattle.laws.specs.Demand3.{SameLexing, SameTidying, SameValue, SameAnswers, value_on}
use Rattle.rules.proofs.SpacesAside.{limited-same, limited-same-end}
use Rattle.rules.proofs.Listing.{ShowsAll, listing-shows, listing-room, shown-kinds, shown-bytes, shown-words, accepted-ended, accepted-short}
use Rattle.laws.proofs.SameButSpans.{agree-number}
use Rattle.laws.proofs.Tidying.{lexing-verdict-same, tidying-same}
use Rattle.laws.proofs.SameParts.{EachSame, shown-like, like-drop, like-length, like-array, parts_same}
use Rattle.laws.proofs.Values.{answer-number, answer-held, handed-number, handed-bytes, value_same}

-- two texts that are accepted, with the same kinds and bytes of lexemes
pub record SameLexemes (text text' : List ℕ) : Type 0 where
  pub first : accepts text ≡ true
  pub second : accepts text' ≡ true
  pub whole : joined (trace text).taken ≡ text
  pub whole' : joined (trace text').taken ≡ text'
  pub lexemes : lexemes_of (trace text').taken ≡ lexemes_of (trace text).taken

-- in the same memory the two texts have the same listed lexemes
same-listed : (text text' : List ℕ) → SameLexemes text text' → (places stack : ℕ) → lexemes_of (trace_in places stack text').taken ≡ lexemes_of (trace_in places stack text).taken
unfolding trace_in
same-listed text text' s places stack =
    rw (accepted-ended text s.first, accepted-ended text' s.second) (limited-same stack 0 places (trace text).taken (trace text').taken ended s.lexemes)

-- and come to the same end
same_end : (text text' : List ℕ) → SameLexemes text text' → (places stack : ℕ) → (trace_in places stack text').end ≡ (trace_in places stack text).end
unfolding trace_in
same_end text text' s places stack =
    rw (accepted-ended text s.first, accepted-ended text' s.second) (limited-same-end stack 0 places (trace text).taken (trace text').taken ended s.lexemes)

-- the list of the first shows the first's lexemes
shows_first : (text text' : List ℕ) → SameLexemes text text' → (doc places stack : ℕ) → ShowsAll text doc (listing doc places stack text) (lexemes_of (trace_in places stack text).taken)
shows_first text text' s doc places stack = listing-shows text doc places stack (accepted-short text s.first) s.whole

-- the list of the second shows them too
shows_second : (text text' : List ℕ) → SameLexemes text text' → (doc' places stack : ℕ) → ShowsAll text' doc' (listing doc' places stack text') (lexemes_of (trace_in places stack text).taken)
shows_second text text' s doc' places stack =
    rw (same-listed text text' s places stack) at (listing-shows text' doc' places stack (accepted-short text' s.second) s.whole')

pub same-lexing : (text text' : List ℕ) → SameLexemes text text' → (doc doc' places stack : ℕ) → SameLexing doc doc' places stack text text'
same-lexing text text' s doc doc' places stack =
    let shows = shows_first text text' s doc places stack in
    let shows' = shows_second text text' s doc' places stack in
    record {
      kinds = shown-kinds shows' ∙ sym (shown-kinds shows);
      bytes = shown-bytes shows' ∙ sym (shown-bytes shows);
      number = agree-number (lexing-verdict-same text text' doc doc' places stack (same_end text text' s places stack));
    }

pub same-tidying : (text text' : List ℕ) → SameLexemes text text' → (doc doc' places stack : ℕ) (out : List ℕ) → SameTidying doc doc' places stack text text' out
same-tidying text text' s doc doc' places stack out =
    tidying-same text text' doc doc' places stack out (shows_first text text' s doc places stack) (shows_second text text' s doc' places stack) (same-listed text text' s places stack) (same_end text text' s places stack)

-- the value call on two lists that show the same lexemes
call_same : {text text' : List ℕ} {doc doc' : ℕ} {ls ls' : List Lexeme} (list : Arrays) (place : ℕ) (parts : Arrays) (out : List ℕ) (at : ℕ) → EachSame text text' doc doc' ls ls' →
    length ls ≤ array_places list → length ls' ≤ array_places list → AllWords ls → AllWords ls' →
    SameValue text text' (value_call text (holding ls list) (length ls) place parts out at) (value_call text' (holding ls' list) (length ls') place parts out at)
unfolding value_call
call_same {text} {text'} {doc} {doc'} {ls} {ls'} list place parts out at a room room' words words' =
    let from : EachSame text text' doc doc' (drop place ls) (drop place ls') = like-drop place a in
    let same = parts_same from (array_places parts) place in
    let value = value_same (parts_in (array_places parts) place (drop place ls)) (parts_in (array_places parts) place (drop place ls')) out at from same in
    rw (lexemes-from-holding ls list place room words, lexemes-from-holding ls' list place room' words')
    (record {
      number = answer-number value.answers;
      held = answer-held value.answers;
      output = value.output;
      parts = like-length same.found;
      kinds = like-array parts.kinds same.found;
      handed_number = rw value.output (handed-number _ value.answers);
      handed_bytes = rw value.output (handed-bytes _ value.answers);
    })

pub same-value : (text text' : List ℕ) → SameLexemes text text' → (doc doc' stack : ℕ) (list : Lent) (place : ℕ) (parts : Arrays) (out : List ℕ) (at : ℕ) →
    SameValue text text' (value_on doc stack text list place parts out at) (value_on doc' stack text' list place parts out at)
same-value text text' s doc doc' stack list place parts out at =
    let places = places_in list in
    let shows = shows_first text text' s doc places stack in
    let shows' = shows_second text text' s doc' places stack in
    call_same list.arrays place parts out at (shown-like shows shows')
    (listing-room text doc list stack) (listing-room text' doc' list stack) (shown-words shows) (shown-words shows')

pub same-answers : (text text' : List ℕ) → SameLexemes text text' → SameAnswers text text'
same-answers text text' s = record { lexing = same-lexing text text' s; tidying = same-tidying text text' s; values = same-value text text' s }
