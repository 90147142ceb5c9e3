-- Demand 3 at the calls: over the relations that the contracts of `lex`, the tidy writer, the value call and handing back name (`Lexes`, `Tidies`, `Values`, and of handing back `ChecksPart` and `HandsBack`). Any results that meet them are spoken of, so nobody has to put contract and law together.
use Rattle.std.specs.Prelude.{ℕ, ◌+◌, ◌*◌, ◌≤◌, ◌≡◌, false, List, map, length, take}
use Rattle.rules.specs.Spans.{limit, bytes_at}
use Rattle.rules.specs.Answers.{Answer, given, Verdict, accepted}
use Rattle.rules.specs.Lent.{Lexeme, Arrays, contents, Lent, places_in}
use Rattle.rules.specs.Lexing.{trace_in, spaces_of, joined, Lexed, listing, Lexes}
use Rattle.rules.specs.Value.{Held, Values, ChecksPart, HandsBack}
use Rattle.rules.specs.Tidy.{respaced, Tidies}
use Rattle.laws.specs.Demand3.{number_of, is_memory_refusal, is_short, held_by}

-- Calls that were made: what they were lent, and any answer and any memory after them that meet their contract. The document id is the caller's, whatever it is.
pub record LexingCall (text : List ℕ) (list stack : Lent) : Type 0 where
  pub doc : ℕ
  pub result : Lexed
  pub list' : Lent
  pub stack' : Lent
  pub meets : Lexes doc text list stack result list' stack'

pub record TidyingCall (text : List ℕ) (list stack : Lent) (out : List ℕ) : Type 0 where
  pub doc : ℕ
  pub result : Lexed
  pub written : ℕ
  pub list' : Lent
  pub stack' : Lent
  pub out' : List ℕ
  pub meets : Tidies doc text list stack out result written list' stack' out'

-- the value of the string at a place of a list with so many lexemes, with a parts list, and an output from a position on
pub record ValuingCall (text : List ℕ) (list : Arrays) (count place : ℕ) (parts : Arrays) (out : List ℕ) (at : ℕ) : Type 0 where
  pub answer : Answer Held
  pub listed : ℕ
  pub parts' : Arrays
  pub out' : List ℕ
  pub meets : Values text list count place parts out at answer listed parts' out'

-- the check of a part, and the part handed back
pub record HandingCall (text out : List ℕ) (part : Held) : Type 0 where
  pub verdict : Verdict
  pub bytes : List ℕ
  pub checks : ChecksPart text out part verdict
  pub hands : HandsBack text out part bytes

-- the lexemes that a call listed, and the bytes of each
abbrev pub listed_by : {text : List ℕ} {list stack : Lent} → LexingCall text list stack → List Lexeme
listed_by c = take c.result.lexemes (contents c.list'.arrays)

abbrev pub bytes_listed : {text : List ℕ} {list stack : Lent} → LexingCall text list stack → List (List ℕ)
bytes_listed {text} c = map (λ l. bytes_at text l.at) (listed_by c)

-- a lexing call with memory enough, on an accepted text, and its result
pub record Accounted (text : List ℕ) (list stack : Lent) (r : Lexed) : Type 0 where
  pub accepts : r.verdict ≡ accepted
  pub whole : joined (trace_in (places_in list) (places_in stack) text).taken ≡ text
  pub bytes : length text ≡ r.kept + r.dropped
  pub steps : r.steps ≡ r.lexemes + length (spaces_of (trace_in (places_in list) (places_in stack) text).taken)
  pub steps_bytes : r.steps ≤ length text
  pub steps_lexemes : r.steps ≤ 2 * r.lexemes + 1
  pub deepest : 2 * r.deepest ≤ r.lexemes

-- any lexing call on a text that the rules accept
pub record OneCall {text : List ℕ} {list stack : Lent} (c : LexingCall text list stack) : Type 0 where
  pub exactly : is_memory_refusal c.result.verdict ≡ is_short text (places_in list) (places_in stack)
  pub ample : is_short text (places_in list) (places_in stack) ≡ false → Accounted text list stack c.result
  pub listed : listed_by c ≡ listing c.doc (places_in list) (places_in stack) text

-- two lexing calls with equal lent memory: the same kinds, bytes of lexemes, or refusal number
pub record SameLists {text text₂ : List ℕ} {list stack : Lent} (c : LexingCall text list stack) (c₂ : LexingCall text₂ list stack) : Type 0 where
  pub number : number_of c₂.result.verdict ≡ number_of c.result.verdict
  pub lexemes : c₂.result.lexemes ≡ c.result.lexemes
  pub kinds : c₂.list'.arrays.kinds ≡ c.list'.arrays.kinds
  pub bytes : bytes_listed c₂ ≡ bytes_listed c

-- two calls of the tidy writer
pub record SameTidied {text text₂ : List ℕ} {list stack : Lent} {out : List ℕ} (c : TidyingCall text list stack out) (c₂ : TidyingCall text₂ list stack out) : Type 0 where
  pub number : number_of c₂.result.verdict ≡ number_of c.result.verdict
  pub written : c₂.written ≡ c.written
  pub output : c₂.out' ≡ c.out'

-- the value of the string at a place, read from the list that lexing its text left
abbrev pub ValueAfter : {text : List ℕ} {list stack : Lent} → LexingCall text list stack → (place : ℕ) (parts : Arrays) (out : List ℕ) (at : ℕ) → Type 0
ValueAfter {text} c place parts out at = ValuingCall text c.list'.arrays c.result.lexemes place parts out at

-- two value calls: what they answer, the parts and the output after them
pub record SameValues {text text₂ : List ℕ} {list list₂ : Arrays} {count count₂ place : ℕ} {parts : Arrays} {out : List ℕ} {at : ℕ} (v : ValuingCall text list count place parts out at) (v₂ : ValuingCall text₂ list₂ count₂ place parts out at) : Type 0 where
  pub number : number_of v₂.answer ≡ number_of v.answer
  pub held : held_by v₂.answer ≡ held_by v.answer
  pub listed : v₂.listed ≡ v.listed
  pub kinds : v₂.parts'.kinds ≡ v.parts'.kinds
  pub output : v₂.out' ≡ v.out'

-- two parts handed back
pub record SameHanded {text text₂ out out₂ : List ℕ} {part part₂ : Held} (h : HandingCall text out part) (h₂ : HandingCall text₂ out₂ part₂) : Type 0 where
  pub number : number_of h₂.verdict ≡ number_of h.verdict
  pub bytes : h₂.bytes ≡ h.bytes

-- two texts whose calls cannot be told apart, given the same list, stack, parts list, output and position
pub record SameCalls (text text₂ : List ℕ) : Type 0 where
  pub lexing : {list stack : Lent} (c : LexingCall text list stack) (c₂ : LexingCall text₂ list stack) → SameLists c c₂
  pub tidying : {list stack : Lent} {out : List ℕ} (c : TidyingCall text list stack out) (c₂ : TidyingCall text₂ list stack out) → SameTidied c c₂
  -- each reads the list that lexing its text left
  pub values : {list stack : Lent} (c : LexingCall text list stack) (c₂ : LexingCall text₂ list stack) {place : ℕ} {parts : Arrays} {out : List ℕ} {at : ℕ}
      (v : ValueAfter c place parts out at) (v₂ : ValueAfter c₂ place parts out at) → SameValues v v₂
  -- and what it answers is handed back from the text and the output after it
  pub handing : {list stack : Lent} (c : LexingCall text list stack) (c₂ : LexingCall text₂ list stack) {place : ℕ} {parts : Arrays} {out : List ℕ} {at : ℕ}
      (v : ValueAfter c place parts out at) (v₂ : ValueAfter c₂ place parts out at) {part part₂ : Held} → v.answer ≡ given part → v₂.answer ≡ given part₂ →
      (h : HandingCall text v.out' part) (h₂ : HandingCall text₂ v₂.out' part₂) → SameHanded h h₂

-- demand 3 at the calls, of a text that the rules accept: of one lexing call on it, and of calls on it and on its re-spaced text, if that is within the limit
pub record Demand3Calls (text : List ℕ) : Type 0 where
  pub one : {list stack : Lent} (c : LexingCall text list stack) → OneCall c
  pub both : length (respaced text) ≤ limit → SameCalls text (respaced text)
