-- Demand 3, in its order and words, about the definitions of `rules`. Each record is a sentence; `Demand3` at the end gathers them.
use Rattle.std.specs.Prelude.{ℕ, ◌+◌, ◌*◌, ◌≤◌, ◌≡◌, Bool, true, false, cond, ◌&&◌, ◌||◌, List, [], ◌∷◌, ◌++◌, map, leb, ltb, eqb, length, take}
use Rattle.std.proofs.Math.Option.{Option, none, some}
use Rattle.rules.specs.Refusals.{StackFull, ListFull}
use Rattle.rules.specs.Spans.{limit, bytes_at}
use Rattle.rules.specs.Answers.{Answer, given, refused, Verdict, accepted}
use Rattle.rules.specs.Kinds.{is_space, is_opener}
use Rattle.rules.specs.Lent.{Lexeme, Arrays, Lent, places_in, filled}
use Rattle.rules.specs.Lexing.{Taken, stopped, trace, accepts, open_after_all, trace_in, lexemes_of, spaces_of, joined, deepest_from, placed, listing, lexing}
use Rattle.rules.specs.Value.{Held, in_text, in_output, ValueCall, value_call, handed_part, or_empty}
use Rattle.rules.specs.Tidy.{respaced, tidying}

-- the number of a refusal, if there is one
abbrev pub number_of : {A : Type 0} → Answer A → Option ℕ
number_of (given x) = none
number_of (refused r) = some r.number

abbrev pub is_memory_refusal : Verdict → Bool
is_memory_refusal (given u) = false
is_memory_refusal (refused r) = eqb r.number StackFull || eqb r.number ListFull

-- of the text itself, with ample memory
abbrev pub lexeme_count : List ℕ → ℕ
lexeme_count text = length (lexemes_of (trace text).taken)

abbrev pub deepest_in : List ℕ → ℕ
deepest_in text = deepest_from 0 (trace text).taken

-- "the stack has fewer places than the deepest nesting or the list fewer than lexemes"
abbrev pub is_short : List ℕ → (places stack : ℕ) → Bool
is_short text places stack = ltb stack (deepest_in text) || ltb places (lexeme_count text)

-- where memory is short: the steps before the one that is refused, that step, and which of 30 and 31 it is; by `listing` the list holds the lexemes of the steps before
pub record StopsShort (text : List ℕ) (places stack : ℕ) : Type 0 where
  pub before : List Taken
  pub step : Taken
  pub later : List Taken
  pub number : ℕ
  pub steps : (trace text).taken ≡ before ++ (step ∷ later)
  pub stops : trace_in places stack text ≡ record { taken = before; end = stopped number 0 (length step.bytes) }
  pub which : number ≡ cond (is_opener step.kind && leb stack (open_after_all 0 before)) StackFull ListFull
  pub stack_full : number ≡ StackFull → (is_opener step.kind ≡ true) × (open_after_all 0 before ≡ stack)
  pub list_full : number ≡ ListFull → (is_space step.kind ≡ false) × (length (lexemes_of before) ≡ places)

-- "whatever stack and list are lent: lexing gives refusal 30 or 31 exactly when the stack has fewer places than the deepest nesting or the list fewer than lexemes"
pub record Memory (text : List ℕ) (doc places stack : ℕ) : Type 0 where
  pub exactly : is_memory_refusal (lexing doc places stack text).verdict ≡ is_short text places stack
  pub short : is_short text places stack ≡ true → StopsShort text places stack
  pub ample : is_short text places stack ≡ false → (lexing doc places stack text).verdict ≡ accepted

-- "Otherwise lexemes and dropped spaces, joined in the order of their steps, are the text, and n = kept + dropped; the counted steps are lexemes + spaces, at most n and at most 2 × lexemes + 1; the counted deepest nesting, doubled, is at most lexemes."
pub record Account (text : List ℕ) (doc places stack : ℕ) : Type 0 where
  pub whole : joined (trace_in places stack text).taken ≡ text
  pub bytes : length text ≡ (lexing doc places stack text).kept + (lexing doc places stack text).dropped
  pub steps : (lexing doc places stack text).steps ≡ (lexing doc places stack text).lexemes + length (spaces_of (trace_in places stack text).taken)
  pub steps_bytes : (lexing doc places stack text).steps ≤ length text
  pub steps_lexemes : (lexing doc places stack text).steps ≤ 2 * (lexing doc places stack text).lexemes + 1
  pub deepest : 2 * (lexing doc places stack text).deepest ≤ (lexing doc places stack text).lexemes

-- "it is accepted by those rules and unchanged by re-spacing"
pub record Respaces (text : List ℕ) : Type 0 where
  pub accepted : accepts (respaced text) ≡ true
  pub unchanged : respaced (respaced text) ≡ respaced text

-- lexing: "the same kinds, the same bytes of each lexeme .. or the same refusal number"
pub record SameLexing (doc doc' places stack : ℕ) (text text' : List ℕ) : Type 0 where
  pub kinds : map (λ l. l.kind) (listing doc' places stack text') ≡ map (λ l. l.kind) (listing doc places stack text)
  pub bytes : map (λ l. bytes_at text' l.at) (listing doc' places stack text') ≡ map (λ l. bytes_at text l.at) (listing doc places stack text)
  pub number : number_of (lexing doc' places stack text').verdict ≡ number_of (lexing doc places stack text).verdict

-- tidying: "the same tidied bytes .. or the same refusal number"
pub record SameTidying (doc doc' places stack : ℕ) (text text' out : List ℕ) : Type 0 where
  pub written : (tidying doc' places stack text' out).written ≡ (tidying doc places stack text out).written
  pub output : (tidying doc' places stack text' out).output ≡ (tidying doc places stack text out).output
  pub number : number_of (tidying doc' places stack text' out).lexed.verdict ≡ number_of (tidying doc places stack text out).lexed.verdict

-- the value call on a text's own list, as lexing left it
abbrev pub value_on : (doc stack : ℕ) (text : List ℕ) (list : Lent) (place : ℕ) (parts : Arrays) (out : List ℕ) (at : ℕ) → ValueCall
value_on doc stack text list place parts out at =
    let ls = listing doc (places_in list) stack text in
    value_call text (filled ls list).arrays (length ls) place parts out at

-- handing back what it answers, from the text and the output after it
abbrev pub handed_back : (text out : List ℕ) → Answer Held → Answer (List ℕ)
handed_back text out (given p) = handed_part text out p
handed_back text out (refused r) = refused r

-- whether text or output holds it
abbrev pub is_output : Held → Bool
is_output (in_text a e) = false
is_output (in_output a e) = true

abbrev pub held_by : Answer Held → Option Bool
held_by (given p) = some (is_output p)
held_by (refused r) = none

-- "reading each string's value": "each value's bytes and whether text or output holds them; after a refusal its number, and of these what stood before it"
pub record SameValue (text text' : List ℕ) (v v' : ValueCall) : Type 0 where
  pub number : number_of v'.answer ≡ number_of v.answer
  pub held : held_by v'.answer ≡ held_by v.answer
  pub output : v'.output ≡ v.output
  pub parts : v'.parts ≡ v.parts
  pub kinds : v'.arrays.kinds ≡ v.arrays.kinds
  pub handed_number : number_of (handed_back text' v'.output v'.answer) ≡ number_of (handed_back text v.output v.answer)
  pub handed_bytes : or_empty (handed_back text' v'.output v'.answer) ≡ or_empty (handed_back text v.output v.answer)

-- "given equal lent memory and position, lexing, tidying and reading each string's value give on both texts .. the same"; the two calls may carry two document ids
pub record SameAnswers (text text' : List ℕ) : Type 0 where
  pub lexing : (doc doc' places stack : ℕ) → SameLexing doc doc' places stack text text'
  pub tidying : (doc doc' places stack : ℕ) (out : List ℕ) → SameTidying doc doc' places stack text text' out
  pub values : (doc doc' stack : ℕ) (list : Lent) (place : ℕ) (parts : Arrays) (out : List ℕ) (at : ℕ) → SameValue text text' (value_on doc stack text list place parts out at) (value_on doc' stack text' list place parts out at)

-- "For every text of n bytes, within that limit, that those rules accept"
pub record Demand3 (text : List ℕ) : Type 0 where
  pub memory : (doc places stack : ℕ) → Memory text doc places stack
  pub account : (doc places stack : ℕ) → is_short text places stack ≡ false → Account text doc places stack
  pub respaces : length (respaced text) ≤ limit → Respaces text
  pub same_answers : length (respaced text) ≤ limit → SameAnswers text (respaced text)

-- Beside it, of any text, refused ones included: no byte is passed over and none is read twice.
-- spans that follow one another from a position on, without a gap and without an overlap
abbrev pub Consecutive : (doc at : ℕ) → List Lexeme → Type 0
Consecutive doc at [] = Unit {0}
Consecutive doc at (l ∷ ls) = (l.at.doc ≡ doc) × (l.at.start ≡ at) × (at ≤ l.at.end) × Consecutive doc l.at.end ls

-- the steps' spans are consecutive, each has the bytes that the text has there, and together they are a front of the text: all of it where it is accepted, else up to where the refused step begins, nothing where 2 or 1 comes before the first step; what is listed are those steps that are no Space, each once and in their order (by the definition of `listing`)
pub record InOrder (text : List ℕ) (doc places stack : ℕ) : Type 0 where
  pub consecutive : Consecutive doc 0 (placed doc 0 (trace_in places stack text).taken)
  pub bytes : map (λ l. bytes_at text l.at) (placed doc 0 (trace_in places stack text).taken) ≡ map (λ p. p.bytes) (trace_in places stack text).taken
  pub front : joined (trace_in places stack text).taken ≡ take (length (joined (trace_in places stack text).taken)) text
