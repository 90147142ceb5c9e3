-- Steps one after the other, from where a run stands on: what the loop says, whoever asks. Whole texts, a single step, a text that goes on in another's list, and a run that ends at a kind are each a law from here.
use Rattle.std.specs.Prelude.{ℕ, ◌+◌, ◌-◌, ◌^◌, ◌<◌, ◌≡◌, Bool, false, cond, not, ◌&&◌, List, eqb, drop, get_or}
use Rattle.rules.specs.Spans.{span}
use Rattle.rules.specs.Kinds.{Nothing, is_space, is_opener, is_format}
use Rattle.rules.specs.Step.{step, found}
use Rattle.rules.specs.Lent.{Lexeme, lexeme, Lent, places_in}
use Rattle.list.specs.Entries.{put_in}
use Rattle.lexer.specs.declared.Cursor.{Cursor}
use Rattle.lexer.specs.Cursor.{advance_of, no_room_of}

-- where a run stands: its cursor, the kind of its last step (a Space's before the first), its list and its stack
pub record State : Type 0 where
  pub cur : Cursor
  pub kind : ℕ
  pub list : Lent
  pub stack : Lent

abbrev pub state_at : Cursor → (kind : ℕ) (list stack : Lent) → State
state_at c k list stack = record { cur = c; kind = k; list = list; stack = stack }

-- the codes on its stack
abbrev pub stack_codes : State → List ℕ
stack_codes s = s.stack.arrays.kinds

-- what a run is given and does not change: the text and where its bytes stand in the document, the places of list and stack, the position where it ends, and the kinds after which it ends
pub record Course : Type 0 where
  pub doc : ℕ
  pub shift : ℕ
  pub text : List ℕ
  pub places : ℕ
  pub stack : ℕ
  pub stop : ℕ
  pub ends : ℕ → Bool

-- the places of a list; where none is kept, the largest number that the code has
abbrev pub room_of : Bool → Lent → ℕ
room_of listed list = cond listed (places_in list) (2 ^ 64 - 1)

-- a run that ends after a format opener, or after no kind
abbrev pub ends_after : Bool → ℕ → Bool
ends_after to_format k = to_format && is_format k

abbrev pub course_of : (doc shift : ℕ) → List ℕ → (stop : ℕ) → (listed to_format : Bool) → (list stack : Lent) → Course
course_of doc shift text stop listed to_format list stack =
    record { doc = doc; shift = shift; text = text; places = room_of listed list; stack = places_in stack; stop = stop; ends = ends_after to_format }

-- the code of the innermost of so many openers, nothing where it is no opener's
abbrev pub innermost_in : (depth : ℕ) → List ℕ → ℕ
innermost_in depth codes = cond (eqb depth 0) Nothing (cond (is_opener (get_or codes (depth - 1) 0)) (get_or codes (depth - 1) 0) Nothing)

-- a lexeme from a position of the text to another, with its span in the document
abbrev pub lexeme_in : Course → (kind at end : ℕ) → Lexeme
lexeme_in w k at e = lexeme k (span w.doc (w.shift + at) (w.shift + e))

-- what is lent after a lexeme, if it is one to put
abbrev pub put_if : Bool → (place : ℕ) → Lexeme → Lent → Lent
put_if b place l m = cond b (record { arrays = put_in place l m.arrays }) m

-- a step of the rules takes a run further: it stands before its end, and there is room for the lexeme, which goes to the list unless it is a Space, and to the stack if it opens
pub record Steps (w : Course) (s t : State) : Type 0 where
  pub before : s.cur.at < w.stop
  pub going : w.ends s.kind ≡ false
  pub size : ℕ
  pub is : step (innermost_in s.cur.depth (stack_codes s)) (drop s.cur.at w.text) ≡ found t.kind size
  pub room : no_room_of w.stack w.places s.cur t.kind ≡ 0
  pub cursor : t.cur ≡ advance_of s.cur t.kind (s.cur.at + size)
  pub list : t.list ≡ put_if (not (is_space t.kind)) s.cur.lexemes (lexeme_in w t.kind s.cur.at (s.cur.at + size)) s.list
  pub stack : t.stack ≡ put_if (is_opener t.kind) s.cur.depth (lexeme_in w t.kind s.cur.at (s.cur.at + size)) s.stack

pub data Goes (w : Course) (from : State) : State → Type 0 where
  stay : Goes w from from
  on : (s t : State) → Goes w from s → Steps w s t → Goes w from t
