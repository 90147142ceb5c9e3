-- Laws of steps one after the other (`Goes`). The last four are about a text that goes on in another's list, a run that ends at a kind, and one without a list.
use Prim.Native.Nat.{ℕ, ◌+◌, ◌-◌, ◌≤◌, ◌<◌, ◌^◌}
use mathlib.Core.Path.{◌≡◌, refl, sym, ap, ◌∙◌}
use mathlib.Core.List.{List, [], ◌∷◌, ◌++◌}
use mathlib.Core.Bool.{Bool, true, false, not}
use native.Mathlib.Nat.{zero-add, suc-add, add_assoc}
use native.Mathlib.Omega.{arith}
use lib.ListN.{length, drop, length-drop}
use Rattle.rules.specs.Kinds.{is_space, is_opener}
use Rattle.rules.specs.Lent.{Lexeme, Arrays, Lent, lent}
use Rattle.rules.specs.Lexing.{depth_after}
use Rattle.rules.proofs.Bounds.{found_inside}
use Rattle.rules.proofs.Text.{decide}
use Rattle.rules.proofs.Lent.{AsLong}
use Rattle.list.specs.Entries.{put_in}
use Rattle.list.proofs.Entries.{put-in-long}
use Rattle.lexer.specs.declared.Cursor.{Cursor}
use Rattle.lexer.specs.Cursor.{advance_of, no_room_of}
use Rattle.lexer.specs.Going.{State, state_at, stack_codes, Course, room_of, innermost_in, lexeme_in, put_if, Steps, Goes, stay, on}
use Rattle.rules.proofs.SpacesAside.{space-depth}

-- the cursor after a step
pub advance-at : (c : Cursor) (k e : ℕ) → (advance_of c k e).at ≡ e
unfolding advance_of
advance-at c k e = decide (is_space k) (λ b. rw (advance_of, b)) (λ b. rw (advance_of, b))

pub advance-depth : (c : Cursor) (k e : ℕ) → (advance_of c k e).depth ≡ depth_after c.depth k
unfolding advance_of
advance-depth c k e = decide (is_space k) (λ b. rw (advance_of, b) (sym (space-depth c.depth k b))) (λ b. rw (advance_of, b))

-- a lexeme that is put, and one that is not
pub put-yes : (place : ℕ) (l : Lexeme) (m : Lent) {m' : Lent} {b : Bool} → b ≡ true → m'.arrays ≡ put_in place l m.arrays → m' ≡ put_if b place l m
put-yes place l m e put = rw e (ap (λ (a : Arrays). lent a.kinds a.words) put)

pub put-no : (place : ℕ) (l : Lexeme) (m : Lent) {b : Bool} → b ≡ false → m ≡ put_if b place l m
put-no place l m e = rw e

-- no array gets longer or shorter
pub record Long (s t : State) : Type 0 where
  pub list : AsLong s.list.arrays t.list.arrays
  pub stack : AsLong s.stack.arrays t.stack.arrays

as_long : (a : Arrays) → AsLong a a
as_long a = record { kinds = refl; words = refl }

long-more : {a b d : Arrays} → AsLong a b → AsLong b d → AsLong a d
long-more i j = record { kinds = j.kinds ∙ i.kinds; words = j.words ∙ i.words }

put-long : (b : Bool) (place : ℕ) (l : Lexeme) (m : Lent) {m' : Lent} → m' ≡ put_if b place l m → AsLong m.arrays m'.arrays
put-long true place l m e = rw e (put-in-long place l m.arrays)
put-long false place l m e = rw e (as_long m.arrays)

module _ {w : Course} {from : State} where
  pub goes-long : (t : State) → Goes w from t → Long from t
  goes-long _ stay = record { list = as_long from.list.arrays; stack = as_long from.stack.arrays }
  goes-long _ (on s t g x) =
      let i : Long from s = goes-long s g in
      record {
        list = long-more i.list (put-long (not (is_space t.kind)) s.cur.lexemes _ s.list x.list);
        stack = long-more i.stack (put-long (is_opener t.kind) s.cur.depth _ s.stack x.stack);
      }

-- a step takes at least one byte
steps-forward : {w : Course} {s t : State} → w.stop ≤ length w.text → Steps w s t → s.cur.at < t.cur.at
steps-forward {w} {s} {t} l x =
    let b : s.cur.at < w.stop = x.before in
    let i = found_inside (innermost_in s.cur.depth (stack_codes s)) (drop s.cur.at w.text) t.kind x.size (omega (arith, length-drop s.cur.at w.text)) x.is in
    omega (arith, ap (λ (c : Cursor). c.at) x.cursor ∙ advance-at s.cur t.kind (s.cur.at + x.size), i.0)

module _ {w : Course} {from : State} (l : w.stop ≤ length w.text) where
  goes-forward : (t : State) → Goes w from t → from.cur.at ≤ t.cur.at
  goes-forward _ stay = omega arith
  goes-forward _ (on s t g x) = omega (arith, goes-forward s g, steps-forward l x)

  -- where a run has not moved it has taken no step
  pub none_yet : (t : State) → Goes w from t → t.cur.at ≤ from.cur.at → t ≡ from
  none_yet _ stay z = refl
  none_yet _ (on s t g x) z = absurd (omega (arith, goes-forward s g, steps-forward l x))

  -- a run up to the next position that reached it took one step
  pub goes-single : w.stop ≡ from.cur.at + 1 → (t : State) → Goes w from t → w.stop ≤ t.cur.at → Steps w from t
  goes-single q _ stay r = absurd (omega arith)
  goes-single q _ (on s t g x) r =
      let same : s ≡ from = none_yet s g (omega (arith, x.before)) in
      rw same at x

-- A second text in the same list: its steps, with their spans moved by the first text's length, are steps of the joined text.
drop_past : (first rest : List ℕ) (i : ℕ) → drop (length first + i) (first ++ rest) ≡ drop i rest
drop_past [] rest i = rw (zero-add i) refl
drop_past (b ∷ first) rest i = rw (suc-add (length first) i) (drop_past first rest i)

abbrev pub moved_by : (n : ℕ) → Cursor → Cursor
moved_by n c = record { at = n + c.at; depth = c.depth; lexemes = c.lexemes; spaces = c.spaces; dropped = c.dropped; deepest = c.deepest }

abbrev pub moved : (n : ℕ) → State → State
moved n s = state_at (moved_by n s.cur) s.kind s.list s.stack

-- the course through the joined text, which itself is moved by `m`
abbrev pub behind : (m : ℕ) (first : List ℕ) → Course → Course
behind m first w = record {
  doc = w.doc;
  shift = m;
  text = first ++ w.text;
  places = w.places;
  stack = w.stack;
  stop = length first + w.stop;
  ends = w.ends;
}

advance-moved : (n : ℕ) (c : Cursor) (k size : ℕ) → advance_of (moved_by n c) k (n + c.at + size) ≡ moved_by n (advance_of c k (c.at + size))
unfolding advance_of
advance-moved n c k size =
    let bytes : n + c.at + size - (n + c.at) ≡ c.at + size - c.at = omega arith in
    decide (is_space k) (λ b. rw (advance_of, b, bytes, add_assoc n c.at size) refl) (λ b. rw (advance_of, b, add_assoc n c.at size) refl)

room_moved : (n stack places : ℕ) (c : Cursor) (k : ℕ) → no_room_of stack places (moved_by n c) k ≡ no_room_of stack places c k
unfolding no_room_of
room_moved n stack places c k = refl

module _ (m : ℕ) (first : List ℕ) {w : Course} (there : w.shift ≡ m + length first) where
  steps-moved : {s t : State} → Steps w s t → Steps (behind m first w) (moved (length first) s) (moved (length first) t)
  steps-moved {s} {t} x =
      let n : ℕ = length first in
      let here : m + (n + s.cur.at) ≡ w.shift + s.cur.at = omega arith in
      let end : m + (n + s.cur.at + x.size) ≡ w.shift + (s.cur.at + x.size) = omega arith in
      record {
        before = omega (arith, x.before);
        going = x.going;
        size = x.size;
        is = rw (drop_past first w.text s.cur.at) x.is;
        room = room_moved n w.stack w.places s.cur t.kind ∙ x.room;
        cursor = ap (moved_by n) x.cursor ∙ sym (advance-moved n s.cur t.kind x.size);
        list = rw (here, end) x.list;
        stack = rw (here, end) x.stack;
      }

  pub goes_moved : {from : State} (t : State) → Goes w from t → Goes (behind m first w) (moved (length first) from) (moved (length first) t)
  goes_moved _ stay = stay
  goes_moved _ (on s t g x) = on (moved (length first) s) (moved (length first) t) (goes_moved s g) (steps-moved x)

-- A run that ends after some kinds took the steps that a run which ends after none takes first.
abbrev pub unended : Course → Course
unended w = record { doc = w.doc; shift = w.shift; text = w.text; places = w.places; stack = w.stack; stop = w.stop; ends = λ k. false }

pub goes-unended : {w : Course} {from : State} (t : State) → Goes w from t → Goes (unended w) from t
goes-unended _ stay = stay
goes-unended _ (on s t g x) =
    on s t (goes-unended s g) (record { before = x.before; going = refl; size = x.size; is = x.is; room = x.room; cursor = x.cursor; list = x.list; stack = x.stack })

-- A run takes the same steps with any other list, or with none.
abbrev pub with_list : State → Lent → State
with_list s list = state_at s.cur s.kind list s.stack

pub record Relisted (w : Course) (from : State) (list : Lent) (t : State) : Type 0 where
  pub list' : Lent
  pub goes : Goes w (with_list from list) (with_list t list')

pub goes-relisted : {w : Course} {from : State} (list : Lent) (t : State) → Goes w from t → Relisted w from list t
goes-relisted list _ stay = record { list' = list; goes = stay }
goes-relisted {w} list _ (on s t g x) =
    let r = goes-relisted list s g in
    let next : Lent = put_if (not (is_space t.kind)) s.cur.lexemes (lexeme_in w t.kind s.cur.at (s.cur.at + x.size)) r.list' in
    record {
      list' = next;
      goes = on (with_list s r.list') (with_list t next) r.goes
          (record { before = x.before; going = x.going; size = x.size; is = x.is; room = x.room; cursor = x.cursor; list = refl; stack = x.stack });
    }

-- A run without a list always has a place for one lexeme more, so it never gives 31: each step takes a byte or more, and no text has so many.
advance-steps : (c : Cursor) (k e : ℕ) → (advance_of c k e).lexemes + (advance_of c k e).spaces ≡ c.lexemes + c.spaces + 1
unfolding advance_of
advance-steps c k e = decide (is_space k) (λ b. rw (advance_of, b) (omega arith)) (λ b. rw (advance_of, b) (omega arith))

module _ {w : Course} {from : State} (before : w.stop ≤ length w.text) (first : from.cur.lexemes + from.cur.spaces ≤ w.shift + from.cur.at) where
  goes-counted : (t : State) → Goes w from t → t.cur.lexemes + t.cur.spaces ≤ w.shift + t.cur.at
  goes-counted _ stay = first
  goes-counted _ (on s t g x) =
      let steps : t.cur.lexemes + t.cur.spaces ≡ s.cur.lexemes + s.cur.spaces + 1 = rw x.cursor (advance-steps s.cur t.kind (s.cur.at + x.size)) in
      omega (arith, goes-counted s g, steps-forward before x)

  pub room-unlisted : w.shift + length w.text < 2 ^ 48 → (list : Lent) → w.places ≡ room_of false list → (t : State) → Goes w from t → t.cur.at < w.stop → t.cur.lexemes < w.places
  room-unlisted small list unlisted t g going = omega (arith, goes-counted t g)
