-- A run over a whole text, from its start to its end: whoever reports where it halted, or its end, gives the answer of a lexing call.
use Rattle.std.specs.Prelude.{Result, Ok, Err}
use Prim.Native.Nat.{ℕ, ◌+◌, ◌-◌, ◌≤◌, ◌<◌, ◌^◌}
use mathlib.Core.Path.{◌≡◌, refl, sym, ap, ◌∙◌}
use mathlib.Core.List.{List}
use mathlib.Core.Logic.{⊎_elim}
use mathlib.Core.Bool.{Bool, true, false, false≢true}
use mathlib.Core.Option.{none}
use native.Mathlib.Nat.{zero-add}
use native.Mathlib.Omega.{arith}
use lib.ListN.{length, drop, length-drop}
use Rattle.rules.specs.Utf8.{first_bad}
use Rattle.rules.specs.Kinds.{Space}
use Rattle.rules.specs.Step.{step, found}
use Rattle.rules.specs.Lent.{Lent, places_in}
use Rattle.rules.specs.Lexing.{innermost, Lexes}
use Rattle.rules.proofs.Bounds.{found_inside}
use Rattle.lexer.specs.declared.Cursor.{Cursor}
use Rattle.sublexers.specs.declared.Fault.{Fault}
use Rattle.lexer.specs.declared.Lexed.{Lexed}
use Rattle.token.specs.declared.Token.{Token}
use Rattle.lexer.specs.Cursor.{start}
use Rattle.lexer.specs.Going.{State, state_at, Course, course_of, Steps, Goes, stay, on}
use Rattle.lexer.specs.Results.{lexed_meant, refused_with, verdict_at, CanStop, CanFinish}
use Rattle.lexer.specs.Memory.{opener_in}
use Rattle.lexer.specs.Running.{Refuses, by_text, by_room, RunsBy, reached, halted}
use Rattle.lexer.proofs.Standing.{Standing, standing-start, codes}
use Rattle.lexer.proofs.Loop.{standing-innermost, can-stop, can-finish, stop-out, stop-small, end-out, full-out, goes_on, took, took-small}

below : {a b c : ℕ} → a < b → b ≤ c → a < c
below l m = omega arith

some_left : {at n d : ℕ} → at < n → d ≡ n - at → 0 < d
some_left l e = omega arith

ends-inside : {at n d size : ℕ} → at < n → d ≡ n - at → size ≤ d → at + size ≤ n
ends-inside l e m = omega arith

-- a course with the document's own offsets and the places of this list and this stack
abbrev pub plain : (doc : ℕ) (text : List ℕ) (list stack : Lent) (stop : ℕ) → (ℕ → Bool) → Course
plain doc text list stack stop ends = record { doc = doc; shift = 0; text = text; places = places_in list; stack = places_in stack; stop = stop; ends = ends }

-- where list, stack and cursor are the same, the loop stands the same
module _ (doc : ℕ) (text : List ℕ) (list₀ stack₀ : Lent) where
  same-standing : {list list' stack stack' : Lent} {c c' : Cursor} → list' ≡ list → stack' ≡ stack → c' ≡ c → Standing doc text list₀ stack₀ list stack c → Standing doc text list₀ stack₀ list' stack' c'
  same-standing l p e s = rw (l, p, e) s

module _ (doc : ℕ) (text : List ℕ) (list₀ stack₀ : Lent) {stop : ℕ} {ends : ℕ → Bool} where
  -- where the loop stood as `Standing` says, it stands so after a step, and after any steps
  steps-standing : {s t : State} → stop ≤ length text → Steps (plain doc text list₀ stack₀ stop ends) s t →
      Standing doc text list₀ stack₀ s.list s.stack s.cur → Standing doc text list₀ stack₀ t.list t.stack t.cur
  steps-standing {s} {t} l x v =
      let here : s.cur.at < length text = below x.before l in
      let is : step (innermost (codes doc v.past)) (drop s.cur.at text) ≡ found t.kind x.size = ap (λ (i : ℕ). step i (drop s.cur.at text)) (sym (standing-innermost v)) ∙ x.is in
      let i = found_inside (innermost (codes doc v.past)) (drop s.cur.at text) t.kind x.size (some_left here (length-drop s.cur.at text)) is in
      let at : 0 + s.cur.at ≡ s.cur.at = zero-add _ in
      let end : 0 + (s.cur.at + x.size) ≡ s.cur.at + x.size = zero-add _ in
      same-standing doc text list₀ stack₀ (rw (at, end) at x.list) (rw (at, end) at x.stack) x.cursor
      (goes_on v here (record { size = x.size; is = is; moves = i.0; fits = ends-inside here (length-drop s.cur.at text) i.1; ends = refl }) x.room)

  pub goes-standing : {from : State} → stop ≤ length text → Standing doc text list₀ stack₀ from.list from.stack from.cur →
      (t : State) → Goes (plain doc text list₀ stack₀ stop ends) from t → Standing doc text list₀ stack₀ t.list t.stack t.cur
  goes-standing l v _ stay = v
  goes-standing l v _ (on s t g x) = steps-standing l x (goes-standing l v s g)

module _ (doc : ℕ) (text : List ℕ) (list stack list' stack' : Lent) where
  pub record WholeHalted (c : Cursor) (f : Fault) : Type 0 where
    pub stops : CanStop f c
    pub refused : (r : Lexed) → lexed_meant r ≡ refused_with doc f c (opener_in c.depth stack'.arrays) → Lexes doc text list stack (lexed_meant r) list' stack'

  pub record WholeReached (c : Cursor) : Type 0 where
    pub finishes : CanFinish c
    pub ended : (r : Lexed) → lexed_meant r ≡ verdict_at doc c (opener_in c.depth stack'.arrays) → Lexes doc text list stack (lexed_meant r) list' stack'

  abbrev pub WholeBy : Cursor → Result Token Fault → Type 0
  WholeBy c (Err f) = WholeHalted c f
  WholeBy c (Ok t) = WholeReached c

  module _ (id : doc < 2 ^ 32) (small : length text < 2 ^ 48) (good : first_bad text ≡ none) where
    standing-at : {c : Cursor} {kind : ℕ} → Goes (course_of doc 0 text (length text) true false list stack) (state_at start Space list stack) (state_at c kind list' stack') →
        Standing doc text list stack list' stack' c
    standing-at g = goes-standing doc text list stack (omega arith) (standing-start doc text list stack id small good) _ g

    halts : {c : Cursor} {kind : ℕ} (f : Fault) (w : Standing doc text list stack list' stack' c) → c.at < length text →
        Refuses (course_of doc 0 text (length text) true false list stack) (state_at c kind list' stack') f → WholeHalted c f
    halts f w h (by_text says) = record { stops = can-stop w f (stop-small w h f says); refused = λ r v. stop-out w h f r says v }
    halts {c} f w h (by_room k is number z begin) =
        let t = took w h k f.end is in
        record {
          stops = can-stop w f (omega (arith, took-small w h t, begin), (took-small w h t).1);
          refused = λ r v. full-out w h k f.end f.reason r t number z (rw begin at v);
        }

    pub whole_of : {c : Cursor} {end : Result Token Fault} → RunsBy (course_of doc 0 text (length text) true false list stack) (state_at start Space list stack) list' stack' c end → WholeBy c end
    whole_of (halted c kind f g h o x) = halts f (standing-at g) h x
    whole_of (reached c t g x) =
        let w = standing-at g in
        record { finishes = can-finish w; ended = λ r v. end-out w r (⊎_elim (λ l. l) (λ e. absurd (false≢true e)) x) v }
