-- Where the loop stands: the steps that are behind it, what they have listed, counted and opened, and that the whole call's trace is these steps and the
-- trace of the text that is left, in the memory that is left.
use Prim.Native.Nat.{ℕ, suc, pred, ◌+◌, ◌-◌, ◌*◌, ◌≤◌, ◌<◌, ◌^◌, max}
use mathlib.Core.Path.{◌≡◌, refl, sym, ap, ◌∙◌}
use mathlib.Core.List.{List, [], ◌∷◌, ◌++◌, map, append-nil}
use mathlib.Core.Bool.{Bool, true, false, cond, not, ◌&&◌, false≢true}
use native.Mathlib.Omega.{arith}
use lib.Dec.{leb, eqb}
use lib.ListN.{take, drop, length, get_or, length-append, length-drop, length-take, length-map}
use lib.Seq.{drop-drop}
use borrow.Author.Tests.{leb-true, leb-false, eq-eqb, ne_eqb}
use mathlib.Core.Option.{none, some}
use Rattle.rules.specs.Text.{keep, all}
use Rattle.rules.specs.Utf8.{first_bad}
use Rattle.rules.specs.Refusals.{AnotherDue, UnclosedFormat, StackFull, ListFull}
use Rattle.rules.specs.Spans.{span, low, high, span_of}
use Rattle.rules.specs.Kinds.{Nothing, between, is_space, is_opener, is_closer}
use Rattle.rules.specs.Step.{found, stop, step}
use Rattle.rules.specs.Lent.{Lexeme, lexeme, Arrays, Lent, lent, places_in, filled, FreeBelow}
use Rattle.rules.specs.Lexing.{Taken, taken, End, stopped, Trace, note_of, verdict_of, lexed_of, listing, lexing, ends, after, open_after, codes_after, innermost, at_end, trace_from, depth_after, room_after, trace_in, lexemes_of, spaces_of, joined, deepest_from, placed, listed_of, open_of}
use Rattle.rules.proofs.Trace.{joined-append, placed-append, listed_kept, open-append, open-codes, open-length, deepest-snoc, trace-found, trace-stopped, trace-ended, trace-good, within, within-ends, within-after, within-full-stack, within-full-list, behind, behind-after, behind-ends}
use Rattle.rules.proofs.Lent.{OnStack, stack_push, stack-pop, stack-top-kind, all-untouched, untouched-later}
use Rattle.rules.proofs.Text.{decide, keep_append}
use Rattle.rules.proofs.Spans.{span-of-words}
use Rattle.list.proofs.Entries.{put-there, put-behind, put-in-untouched}
use Rattle.lexer.specs.Cursor.{start, advance_of, no_room_of}
use Rattle.lexer.specs.Going.{put_if}
use Rattle.lexer.specs.declared.Cursor.{Cursor}
use Rattle.rules.proofs.SpacesAside.{space-depth}

-- General: one element more, by whether it is kept
keep-more : {A : Type 0} (p : A → Bool) (xs : List A) (x : A) → p x ≡ true → keep p (xs ++ (x ∷ [])) ≡ keep p xs ++ (x ∷ [])
keep-more p xs x e = rw (keep_append p xs (x ∷ []), e)

keep_same : {A : Type 0} (p : A → Bool) (xs : List A) (x : A) → p x ≡ false → keep p (xs ++ (x ∷ [])) ≡ keep p xs
keep_same p xs x e = rw (keep_append p xs (x ∷ []), e) (append-nil (keep p xs))

-- every code but the first passes a test where every code does
all-drop-one : (p : ℕ → Bool) (xs : List ℕ) → all p xs ≡ true → all p (drop 1 xs) ≡ true
all-drop-one p [] a = refl
all-drop-one p (x ∷ xs) a = decide (p x) (λ e. rw e at a) (λ e. absurd (false≢true (rw e at a)))

-- nothing is left of a number after another one exactly where it is no larger
none_left : (m n : ℕ) → leb m n ≡ eqb (m - n) 0
none_left m n =
    decide (leb m n)
    (λ e. e ∙ sym (eq-eqb (m - n) 0 (omega (arith, leb-true m n e))))
    (λ e. let some_left : n < m = leb-false m n e in e ∙ sym (ne_eqb (m - n) 0 (omega arith)))

-- two tests that both fail
neither : (a b : Bool) (m n : ℕ) → cond a (suc m) (cond b (suc n) 0) ≡ 0 → (a ≡ false) × (b ≡ false)
neither true b m n e = absurd (omega arith)
neither false true m n e = absurd (omega arith)
neither false false m n e = (refl, refl)

and_second : (a b : Bool) → a && b ≡ false → a ≡ true → b ≡ false
and_second true b e t = e
and_second false b e t = absurd (false≢true t)

-- where there is room for a lexeme, neither the stack nor the list is full
pub has_room : (stack places : ℕ) (c : Cursor) (k : ℕ) → no_room_of stack places c k ≡ 0 → (is_opener k && leb stack c.depth ≡ false) × (not (is_space k) && leb places c.lexemes ≡ false)
unfolding no_room_of
has_room stack places c k f = neither (is_opener k && leb stack c.depth) (not (is_space k) && leb places c.lexemes) 29 30 f

pub room-list : (stack places : ℕ) (c : Cursor) (k : ℕ) → no_room_of stack places c k ≡ 0 → is_space k ≡ false → c.lexemes < places
room-list stack places c k f b = leb-false places c.lexemes (and_second (not (is_space k)) (leb places c.lexemes) (has_room stack places c k f).1 (ap not b))

pub room-stack : (stack places : ℕ) (c : Cursor) (k : ℕ) → no_room_of stack places c k ≡ 0 → is_opener k ≡ true → c.depth < stack
room-stack stack places c k f b = leb-false stack c.depth (and_second (is_opener k) (leb stack c.depth) (has_room stack places c k f).0 b)

-- how many are open after one more lexeme: one more after an opener, one fewer after a closer, as many after another
pub depth-opens : (d k : ℕ) → is_opener k ≡ true → depth_after d k ≡ suc d
depth-opens d k e = rw e

depth-closes : (d k : ℕ) → is_opener k ≡ false → is_closer k ≡ true → depth_after d k ≡ pred d
depth-closes d k e f = rw (e, f)

pub depth-stays : (d k : ℕ) → is_opener k ≡ false → is_closer k ≡ false → depth_after d k ≡ d
depth-stays d k e f = rw (e, f)

-- one more is open only after an opener
pub depth-rest : (d k : ℕ) → is_opener k ≡ false → depth_after d k ≤ d
depth-rest d k e = decide (is_closer k) (λ f. omega (arith, depth-closes d k e f)) (λ f. omega (arith, depth-stays d k e f))

-- the codes of what is open are openers' after one more lexeme too
openers-after : (os : List ℕ) (k : ℕ) → all is_opener os ≡ true → all is_opener (codes_after os k) ≡ true
unfolding open_after
openers-after os k a =
    decide (is_opener k) (λ e. rw e (rw e a))
    (λ e. rw e (decide (is_closer k) (λ f. rw f (all-drop-one is_opener os a)) (λ f. rw f a)))

-- the openers that are open after some steps, and their codes
abbrev pub opened : (doc : ℕ) → List Taken → List Lexeme
opened doc past = open_of [] (placed doc 0 past)

abbrev pub codes : (doc : ℕ) → List Taken → List ℕ
codes doc past = map (λ l. l.kind) (opened doc past)

-- one step more, with its span
abbrev last : (doc : ℕ) → List Taken → Taken → Lexeme
last doc past p = lexeme p.kind (span doc (length (joined past)) (length (joined past) + length p.bytes))

joined_snoc : (past : List Taken) (p : Taken) → length (joined (past ++ (p ∷ []))) ≡ length (joined past) + length p.bytes
joined_snoc past p = rw (joined-append past (p ∷ []), append-nil p.bytes) (length-append (joined past) p.bytes)

placed_snoc : (doc : ℕ) (past : List Taken) (p : Taken) → placed doc 0 (past ++ (p ∷ [])) ≡ placed doc 0 past ++ (last doc past p ∷ [])
placed_snoc doc past p =
    let here : 0 + length (joined past) ≡ length (joined past) = omega arith in
    rw here at (placed-append doc 0 past (p ∷ []))

opened-snoc : (doc : ℕ) (past : List Taken) (p : Taken) → opened doc (past ++ (p ∷ [])) ≡ open_after (λ x. x.kind) (opened doc past) (last doc past p)
opened-snoc doc past p = rw (placed_snoc doc past p) (open-append [] (placed doc 0 past) (last doc past p ∷ []))

depth-snoc : (doc : ℕ) (past : List Taken) (p : Taken) → length (opened doc (past ++ (p ∷ []))) ≡ depth_after (length (opened doc past)) p.kind
depth-snoc doc past p = rw (opened-snoc doc past p) (open-length (λ x. x.kind) (opened doc past) (last doc past p))

codes-snoc : (doc : ℕ) (past : List Taken) (p : Taken) → codes doc (past ++ (p ∷ [])) ≡ codes_after (codes doc past) p.kind
codes-snoc doc past p = rw (opened-snoc doc past p) (open-codes (opened doc past) (last doc past p))

-- no more is open than the deepest
open-deepest : (doc at : ℕ) (os : List Lexeme) (ps : List Taken) → length (open_of os (placed doc at ps)) ≤ deepest_from (length os) ps
open-deepest doc at os [] = omega arith
open-deepest doc at os (p ∷ ps) =
    let next : ℕ = at + length p.bytes in
    let l : Lexeme = lexeme p.kind (span doc at next) in
    let os₁ : List Lexeme = open_after (λ x. x.kind) os l in
    let depth : length os₁ ≡ depth_after (length os) p.kind = open-length (λ x. x.kind) os l in
    omega (arith, rw depth at (open-deepest doc next os₁ ps))

-- the bytes of lexemes and of Spaces are all bytes
parts : (ps : List Taken) → length (joined (lexemes_of ps)) + length (joined (spaces_of ps)) ≡ length (joined ps)
parts [] = refl
parts (p ∷ ps) =
    let more : length (joined (lexemes_of ps)) + length (joined (spaces_of ps)) ≡ length (joined ps) = parts ps in
    decide (is_space p.kind)
    (λ e. rw e (simp length-append (omega arith)))
    (λ e. rw e (simp length-append (omega arith)))

-- lexemes and Spaces are all steps
steps-parts : (ps : List Taken) → length (lexemes_of ps) + length (spaces_of ps) ≡ length ps
steps-parts [] = refl
steps-parts (p ∷ ps) =
    let more : length (lexemes_of ps) + length (spaces_of ps) ≡ length ps = steps-parts ps in
    decide (is_space p.kind) (λ e. rw e (omega arith)) (λ e. rw e (omega arith))

-- what is open, by whether there is any: its innermost, and the note
none_open : {A : Type 0} (os : List A) → length os ≡ 0 → os ≡ []
none_open [] e = refl
none_open (o ∷ os) e = absurd (omega arith)

innermost-opens : (os : List ℕ) → all is_opener os ≡ true → 0 < length os → is_opener (innermost os) ≡ true
innermost-opens [] a some-open = absurd (omega arith)
innermost-opens (k ∷ os) a some-open = decide (is_opener k) (λ e. e) (λ e. absurd (false≢true (rw e at a)))

note-top : (number : ℕ) (os : List Lexeme) (a : Arrays) → OnStack os a → 0 < length os → between AnotherDue UnclosedFormat number ≡ true →
    note_of number os ≡ some (span_of (get_or a.words ((length os - 1) * 2) 0) (get_or a.words ((length os - 1) * 2 + 1) 0))
note-top number [] a on some-open b = absurd (omega arith)
note-top number (o ∷ os) a on some-open b =
    let n : suc (length os) - 1 ≡ length os = omega arith in
    rw (n, b, on.1)

note-without : (number : ℕ) (os : List Lexeme) → between AnotherDue UnclosedFormat number ≡ false → note_of number os ≡ none
note-without number [] b = refl
note-without number (o ∷ os) b = rw b

-- the counts of some steps
pub record Counted (doc : ℕ) (past : List Taken) (c : Cursor) : Type 0 where
  pub at : c.at ≡ length (joined past)
  pub depth : c.depth ≡ length (opened doc past)
  pub lexemes : c.lexemes ≡ length (lexemes_of past)
  pub spaces : c.spaces ≡ length (spaces_of past)
  pub dropped : c.dropped ≡ length (joined (spaces_of past))
  pub deepest : c.deepest ≡ deepest_from 0 past

-- one step more, which ends at `e`
pub counted-snoc : (doc : ℕ) (past : List Taken) (p : Taken) (c : Cursor) (e : ℕ) → Counted doc past c → e ≡ c.at + length p.bytes → Counted doc (past ++ (p ∷ [])) (advance_of c p.kind e)
unfolding advance_of
counted-snoc doc past p c e h q =
    let at₁ : e ≡ length (joined (past ++ (p ∷ []))) = omega (arith, joined_snoc past p, h.at) in
    let bytes : e - c.at ≡ length p.bytes = omega arith in
    let depth₁ : depth_after c.depth p.kind ≡ length (opened doc (past ++ (p ∷ []))) = rw h.depth (sym (depth-snoc doc past p)) in
    let deepest₁ : deepest_from 0 (past ++ (p ∷ [])) ≡ max c.deepest (depth_after c.depth p.kind) =
    rw (h.depth, h.deepest) (deepest-snoc doc 0 [] past p) in
    decide (is_space p.kind)
    (λ b. rw (advance_of, b)
    (record {
      at = at₁;
      depth = sym (space-depth c.depth p.kind b) ∙ depth₁;
      lexemes = rw (keep_same (λ x. not (is_space x.kind)) past p (ap not b)) h.lexemes;
      spaces = rw (keep-more (λ x. is_space x.kind) past p b, length-append (spaces_of past) (p ∷ []), h.spaces);
      dropped = rw (keep-more (λ x. is_space x.kind) past p b, joined_snoc (spaces_of past) p, bytes, h.dropped);
      deepest = omega (arith, deepest₁, space-depth c.depth p.kind b, open-deepest doc 0 [] past, h.depth, h.deepest);
    }))
    (λ b. rw (advance_of, b)
    (record {
      at = at₁;
      depth = depth₁;
      lexemes = rw (keep-more (λ x. not (is_space x.kind)) past p (ap not b), length-append (lexemes_of past) (p ∷ []), h.lexemes);
      spaces = rw (keep_same (λ x. is_space x.kind) past p b) h.spaces;
      dropped = rw (keep_same (λ x. is_space x.kind) past p b) h.dropped;
      deepest = sym deepest₁;
    }))

-- the cursor after a lexeme that ends at `e`
pub record Advanced (c : Cursor) (k e : ℕ) (d : Cursor) : Type 0 where
  pub at : d.at ≡ e
  pub depth : d.depth ≡ depth_after c.depth k
  pub steps : d.lexemes + d.spaces ≡ c.lexemes + c.spaces + 1
  pub dropped : d.dropped ≤ c.dropped + (e - c.at)
  pub deepest : d.deepest ≡ max c.deepest (depth_after c.depth k)

pub advanced : (c : Cursor) (k e : ℕ) → c.depth ≤ c.deepest → Advanced c k e (advance_of c k e)
unfolding advance_of
advanced c k e h =
    decide (is_space k)
    (λ b. rw (advance_of, b) (record { at = refl; depth = sym (space-depth c.depth k b); steps = omega arith; dropped = omega arith; deepest = omega (arith, space-depth c.depth k b) }))
    (λ b. rw (advance_of, b) (record { at = refl; depth = refl; steps = omega arith; dropped = omega arith; deepest = refl }))

lexemes-same : (c : Cursor) (k e : ℕ) → is_space k ≡ true → (advance_of c k e).lexemes ≡ c.lexemes
unfolding advance_of
lexemes-same c k e b = rw b

lexemes-more : (c : Cursor) (k e : ℕ) → is_space k ≡ false → (advance_of c k e).lexemes ≡ c.lexemes + 1
unfolding advance_of
lexemes-more c k e b = rw b

room_after_lem : (places : ℕ) (c : Cursor) (k e : ℕ) → room_after (places - c.lexemes) k ≡ places - (advance_of c k e).lexemes
room_after_lem places c k e =
    let one_fewer : pred (places - c.lexemes) ≡ places - (c.lexemes + 1) = omega arith in
    decide (is_space k)
    (λ b. rw (lexemes-same c k e b, b))
    (λ b. rw (lexemes-more c k e b, b) one_fewer)

-- the list after one step more, `o` with its span
module _ (doc : ℕ) (past : List Taken) (p : Taken) (o : Lexeme) (here : last doc past p ≡ o) (c : Cursor) (many : c.lexemes ≡ length (listed_of (placed doc 0 past))) where
  listed_same : is_space p.kind ≡ true → listed_of (placed doc 0 (past ++ (p ∷ []))) ≡ listed_of (placed doc 0 past)
  listed_same b = rw (placed_snoc doc past p) (keep_same (λ l. not (is_space l.kind)) (placed doc 0 past) (last doc past p) (ap not b))

  listed_more : is_space p.kind ≡ false → listed_of (placed doc 0 (past ++ (p ∷ []))) ≡ listed_of (placed doc 0 past) ++ (o ∷ [])
  listed_more b = rw (placed_snoc doc past p, ← here) (keep-more (λ l. not (is_space l.kind)) (placed doc 0 past) (last doc past p) (ap not b))

  list-after : (list list₀ : Lent) → list ≡ filled (listed_of (placed doc 0 past)) list₀ → (is_space p.kind ≡ false → c.lexemes < places_in list₀) →
      put_if (not (is_space p.kind)) c.lexemes o list ≡ filled (listed_of (placed doc 0 (past ++ (p ∷ [])))) list₀
  list-after list list₀ same room =
      decide (is_space p.kind)
      (λ b. rw (b, listed_same b) same)
      (λ b. rw (b, listed_more b, same, many) (ap (λ (a : Arrays). lent a.kinds a.words) (put-behind (listed_of (placed doc 0 past)) o list₀.arrays (omega (arith, room b)))))

-- the stack after one lexeme more
stack-after : (os : List Lexeme) (o : Lexeme) (stack : Lent) → OnStack os stack.arrays → span_of (low o.at) (high o.at) ≡ o.at → (is_opener o.kind ≡ true → length os < places_in stack) →
    OnStack (open_after (λ x. x.kind) os o) (put_if (is_opener o.kind) (length os) o stack).arrays
unfolding open_after
stack-after os o stack on e room =
    decide (is_opener o.kind)
    (λ b. rw (b, put-there (length os) o stack.arrays (room b)) (stack_push os o stack.arrays on (room b) e))
    (λ b. rw b (decide (is_closer o.kind) (λ f. rw f (stack-pop os stack.arrays on)) (λ f. rw f on)))

-- past a place that is above what was put, nothing changed
untouched-after : (b : Bool) (d e place : ℕ) (l : Lexeme) {stack₀ stack : Lent} → d ≤ e → (b ≡ true → place < e) → FreeBelow d stack₀ stack → FreeBelow e stack₀ (put_if b place l stack)
untouched-after true d e place l le below u = put-in-untouched e place l (below refl) (untouched-later d e le u)
untouched-after false d e place l le below u = untouched-later d e le u

module _ (doc : ℕ) (text : List ℕ) (list₀ stack₀ : Lent) where
  pub record Standing (list stack : Lent) (c : Cursor) : Type 0 where
    pub small : length text < 2 ^ 48
    pub id : doc < 2 ^ 32
    pub past : List Taken
    pub counted : Counted doc past c
    pub inside : c.at ≤ length text
    -- each step behind has a byte or more
    pub moved : c.lexemes + c.spaces ≤ c.at
    pub whole : trace_in (places_in list₀) (places_in stack₀) text ≡ behind past (within (places_in stack₀) c.depth (places_in list₀ - c.lexemes) (trace_from (codes doc past) 0 (drop c.at text)))
    pub room : c.lexemes ≤ places_in list₀
    pub shallow : c.depth ≤ places_in stack₀
    pub deeper : c.depth ≤ c.deepest
    pub deepest : c.deepest ≤ places_in stack₀
    pub openers : all is_opener (codes doc past) ≡ true
    pub listed : list ≡ filled (listed_of (placed doc 0 past)) list₀
    pub on_stack : OnStack (opened doc past) stack.arrays
    pub untouched : FreeBelow c.deepest stack₀ stack

  -- before the first step
  pub standing-start : doc < 2 ^ 32 → length text < 2 ^ 48 → first_bad text ≡ none → Standing list₀ stack₀ start
  unfolding trace_in
  standing-start id small good =
      let all_left : places_in list₀ - 0 ≡ places_in list₀ = omega arith in
      record {
        small = small;
        id = id;
        past = [];
        counted = record { at = refl; depth = refl; lexemes = refl; spaces = refl; dropped = refl; deepest = refl };
        inside = omega arith;
        moved = omega arith;
        whole = rw (trace-good text (omega arith) good, all_left);
        room = omega arith;
        shallow = omega arith;
        deeper = omega arith;
        deepest = omega arith;
        openers = refl;
        listed = refl;
        on_stack = tt;
        untouched = all-untouched 0 stack₀.arrays;
      }

module _ {doc : ℕ} {text : List ℕ} {list₀ stack₀ list stack : Lent} {c : Cursor} (s : Standing doc text list₀ stack₀ list stack c) where
  -- what the code needs of the counts: none can overflow
  pub record Bounds : Type 0 where
    pub steps : c.lexemes + c.spaces ≤ c.at
    pub dropped : c.dropped ≤ c.at

  pub bounds : Bounds
  bounds =
      record {
        steps = s.moved;
        dropped = omega (arith, s.counted, parts s.past);
      }

  -- the innermost opener, as the stack has it
  pub top-code : (0 < c.depth) → get_or stack.arrays.kinds (c.depth - 1) 0 ≡ innermost (codes doc s.past)
  top-code h = rw s.counted.depth (sym (stack-top-kind (opened doc s.past) stack.arrays s.on_stack (omega (arith, s.counted.depth))))

  pub top-none : c.depth ≡ 0 → innermost (codes doc s.past) ≡ Nothing
  top-none h = ap (λ (os : List Lexeme). innermost (map (λ l. l.kind) os)) (none_open (opened doc s.past) (omega (arith, s.counted.depth)))

  pub top-opener : (0 < c.depth) → is_opener (get_or stack.arrays.kinds (c.depth - 1) 0) ≡ true
  top-opener h = rw (top-code h) (innermost-opens (codes doc s.past) s.openers (omega (arith, s.counted.depth, length-map (opened doc s.past) (λ l. l.kind))))

  -- the note of a refusal: the innermost opener's span, as the stack has it
  pub note-some : (number : ℕ) → 0 < c.depth → between AnotherDue UnclosedFormat number ≡ true →
      note_of number (opened doc s.past) ≡ some (span_of (get_or stack.arrays.words ((c.depth - 1) * 2) 0) (get_or stack.arrays.words ((c.depth - 1) * 2 + 1) 0))
  note-some number h b = rw s.counted.depth (note-top number (opened doc s.past) stack.arrays s.on_stack (omega (arith, s.counted.depth)) b)

  pub note-none : (number : ℕ) → c.depth ≡ 0 → note_of number (opened doc s.past) ≡ none
  note-none number h = ap (note_of number) (none_open (opened doc s.past) (omega (arith, s.counted.depth)))

  pub note-other : (number : ℕ) → between AnotherDue UnclosedFormat number ≡ false → note_of number (opened doc s.past) ≡ none
  note-other number b = note-without number (opened doc s.past) b

  -- the call's answer where it ends here
  pub answer : (e : End) → trace_in (places_in list₀) (places_in stack₀) text ≡ record { taken = s.past; end = e } →
      lexing doc (places_in list₀) (places_in stack₀) text ≡
      record { verdict = verdict_of doc c.at (opened doc s.past) e; lexemes = c.lexemes; steps = c.lexemes + c.spaces; kept = c.at - c.dropped; dropped = c.dropped; deepest = c.deepest }
  unfolding lexing lexed_of
  answer e q =
      let n : Counted doc s.past c = s.counted in
      let steps : c.lexemes + c.spaces ≡ length s.past = omega (arith, n.lexemes, n.spaces, steps-parts s.past) in
      let kept : c.at - c.dropped ≡ length (joined (lexemes_of s.past)) = omega (arith, n.at, n.dropped, parts s.past) in
      rw (q, steps, kept, n.at, n.lexemes, n.dropped, n.deepest)

  pub listing-here : (e : End) → trace_in (places_in list₀) (places_in stack₀) text ≡ record { taken = s.past; end = e } →
      listing doc (places_in list₀) (places_in stack₀) text ≡ listed_of (placed doc 0 s.past)
  unfolding listing
  listing-here e q = rw q

  -- the trace of the text that is left
  abbrev ahead : Trace
  ahead = trace_from (codes doc s.past) 0 (drop c.at text)

  -- where the rest gives no further step, the call ends here
  ends-here : (e : End) → within (places_in stack₀) c.depth (places_in list₀ - c.lexemes) ahead ≡ ends e →
      trace_in (places_in list₀) (places_in stack₀) text ≡ record { taken = s.past; end = e }
  ends-here e q = s.whole ∙ ap (behind s.past) q ∙ behind-ends s.past e

  -- at the text's end
  pub standing-end : length text ≤ c.at → trace_in (places_in list₀) (places_in stack₀) text ≡ record { taken = s.past; end = at_end (codes doc s.past) }
  standing-end h =
      ends-here (at_end (codes doc s.past))
      (rw (trace-ended (codes doc s.past) (drop c.at text) (omega (arith, length-drop c.at text)))
      (within-ends (places_in stack₀) c.depth (places_in list₀ - c.lexemes) (at_end (codes doc s.past))))

  module _ (h : c.at < length text) where
    -- a step that the text refuses
    pub standing-stop : (number from n : ℕ) → step (innermost (codes doc s.past)) (drop c.at text) ≡ stop number from n →
        trace_in (places_in list₀) (places_in stack₀) text ≡ record { taken = s.past; end = stopped number from n }
    standing-stop number from n e =
        ends-here (stopped number from n)
        (rw (trace-stopped (codes doc s.past) (drop c.at text) number from n (omega (arith, length-drop c.at text)) e)
        (within-ends (places_in stack₀) c.depth (places_in list₀ - c.lexemes) (stopped number from n)))

    module _ (k n : ℕ) (moves : 0 < n) (fits : c.at + n ≤ length text) (e : step (innermost (codes doc s.past)) (drop c.at text) ≡ found k n) where
      -- the step that was found, and the trace after it
      abbrev now : Taken
      now = taken k (take n (drop c.at text))

      abbrev later : Trace
      later = trace_from (codes_after (codes doc s.past) k) 0 (drop n (drop c.at text))

      now-later : ahead ≡ after now later
      now-later = trace-found (codes doc s.past) (drop c.at text) k n (omega (arith, length-drop c.at text)) moves e

      now-length : length now.bytes ≡ n
      now-length = omega (arith, length-take n (drop c.at text), length-drop c.at text)

      -- a lexeme for which there is no room
      full-stack : is_opener k && leb (places_in stack₀) c.depth ≡ true →
          trace_in (places_in list₀) (places_in stack₀) text ≡ record { taken = s.past; end = stopped StackFull 0 n }
      full-stack a =
          ends-here (stopped StackFull 0 n)
          (rw now-later (within-full-stack (places_in stack₀) c.depth (places_in list₀ - c.lexemes) now later a ∙ rw now-length))

      full-list : is_opener k && leb (places_in stack₀) c.depth ≡ false → not (is_space k) && leb (places_in list₀) c.lexemes ≡ true →
          trace_in (places_in list₀) (places_in stack₀) text ≡ record { taken = s.past; end = stopped ListFull 0 n }
      full-list a b =
          let left : ℕ = places_in list₀ - c.lexemes in
          let spent : not (is_space k) && eqb left 0 ≡ true = rw (none_left (places_in list₀) c.lexemes) at b in
          ends-here (stopped ListFull 0 n) (rw now-later (within-full-list (places_in stack₀) c.depth left now later a spent ∙ rw now-length))

      pub standing-full : (number : ℕ) → no_room_of (places_in stack₀) (places_in list₀) c k ≡ number → (number ≡ 0 → ⊥) →
          trace_in (places_in list₀) (places_in stack₀) text ≡ record { taken = s.past; end = stopped number 0 n }
      unfolding no_room_of
      standing-full number f full =
          decide (is_opener k && leb (places_in stack₀) c.depth)
          (λ a. let due : StackFull ≡ number = rw a at f in rw (← due) (full-stack a))
          (λ a. decide (not (is_space k) && leb (places_in list₀) c.lexemes)
          (λ b. let due : ListFull ≡ number = rw (a, b) at f in rw (← due) (full-list a b))
          (λ b. let due : 0 ≡ number = rw (a, b) at f in absurd (full (sym due))))

      -- the whole call's trace, with the step that was found among those behind
      whole-on : no_room_of (places_in stack₀) (places_in list₀) c k ≡ 0 →
          trace_in (places_in list₀) (places_in stack₀) text ≡
          behind (s.past ++ (now ∷ []))
          (within (places_in stack₀) (advance_of c k (c.at + n)).depth (places_in list₀ - (advance_of c k (c.at + n)).lexemes)
          (trace_from (codes doc (s.past ++ (now ∷ []))) 0 (drop (advance_of c k (c.at + n)).at text)))
      whole-on f =
          let places : ℕ = places_in stack₀ in
          let left : ℕ = places_in list₀ - c.lexemes in
          let m : Advanced c k (c.at + n) (advance_of c k (c.at + n)) = advanced c k (c.at + n) s.deeper in
          let listable : not (is_space k) && eqb left 0 ≡ false = rw (none_left (places_in list₀) c.lexemes) at (has_room (places_in stack₀) (places_in list₀) c k f).1 in
          s.whole ∙ ap (λ (t : Trace). behind s.past (within places c.depth left t)) now-later
          ∙ ap (behind s.past) (within-after places c.depth left now later (has_room (places_in stack₀) (places_in list₀) c k f).0 listable)
          ∙ behind-after s.past now (within places (depth_after c.depth k) (room_after left k) later)
          ∙ rw (m.depth, ← (room_after_lem (places_in list₀) c k (c.at + n)), codes-snoc doc s.past now, m.at, drop-drop n c.at text)

      -- a lexeme for which there is room
      pub standing_on : no_room_of (places_in stack₀) (places_in list₀) c k ≡ 0 →
          Standing doc text list₀ stack₀ (put_if (not (is_space k)) c.lexemes (lexeme k (span doc c.at (c.at + n))) list) (put_if (is_opener k) c.depth (lexeme k (span doc c.at (c.at + n))) stack) (advance_of c k (c.at + n))
      standing_on f =
          let c₁ : Cursor = advance_of c k (c.at + n) in
          let past₁ : List Taken = s.past ++ (now ∷ []) in
          let o : Lexeme = lexeme k (span doc c.at (c.at + n)) in
          let m : Advanced c k (c.at + n) c₁ = advanced c k (c.at + n) s.deeper in
          let counted₁ : Counted doc past₁ c₁ = counted-snoc doc s.past now c (c.at + n) s.counted (omega (arith, now-length)) in
          let here : last doc s.past now ≡ o = rw (now-length, ← s.counted.at) in
          let many : c.lexemes ≡ length (listed_of (placed doc 0 s.past)) = s.counted.lexemes ∙ sym (listed_kept doc 0 s.past) in
          let depth₁ : depth_after c.depth k ≤ places_in stack₀ =
          decide (is_opener k) (λ b. omega (arith, depth-opens c.depth k b, room-stack (places_in stack₀) (places_in list₀) c k f b)) (λ b. omega (arith, depth-rest c.depth k b, s.shallow)) in
          let words : span_of (low o.at) (high o.at) ≡ o.at = span-of-words o.at (omega (arith, s.small)) (omega (arith, s.small)) in
          let above : is_opener k ≡ true → c.depth < c₁.deepest = λ b. omega (arith, depth-opens c.depth k b, m.deepest) in
          record {
            small = s.small;
            id = s.id;
            past = past₁;
            counted = counted₁;
            inside = omega (arith, m.at);
            moved = omega (arith, m.at, m.steps, s.moved);
            whole = whole-on f;
            room = decide (is_space k) (λ b. omega (arith, lexemes-same c k (c.at + n) b, s.room)) (λ b. omega (arith, lexemes-more c k (c.at + n) b, room-list (places_in stack₀) (places_in list₀) c k f b));
            shallow = omega (arith, m.depth, depth₁);
            deeper = omega (arith, counted₁.depth, counted₁.deepest, open-deepest doc 0 [] past₁);
            deepest = omega (arith, m.deepest, s.deepest, depth₁);
            openers = rw (codes-snoc doc s.past now) (openers-after (codes doc s.past) k s.openers);
            listed = list-after doc s.past now o here c many list list₀ s.listed (λ b. room-list (places_in stack₀) (places_in list₀) c k f b);
            on_stack = rw (opened-snoc doc s.past now, here, s.counted.depth)
                (stack-after (opened doc s.past) o stack s.on_stack words
                (λ b. omega (arith, room-stack (places_in stack₀) (places_in list₀) c k f b, s.counted.depth, s.untouched.kinds_length, s.untouched.words_length)));
            untouched = untouched-after (is_opener k) c.deepest c₁.deepest c.depth o (omega (arith, m.deepest)) above s.untouched;
          }
