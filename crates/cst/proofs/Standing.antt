-- Where the search for the closer stands: the parts behind it are listed in the arrays, and those ahead are still to be found.
use Prim.Native.Nat.{ℕ, suc, ◌+◌, ◌-◌, ◌≤◌, ◌<◌}
use native.Mathlib.Numerals.{add-one}
use native.Mathlib.Omega.{arith}
use mathlib.Core.Path.{◌≡◌, refl, sym, ap, ◌∙◌}
use mathlib.Core.List.{List, [], ◌∷◌, ◌++◌, append_assoc, append-nil}
use lib.Dec.{leb, eqb}
use lib.ListN.{length, take, drop, length-append, drop_of_length-le}
use borrow.Author.Tests.{leb-true, leb-false, eqb-true}
use Rattle.rules.specs.Refusals.{ListFull, NoString}
use Rattle.rules.specs.Spans.{Span, nowhere, is_bad}
use Rattle.rules.specs.Answers.{Refusal, Answer, given, refused, refusal, refuse, accepted}
use Rattle.rules.specs.Kinds.{is_quote_open}
use Rattle.rules.specs.Lent.{Lexeme, Arrays, array_places, contents, lexemes_from, holding}
use Rattle.rules.specs.Parts.{Effect, closes, refuses, passes, yields, effect, Parts, at_depth1, deeper, no_parts, part_then, follow_effect, parts_from, parts_of, in_room, parts_in, parts_call, ListsParts}
use Rattle.rules.proofs.Lent.{AsLong, holding-long}
use Rattle.rules.proofs.Text.{branch}
use Rattle.list.specs.Entries.{put_in}
use Rattle.list.proofs.Entries.{put-behind}
use Rattle.cst.specs.Search.{answered, opener_verdict, or_full, Searched}

-- at a lexeme that is passed over at most one more is opened
depth1-opens : (l : Lexeme) (d : ℕ) (h : Span) → at_depth1 l ≡ passes d h → d ≡ 2
depth1-opens l d h e = grind arith

deeper-opens : (depth : ℕ) (hole : Span) (l : Lexeme) (d : ℕ) (h : Span) → deeper depth hole l ≡ passes d h → d ≤ suc depth
deeper-opens depth hole l d h e = grind arith

passed-opens : (depth : ℕ) (hole : Span) (l : Lexeme) (d : ℕ) (h : Span) → effect depth hole l ≡ passes d h → d ≤ suc depth
unfolding effect
passed-opens depth hole l d h e =
    branch (is_bad l.at) e (λ t f. cc) (λ t e.
    branch (eqb depth 1) e
    (λ one f. omega (arith, eqb-true depth 1 one, depth1-opens l d h f))
    (λ one f. deeper-opens depth hole l d h f))

-- what an answer gives is no refusal
answered-given : (t : Effect) {e : Effect} → given e ≡ answered t → t ≡ e
answered-given closes g = cc
answered-given (refuses n s) g = cc
answered-given (passes d h) g = cc
answered-given (yields p) g = cc

-- and what it refuses has no note
answered-refused : (t : Effect) {r : Refusal} → refused r ≡ answered t → (t ≡ refuses r.number r.at) × (refused r ≡ refuse {A = ℕ} r.number r.at)
answered-refused closes g = cc
answered-refused (refuses n s) {r} g = let same : r ≡ refusal n s = cc in rw same (refl, refl)
answered-refused (passes d h) g = cc
answered-refused (yields p) g = cc

-- what is passed over in a full list is passed over in any
full-passes : (room n : ℕ) (t : Effect) (d : ℕ) (h : Span) → or_full room n t ≡ passes d h → t ≡ passes d h
unfolding or_full
full-passes room n closes d h e = e
full-passes room n (refuses k s) d h e = e
full-passes room n (passes a g) d h e = e
full-passes room n (yields p) d h e = branch (leb room n) e (λ t f. cc) (λ t f. f)

-- what completes a part in a full list does so in any, and there is a place for it
full-yields : (room n : ℕ) (t : Effect) (p : Lexeme) → or_full room n t ≡ yields p → (t ≡ yields p) × (n < room)
unfolding or_full
full-yields room n closes p e = cc
full-yields room n (refuses k s) p e = cc
full-yields room n (passes d h) p e = cc
full-yields room n (yields q) p e = branch (leb room n) e (λ t f. cc) (λ t f. (f, leb-false room n t))

-- parts in a list of so many places
abbrev pub within : ℕ → Parts → Parts
within room p = in_room room p.found p.answer

-- parts that are behind, and what is ahead
abbrev pub behind : List Lexeme → Parts → Parts
behind past p = record { found = past ++ p.found; answer = p.answer }

-- what closes the search in a full list leaves its place and no more parts
full-closes : (room n : ℕ) (t : Effect) (place : ℕ) (go : ℕ → Span → Parts) → or_full room n t ≡ closes → within (room - n) (follow_effect t place go) ≡ no_parts (given place)
unfolding or_full
full-closes room n closes place go e = refl
full-closes room n (refuses j a) place go e = cc
full-closes room n (passes d h) place go e = cc
full-closes room n (yields p) place go e = branch (leb room n) e (λ t f. cc) (λ t f. cc)

-- and what is refused there its refusal
full-refuses : (room n : ℕ) (t : Effect) (k : ℕ) (s : Span) (place : ℕ) (go : ℕ → Span → Parts) → or_full room n t ≡ refuses k s → within (room - n) (follow_effect t place go) ≡ no_parts (refuse k s)
unfolding or_full
full-refuses room n closes k s place go e = cc
full-refuses room n (refuses j a) k s place go e = cc
full-refuses room n (passes d h) k s place go e = cc
full-refuses room n (yields p) k s place go e =
    branch (leb room n) e
    (λ t f.
    let full : room - n ≡ 0 = omega (arith, leb-true room n t) in
    let same : refuses ListFull p.at ≡ refuses k s = f in
    rw full (cc))
    (λ t f. cc)

-- of a list that was entered at `start` with this parts list: the search is at `place`, with that one, this depth and hole open, and so many parts listed
pub record Stands (ls : List Lexeme) (start : ℕ) (parts₀ parts : Arrays) (place depth : ℕ) (hole : Span) (n : ℕ) : Type 0 where
  pub past : List Lexeme
  pub counted : n ≡ length past
  pub fits : n ≤ array_places parts₀
  pub listed : parts ≡ holding past parts₀
  pub whole : within (array_places parts₀) (parts_from start 1 nowhere (drop start ls)) ≡ behind past (within (array_places parts₀ - n) (parts_from place depth hole (drop place ls)))
  pub upper : depth ≤ suc place
  pub fewer : n ≤ place

module _ {ls : List Lexeme} {start : ℕ} {parts₀ parts : Arrays} {place depth : ℕ} {hole : Span} {n : ℕ} (st : Stands ls start parts₀ parts place depth hole n) where
  -- the parts list is as long as it was
  pub as_long : AsLong parts₀ parts
  as_long = rw st.listed (holding-long st.past parts₀ (omega (arith, st.counted, st.fits)))

  -- the search is over: what is ahead is an answer and no more parts
  stands-out : (a : Answer ℕ) → within (array_places parts₀ - n) (parts_from place depth hole (drop place ls)) ≡ no_parts a → Searched (parts_from start 1 nowhere (drop start ls)) a n parts₀ parts
  stands-out a e =
      let all : within (array_places parts₀) (parts_from start 1 nowhere (drop start ls)) ≡ record { found = st.past; answer = a } =
      st.whole ∙ ap (behind st.past) e ∙ rw (append-nil st.past) in
      record {
        answered = sym (ap (λ (p : Parts). p.answer) all);
        counted = st.counted ∙ sym (ap (λ (p : Parts). length p.found) all);
        listed = st.listed ∙ sym (ap (λ (p : Parts). holding p.found parts₀) all);
      }

module _ {ls : List Lexeme} {start : ℕ} {parts₀ parts : Arrays} {place depth : ℕ} {hole : Span} {n : ℕ} (st : Stands ls start parts₀ parts place depth hole n)
    (l : Lexeme) (here : drop place ls ≡ l ∷ drop (place + 1) ls) where
  -- what the lexeme there does
  abbrev does : Effect
  does = or_full (array_places parts₀) n (effect depth hole l)

  -- and what lies ahead after it
  abbrev ahead : ℕ → Span → Parts
  ahead d h = parts_from (suc place) d h (drop (suc place) ls)

  -- what is ahead of the lexeme follows from what it does
  followed : parts_from place depth hole (drop place ls) ≡ follow_effect (effect depth hole l) place ahead
  followed = ap (parts_from place depth hole) (rw add-one at here)

  -- after a lexeme that is passed over
  pub stands-passes : {d : ℕ} {h : Span} → given (passes d h) ≡ answered does → Stands ls start parts₀ parts (place + 1) d h n
  stands-passes {d} {h} e =
      let t : effect depth hole l ≡ passes d h = full-passes (array_places parts₀) n (effect depth hole l) d h (answered-given does e) in
      let o : d ≤ suc depth = passed-opens depth hole l d h t in
      let next : parts_from place depth hole (drop place ls) ≡ ahead d h = followed ∙ rw t in
      rw add-one (record {
        past = st.past;
        counted = st.counted;
        fits = st.fits;
        listed = st.listed;
        whole = st.whole ∙ rw next;
        upper = omega (arith, o, st.upper);
        fewer = omega (arith, st.fewer);
      })

  -- after a lexeme that completes a part
  pub stands-yields : {p q : Lexeme} {parts' : Arrays} → given (yields p) ≡ answered does → q ≡ p → parts' ≡ put_in n q parts → Stands ls start parts₀ parts' (place + 1) 1 nowhere (n + 1)
  stands-yields {p} e same put =
      let t = full-yields (array_places parts₀) n (effect depth hole l) p (answered-given does e) in
      let next : parts_from place depth hole (drop place ls) ≡ part_then p (ahead 1 nowhere) = followed ∙ rw t.0 in
      let one : array_places parts₀ - n ≡ suc (array_places parts₀ - suc n) = omega (arith, t.1) in
      let limited : within (array_places parts₀ - n) (parts_from place depth hole (drop place ls)) ≡ part_then p (within (array_places parts₀ - suc n) (ahead 1 nowhere)) = rw (next, one) in
      rw (add-one place, add-one n, put, same) (record {
        past = st.past ++ (p ∷ []);
        counted = omega (arith, length-append st.past (p ∷ []), st.counted);
        fits = omega (arith, t.1);
        listed = rw (st.listed, st.counted) (put-behind st.past p parts₀ (omega (arith, st.counted, t.1)));
        whole = st.whole ∙ ap (behind st.past) limited ∙ rw (append_assoc st.past (p ∷ []) (within (array_places parts₀ - suc n) (ahead 1 nowhere)).found);
        upper = omega arith;
        fewer = omega (arith, st.fewer);
      })

  -- at the closer
  pub stands-closed : {at : ℕ} → at ≡ place → given closes ≡ answered does → Searched (parts_from start 1 nowhere (drop start ls)) (given at) n parts₀ parts
  stands-closed same e =
      rw same (stands-out st (given place) (rw followed (full-closes (array_places parts₀) n (effect depth hole l) place ahead (answered-given does e))))

  -- at a lexeme that is refused
  pub stands-refused : {r : Refusal} → refused r ≡ answered does → Searched (parts_from start 1 nowhere (drop start ls)) (refused r) n parts₀ parts
  stands-refused {r} e =
      let known = answered-refused does e in
      rw known.1 (stands-out st (refuse r.number r.at) (rw followed (full-refuses (array_places parts₀) n (effect depth hole l) r.number r.at place ahead known.0)))

-- the parts call, by the parts of the string there
lists-as : (list : Arrays) (count place : ℕ) (parts : Arrays) (p : Parts) → parts_in (array_places parts) place (lexemes_from list count place) ≡ p →
    ListsParts list count place parts p.answer (length p.found) (holding p.found parts)
unfolding parts_call
lists-as list count place parts p e =
    record {
      answered = sym (ap (λ (q : Parts). q.answer) e);
      counted = sym (ap (λ (q : Parts). length q.found) e);
      listed = sym (ap (λ (q : Parts). holding q.found parts) e);
    }

-- the call where the list has ended
pub lists-past : (list : Arrays) (count place : ℕ) (parts : Arrays) → length (take count (contents list)) ≤ place →
    ListsParts list count place parts (refuse NoString nowhere) 0 parts
unfolding parts_in parts_of
lists-past list count place parts ended =
    lists-as list count place parts (no_parts (refuse NoString nowhere)) (rw (drop_of_length-le (take count (contents list)) {i = place} ended))

-- an opener that is refused leaves its refusal
opener-stops : (place : ℕ) (l : Lexeme) (ls : List Lexeme) (r : Refusal) → refused r ≡ opener_verdict l → parts_of place (l ∷ ls) ≡ no_parts (refused r)
unfolding opener_verdict parts_of
opener-stops place l ls r e =
    branch (is_bad l.at) (sym e) (λ t f. rw t (cc)) (λ t e.
    branch (is_quote_open l.kind) e (λ u f. cc) (λ u f. rw (t, u) (cc)))

-- and so does the call
pub lists-stopped : (list : Arrays) (count place : ℕ) (parts : Arrays) (l : Lexeme) → lexemes_from list count place ≡ l ∷ lexemes_from list count (place + 1) →
    (r : Refusal) → refused r ≡ opener_verdict l → ListsParts list count place parts (refused r) 0 parts
unfolding parts_in
lists-stopped list count place parts l here r e =
    lists-as list count place parts (no_parts (refused r)) (rw (here, opener-stops place l (lexemes_from list count (place + 1)) r e))

-- after an opener the parts are those from the next place on
opener-goes : (place : ℕ) (l : Lexeme) (ls : List Lexeme) → accepted ≡ opener_verdict l → parts_of place (l ∷ ls) ≡ parts_from (suc place) 1 nowhere ls
unfolding opener_verdict parts_of
opener-goes place l ls e =
    branch (is_bad l.at) (sym e) (λ t f. cc) (λ t e. branch (is_quote_open l.kind) e (λ u f. rw (t, u)) (λ u f. cc))

-- and the call lists what the search from there finds
pub lists-searched : (list : Arrays) (count place : ℕ) (parts parts' : Arrays) (l : Lexeme) → lexemes_from list count place ≡ l ∷ lexemes_from list count (place + 1) →
    accepted ≡ opener_verdict l → (a : Answer ℕ) (n : ℕ) →
    Searched (parts_from (place + 1) 1 nowhere (lexemes_from list count (place + 1))) a n parts parts' → ListsParts list count place parts a n parts'
unfolding parts_in
lists-searched list count place parts parts' l here e a n found =
    let rest : List Lexeme = lexemes_from list count (place + 1) in
    let all : parts_in (array_places parts) place (lexemes_from list count place) ≡ within (array_places parts) (parts_from (place + 1) 1 nowhere rest) =
    rw (here, add-one place) (rw (opener-goes place l (lexemes_from list count (suc place)) e)) in
    rw (found.answered, found.counted, found.listed) (lists-as list count place parts (within (array_places parts) (parts_from (place + 1) 1 nowhere rest)) all)
