-- The loop of `run_in`: where it stands (`Running`), that a lexeme takes it further, and that each way out says what `Runs` promises.
use Rattle.std.specs.Prelude.{Option as CodeOption, Some, Result, Err, Ok}
use Prim.Native.Nat.{ℕ, suc, ◌+◌, ◌-◌, ◌≤◌, ◌<◌, ◌^◌}
use mathlib.Core.Path.{◌≡◌, refl, sym, ap, ◌∙◌}
use mathlib.Core.List.{List}
use mathlib.Core.Logic.{inl, inr}
use mathlib.Core.Bool.{Bool, true, false, cond, not, false≢true}
use native.Mathlib.Omega.{arith}
use lib.Dec.{leb, eqb}
use lib.ListN.{length, drop, get_or, set, length-drop}
use lib.Seq.{get_or-set_same}
use borrow.Author.Tests.{le-leb, lt-leb, ne_eqb, eqb-true}
use Rattle.rules.specs.Reasons.{number_of}
use Rattle.rules.specs.Refusals.{StackFull, ListFull}
use Rattle.rules.specs.declared.refusal.Reason.{Reason}
use Rattle.rules.specs.declared.refusal.Reason.TheVariants.{StackFull as StackReason, ListFull as ListReason}
use Rattle.rules.specs.Spans.{span, span_of}
use Rattle.rules.specs.Kinds.{FormatDouble, FormatTriple, Space, is_space, is_opener, is_closer, Blank}
use Rattle.rules.specs.Step.{step, found}
use Rattle.rules.specs.Lent.{lexeme, Arrays, Lent, places_in}
use Rattle.rules.specs.Lexing.{depth_after}
use Rattle.rules.proofs.Bounds.{found_inside}
use Rattle.rules.proofs.Text.{decide}
use Rattle.source.specs.declared.Span.{Span}
use Rattle.token.specs.Codes.{code_of, state_meant, if_opener}
use Rattle.token.specs.declared.State.{State as StateCode}
use Rattle.token.specs.declared.Token.{Token}
use Rattle.rules.proofs.Lent.{same-places}
use Rattle.list.specs.Entries.{put_in}
use Rattle.list.proofs.Entries.{put-there}
use Rattle.sublexers.proofs.Outcomes.{found-means}
use Rattle.lexer.specs.declared.Cursor.{Cursor}
use Rattle.sublexers.specs.declared.Fault.{Fault}
use Rattle.sublexers.specs.declared.Match.{Match}
use Rattle.lexer.specs.declared.Ran.{Ran}
use Rattle.lexer.specs.Cursor.{advance_of, no_room_of}
use Rattle.lexer.specs.Going.{State, state_at, stack_codes, Course, ends_after, innermost_in, lexeme_in, put_if, Goes, stay, on}
use Rattle.lexer.specs.Memory.{TopState}
use Rattle.sublexers.specs.Outcome.{lexeme_to, refused_at, outcome, step_meant, innermost_of}
use Rattle.lexer.specs.Results.{refused_by, CanAdvance}
use Rattle.lexer.specs.Mode.{mode_of}
use Rattle.lexer.specs.declared.Mode.{Mode}
use Rattle.lexer.specs.declared.Behind.{Behind}
use Rattle.lexer.specs.declared.Behind.TheVariants.{Space as SpaceBehind, Blank as BlankBehind}
use Rattle.lexer.specs.Running.{CanRun, ran_full, behind_of, by_text, by_room, Runs, reached_at, reached, halted}
use Rattle.lexer.proofs.Opening.{opened-code}
use Rattle.lexer.proofs.Parts.{full-opener, full-other, opener_listed}
use Rattle.lexer.proofs.Standing.{Advanced, advanced, room-stack, depth-opens, depth-rest, depth-stays}
use Rattle.lexer.proofs.Ahead.{Ahead, space-ahead, blank-ahead}
use Rattle.lexer.proofs.Loop.{no-state, outcome-found, fault-means}
use Rattle.lexer.proofs.Going.{put-yes, put-no, Long, goes-long}
use Rattle.rules.proofs.SpacesAside.{space-opens, space-depth}

-- the state that the stack gives is that of its innermost code
pub top-code-in : (depth : ℕ) (sk : List ℕ) (top : CodeOption StateCode) → TopState depth sk top → innermost_of top ≡ innermost_in depth sk
top-code-in depth sk top t = decide (eqb depth 0)
    (λ z. no-state top (t ∙ rw z) ∙ rw z)
    (λ z. opened-code top (get_or sk (depth - 1) 0) (t ∙ rw z) ∙ rw z)

-- a Space takes no place
space-fits : (stack places : ℕ) (c : Cursor) (k : ℕ) → is_space k ≡ true → no_room_of stack places c k ≡ 0
unfolding no_room_of
space-fits stack places c k b = rw (b, space-opens k b)

-- what opens nothing is no format opener
pub ends-not : (b : Bool) (k : ℕ) → is_opener k ≡ false → ends_after b k ≡ false
unfolding is_opener
ends-not false k o = refl
ends-not true k o = decide (eqb k FormatDouble)
    (λ e. absurd (false≢true (sym o ∙ rw (eqb-true k FormatDouble e))))
    (λ e. decide (eqb k FormatTriple) (λ f. absurd (false≢true (sym o ∙ rw (eqb-true k FormatTriple f)))) (λ f. rw (e, f)))

pub space-ends : (b : Bool) (k : ℕ) → k ≡ Space → ends_after b k ≡ false
space-ends b k z = ends-not b k (space-opens k (rw z))

module _ (w : Course) (from : State) where
  pub record Running (now : State) (top : CodeOption StateCode) : Type 0 where
    pub small : w.shift + length w.text < 2 ^ 48
    pub before : w.stop ≤ length w.text
    pub inside : now.cur.at ≤ length w.text
    pub shallow : now.cur.depth ≤ w.stack
    pub deeper : now.cur.depth ≤ now.cur.deepest
    pub steps : now.cur.lexemes + now.cur.spaces ≤ w.shift + now.cur.at
    pub dropped : now.cur.dropped ≤ w.shift + now.cur.at
    pub going : w.ends now.kind ≡ false
    pub state : TopState now.cur.depth (stack_codes now) top
    pub stack_places : w.stack ≡ places_in from.stack
    -- the steps that were taken
    pub goes : Goes w from now

  pub running-start : (top : CodeOption StateCode) → CanRun w from top → w.stack ≡ places_in from.stack → Running from top
  running-start top can p = record {
    small = can.small;
    before = can.before;
    inside = can.inside;
    shallow = can.stack;
    deeper = can.deepest;
    steps = can.steps;
    dropped = can.dropped;
    going = can.going;
    state = can.innermost;
    stack_places = p;
    goes = stay;
  }

module _ {w : Course} {from now : State} {top : CodeOption StateCode} (s : Running w from now top) where
  pub as_long : Long from now
  as_long = goes-long now s.goes

  module _ (h : now.cur.at < w.stop) where
    here : now.cur.at < length w.text
    here = omega (arith, s.before)

    left : 0 < length (drop now.cur.at w.text)
    left = omega (arith, here, length-drop now.cur.at w.text)

    -- what a lexeme that was found says of the text
    pub record Taken (k e : ℕ) : Type 0 where
      pub is : lexeme_to k e ≡ outcome now.cur.at (step (innermost_of top) (drop now.cur.at w.text))
      pub moves : now.cur.at < e
      pub fits : e ≤ length w.text

    pub taken : (answer : Result Match Fault) (m : Match) → answer ≡ Ok m → step_meant answer ≡ outcome now.cur.at (step (innermost_of top) (drop now.cur.at w.text)) → Taken m.kind m.end
    taken answer m a o =
        let is : lexeme_to m.kind m.end ≡ outcome now.cur.at (step (innermost_of top) (drop now.cur.at w.text)) = (found-means now.cur.at (step (innermost_of top) (drop now.cur.at w.text)) answer m a o).1 in
        let x : (n : ℕ) × (step (innermost_of top) (drop now.cur.at w.text) ≡ found m.kind n) × (m.end ≡ now.cur.at + n) =
        outcome-found now.cur.at m.kind m.end (step (innermost_of top) (drop now.cur.at w.text)) is in
        let i : (0 < x.0) × (x.0 ≤ length (drop now.cur.at w.text)) = found_inside (innermost_of top) (drop now.cur.at w.text) m.kind x.0 left x.1 in
        let d : length (drop now.cur.at w.text) ≡ length w.text - now.cur.at = length-drop now.cur.at w.text in
        let e : m.end ≡ now.cur.at + x.0 = x.2 in
        record { is = is; moves = omega arith; fits = omega (arith, here) }

    -- its code is its token's
    pub token-code : (answer : Result Match Fault) (m : Match) → answer ≡ Ok m → step_meant answer ≡ outcome now.cur.at (step (innermost_of top) (drop now.cur.at w.text)) → m.kind ≡ code_of m.token
    token-code answer m a o = (found-means now.cur.at (step (innermost_of top) (drop now.cur.at w.text)) answer m a o).0

    -- a lexeme that the text refuses
    pub refused-out : (answer : Result Match Fault) (r : Ran) (f : Fault) → answer ≡ Err f → r ≡ refused_by answer now.cur → step_meant answer ≡ outcome now.cur.at (step (innermost_of top) (drop now.cur.at w.text)) →
        Runs w from now.list now.stack r
    refused-out answer r f a q o =
        let says : refused_at (number_of f.reason) f.start f.end ≡ outcome now.cur.at (step (innermost_in now.cur.depth (stack_codes now)) (drop now.cur.at w.text)) =
        rw (top-code-in now.cur.depth (stack_codes now) top s.state) at (fault-means answer f a ∙ o) in
        rw (q, a) (halted now.cur now.kind f s.goes h s.going (by_text says))

    module _ {k e : ℕ} (t : Taken k e) where
      pub can-advance : w.stack < 2 ^ 63 → CanAdvance now.cur e
      can-advance p = record {
        forward = omega (arith, t.moves);
        small = omega (arith, t.fits, s.small);
        steps = omega (arith, s.steps, s.inside, s.small);
        dropped = omega (arith, s.dropped, s.inside, s.small);
        depth = s.deeper;
        shallow = omega (arith, s.shallow);
      }

      -- its offsets in the document are within the limit
      pub in-document : (w.shift + now.cur.at < 2 ^ 48) × (w.shift + e < 2 ^ 48)
      in-document = (omega (arith, s.inside, s.small), omega (arith, t.fits, s.small))

      -- it is the rules' step
      found_here : lexeme_to k e ≡ outcome now.cur.at (step (innermost_in now.cur.depth (stack_codes now)) (drop now.cur.at w.text))
      found_here = rw (top-code-in now.cur.depth (stack_codes now) top s.state) at t.is

      -- there is no room for it: 30 of an opener, 31 of any lexeme
      full-stop : (reason : Reason) → number_of reason ≡ no_room_of w.stack w.places now.cur k → (number_of reason ≡ 0 → ⊥) → Runs w from now.list now.stack (ran_full now.cur now.cur.at e reason)
      full-stop reason f some_number = halted now.cur now.kind _ s.goes h s.going (by_room k found_here f some_number refl)

      pub stack-full : is_opener k ≡ true → w.stack ≤ now.cur.depth → Runs w from now.list now.stack (ran_full now.cur now.cur.at e StackReason)
      stack-full o le =
          let full : cond (leb w.stack now.cur.depth) StackFull (cond (leb w.places now.cur.lexemes) ListFull 0) ≡ StackFull = rw (le-leb w.stack now.cur.depth le) in
          full-stop StackReason (sym full ∙ full-opener w.stack w.places now.cur k (opener_listed k o) o) (λ z. absurd (omega arith))

      pub opener-unlisted : is_opener k ≡ true → now.cur.depth < w.stack → w.places ≤ now.cur.lexemes → Runs w from now.list now.stack (ran_full now.cur now.cur.at e ListReason)
      opener-unlisted o lt le =
          let full : cond (leb w.stack now.cur.depth) StackFull (cond (leb w.places now.cur.lexemes) ListFull 0) ≡ ListFull = rw (lt-leb w.stack now.cur.depth lt, le-leb w.places now.cur.lexemes le) in
          full-stop ListReason (sym full ∙ full-opener w.stack w.places now.cur k (opener_listed k o) o) (λ z. absurd (omega arith))

      pub other-unlisted : is_space k ≡ false → is_opener k ≡ false → w.places ≤ now.cur.lexemes → Runs w from now.list now.stack (ran_full now.cur now.cur.at e ListReason)
      other-unlisted b o le =
          let full : cond (leb w.places now.cur.lexemes) ListFull 0 ≡ ListFull = rw (le-leb w.places now.cur.lexemes le) in
          full-stop ListReason (sym full ∙ full-other w.stack w.places now.cur k b o) (λ z. absurd (omega arith))

      -- or there is
      pub opener-fits : is_opener k ≡ true → now.cur.depth < w.stack → now.cur.lexemes < w.places → no_room_of w.stack w.places now.cur k ≡ 0
      opener-fits o lt ll = sym (full-opener w.stack w.places now.cur k (opener_listed k o) o) ∙ rw (lt-leb w.stack now.cur.depth lt, lt-leb w.places now.cur.lexemes ll)

      pub other_fits : is_space k ≡ false → is_opener k ≡ false → now.cur.lexemes < w.places → no_room_of w.stack w.places now.cur k ≡ 0
      other_fits b o ll = sym (full-other w.stack w.places now.cur k b o) ∙ rw (lt-leb w.places now.cur.lexemes ll)

      -- one step more
      goes_one : {list' stack' : Lent} → no_room_of w.stack w.places now.cur k ≡ 0 → list' ≡ put_if (not (is_space k)) now.cur.lexemes (lexeme_in w k now.cur.at e) now.list →
          stack' ≡ put_if (is_opener k) now.cur.depth (lexeme_in w k now.cur.at e) now.stack → Goes w from (state_at (advance_of now.cur k e) k list' stack')
      goes_one {list'} {stack'} f l p =
          let x : (n : ℕ) × (step (innermost_in now.cur.depth (stack_codes now)) (drop now.cur.at w.text) ≡ found k n) × (e ≡ now.cur.at + n) =
          outcome-found now.cur.at k e (step (innermost_in now.cur.depth (stack_codes now)) (drop now.cur.at w.text)) found_here in
          on now (state_at (advance_of now.cur k e) k list' stack') s.goes
          (record { before = h; going = s.going; size = x.0; is = x.1; room = f; cursor = ap (advance_of now.cur k) x.2; list = rw x.2 at l; stack = rw x.2 at p })

      -- the loop goes on
      runs_on : (top' : CodeOption StateCode) {list' stack' : Lent} → no_room_of w.stack w.places now.cur k ≡ 0 → Goes w from (state_at (advance_of now.cur k e) k list' stack') → w.ends k ≡ false →
          TopState (advance_of now.cur k e).depth stack'.arrays.kinds top' → Running w from (state_at (advance_of now.cur k e) k list' stack') top'
      runs_on top' f g o t' =
          let m : Advanced now.cur k e (advance_of now.cur k e) = advanced now.cur k e s.deeper in
          let depth₁ : depth_after now.cur.depth k ≤ w.stack =
          decide (is_opener k) (λ b. omega (arith, depth-opens now.cur.depth k b, room-stack w.stack w.places now.cur k f b)) (λ b. omega (arith, depth-rest now.cur.depth k b, s.shallow)) in
          record {
            small = s.small;
            before = s.before;
            inside = omega (arith, m.at, t.fits);
            shallow = omega (arith, m.depth, depth₁);
            deeper = omega (arith, m.depth, m.deepest);
            steps = omega (arith, m.at, m.steps, s.steps, t.moves);
            dropped = omega (arith, m.at, m.dropped, s.dropped, t.moves);
            going = o;
            state = t';
            stack_places = s.stack_places;
            goes = g;
          }

      pub runs-less : {c' : Cursor} (j : ℕ) → c' ≡ advance_of now.cur j e → length w.text - c'.at < length w.text - now.cur.at
      runs-less j q =
          let m : Advanced now.cur j e (advance_of now.cur j e) = advanced now.cur j e s.deeper in
          rw q (omega (arith, m.at, t.moves, t.fits))

      pub ends_at : {c' : Cursor} → c' ≡ advance_of now.cur k e → c'.at ≡ e
      ends_at q = rw q (advanced now.cur k e s.deeper).at

      -- after a lexeme that opens nothing the stack still has its places, and what neither opens nor closes leaves the state as it is
      pub other-shallow : {c' : Cursor} → is_opener k ≡ false → c' ≡ advance_of now.cur k e → c'.depth ≤ length (stack_codes now)
      other-shallow o q =
          let m : Advanced now.cur k e (advance_of now.cur k e) = advanced now.cur k e s.deeper in
          rw q (omega (arith, m.depth, depth-rest now.cur.depth k o, s.shallow, s.stack_places, as_long.stack.kinds))

      pub other-top : {c' : Cursor} → is_opener k ≡ false → is_closer k ≡ false → c' ≡ advance_of now.cur k e → TopState c'.depth (stack_codes now) top
      other-top o n q =
          let m : Advanced now.cur k e (advance_of now.cur k e) = advanced now.cur k e s.deeper in
          rw (q, m.depth, depth-stays now.cur.depth k o n) s.state

      -- a Space: no array changes
      pub space-on : {c' : Cursor} → k ≡ Space → w.ends k ≡ false → c' ≡ advance_of now.cur Space e → Running w from (state_at c' k now.list now.stack) top
      space-on z n q =
          let b : is_space k ≡ true = rw z in
          let o : is_opener k ≡ false = space-opens k b in
          let f : no_room_of w.stack w.places now.cur k ≡ 0 = space-fits w.stack w.places now.cur k b in
          let m : Advanced now.cur k e (advance_of now.cur k e) = advanced now.cur k e s.deeper in
          rw (q, ← z) (runs_on top f (goes_one f (put-no _ _ now.list (ap not b)) (put-no _ _ now.stack o)) n (rw (m.depth, space-depth now.cur.depth k b) s.state))

      -- any other lexeme, where there is room for it
      module _ (listed : is_space k ≡ false) (room : no_room_of w.stack w.places now.cur k ≡ 0) {list' : Lent} (sp : Span)
          (span-here : span_of sp.low sp.high ≡ span w.doc (w.shift + now.cur.at) (w.shift + e))
          (put : list'.arrays ≡ put_in now.cur.lexemes (lexeme k (span_of sp.low sp.high)) now.list.arrays) where
        list_put : list' ≡ put_if (not (is_space k)) now.cur.lexemes (lexeme_in w k now.cur.at e) now.list
        list_put = put-yes now.cur.lexemes (lexeme_in w k now.cur.at e) now.list (ap not listed) (rw span-here at put)

        pub other-on : {c' : Cursor} (top' : CodeOption StateCode) → is_opener k ≡ false → w.ends k ≡ false → c' ≡ advance_of now.cur k e → TopState c'.depth (stack_codes now) top' → Running w from (state_at c' k list' now.stack) top'
        other-on top' o n q t' = rw q (runs_on top' room (goes_one room list_put (put-no _ _ now.stack o)) n (rw q at t'))

        module _ {stack' : Lent} (o : is_opener k ≡ true) (push : stack'.arrays ≡ put_in now.cur.depth (lexeme k (span_of sp.low sp.high)) now.stack.arrays) where
          opener-goes : Goes w from (state_at (advance_of now.cur k e) k list' stack')
          opener-goes = goes_one room list_put (put-yes now.cur.depth (lexeme_in w k now.cur.at e) now.stack o (rw span-here at push))

          pub opener-long : Long from (state_at (advance_of now.cur k e) k list' stack')
          opener-long = goes-long (state_at (advance_of now.cur k e) k list' stack') opener-goes

          -- it is innermost now
          opener-top : (top' : CodeOption StateCode) → state_meant top' ≡ if_opener k → TopState (advance_of now.cur k e).depth stack'.arrays.kinds top'
          opener-top top' state =
              let m : Advanced now.cur k e (advance_of now.cur k e) = advanced now.cur k e s.deeper in
              let back : suc now.cur.depth - 1 ≡ now.cur.depth = omega arith in
              let some-open : eqb (suc now.cur.depth) 0 ≡ false = ne_eqb (suc now.cur.depth) 0 (λ z. omega arith) in
              let r : now.cur.depth < w.stack = room-stack w.stack w.places now.cur k room o in
              let r' : now.cur.depth < places_in now.stack = omega (arith, s.stack_places, same-places as_long.stack) in
              let kinds : stack'.arrays.kinds ≡ set (stack_codes now) now.cur.depth k = ap (λ (a : Arrays). a.kinds) (push ∙ put-there now.cur.depth (lexeme k (span_of sp.low sp.high)) now.stack.arrays r') in
              rw (m.depth, depth-opens now.cur.depth k o, some-open, back, kinds, get_or-set_same (stack_codes now) now.cur.depth k 0 (omega arith)) state

          pub opener-on : {c' : Cursor} (top' : CodeOption StateCode) → w.ends k ≡ false → c' ≡ advance_of now.cur k e → state_meant top' ≡ if_opener k → Running w from (state_at c' k list' stack') top'
          opener-on top' n q state = rw q (runs_on top' room opener-goes n (opener-top top' state))

          -- or it ends the run
          pub opener-out : {c' : Cursor} (token : Token) → k ≡ code_of token → w.ends k ≡ true → c' ≡ advance_of now.cur k e → Runs w from list' stack' (reached_at c' token)
          opener-out token code n q = rw q (reached (advance_of now.cur k e) token (rw (← code) opener-goes) (inr (rw (← code) n)))

-- whitespace behind a lexeme, in the same turn
module _ {w : Course} {from now : State} {top : CodeOption StateCode} (s : Running w from now top) {at : ℕ} (here : now.cur.at ≡ at) where
  pub space-behind : {b : CodeOption Behind} {l : Behind} {e : ℕ} (m : Mode) → m ≡ mode_of top → b ≡ Some l → l ≡ SpaceBehind e → b ≡ behind_of w.text at w.stop m.stop → Ahead w.text at w.stop top Space e
  space-behind m kept p f q = space-ahead w.text at w.stop top s.before (rw f at p) (rw kept at q)

  pub blank-behind : {b : CodeOption Behind} {l : Behind} {e : ℕ} (m : Mode) → m ≡ mode_of top → b ≡ Some l → l ≡ BlankBehind e → b ≡ behind_of w.text at w.stop m.stop → Ahead w.text at w.stop top Blank e
  blank-behind m kept p f q = blank-ahead w.text at w.stop top s.before (rw f at p) (rw kept at q)

  module _ {k e : ℕ} (a : Ahead w.text at w.stop top k e) where
    pub ahead_before : now.cur.at < w.stop
    ahead_before = omega (arith, a.before)

    pub ahead-taken : Taken s ahead_before k e
    ahead-taken = record { is = rw here a.is; moves = omega (arith, a.moves); fits = a.fits }

    -- the words of its span
    pub ahead-words : (sp : Span) → span_of sp.low sp.high ≡ span w.doc (w.shift + at) (w.shift + e) → span_of sp.low sp.high ≡ span w.doc (w.shift + now.cur.at) (w.shift + e)
    ahead-words sp x = rw here x

    pub ahead-unlisted : is_space k ≡ false → is_opener k ≡ false → w.places ≤ now.cur.lexemes → Runs w from now.list now.stack (ran_full now.cur at e ListReason)
    ahead-unlisted b o le = rw (← here) (other-unlisted s ahead_before ahead-taken b o le)

-- a Blank is listed, opens nothing and closes nothing
pub blank-opens : is_opener Blank ≡ false
unfolding is_opener
blank-opens = refl

pub blank-closes : is_closer Blank ≡ false
unfolding is_closer
blank-closes = refl

-- the last position is reached
module _ {w : Course} {from now : State} {top : CodeOption StateCode} (s : Running w from now top) where
  pub end-stop : (token : Token) → now.kind ≡ code_of token → w.stop ≤ now.cur.at → Runs w from now.list now.stack (reached_at now.cur token)
  end-stop token code h = reached now.cur token (rw (← code) s.goes) (inl h)
