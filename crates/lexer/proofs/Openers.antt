-- The innermost opener of a stack in two arrays, and the test for 40 by its code.
use Rattle.std.specs.Prelude.{Option as CodeOption}
use Prim.Native.Nat.{ℕ, zero, suc, ◌-◌, ◌≤◌, ◌<◌}
use native.Mathlib.Omega.{arith}
use mathlib.Core.Path.{◌≡◌, refl, sym, ap, ◌∙◌}
use mathlib.Core.List.{List, [], ◌∷◌, ◌++◌, reverse, reverse-append}
use mathlib.Core.Bool.{Bool, true, false, cond, not, ◌&&◌, ◌||◌}
use lib.Dec.{ltb, eqb}
use lib.ListN.{length, take, drop, get_or}
use borrow.Author.Tests.{ne_eqb, ltb-false}
use Rattle.rules.specs.Kinds.{Nothing, is_opener}
use Rattle.rules.specs.Lent.{Lexeme, Arrays, array_places, contents}
use Rattle.rules.specs.Lexing.{innermost}
use Rattle.rules.specs.Walker.{Walker, open_in, codes_of, is_misplaced}
use Rattle.rules.proofs.Text.{decide}
use Rattle.list.specs.Entries.{first_of}
use Rattle.rules.proofs.Listed.{places-length}
use Rattle.list.proofs.Entries.{lexeme-at}
use Rattle.token.specs.Codes.{state_meant, if_opener}
use Rattle.token.specs.declared.State.{State as StateCode}
use Rattle.lexer.specs.Memory.{TopState, opener_in, code_in}
use Rattle.lexer.specs.Going.{innermost_in}
use Rattle.lexer.specs.Stepping.{no_opener, misplaced_by, open_to}

-- one lexeme more is taken
take-first : (ls : List Lexeme) (i : ℕ) → i < length ls → take (suc i) ls ≡ take i ls ++ (first_of (drop i ls) ∷ [])
take-first [] i lt = absurd (omega arith)
take-first (l ∷ ls) zero lt = refl
take-first (l ∷ ls) (suc i) lt = ap (λ (r : List Lexeme). l ∷ r) (take-first ls i (omega arith))

-- one that is open is no nothing
pub some-open : (d : ℕ) → eqb (suc d) 0 ≡ false
some-open d = ne_eqb (suc d) 0 (λ z. absurd (omega arith))

-- the innermost opener is the lexeme below the depth
pub opener-suc : (d : ℕ) (stack : Arrays) → opener_in (suc d) stack ≡ first_of (drop d (contents stack)) ∷ []
opener-suc d stack = let less : suc d - 1 ≡ d = omega arith in rw (some-open d, less)

-- the innermost opener stands before the others
pub open-suc : (d : ℕ) (stack : Arrays) → suc d ≤ array_places stack → open_in stack (suc d) ≡ first_of (drop d (contents stack)) ∷ open_in stack d
open-suc d stack le =
    ap (λ (r : List Lexeme). reverse r) (take-first (contents stack) d (omega (arith, places-length stack.kinds stack.words)))
    ∙ reverse-append (take d (contents stack)) (first_of (drop d (contents stack)) ∷ [])

-- its code is the innermost one
pub top-kind : (depth : ℕ) (stack : Arrays) → depth ≤ array_places stack → innermost (codes_of (open_in stack depth)) ≡ code_in (opener_in depth stack)
top-kind zero stack le = refl
top-kind (suc d) stack le = rw (open-suc d stack le, opener-suc d stack) refl

-- the test on it
test-same : (depth : ℕ) (stack : Arrays) → depth ≤ array_places stack → (not (eqb depth 0) && not (is_opener (innermost (codes_of (open_in stack depth))))) ≡ no_opener (opener_in depth stack)
test-same zero stack le = refl
test-same (suc d) stack le = rw (opener-suc d stack, open-suc d stack le, some-open d) refl

-- a test after one that holds does not matter
past : (a x y : Bool) → a || true || x ≡ a || true || y
past true x y = refl
past false x y = refl

-- the test for 40 needs no more than the innermost opener
pub misplaced-top : (text : List ℕ) (w : Walker) (stack : Arrays) → is_misplaced text w stack ≡ misplaced_by text w.at w.depth (array_places stack) (opener_in w.depth stack)
unfolding is_misplaced
misplaced-top text w stack = decide (ltb (array_places stack) w.depth)
    (λ e. rw e (past (ltb (length text) w.at) (not (eqb w.depth 0) && not (is_opener (innermost (codes_of (open_in stack w.depth))))) (no_opener (opener_in w.depth stack))))
    (λ e. rw (test-same w.depth stack (ltb-false (array_places stack) w.depth e)) refl)

-- so it holds where it is found by that opener
pub misplaced-found : (text : List ℕ) (w : Walker) (stack : Arrays) (places : ℕ) (openers : List Lexeme) (r : Bool) → r ≡ misplaced_by text w.at w.depth places openers →
    places ≡ array_places stack → openers ≡ opener_in w.depth stack → is_misplaced text w stack ≡ r
misplaced-found text w stack places openers r e p k = sym (e ∙ rw (p, k) (sym (misplaced-top text w stack)))

-- of three tests none holds
pub none_of : (a b c : Bool) → a || b || c ≡ false → (a ≡ false) × (b ≡ false) × (c ≡ false)
none_of false false c e = (refl, refl, e)
none_of true true c e = let z : ◌≡◌ {A = ℕ} 0 1 = cc in absurd (omega arith)
none_of true false c e = let z : ◌≡◌ {A = ℕ} 0 1 = cc in absurd (omega arith)
none_of false true c e = let z : ◌≡◌ {A = ℕ} 0 1 = cc in absurd (omega arith)

-- where it does not hold, what is open is the innermost code if it is an opener's, and else nothing
pub innermost-top : (depth : ℕ) (stack : Arrays) → depth ≤ array_places stack → no_opener (opener_in depth stack) ≡ false → innermost (codes_of (open_in stack depth)) ≡ open_to (opener_in depth stack)
unfolding is_opener
innermost-top zero stack le e = refl
innermost-top (suc d) stack le e = top-kind (suc d) stack le ∙ rw (opener-suc d stack) (opener (is_opener (first_of (drop d (contents stack))).kind) (first_of (drop d (contents stack))).kind (rw (opener-suc d stack) at e))
  where
    opener : (o : Bool) (k : ℕ) → not o ≡ false → k ≡ cond o k Nothing
    opener true k e = refl
    opener false k e = let z : ◌≡◌ {A = ℕ} 0 1 = cc in absurd (omega arith)

-- it is the code that stands below the depth
pub innermost-here : (depth : ℕ) (stack : Arrays) → depth ≤ array_places stack → innermost_in depth stack.kinds ≡ open_to (opener_in depth stack)
unfolding is_opener
innermost-here zero stack le = refl
innermost-here (suc d) stack le =
    let less : suc d - 1 ≡ d = omega arith in
    let kind : (first_of (drop d (contents stack))).kind ≡ get_or stack.kinds d 0 = ap (λ (l : Lexeme). l.kind) (lexeme-at stack.kinds stack.words d (omega arith)) in
    rw (opener-suc d stack, kind, some-open d, less) refl

-- and what it has opened is the state that the stack gives
pub state-here : (depth : ℕ) (stack : Arrays) (openers : List Lexeme) (r : CodeOption StateCode) → depth ≤ array_places stack → openers ≡ opener_in depth stack → state_meant r ≡ if_opener (code_in openers) → TopState depth stack.kinds r
unfolding if_opener is_opener
state-here zero stack openers r le k e = e ∙ rw k refl
state-here (suc d) stack openers r le k e =
    let less : suc d - 1 ≡ d = omega arith in
    let code : code_in openers ≡ get_or stack.kinds d 0 = ap code_in (k ∙ opener-suc d stack) ∙ ap (λ (l : Lexeme). l.kind) (lexeme-at stack.kinds stack.words d (omega arith)) in
    rw (some-open d, less, ← code) e
