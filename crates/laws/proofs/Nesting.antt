-- How deep lexemes nest: what is open takes a lexeme each to open and, where nothing stays open, a lexeme each to close.
use Prim.Native.Nat.{ℕ, suc, pred, ◌+◌, ◌*◌, ◌≤◌}
use mathlib.Core.Bool.{Bool, true, false, cond}
use mathlib.Core.List.{List, [], ◌∷◌}
use native.Mathlib.Omega.{arith}
use lib.ListN.{length}
use Rattle.rules.specs.Kinds.{is_space, is_opener, is_closer}
use Rattle.rules.specs.Lexing.{Taken, depth_after, lexemes_of, deepest_from, open_after_all}
use Rattle.rules.proofs.Text.{decide}
use Rattle.rules.proofs.SpacesAside.{space-depth}

-- a lexeme opens at most one and closes at most one
pub depth-step : (depth k : ℕ) → (depth_after depth k ≤ suc depth) × (depth ≤ suc (depth_after depth k))
depth-step depth k = cases (is_opener k) (is_closer k)
  where
    cases : (opens closes : Bool) → (cond opens (suc depth) (cond closes (pred depth) depth) ≤ suc depth) × (depth ≤ suc (cond opens (suc depth) (cond closes (pred depth) depth)))
    cases true closes = (omega arith, omega arith)
    cases false true =
        let fewer : pred depth ≤ suc depth = omega arith in
        let one_fewer : depth ≤ suc (pred depth) = omega arith in
        (fewer, one_fewer)
    cases false false = (omega arith, omega arith)

-- what is open before some steps is closed by a lexeme each, or open after them
pub open-left : (depth : ℕ) (ps : List Taken) → depth ≤ length (lexemes_of ps) + open_after_all depth ps
open-left depth [] = omega arith
open-left depth (p ∷ ps) =
    let more = open-left (depth_after depth p.kind) ps in
    decide (is_space p.kind)
    (λ e. rw e (omega (arith, more, space-depth depth p.kind e)))
    (λ e. rw e (omega (arith, more, depth-step depth p.kind)))

-- the deepest nesting, doubled, is at most the lexemes and what is open before and after them
pub deepest-twice : (depth : ℕ) (ps : List Taken) → 2 * deepest_from depth ps ≤ depth + length (lexemes_of ps) + open_after_all depth ps
deepest-twice depth [] = omega arith
deepest-twice depth (p ∷ ps) =
    let more = deepest-twice (depth_after depth p.kind) ps in
    let here = open-left depth (p ∷ ps) in
    decide (is_space p.kind)
    (λ e.
    let here' : depth ≤ length (lexemes_of ps) + open_after_all (depth_after depth p.kind) ps = rw e at here in
    rw e (omega (arith, more, here', space-depth depth p.kind e)))
    (λ e.
    let here' : depth ≤ suc (length (lexemes_of ps)) + open_after_all (depth_after depth p.kind) ps = rw e at here in
    rw e (omega (arith, more, here', depth-step depth p.kind)))

-- what is open before some steps is nested as deep
pub depth-deepest : (depth : ℕ) (ps : List Taken) → depth ≤ deepest_from depth ps
depth-deepest depth [] = omega arith
depth-deepest depth (p ∷ ps) = omega arith
