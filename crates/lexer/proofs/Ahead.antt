-- Whitespace behind a lexeme: outside strings it is the step there.
use Rattle.std.specs.Prelude.{Option as CodeOption, Some, None}
use Prim.Native.Nat.{ℕ, ◌+◌, ◌≤◌, ◌<◌}
use mathlib.Core.Path.{◌≡◌, refl, sym, ◌∙◌}
use mathlib.Core.List.{List}
use mathlib.Core.Bool.{Bool, true, false, cond, not, ◌||◌}
use native.Mathlib.Nat.{add-zero}
use native.Mathlib.Omega.{arith}
use borrow.Author.Tests.{eqb-true, eqb-false, ne_eqb, leb-false, not-false}
use lib.Dec.{eqb, leb}
use lib.ListN.{length, drop, get_or, length-drop}
use Rattle.rules.specs.Bytes.{class_of, is_whitespace, Whitespace}
use Rattle.rules.specs.Kinds.{Space, Blank}
use Rattle.rules.specs.Measuring.{measured}
use Rattle.rules.specs.Step.{step}
use Rattle.rules.proofs.Measuring.{measured-length, whitespace-measured}
use Rattle.rules.proofs.Runs.{run-le}
use Rattle.rules.proofs.Text.{neither}
use Rattle.scan.specs.declared.Measured.{Measured}
use Rattle.scan.specs.Measuring.{measured_meant}
use Rattle.scan.proofs.Measuring.{here-passes, measured-run, measured-lines}
use Rattle.token.specs.declared.State.{State as StateCode}
use Rattle.sublexers.specs.Outcome.{lexeme_to, outcome, innermost_of}
use Rattle.lexer.specs.Mode.{mode_of}
use Rattle.lexer.specs.Running.{behind_of}
use Rattle.lexer.specs.declared.Behind.{Behind}
use Rattle.lexer.specs.declared.Behind.TheVariants.{Space as SpaceBehind, Blank as BlankBehind}
use Rattle.lexer.proofs.Steps.{step-outside, here-whitespace}

whitespace-class : (b : ℕ) → is_whitespace b ≡ true → class_of b ≡ Whitespace
unfolding class_of
whitespace-class b e = rw e refl

-- a lexeme of this kind to this end is the step before `stop`
pub record Ahead (t : List ℕ) (at stop : ℕ) (top : CodeOption StateCode) (k e : ℕ) : Type 0 where
  pub before : at < stop
  pub is : lexeme_to k e ≡ outcome at (step (innermost_of top) (drop at t))
  pub moves : at < e
  pub fits : e ≤ length t

-- by the three tests
abbrev behind_by : (x y blank : Bool) → ℕ → CodeOption Behind
behind_by x y blank end = cond x None (cond y None (cond blank (Some (BlankBehind end)) (Some (SpaceBehind end))))

space-by : (x y blank : Bool) (end e : ℕ) → behind_by x y blank end ≡ Some (SpaceBehind e) → (x ≡ false) × (y ≡ false) × (blank ≡ false) × (end ≡ e)
space-by true y blank end e q = let z : ◌≡◌ {A = ℕ} 0 1 = cc in absurd (omega arith)
space-by false true blank end e q = let z : ◌≡◌ {A = ℕ} 0 1 = cc in absurd (omega arith)
space-by false false true end e q = let z : ◌≡◌ {A = ℕ} 0 1 = cc in absurd (omega arith)
space-by false false false end e q = (refl, refl, refl, cc)

blank-by : (x y blank : Bool) (end e : ℕ) → behind_by x y blank end ≡ Some (BlankBehind e) → (x ≡ false) × (y ≡ false) × (blank ≡ true) × (end ≡ e)
blank-by true y blank end e q = let z : ◌≡◌ {A = ℕ} 0 1 = cc in absurd (omega arith)
blank-by false true blank end e q = let z : ◌≡◌ {A = ℕ} 0 1 = cc in absurd (omega arith)
blank-by false false true end e q = (refl, refl, refl, cc)
blank-by false false false end e q = let z : ◌≡◌ {A = ℕ} 0 1 = cc in absurd (omega arith)

module _ (t : List ℕ) (at stop : ℕ) (top : CodeOption StateCode) (inside : stop ≤ length t) where
  -- what the tests leave
  ahead : (k : ℕ) → not (eqb (mode_of top).stop 0) || leb stop at ≡ false → eqb (measured (drop at t)).length 0 ≡ false → k ≡ cond (leb 2 (measured (drop at t)).lines) Blank Space → Ahead t at stop top k (at + (measured (drop at t)).length)
  ahead k a b q =
      let n = neither (not (eqb (mode_of top).stop 0)) (leb stop at) a in
      let z : (mode_of top).stop ≡ 0 = eqb-true (mode_of top).stop 0 (not-false (eqb (mode_of top).stop 0) n.0) in
      let before : at < stop = leb-false stop at n.1 in
      let some : 0 < (measured (drop at t)).length = omega (arith, eqb-false (measured (drop at t)).length 0 b) in
      let here : at < length t = omega arith in
      let white : is_whitespace (get_or t at 0) ≡ true = rw add-zero at (here-passes is_whitespace t at 0 (omega (arith, measured-length (drop at t)))) in
      record {
        before = before;
        is = rw (q, step-outside (innermost_of top) (mode_of top).stop (drop at t) refl z, here-whitespace t at (innermost_of top) here (whitespace-class (get_or t at 0) white), whitespace-measured (drop at t)) refl;
        moves = omega arith;
        fits = omega (arith, measured-length (drop at t), run-le is_whitespace (drop at t), length-drop at t);
      }

  pub space-ahead : {b : CodeOption Behind} {e : ℕ} → b ≡ Some (SpaceBehind e) → b ≡ behind_of t at stop (mode_of top).stop → Ahead t at stop top Space e
  space-ahead {b} {e} p q =
      let x = space-by (not (eqb (mode_of top).stop 0) || leb stop at) (eqb (measured (drop at t)).length 0) (leb 2 (measured (drop at t)).lines) (at + (measured (drop at t)).length) e (sym q ∙ p) in
      rw (← x.3) (ahead Space x.0 x.1 (rw x.2 refl))

  pub blank-ahead : {b : CodeOption Behind} {e : ℕ} → b ≡ Some (BlankBehind e) → b ≡ behind_of t at stop (mode_of top).stop → Ahead t at stop top Blank e
  blank-ahead {b} {e} p q =
      let x = blank-by (not (eqb (mode_of top).stop 0) || leb stop at) (eqb (measured (drop at t)).length 0) (leb 2 (measured (drop at t)).lines) (at + (measured (drop at t)).length) e (sym q ∙ p) in
      rw (← x.3) (ahead Blank x.0 x.1 (rw x.2 refl))

-- The code measures what the rules ask: nothing in a string, or at the position to stop at
pub behind-not : (t : List ℕ) (at stop byte : ℕ) → not (eqb byte 0) || leb stop at ≡ true → None ≡ behind_of t at stop byte
behind-not t at stop byte e = rw e refl

module _ (t : List ℕ) (at stop byte : ℕ) (m : Measured) (e : measured_meant m ≡ measured (drop at t)) (here : not (eqb byte 0) || leb stop at ≡ false) where
  pub behind-none : m.length ≡ 0 → None ≡ behind_of t at stop byte
  behind-none z = rw (here, ← (measured-run t at m e), z) refl

  pub behind-blank : (m.length ≡ 0 → ⊥) → leb 2 m.lines ≡ true → Some (BlankBehind (at + m.length)) ≡ behind_of t at stop byte
  behind-blank z b = rw (here, ← (measured-run t at m e), ← (measured-lines t at m e), ne_eqb m.length 0 z, b) refl

  pub behind-space : (m.length ≡ 0 → ⊥) → leb 2 m.lines ≡ false → Some (SpaceBehind (at + m.length)) ≡ behind_of t at stop byte
  behind-space z b = rw (here, ← (measured-run t at m e), ← (measured-lines t at m e), ne_eqb m.length 0 z, b) refl
