-- What an answer says: that found a lexeme, or before the last position.
use Prim.Native.Nat.{ℕ, ◌<◌}
use mathlib.Core.Path.{◌≡◌}
use native.Mathlib.Omega.{arith}
use borrow.Author.Tests.{eqb-true, lt-leb}
use lib.Dec.{eqb}
use Rattle.std.specs.Prelude.{Result, Ok}
use Rattle.rules.specs.Step.{Step as StepRule, found, stop}
use Rattle.rules.proofs.Text.{decide}
use Rattle.token.specs.Codes.{code_of}
use Rattle.sublexers.specs.declared.Match.{Match}
use Rattle.sublexers.specs.declared.Fault.{Fault}
use Rattle.sublexers.specs.Outcome.{lexeme_to, miscoded, outcome, step_meant, last_position, anywhere}

-- its code is its token's, and it is the rules' lexeme
pub found-means : (at : ℕ) (r : StepRule) (answer : Result Match Fault) (m : Match) → answer ≡ Ok m → step_meant answer ≡ outcome at r → (m.kind ≡ code_of m.token) × (lexeme_to m.kind m.end ≡ outcome at r)
found-means at r answer m a o = decide (eqb m.kind (code_of m.token))
    (λ e. (eqb-true m.kind (code_of m.token) e, rw (a, e) at o))
    (λ e. absurd (not-miscoded r (rw (a, e) at o)))
  where
    not-miscoded : (r : StepRule) → miscoded ≡ outcome at r → ⊥
    not-miscoded (found k n) q = let z : ◌≡◌ {A = ℕ} 0 1 = cc in absurd (omega arith)
    not-miscoded (stop j f n) q = let z : ◌≡◌ {A = ℕ} 0 1 = cc in absurd (omega arith)

-- before the last position every step has the rules' outcome
pub before_last : (at : ℕ) (r : StepRule) → at < last_position → anywhere at r ≡ outcome at r
before_last at r h = rw (lt-leb last_position at h)
