-- What a step finds, branch by branch.
use Prim.Native.Nat.{ℕ}
use mathlib.Core.Path.{◌≡◌, sym, ◌∙◌}
use mathlib.Core.Bool.{Bool, true, false, cond, false≢true}
use Rattle.rules.specs.Step.{Step, found, stop}
use Rattle.rules.proofs.Steps.{kind-of, length-of, refuted}

-- whatever lexeme a step finds, its kind and length pass a test
pub record Finds (p : ℕ → ℕ → Bool) (x : Step) : Type 0 where
  pub each : (k l : ℕ) → x ≡ found k l → p k l ≡ true

pub finds-found : (p : ℕ → ℕ → Bool) (k l : ℕ) → p k l ≡ true → Finds p (found k l)
finds-found p k l h = record { each = λ k l e. rw (← kind-of e, ← length-of e) h }

pub finds-stop : (p : ℕ → ℕ → Bool) (number from l : ℕ) → Finds p (stop number from l)
finds-stop p number from l = record { each = λ k l e. refuted e }

pub finds-cond : (p : ℕ → ℕ → Bool) (b : Bool) (x y : Step) → Finds p x → Finds p y → Finds p (cond b x y)
finds-cond p true x y f g = f
finds-cond p false x y f g = g

-- a lexeme that the one step finds, and whose kind and length pass a test, the other finds again
pub record Again (p : ℕ → ℕ → Bool) (x y : Step) : Type 0 where
  pub again : (k l : ℕ) → p k l ≡ true → x ≡ found k l → y ≡ found k l

pub again-same : (p : ℕ → ℕ → Bool) (x : Step) → Again p x x
again-same p x = record { again = λ k l h e. e }

pub again-equal : (p : ℕ → ℕ → Bool) (x y : Step) → y ≡ x → Again p x y
again-equal p x y f = record { again = λ k l h e. f ∙ e }

pub again-stop : (p : ℕ → ℕ → Bool) (number from l : ℕ) (y : Step) → Again p (stop number from l) y
again-stop p number from l y = record { again = λ k l h e. refuted e }

-- a lexeme that fails the test need not be found again
pub again-fails : (p : ℕ → ℕ → Bool) (k l : ℕ) (y : Step) → p k l ≡ false → Again p (found k l) y
again-fails p k l y f = record { again = λ k l h e. absurd (false≢true (sym f ∙ (rw (kind-of e, length-of e) h))) }

pub again-cond : (p : ℕ → ℕ → Bool) (b c : Bool) (x y x' y' : Step) → c ≡ b → Again p x x' → Again p y y' → Again p (cond b x y) (cond c x' y')
again-cond p b c x y x' y' e f g = rw e (go b)
  where
    go : (b : Bool) → Again p (cond b x y) (cond b x' y')
    go true = f
    go false = g
