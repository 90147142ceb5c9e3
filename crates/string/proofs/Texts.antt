-- The definitions' words on texts by the library's.
use Prim.Native.Nat.{ℕ}
use native.Mathlib.Omega.{arith}
use mathlib.Core.Path.{◌≡◌, refl}
use mathlib.Core.Bool.{Bool}
use mathlib.Core.List.{List, [], ◌∷◌}
use Rattle.std.specs.List.{list_all, prefix_len}
use Rattle.rules.specs.Text.{run, all}
use Rattle.rules.proofs.Text.{decide}

-- every byte passes a test
pub all_list : (p : ℕ → Bool) (w : List ℕ) → all p w ≡ list_all p w
all_list p [] = refl
all_list p (b ∷ w) = rw (all_list p w)

-- how many bytes at the front pass a test
pub run_prefix : (p : ℕ → Bool) (w : List ℕ) → run p w ≡ prefix_len p w
run_prefix p [] = refl
run_prefix p (b ∷ w) = decide (p b) (λ e. rw e (omega (arith, run_prefix p w))) (λ e. rw e)
