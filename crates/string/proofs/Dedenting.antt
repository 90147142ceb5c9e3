-- Laws of the indent taken off a line: how many bytes are left of it, and which.
use Prim.Native.Nat.{ℕ, zero, suc, ◌+◌, ◌-◌, ◌≤◌, min}
use native.Mathlib.Nat.{add-suc}
use native.Mathlib.Numerals.{add-one}
use native.Mathlib.Omega.{arith}
use mathlib.Core.Path.{◌≡◌, refl, ap}
use mathlib.Core.List.{List, [], ◌∷◌, ◌++◌}
use lib.Seq.{drop-nil}
use Rattle.std.proofs.lemmas.List.{get_or-drop}
use lib.ListN.{length, get_or, take, drop, length-append, length-drop, get_or-eq_default}
use Rattle.rules.specs.Text.{is, begins}
use Rattle.rules.specs.Indent.{spaces_after}
use Rattle.rules.specs.Value.{dedented}
use Rattle.rules.proofs.Text.{decide}
use Rattle.rules.proofs.Runs.{run-le}
use Rattle.string.specs.Indents.{taken_off}

-- the first byte stays
pub taken-within : (indent : ℕ) (w : List ℕ) → taken_off indent w ≤ length w - 1
unfolding taken_off
taken-within indent [] = omega arith
taken-within indent (x ∷ w) = decide (begins "\n" (x ∷ w))
    (λ e. rw e (omega (arith, run-le (is " ") w)))
    (λ e. rw e (omega arith))

-- for attributes
pub ruleset within = (taken-within)

-- where nothing is taken off, the line is as it was
pub dedented-same : (indent : ℕ) (w : List ℕ) → taken_off indent w ≡ 0 → dedented indent w ≡ w
unfolding dedented taken_off
dedented-same indent [] h = refl
dedented-same indent (x ∷ w) h = decide (begins "\n" (x ∷ w))
    (λ e. let none-off : min indent (spaces_after (x ∷ w)) ≡ 0 = rw e at h in rw (e, none-off) refl)
    (λ e. rw e refl)

-- the first byte, then what stands after the bytes taken off
pub dedented-two : (indent : ℕ) (w : List ℕ) → dedented indent w ≡ take 1 w ++ drop (taken_off indent w + 1) w
unfolding dedented taken_off
dedented-two indent [] = refl
dedented-two indent (x ∷ w) = decide (begins "\n" (x ∷ w))
    (λ e. rw (e, add-one (min indent (spaces_after (x ∷ w)))) refl)
    (λ e. rw e refl)

-- its length is less by what was taken off
pub dedented_length : (indent : ℕ) (w : List ℕ) → length (dedented indent w) ≡ length w - taken_off indent w
unfolding taken_off
dedented_length indent [] = omega (arith, ap length (dedented-two indent []))
dedented_length indent (x ∷ w) =
    omega (arith, ap length (dedented-two indent (x ∷ w)), taken-within indent (x ∷ w), length-append (take 1 (x ∷ w)) (drop (taken_off indent (x ∷ w) + 1) (x ∷ w)), length-drop (taken_off indent (x ∷ w) + 1) (x ∷ w))

-- the first byte of a line is the first that is left of it
pub dedented_first : (indent : ℕ) (w : List ℕ) → get_or (dedented indent w) 0 0 ≡ get_or w 0 0
dedented_first indent [] = rw (dedented-two indent [], drop-nil {A = ℕ} (taken_off indent [] + 1)) refl
dedented_first indent (x ∷ w) = rw (dedented-two indent (x ∷ w)) refl

-- any other stands so many bytes further on
pub dedented_at : (indent : ℕ) (w : List ℕ) (i : ℕ) → (i ≡ 0 → ⊥) → get_or (dedented indent w) i 0 ≡ get_or w (taken_off indent w + i) 0
dedented_at indent w zero h = absurd (h refl)
dedented_at indent [] (suc j) h = rw (dedented-two indent [], drop-nil {A = ℕ} (taken_off indent [] + 1)) refl
dedented_at indent (x ∷ w) (suc j) h =
    let n = taken_off indent (x ∷ w) in
    rw (dedented-two indent (x ∷ w), add-one n, add-suc n j) (get_or-drop n w j 0)

-- past the line's end nothing is left
pub dedented_past : (indent : ℕ) (w : List ℕ) (i : ℕ) → length w ≤ i → get_or (dedented indent w) i 0 ≡ 0
dedented_past indent w i h = get_or-eq_default (dedented indent w) 0 (omega (arith, h, dedented_length indent w))
