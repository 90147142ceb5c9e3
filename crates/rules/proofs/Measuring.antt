-- A run of whitespace, measured: the step that it is, and how the measure grows by a byte, as a loop meets it.
use Prim.Native.Nat.{ℕ, suc, ◌+◌, ◌≤◌, ◌<◌}
use mathlib.Core.Bool.{Bool, true, false, cond}
use mathlib.Core.List.{List}
use mathlib.Core.Path.{◌≡◌, refl}
use native.Mathlib.Numerals.{add-one}
use native.Mathlib.Omega.{arith}
use borrow.Author.Tests.{lt-ltb, le-ltb}
use lib.Dec.{leb}
use lib.ListN.{length, drop, get_or, length-drop}
use lib.Seq.{drop-cons}
use Rattle.rules.specs.Text.{is, run}
use Rattle.rules.specs.Bytes.{is_whitespace}
use Rattle.rules.specs.Kinds.{Space, Blank}
use Rattle.rules.specs.Step.{found, whitespace}
use Rattle.rules.specs.Measuring.{measured}

-- whitespace is the run that is measured, a Blank with two line ends or more
pub whitespace-measured : (s : List ℕ) → whitespace s ≡ found (cond (leb 2 (measured s).lines) Blank Space) (measured s).length
unfolding whitespace measured
whitespace-measured s = refl

-- its length is the run's
pub measured-length : (s : List ℕ) → (measured s).length ≡ run is_whitespace s
unfolding measured
measured-length s = refl

-- a byte of whitespace adds its line to the lines after it
pub lines_more : (t : List ℕ) (i : ℕ) → i < length t → is_whitespace (get_or t i 0) ≡ true → (measured (drop i t)).lines ≡ cond (is "\n" (get_or t i 0)) 1 0 + (measured (drop (i + 1) t)).lines
unfolding measured
lines_more t i h e = rw (add-one, drop-cons t i 0, e) (go (is "\n" (get_or t i 0)) _)
  where
    go : (x : Bool) (n : ℕ) → cond x (suc n) n ≡ cond x 1 0 + n
    go true n = omega arith
    go false n = omega arith

-- where there is no whitespace there is no line end of it
pub lines_none : (s : List ℕ) → run is_whitespace s ≡ 0 → (measured s).lines ≡ 0
unfolding measured
lines_none s z = rw z

-- one more byte is looked at where one follows the run
pub looked-more : (t : List ℕ) (i : ℕ) → i + run is_whitespace (drop i t) < length t → (measured (drop i t)).looked ≡ run is_whitespace (drop i t) + 1
unfolding measured
looked-more t i h = rw (lt-ltb (run is_whitespace (drop i t)) (length (drop i t)) (omega (arith, length-drop i t))) (omega arith)

-- and none where the text ends with it
pub looked-all : (t : List ℕ) (i : ℕ) → length t ≤ i + run is_whitespace (drop i t) → (measured (drop i t)).looked ≡ run is_whitespace (drop i t)
unfolding measured
looked-all t i h = rw (le-ltb (run is_whitespace (drop i t)) (length (drop i t)) (omega (arith, length-drop i t)))
