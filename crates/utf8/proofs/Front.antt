-- No character at the front of a text: where the text ends, no tail follows.
use Prim.Native.Nat.{ℕ, ◌≤◌, ◌<◌}
use mathlib.Core.Path.{◌≡◌}
use mathlib.Core.Bool.{false, and-false}
use mathlib.Core.List.{List}
use native.Mathlib.Omega.{arith}
use lib.ListN.{length, get_or}
use borrow.Author.Tests.{le-ltb}
use Rattle.std.proofs.lemmas.List.{get_or_past}
use Rattle.rules.specs.Utf8.{is_two, is_three, is_four, char_length}
use Rattle.rules.proofs.Utf8.{char-at}

-- no character goes on with the 0 that is read past the end
two-ends : (a : ℕ) → is_two a 0 ≡ false
unfolding is_two
two-ends a = simp and-false

three-ends : (a b : ℕ) → is_three a b 0 ≡ false
unfolding is_three
three-ends a b = simp and-false

four-ends : (a b c : ℕ) → is_four a b c 0 ≡ false
unfolding is_four
four-ends a b c = simp and-false

-- a text of one byte, which is not ASCII
pub one_byte : (t : List ℕ) → 1 ≤ length t → length t < 2 → 0x80 ≤ get_or t 0 0 → char_length t ≡ 0
one_byte t h l b =
    rw (char-at t 0 h, get_or_past t 1 0 (omega arith), get_or_past t 2 0 (omega arith), get_or_past t 3 0 (omega arith)) (simp (le-ltb _ _ b, two-ends, three-ends, four-ends))

-- one of at most two bytes, and of at most three: no shorter character begins there
pub two_bytes : (t : List ℕ) → 1 ≤ length t → length t < 3 → 0x80 ≤ get_or t 0 0 → is_two (get_or t 0 0) (get_or t 1 0) ≡ false → char_length t ≡ 0
two_bytes t h l b x =
    rw (char-at t 0 h, get_or_past t 2 0 (omega arith), get_or_past t 3 0 (omega arith)) (simp (le-ltb _ _ b, x, three-ends, four-ends))

pub three_bytes : (t : List ℕ) → 1 ≤ length t → length t < 4 → 0x80 ≤ get_or t 0 0 → is_two (get_or t 0 0) (get_or t 1 0) ≡ false → is_three (get_or t 0 0) (get_or t 1 0) (get_or t 2 0) ≡ false → char_length t ≡ 0
three_bytes t h l b x y =
    rw (char-at t 0 h, get_or_past t 3 0 (omega arith)) (simp (le-ltb _ _ b, x, y, four-ends))
