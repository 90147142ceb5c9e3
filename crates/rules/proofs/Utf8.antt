-- `first_bad_from` by steps: it stops where no character begins, goes on behind one that does, and ends with the text. What carries it: `pass`, over the bytes that are left of a character.
use Prim.Native.Nat.{ℕ, zero, suc, ◌+◌, ◌≤◌, ◌<◌}
use mathlib.Core.Path.{◌≡◌, refl, ap, sym, ◌∙◌}
use mathlib.Core.List.{List, [], ◌∷◌}
use mathlib.Core.Bool.{Bool, true, false, cond, and-false}
use mathlib.Core.Option.{none, some}
use native.Mathlib.Omega.{arith}
use lib.ListN.{length, get_or, drop, length-drop, drop_of_length-le}
use lib.Seq.{drop-cons, drop-drop, get_or-drop}
use lib.Dec.{ltb, eqb-suc-zero, leb-zero, leb-suc-suc}
use Rattle.rules.specs.Utf8.{is_octet, is_two, is_three, is_four, char_length, first_bad_from}

-- the bytes that are left of a character are passed over
pass : (n at : ℕ) (s : List ℕ) → first_bad_from n at s ≡ first_bad_from 0 (at + n) (drop n s)
unfolding first_bad_from
pass zero at s = ap (λ (k : ℕ). first_bad_from 0 k s) (omega arith)
pass (suc n) at [] = refl
pass (suc n) at (b ∷ s) = pass n (suc at) s ∙ ap (λ (k : ℕ). first_bad_from 0 k (drop n s)) (omega arith)

-- the front of a text: no character begins there, or one does
pub stops : (at : ℕ) (s : List ℕ) → 0 < length s → char_length s ≡ 0 → first_bad_from 0 at s ≡ some at
unfolding first_bad_from
stops at [] h e = absurd (omega arith)
stops at (b ∷ s) h e = rw e

empty-none : char_length [] ≡ 0
unfolding char_length
empty-none = refl

pub goes_on : (at n : ℕ) (s : List ℕ) → char_length s ≡ n → 0 < n → first_bad_from 0 at s ≡ first_bad_from 0 (at + n) (drop n s)
unfolding first_bad_from
goes_on at n [] e h = absurd (omega (arith, empty-none))
goes_on at zero (b ∷ s) e h = absurd (omega arith)
goes_on at (suc n) (b ∷ s) e h =
    rw (e, eqb-suc-zero n) (pass n (suc at) s ∙ ap (λ (k : ℕ). first_bad_from 0 k (drop n s)) (omega arith))

-- a character ends within the text
cond-le : {n : ℕ} (x : Bool) {a b : ℕ} → a ≤ n → b ≤ n → cond x a b ≤ n
cond-le true h k = h
cond-le false h k = k

pub char-fits : (s : List ℕ) → char_length s ≤ length s
unfolding char_length is_two is_three is_four
char-fits [] = omega arith
char-fits (a ∷ []) = simp and-false (cond-le (is_octet 0 127 a) (omega arith) (omega arith))
char-fits (a ∷ b ∷ []) =
    simp and-false (cond-le (is_octet 0 127 a) (omega arith) (cond-le (is_two a b) (omega arith) (omega arith)))
char-fits (a ∷ b ∷ c ∷ []) =
    simp and-false
    (cond-le (is_octet 0 127 a) (omega arith)
    (cond-le (is_two a b) (omega arith) (cond-le (is_three a b c) (omega arith) (omega arith))))
char-fits (a ∷ b ∷ c ∷ d ∷ s) =
    cond-le (is_octet 0 127 a) (omega arith)
    (cond-le (is_two a b) (omega arith)
    (cond-le (is_three a b c) (omega arith) (cond-le (is_four a b c d) (omega arith) (omega arith))))

-- the same at a position of a text
pub bad-at : (t : List ℕ) (i : ℕ) → i < length t → char_length (drop i t) ≡ 0 → first_bad_from 0 i (drop i t) ≡ some i
bad-at t i h e = stops i (drop i t) (rw length-drop (omega arith)) e

pub good-at : (t : List ℕ) (i n : ℕ) → char_length (drop i t) ≡ n → 0 < n → first_bad_from 0 i (drop i t) ≡ first_bad_from 0 (i + n) (drop (i + n) t)
good-at t i n e h = goes_on i n (drop i t) e h ∙ rw drop-drop

pub end-at : (t : List ℕ) (i : ℕ) → length t ≤ i → first_bad_from 0 i (drop i t) ≡ none
unfolding first_bad_from
end-at t i h = rw (drop_of_length-le t h)

pub fits-at : (t : List ℕ) (i : ℕ) → i ≤ length t → i + char_length (drop i t) ≤ length t
fits-at t i h = omega (arith, char-fits (drop i t), length-drop i t)

-- the length of the character at a position, by the bytes there
ascii-test : (a : ℕ) → is_octet 0x00 0x7F a ≡ ltb a 0x80
ascii-test a = rw (leb-zero a) (sym (leb-suc-suc a 0x7F))

byte-behind : (t : List ℕ) (i k : ℕ) → get_or (drop (suc i) t) k 0 ≡ get_or t (i + suc k) 0
byte-behind t i k = get_or-drop (suc i) t k 0 ∙ ap (λ (j : ℕ). get_or t j 0) (omega arith)

pub char-at : (t : List ℕ) (i : ℕ) → i < length t → char_length (drop i t) ≡
    cond (ltb (get_or t i 0) 0x80) 1 (
    cond (is_two (get_or t i 0) (get_or t (i + 1) 0)) 2 (
    cond (is_three (get_or t i 0) (get_or t (i + 1) 0) (get_or t (i + 2) 0)) 3 (
    cond (is_four (get_or t i 0) (get_or t (i + 1) 0) (get_or t (i + 2) 0) (get_or t (i + 3) 0)) 4 0)))
unfolding char_length
char-at t i h =
    rw (drop-cons t i 0, ascii-test, byte-behind t i 0, byte-behind t i 1, byte-behind t i 2)
