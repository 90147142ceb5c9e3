-- RFC 3629: the grammar of section 4 and the function `first_bad` agree, and the bytes of section 3 are characters of the grammar. What carries it: `char-length`, a character of the grammar has the length that `char_length` finds.
use Prim.Native.Nat.{ℕ, zero, suc, ◌+◌, ◌/◌, ◌%◌, ◌≤◌, ◌<◌}
use mathlib.Core.Path.{◌≡◌, refl, ap, sym, ◌∙◌}
use mathlib.Core.Logic.{◌↔◌}
use mathlib.Core.List.{List, [], ◌∷◌, ◌++◌, append_assoc, append-nil}
use mathlib.Core.Bool.{Bool, true, false, ◌&&◌, ◌||◌, and-false, or-true, and-eq-true_iff}
use mathlib.Core.Option.{Option, none, some}
use native.Mathlib.Nat.{add-zero}
use native.Mathlib.Omega.{arith}
use lib.ListN.{length, get_or, take, drop, length-append, length-drop, take-append-drop}
use lib.Seq.{take-add, drop-drop, take-append_seam, drop-append_seam, length-take-le}
use lib.Dec.{leb, ltb, eqb}
use borrow.Author.Tests.{leb-true, ltb-true, ltb-false, le-ltb, le-leb, lt-leb, eqb-true, eqb-false}
use Rattle.rules.specs.Utf8.{Octet, UTF8-tail, UTF8-char, UTF8-1, UTF8-2, UTF8-3-E0, UTF8-3-E1, UTF8-3-ED, UTF8-3-EE, UTF8-4-F0, UTF8-4-F1, UTF8-4-F4, UTF8-octets, empty, more, is_octet, is_tail, is_two, is_three, is_four, char_length, first_bad_from, first_bad, encode, is_scalar}
use Rattle.rules.proofs.Utf8.{stops, goes_on, char-fits}
use Rattle.rules.proofs.Text.{decide}

-- a range and its test
octet-yes : {lo hi b : ℕ} → Octet lo hi b → is_octet lo hi b ≡ true
octet-yes {lo} {hi} {b} h = rw (le-leb lo b h.0, le-leb b hi h.1)

octet-of : (lo hi b : ℕ) → is_octet lo hi b ≡ true → Octet lo hi b
octet-of lo hi b e =
    let q = (and-eq-true_iff (leb lo b) (leb b hi)).0 e in
    (leb-true lo b q.0, leb-true b hi q.1)

octet-over : (lo hi b : ℕ) → hi < b → is_octet lo hi b ≡ false
octet-over lo hi b h = rw (lt-leb b hi h, and-false)

-- the tests of one alternative of the grammar
abbrev test3 : (lo hi l h a b c : ℕ) → Bool
test3 lo hi l h a b c = is_octet lo hi a && is_octet l h b && is_tail c

abbrev test4 : (lo hi l h a b c d : ℕ) → Bool
test4 lo hi l h a b c d = is_octet lo hi a && is_octet l h b && is_tail c && is_tail d

of3 : (lo hi l h a b c : ℕ) → test3 lo hi l h a b c ≡ true → Octet lo hi a × Octet l h b × UTF8-tail c
of3 lo hi l h a b c e =
    let q = (and-eq-true_iff (is_octet lo hi a && is_octet l h b) (is_tail c)).0 e in
    let p = (and-eq-true_iff (is_octet lo hi a) (is_octet l h b)).0 q.0 in
    (octet-of lo hi a p.0, octet-of l h b p.1, octet-of 0x80 0xBF c q.1)

of4 : (lo hi l h a b c d : ℕ) → test4 lo hi l h a b c d ≡ true → Octet lo hi a × Octet l h b × UTF8-tail c × UTF8-tail d
of4 lo hi l h a b c d e =
    let q = (and-eq-true_iff (test3 lo hi l h a b c) (is_tail d)).0 e in
    let p = of3 lo hi l h a b c q.0 in
    (p.0, p.1, p.2, octet-of 0x80 0xBF d q.1)

or3 : {P : Type 0} (x y z : Bool) → x || y || z ≡ true → (x ≡ true → P) → (y ≡ true → P) → (z ≡ true → P) → P
or3 true y z e f g h = f refl
or3 false true z e f g h = g refl
or3 false false z e f g h = h e

or4 : {P : Type 0} (w x y z : Bool) → w || x || y || z ≡ true → (w ≡ true → P) → (x ≡ true → P) → (y ≡ true → P) → (z ≡ true → P) → P
or4 true x y z e f g h k = f refl
or4 false x y z e f g h k = or3 x y z e g h k

-- each alternative and its test
two-of : (a b : ℕ) → is_two a b ≡ true → UTF8-char (a ∷ b ∷ [])
unfolding is_two
two-of a b e =
    let q = (and-eq-true_iff (is_octet 0xC2 0xDF a) (is_tail b)).0 e in
    UTF8-2 (octet-of 0xC2 0xDF a q.0) (octet-of 0x80 0xBF b q.1)

three-of : (a b c : ℕ) → is_three a b c ≡ true → UTF8-char (a ∷ b ∷ c ∷ [])
unfolding is_three
three-of a b c e =
    or4 (test3 0xE0 0xE0 0xA0 0xBF a b c) (test3 0xE1 0xEC 0x80 0xBF a b c) (test3 0xED 0xED 0x80 0x9F a b c) (test3 0xEE 0xEF 0x80 0xBF a b c) e
    (λ e. let q = of3 0xE0 0xE0 0xA0 0xBF a b c e in UTF8-3-E0 q.0 q.1 q.2)
    (λ e. let q = of3 0xE1 0xEC 0x80 0xBF a b c e in UTF8-3-E1 q.0 q.1 q.2)
    (λ e. let q = of3 0xED 0xED 0x80 0x9F a b c e in UTF8-3-ED q.0 q.1 q.2)
    (λ e. let q = of3 0xEE 0xEF 0x80 0xBF a b c e in UTF8-3-EE q.0 q.1 q.2)

four-of : (a b c d : ℕ) → is_four a b c d ≡ true → UTF8-char (a ∷ b ∷ c ∷ d ∷ [])
unfolding is_four
four-of a b c d e =
    or3 (test4 0xF0 0xF0 0x90 0xBF a b c d) (test4 0xF1 0xF3 0x80 0xBF a b c d) (test4 0xF4 0xF4 0x80 0x8F a b c d) e
    (λ e. let q = of4 0xF0 0xF0 0x90 0xBF a b c d e in UTF8-4-F0 q.0 q.1 q.2 q.3)
    (λ e. let q = of4 0xF1 0xF3 0x80 0xBF a b c d e in UTF8-4-F1 q.0 q.1 q.2 q.3)
    (λ e. let q = of4 0xF4 0xF4 0x80 0x8F a b c d e in UTF8-4-F4 q.0 q.1 q.2 q.3)

-- the length by the first test that holds
length-one : (a : ℕ) (s : List ℕ) → is_octet 0x00 0x7F a ≡ true → char_length (a ∷ s) ≡ 1
unfolding char_length
length-one a s e = rw e

length_two : (a : ℕ) (s : List ℕ) → is_octet 0x00 0x7F a ≡ false → is_two a (get_or s 0 0) ≡ true → char_length (a ∷ s) ≡ 2
unfolding char_length
length_two a s e f = rw (e, f)

length_three : (a : ℕ) (s : List ℕ) → is_octet 0x00 0x7F a ≡ false → is_two a (get_or s 0 0) ≡ false → is_three a (get_or s 0 0) (get_or s 1 0) ≡ true → char_length (a ∷ s) ≡ 3
unfolding char_length
length_three a s e f g = rw (e, f, g)

length-four : (a : ℕ) (s : List ℕ) → is_octet 0x00 0x7F a ≡ false → is_two a (get_or s 0 0) ≡ false → is_three a (get_or s 0 0) (get_or s 1 0) ≡ false → is_four a (get_or s 0 0) (get_or s 1 0) (get_or s 2 0) ≡ true → char_length (a ∷ s) ≡ 4
unfolding char_length
length-four a s e f g h = rw (e, f, g, h)

length_none : (a : ℕ) (s : List ℕ) → is_octet 0x00 0x7F a ≡ false → is_two a (get_or s 0 0) ≡ false → is_three a (get_or s 0 0) (get_or s 1 0) ≡ false → is_four a (get_or s 0 0) (get_or s 1 0) (get_or s 2 0) ≡ false → char_length (a ∷ s) ≡ 0
unfolding char_length
length_none a s e f g h = rw (e, f, g, h)

-- no test of fewer bytes holds of a first byte that is too large for it
two-no : (a b : ℕ) → 0xE0 ≤ a → is_two a b ≡ false
unfolding is_two
two-no a b h = rw (octet-over 0xC2 0xDF a h)

three-no : (a b c : ℕ) → 0xF0 ≤ a → is_three a b c ≡ false
unfolding is_three
three-no a b c h =
    rw (octet-over 0xE0 0xE0 a (omega arith), octet-over 0xE1 0xEC a (omega arith), octet-over 0xED 0xED a (omega arith), octet-over 0xEE 0xEF a h)

-- a character of the grammar at the front of a text has the length that `char_length` finds
three-long : (a b c : ℕ) (s : List ℕ) → 0xE0 ≤ a → is_three a b c ≡ true → char_length (a ∷ b ∷ c ∷ s) ≡ 3
three-long a b c s h e = length_three a (b ∷ c ∷ s) (octet-over 0x00 0x7F a (omega arith)) (two-no a b h) e

four-long : (a b c d : ℕ) (s : List ℕ) → 0xF0 ≤ a → is_four a b c d ≡ true → char_length (a ∷ b ∷ c ∷ d ∷ s) ≡ 4
four-long a b c d s h e =
    length-four a (b ∷ c ∷ d ∷ s) (octet-over 0x00 0x7F a (omega arith)) (two-no a b (omega arith)) (three-no a b c h) e

pub char-length : {c : List ℕ} → UTF8-char c → (s : List ℕ) → char_length (c ++ s) ≡ length c
unfolding is_two is_three is_four
char-length (UTF8-1 {a = a} p) s = length-one a s (octet-yes p)
char-length (UTF8-2 {a = a} {b = b} p q) s =
    length_two a (b ∷ s) (octet-over 0x00 0x7F a (omega arith)) (rw (octet-yes p, octet-yes q))
char-length (UTF8-3-E0 {a = a} {b = b} {c = c} p q r) s =
    three-long a b c s (omega arith) (simp (octet-yes p, octet-yes q, octet-yes r))
char-length (UTF8-3-E1 {a = a} {b = b} {c = c} p q r) s =
    three-long a b c s (omega arith) (simp (octet-yes p, octet-yes q, octet-yes r, or-true))
char-length (UTF8-3-ED {a = a} {b = b} {c = c} p q r) s =
    three-long a b c s (omega arith) (simp (octet-yes p, octet-yes q, octet-yes r, or-true))
char-length (UTF8-3-EE {a = a} {b = b} {c = c} p q r) s =
    three-long a b c s (omega arith) (simp (octet-yes p, octet-yes q, octet-yes r, or-true))
char-length (UTF8-4-F0 {a = a} {b = b} {c = c} {d = d} p q r t) s =
    four-long a b c d s (omega arith) (simp (octet-yes p, octet-yes q, octet-yes r, octet-yes t))
char-length (UTF8-4-F1 {a = a} {b = b} {c = c} {d = d} p q r t) s =
    four-long a b c d s (omega arith) (simp (octet-yes p, octet-yes q, octet-yes r, octet-yes t, or-true))
char-length (UTF8-4-F4 {a = a} {b = b} {c = c} {d = d} p q r t) s =
    four-long a b c d s (omega arith) (simp (octet-yes p, octet-yes q, octet-yes r, octet-yes t, or-true))

front-two : (a : ℕ) (s : List ℕ) → char_length (a ∷ s) ≡ 2 → is_two a (get_or s 0 0) ≡ true → UTF8-char (take 2 (a ∷ s))
front-two a [] e t = absurd (omega (arith, char-fits (a ∷ [])))
front-two a (b ∷ s) e t = two-of a b t

front-three : (a : ℕ) (s : List ℕ) → char_length (a ∷ s) ≡ 3 → is_three a (get_or s 0 0) (get_or s 1 0) ≡ true → UTF8-char (take 3 (a ∷ s))
front-three a [] e t = absurd (omega (arith, char-fits (a ∷ [])))
front-three a (b ∷ []) e t = absurd (omega (arith, char-fits (a ∷ b ∷ [])))
front-three a (b ∷ c ∷ s) e t = three-of a b c t

front-four : (a : ℕ) (s : List ℕ) → char_length (a ∷ s) ≡ 4 → is_four a (get_or s 0 0) (get_or s 1 0) (get_or s 2 0) ≡ true → UTF8-char (take 4 (a ∷ s))
front-four a [] e t = absurd (omega (arith, char-fits (a ∷ [])))
front-four a (b ∷ []) e t = absurd (omega (arith, char-fits (a ∷ b ∷ [])))
front-four a (b ∷ c ∷ []) e t = absurd (omega (arith, char-fits (a ∷ b ∷ c ∷ [])))
front-four a (b ∷ c ∷ d ∷ s) e t = four-of a b c d t

front-char : (s : List ℕ) → 0 < char_length s → UTF8-char (take (char_length s) s)
front-char [] h = absurd (omega (arith, char-fits []))
front-char (a ∷ s) h =
    decide (is_octet 0x00 0x7F a)
    (λ e. rw (length-one a s e) (UTF8-1 (octet-of 0x00 0x7F a e)))
    (λ e. decide (is_two a (get_or s 0 0))
    (λ f. let z = length_two a s e f in rw z (front-two a s z f))
    (λ f. decide (is_three a (get_or s 0 0) (get_or s 1 0))
    (λ g. let z = length_three a s e f g in rw z (front-three a s z g))
    (λ g. decide (is_four a (get_or s 0 0) (get_or s 1 0) (get_or s 2 0))
    (λ k. let z = length-four a s e f g k in rw z (front-four a s z k))
    (λ k. absurd (omega (arith, length_none a s e f g k))))))

char-some : {c : List ℕ} → UTF8-char c → 0 < length c
char-some (UTF8-1 p) = omega arith
char-some (UTF8-2 p q) = omega arith
char-some (UTF8-3-E0 p q r) = omega arith
char-some (UTF8-3-E1 p q r) = omega arith
char-some (UTF8-3-ED p q r) = omega arith
char-some (UTF8-3-EE p q r) = omega arith
char-some (UTF8-4-F0 p q r t) = omega arith
char-some (UTF8-4-F1 p q r t) = omega arith
char-some (UTF8-4-F4 p q r t) = omega arith

-- characters are unique at the front of a text
pub char-unique : {c d : List ℕ} (r s : List ℕ) → UTF8-char c → UTF8-char d → c ++ r ≡ d ++ s → c ≡ d
char-unique {c} {d} r s p q e =
    let l : length c ≡ length d = sym (char-length p r) ∙ ap char_length e ∙ char-length q s in
    sym (take-append_seam c r) ∙ rw (e, l) (take-append_seam d s)

-- `char_length` and the grammar
grammar-length : (s : List ℕ) (n : ℕ) → UTF8-char (take n s) → n ≤ length s → char_length s ≡ n
grammar-length s n p h =
    ap char_length (sym (take-append-drop n s)) ∙ char-length p (drop n s) ∙ length-take-le n s h

pub char_at_front : (s : List ℕ) (n : ℕ) → ((char_length s ≡ n) × (0 < n)) ↔ (UTF8-char (take n s) × (n ≤ length s))
char_at_front s n = (
  λ h. (rw h.0 at (front-char s (omega arith)), omega (arith, char-fits s)),
  λ h. (grammar-length s n h.0 h.1, omega (arith, char-some h.0, length-take-le n s h.1)),
)

-- the check of a text goes on behind characters of the grammar
over-char : {c : List ℕ} → UTF8-char c → (at : ℕ) (s : List ℕ) → first_bad_from 0 at (c ++ s) ≡ first_bad_from 0 (at + length c) s
over-char {c} p at s =
    goes_on at (length c) (c ++ s) (char-length p s) (char-some p) ∙ rw (drop-append_seam c s)

over-octets : {t : List ℕ} → UTF8-octets t → (at : ℕ) (s : List ℕ) → first_bad_from 0 at (t ++ s) ≡ first_bad_from 0 (at + length t) s
over-octets empty at s = ap (λ (k : ℕ). first_bad_from 0 k s) (omega arith)
over-octets (more {c = c} {s = t} p o) at s =
    rw (append_assoc, length-append)
    (over-char p at (t ++ s) ∙ over-octets o (at + length c) s
    ∙ ap (λ (k : ℕ). first_bad_from 0 k s) (omega arith))

-- what `first_bad_from` has found of a text that stands at `at`
data Outcome (at : ℕ) (s : List ℕ) : Option ℕ → Type 0 where
  all-good : UTF8-octets s → Outcome at s none
  bad-from : (k : ℕ) → k < length s → UTF8-octets (take k s) → char_length (drop k s) ≡ 0 → Outcome at s (some (at + k))

behind : {at : ℕ} {s : List ℕ} (n : ℕ) {o : Option ℕ} → UTF8-char (take n s) → n ≤ length s → Outcome (at + n) (drop n s) o → Outcome at s o
behind {at} {s} n p h (all-good g) = all-good (rw (take-append-drop n s) at (more p g))
behind {at} {s} n p h (bad-from k l g z) =
    let e : at + n + k ≡ at + (n + k) = omega arith in
    rw e (bad-from (n + k) (omega (arith, length-drop n s)) (rw (take-add n k s) (more p g)) (rw (drop-drop k n s) at z))

front : (fuel at : ℕ) (s : List ℕ) (n : ℕ) → char_length s ≡ n → 0 < length s → length s < suc fuel
    → ((at : ℕ) (s : List ℕ) → length s < fuel → Outcome at s (first_bad_from 0 at s)) → Outcome at s (first_bad_from 0 at s)
front fuel at s zero e h l f =
    let o : Outcome at s (some (at + 0)) = bad-from 0 h empty e in
    rw (stops at s h e) (rw (add-zero at) at o)
front fuel at s (suc n) e h l f =
    let q = (char_at_front s (suc n)).0 (e, omega arith) in
    rw (goes_on at (suc n) s e (omega arith))
    (behind (suc n) q.0 q.1 (f (at + suc n) (drop (suc n) s) (omega (arith, length-drop (suc n) s))))

text : (fuel at : ℕ) (s : List ℕ) → length s < suc fuel
    → ((at : ℕ) (s : List ℕ) → length s < fuel → Outcome at s (first_bad_from 0 at s)) → Outcome at s (first_bad_from 0 at s)
unfolding first_bad_from
text fuel at [] l f = all-good empty
text fuel at (b ∷ s) l f = front fuel at (b ∷ s) (char_length (b ∷ s)) refl (omega arith) l f

outcome : (fuel at : ℕ) (s : List ℕ) → length s < fuel → Outcome at s (first_bad_from 0 at s)
outcome zero at s h = absurd (omega arith)
outcome (suc fuel) at s h = text fuel at s h (outcome fuel)

good_of : {at : ℕ} {s : List ℕ} {o : Option ℕ} → Outcome at s o → o ≡ none → UTF8-octets s
good_of (all-good g) e = g
good_of (bad-from k l g z) e = let y : ◌≡◌ {A = ℕ} 0 1 = cc in absurd (omega arith)

-- a text is UTF-8 by the grammar exactly when the function finds no bad sequence
pub valid : (s : List ℕ) → (first_bad s ≡ none) ↔ UTF8-octets s
unfolding first_bad first_bad_from
valid s = (
  good_of (outcome (suc (length s)) 0 s (omega arith)),
  λ o. ap (first_bad_from 0 0) (sym (append-nil s)) ∙ over-octets o 0 [],
)

-- otherwise it finds where the text stops being UTF-8: characters up to there, and none that begins there
pub record StopsAt (s : List ℕ) (i : ℕ) : Type 0 where
  pub inside : i < length s
  pub before : UTF8-octets (take i s)
  pub none-begins : (c r : List ℕ) → UTF8-char c → c ++ r ≡ drop i s → ⊥

none-begins-at : (t : List ℕ) → char_length t ≡ 0 → (c r : List ℕ) → UTF8-char c → c ++ r ≡ t → ⊥
none-begins-at t z c r p e = omega (arith, char-some p, char-length p r, ap char_length e)

length-zero : (t : List ℕ) → ((c r : List ℕ) → UTF8-char c → c ++ r ≡ t → ⊥) → char_length t ≡ 0
length-zero t f =
    decide (eqb (char_length t) 0) (λ e. eqb-true (char_length t) 0 e)
    (λ e. let n = char_length t in
    absurd (f (take n t) (drop n t) (front-char t (omega (arith, eqb-false n 0 e))) (take-append-drop n t)))

bad-of : {s : List ℕ} {o : Option ℕ} → Outcome 0 s o → (i : ℕ) → o ≡ some i → StopsAt s i
bad-of (all-good g) i e = let y : ◌≡◌ {A = ℕ} 0 1 = cc in absurd (omega arith)
bad-of {s} (bad-from k l g z) i e =
    let q : 0 + k ≡ i = cc in
    let j : i ≡ k = omega arith in
    rw j (record { inside = l; before = g; none-begins = none-begins-at (drop k s) z })

stops-of : (s : List ℕ) (i : ℕ) → StopsAt s i → first_bad s ≡ some i
unfolding first_bad
stops-of s i x =
    ap (first_bad_from 0 0) (sym (take-append-drop i s)) ∙ over-octets x.before 0 (drop i s) ∙ ap (λ (k : ℕ). first_bad_from 0 k (drop i s)) (omega (arith, length-take-le i s (omega arith)))
    ∙ stops i (drop i s) (rw length-drop (omega arith)) (length-zero (drop i s) x.none-begins)

-- the function answers the place up to which the text is UTF-8 by the grammar and at which no character of the grammar begins
pub first-bad : (s : List ℕ) (i : ℕ) → (first_bad s ≡ some i) ↔ StopsAt s i
unfolding first_bad
first-bad s i = (bad-of (outcome (suc (length s)) 0 s (omega arith)) i, stops-of s i)

-- section 3 against section 4: the bytes of a scalar value are a character
encode-two : (u a b : ℕ) → a ≡ 0xC0 + u / 64 → b ≡ 0x80 + u % 64 → 0x80 ≤ u → u < 0x800 → UTF8-char (a ∷ b ∷ [])
encode-two u a b ea eb l h = UTF8-2 {a = a} {b = b} (omega arith) (omega arith)

encode-three : (u a b c : ℕ) → a ≡ 0xE0 + u / 4096 → b ≡ 0x80 + u / 64 % 64 → c ≡ 0x80 + u % 64
    → 0x800 ≤ u → u < 0x10000 → (ltb u 0xD800 ≡ false → 0xE000 ≤ u) → UTF8-char (a ∷ b ∷ c ∷ [])
encode-three u a b c ea eb ec l h g =
    decide (ltb u 0x1000)
    (λ e. let k = ltb-true u 0x1000 e in UTF8-3-E0 {a = a} {b = b} {c = c} (omega arith) (omega arith) (omega arith))
    (λ e. decide (ltb u 0xD000)
    (λ f. let k = ltb-false u 0x1000 e in let m = ltb-true u 0xD000 f in UTF8-3-E1 {a = a} {b = b} {c = c} (omega arith) (omega arith) (omega arith))
    (λ f. decide (ltb u 0xD800)
    (λ d. let k = ltb-false u 0xD000 f in let m = ltb-true u 0xD800 d in UTF8-3-ED {a = a} {b = b} {c = c} (omega arith) (omega arith) (omega arith))
    (λ d. let k = g d in UTF8-3-EE {a = a} {b = b} {c = c} (omega arith) (omega arith) (omega arith))))

encode-four : (u a b c d : ℕ) → a ≡ 0xF0 + u / 262144 → b ≡ 0x80 + u / 4096 % 64 → c ≡ 0x80 + u / 64 % 64 → d ≡ 0x80 + u % 64
    → 0x10000 ≤ u → u ≤ 0x10FFFF → UTF8-char (a ∷ b ∷ c ∷ d ∷ [])
encode-four u a b c d ea eb ec ed l h =
    decide (ltb u 0x40000)
    (λ e. let k = ltb-true u 0x40000 e in UTF8-4-F0 {a = a} {b = b} {c = c} {d = d} (omega arith) (omega arith) (omega arith) (omega arith))
    (λ e. decide (ltb u 0x100000)
    (λ f. let k = ltb-false u 0x40000 e in let m = ltb-true u 0x100000 f in UTF8-4-F1 {a = a} {b = b} {c = c} {d = d} (omega arith) (omega arith) (omega arith) (omega arith))
    (λ f. let k = ltb-false u 0x100000 f in UTF8-4-F4 {a = a} {b = b} {c = c} {d = d} (omega arith) (omega arith) (omega arith) (omega arith)))

scalar-high : (u : ℕ) → is_scalar u ≡ true → ltb u 0xD800 ≡ false → Octet 0xE000 0x10FFFF u
unfolding is_scalar
scalar-high u s e = octet-of 0xE000 0x10FFFF u (rw e at s)

pub encode-char : (u : ℕ) → is_scalar u ≡ true → UTF8-char (encode u)
unfolding encode
encode-char u s =
    decide (ltb u 0x80)
    (λ a. let k = ltb-true u 0x80 a in rw a (UTF8-1 {a = u} (omega arith)))
    (λ a. decide (ltb u 0x800)
    (λ b. rw (a, b) (encode-two u _ _ refl refl (ltb-false u 0x80 a) (ltb-true u 0x800 b)))
    (λ b. decide (ltb u 0x10000)
    (λ c. rw (a, b, c)
    (encode-three u _ _ _ refl refl refl (ltb-false u 0x800 b) (ltb-true u 0x10000 c) (λ e. (scalar-high u s e).0)))
    (λ c. let k = ltb-false u 0x10000 c in rw (a, b, c)
    (encode-four u _ _ _ _ refl refl refl refl k (scalar-high u s (le-ltb u 0xD800 (omega arith))).1))))
