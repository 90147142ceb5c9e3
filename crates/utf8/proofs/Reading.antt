-- Reading a text byte by byte through characters of any length. What carries it: `step`, over one byte that follows the three before it.
use Prim.Native.Nat.{ℕ, zero, suc, ◌+◌, ◌-◌, ◌≤◌, ◌<◌}
use mathlib.Core.Path.{◌≡◌, refl, sym, ◌∙◌}
use mathlib.Core.Bool.{cond}
use mathlib.Core.List.{List, [], ◌∷◌, ◌++◌}
use native.Mathlib.Nat.{add-zero}
use native.Mathlib.Numerals.{add-one}
use native.Mathlib.Omega.{arith}
use lib.ListN.{length, get_or, take, drop}
use Rattle.std.proofs.Common.{All, length-take, length-drop, get_or-take, get_or-drop}
use lib.Seq.{drop-cons}
use lib.Dec.{leb, ltb}
use borrow.Author.Tests.{ltb-true, ltb-false, le-leb, lt-leb}
use Rattle.rules.specs.Utf8.{Octet, UTF8-tail, UTF8-char, UTF8-1, UTF8-2, UTF8-3-E0, UTF8-3-E1, UTF8-3-ED, UTF8-3-EE, UTF8-4-F0, UTF8-4-F1, UTF8-4-F4}
use Rattle.rules.proofs.Text.{decide}
use Rattle.rules.proofs.Rfc3629.{char-length}
use Rattle.utf8.specs.Ahead.{Ahead}
use Rattle.utf8.specs.Blocks.{Follows, FollowsAt, AllFollow, Good, StartsAt, last_boundary}
use Rattle.utf8.proofs.Ahead.{stay, join, over}

-- the second byte of a character: the RFC's range for the first
pub record Second (a b : ℕ) : Type 0 where
  pub tail : UTF8-tail b
  pub after-E0 : a ≡ 0xE0 → 0xA0 ≤ b
  pub after-ED : a ≡ 0xED → b ≤ 0x9F
  pub after-F0 : a ≡ 0xF0 → 0x90 ≤ b
  pub after-F4 : a ≡ 0xF4 → b ≤ 0x8F

-- What is known at `p`, before which x, y and z stand: from `at` on there are whole characters up to there, or up to one of which the first byte, the first two or the first three have been read.
pub data Read (t : List ℕ) (at : ℕ) : (p x y z : ℕ) → Type 0 where
  whole : {p x y z : ℕ} → Ahead t at p → x < 0xF0 → y < 0xE0 → z < 0xC0 → Read t at p x y z
  one : {q x y z : ℕ} → Ahead t at q → z ≡ get_or t q 0 → x < 0xF0 → y < 0xE0 → Octet 0xC2 0xF4 z → Read t at (q + 1) x y z
  two : {q x y z : ℕ} → Ahead t at q → y ≡ get_or t q 0 → z ≡ get_or t (q + 1) 0 → x < 0xF0 → Octet 0xE0 0xF4 y → Second y z → Read t at (q + 2) x y z
  three : {q x y z : ℕ} → Ahead t at q → x ≡ get_or t q 0 → y ≡ get_or t (q + 1) 0 → z ≡ get_or t (q + 2) 0 → Octet 0xF0 0xF4 x → Second x y → UTF8-tail z → Read t at (q + 3) x y z

-- a character of the grammar from bytes in the RFC's ranges
three-char : (a b c : ℕ) → Octet 0xE0 0xEF a → Second a b → UTF8-tail c → UTF8-char (a ∷ b ∷ c ∷ [])
three-char a b c h s k =
    let m : UTF8-tail b = s.tail in
    decide (ltb a 0xE1)
    (λ e. let l = ltb-true a 0xE1 e in UTF8-3-E0 {a = a} {b = b} {c = c} (omega arith) (omega (arith, s.after-E0 (omega arith))) k)
    (λ e. let l = ltb-false a 0xE1 e in decide (ltb a 0xED)
    (λ f. let o = ltb-true a 0xED f in UTF8-3-E1 {a = a} {b = b} {c = c} (omega arith) m k)
    (λ f. let o = ltb-false a 0xED f in decide (ltb a 0xEE)
    (λ g. let p = ltb-true a 0xEE g in UTF8-3-ED {a = a} {b = b} {c = c} (omega arith) (omega (arith, s.after-ED (omega arith))) k)
    (λ g. let p = ltb-false a 0xEE g in UTF8-3-EE {a = a} {b = b} {c = c} (omega arith) m k)))

four-char : (a b c d : ℕ) → Octet 0xF0 0xF4 a → Second a b → UTF8-tail c → UTF8-tail d → UTF8-char (a ∷ b ∷ c ∷ d ∷ [])
four-char a b c d h s k n =
    let m : UTF8-tail b = s.tail in
    decide (ltb a 0xF1)
    (λ e. let l = ltb-true a 0xF1 e in UTF8-4-F0 {a = a} {b = b} {c = c} {d = d} (omega arith) (omega (arith, s.after-F0 (omega arith))) k n)
    (λ e. let l = ltb-false a 0xF1 e in decide (ltb a 0xF4)
    (λ f. let o = ltb-true a 0xF4 f in UTF8-4-F1 {a = a} {b = b} {c = c} {d = d} (omega arith) m k n)
    (λ f. let o = ltb-false a 0xF4 f in UTF8-4-F4 {a = a} {b = b} {c = c} {d = d} (omega arith) (omega (arith, s.after-F4 (omega arith))) k n))

-- the bytes of a text from a position on
from_one : (t : List ℕ) (q r : ℕ) → r ≡ q + 1 → q < length t → drop q t ≡ get_or t q 0 ∷ drop r t
from_one t q r e h = rw (e, add-one, drop-cons t q 0 h)

from-two : (t : List ℕ) (q : ℕ) → q + 1 < length t → drop q t ≡ get_or t q 0 ∷ get_or t (q + 1) 0 ∷ drop (q + 2) t
from-two t q h = from_one t q (q + 1) refl (omega arith) ∙ rw (from_one t (q + 1) (q + 2) (omega arith) h)

from-three : (t : List ℕ) (q : ℕ) → q + 2 < length t → drop q t ≡ get_or t q 0 ∷ get_or t (q + 1) 0 ∷ get_or t (q + 2) 0 ∷ drop (q + 3) t
from-three t q h = from-two t q (omega arith) ∙ rw (from_one t (q + 2) (q + 3) (omega arith) h)

from-four : (t : List ℕ) (q : ℕ) → q + 3 < length t → drop q t ≡ get_or t q 0 ∷ get_or t (q + 1) 0 ∷ get_or t (q + 2) 0 ∷ get_or t (q + 3) 0 ∷ drop (q + 4) t
from-four t q h = from-three t q (omega arith) ∙ rw (from_one t (q + 3) (q + 4) (omega arith) h)

-- over a character of the grammar
over-char : {t : List ℕ} {s q : ℕ} (c r : List ℕ) → UTF8-char c → drop q t ≡ c ++ r → q < length t → 0 < length c → Ahead t s q → Ahead t s (q + length c)
over-char c r g e h l x =
    join x (over (length c) h (sym (rw e (char-length g r))) (λ (z : length c ≡ 0). omega (arith, z)))

-- the second byte of a character that follows the first
second : (x y z d : ℕ) → Follows x y z d → UTF8-tail d → Second z d
second x y z d f h =
    record {
      tail = h;
      after-E0 = λ e. f.after-E0 e h.0;
      after-ED = f.after-ED;
      after-F0 = λ e. f.after-F0 e h.0;
      after-F4 = f.after-F4;
    }

-- over one byte that follows the three before it
step : {t : List ℕ} {s p x y z : ℕ} (d : ℕ) → d ≡ get_or t p 0 → p < length t → d ≤ 0xF4 → Follows x y z d → Read t s p x y z → Read t s (p + 1) y z d
step {t} {s} {p} {x} {y} {z} d e h l f (whole a i j k) =
    decide (ltb d 0x80)
    (λ b. let c = ltb-true d 0x80 b in
    whole (over-char (d ∷ []) (drop (p + 1) t) (UTF8-1 {a = d} (omega arith)) (rw e (from_one t p (p + 1) refl h)) h (omega arith) a) (omega arith) (omega arith) (omega arith))
    (λ b. let c = ltb-false d 0x80 b in one a e (omega arith) (omega arith) (omega (arith, f.first i j k c)))
step {t} {s} {p} {x} {y} {z} d e h l f (one {q = q} a i j k m) =
    let n : UTF8-tail d = f.second (omega arith) in
    let w : q + 1 + 1 ≡ q + 2 = omega arith in
    rw w
    (decide (ltb z 0xE0)
    (λ b. let c = ltb-true z 0xE0 b in
    whole (over-char (z ∷ d ∷ []) (drop (q + 2) t) (UTF8-2 {a = z} {b = d} (omega arith) n) (rw (i, e) (from-two t q h)) (omega arith) (omega arith) a) (omega arith) (omega arith) (omega arith))
    (λ b. let c = ltb-false z 0xE0 b in two a i e (omega arith) (omega arith) (second x y z d f n)))
step {t} {s} {p} {x} {y} {z} d e h l f (two {q = q} a i j k m n) =
    let o : UTF8-tail d = f.third (omega arith) in
    let v : UTF8-tail z = n.tail in
    let w : q + 2 + 1 ≡ q + 3 = omega arith in
    rw w
    (decide (ltb y 0xF0)
    (λ b. let c = ltb-true y 0xF0 b in
    whole (over-char (y ∷ z ∷ d ∷ []) (drop (q + 3) t) (three-char y z d (omega arith) n o) (rw (i, j, e) (from-three t q h)) (omega arith) (omega arith) a) (omega arith) (omega arith) (omega arith))
    (λ b. let c = ltb-false y 0xF0 b in three a i j e (omega arith) n o))
step {t} {s} {p} {x} {y} {z} d e h l f (three {q = q} a i j k m n o) =
    let u : UTF8-tail d = f.fourth (omega arith) in
    let v : UTF8-tail y = n.tail in
    let w : q + 3 + 1 ≡ q + 4 = omega arith in
    rw w
    (whole {x = y} {y = z} {z = d} (over-char (x ∷ y ∷ z ∷ d ∷ []) (drop (q + 4) t) (four-char x y z d m n o u) (rw (i, j, k, e) (from-four t q h)) (omega arith) (omega arith) a) (omega arith) (omega arith) (omega arith))

-- the three bytes from `i` on have been read
abbrev pub ReadTo : List ℕ → ℕ → ℕ → Type 0
ReadTo t s i = Read t s (i + 3) (get_or t i 0) (get_or t (i + 1) 0) (get_or t (i + 2) 0)

pub start : (t : List ℕ) (i : ℕ) → i + 2 < length t → StartsAt t i → ReadTo t i i
start t i h b =
    let u : i + 1 + 1 ≡ i + 2 = omega arith in
    let v : i + 2 + 1 ≡ i + 3 = omega arith in
    let r : Read t i i 0 0 0 = whole {x = 0} {y = 0} {z = 0} (stay (omega arith)) (omega arith) (omega arith) (omega arith) in
    let r1 = step (get_or t i 0) refl (omega arith) b.low.0 b.one r in
    let r2 = step (get_or t (i + 1) 0) refl (omega arith) b.low.1 b.two r1 in
    let r3 = step (get_or t (i + 2) 0) (rw u) (omega arith) b.low.2 b.three r2 in
    rw (u, v) at r3

on : {t : List ℕ} {s : ℕ} (i : ℕ) → i + 3 < length t → get_or t (i + 3) 0 ≤ 0xF4 → FollowsAt t i → ReadTo t s i → ReadTo t s (i + 1)
on {t} {s} i h l f r =
    let u : i + 1 + 1 ≡ i + 2 = omega arith in
    let v : i + 1 + 2 ≡ i + 3 = omega arith in
    let w : i + 1 + 3 ≡ i + 3 + 1 = omega arith in
    rw (u, v, w) (step (get_or t (i + 3) 0) refl h l f r)

-- over bytes of which each follows
over-each : {t : List ℕ} {s : ℕ} (i n : ℕ) → i + n + 3 ≤ length t → ((k : ℕ) → k < n → FollowsAt t (i + k) × (get_or t (i + k + 3) 0 ≤ 0xF4)) → ReadTo t s i → ReadTo t s (i + n)
over-each {t} {s} i zero h g r = rw (add-zero i) r
over-each {t} {s} i (suc n) h g r =
    let e : i + suc n ≡ i + n + 1 = omega arith in
    let f = g n (omega arith) in
    rw e (on (i + n) (omega arith) f.1 f.0 (over-each i n (omega arith) (λ k l. g k (omega arith)) r))

-- a byte of a part of a text
part-at : (t : List ℕ) (i n k j : ℕ) → k + j < n → get_or (take n (drop i t)) (k + j) 0 ≡ get_or t (i + k + j) 0
part-at t i n k j h =
    let e : i + (k + j) ≡ i + k + j = omega arith in
    rw (get_or-take, get_or-drop, e) refl

-- over a block
over-good : {t : List ℕ} {s : ℕ} (i n : ℕ) → i + (n + 3) ≤ length t → Good (take (n + 3) (drop i t)) → ReadTo t s i → ReadTo t s (i + n)
over-good {t} i n h g r =
    let block : List ℕ = take (n + 3) (drop i t) in
    let size : length block ≡ n + 3 = simp (length-take, length-drop) (omega arith) in
    over-each i n (omega arith) (λ k l.
    let m : k + 3 < length block = omega arith in
    let e3 = part-at t i (n + 3) k 3 (omega arith) in
    let f : FollowsAt block k = g.follows k m in
    let here : k < n + 3 = omega arith in
    let e0 : get_or block k 0 ≡ get_or t (i + k) 0 = rw (get_or-take, get_or-drop) refl in
    (rw (e0, part-at t i (n + 3) k 1 (omega arith), part-at t i (n + 3) k 2 (omega arith), e3) at f, rw e3 at (g.low k m))) r

-- the same of the part up to `j`
pub over_block : {t : List ℕ} {s : ℕ} (i j n : ℕ) → j ≡ i + n + 3 → j ≤ length t → Good (take (j - i) (drop i t)) → ReadTo t s i → ReadTo t s (i + n)
over_block i j n e h g r =
    let size : j - i ≡ n + 3 = omega arith in
    over-good i n (omega arith) (rw size at g) r

-- a block is good where each byte follows, and none is larger than a byte that is F4 at most
pub good_block : {b : List ℕ} (most : ℕ) → most ≤ 0xF4 → All (λ x. x ≤ most) (take (length b - 3) (drop 3 b)) → AllFollow b → Good b
good_block {b} most h l f =
    record {
      follows = f.each;
      low = λ k m.
          let e : 3 + k ≡ k + 3 = omega arith in
          let i : k < length b - 3 = omega arith in
          let at : get_or (take (length b - 3) (drop 3 b)) k 0 ≡ get_or b (k + 3) 0 = rw (get_or-take, get_or-drop, e) refl in
          let low : get_or b (k + 3) 0 ≤ most = rw at at (l k 0 (simp (length-take, length-drop) (omega arith))) in
          omega arith;
    }

-- back to the end of the last whole character
ends : {t : List ℕ} {s p x y z : ℕ} (i : ℕ) → p ≡ i + 3 → Read t s p x y z → Ahead t s (cond (leb 0xC0 z) (i + 2) (cond (leb 0xE0 y) (i + 1) (cond (leb 0xF0 x) i (i + 3))))
ends {t} {s} {p} {x} {y} {z} i e (whole a j k l) = rw (lt-leb 0xC0 z l, lt-leb 0xE0 y k, lt-leb 0xF0 x j) (rw e at a)
ends {t} {s} {p} {x} {y} {z} i e (one {q = q} a j k l m) =
    let w : q ≡ i + 2 = omega arith in
    rw (le-leb 0xC0 z (omega arith)) (rw w at a)
ends {t} {s} {p} {x} {y} {z} i e (two {q = q} a j k l m n) =
    let v : UTF8-tail z = n.tail in
    let w : q ≡ i + 1 = omega arith in
    rw (lt-leb 0xC0 z (omega arith), le-leb 0xE0 y (omega arith)) (rw w at a)
ends {t} {s} {p} {x} {y} {z} i e (three {q = q} a j k l m n o) =
    let v : UTF8-tail y = n.tail in
    let w : q ≡ i = omega arith in
    rw (lt-leb 0xC0 z (omega arith), lt-leb 0xE0 y (omega arith), le-leb 0xF0 x (omega arith)) (rw w at a)

pub to-boundary : {t : List ℕ} {s : ℕ} (i : ℕ) → ReadTo t s i → Ahead t s (last_boundary t i)
to-boundary i r = ends i refl r
