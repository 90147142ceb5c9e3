-- Places of a text over which the check has gone, and what is left of it behind them. What carries it: `goes_on` and `stops`, laws of the definitions.
use Prim.Native.Nat.{ℕ, zero, suc, ◌+◌, ◌-◌, ◌≤◌, ◌<◌}
use mathlib.Core.Path.{◌≡◌, refl, sym, ap, ◌∙◌}
use mathlib.Core.List.{List}
use mathlib.Core.Option.{none, some}
use native.Mathlib.Nat.{add-zero, zero-add}
use native.Mathlib.Omega.{arith}
use lib.ListN.{length, get_or, take, drop}
use Rattle.std.proofs.Common.{All, length-take, length-drop, get_or-take, get_or-drop}
use Rattle.std.proofs.lemmas.List.{take_all}
use borrow.Author.Tests.{lt-ltb, eqb-true}
use lib.Dec.{eqb}
use mathlib.Core.Bool.{Bool, true}
use lib.Seq.{drop-drop}
use Rattle.rules.specs.Utf8.{char_length, first_bad, first_bad_from}
use Rattle.rules.proofs.Utf8.{stops, goes_on, end-at, fits-at, char-at}
use Rattle.utf8.specs.Ahead.{Ahead, Passed}

pub stay : {t : List ℕ} {i : ℕ} → i ≤ length t → Ahead t i i
stay h = record { up = omega arith; inside = h; same = λ base. refl }

pub join : {t : List ℕ} {a b c : ℕ} → Ahead t a b → Ahead t b c → Ahead t a c
join {t} {a} {b} {c} x y =
    let u : a ≤ b = x.up in
    let v : b ≤ c = y.up in
    record { up = omega arith; inside = y.inside; same = λ base. x.same base ∙ y.same base }

-- behind a character at a place, wherever the text stands
goes_on_at : (t : List ℕ) (i base n : ℕ) → char_length (drop i t) ≡ n → 0 < n → first_bad_from 0 (base + i) (drop i t) ≡ first_bad_from 0 (base + (i + n)) (drop (i + n) t)
goes_on_at t i base n e h =
    let there : base + i + n ≡ base + (i + n) = omega arith in
    rw (there, drop-drop) at (goes_on (base + i) n (drop i t) e h)

-- over one character
pub over : {t : List ℕ} {i : ℕ} (n : ℕ) → i < length t → n ≡ char_length (drop i t) → (n ≡ 0 → ⊥) → Ahead t i (i + n)
over {t} {i} n h e z =
    record { up = omega arith; inside = rw e (fits-at t i (omega arith)); same = λ base. goes_on_at t i base n (sym e) (omega (arith, z)) }

-- over one ASCII byte
on : {t : List ℕ} {a i : ℕ} → i < length t → get_or t i 0 < 0x80 → Ahead t a i → Ahead t a (i + 1)
on {t} {a} {i} h b x =
    join x (over 1 h (sym (char-at t i h ∙ simp (lt-ltb _ _ b))) (λ (e : 1 ≡ 0). omega (arith, e)))

-- over ASCII bytes
each-ascii : {t : List ℕ} {i : ℕ} (n : ℕ) → i + n ≤ length t → ((k : ℕ) → k < n → get_or t (i + k) 0 < 0x80) → Ahead t i (i + n)
each-ascii {t} {i} zero h b = rw (add-zero i) (stay (omega arith))
each-ascii {t} {i} (suc n) h b =
    let e : i + suc n ≡ i + n + 1 = omega arith in
    rw e (on (omega arith) (b n (omega arith)) (each-ascii n (omega arith) (λ k l. b k (omega arith))))

-- over a part of a text
pub over_ascii : {t : List ℕ} {i : ℕ} (n : ℕ) → i + n ≤ length t → All (λ b. b < 0x80) (take n (drop i t)) → Ahead t i (i + n)
over_ascii {t} {i} n h b =
    each-ascii n h (λ k l. rw (get_or-take, get_or-drop) at (b k 0 (simp (length-take, length-drop) (omega arith))))

-- what is left of a text, as a part of it
pub rest : (t : List ℕ) (i : ℕ) → take (length t - i) (drop i t) ≡ drop i t
rest t i = take_all (length t - i) (drop i t) (simp length-drop (omega arith))

-- What is left of a text
pub passed_none : {t : List ℕ} → Passed t t
passed_none {t} = record { bytes = 0; left = refl; ahead = stay (omega arith) }

-- from a place of a text on, the same as of what is left there
from_there : {t : List ℕ} {a r : ℕ} (n : ℕ) → n ≤ length t → Ahead (drop n t) a r → Ahead t (n + a) (n + r)
from_there {t} {a} {r} n h x = record {
  up = omega (arith, x.up);
  inside = omega (arith, x.inside, length-drop n t);
  same = λ base.
      let there : base + n + a ≡ base + (n + a) = omega arith in
      let here : base + n + r ≡ base + (n + r) = omega arith in
      rw (there, here, drop-drop a n t, drop-drop r n t) at (x.same (base + n));
}

pub passed_join : {t m r : List ℕ} → Passed t m → Passed m r → Passed t r
passed_join {t} {m} {r} x y =
    let further : Ahead (drop x.bytes t) 0 y.bytes = rw x.left at y.ahead in
    record {
      bytes = x.bytes + y.bytes;
      left = y.left ∙ rw x.left (drop-drop y.bytes x.bytes t);
      ahead = join x.ahead (rw (add-zero x.bytes) at (from_there x.bytes (omega (arith, x.ahead.inside)) further));
    }

pub passed_shorter : {t r : List ℕ} → Passed t r → length r ≤ length t
passed_shorter {t} {r} x = omega (arith, ap length x.left, length-drop x.bytes t)

-- at a place to which whole characters lead
pub passed_to : {t : List ℕ} (i : ℕ) → Ahead t 0 i → Passed t (take (length t - i) (drop i t))
passed_to {t} i x = record { bytes = i; left = rest t i; ahead = x }

-- behind ASCII bytes
pub passed_ascii : {t r : List ℕ} (n : ℕ) → n ≤ length r → All (λ b. b < 0x80) (take n r) → Passed t r → Passed t (take (length r - n) (drop n r))
passed_ascii {t} {r} n h b x = passed_join x (passed_to n (rw (zero-add n) at (over_ascii {t = r} {i = 0} n (omega arith) b)))

-- behind one of them at the front, and on
pub passed_ascii_byte : {t r : List ℕ} → 0 < length t → get_or t 0 0 < 0x80 → Passed (take (length t - 1) (drop 1 t)) r → (length r < length t) × Passed t r
passed_ascii_byte {t} {r} h b x =
    let first : Ahead t 0 1 = on h b (stay (omega arith)) in
    (omega (arith, passed_shorter x, ap length (rest t 1), length-drop 1 t), passed_join (passed_to 1 first) x)

-- a character at the front is inside, and behind it less is left
pub char_inside : (t : List ℕ) (n : ℕ) → n ≡ char_length t → n ≤ length t
char_inside t n e = omega (arith, e, fits-at t 0 (omega arith))

pub passed_character : {t : List ℕ} (n : ℕ) → 0 < length t → 0 < n → n ≡ char_length t → (length (take (length t - n) (drop n t)) < length t) × Passed t (take (length t - n) (drop n t))
passed_character {t} n h z e = (
  omega (arith, ap length (rest t n), length-drop n t),
  passed_to n (rw (zero-add n) at (over {t = t} {i = 0} n h e (λ (q : n ≡ 0). omega (arith, q)))),
)

-- the answer of the whole text, from what is left of it
pub bad_answer : {t r : List ℕ} → Passed t r → 0 < length r → char_length r ≡ 0 → first_bad t ≡ some (length t - length r)
unfolding first_bad
bad_answer {t} {r} x h e =
    let size : length t - length r ≡ x.bytes = omega (arith, ap length x.left, length-drop x.bytes t, x.ahead.inside) in
    rw size ((rw (zero-add x.bytes) at (x.ahead.same 0)) ∙ stops x.bytes (drop x.bytes t) (rw x.left at h) (rw x.left at e))

pub good_answer : {t r : List ℕ} {b : Bool} → Passed t r → b ≡ eqb (length r) 0 → b ≡ true → first_bad t ≡ none
unfolding first_bad
good_answer {t} {r} {b} x h e =
    let none_left : length r ≡ 0 = eqb-true (length r) 0 (sym h ∙ e) in
    let size : length t ≤ x.bytes = omega (arith, none_left, ap length x.left, length-drop x.bytes t) in
    (rw (zero-add x.bytes) at (x.ahead.same 0)) ∙ end-at t x.bytes size
