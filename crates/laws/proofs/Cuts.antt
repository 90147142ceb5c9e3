-- UTF-8 texts, cut between two characters and joined. What carries it: `by_parts`, the bytes of a character after its first are over 127, and an ASCII byte is a character alone.
use Prim.Native.Nat.{ℕ, zero, suc, ◌+◌, ◌≤◌, ◌<◌}
use mathlib.Core.Path.{◌≡◌, refl, sym, ap, ◌∙◌}
use mathlib.Core.List.{List, [], ◌∷◌, ◌++◌, append_assoc}
use mathlib.Core.Bool.{Bool, true}
use native.Mathlib.Nat.{zero-add, suc-add}
use native.Mathlib.Omega.{arith}
use borrow.Author.Tests.{leb-true}
use lib.Dec.{leb}
use lib.ListN.{length, take, drop}
use lib.Seq.{take-append-add, drop-append-add}
use Rattle.rules.specs.Text.{run}
use Rattle.rules.specs.Utf8.{UTF8-char, UTF8-1, UTF8-2, UTF8-3-E0, UTF8-3-E1, UTF8-3-ED, UTF8-3-EE, UTF8-4-F0, UTF8-4-F1, UTF8-4-F4, UTF8-octets, empty, more}
use Rattle.rules.proofs.Text.{decide}

-- two UTF-8 texts, one after the other, are UTF-8
pub octets-append : {s t : List ℕ} → UTF8-octets s → UTF8-octets t → UTF8-octets (s ++ t)
octets-append empty q = q
octets-append (more p o) q = rw append_assoc (more p (octets-append o q))

-- a text cut after so many bytes: both parts are UTF-8
pub record Cut (s : List ℕ) (n : ℕ) : Type 0 where
  pub front : UTF8-octets (take n s)
  pub rest : UTF8-octets (drop n s)

-- before the first byte
cut-zero : {s : List ℕ} → UTF8-octets s → Cut s 0
cut-zero o = record { front = empty; rest = o }

-- a cut stays one behind a further character
cut-behind : {c s : List ℕ} {n : ℕ} → UTF8-char c → Cut s n → Cut (c ++ s) (length c + n)
cut-behind {c} {s} {n} p h = record {
  front = rw (take-append-add c s n) (more p h.front);
  rest = rw (drop-append-add c s n) h.rest;
}

-- every byte is over 127
abbrev High : List ℕ → Type 0
High [] = Unit {0}
High (b ∷ t) = (127 < b) × High t

-- a character, by its first byte and those after it
by_parts : {c : List ℕ} → UTF8-char c → (P : List ℕ → Type 0)
    → ((a : ℕ) (t : List ℕ) → UTF8-char (a ∷ t) → High t → (a ≤ 127 → t ≡ []) → P (a ∷ t)) → P c
by_parts (UTF8-1 p) P f = f _ _ (UTF8-1 p) tt (λ h. refl)
by_parts (UTF8-2 p q) P f = f _ _ (UTF8-2 p q) (omega arith, tt) (λ h. absurd (omega arith))
by_parts (UTF8-3-E0 p q r) P f = f _ _ (UTF8-3-E0 p q r) (omega arith, (omega arith, tt)) (λ h. absurd (omega arith))
by_parts (UTF8-3-E1 p q r) P f = f _ _ (UTF8-3-E1 p q r) (omega arith, (omega arith, tt)) (λ h. absurd (omega arith))
by_parts (UTF8-3-ED p q r) P f = f _ _ (UTF8-3-ED p q r) (omega arith, (omega arith, tt)) (λ h. absurd (omega arith))
by_parts (UTF8-3-EE p q r) P f = f _ _ (UTF8-3-EE p q r) (omega arith, (omega arith, tt)) (λ h. absurd (omega arith))
by_parts (UTF8-4-F0 p q r t) P f = f _ _ (UTF8-4-F0 p q r t) (omega arith, (omega arith, (omega arith, tt))) (λ h. absurd (omega arith))
by_parts (UTF8-4-F1 p q r t) P f = f _ _ (UTF8-4-F1 p q r t) (omega arith, (omega arith, (omega arith, tt))) (λ h. absurd (omega arith))
by_parts (UTF8-4-F4 p q r t) P f = f _ _ (UTF8-4-F4 p q r t) (omega arith, (omega arith, (omega arith, tt))) (λ h. absurd (omega arith))

-- ASCII
abbrev pub is_ascii : ℕ → Bool
is_ascii b = leb b 127

-- what is left behind a first byte that is ASCII is UTF-8
abbrev Behind : List ℕ → Type 0
Behind [] = Unit {0}
Behind (a ∷ s) = a ≤ 127 → UTF8-octets s

behind : {s : List ℕ} → UTF8-octets s → Behind s
behind empty = tt
behind (more {s = s} p o) = by_parts p (λ c. Behind (c ++ s)) (λ a t q high alone low. rw (alone low) o)

-- a text may be cut within the ASCII bytes at its front, and after them
pub cut-ascii : (n : ℕ) (s : List ℕ) → n ≤ run is_ascii s → UTF8-octets s → Cut s n
cut-ascii zero s h o = cut-zero o
cut-ascii (suc n) [] h o = absurd (omega arith)
cut-ascii (suc n) (b ∷ s) h o = decide (is_ascii b)
    (λ e.
    let low : b ≤ 127 = leb-true b 127 e in
    let most : suc n ≤ suc (run is_ascii s) = rw e at h in
    let further = cut-ascii n s (omega arith) (behind o low) in
    record { front = more (UTF8-1 {a = b} (omega arith)) further.front; rest = further.rest })
    (λ e. let most : suc n ≤ 0 = rw e at h in absurd (omega arith))

-- a run of a test that every byte over 127 passes goes over such bytes
run-high : (p : ℕ → Bool) → ((b : ℕ) → 127 < b → p b ≡ true) → (t s : List ℕ) → High t → run p (t ++ s) ≡ length t + run p s
run-high p pass [] s h = sym (zero-add (run p s))
run-high p pass (b ∷ t) s h = rw (pass b h.0) (ap suc (run-high p pass t s h.1) ∙ sym (suc-add (length t) (run p s)))

-- such a run ends between two characters
pub cut-run : (p : ℕ → Bool) → ((b : ℕ) → 127 < b → p b ≡ true) → {s : List ℕ} → UTF8-octets s → Cut s (run p s)
cut-run p pass empty = cut-zero empty
cut-run p pass (more {s = s} c o) = by_parts c (λ w. Cut (w ++ s) (run p (w ++ s))) (λ a t q high alone. decide (p a)
    (λ e.
    let over : suc (run p (t ++ s)) ≡ suc (length t) + run p s = ap suc (run-high p pass t s high) ∙ sym (suc-add (length t) (run p s)) in
    rw (e, over) (cut-behind q (cut-run p pass o)))
    (λ e. rw e (cut-zero (more q o))))

-- and so does one that goes on from any first byte
pub cut_on : (p : ℕ → Bool) → ((b : ℕ) → 127 < b → p b ≡ true) → {s : List ℕ} → 0 < length s → UTF8-octets s → Cut s (suc (run p (drop 1 s)))
cut_on p pass some empty = absurd (omega arith)
cut_on p pass some (more {s = s} c o) = by_parts c (λ w. Cut (w ++ s) (suc (run p (drop 1 (w ++ s))))) (λ a t q high alone.
    let over : suc (run p (t ++ s)) ≡ suc (length t) + run p s = ap suc (run-high p pass t s high) ∙ sym (suc-add (length t) (run p s)) in
    rw over (cut-behind q (cut-run p pass o)))
