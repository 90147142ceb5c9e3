-- What is read off the front of `w ++ r`, and off `w` alone: where the two agree.
use Prim.Native.Nat.{ℕ, zero, suc, ◌≤◌, ◌<◌}
use Prim.Native.Char.{Char, code}
use Prim.Native.String.{String}
use Prim.Native.String as S
use mathlib.Core.Path.{◌≡◌, refl, sym, ap, ◌∙◌}
use mathlib.Core.List.{List, [], ◌∷◌, ◌++◌}
use mathlib.Core.Bool.{Bool, true, false, cond, not, ◌&&◌, ◌||◌, false≢true}
use native.Mathlib.Nat.{not-suc-le-zero, le_of_suc-le-suc}
use native.Mathlib.Omega.{arith}
use borrow.Author.Tests.{eqb-true, leb-true, leb-false}
use lib.Dec.{eqb, leb}
use lib.ListN.{length, get_or, get_or-append}
use Rattle.rules.specs.Text.{ascii, is, begins, starts, run}
use Rattle.rules.specs.Bytes.{is_whitespace}
use Rattle.rules.specs.Step.{give_back}
use Rattle.rules.proofs.Text.{decide, either, is_code, is-another, and_left, and_right}
use Rattle.rules.proofs.Runs.{run-extended}
use Rattle.rules.proofs.Bounds.{size}

-- the text ends, or goes on with whitespace
abbrev pub end_or_whitespace : List ℕ → Bool
end_or_whitespace r = not (starts (λ b. not (is_whitespace b)) r)

-- Tests
-- a test that is not passed fails
pub not-true : (b : Bool) → not b ≡ true → b ≡ false
not-true true e = sym e
not-true false e = refl

-- a test that does not fail passes
not-not : (b : Bool) → not (not b) ≡ true → b ≡ true
not-not true e = refl
not-not false e = e

-- Quoted texts
-- a text begins as the first part of it does
pub begins-append : (t : String) (w r : List ℕ) → begins t w ≡ true → begins t (w ++ r) ≡ true
begins-append S.[] w r e = refl
begins-append (S.◌∷◌ c t) [] r e = absurd (false≢true e)
begins-append (S.◌∷◌ c t) (b ∷ w) r e = rw (and_left (is c b) (begins t w) e) (begins-append t w r (and_right (is c b) (begins t w) e))

-- a first part does not begin with what the text does not begin with
pub begins-part : (t : String) (w r : List ℕ) → begins t (w ++ r) ≡ false → begins t w ≡ false
begins-part t w r e = decide (begins t w) (λ u. absurd (false≢true (sym e ∙ begins-append t w r u))) (λ u. u)

-- a quoted text is read in a first part that is as long
pub begins-alone : (t : String) (w r : List ℕ) → size t ≤ length w → begins t (w ++ r) ≡ begins t w
begins-alone S.[] w r h = refl
begins-alone (S.◌∷◌ c t) [] r h = absurd (not-suc-le-zero h)
begins-alone (S.◌∷◌ c t) (b ∷ w) r h = ap (λ (x : Bool). is c b && x) (begins-alone t w r (le_of_suc-le-suc h))

-- so it does not depend on what follows
pub begins-replaced : (t : String) (w r r' : List ℕ) → size t ≤ length w → begins t (w ++ r') ≡ begins t (w ++ r)
begins-replaced t w r r' h = begins-alone t w r' h ∙ sym (begins-alone t w r h)

-- the one quoted text begins the other
abbrev pub prefix : (t u : String) → Bool
prefix S.[] u = true
prefix (S.◌∷◌ c t) S.[] = false
prefix (S.◌∷◌ c t) (S.◌∷◌ d u) = is c (code d) && prefix t u

-- a text that begins with the longer begins with the shorter
begins-prefix : (t u : String) (s : List ℕ) → prefix t u ≡ true → begins u s ≡ true → begins t s ≡ true
begins-prefix S.[] u s p e = refl
begins-prefix (S.◌∷◌ c t) S.[] s p e = absurd (false≢true p)
begins-prefix (S.◌∷◌ c t) (S.◌∷◌ d u) [] p e = e
begins-prefix (S.◌∷◌ c t) (S.◌∷◌ d u) (b ∷ s) p e =
    let here : b ≡ code d = is_code d b (and_left (is d b) (begins u s) e) in
    rw (here, and_left (is c (code d)) (prefix t u) p) (begins-prefix t u s (and_right (is c (code d)) (prefix t u) p) (and_right (is d b) (begins u s) e))

-- a text that does not begin with a quoted one begins with none that goes on from it
pub begins-further : (t u : String) (s : List ℕ) → prefix t u ≡ true → begins t s ≡ false → begins u s ≡ false
begins-further t u s p e = decide (begins u s) (λ v. absurd (false≢true (sym e ∙ begins-prefix t u s p v))) (λ v. v)

-- a text whose first byte passes a test begins with no quoted text whose first character fails it
pub begins-another : (p : ℕ → Bool) (c : Char) (t : String) (s : List ℕ) → starts p s ≡ true → p (code c) ≡ false → begins (S.◌∷◌ c t) s ≡ false
begins-another p c t [] h f = refl
begins-another p c t (b ∷ s) h f = rw (is-another p c b h f)

-- a text begins with no two quoted texts that differ in their first character
pub begins-differs : (c d : Char) (t u : String) (s : List ℕ) → begins (S.◌∷◌ c t) s ≡ true → is d (code c) ≡ false → begins (S.◌∷◌ d u) s ≡ false
begins-differs c d t u [] h f = refl
begins-differs c d t u (b ∷ s) h f = let here : b ≡ code c = is_code c b (and_left (is c b) (begins t s) h) in rw (here, f)

-- a text that begins with a quoted one and is no longer is the quoted one
pub begins-whole : (t : String) (s : List ℕ) → begins t s ≡ true → length s ≡ size t → s ≡ ascii t
begins-whole S.[] [] e h = refl
begins-whole S.[] (b ∷ s) e h = absurd (omega arith)
begins-whole (S.◌∷◌ c t) [] e h = absurd (false≢true e)
begins-whole (S.◌∷◌ c t) (b ∷ s) e h =
    let here : b ≡ code c = is_code c b (and_left (is c b) (begins t s) e) in
    let rest : s ≡ ascii t = begins-whole t s (and_right (is c b) (begins t s) e) (omega arith) in
    rw (here, rest)

-- no character of a quoted text is whitespace
abbrev pub no_whitespace : String → Bool
no_whitespace S.[] = true
no_whitespace (S.◌∷◌ c t) = not (is_whitespace (code c)) && no_whitespace t

-- after a text, the end or whitespace adds nothing to what it begins with
pub begins-extended : (t : String) (w r : List ℕ) → no_whitespace t ≡ true → end_or_whitespace r ≡ true → begins t (w ++ r) ≡ begins t w
begins-extended S.[] w r n e = refl
begins-extended (S.◌∷◌ c t) [] [] n e = refl
begins-extended (S.◌∷◌ c t) [] (b ∷ r) n e =
    rw (is-another is_whitespace c b (not-not (is_whitespace b) e) (not-true (is_whitespace (code c)) (and_left (not (is_whitespace (code c))) (no_whitespace t) n)))
begins-extended (S.◌∷◌ c t) (b ∷ w) r n e = ap (λ (x : Bool). is c b && x) (begins-extended t w r (and_right (not (is_whitespace (code c))) (no_whitespace t) n) e)

-- First bytes
-- no whitespace passes the test
abbrev pub FailsWhitespace : (ℕ → Bool) → Type 0
FailsWhitespace p = (b : ℕ) → is_whitespace b ≡ true → p b ≡ false

-- the five bytes of whitespace fail it
pub fails-whitespace : (p : ℕ → Bool) → p (code " ") ≡ false → p (code "\t") ≡ false → p (code "\n") ≡ false → p 0x0C ≡ false → p (code "\r") ≡ false → FailsWhitespace p
unfolding is_whitespace
fails-whitespace p space tab lf ff cr b e =
    either (is " " b || is "\t" b || is "\n" b || eqb b 0x0C) (is "\r" b) e (λ e.
    either (is " " b || is "\t" b || is "\n" b) (eqb b 0x0C) e (λ e.
    either (is " " b || is "\t" b) (is "\n" b) e (λ e.
    either (is " " b) (is "\t" b) e
    (λ e. rw (is_code " " b e) space)
    (λ e. rw (is_code "\t" b e) tab))
    (λ e. rw (is_code "\n" b e) lf))
    (λ e. rw (eqb-true b 0x0C e) ff))
    (λ e. rw (is_code "\r" b e) cr)

-- a text that starts with whitespace does not start with such a byte
pub starts-another : (p : ℕ → Bool) (s : List ℕ) → FailsWhitespace p → starts is_whitespace s ≡ true → starts p s ≡ false
starts-another p [] n e = refl
starts-another p (b ∷ s) n e = n b e

-- what ends or goes on with whitespace does not start with such a byte
starts-not : (p : ℕ → Bool) (r : List ℕ) → FailsWhitespace p → end_or_whitespace r ≡ true → starts p r ≡ false
starts-not p [] n e = refl
starts-not p (b ∷ r) n e = n b (not-not (is_whitespace b) e)

-- the first byte of a text is the first byte of its first part
pub starts-alone : (p : ℕ → Bool) (w r : List ℕ) → 0 < length w → starts p (w ++ r) ≡ starts p w
starts-alone p [] r h = absurd (not-suc-le-zero h)
starts-alone p (b ∷ w) r h = refl

-- the end or whitespace after a text is no first byte that passes such a test
pub starts-extended : (p : ℕ → Bool) (w r : List ℕ) → FailsWhitespace p → end_or_whitespace r ≡ true → starts p (w ++ r) ≡ starts p w
starts-extended p [] r n e = starts-not p r n e
starts-extended p (b ∷ w) r n e = refl

-- Runs
-- a run that ends in the first part ends there too where the text does
pub run_alone : (p : ℕ → Bool) (w r : List ℕ) → run p (w ++ r) ≤ length w → run p (w ++ r) ≡ run p w
run_alone p [] r h = omega arith
run_alone p (b ∷ w) r h = go (p b) (run_alone p w r) h
  where
    go : (x : Bool) → (run p (w ++ r) ≤ length w → run p (w ++ r) ≡ run p w) → cond x (suc (run p (w ++ r))) 0 ≤ suc (length w) → cond x (suc (run p (w ++ r))) 0 ≡ cond x (suc (run p w)) 0
    go true e k = ap suc (e (le_of_suc-le-suc k))
    go false e k = refl

-- a run over all of the first part goes over it where the text ends there
pub run-over : (p : ℕ → Bool) (w r : List ℕ) → length w ≤ run p (w ++ r) → run p w ≡ length w
run-over p [] r h = refl
run-over p (b ∷ w) r h = go (p b) (run-over p w r) h
  where
    go : (x : Bool) → (length w ≤ run p (w ++ r) → run p w ≡ length w) → suc (length w) ≤ cond x (suc (run p (w ++ r))) 0 → cond x (suc (run p w)) 0 ≡ suc (length w)
    go true e k = ap suc (e (le_of_suc-le-suc k))
    go false e k = absurd (not-suc-le-zero k)

-- a run over so many bytes of the first part goes over them where the text ends there
pub run-least : (p : ℕ → Bool) (w r : List ℕ) (n : ℕ) → n ≤ length w → n ≤ run p (w ++ r) → n ≤ run p w
run-least p w r n h k = decide (leb (run p (w ++ r)) (length w))
    (λ e. omega (arith, run_alone p w r (leb-true (run p (w ++ r)) (length w) e)))
    (λ e. let over = leb-false (run p (w ++ r)) (length w) e in omega (arith, run-over p w r (omega arith)))

-- a run goes at least as far in a longer text
pub run-longer : (p : ℕ → Bool) (w r : List ℕ) → run p w ≤ run p (w ++ r)
run-longer p [] r = omega arith
run-longer p (b ∷ w) r = go (p b) (run-longer p w r)
  where
    go : (x : Bool) → run p w ≤ run p (w ++ r) → cond x (suc (run p w)) 0 ≤ cond x (suc (run p (w ++ r))) 0
    go true e = omega arith
    go false e = omega arith

-- a run is empty where the first byte fails the test
pub run_none : (p : ℕ → Bool) (r : List ℕ) → starts p r ≡ false → run p r ≡ 0
run_none p [] e = refl
run_none p (b ∷ r) e = rw e

-- after a text, the end or whitespace does not go on with a run of other bytes
pub run-before : (p : ℕ → Bool) (w r : List ℕ) → FailsWhitespace p → end_or_whitespace r ≡ true → run p (w ++ r) ≡ run p w
run-before p w r n e = run-extended p w r (run_none p r (starts-not p r n e))

-- Giving back
-- so many bytes are read in a first part that is as long
pub give_back-alone : (w r : List ℕ) (n : ℕ) → n ≤ length w → give_back (w ++ r) n ≡ give_back w n
give_back-alone w r zero h = refl
give_back-alone w r (suc n) h = rw (get_or-append w r 0 n h, give_back-alone w r n (omega arith))

-- as much is left of any number of bytes between what is left and what there was
pub give_back-between : (s : List ℕ) (m n : ℕ) → give_back s n ≤ m → m ≤ n → give_back s n ≡ give_back s m
give_back-between s m zero h k = let z : m ≡ 0 = omega arith in rw z
give_back-between s m (suc n) h k = decide (leb m n)
    (λ e. go (is "-" (get_or s n 0)) (leb-true m n e) (give_back-between s m n) h)
    (λ e. let z : m ≡ suc n = omega (arith, leb-false m n e) in rw z)
  where
    go : (x : Bool) → m ≤ n → (give_back s n ≤ m → m ≤ n → give_back s n ≡ give_back s m) → cond x (give_back s n) (suc n) ≤ m → cond x (give_back s n) (suc n) ≡ give_back s m
    go true j e i = e i j
    go false j e i = absurd (omega arith)
