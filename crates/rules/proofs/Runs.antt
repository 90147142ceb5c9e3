-- Laws about runs and first bytes: by position in a text, where the code reads them, and of a text put before another.
use Prim.Native.Nat.{ℕ, zero, suc, ◌+◌, ◌≤◌, ◌<◌}
use Prim.Native.Char.{Char, code}
use Prim.Native.String.{String}
use Prim.Native.String as S
use mathlib.Core.Bool.{Bool, true, false, cond, ◌&&◌, and-true, and-false, false≢true}
use mathlib.Core.List.{List, [], ◌∷◌, ◌++◌}
use mathlib.Core.Path.{◌≡◌, refl, ap, sym, ◌∙◌, fun_ext}
use native.Mathlib.Numerals.{add-one}
use native.Mathlib.Nat.{zero-add, add-zero, suc-add, add-suc, not-suc-le-zero, le_of_suc-le-suc}
use native.Mathlib.Omega.{arith}
use lib.Dec.{eqb}
use borrow.Author.Tests.{eq-eqb, ne_eqb}
use lib.ListN.{length, take, drop, get_or, length-drop, drop_of_length-le}
use lib.Seq.{drop-cons, drop-nil}
use Rattle.rules.specs.Text.{is, begins, same, starts, run}

module _ (p : ℕ → Bool) (t : List ℕ) (i : ℕ) where
  -- one more byte: where the byte at `i` passes, the run from `i` ends where the run from `i + 1` ends
  pub run_more : i < length t → p (get_or t i 0) ≡ true → i + run p (drop i t) ≡ i + 1 + run p (drop (i + 1) t)
  run_more h e = rw (add-one, drop-cons t i 0, e) (omega arith)

  -- the end: from the text's end on a run is empty
  pub run-done : length t ≤ i → run p (drop i t) ≡ 0
  run-done h = rw (drop_of_length-le t h)

-- the stop: where the byte at `i`, a 0 past the end, fails, the run is empty
pub run-stop : (p : ℕ → Bool) (t : List ℕ) (i : ℕ) → p (get_or t i 0) ≡ false → run p (drop i t) ≡ 0
run-stop p [] i e = rw (drop-nil i)
run-stop p (b ∷ t) zero e = rw e
run-stop p (b ∷ t) (suc i) e = run-stop p t i e

-- a first byte that passes is the byte at the position, where 0, which is read past the end, does not pass
pub starts-at : (p : ℕ → Bool) (t : List ℕ) (i : ℕ) → p 0 ≡ false → starts p (drop i t) ≡ p (get_or t i 0)
starts-at p [] i z = rw (drop-nil i) (sym z)
starts-at p (b ∷ t) zero z = refl
starts-at p (b ∷ t) (suc i) z = starts-at p t i z

-- a quoted text at a position: its first character is the byte there, and the others follow; its first character is not 0
pub begins-more : (c : Char) (w : String) (t : List ℕ) (i : ℕ) → is c 0 ≡ false → begins (S.◌∷◌ c w) (drop i t) ≡ (is c (get_or t i 0) && begins w (drop (i + 1) t))
begins-more c w [] i z = rw (drop-nil i, z)
begins-more c w (b ∷ t) zero z = refl
begins-more c w (b ∷ t) (suc i) z = begins-more c w t i z ∙ rw (add-one, add-one)

-- one quoted character at a position
pub begins-at : (c : Char) (t : List ℕ) (i : ℕ) → is c 0 ≡ false → begins (S.◌∷◌ c S.[]) (drop i t) ≡ eqb (get_or t i 0) (code c)
begins-at c t i z = begins-more c S.[] t i z ∙ and-true _

-- two tests that agree on every byte have the same runs
pub run-same : {p q : ℕ → Bool} (s : List ℕ) → ((b : ℕ) → p b ≡ q b) → run p s ≡ run q s
run-same s e = ap (λ (r : ℕ → Bool). run r s) (fun_ext e)

-- a run ends within its text
pub run-le : (p : ℕ → Bool) (s : List ℕ) → run p s ≤ length s
run-le p [] = omega arith
run-le p (b ∷ s) = at_most (p b) (run-le p s)
  where
    at_most : (x : Bool) → run p s ≤ length s → cond x (suc (run p s)) 0 ≤ suc (length s)
    at_most true h = omega arith
    at_most false h = omega arith

-- the same at a position: a run that starts within the text ends within it
pub run-within : (p : ℕ → Bool) (t : List ℕ) (i : ℕ) → i ≤ length t → i + run p (drop i t) ≤ length t
run-within p t i h = omega (arith, run-le p (drop i t), length-drop i t)

-- a run goes on from every place in it
pub run_drop : (p : ℕ → Bool) (n : ℕ) (s : List ℕ) → n ≤ run p s → run p s ≡ n + run p (drop n s)
run_drop p zero s h = sym (zero-add _)
run_drop p (suc n) [] h = absurd (not-suc-le-zero h)
run_drop p (suc n) (b ∷ s) h = go (p b) (run_drop p n s) h
  where
    go : (x : Bool) → (n ≤ run p s → run p s ≡ n + run p (drop n s)) → suc n ≤ cond x (suc (run p s)) 0 → cond x (suc (run p s)) 0 ≡ suc n + run p (drop n s)
    go true e k = ap suc (e (le_of_suc-le-suc k)) ∙ sym (suc-add _ _)
    go false e k = absurd (not-suc-le-zero k)

-- a test that passes wherever another does has runs at least as long
pub run_wider : {p q : ℕ → Bool} (s : List ℕ) → ((b : ℕ) → p b ≡ true → q b ≡ true) → run p s ≤ run q s
run_wider [] w = omega arith
run_wider {p} {q} (b ∷ s) w = go (p b) (q b) (w b) (run_wider s w)
  where
    go : (x y : Bool) → (x ≡ true → y ≡ true) → run p s ≤ run q s → cond x (suc (run p s)) 0 ≤ cond y (suc (run q s)) 0
    go true true e h = omega arith
    go true false e h = absurd (false≢true (e refl))
    go false y e h = omega arith

-- a run is the same in a longer text, where what follows does not go on with it
pub run-extended : (p : ℕ → Bool) (s r : List ℕ) → run p r ≡ 0 → run p (s ++ r) ≡ run p s
run-extended p [] r e = e
run-extended p (b ∷ s) r e = rw (run-extended p s r e)

-- the same, where the run ends before the shorter text does
pub run-ended : (p : ℕ → Bool) (s r : List ℕ) → run p s < length s → run p (s ++ r) ≡ run p s
run-ended p [] r h = absurd (not-suc-le-zero h)
run-ended p (b ∷ s) r h = go (p b) (run-ended p s r) h
  where
    go : (x : Bool) → (run p s < length s → run p (s ++ r) ≡ run p s) → cond x (suc (run p s)) 0 < suc (length s) → cond x (suc (run p (s ++ r))) 0 ≡ cond x (suc (run p s)) 0
    go true e k = ap suc (e (le_of_suc-le-suc k))
    go false e k = refl

-- a quoted character stands at a position where the byte there is its code
pub begins-is : (c : Char) (t : List ℕ) (i : ℕ) → is c 0 ≡ false → get_or t i 0 ≡ code c → begins (S.◌∷◌ c S.[]) (drop i t) ≡ true
begins-is c t i z e = begins-at c t i z ∙ eq-eqb _ _ e

-- and not where it is another
pub begins-not : (c : Char) (t : List ℕ) (i : ℕ) → is c 0 ≡ false → (get_or t i 0 ≡ code c → ⊥) → begins (S.◌∷◌ c S.[]) (drop i t) ≡ false
begins-not c t i z e = begins-at c t i z ∙ ne_eqb _ _ e

-- a quoted character at a position is all that is left where the text ends after it
pub same-last : (c : Char) (t : List ℕ) (i : ℕ) → i < length t → length t ≤ i + 1 → begins (S.◌∷◌ c S.[]) (drop i t) ≡ true → same (S.◌∷◌ c S.[]) (drop i t) ≡ true
same-last c t i h k e =
    let ends : length t ≤ suc i = omega arith in
    rw (drop-cons t i 0, drop_of_length-le t ends) (rw (drop-cons t i 0) at e)

-- and is not where the text goes on
pub same_not : (c : Char) (t : List ℕ) (i : ℕ) → i + 1 < length t → same (S.◌∷◌ c S.[]) (drop i t) ≡ false
same_not c t i h =
    let here : i < length t = omega arith in
    let next : suc i < length t = omega arith in
    rw (drop-cons t i 0 here, drop-cons t (suc i) 0 next) (and-false (is c (get_or t i 0)))

-- a byte that passes a test which 0, read past the end, does not pass stands in the text
pub passes-inside : (p : ℕ → Bool) (t : List ℕ) (i : ℕ) → p 0 ≡ false → p (get_or t i 0) ≡ true → i < length t
passes-inside p [] i z e = absurd (false≢true (sym z ∙ e))
passes-inside p (b ∷ t) zero z e = omega arith
passes-inside p (b ∷ t) (suc i) z e = omega (arith, passes-inside p t i z e)

-- a text from a position on, by the byte there
pub drop-byte : (t : List ℕ) (i b : ℕ) → i < length t → get_or t i 0 ≡ b → drop i t ≡ b ∷ drop (i + 1) t
drop-byte t i b h e = rw (add-one, drop-cons t i 0, e)

-- so many bytes of a text, one by one, from an offset after a position
abbrev pub bytes_from : (t : List ℕ) (i offset n : ℕ) → List ℕ
bytes_from t i offset zero = []
bytes_from t i offset (suc n) = get_or t (i + offset) 0 ∷ bytes_from t i (suc offset) n

-- a part of a text is its bytes
pub take-bytes : (t : List ℕ) (i n : ℕ) → i + n ≤ length t → take n (drop i t) ≡ bytes_from t i 0 n
take-bytes t i n h = ap (λ (k : ℕ). take n (drop k t)) (sym (add-zero i)) ∙ from n 0 (omega arith)
  where
    from : (n offset : ℕ) → i + offset + n ≤ length t → take n (drop (i + offset) t) ≡ bytes_from t i offset n
    from zero offset k = refl
    from (suc n) offset k =
        let inside : i + offset < length t = omega arith in
        rw (drop-cons t (i + offset) 0, ← add-suc) (ap {B = List ℕ} (λ s. get_or t (i + offset) 0 ∷ s) (from n (suc offset) (omega arith)))
