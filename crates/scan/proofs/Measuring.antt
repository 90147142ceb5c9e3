-- Laws of one pass over a run of whitespace: what was looked at, how the pass goes on, and where it ends.
use Prim.Native.Nat.{ℕ, zero, suc, ◌+◌, ◌-◌, ◌≤◌, ◌<◌, max}
use mathlib.Core.Bool.{Bool, true, false, cond, false≢true}
use mathlib.Core.List.{List, [], ◌∷◌}
use mathlib.Core.Logic.{◌⊎◌, inl, inr}
use mathlib.Core.Path.{◌≡◌, refl, sym, ap, ◌∙◌}
use native.Mathlib.Nat.{not-suc-le-zero, le_of_suc-le-suc}
use native.Mathlib.Omega.{arith}
use lib.Dec.{eqb, ltb}
use lib.ListN.{length, drop, get_or, length-drop}
use lib.Seq.{drop-drop, get_or-drop}
use borrow.Author.Tests.{eqb-true, eq-eqb, ltb-true, ltb-false}
use Rattle.rules.specs.Text.{is, run}
use Rattle.rules.specs.Bytes.{is_whitespace}
use Rattle.rules.specs.Measuring.{measured}
use Rattle.rules.specs.Measuring as Rule
use Rattle.rules.proofs.Text.{decide, both}
use Rattle.rules.proofs.Runs.{run-le, run-stop, run-done}
use Rattle.rules.proofs.Measuring.{measured-length, lines_more, lines_none, looked-more, looked-all}
use Rattle.scan.specs.declared.Measured.{Measured}
use Rattle.scan.specs.declared.Looked.{Looked}
use Rattle.scan.specs.Reach.{Reach}
use Rattle.scan.specs.Measuring.{measured_meant, LooksAs, further_of, goes_on, EndsAt, Passing}
use Rattle.scan.proofs.Reach.{along, stay, more, join, over, wider}

-- a byte adds at most one line
line-le : (x : Bool) → cond x 1 0 ≤ 1
line-le true = omega arith
line-le false = omega arith

-- each byte of a run passes
run-passes : (p : ℕ → Bool) (n : ℕ) (s : List ℕ) → n < run p s → p (get_or s n 0) ≡ true
run-passes p n [] h = absurd (not-suc-le-zero h)
run-passes p zero (b ∷ s) h = go (p b) refl h
  where
    go : (x : Bool) → p b ≡ x → 0 < cond x (suc (run p s)) 0 → p b ≡ true
    go true e k = e
    go false e k = absurd (not-suc-le-zero k)
run-passes p (suc n) (b ∷ s) h = go (p b) (run-passes p n s) h
  where
    go : (x : Bool) → (n < run p s → p (get_or s n 0) ≡ true) → suc n < cond x (suc (run p s)) 0 → p (get_or s n 0) ≡ true
    go true f k = f (le_of_suc-le-suc k)
    go false f k = absurd (not-suc-le-zero k)

-- and the byte behind it does not
run-fails : (p : ℕ → Bool) (s : List ℕ) → run p s < length s → p (get_or s (run p s) 0) ≡ false
run-fails p [] h = absurd (not-suc-le-zero h)
run-fails p (b ∷ s) h = go (p b) refl (run-fails p s) h
  where
    go : (x : Bool) → p b ≡ x → (run p s < length s → p (get_or s (run p s) 0) ≡ false) → cond x (suc (run p s)) 0 < suc (length s) → p (get_or (b ∷ s) (cond x (suc (run p s)) 0) 0) ≡ false
    go true e f k = f (le_of_suc-le-suc k)
    go false e f k = e

module _ (p : ℕ → Bool) (t : List ℕ) (at : ℕ) where
  pub here-passes : (n : ℕ) → n < run p (drop at t) → p (get_or t (at + n) 0) ≡ true
  here-passes n h = rw (← get_or-drop at t n 0) (run-passes p n (drop at t) h)

  here-fails : at + run p (drop at t) < length t → p (get_or t (at + run p (drop at t)) 0) ≡ false
  here-fails h = rw (← get_or-drop at t (run p (drop at t)) 0) (run-fails p (drop at t) (omega (arith, length-drop at t)))

-- What was looked at
module _ {t : List ℕ} {at most : ℕ} {l : Looked} (x : LooksAs t at most l) (inside : at + most ≤ length t) where
  -- the last is a space where all are
  looks-spaces : l.byte ≡ 32 → most ≤ run (is " ") (drop at t)
  looks-spaces z = decide (ltb (run (is " ") (drop at t)) most)
      (λ e.
      let k : run (is " ") (drop at t) < most = ltb-true (run (is " ") (drop at t)) most e in
      let b : get_or t (at + run (is " ") (drop at t)) 0 ≡ 32 = sym (x.byte ∙ rw e refl) ∙ z in
      let no : is " " (get_or t (at + run (is " ") (drop at t)) 0) ≡ false = here-fails (is " ") t at (omega arith) in
      absurd (false≢true (sym no ∙ rw b refl)))
      (λ e. ltb-false (run (is " ") (drop at t)) most e)

  -- all before the last are spaces, and the last is the byte there
  module _ (some : 0 < most) where
    looks-some : 0 < l.count
    looks-some = omega (arith, x.count)

    looks-inside : at + l.count ≤ length t
    looks-inside = omega (arith, x.count)

    looks-before : Reach (is " ") t at (at + (l.count - 1))
    looks-before = along (l.count - 1) (omega (arith, x.count))

    looks-last : l.byte ≡ get_or t (at + (l.count - 1)) 0
    looks-last = decide (ltb (run (is " ") (drop at t)) most)
        (λ e.
        let k : run (is " ") (drop at t) < most = ltb-true (run (is " ") (drop at t)) most e in
        let n : l.count - 1 ≡ run (is " ") (drop at t) = omega (arith, x.count) in
        rw n (x.byte ∙ rw e refl))
        (λ e.
        let k : most ≤ run (is " ") (drop at t) = ltb-false (run (is " ") (drop at t)) most e in
        x.byte ∙ rw e (sym (eqb-true (get_or t (at + (l.count - 1)) 0) 32 (here-passes (is " ") t at (l.count - 1) (omega (arith, x.count))))))

-- a look that meets spaces alone goes on with those before it
pub looks_on : {t : List ℕ} {at : ℕ} (seen most : ℕ) {l : Looked} → Reach (is " ") t at (at + seen) → at + seen + most ≤ length t → LooksAs t (at + seen) most l → l.byte ≡ 32 → (at + (seen + l.count) ≤ length t) × Reach (is " ") t at (at + (seen + l.count))
looks_on {t} {at} seen most {l} r inside x z =
    let all : l.count ≡ most = omega (arith, x.count, looks-spaces x inside z) in
    let next : at + (seen + l.count) ≡ at + seen + l.count = omega arith in
    (omega arith, rw next (join r (along l.count (omega (arith, looks-spaces x inside z)))))

-- spaces at a text's front have no line end
no_lines : (n : ℕ) (s : List ℕ) → n ≤ run (is " ") s → (measured s).lines ≡ (measured (drop n s)).lines
unfolding measured is_whitespace
no_lines zero s h = refl
no_lines (suc n) [] h = absurd (not-suc-le-zero h)
no_lines (suc n) (b ∷ s) h = go (is " " b) refl (no_lines n s) h
  where
    go : (x : Bool) → is " " b ≡ x → (n ≤ run (is " ") s → (measured s).lines ≡ (measured (drop n s)).lines) → suc n ≤ cond x (suc (run (is " ") s)) 0 → (measured (b ∷ s)).lines ≡ (measured (drop n s)).lines
    go true e f k = rw (eqb-true b 32 e) (f (le_of_suc-le-suc k))
    go false e f k = absurd (not-suc-le-zero k)

-- the same of a scan of spaces
spaces-lines : {t : List ℕ} {at i : ℕ} → Reach (is " ") t at i → (measured (drop at t)).lines ≡ (measured (drop i t)).lines
spaces-lines {t} {at} {i} x =
    let there : at + (i - at) ≡ i = omega arith in
    rw (no_lines (i - at) (drop at t) (omega arith), drop-drop, there)

-- a space is whitespace
space-white : (b : ℕ) → is " " b ≡ true → is_whitespace b ≡ true
unfolding is_whitespace
space-white b e = rw e

-- The pass
module _ {t : List ℕ} {at most : ℕ} {m : Measured} {l : Looked} (y : Passing t at m) (going : m.looked ≡ m.length) (some : 0 < most) (inside : at + m.length + most ≤ length t) (x : LooksAs t (at + m.length) most l) where
  -- where the last byte stands
  last : at + m.length + (l.count - 1) < length t
  last = omega (arith, looks-inside x inside some, looks-some x inside some)

  reached : Reach is_whitespace t at (at + m.length + (l.count - 1))
  reached = join y.reach (wider space-white (looks-before x inside some))

  lines-there : (measured (drop at t)).lines ≡ m.lines + (measured (drop (at + m.length + (l.count - 1)) t)).lines
  lines-there = omega (arith, y.counted, spaces-lines (looks-before x inside some))

  -- the pass goes on
  pub passing_more : Passing t at (further_of m l)
  passing_more = decide (is_whitespace l.byte)
      (λ e.
      let b : is_whitespace (get_or t (at + m.length + (l.count - 1)) 0) ≡ true = sym (ap is_whitespace (looks-last x inside some)) ∙ e in
      let next : at + (m.length + l.count) ≡ at + m.length + (l.count - 1) + 1 = omega (arith, looks-some x inside some) in
      let line : ◌≡◌ {A = ℕ} (cond (is "\n" l.byte) 1 0) (cond (is "\n" (get_or t (at + m.length + (l.count - 1)) 0)) 1 0) = rw (looks-last x inside some) refl in
      rw e (record {
        reach = rw next (more last b reached);
        few = omega (arith, y.few, line-le (is "\n" l.byte), looks-some x inside some);
        counted = rw next (omega (arith, lines-there, line, lines_more t (at + m.length + (l.count - 1)) last b));
        looked = inl (omega arith);
      }))
      (λ e.
      let b : is_whitespace (get_or t (at + m.length + (l.count - 1)) 0) ≡ false = sym (ap is_whitespace (looks-last x inside some)) ∙ e in
      let here : at + (m.length + (l.count - 1)) ≡ at + m.length + (l.count - 1) = omega arith in
      rw e (record {
        reach = rw here reached;
        few = omega (arith, y.few);
        counted = rw here lines-there;
        looked = inr ((omega (arith, looks-some x inside some), rw here (record { inside = last; other = b })));
      }))

-- The loop's test
pub going : {t : List ℕ} {at : ℕ} {m : Measured} {r : Bool} → Passing t at m → r ≡ goes_on t at m → r ≡ true → (m.looked ≡ m.length) × (at + m.length < length t)
going {t} {at} {m} y e h =
    let x : (eqb m.length m.looked ≡ true) × (ltb (at + m.length) (length t) ≡ true) = both (eqb m.length m.looked) (ltb (at + m.length) (length t)) (sym e ∙ h) in
    (sym (eqb-true m.length m.looked x.0), ltb-true (at + m.length) (length t) x.1)

-- A pass that has looked at nothing
pub looked-none : {t : List ℕ} {at : ℕ} {m : Measured} → (m.length ≡ 0) × ((m.lines ≡ 0) × (m.looked ≡ 0)) → Passing t at m
looked-none {t} {at} {m} z =
    let here : at + m.length ≡ at = omega (arith, z.0) in
    record {
      reach = rw here stay;
      few = omega (arith, z.1.0);
      counted = rw here (omega (arith, z.1.0));
      looked = inl (omega (arith, z.0, z.1.1));
    }

-- The pass after one more look
pub look-on : {t : List ℕ} {at : ℕ} {m n : Measured} {l : Looked} {r : Bool} → Passing t at m → r ≡ goes_on t at m → r ≡ true → LooksAs t (at + m.length) 1 l → n ≡ further_of m l → Passing t at n
look-on {t} {at} {m} {n} {l} {r} y e h x f =
    let g = going y e h in
    rw f (passing_more y g.0 (omega arith) (omega (arith, g.1)) x)

-- The pass is over
measured-by : (s : List ℕ) {m : Measured} → m.length ≡ (measured s).length → m.lines ≡ (measured s).lines → m.looked ≡ (measured s).looked → measured_meant m ≡ measured s
measured-by s a b d = rw (a, b, d) refl

module _ {t : List ℕ} {at : ℕ} {m : Measured} (y : Passing t at m) where
  passing-over : run is_whitespace (drop (at + m.length) t) ≡ 0 → m.looked ≡ (measured (drop at t)).looked → measured_meant m ≡ measured (drop at t)
  passing-over z k = measured-by (drop at t) (omega (arith, over z y.reach, measured-length (drop at t))) (omega (arith, y.counted, lines_none (drop (at + m.length) t) z)) k

  -- by a byte, or by the text's end
  pub passing_end : {r : Bool} → r ≡ goes_on t at m → r ≡ false → measured_meant m ≡ measured (drop at t)
  passing_end same ended = go y.looked
    where
      f : m.length ≡ m.looked → length t ≤ at + m.length
      f e = ltb-false (at + m.length) (length t) (sym (same ∙ rw (eq-eqb m.length m.looked e) refl) ∙ ended)

      go : (m.looked ≡ m.length) ⊎ ((m.looked ≡ m.length + 1) × EndsAt t (at + m.length)) → measured_meant m ≡ measured (drop at t)
      go (inl e) =
          let z : run is_whitespace (drop (at + m.length) t) ≡ 0 = run-done is_whitespace t (at + m.length) (f (sym e)) in
          passing-over z (omega (arith, over z y.reach, looked-all t at (omega (arith, over z y.reach, f (sym e)))))
      go (inr (e, x)) =
          let z : run is_whitespace (drop (at + m.length) t) ≡ 0 = run-stop is_whitespace t (at + m.length) x.other in
          passing-over z (omega (arith, over z y.reach, looked-more t at (omega (arith, over z y.reach, x.inside))))

-- What is measured, field by field; it ends within the text, or where it begins
module _ (t : List ℕ) (at : ℕ) (m : Measured) (e : measured_meant m ≡ measured (drop at t)) where
  pub measured-run : m.length ≡ (measured (drop at t)).length
  measured-run = ap (λ (x : Rule.Measured). x.length) e

  pub measured-lines : m.lines ≡ (measured (drop at t)).lines
  measured-lines = ap (λ (x : Rule.Measured). x.lines) e

  pub measured-within : at + m.length ≤ max at (length t)
  measured-within = omega (arith, measured-run, measured-length (drop at t), run-le is_whitespace (drop at t), length-drop at t)
