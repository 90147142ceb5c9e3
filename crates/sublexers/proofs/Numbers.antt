-- Numbers and whitespace by position, as the code reads them: for each test of the rules the byte that decides it, for each length the offset where it ends.
use Prim.Native.Nat.{ℕ, suc, ◌+◌, ◌<◌}
use native.Mathlib.Nat.{add-zero, zero-add, add_assoc, add_left_cancel}
use native.Mathlib.Omega.{arith}
use mathlib.Core.Path.{◌≡◌, refl, sym, ap, ◌∙◌}
use mathlib.Core.List.{List}
use mathlib.Core.Bool.{Bool, true, false, cond, not, ◌&&◌, ◌||◌}
use borrow.Author.Tests.{eqb-true, eqb-false, eq-eqb, ne_eqb}
use Rattle.std.proofs.lemmas.Grind.{common_steps}
use lib.Dec.{eqb}
use lib.ListN.{drop, get_or, length}
use lib.Seq.{drop-drop}
use Rattle.rules.specs.Text.{is, begins, run}
use Rattle.rules.specs.Bytes.{is_digit, is_binary_digit, is_hex_digit}
use Rattle.rules.specs.Refusals.{NoBinaryDigit, NoHexDigit, NoFractionDigit, NoExponentDigit}
use Rattle.rules.specs.Kinds.{NumBinary, NumHexadecimal, NumDecimal}
use Rattle.rules.specs.Step.{Step, found, stop, is_underscore, is_digit_or_underscore, int_length, exponent_mark, exponent, fraction, decimal, prefixed, number}
use Rattle.rules.proofs.Text.{decide}
use Rattle.rules.proofs.Runs.{starts-at, begins-more, begins-at, passes-inside}
use Rattle.rules.proofs.Measuring.{whitespace-measured}
use Rattle.scan.proofs.Measuring.{measured-run, measured-lines, measured-within}
use Rattle.sublexers.specs.ByClass.{fraction_alone, prefixed_by}
use Rattle.sublexers.specs.Outcome.{Outcome, lexeme_to, refused_at, miscoded, outcome}

one_more : (n : ℕ) → 1 + n ≡ suc n
one_more n = omega arith

-- Decimals in three parts, each counted from where it stands
abbrev moved : ℕ → Step → Step
moved n (found k m) = found k (n + m)
moved n (stop number from m) = stop number (n + from) m

moved_cond : (n : ℕ) (t : Bool) (x y : Step) → moved n (cond t x y) ≡ cond t (moved n x) (moved n y)
moved_cond n true x y = refl
moved_cond n false x y = refl

moved-moved : (n m : ℕ) (r : Step) → moved n (moved m r) ≡ moved (n + m) r
moved-moved n m (found k l) = simp add_assoc
moved-moved n m (stop number from l) = simp add_assoc

exponent-moved : (n : ℕ) (s : List ℕ) → exponent n s ≡ moved n (exponent 0 s)
unfolding exponent
exponent-moved n s = simp (moved_cond, add-zero, zero-add, add_assoc)

-- an exponent after a fraction that was found, so many bytes long; a fraction's refusal stays
abbrev then_exponent : List ℕ → Step → Step
then_exponent s (found k m) = moved m (exponent 0 (drop m s))
then_exponent s (stop number from m) = stop number from m

then-cond : (s : List ℕ) (t : Bool) (x y : Step) → then_exponent s (cond t x y) ≡ cond t (then_exponent s x) (then_exponent s y)
then-cond s true x y = refl
then-cond s false x y = refl

fraction-parts : (n : ℕ) (s : List ℕ) → fraction n s ≡ moved n (then_exponent s (fraction_alone s))
unfolding fraction fraction_alone
fraction-parts n s = simp (then-cond, moved_cond, moved-moved, one_more, add-zero) (simp (← exponent-moved))

decimal-parts : (s : List ℕ) → decimal s ≡ moved (int_length s) (then_exponent (drop (int_length s) s) (fraction_alone (drop (int_length s) s)))
unfolding decimal
decimal-parts s = fraction-parts (int_length s) (drop (int_length s) s)

-- Outcomes
outcome-cond : (at : ℕ) (b : Bool) (x y : Step) → outcome at (cond b x y) ≡ cond b (outcome at x) (outcome at y)
outcome-cond at true x y = refl
outcome-cond at false x y = refl

outcome-moved : (at n : ℕ) (r : Step) → outcome at (moved n r) ≡ outcome (at + n) r
outcome-moved at n (found k m) = simp add_assoc
outcome-moved at n (stop refusal from m) = simp add_assoc

plus-cond : (b : Bool) (n x y : ℕ) → n + cond b x y ≡ cond b (n + x) (n + y)
plus-cond true n x y = refl
plus-cond false n x y = refl

-- two lengths from one place are equal where their ends are
eqb-plus : (n x y : ℕ) → eqb (n + x) (n + y) ≡ eqb x y
eqb-plus n x y = decide (eqb x y)
    (λ e. rw (eqb-true x y e) (eq-eqb (n + y) (n + y) refl ∙ sym (eq-eqb y y refl)))
    (λ e. rw e (ne_eqb (n + x) (n + y) (λ q. eqb-false x y e (add_left_cancel n q))))

-- a byte that is not 0 lies inside the text
pub not-zero-inside : (t : List ℕ) (at : ℕ) {b : ℕ} → get_or t at 0 ≡ b → 0 < b → at < length t
not-zero-inside t at e h = passes-inside (λ x. not (eqb x 0)) t at refl (ap not (ne_eqb (get_or t at 0) 0 (λ (z : get_or t at 0 ≡ 0). omega (arith, e, z))))

pub some_inside : (t : List ℕ) (at : ℕ) {b : ℕ} → get_or t at 0 ≡ suc b → at < length t
some_inside t at e = not-zero-inside t at e (omega arith)

digit-zero : is_digit 0 ≡ false
unfolding is_digit
digit-zero = refl

-- what an exponent begins with, and what may follow that
abbrev pub is_mark : ℕ → Bool
is_mark b = is "e" b || is "E" b

abbrev pub is_sign : ℕ → Bool
is_sign b = is "+" b || is "-" b

-- where an exponent's mark and sign end
abbrev pub mark_end : List ℕ → ℕ → ℕ
mark_end t at = at + 1 + cond (begins "+" (drop (at + 1) t) || begins "-" (drop (at + 1) t)) 1 0

mark-at : (t : List ℕ) (at : ℕ) → at + exponent_mark (drop at t) ≡ mark_end t at
unfolding exponent_mark
mark-at t at = rw (drop-drop 1 at t) (go (begins "+" (drop (at + 1) t) || begins "-" (drop (at + 1) t)))
  where
    go : (b : Bool) → at + cond b 2 1 ≡ at + 1 + cond b 1 0
    go true = omega arith
    go false = omega arith

-- an exponent's digits from `m` on, or refusal 17
abbrev pub digits_from : List ℕ → ℕ → Outcome
digits_from t m = cond (is_digit (get_or t m 0)) (lexeme_to NumDecimal (m + run is_digit_or_underscore (drop m t))) (refused_at NoExponentDigit m m)

module _ (t : List ℕ) (at : ℕ) where
  pub sign_at : (begins "+" (drop at t) || begins "-" (drop at t)) ≡ is_sign (get_or t at 0)
  sign_at = rw (begins-at "+" t at refl, begins-at "-" t at refl)

  pub exponent_at : outcome at (exponent 0 (drop at t)) ≡ cond (is_mark (get_or t at 0)) (digits_from t (mark_end t at)) (lexeme_to NumDecimal at)
  unfolding exponent
  exponent_at =
      rw (outcome-cond, outcome-cond, begins-at "e" t at refl, begins-at "E" t at refl, drop-drop (exponent_mark (drop at t)) at t, starts-at is_digit t (at + exponent_mark (drop at t)) digit-zero)
      (simp (zero-add, add-zero, ← add_assoc) (rw (mark-at t at)))

  pub fraction_at : outcome at (fraction_alone (drop at t)) ≡
      cond (is "." (get_or t at 0))
      (cond (is_digit (get_or t (at + 1) 0)) (lexeme_to NumDecimal (at + 1 + run is_digit_or_underscore (drop (at + 1) t))) (refused_at NoFractionDigit at (at + 1)))
      (lexeme_to NumDecimal at)
  unfolding fraction_alone
  fraction_at =
      rw (outcome-cond, outcome-cond, begins-at "." t at refl, drop-drop 1 at t, starts-at is_digit t (at + 1) digit-zero)
      (simp (add-zero, ← add_assoc))

  pub int_at : at + int_length (drop at t) ≡ cond (is "0" (get_or t at 0)) (at + 1) (at + run is_digit_or_underscore (drop at t))
  unfolding int_length
  int_at = rw (begins-at "0" t at refl) (plus-cond (is "0" (get_or t at 0)) at 1 _)

  -- the digits and underscores after a prefix, and the underscores alone, by their ends
  pub prefixed_at : (kind refusal : ℕ) (goes : ℕ → Bool) →
      outcome at (prefixed_by kind refusal goes (drop at t)) ≡
      cond (eqb (at + 2 + run is_underscore (drop (at + 2) t)) (at + 2 + run goes (drop (at + 2) t)))
      (refused_at refusal at (at + 2 + run goes (drop (at + 2) t)))
      (lexeme_to kind (at + 2 + run goes (drop (at + 2) t)))
  unfolding prefixed_by
  prefixed_at kind refusal goes = rw (outcome-cond, drop-drop 2 at t) (simp (add-zero, ← add_assoc, eqb-plus))

  pub number_at : number (drop at t) ≡
      cond (is "0" (get_or t at 0) && is "b" (get_or t (at + 1) 0)) (prefixed_by NumBinary NoBinaryDigit (λ b. is_binary_digit b || is_underscore b) (drop at t)) (
      cond (is "0" (get_or t at 0) && is "x" (get_or t (at + 1) 0)) (prefixed_by NumHexadecimal NoHexDigit (λ b. is_hex_digit b || is_underscore b) (drop at t))
      (decimal (drop at t)))
  unfolding number prefixed prefixed_by
  number_at = rw (begins-more "0" "b" t at refl, begins-at "b" t (at + 1) refl, begins-more "0" "x" t at refl, begins-at "x" t (at + 1) refl)

-- an exponent from where a fraction ends; a fraction's refusal stays
abbrev pub and_exponent : List ℕ → Outcome → Outcome
and_exponent t (lexeme_to k e) = outcome e (exponent 0 (drop e t))
and_exponent t (refused_at refusal start end) = refused_at refusal start end
and_exponent t miscoded = miscoded

then_at : (t : List ℕ) (m : ℕ) (r : Step) → outcome m (then_exponent (drop m t) r) ≡ and_exponent t (outcome m r)
then_at t m (found k n) = rw (drop-drop n m t) (outcome-moved m n (exponent 0 (drop (m + n) t)))
then_at t m (stop refusal from n) = refl

pub decimal_at : (t : List ℕ) (at : ℕ) → outcome at (decimal (drop at t)) ≡ and_exponent t (outcome (at + int_length (drop at t)) (fraction_alone (drop (at + int_length (drop at t)) t)))
decimal_at t at =
    rw (decimal-parts (drop at t), outcome-moved, drop-drop (int_length (drop at t)) at t)
    (then_at t (at + int_length (drop at t)) (fraction_alone (drop (at + int_length (drop at t)) t)))

-- the parts of a number, by position
pub ruleset number_steps = (common_steps, sign_at, exponent_at, fraction_at, int_at, prefixed_at, some_inside, passes-inside, add-zero)

-- a number, by its prefix
pub ruleset whole_number = (common_steps, number_at, decimal_at, some_inside)

-- whitespace, by its measure
pub ruleset whitespace_steps = (common_steps, whitespace-measured, measured-run, measured-lines, measured-within)
