-- Laws of identifiers and keywords, as the code meets them: the dashes at an end, the words that are no keyword by their length or first byte, and where an identifier ends.
use Prim.Native.Nat.{ℕ, suc, ◌+◌, ◌-◌, ◌≤◌, ◌<◌, max}
use Prim.Native.Char.{code}
use mathlib.Core.Path.{◌≡◌, refl, ◌∙◌}
use mathlib.Core.List.{List, [], ◌∷◌}
use mathlib.Core.Bool.{Bool, cond, and-false}
use native.Mathlib.Nat.{add-sub_cancel_left}
use native.Mathlib.Omega.{arith}
use borrow.Author.Tests.{ne_eqb}
use Rattle.std.proofs.lemmas.Grind.{common_steps}
use lib.ListN.{length, drop, get_or, length-drop}
use lib.Seq.{get_or-drop, length-take-le}
use Rattle.rules.specs.Text.{is, run}
use Rattle.rules.specs.Kinds.{Ident}
use Rattle.rules.specs.Step.{give_back, keyword_or_ident}
use Rattle.rules.proofs.Bounds.{give_back-le}
use Rattle.rules.proofs.Runs.{run-le}

-- Dashes at an end: of the bytes from `at` to before `end`, those from `i` on are given back
pub record Back (t : List ℕ) (at end i : ℕ) : Type 0 where
  pub up : at ≤ i
  pub most : i ≤ end
  pub same : give_back (drop at t) (end - at) ≡ give_back (drop at t) (i - at)

-- by the last of them
last : (t : List ℕ) (at i : ℕ) → at < i → give_back (drop at t) (i - at) ≡ cond (is "-" (get_or t (i - 1) 0)) (give_back (drop at t) (i - 1 - at)) (i - at)
last t at i h =
    let one : i - at ≡ suc (i - 1 - at) = omega arith in
    let there : at + (i - 1 - at) ≡ i - 1 = omega arith in
    rw (one, get_or-drop, there)

-- nothing yet
pub back_none : {t : List ℕ} {at end : ℕ} → at ≤ end → Back t at end end
back_none h = record { up = h; most = omega arith; same = refl }

module _ {t : List ℕ} {at end i : ℕ} where
  -- one more byte, a dash
  pub back_more : at < i → get_or t (i - 1) 0 ≡ code "-" → Back t at end i → Back t at end (i - 1)
  back_more h e x = record { up = omega arith; most = omega arith; same = x.same ∙ rw (last t at i h, e) }

  -- the byte before is no dash
  pub back_stop : at < i → (get_or t (i - 1) 0 ≡ code "-" → ⊥) → Back t at end i → i ≡ at + give_back (drop at t) (end - at)
  back_stop h e x = rw (x.same, last t at i h, ne_eqb _ _ e) (omega arith)

  -- no byte is left
  pub back_done : i ≤ at → Back t at end i → i ≡ at + give_back (drop at t) (end - at)
  back_done h x =
      let none_left : i - at ≡ 0 = omega arith in
      rw (x.same, none_left) (omega arith)

-- of a length that no keyword has there is none
pub words_none : (w : List ℕ) → (2 ≤ length w → 7 ≤ length w) → keyword_or_ident w ≡ Ident
unfolding keyword_or_ident
words_none [] h = refl
words_none (a ∷ []) h = simp and-false
words_none (a ∷ (b ∷ [])) h = absurd (omega (arith, h (omega arith)))
words_none (a ∷ (b ∷ (c ∷ []))) h = absurd (omega (arith, h (omega arith)))
words_none (a ∷ (b ∷ (c ∷ (d ∷ [])))) h = absurd (omega (arith, h (omega arith)))
words_none (a ∷ (b ∷ (c ∷ (d ∷ (e ∷ []))))) h = absurd (omega (arith, h (omega arith)))
words_none (a ∷ (b ∷ (c ∷ (d ∷ (e ∷ (f ∷ [])))))) h = absurd (omega (arith, h (omega arith)))
words_none (a ∷ (b ∷ (c ∷ (d ∷ (e ∷ (f ∷ (g ∷ w))))))) h = simp and-false

-- nor is there one of six bytes that begins with neither `a` nor `i`
pub words_six : (w : List ℕ) → length w ≡ 6 → (get_or w 0 0 ≡ code "a" → ⊥) → (get_or w 0 0 ≡ code "i" → ⊥) → Ident ≡ keyword_or_ident w
unfolding keyword_or_ident
words_six (a ∷ (b ∷ (c ∷ (d ∷ (e ∷ (f ∷ [])))))) h p q = rw (ne_eqb a (code "a") p, ne_eqb a (code "i") q) (simp and-false)
words_six [] h p q = absurd (omega arith)
words_six (a ∷ []) h p q = absurd (omega arith)
words_six (a ∷ (b ∷ [])) h p q = absurd (omega arith)
words_six (a ∷ (b ∷ (c ∷ []))) h p q = absurd (omega arith)
words_six (a ∷ (b ∷ (c ∷ (d ∷ [])))) h p q = absurd (omega arith)
words_six (a ∷ (b ∷ (c ∷ (d ∷ (e ∷ []))))) h p q = absurd (omega arith)
words_six (a ∷ (b ∷ (c ∷ (d ∷ (e ∷ (f ∷ (g ∷ w))))))) h p q = absurd (omega arith)

-- an identifier lies inside the text
pub ident_inside : (is_any : ℕ → Bool) (t : List ℕ) (at : ℕ) → at + run is_any (drop at t) ≤ max at (length t)
ident_inside is_any t at = omega (arith, run-le is_any (drop at t), length-drop at t)

-- an identifier by position
pub ruleset identifier_steps = (common_steps, ident_inside, give_back-le, words_none, add-sub_cancel_left, length-take-le)
