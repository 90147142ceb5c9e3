-- The gap rule by cases: its tests grouped by what stands before the gap.
use Prim.Native.Nat.{ℕ}
use mathlib.Core.Path.{◌≡◌, refl, sym, ◌∙◌}
use mathlib.Core.List.{List, []}
use mathlib.Core.Bool.{Bool, true, false, cond, ◌||◌, false≢true, true≢false}
use lib.Dec.{eqb}
use Rattle.rules.specs.Text.{ascii}
use Rattle.rules.specs.Kinds.{Blank, Shebang, LineComment, StringInner, HoleClose, is_quote_open, is_escape}
use Rattle.rules.specs.Tidy.{gap}
use Rattle.laws.proofs.StepKinds.{is_line}
use Rattle.laws.proofs.Modes.{string_after}

-- nothing in a string and beside a Blank, one byte of whitespace otherwise
pub gap-cases : (P : List ℕ → Type 0) (a b : ℕ) → (eqb a Blank || eqb b Blank || string_after a ≡ true → P []) →
    (eqb a Blank ≡ false → eqb b Blank ≡ false → string_after a ≡ false → P (cond (is_line a) (ascii "\n") (ascii " "))) → P (gap a b)
unfolding gap
gap-cases P a b f g = go (eqb a Blank) (eqb b Blank) (is_quote_open a) (eqb a StringInner) (is_escape a) (eqb a HoleClose) (eqb a Shebang) (eqb a LineComment) f g
  where
    go : (x y q i e h s l : Bool) → (x || y || (q || i || e || h) ≡ true → P []) → (x ≡ false → y ≡ false → q || i || e || h ≡ false → P (cond (s || l) (ascii "\n") (ascii " "))) →
        P (cond (x || y || q || i || e || h) [] (cond (l || s) (ascii "\n") (ascii " ")))
    go true y q i e h s l f g = f refl
    go false true q i e h s l f g = f refl
    go false false true i e h s l f g = f refl
    go false false false true e h s l f g = f refl
    go false false false false true h s l f g = f refl
    go false false false false false true s l f g = f refl
    go false false false false false false true true f g = g refl refl refl
    go false false false false false false true false f g = g refl refl refl
    go false false false false false false false true f g = g refl refl refl
    go false false false false false false false false f g = g refl refl refl

-- nothing in a string
pub gap-in-string : (a b : ℕ) → string_after a ≡ true → gap a b ≡ []
gap-in-string a b s = gap-cases (λ g. g ≡ []) a b (λ e. refl) (λ x y z. absurd (true≢false (sym s ∙ z)))

-- nothing beside a Blank
pub gap-after-blank : (b : ℕ) → gap Blank b ≡ []
gap-after-blank b = gap-cases (λ g. g ≡ []) Blank b (λ e. refl) (λ x y z. absurd (true≢false x))

pub gap-before-blank : (a : ℕ) → gap a Blank ≡ []
gap-before-blank a = gap-cases (λ g. g ≡ []) a Blank (λ e. refl) (λ x y z. absurd (true≢false y))

-- one byte otherwise
pub gap-byte : (a b : ℕ) → eqb a Blank ≡ false → eqb b Blank ≡ false → string_after a ≡ false → gap a b ≡ cond (is_line a) (ascii "\n") (ascii " ")
gap-byte a b x y z =
    gap-cases (λ g. eqb a Blank ≡ false → eqb b Blank ≡ false → string_after a ≡ false → g ≡ cond (is_line a) (ascii "\n") (ascii " ")) a b
    (λ e x y z. absurd (false≢true (rw (x, y, z) at e))) (λ x y z x₂ y₂ z₂. refl) x y z
