-- One step by position: outside strings by the class of the byte there, in a string by the opener's stop and style.
use Prim.Native.Nat.{ℕ, suc, ◌+◌, ◌<◌}
use Prim.Native.Char.{code}
use mathlib.Core.Path.{◌≡◌, refl, sym, ◌∙◌}
use mathlib.Core.List.{List, ◌∷◌}
use mathlib.Core.Bool.{Bool, true, false, cond}
use native.Mathlib.Omega.{arith}
use lib.ListN.{length, drop, get_or}
use lib.Seq.{drop-cons}
use Rattle.rules.specs.Text.{run}
use Rattle.rules.specs.Bytes.{is_control, is_over127, is_identifier_byte, class_of, Whitespace, Control, Digit, Letter, Punctuation, Over127}
use Rattle.rules.specs.Refusals.{ControlByte, NotAscii}
use Rattle.rules.specs.Kinds.{is_quote_open, is_format, is_triple}
use Rattle.rules.specs.Step.{stop, number, whitespace, outside, step}
use Rattle.rules.proofs.Runs.{drop-byte}
use Rattle.rules.proofs.Text.{decide}
use Rattle.token.specs.Codes.{quote_code}
use Rattle.token.specs.declared.QuoteStyle.{QuoteStyle}
use Rattle.token.specs.declared.QuoteStyle.TheVariants.{Double, Triple}
use Rattle.token.specs.declared.StringPrefix.TheVariants.{None, Format}
use Rattle.sublexers.specs.ByClass.{lettered_by, punctuated}
use Rattle.sublexers.specs.Quotes.{stop_of, inside_by}
use Rattle.sublexers.proofs.Quoted.{inside-by}
use Rattle.lexer.proofs.ByClass.{at-whitespace, at-control, at-digit, at-letter, at-punctuation, at-over-127, six}

module _ (t : List ℕ) (at i : ℕ) (h : at < length t) where
  pub here-whitespace : class_of (get_or t at 0) ≡ Whitespace → outside i (drop at t) ≡ whitespace (drop at t)
  here-whitespace e = rw (drop-cons t at 0) (at-whitespace i (get_or t at 0) (drop (suc at) t) e)

  pub here-control : class_of (get_or t at 0) ≡ Control → outside i (drop at t) ≡ stop ControlByte 0 (run is_control (drop at t))
  here-control e = rw (drop-cons t at 0) (at-control i (get_or t at 0) (drop (suc at) t) e)

  pub here-digit : class_of (get_or t at 0) ≡ Digit → outside i (drop at t) ≡ number (drop at t)
  here-digit e = rw (drop-cons t at 0) (at-digit i (get_or t at 0) (drop (suc at) t) e)

  pub here-letter : class_of (get_or t at 0) ≡ Letter → outside i (drop at t) ≡ lettered_by is_identifier_byte (get_or t at 0) (drop (at + 1) t) (drop at t)
  here-letter e = rw (drop-byte t at (get_or t at 0) h refl) (at-letter i (get_or t at 0) (drop (at + 1) t) e)

  pub here-punctuation : class_of (get_or t at 0) ≡ Punctuation → outside i (drop at t) ≡ punctuated i (get_or t at 0 ∷ drop (at + 1) t)
  here-punctuation e = rw (drop-byte t at (get_or t at 0) h refl) (at-punctuation i (get_or t at 0) (drop (at + 1) t) e)

  pub here-over-127 : class_of (get_or t at 0) ≡ Over127 → outside i (drop at t) ≡ stop NotAscii 0 (run is_over127 (drop at t))
  here-over-127 e = rw (drop-cons t at 0) (at-over-127 i (get_or t at 0) (drop (suc at) t) e)

-- a class that is none of the first five
pub last-class : (b k : ℕ) → k ≡ class_of b → (k ≡ Whitespace → ⊥) → (k ≡ Control → ⊥) → (k ≡ Digit → ⊥) → (k ≡ Letter → ⊥) → (k ≡ Punctuation → ⊥) → class_of b ≡ Over127
last-class b k e w c d l p = six b (class_of b ≡ Over127) (λ q. absurd (w (e ∙ q))) (λ q. absurd (c (e ∙ q))) (λ q. absurd (d (e ∙ q))) (λ q. absurd (l (e ∙ q))) (λ q. absurd (p (e ∙ q))) (λ q. q)

-- inside or outside, by the byte that ends an inner part, 0 outside
stop-some : (k : ℕ) → (stop_of k ≡ 0 → ⊥)
stop-some k e = pick (is_format k) e
  where
    pick : (b : Bool) → cond b (code "{") (code "\"") ≡ 0 → ⊥
    pick true e = let z : ◌≡◌ {A = ℕ} 123 0 = e in omega arith
    pick false e = let z : ◌≡◌ {A = ℕ} 34 0 = e in omega arith

pub step-outside : (k byte : ℕ) (s : List ℕ) → byte ≡ cond (is_quote_open k) (stop_of k) 0 → byte ≡ 0 → step k s ≡ outside k s
unfolding step
step-outside k byte s e z = decide (is_quote_open k)
    (λ q. absurd (stop-some k (sym (e ∙ rw q) ∙ z)))
    (λ q. rw q)

pub step-inside : (k byte : ℕ) (triple : Bool) (s : List ℕ) → byte ≡ cond (is_quote_open k) (stop_of k) 0 → (byte ≡ 0 → ⊥) → triple ≡ is_triple k → step k s ≡ inside_by byte triple s
unfolding step
step-inside k byte triple s e z t = decide (is_quote_open k)
    (λ i.
    let same : byte ≡ stop_of k = rw i at e in
    rw (i, t, same) (sym (inside-by k s)))
    (λ i. absurd (z (e ∙ rw i)))

-- the byte of a string's opener, plain and format
pub plain_stop : (style : QuoteStyle) → code "\"" ≡ cond (is_quote_open (quote_code None style)) (stop_of (quote_code None style)) 0
plain_stop Double = refl
plain_stop Triple = refl

pub format_stop : (style : QuoteStyle) → code "{" ≡ cond (is_quote_open (quote_code Format style)) (stop_of (quote_code Format style)) 0
format_stop Double = refl
format_stop Triple = refl
