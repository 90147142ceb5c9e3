-- What the answers on a code say of it: which opener it is, or none.
use Prim.Native.Nat.{ℕ}
use native.Mathlib.Omega.{arith}
use mathlib.Core.Path.{◌≡◌, refl, sym}
use mathlib.Core.Bool.{Bool, true, false, cond, false≢true}
use mathlib.Core.Option.{none, some}
use lib.Dec.{eqb}
use borrow.Author.Tests.{eqb-true}
use Rattle.rules.specs.Kinds.{HoleOpen, PlainTriple, FormatTriple, is_quote_open, is_triple, is_opener}
use Rattle.rules.proofs.Text.{decide}
use Rattle.token.specs.Codes.{if_opener}

-- the code of what was opened is the opener's
pub opener_code : (k s : ℕ) → some s ≡ if_opener k → s ≡ k
unfolding if_opener
opener_code k s h = by (is_opener k) h
  where
    by : (b : Bool) → some s ≡ cond b (some k) none → s ≡ k
    by true e = cc
    by false e = let w : ◌≡◌ {A = ℕ} 0 1 = cc in absurd (omega arith)

pub no_opener : (k : ℕ) → none ≡ if_opener k → is_opener k ≡ false
unfolding if_opener
no_opener k h = by (is_opener k) h
  where
    by : (b : Bool) → none ≡ cond b (some k) none → b ≡ false
    by true e = let w : ◌≡◌ {A = ℕ} 0 1 = cc in absurd (omega arith)
    by false e = refl

-- what is no opener opens no string and no hole
pub no_quote : (k : ℕ) → is_opener k ≡ false → is_quote_open k ≡ false
unfolding is_opener
no_quote k h = decide (is_quote_open k) (λ e. absurd (false≢true (sym (rw e at h)))) (λ e. e)

pub no_hole : (k : ℕ) → is_opener k ≡ false → eqb k HoleOpen ≡ false
unfolding is_opener
no_hole k h = decide (eqb k HoleOpen) (λ e. absurd (false≢true (sym (rw (eqb-true k HoleOpen e) at h)))) (λ e. e)

-- a triple quote is an opener, so what is no opener is none
pub no_triple : (k : ℕ) → is_opener k ≡ false → is_triple k ≡ false
unfolding is_opener
no_triple k h = decide (eqb k PlainTriple)
    (λ e. absurd (false≢true (sym (rw (eqb-true k PlainTriple e) at h))))
    (λ e. decide (eqb k FormatTriple)
    (λ f. absurd (false≢true (sym (rw (eqb-true k FormatTriple f) at h))))
    (λ f. rw (e, f) refl))
