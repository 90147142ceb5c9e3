-- Laws of what is read off the front of a text, and of the texts that pass a test.
use Prim.Native.Nat.{ℕ, suc}
use Prim.Native.Char.{Char, code}
use mathlib.Core.Path.{◌≡◌, refl, sym, ap, ◌∙◌}
use mathlib.Core.List.{List, [], ◌∷◌, ◌++◌, append-nil}
use mathlib.Core.Bool.{Bool, true, false, cond, ◌&&◌, ◌||◌, false≢true, true≢false, beq}
use borrow.Author.Tests.{eqb-true}
use lib.ListN.{length}
use Rattle.rules.specs.Text.{is, starts, run, all, keep}

-- a test, by its value
pub decide : {P : Type 0} (b : Bool) → (b ≡ true → P) → (b ≡ false → P) → P
decide true f g = f refl
decide false f g = g refl

-- both of two tests pass
pub both : (a b : Bool) → a && b ≡ true → (a ≡ true) × (b ≡ true)
both true b e = (refl, e)
both false b e = absurd (false≢true e)

-- neither of two tests passes
pub neither : (a b : Bool) → a || b ≡ false → (a ≡ false) × (b ≡ false)
neither true b e = absurd (true≢false e)
neither false b e = (refl, e)

-- of two tests that both pass, each does
pub and_left : (a b : Bool) → a && b ≡ true → a ≡ true
and_left a b e = (both a b e).0

pub and_right : (a b : Bool) → a && b ≡ true → b ≡ true
and_right a b e = (both a b e).1

-- of two tests of which none passes, each fails
pub or_left : (a b : Bool) → a || b ≡ false → a ≡ false
or_left a b e = (neither a b e).0

pub or_right : (a b : Bool) → a || b ≡ false → b ≡ false
or_right a b e = (neither a b e).1

-- two truth values that compare as equal are
pub same_truth : (a b : Bool) → beq a b ≡ true → a ≡ b
same_truth true true e = refl
same_truth true false e = sym e
same_truth false true e = e
same_truth false false e = refl

-- a branch, by its test
pub branch : {A P : Type 0} (b : Bool) {x y z : A} → cond b x y ≡ z → (b ≡ true → x ≡ z → P) → (b ≡ false → y ≡ z → P) → P
branch true e f g = f refl e
branch false e f g = g refl e

-- one of two tests passes
pub either : {P : Type 0} (a b : Bool) → a || b ≡ true → (a ≡ true → P) → (b ≡ true → P) → P
either true b e f g = f refl
either false b e f g = g e

-- a byte that is tested to be a character is that character's
pub is_code : (c : Char) (b : ℕ) → is c b ≡ true → b ≡ code c
is_code c b e = eqb-true b (code c) e

-- a byte that passes a test is no character that fails it
pub is-another : (p : ℕ → Bool) (c : Char) (b : ℕ) → p b ≡ true → p (code c) ≡ false → is c b ≡ false
is-another p c b t f = decide (is c b) (λ e. let same : b ≡ code c = is_code c b e in cc) (λ e. e)

-- a text starts as the first part of it does
pub starts-append : (p : ℕ → Bool) (s t : List ℕ) → starts p s ≡ true → starts p (s ++ t) ≡ true
starts-append p [] t h = absurd (false≢true h)
starts-append p (b ∷ s) t h = h

-- a run ends before the first byte that fails the test
pub run-append : (p : ℕ → Bool) (s t : List ℕ) → all p s ≡ true → starts p t ≡ false → run p (s ++ t) ≡ length s
run-append p [] [] a e = refl
run-append p [] (b ∷ t) a e = rw e
run-append p (b ∷ s) t a e = decide (p b)
    (λ q. rw q (ap suc (run-append p s t (rw q at a) e)))
    (λ q. absurd (false≢true (rw q at a)))

-- a run goes to the text's end where every byte passes
pub run-all : (p : ℕ → Bool) (s : List ℕ) → all p s ≡ true → run p s ≡ length s
run-all p s a = ap (run p) (sym (append-nil s)) ∙ run-append p s [] a refl

-- every byte of two texts passes where every byte of each does
pub all_append : (p : ℕ → Bool) (s t : List ℕ) → all p s ≡ true → all p t ≡ true → all p (s ++ t) ≡ true
all_append p [] t a c = c
all_append p (b ∷ s) t a c = decide (p b)
    (λ q. rw q (all_append p s t (rw q at a) c))
    (λ q. absurd (false≢true (rw q at a)))

-- what is kept of two texts is what is kept of each
pub keep_append : {A : Type 0} (p : A → Bool) (s t : List A) → keep p (s ++ t) ≡ keep p s ++ keep p t
keep_append p [] t = refl
keep_append {A} p (x ∷ s) t = decide (p x)
    (λ q. rw q (ap {B = List A} (λ r. x ∷ r) (keep_append p s t)))
    (λ q. rw q (keep_append p s t))
