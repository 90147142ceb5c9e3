-- The rules' order, by the class of the first byte: each class leaves what a sub-lexer answers.
use Prim.Native.Nat.{ℕ, suc}
use Prim.Native.Char.{Char, code}
use native.Mathlib.Omega.{arith}
use mathlib.Core.Path.{◌≡◌, refl, sym, ◌∙◌}
use mathlib.Core.List.{List, [], ◌∷◌}
use mathlib.Core.Bool.{Bool, true, false, cond, ◌&&◌, ◌||◌, and-true, true≢false}
use lib.Dec.{T, leb, ltb, eqb, eqb_refl}
use borrow.Author.Tests.{eqb-true, leb-true}
use lib.ListN.{drop}
use Rattle.rules.specs.Text.{is, begins, run}
use Rattle.rules.specs.Bytes.{is_whitespace, is_control, is_digit, is_letter, is_punctuation, is_over127, is_identifier_byte, class_of, Whitespace, Control, Digit, Letter, Punctuation, Over127}
use Rattle.rules.specs.Refusals.{ControlByte, NotAscii}
use Rattle.rules.specs.Kinds.{FormatDouble, FormatTriple}
use Rattle.rules.specs.Step.{Step, found, stop, number, identifier, identifier_length, whitespace, outside}
use Rattle.sublexers.specs.Words.{identifier_by}
use Rattle.sublexers.specs.ByClass.{lettered_by, punctuated}
use Rattle.rules.proofs.Text.{decide, either, is_code}

-- Tests, by their value
or_cases : {P : Type 0} (a b : Bool) → (a ≡ true → P) → (b ≡ true → P) → a || b ≡ true → P
or_cases a b f g e = either a b e f g

true_of : (t : Bool) → T t → t ≡ true
true_of true h = refl
true_of false h = absurd h

-- a branch that gives another number is not the one that was taken
past : (t : Bool) (k x n : ℕ) → eqb k n ≡ false → cond t k x ≡ n → (t ≡ false) × (x ≡ n)
past true k x n d e = absurd (true≢false (sym (true_of (eqb k k) (eqb_refl k)) ∙ (rw (← e) at d)))
past false k x n d e = (refl, e)

-- and one is, if the others give more
taken : (t : Bool) (k x : ℕ) → ltb k x ≡ true → cond t k x ≡ k → t ≡ true
taken true k x h e = refl
taken false k x h e = absurd (omega (arith, leb-true (suc k) x h))

more : (t : Bool) (k x y : ℕ) → ltb k x ≡ true → ltb k y ≡ true → ltb k (cond t x y) ≡ true
more true k x y p q = p
more false k x y p q = q

-- to unfold this is to unfold the classes
classes : ℕ → ℕ
unfolding class_of is_whitespace is_control is_digit is_letter is_punctuation
classes = class_of

-- a byte is no character of another class
other-class : (c : Char) (b k : ℕ) → eqb (class_of (code c)) k ≡ false → class_of b ≡ k → is c b ≡ false
other-class c b k d e = decide (is c b)
    (λ t. let f : class_of (code c) ≡ k = rw (is_code c b t) at e in absurd (true≢false (sym (true_of (eqb k k) (eqb_refl k)) ∙ (rw f at d))))
    (λ t. t)

-- the punctuation that begins more than itself
record Unmarked (b : ℕ) : Type 0 where
  hash : is "#" b ≡ false
  slash : is "/" b ≡ false
  quote : is "\"" b ≡ false
  brace : is "}" b ≡ false

unmarked : (b k : ℕ) → eqb Punctuation k ≡ false → class_of b ≡ k → Unmarked b
unfolding classes
unmarked b k d e = record { hash = other-class "#" b k d e; slash = other-class "/" b k d e; quote = other-class "\"" b k d e; brace = other-class "}" b k d e }

not_f : (b k : ℕ) → eqb Letter k ≡ false → class_of b ≡ k → is "f" b ≡ false
unfolding classes
not_f b k d e = other-class "f" b k d e

-- white space and other control bytes are in no later class
whitespace-alone : (b : ℕ) → is_whitespace b ≡ true → (is_digit b ≡ false) × (is_letter b ≡ false)
unfolding classes
whitespace-alone b =
    or_cases (is " " b || is "\t" b || is "\n" b || eqb b 0x0C) (is "\r" b)
    (or_cases (is " " b || is "\t" b || is "\n" b) (eqb b 0x0C)
    (or_cases (is " " b || is "\t" b) (is "\n" b)
    (or_cases (is " " b) (is "\t" b)
    (λ t. rw (is_code " " b t) (refl, refl)) (λ t. rw (is_code "\t" b t) (refl, refl))) (λ t. rw (is_code "\n" b t) (refl, refl))) (λ t. rw (eqb-true b 0x0C t) (refl, refl))) (λ t. rw (is_code "\r" b t) (refl, refl))

under-32 : (c : Char) (b : ℕ) → leb 32 (code c) ≡ true → ltb b 32 ≡ true → leb (code c) b ≡ false
under-32 c b h t = decide (leb (code c) b) (λ f. absurd (omega (arith, leb-true 32 (code c) h, leb-true (suc b) 32 t, leb-true (code c) b f))) (λ f. f)

not-under-32 : (c : Char) (b : ℕ) → leb 32 (code c) ≡ true → ltb b 32 ≡ true → is c b ≡ false
not-under-32 c b h t = decide (is c b) (λ f. absurd (omega (arith, leb-true 32 (code c) h, leb-true (suc b) 32 t, is_code c b f))) (λ f. f)

control-alone : (b : ℕ) → is_control b ≡ true → (is_digit b ≡ false) × (is_letter b ≡ false) × (is_punctuation b ≡ false)
unfolding classes
control-alone b = or_cases (ltb b 0x20) (eqb b 0x7F)
    (λ t. (
      rw (under-32 "0" b refl t),
      rw (under-32 "a" b refl t, under-32 "A" b refl t, not-under-32 "_" b refl t),
      rw (under-32 "!" b refl t, under-32 ":" b refl t, under-32 "[" b refl t, under-32 "{" b refl t),
    ))
    (λ t. rw (eqb-true b 0x7F t) (refl, refl, refl))

pub at-whitespace : (i b : ℕ) (s : List ℕ) → class_of b ≡ Whitespace → outside i (b ∷ s) ≡ whitespace (b ∷ s)
unfolding class_of outside
at-whitespace i b s e =
    let w = taken (is_whitespace b) 0 _ (search more) e in
    let n = whitespace-alone b w in
    let m = unmarked b Whitespace refl e in
    rw (m.hash, m.slash, m.quote, m.brace, not_f b Whitespace refl e, n.0, n.1, w)

pub at-control : (i b : ℕ) (s : List ℕ) → class_of b ≡ Control → outside i (b ∷ s) ≡ stop ControlByte 0 (run is_control (b ∷ s))
unfolding class_of outside
at-control i b s e =
    let w = past (is_whitespace b) 0 _ Control refl e in
    let c = taken (is_control b) 1 _ (search more) w.1 in
    let n = control-alone b c in
    let m = unmarked b Control refl e in
    rw (m.hash, m.slash, m.quote, m.brace, not_f b Control refl e, w.0, n.0, n.1, n.2, c)

pub at-digit : (i b : ℕ) (s : List ℕ) → class_of b ≡ Digit → outside i (b ∷ s) ≡ number (b ∷ s)
unfolding class_of outside
at-digit i b s e =
    let w = past (is_whitespace b) 0 _ Digit refl e in
    let c = past (is_control b) 1 _ Digit refl w.1 in
    let d = taken (is_digit b) 2 _ (search more) c.1 in
    let m = unmarked b Digit refl e in
    rw (m.hash, m.slash, m.quote, m.brace, not_f b Digit refl e, d)

-- three quotes are one and two more
three-quotes : (s : List ℕ) → begins "\"\"\"" s ≡ (begins "\"" s && begins "\"\"" (drop 1 s))
three-quotes [] = refl
three-quotes (b ∷ s) = rw and-true refl

by-quotes : (f q t : Bool) (r : Step) → cond (f && (q && t)) (found FormatTriple 4) (cond (f && q) (found FormatDouble 2) r) ≡ cond (f && q) (cond t (found FormatTriple 4) (found FormatDouble 2)) r
by-quotes true true true r = refl
by-quotes true true false r = refl
by-quotes true false t r = refl
by-quotes false q t r = refl

pub at-letter : (i b : ℕ) (s : List ℕ) → class_of b ≡ Letter → outside i (b ∷ s) ≡ lettered_by is_identifier_byte b s (b ∷ s)
unfolding class_of outside lettered_by identifier_by identifier identifier_length
at-letter i b s e =
    let w = past (is_whitespace b) 0 _ Letter refl e in
    let c = past (is_control b) 1 _ Letter refl w.1 in
    let d = past (is_digit b) 2 _ Letter refl c.1 in
    let l = taken (is_letter b) 3 _ (search more) d.1 in
    let m = unmarked b Letter refl e in
    rw (m.hash, m.slash, m.quote, m.brace, d.0, l, three-quotes s) (by-quotes (is "f" b) (begins "\"" s) (begins "\"\"" (drop 1 s)) _)

pub at-punctuation : (i b : ℕ) (s : List ℕ) → class_of b ≡ Punctuation → outside i (b ∷ s) ≡ punctuated i (b ∷ s)
unfolding class_of outside punctuated
at-punctuation i b s e =
    let w = past (is_whitespace b) 0 _ Punctuation refl e in
    let c = past (is_control b) 1 _ Punctuation refl w.1 in
    let d = past (is_digit b) 2 _ Punctuation refl c.1 in
    let l = past (is_letter b) 3 _ Punctuation refl d.1 in
    let p = taken (is_punctuation b) 4 _ refl l.1 in
    rw (not_f b Punctuation refl e, w.0, d.0, l.0, p)

pub at-over-127 : (i b : ℕ) (s : List ℕ) → class_of b ≡ Over127 → outside i (b ∷ s) ≡ stop NotAscii 0 (run is_over127 (b ∷ s))
unfolding class_of outside
at-over-127 i b s e =
    let w = past (is_whitespace b) 0 _ Over127 refl e in
    let c = past (is_control b) 1 _ Over127 refl w.1 in
    let d = past (is_digit b) 2 _ Over127 refl c.1 in
    let l = past (is_letter b) 3 _ Over127 refl d.1 in
    let p = past (is_punctuation b) 4 _ Over127 refl l.1 in
    let m = unmarked b Over127 refl e in
    rw (m.hash, m.slash, m.quote, m.brace, not_f b Over127 refl e, w.0, c.0, d.0, l.0, p.0)

-- the class of a byte is one of the six
pub six : (b : ℕ) (P : Type 0) → (class_of b ≡ Whitespace → P) → (class_of b ≡ Control → P) → (class_of b ≡ Digit → P) → (class_of b ≡ Letter → P) → (class_of b ≡ Punctuation → P) → (class_of b ≡ Over127 → P) → P
unfolding class_of
six b P w c d l p o =
    decide (is_whitespace b) (λ e. w (rw e)) (λ e.
    decide (is_control b) (λ f. c (rw (e, f))) (λ f.
    decide (is_digit b) (λ g. d (rw (e, f, g))) (λ g.
    decide (is_letter b) (λ h. l (rw (e, f, g, h))) (λ h.
    decide (is_punctuation b) (λ j. p (rw (e, f, g, h, j))) (λ j. o (rw (e, f, g, h, j)))))))
