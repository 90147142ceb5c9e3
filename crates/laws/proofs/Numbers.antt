-- Numbers. `-alone`: a number that ends in `w` is found again where the text ends with `w`; `-extended`: the end or whitespace after `w` changes nothing; `-least`: so many bytes at least.
use Prim.Native.Nat.{ℕ, suc, ◌+◌, ◌≤◌, ◌<◌}
use mathlib.Core.Path.{◌≡◌, refl, sym, ap, ◌∙◌}
use mathlib.Core.List.{List, ◌++◌}
use mathlib.Core.Bool.{Bool, true, false, cond, ◌||◌, or-true}
use native.Mathlib.Omega.{arith}
use lib.Dec.{eqb}
use lib.ListN.{length, drop, length-drop}
use lib.Seq.{drop-append-le}
use Rattle.rules.specs.Text.{begins, starts, run}
use Rattle.rules.specs.Bytes.{is_whitespace, is_digit, is_hex_digit, is_binary_digit}
use Rattle.rules.specs.Kinds.{NumHexadecimal, NumBinary}
use Rattle.rules.specs.Refusals.{NoHexDigit, NoBinaryDigit}
use Rattle.rules.specs.Step.{found, is_underscore, is_digit_or_underscore, int_length, exponent_mark, exponent, fraction, decimal, prefixed, number}
use Rattle.rules.proofs.Text.{decide, branch, either, or_left, or_right}
use Rattle.rules.proofs.Runs.{run_wider, run-le}
use Rattle.rules.proofs.Bounds.{run-some, begins-length, digit-number}
use Rattle.laws.proofs.Lookahead.{end_or_whitespace, FailsWhitespace, fails-whitespace, begins-alone, begins-part, begins-extended, starts-alone, starts-extended, run_alone, run-before}
use Rattle.rules.proofs.Steps.{length-of, refuted}

-- Whitespace is no digit and no `_`
pub digit-fails : FailsWhitespace is_digit
unfolding is_digit
digit-fails = fails-whitespace is_digit refl refl refl refl refl

digit_or_underscore-fails : FailsWhitespace is_digit_or_underscore
unfolding is_digit_or_underscore is_digit
digit_or_underscore-fails = fails-whitespace is_digit_or_underscore refl refl refl refl refl

underscore-fails : FailsWhitespace is_underscore
underscore-fails = fails-whitespace is_underscore refl refl refl refl refl

-- a first digit begins a run of digits
digits-some : (s : List ℕ) → starts is_digit s ≡ true → 0 < run is_digit_or_underscore s
digits-some s e = run-some is_digit_or_underscore s (digit-number s e)

-- The exponent
-- the mark has a byte or two
mark-some : (s : List ℕ) → 1 ≤ exponent_mark s
unfolding exponent_mark
mark-some s = go (begins "+" (drop 1 s) || begins "-" (drop 1 s))
  where
    go : (x : Bool) → 1 ≤ cond x 2 1
    go true = omega arith
    go false = omega arith

-- and ends in its text
mark-length : (s : List ℕ) → 1 ≤ length s → exponent_mark s ≤ length s
unfolding exponent_mark
mark-length s h = decide (begins "+" (drop 1 s)) (λ e. rw e (omega (arith, length-drop 1 s, begins-length "+" (drop 1 s) e)))
    (λ e. rw e (decide (begins "-" (drop 1 s)) (λ f. rw f (omega (arith, length-drop 1 s, begins-length "-" (drop 1 s) f))) (λ f. rw f h)))

-- it is read in `w`, where `w` goes on after one byte
mark-alone : (w r : List ℕ) → 2 ≤ length w → exponent_mark (w ++ r) ≡ exponent_mark w
unfolding exponent_mark
mark-alone w r h =
    let one : 1 ≤ length w = omega arith in
    let next : 1 ≤ length (drop 1 w) = omega (arith, length-drop 1 w) in
    rw (drop-append-le 1 w r one, begins-alone "+" (drop 1 w) r next, begins-alone "-" (drop 1 w) r next)

-- the end or whitespace is no sign
mark-extended : (w r : List ℕ) → 1 ≤ length w → end_or_whitespace r ≡ true → exponent_mark (w ++ r) ≡ exponent_mark w
unfolding exponent_mark is_whitespace
mark-extended w r h e = rw (drop-append-le 1 w r h, begins-extended "+" (drop 1 w) r refl e, begins-extended "-" (drop 1 w) r refl e)

exponent-least : (n : ℕ) (s : List ℕ) (k l : ℕ) → exponent n s ≡ found k l → n ≤ l
unfolding exponent
exponent-least n s k l e = branch (begins "e" s || begins "E" s) e
    (λ u e. branch (starts is_digit (drop (exponent_mark s) s)) e (λ v e. omega (arith, length-of e)) (λ v e. refuted e))
    (λ u e. omega (arith, length-of e))

-- a mark and digits that end in `w` are read in `w`
exponent-long : (n : ℕ) (w r : List ℕ) → 2 ≤ length w → exponent_mark w + run is_digit_or_underscore (drop (exponent_mark w) (w ++ r)) ≤ length w → starts is_digit (drop (exponent_mark w) (w ++ r)) ≡ true → exponent n (w ++ r) ≡ exponent n w
unfolding exponent
exponent-long n w r two most digit =
    let some = digits-some (drop (exponent_mark w) (w ++ r)) digit in
    let one : 1 ≤ length w = omega arith in
    let inside : exponent_mark w ≤ length w = mark-length w one in
    let rest : drop (exponent_mark w) (w ++ r) ≡ drop (exponent_mark w) w ++ r = drop-append-le (exponent_mark w) w r inside in
    let left = length-drop (exponent_mark w) w in
    let within : run is_digit_or_underscore (drop (exponent_mark w) (w ++ r)) ≤ length (drop (exponent_mark w) w) = omega arith in
    let next : 0 < length (drop (exponent_mark w) w) = omega arith in
    rw (begins-alone "e" w r one, begins-alone "E" w r one, mark-alone w r two, rest, starts-alone is_digit (drop (exponent_mark w) w) r next, run_alone is_digit_or_underscore (drop (exponent_mark w) w) r (rw rest at within))

exponent-alone : (n : ℕ) (w r : List ℕ) (k l : ℕ) → l ≤ n + length w → exponent n (w ++ r) ≡ found k l → exponent n w ≡ found k l
unfolding exponent
exponent-alone n w r k l most whole = branch (begins "e" (w ++ r) || begins "E" (w ++ r)) whole
    (λ u e. branch (starts is_digit (drop (exponent_mark (w ++ r)) (w ++ r))) e
    (λ v e.
    let some = digits-some (drop (exponent_mark (w ++ r)) (w ++ r)) v in
    let mark = mark-some (w ++ r) in
    let two : 2 ≤ length w = omega (arith, length-of e) in
    let same = mark-alone w r two in
    let within : exponent_mark (w ++ r) + run is_digit_or_underscore (drop (exponent_mark (w ++ r)) (w ++ r)) ≤ length w = omega (arith, length-of e) in
    sym (exponent-long n w r two (rw same at within) (rw same at v)) ∙ whole)
    (λ v e. refuted e))
    (λ u e. rw (begins-part "e" w r (or_left (begins "e" (w ++ r)) (begins "E" (w ++ r)) u), begins-part "E" w r (or_right (begins "e" (w ++ r)) (begins "E" (w ++ r)) u)) e)

exponent-extended : (n : ℕ) (w r : List ℕ) → end_or_whitespace r ≡ true → exponent n (w ++ r) ≡ exponent n w
unfolding exponent is_whitespace
exponent-extended n w r f = decide (begins "e" w || begins "E" w)
    (λ u.
    let one : 1 ≤ length w = either (begins "e" w) (begins "E" w) u (begins-length "e" w) (begins-length "E" w) in
    let m = exponent_mark w in
    rw (begins-extended "e" w r refl f, begins-extended "E" w r refl f, mark-extended w r one f, drop-append-le m w r (mark-length w one), starts-extended is_digit (drop m w) r digit-fails f, run-before is_digit_or_underscore (drop m w) r digit_or_underscore-fails f))
    (λ u. rw (begins-extended "e" w r refl f, begins-extended "E" w r refl f, u))

-- The fraction
fraction-least : (n : ℕ) (s : List ℕ) (k l : ℕ) → fraction n s ≡ found k l → n ≤ l
unfolding fraction
fraction-least n s k l e = branch (begins "." s) e
    (λ u e. branch (starts is_digit (drop 1 s)) e
    (λ v e. omega (arith, exponent-least (n + suc (run is_digit_or_underscore (drop 1 s))) (drop (suc (run is_digit_or_underscore (drop 1 s))) s) k l e))
    (λ v e. refuted e))
    (λ u e. exponent-least n s k l e)

fraction-alone : (n : ℕ) (w r : List ℕ) (k l : ℕ) → l ≤ n + length w → fraction n (w ++ r) ≡ found k l → fraction n w ≡ found k l
unfolding fraction
fraction-alone n w r k l most e = branch (begins "." (w ++ r)) e
    (λ u e. branch (starts is_digit (drop 1 (w ++ r))) e
    (λ v e.
    let some = digits-some (drop 1 (w ++ r)) v in
    let least = exponent-least (n + suc (run is_digit_or_underscore (drop 1 (w ++ r)))) (drop (suc (run is_digit_or_underscore (drop 1 (w ++ r)))) (w ++ r)) k l e in
    let one : 1 ≤ length w = omega arith in
    let next : drop 1 (w ++ r) ≡ drop 1 w ++ r = drop-append-le 1 w r one in
    let left = length-drop 1 w in
    let within : run is_digit_or_underscore (drop 1 (w ++ r)) ≤ length (drop 1 w) = omega arith in
    let same : run is_digit_or_underscore (drop 1 (w ++ r)) ≡ run is_digit_or_underscore (drop 1 w) = ap (run is_digit_or_underscore) next ∙ run_alone is_digit_or_underscore (drop 1 w) r (rw next at within) in
    let m = suc (run is_digit_or_underscore (drop 1 w)) in
    let inside : m ≤ length w = omega arith in
    let point : begins "." w ≡ true = sym (begins-alone "." w r one) ∙ u in
    let digit : starts is_digit (drop 1 w) ≡ true = sym (starts-alone is_digit (drop 1 w) r (omega arith)) ∙ (rw next at v) in
    rw (point, digit) (exponent-alone (n + m) (drop m w) r k l (omega (arith, length-drop m w)) (rw (same, drop-append-le m w r inside) at e)))
    (λ v e. refuted e))
    (λ u e. rw (begins-part "." w r u) (exponent-alone n w r k l most e))

fraction-extended : (n : ℕ) (w r : List ℕ) → end_or_whitespace r ≡ true → fraction n (w ++ r) ≡ fraction n w
unfolding fraction is_whitespace
fraction-extended n w r f = decide (begins "." w)
    (λ u.
    let one : 1 ≤ length w = begins-length "." w u in
    let m = suc (run is_digit_or_underscore (drop 1 w)) in
    let inside : m ≤ length w = omega (arith, run-le is_digit_or_underscore (drop 1 w), length-drop 1 w) in
    rw (begins-extended "." w r refl f, drop-append-le 1 w r one, starts-extended is_digit (drop 1 w) r digit-fails f, run-before is_digit_or_underscore (drop 1 w) r digit_or_underscore-fails f, drop-append-le m w r inside, exponent-extended (n + m) (drop m w) r f, u))
    (λ u. rw (begins-extended "." w r refl f, u, exponent-extended n w r f))

-- Decimals
int-length : (s : List ℕ) → int_length s ≤ length s
unfolding int_length
int-length s = decide (begins "0" s) (λ e. rw e (begins-length "0" s e)) (λ e. rw e (run-le is_digit_or_underscore s))

int_alone : (w r : List ℕ) → 1 ≤ length w → int_length (w ++ r) ≤ length w → int_length (w ++ r) ≡ int_length w
unfolding int_length
int_alone w r one h = decide (begins "0" w)
    (λ u. rw (begins-alone "0" w r one, u))
    (λ u.
    let within : run is_digit_or_underscore (w ++ r) ≤ length w = rw (begins-alone "0" w r one, u) at h in
    rw (begins-alone "0" w r one, u) (run_alone is_digit_or_underscore w r within))

int-extended : (w r : List ℕ) → end_or_whitespace r ≡ true → int_length (w ++ r) ≡ int_length w
unfolding int_length is_whitespace
int-extended w r f = rw (begins-extended "0" w r refl f, run-before is_digit_or_underscore w r digit_or_underscore-fails f)

decimal-alone : (w r : List ℕ) (k l : ℕ) → 1 ≤ length w → l ≤ length w → decimal (w ++ r) ≡ found k l → decimal w ≡ found k l
unfolding decimal
decimal-alone w r k l one most e =
    let least = fraction-least (int_length (w ++ r)) (drop (int_length (w ++ r)) (w ++ r)) k l e in
    let same : int_length (w ++ r) ≡ int_length w = int_alone w r one (omega arith) in
    let inside = int-length w in
    fraction-alone (int_length w) (drop (int_length w) w) r k l (omega (arith, length-drop (int_length w) w)) (rw (same, drop-append-le (int_length w) w r inside) at e)

decimal-extended : (w r : List ℕ) → end_or_whitespace r ≡ true → decimal (w ++ r) ≡ decimal w
unfolding decimal
decimal-extended w r f = rw (int-extended w r f, drop-append-le (int_length w) w r (int-length w), fraction-extended (int_length w) (drop (int_length w) w) r f)

-- Binary and hexadecimal
prefixed-least : (kind refusal : ℕ) (p : ℕ → Bool) (s : List ℕ) (k l : ℕ) → prefixed kind refusal p s ≡ found k l → 2 ≤ l
unfolding prefixed
prefixed-least kind refusal p s k l e = branch (eqb (run is_underscore (drop 2 s)) (run (λ b. p b || is_underscore b) (drop 2 s))) e (λ u e. refuted e) (λ u e. omega (arith, length-of e))

prefixed-alone : (kind refusal : ℕ) (p : ℕ → Bool) (w r : List ℕ) (k l : ℕ) → l ≤ length w → prefixed kind refusal p (w ++ r) ≡ found k l → prefixed kind refusal p w ≡ found k l
unfolding prefixed
prefixed-alone kind refusal p w r k l most e =
    let q : ℕ → Bool = λ b. p b || is_underscore b in
    let two : 2 ≤ length w = omega (arith, prefixed-least kind refusal p (w ++ r) k l e) in
    let next : drop 2 (w ++ r) ≡ drop 2 w ++ r = drop-append-le 2 w r two in
    branch (eqb (run is_underscore (drop 2 (w ++ r))) (run q (drop 2 (w ++ r)))) e (λ u e. refuted e) (λ u d.
    let left = length-drop 2 w in
    let within : run q (drop 2 (w ++ r)) ≤ length (drop 2 w) = omega (arith, length-of d) in
    let within2 : run q (drop 2 w ++ r) ≤ length (drop 2 w) = rw next at within in
    let fewer : run is_underscore (drop 2 w ++ r) ≤ run q (drop 2 w ++ r) = run_wider (drop 2 w ++ r) (λ b f. rw f (or-true (p b))) in
    rw (next, run_alone q (drop 2 w) r within2, run_alone is_underscore (drop 2 w) r (omega arith)) at e)

prefixed-extended : (kind refusal : ℕ) (p : ℕ → Bool) (w r : List ℕ) → FailsWhitespace (λ b. p b || is_underscore b) → 2 ≤ length w → end_or_whitespace r ≡ true → prefixed kind refusal p (w ++ r) ≡ prefixed kind refusal p w
unfolding prefixed
prefixed-extended kind refusal p w r n two f = rw (drop-append-le 2 w r two, run-before (λ b. p b || is_underscore b) (drop 2 w) r n f, run-before is_underscore (drop 2 w) r underscore-fails f)

-- All of them
pub number-alone : (w r : List ℕ) (k l : ℕ) → 0 < length w → l ≤ length w → number (w ++ r) ≡ found k l → number w ≡ found k l
unfolding number
number-alone w r k l some_left most e =
    branch (begins "0b" (w ++ r)) e
    (λ u e.
    let two : 2 ≤ length w = omega (arith, prefixed-least NumBinary NoBinaryDigit is_binary_digit (w ++ r) k l e) in
    let here : begins "0b" w ≡ true = sym (begins-alone "0b" w r two) ∙ u in
    rw here (prefixed-alone NumBinary NoBinaryDigit is_binary_digit w r k l most e)) (λ u e.
    branch (begins "0x" (w ++ r)) e
    (λ v e.
    let two : 2 ≤ length w = omega (arith, prefixed-least NumHexadecimal NoHexDigit is_hex_digit (w ++ r) k l e) in
    let here : begins "0x" w ≡ true = sym (begins-alone "0x" w r two) ∙ v in
    rw (begins-part "0b" w r u, here) (prefixed-alone NumHexadecimal NoHexDigit is_hex_digit w r k l most e)) (λ v e.
    rw (begins-part "0b" w r u, begins-part "0x" w r v) (decimal-alone w r k l some_left most e)))

pub number-extended : (w r : List ℕ) → end_or_whitespace r ≡ true → number (w ++ r) ≡ number w
unfolding number is_whitespace is_binary_digit is_hex_digit is_digit
number-extended w r f =
    let binary : FailsWhitespace (λ b. is_binary_digit b || is_underscore b) = fails-whitespace (λ b. is_binary_digit b || is_underscore b) refl refl refl refl refl in
    let hexadecimal : FailsWhitespace (λ b. is_hex_digit b || is_underscore b) = fails-whitespace (λ b. is_hex_digit b || is_underscore b) refl refl refl refl refl in
    decide (begins "0b" w)
    (λ u. rw (begins-extended "0b" w r refl f, u) (prefixed-extended NumBinary NoBinaryDigit is_binary_digit w r binary (begins-length "0b" w u) f)) (λ u.
    decide (begins "0x" w)
    (λ v. rw (begins-extended "0b" w r refl f, u, begins-extended "0x" w r refl f, v) (prefixed-extended NumHexadecimal NoHexDigit is_hex_digit w r hexadecimal (begins-length "0x" w v) f)) (λ v.
    rw (begins-extended "0b" w r refl f, u, begins-extended "0x" w r refl f, v) (decimal-extended w r f)))
