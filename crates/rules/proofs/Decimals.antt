-- A lexeme NumDecimal, without its underscores, is RFC 8259's `int [ frac ] [ exp ]`; and such a text alone is one lexeme NumDecimal.
use Prim.Native.Nat.{ℕ, suc, ◌+◌, ◌≤◌}
use Prim.Native.Char.{Char, code}
use native.Mathlib.Omega.{arith}
use mathlib.Core.Path.{◌≡◌, refl, ap}
use mathlib.Core.List.{List, [], ◌∷◌, ◌++◌}
use mathlib.Core.Bool.{Bool, true, false, cond, ◌||◌, false≢true, and-true, and-eq-true_iff}
use mathlib.Core.Option.{none}
use borrow.Author.Tests.{eqb-false, leb-true, le-leb, le-ltb}
use lib.Dec.{leb, eqb, leb-zero}
use lib.ListN.{take, drop, length, length-append}
use lib.Seq.{take-add, take-length, drop-append_seam}
use Rattle.rules.specs.Text.{is, within, begins, starts, run, all}
use Rattle.rules.specs.Bytes.{is_digit}
use Rattle.rules.specs.Utf8.{char_length, first_bad_from, first_bad}
use Rattle.rules.specs.Spans.{limit}
use Rattle.rules.specs.Kinds.{NumDecimal, Nothing, is_quote_open, is_opener, is_closer}
use Rattle.rules.specs.Step.{Step, found, stop, is_digit_or_underscore, int_length, exponent_mark, exponent, fraction, decimal, prefixed, number, keyword_or_ident, identifier, whitespace, closer, monograph, punctuation, outside, unicode_delim, unicode4, single_escape, inside, step}
use Rattle.rules.specs.Decimals.{DIGIT, digit1-9, Digits, none as no_digit, more, Digits1, some as digits, Int, zero as int-zero, nonzero, Frac, no-frac, frac, E, lower, upper, Sign, no_sign, minus, plus, Exp, no-exp, exp, Unsigned, unsigned, without_underscores}
use Rattle.rules.specs.Lexing.{taken, ended, ends, open_after, trace_from, trace}
use Rattle.rules.proofs.Text.{decide, branch, either, is_code, is-another, starts-append, run-append, run-all, all_append, keep_append}
use Rattle.rules.proofs.Steps.{length-of, refuted}

-- Digits. A digit is no other byte
digit-is : (c : Char) (b : ℕ) → DIGIT b → within "0" "9" (code c) ≡ false → is c b ≡ false
digit-is c b d n = is-another (within "0" "9") c b d n

-- a digit that is not 0
digit-nonzero : (b : ℕ) → DIGIT b → is "0" b ≡ false → digit1-9 b
digit-nonzero b d z =
    let range = (and-eq-true_iff (leb 48 b) (leb b 57)).0 d in
    (and-eq-true_iff (leb 49 b) (leb b 57)).1 (le-leb 49 b (omega (arith, leb-true 48 b range.0, eqb-false b 48 z)), range.1)

nonzero-digit : (b : ℕ) → digit1-9 b → DIGIT b
nonzero-digit b d =
    let range = (and-eq-true_iff (leb 49 b) (leb b 57)).0 d in
    (and-eq-true_iff (leb 48 b) (leb b 57)).1 (le-leb 48 b (omega (arith, leb-true 49 b range.0)), range.1)

-- [ frac ] [ exp ]
data FracExp : List ℕ → Type 0 where
  both : {f e : List ℕ} → Frac f → Exp e → FracExp (f ++ e)

unsigned-append : {i r : List ℕ} → Int i → FracExp r → Unsigned (i ++ r)
unsigned-append i (both f e) = unsigned i f e

-- What is read is in the grammar. The digits of a run of digits and underscores
abbrev digits_of : List ℕ → List ℕ
digits_of s = without_underscores (take (run is_digit_or_underscore s) s)

run-digits : (s : List ℕ) → Digits (digits_of s)
unfolding is_digit_or_underscore is_digit
run-digits [] = no_digit
run-digits (b ∷ s) = decide (within "0" "9" b)
    (λ d. rw (d, digit-is "_" b d refl) (more d (run-digits s)))
    (λ d. decide (is "_" b) (λ u. rw (d, u) (rw u (run-digits s))) (λ u. rw (d, u) no_digit))

run-digits1 : (s : List ℕ) → starts is_digit s ≡ true → Digits1 (digits_of s)
unfolding is_digit_or_underscore is_digit
run-digits1 [] d = absurd (false≢true d)
run-digits1 (b ∷ s) d = rw (d, digit-is "_" b d refl) (digits d (run-digits s))

without-add : (m n : ℕ) (s : List ℕ) → without_underscores (take (m + n) s) ≡ without_underscores (take m s) ++ without_underscores (take n (drop m s))
without-add m n s = rw (take-add m n s, keep_append)

-- e or E, perhaps a sign, and the digits after them
mark-exp : (b : ℕ) (s : List ℕ) → E (b ∷ []) → is "_" b ≡ false → starts is_digit (drop (exponent_mark (b ∷ s)) (b ∷ s)) ≡ true
    → Exp (without_underscores (take (exponent_mark (b ∷ s)) (b ∷ s)) ++ digits_of (drop (exponent_mark (b ∷ s)) (b ∷ s)))
unfolding exponent_mark
mark-exp b [] e u = λ d. absurd (false≢true d)
mark-exp b (x ∷ s) e u = decide (is "+" x)
    (λ p. rw (is_code "+" x p, u) (λ d. exp e plus (run-digits1 s d)))
    (λ p. decide (is "-" x)
    (λ q. rw (is_code "-" x q, u) (λ d. exp e minus (run-digits1 s d)))
    (λ q. rw (p, q, u) (λ d. exp e no_sign (run-digits1 (x ∷ s) d))))

begins-exp : (s : List ℕ) → begins "e" s || begins "E" s ≡ true → starts is_digit (drop (exponent_mark s) s) ≡ true
    → Exp (without_underscores (take (exponent_mark s) s) ++ digits_of (drop (exponent_mark s) s))
begins-exp [] t = absurd (false≢true t)
begins-exp (b ∷ s) t = either (begins "e" (b ∷ s)) (begins "E" (b ∷ s)) t
    (λ p. rw (is_code "e" b (rw and-true at p)) (mark-exp (code "e") s lower refl))
    (λ p. rw (is_code "E" b (rw and-true at p)) (mark-exp (code "E") s upper refl))

-- what is read of a text after n bytes of the number, where the number's length is k
abbrev Reads : (List ℕ → Type 0) → (n : ℕ) → List ℕ → (k : ℕ) → Type 0
Reads P n s k = (m : ℕ) × (k ≡ n + m) × P (without_underscores (take m s))

exponent-reads : (n : ℕ) (s : List ℕ) (k : ℕ) → exponent n s ≡ found NumDecimal k → Reads Exp n s k
unfolding exponent
exponent-reads n s k e = branch (begins "e" s || begins "E" s) e
    (λ t e. branch (starts is_digit (drop (exponent_mark s) s)) e
    (λ d e. (exponent_mark s + run is_digit_or_underscore (drop (exponent_mark s) s), omega (arith, length-of e), rw without-add (begins-exp s t d)))
    (λ d e. refuted e))
    (λ t e. (0, omega (arith, length-of e), no-exp))

begins-frac : (s : List ℕ) → begins "." s ≡ true → starts is_digit (drop 1 s) ≡ true → Frac (without_underscores (take (suc (run is_digit_or_underscore (drop 1 s))) s))
begins-frac [] t d = absurd (false≢true t)
begins-frac (b ∷ s) t d = rw (is_code "." b (rw and-true at t)) (frac (run-digits1 s d))

fraction-reads : (n : ℕ) (s : List ℕ) (k : ℕ) → fraction n s ≡ found NumDecimal k → Reads FracExp n s k
unfolding fraction
fraction-reads n s k e = branch (begins "." s) e
    (λ t e. branch (starts is_digit (drop 1 s)) e
    (λ d e. let m = suc (run is_digit_or_underscore (drop 1 s)) in
    let x = exponent-reads (n + m) (drop m s) k e in
    (m + x.0, omega arith, rw without-add (both (begins-frac s t d) x.2)))
    (λ d e. refuted e))
    (λ t e. let x = exponent-reads n s k e in (x.0, x.1, both no-frac x.2))

int-reads : (s : List ℕ) → starts is_digit s ≡ true → Int (without_underscores (take (int_length s) s))
unfolding int_length is_digit_or_underscore is_digit
int-reads [] d = absurd (false≢true d)
int-reads (b ∷ s) d = decide (is "0" b)
    (λ z. rw (is_code "0" b z) int-zero)
    (λ z. rw (z, d, digit-is "_" b d refl) (nonzero (digit-nonzero b d z) (run-digits s)))

decimal-reads : (s : List ℕ) (n : ℕ) → starts is_digit s ≡ true → decimal s ≡ found NumDecimal n → Unsigned (without_underscores (take n s))
unfolding decimal
decimal-reads s n d e =
    let x = fraction-reads (int_length s) (drop (int_length s) s) n e in
    rw (x.1, without-add) (unsigned-append (int-reads s d) x.2)

-- NumDecimal comes from nowhere else. A kind that is another one
record Other (kind : ℕ) : Type 0 where
  differs : eqb kind NumDecimal ≡ false

other-is : (k : ℕ) → eqb k NumDecimal ≡ false → Other k
other-is k d = record { differs = d }

other-cond : (b : Bool) (k l : ℕ) → Other k → Other l → Other (cond b k l)
other-cond true k l p q = p
other-cond false k l p q = q

-- a step on a text of which each lexeme NumDecimal is in the grammar
record Conforms (s : List ℕ) (x : Step) : Type 0 where
  each : (n : ℕ) → x ≡ found NumDecimal n → Unsigned (without_underscores (take n s))

conforms-found : (s : List ℕ) (k m : ℕ) → Other k → Conforms s (found k m)
conforms-found s k m o = record { each = λ n e. let same : k ≡ NumDecimal = cc in absurd (eqb-false k NumDecimal o.differs same) }

conforms-stop : (s : List ℕ) (a b c : ℕ) → Conforms s (stop a b c)
conforms-stop s a b c = record { each = λ n e. refuted e }

conforms-cond : (s : List ℕ) (b : Bool) (x y : Step) → Conforms s x → Conforms s y → Conforms s (cond b x y)
conforms-cond s true x y p q = p
conforms-cond s false x y p q = q

number-conforms : (s : List ℕ) → Conforms s (decimal s) → Conforms s (number s)
unfolding number prefixed
number-conforms s p = search (conforms-cond, conforms-found, conforms-stop, other-is) depth 10

digit-conforms : (s : List ℕ) (y : Step) → Conforms s y → Conforms s (cond (starts is_digit s) (number s) y)
digit-conforms s y q = decide (starts is_digit s)
    (λ d. rw d (number-conforms s (record { each = λ n e. decimal-reads s n d e })))
    (λ d. rw d q)

keyword-other : (w : List ℕ) → Other (keyword_or_ident w)
unfolding keyword_or_ident
keyword-other w = search (other-cond, other-is) depth 20

monograph-conforms : (innermost : ℕ) (s : List ℕ) → Conforms s (monograph innermost s)
unfolding monograph closer
monograph-conforms innermost s = search (conforms-cond, conforms-found, conforms-stop, other-is) depth 30

outside-conforms : (innermost : ℕ) (s : List ℕ) → Conforms s (outside innermost s)
unfolding outside identifier whitespace punctuation
outside-conforms innermost s = search (digit-conforms, monograph-conforms, keyword-other, conforms-cond, conforms-found, conforms-stop, other-cond, other-is) depth 30

inside-conforms : (quote : ℕ) (s : List ℕ) → Conforms s (inside quote s)
unfolding inside unicode_delim unicode4 single_escape
inside-conforms quote s = search (conforms-cond, conforms-found, conforms-stop, other-is) depth 20

-- a lexeme NumDecimal, without its underscores, is RFC 8259's int [ frac ] [ exp ]
pub decimal-grammar : (innermost : ℕ) (s : List ℕ) (n : ℕ) → step innermost s ≡ found NumDecimal n → Unsigned (without_underscores (take n s))
unfolding step
decimal-grammar innermost s n e = (conforms-cond s (is_quote_open innermost) _ _ (inside-conforms innermost s) (outside-conforms innermost s)).each n e

-- What is in the grammar is read to its end. Digits pass each test that a digit passes
digits-all : (p : ℕ → Bool) → ((b : ℕ) → DIGIT b → p b ≡ true) → {s : List ℕ} → Digits s → all p s ≡ true
digits-all p h no_digit = refl
digits-all p h (more {b = b} d ds) = rw (h b d) (digits-all p h ds)

digits1-all : (p : ℕ → Bool) → ((b : ℕ) → DIGIT b → p b ≡ true) → {s : List ℕ} → Digits1 s → all p s ≡ true
digits1-all p h (digits {b = b} d ds) = rw (h b d) (digits-all p h ds)

digit-in-run : (b : ℕ) → DIGIT b → is_digit_or_underscore b ≡ true
unfolding is_digit_or_underscore is_digit
digit-in-run b d = rw d

digits1-start : {s : List ℕ} → Digits1 s → starts is_digit s ≡ true
unfolding is_digit
digits1-start (digits d ds) = d

digits1-no-sign : {s : List ℕ} → Digits1 s → begins "+" s || begins "-" s ≡ false
digits1-no-sign (digits {b = b} d ds) = rw (digit-is "+" b d refl, digit-is "-" b d refl)

digits1-run : {s : List ℕ} → Digits1 s → run is_digit_or_underscore s ≡ length s
digits1-run {s} ds = run-all is_digit_or_underscore s (digits1-all is_digit_or_underscore digit-in-run ds)

sign-alone : (n b : ℕ) {sign s : List ℕ} → begins "e" (b ∷ []) || begins "E" (b ∷ []) ≡ true → Sign sign → Digits1 s
    → exponent n (b ∷ (sign ++ s)) ≡ found NumDecimal (n + suc (length (sign ++ s)))
unfolding exponent exponent_mark
sign-alone n b h no_sign ds = rw (h, digits1-no-sign ds, digits1-start ds, digits1-run ds) (ap (found NumDecimal) (omega arith))
sign-alone n b h minus ds = rw (h, digits1-start ds, digits1-run ds) (ap (found NumDecimal) (omega arith))
sign-alone n b h plus ds = rw (h, digits1-start ds, digits1-run ds) (ap (found NumDecimal) (omega arith))

exponent-alone : (n : ℕ) {e : List ℕ} → Exp e → exponent n e ≡ found NumDecimal (n + length e)
unfolding exponent
exponent-alone n no-exp = ap (found NumDecimal) (omega arith)
exponent-alone n (exp lower sign ds) = sign-alone n (code "e") refl sign ds
exponent-alone n (exp upper sign ds) = sign-alone n (code "E") refl sign ds

-- what stands before an exponent does not go on with it, nor what stands before a fraction
exp-starts : {e : List ℕ} → Exp e → (begins "." e ≡ false) × (starts is_digit_or_underscore e ≡ false)
unfolding is_digit_or_underscore is_digit
exp-starts no-exp = (refl, refl)
exp-starts (exp lower sign ds) = (refl, refl)
exp-starts (exp upper sign ds) = (refl, refl)

frac-exp-starts : {r : List ℕ} → FracExp r → (begins "b" r ≡ false) × (begins "x" r ≡ false) × (starts is_digit_or_underscore r ≡ false)
unfolding is_digit_or_underscore is_digit
frac-exp-starts (both no-frac no-exp) = (refl, refl, refl)
frac-exp-starts (both no-frac (exp lower sign ds)) = (refl, refl, refl)
frac-exp-starts (both no-frac (exp upper sign ds)) = (refl, refl, refl)
frac-exp-starts (both (frac ds) e) = (refl, refl, refl)

fraction-alone : (n : ℕ) {r : List ℕ} → FracExp r → fraction n r ≡ found NumDecimal (n + length r)
unfolding fraction
fraction-alone n (both no-frac x) = rw (exp-starts x).0 (exponent-alone n x)
fraction-alone n (both {e = e} (frac {s = s} ds) x) =
    let r = run-append is_digit_or_underscore s e (digits1-all is_digit_or_underscore digit-in-run ds) (exp-starts x).1 in
    rw (starts-append is_digit s e (digits1-start ds), r, drop-append_seam s e, exponent-alone (n + suc (length s)) x)
    (ap (found NumDecimal) (omega (arith, length-append s e)))

number-alone : {i r : List ℕ} → Int i → FracExp r → number (i ++ r) ≡ found NumDecimal (length (i ++ r))
unfolding number decimal int_length
number-alone int-zero x = rw ((frac-exp-starts x).0, (frac-exp-starts x).1, fraction-alone 1 x) (ap (found NumDecimal) (omega arith))
number-alone {r = r} (nonzero {b = b} {s = s} d ds) x =
    let a = digits-all is_digit_or_underscore digit-in-run (more {b = b} (nonzero-digit b d) ds) in
    let n = run-append is_digit_or_underscore (b ∷ s) r a (frac-exp-starts x).2 in
    rw (is-another (within "1" "9") "0" b d refl, n, drop-append_seam s r, fraction-alone (suc (length s)) x)
    (ap (found NumDecimal) (omega (arith, length-append s r)))

-- where nothing is open, a digit begins a number
step-digit : (b : ℕ) (s : List ℕ) → DIGIT b → step Nothing (b ∷ s) ≡ number (b ∷ s)
unfolding step outside is_digit
step-digit b s d = rw (digit-is "#" b d refl, digit-is "/" b d refl, digit-is "f" b d refl, digit-is "\"" b d refl, digit-is "}" b d refl, d)

-- the bytes left all belong to the step before
trace-skip : (s : List ℕ) → trace_from [] (length s) s ≡ ends ended
unfolding trace_from
trace-skip [] = refl
trace-skip (b ∷ s) = trace-skip s

number-trace : (b : ℕ) (s : List ℕ) → DIGIT b → number (b ∷ s) ≡ found NumDecimal (length (b ∷ s))
    → trace_from [] 0 (b ∷ s) ≡ record { taken = taken NumDecimal (b ∷ s) ∷ []; end = ended }
unfolding trace_from open_after is_opener is_closer
number-trace b s d e = rw (step-digit b s d, e, take-length s, trace-skip s)

-- RFC 8259's int [ frac ] [ exp ] alone is one lexeme NumDecimal
pub decimal-alone : (w : List ℕ) → Unsigned w → trace_from [] 0 w ≡ record { taken = taken NumDecimal w ∷ []; end = ended }
decimal-alone w (unsigned int-zero f e) = number-trace (code "0") _ refl (number-alone int-zero (both f e))
decimal-alone w (unsigned (nonzero {b = b} d ds) f e) = number-trace b _ (nonzero-digit b d) (number-alone (nonzero d ds) (both f e))

-- ASCII is UTF-8
abbrev pub is_ascii : ℕ → Bool
is_ascii b = leb b 0x7F

ascii-good-from : (at : ℕ) (s : List ℕ) → all is_ascii s ≡ true → first_bad_from 0 at s ≡ none
unfolding first_bad_from char_length
ascii-good-from at [] a = refl
ascii-good-from at (b ∷ s) a = decide (is_ascii b)
    (λ q. rw (leb-zero b, q) (ascii-good-from (suc at) s (rw q at a)))
    (λ q. absurd (false≢true (rw q at a)))

pub ascii-good : (s : List ℕ) → all is_ascii s ≡ true → first_bad s ≡ none
unfolding first_bad
ascii-good s a = ascii-good-from 0 s a

-- and a number is ASCII
digit-ascii : (b : ℕ) → DIGIT b → is_ascii b ≡ true
digit-ascii b d = le-leb b 127 (omega (arith, leb-true b 57 ((and-eq-true_iff (leb 48 b) (leb b 57)).0 d).1))

int-ascii : {i : List ℕ} → Int i → all is_ascii i ≡ true
int-ascii int-zero = refl
int-ascii (nonzero {b = b} d ds) = digits-all is_ascii digit-ascii (more {b = b} (nonzero-digit b d) ds)

frac-ascii : {f : List ℕ} → Frac f → all is_ascii f ≡ true
frac-ascii no-frac = refl
frac-ascii (frac ds) = digits1-all is_ascii digit-ascii ds

sign-ascii : {sign s : List ℕ} → Sign sign → Digits1 s → all is_ascii (sign ++ s) ≡ true
sign-ascii no_sign ds = digits1-all is_ascii digit-ascii ds
sign-ascii minus ds = digits1-all is_ascii digit-ascii ds
sign-ascii plus ds = digits1-all is_ascii digit-ascii ds

exp-ascii : {e : List ℕ} → Exp e → all is_ascii e ≡ true
exp-ascii no-exp = refl
exp-ascii (exp lower sign ds) = sign-ascii sign ds
exp-ascii (exp upper sign ds) = sign-ascii sign ds

unsigned-ascii : {w : List ℕ} → Unsigned w → all is_ascii w ≡ true
unsigned-ascii (unsigned {i = i} {f = f} {e = e} x y z) = all_append is_ascii i (f ++ e) (int-ascii x) (all_append is_ascii f e (frac-ascii y) (exp-ascii z))

-- the same with the checks of UTF-8 and of the text's length
pub decimal-alone-trace : (w : List ℕ) → Unsigned w → length w ≤ limit → trace w ≡ record { taken = taken NumDecimal w ∷ []; end = ended }
unfolding trace
decimal-alone-trace w u h = rw (le-ltb limit (length w) h, ascii-good w (unsigned-ascii u)) (decimal-alone w u)
