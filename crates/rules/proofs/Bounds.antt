-- A step stays inside the text: a lexeme has at least one byte and ends in the text, a refusal's span ends in it too, and a kind is one of the 60.
use Prim.Native.Nat.{ℕ, zero, suc, ◌+◌, ◌≤◌, ◌<◌, zero-le}
use Prim.Native.Char.{Char, code}
use Prim.Native.String.{String}
use Prim.Native.String as S
use mathlib.Core.Path.{◌≡◌, refl}
use mathlib.Core.List.{List, [], ◌∷◌}
use mathlib.Core.Bool.{Bool, true, false, cond, ◌&&◌, ◌||◌, false≢true, true≢false}
use native.Mathlib.Omega.{arith}
use lib.Dec.{leb, eqb, leb→le}
use lib.ListN.{drop, get_or, length, length-drop}
use Rattle.rules.specs.Text.{is, begins, same, starts, run, count}
use Rattle.rules.specs.Bytes.{is_whitespace, is_digit, is_letter, is_over127, is_identifier_byte, is_hex_digit, is_not_lf}
use Rattle.rules.specs.Utf8.{is_tail}
use Rattle.rules.specs.Kinds.{Pipe, is_quote_open, is_format, is_triple}
use Rattle.rules.specs.Step.{Step, found, stop, is_underscore, is_digit_or_underscore, int_length, exponent_mark, exponent, fraction, decimal, prefixed, number, give_back, identifier_length, keyword_or_ident, identifier, whitespace, closer, monograph, punctuation, outside, unicode_delim, unicode4, single_escape, is_inner, closes_quote, inside, step}
use Rattle.rules.proofs.Text.{and_left, and_right, is_code}
use Rattle.rules.proofs.Runs.{run-le}

-- Tests, by their value
cond-le : (b : Bool) (x y n : ℕ) → x ≤ n → y ≤ n → cond b x y ≤ n
cond-le true x y n p q = p
cond-le false x y n p q = q

le-cond : (b : Bool) (x y n : ℕ) → n ≤ x → n ≤ y → n ≤ cond b x y
le-cond true x y n p q = p
le-cond false x y n p q = q

le_of : (m n : ℕ) → leb m n ≡ true → m ≤ n
le_of m n e = leb→le m n (rw e tt)

-- Bounds of what is read off the front of a text
pub run-some : (p : ℕ → Bool) (s : List ℕ) → starts p s ≡ true → 0 < run p s
run-some p [] e = absurd (false≢true e)
run-some p (b ∷ s) e = rw e (omega arith)

-- a run after so many bytes
pub run-after : (p : ℕ → Bool) (m : ℕ) (s : List ℕ) → m ≤ length s → m + run p (drop m s) ≤ length s
run-after p m s h = omega (arith, run-le p (drop m s), length-drop m s)

pub count-length : (p : ℕ → Bool) (s : List ℕ) → count p s ≤ length s
count-length p [] = zero-le
count-length p (b ∷ s) = cond-le (p b) (suc (count p s)) (count p s) _ (omega (arith, count-length p s)) (omega (arith, count-length p s))

pub give_back-le : (s : List ℕ) (n : ℕ) → give_back s n ≤ n
give_back-le s zero = zero-le
give_back-le s (suc n) = cond-le (is "-" (get_or s n 0)) (give_back s n) (suc n) _ (omega (arith, give_back-le s n)) (omega arith)

pub give_back-some : (s : List ℕ) (n : ℕ) → is "-" (get_or s 0 0) ≡ false → 0 < give_back s (suc n)
give_back-some s zero e = rw e (omega arith)
give_back-some s (suc n) e = le-cond (is "-" (get_or s (suc n) 0)) (give_back s (suc n)) (suc (suc n)) _ (give_back-some s n e) (omega arith)

-- how many characters a quoted text has
abbrev pub size : String → ℕ
size S.[] = 0
size (S.◌∷◌ c t) = suc (size t)

pub begins-length : (t : String) (s : List ℕ) → begins t s ≡ true → size t ≤ length s
begins-length S.[] s e = zero-le
begins-length (S.◌∷◌ c t) [] e = absurd (false≢true e)
begins-length (S.◌∷◌ c t) (b ∷ s) e = omega (arith, begins-length t s (and_right (is c b) (begins t s) e))

-- a text that begins with the quoted one and is not it goes on
pub begins-longer : (t : String) (s : List ℕ) → begins t s ≡ true → same t s ≡ false → size t < length s
begins-longer S.[] [] e f = absurd (true≢false f)
begins-longer S.[] (b ∷ s) e f = omega arith
begins-longer (S.◌∷◌ c t) [] e f = absurd (false≢true e)
begins-longer (S.◌∷◌ c t) (b ∷ s) e f =
    omega (arith, begins-longer t s (and_right (is c b) (begins t s) e) (rw (and_left (is c b) (begins t s) e) at f))

pub starts-length : (p : ℕ → Bool) (s : List ℕ) → starts p s ≡ true → 0 < length s
starts-length p [] e = absurd (false≢true e)
starts-length p (b ∷ s) e = omega arith

-- Kinds and numbers: what holds of a lexeme's kind and of a refusal's number
abbrev Named : Step → Type 0
Named (found k n) = k ≤ Pipe
Named (stop number from n) = (10 ≤ number) × (number ≤ 24)

record IsNamed (r : Step) : Type 0 where
  named : Named r

named-found : (k n : ℕ) → leb k Pipe ≡ true → IsNamed (found k n)
named-found k n e = record { named = le_of k Pipe e }

named-stop : (number from n : ℕ) → leb 10 number ≡ true → leb number 24 ≡ true → IsNamed (stop number from n)
named-stop number from n e f = record { named = (le_of 10 number e, le_of number 24 f) }

named-cond : (b : Bool) (x y : Step) → IsNamed x → IsNamed y → IsNamed (cond b x y)
named-cond true x y p q = p
named-cond false x y p q = q

record IsKind (k : ℕ) : Type 0 where
  known : leb k Pipe ≡ true

kind-number : (k : ℕ) → leb k Pipe ≡ true → IsKind k
kind-number k e = record { known = e }

kind-cond : (b : Bool) (x y : ℕ) → IsKind x → IsKind y → IsKind (cond b x y)
kind-cond true x y p q = p
kind-cond false x y p q = q

keyword-kind : (w : List ℕ) → IsKind (keyword_or_ident w)
unfolding keyword_or_ident
keyword-kind w = search (kind-cond, kind-number) depth 40

named-kind : (k n : ℕ) → IsKind k → IsNamed (found k n)
named-kind k n h = named-found k n h.known

named-identifier : (s : List ℕ) → IsNamed (identifier s)
unfolding identifier
named-identifier s = named-kind _ _ (keyword-kind _)

named-whitespace : (s : List ℕ) → IsNamed (whitespace s)
unfolding whitespace
named-whitespace s = search (named-kind, kind-cond, kind-number)

named-number : (s : List ℕ) → IsNamed (number s)
unfolding number prefixed decimal fraction exponent
named-number s = search (named-cond, named-found, named-stop) depth 40

named-closer : (innermost opener kind : ℕ) → leb kind Pipe ≡ true → IsNamed (closer innermost opener kind)
unfolding closer
named-closer innermost opener kind e = search (named-cond, named-found, named-stop)

named-monograph : (innermost : ℕ) (s : List ℕ) → IsNamed (monograph innermost s)
unfolding monograph
named-monograph innermost s = search (named-closer, named-cond, named-found, named-stop) depth 40

named-punctuation : (innermost : ℕ) (s : List ℕ) → IsNamed (punctuation innermost s)
unfolding punctuation
named-punctuation innermost s = search (named-monograph, named-cond, named-found) depth 40

named-outside : (innermost : ℕ) (s : List ℕ) → IsNamed (outside innermost s)
unfolding outside
named-outside innermost s = search (named-number, named-identifier, named-whitespace, named-punctuation, named-cond, named-found, named-stop) depth 40

named-inside : (innermost : ℕ) (s : List ℕ) → IsNamed (inside innermost s)
unfolding inside unicode_delim unicode4 single_escape
named-inside innermost s = search (named-cond, named-found, named-stop) depth 40

named_step : (innermost : ℕ) (s : List ℕ) → IsNamed (step innermost s)
unfolding step
named_step innermost s = named-cond (is_quote_open innermost) _ _ (named-inside innermost s) (named-outside innermost s)

-- Lengths: what holds of a lexeme and of a refusal's span, where the text has at most so many bytes
abbrev Fits : ℕ → Step → Type 0
Fits most (found k n) = (0 < n) × (n ≤ most)
Fits most (stop number from n) = from + n ≤ most

record Inside (most : ℕ) (r : Step) : Type 0 where
  fits : Fits most r

inside_found : (most k n : ℕ) → 0 < n → n ≤ most → Inside most (found k n)
inside_found most k n p q = record { fits = (p, q) }

inside-stop : (most number from n : ℕ) → from + n ≤ most → Inside most (stop number from n)
inside-stop most number from n p = record { fits = p }

inside-cond : (most : ℕ) (b : Bool) (x y : Step) → (b ≡ true → Inside most x) → (b ≡ false → Inside most y) → Inside most (cond b x y)
inside-cond most true x y p q = p refl
inside-cond most false x y p q = q refl

-- one byte of a text that has one
inside_one : (most k : ℕ) → 0 < most → Inside most (found k 1)
inside_one most k h = inside_found most k 1 (omega arith) h

inside-stop-one : (most number : ℕ) → 0 < most → Inside most (stop number 0 1)
inside-stop-one most number h = inside-stop most number 0 1 h

-- the bytes of a quoted text that the text begins with
inside-quoted : (t : String) (s : List ℕ) (k n : ℕ) → begins t s ≡ true → leb 1 n ≡ true → leb n (size t) ≡ true → Inside (length s) (found k n)
inside-quoted t s k n e p q = inside_found (length s) k n (le_of 1 n p) (omega (arith, begins-length t s e, le_of n (size t) q))

-- a run at the front of a text
inside-run : (p : ℕ → Bool) (s : List ℕ) (k : ℕ) → starts p s ≡ true → Inside (length s) (found k (run p s))
inside-run p s k e = inside_found (length s) k (run p s) (run-some p s e) (run-le p s)

inside-stop-run : (p : ℕ → Bool) (s : List ℕ) (number : ℕ) → Inside (length s) (stop number 0 (run p s))
inside-stop-run p s number = inside-stop (length s) number 0 (run p s) (omega (arith, run-le p s))

-- a line: a quoted text that no line end begins, and on to before the next
line-some : (c : Char) (t : String) (s : List ℕ) → is_not_lf (code c) ≡ true → begins (S.◌∷◌ c t) s ≡ true → starts is_not_lf s ≡ true
line-some c t [] p e = absurd (false≢true e)
line-some c t (b ∷ s) p e = rw (is_code c b (and_left (is c b) (begins t s) e)) p

-- Numbers
exponent_mark-length : (s : List ℕ) → begins "e" s || begins "E" s ≡ true → exponent_mark s ≤ length s
unfolding exponent_mark
exponent_mark-length [] e = absurd (false≢true e)
exponent_mark-length (b ∷ []) e = omega arith
exponent_mark-length (b ∷ (c ∷ s)) e = cond-le (begins "+" (c ∷ s) || begins "-" (c ∷ s)) 2 1 _ (omega arith) (omega arith)

inside-exponent : (most n : ℕ) (s : List ℕ) → 0 < n → n + length s ≤ most → Inside most (exponent n s)
unfolding exponent
inside-exponent most n s p q =
    inside-cond most (begins "e" s || begins "E" s) _ _
    (λ e. let m = exponent_mark-length s e in
    inside-cond most (starts is_digit (drop (exponent_mark s) s)) _ _
    (λ f. inside_found most _ _ (omega arith) (omega (arith, run-after is_digit_or_underscore (exponent_mark s) s m)))
    (λ f. inside-stop most _ _ 0 (omega arith)))
    (λ e. inside_found most _ n p (omega arith))

inside-fraction : (most n : ℕ) (s : List ℕ) → 0 < n → n + length s ≤ most → Inside most (fraction n s)
unfolding fraction
inside-fraction most n s p q =
    inside-cond most (begins "." s) _ _
    (λ e. let h : 1 ≤ length s = begins-length "." s e in
    inside-cond most (starts is_digit (drop 1 s)) _ _
    (λ f. inside-exponent most _ _ (omega arith) (omega (arith, run-after is_digit_or_underscore 1 s h, length-drop (suc (run is_digit_or_underscore (drop 1 s))) s)))
    (λ f. inside-stop most _ n 1 (omega arith)))
    (λ e. inside-exponent most n s p q)

pub digit-number : (s : List ℕ) → starts is_digit s ≡ true → starts is_digit_or_underscore s ≡ true
unfolding is_digit_or_underscore
digit-number [] e = e
digit-number (b ∷ s) e = rw e

int_length-inside : (s : List ℕ) → starts is_digit s ≡ true → (0 < int_length s) × (int_length s ≤ length s)
unfolding int_length
int_length-inside s e =
    let h = starts-length is_digit s e in (
      le-cond (begins "0" s) 1 (run is_digit_or_underscore s) 1 (omega arith) (run-some is_digit_or_underscore s (digit-number s e)),
      cond-le (begins "0" s) 1 (run is_digit_or_underscore s) _ h (run-le is_digit_or_underscore s),
    )

inside-prefixed : (kind refusal : ℕ) (p : ℕ → Bool) (s : List ℕ) → 2 ≤ length s → Inside (length s) (prefixed kind refusal p s)
unfolding prefixed
inside-prefixed kind refusal p s h =
    let m = run-after (λ b. p b || is_underscore b) 2 s h in
    inside-cond (length s) (eqb (run is_underscore (drop 2 s)) (run (λ b. p b || is_underscore b) (drop 2 s))) _ _
    (λ e. inside-stop (length s) refusal 0 _ (omega arith))
    (λ e. inside_found (length s) kind _ (omega arith) m)

inside-number : (s : List ℕ) → starts is_digit s ≡ true → Inside (length s) (number s)
unfolding number decimal
inside-number s e =
    inside-cond (length s) (begins "0b" s) _ _ (λ f. inside-prefixed _ _ _ s (begins-length "0b" s f))
    (λ f. inside-cond (length s) (begins "0x" s) _ _ (λ f. inside-prefixed _ _ _ s (begins-length "0x" s f))
    (λ f. let h = int_length-inside s e in inside-fraction (length s) (int_length s) _ h.0 (omega (arith, length-drop (int_length s) s))))

-- Identifiers
letter-not-minus : (b : ℕ) → is_letter b ≡ true → is "-" b ≡ false
unfolding is_letter
letter-not-minus b e = go (is "-" b) refl
  where
    go : (t : Bool) → is "-" b ≡ t → is "-" b ≡ false
    go true f = let z : ◌≡◌ {A = Bool} false true = rw (is_code "-" b f) at e in absurd (false≢true z)
    go false f = f

identifier-some : (s : List ℕ) → starts is_letter s ≡ true → 0 < identifier_length s
unfolding identifier_length is_identifier_byte
identifier-some [] e = absurd (false≢true e)
identifier-some (b ∷ s) e = rw e (give_back-some (b ∷ s) (run is_identifier_byte s) (letter-not-minus b e))

inside-identifier : (s : List ℕ) → starts is_letter s ≡ true → Inside (length s) (identifier s)
unfolding identifier identifier_length
inside-identifier s e = inside_found (length s) _ _ (identifier-some s e) (omega (arith, give_back-le s (run is_identifier_byte s), run-le is_identifier_byte s))

inside-whitespace : (s : List ℕ) → starts is_whitespace s ≡ true → Inside (length s) (whitespace s)
unfolding whitespace
inside-whitespace s e = inside-run is_whitespace s _ e

-- Punctuation
inside-closer : (most innermost opener kind : ℕ) → 0 < most → Inside most (closer innermost opener kind)
unfolding closer
inside-closer most innermost opener kind h = search (inside-cond, inside_one, inside-stop-one)

inside-monograph : (innermost : ℕ) (s : List ℕ) → 0 < length s → Inside (length s) (monograph innermost s)
unfolding monograph
inside-monograph innermost s h = search (inside-closer, inside-cond, inside_one, inside-stop-one) depth 60 fits 3000

inside-punctuation : (innermost : ℕ) (s : List ℕ) → 0 < length s → Inside (length s) (punctuation innermost s)
unfolding punctuation
inside-punctuation innermost s h = search (inside-cond, inside-quoted, inside-monograph) depth 60 fits 3000

-- Outside strings
inside-line : (c : Char) (t : String) (s : List ℕ) (k : ℕ) → is_not_lf (code c) ≡ true → begins (S.◌∷◌ c t) s ≡ true → Inside (length s) (found k (run is_not_lf s))
inside-line c t s k p e = inside-run is_not_lf s k (line-some c t s p e)

inside-outside : (innermost : ℕ) (s : List ℕ) → 0 < length s → Inside (length s) (outside innermost s)
unfolding outside is_not_lf
inside-outside innermost s h =
    inside-cond (length s) (begins "#!" s) _ _ (inside-line "#" "!" s _ refl) (λ e.
    inside-cond (length s) (begins "//" s) _ _ (inside-line "/" "/" s _ refl) (λ e.
    search (inside-number, inside-identifier, inside-whitespace, inside-punctuation, inside-cond, inside-quoted, inside_one, inside-stop-run) depth 40))

-- In a string
inside-unicode_delim : (s : List ℕ) → 3 ≤ length s → Inside (length s) (unicode_delim s)
unfolding unicode_delim
inside-unicode_delim s h =
    let m = run-after is_hex_digit 3 s h in
    inside-cond (length s) (begins "}" (drop (3 + run is_hex_digit (drop 3 s)) s)) _ _
    (λ e. inside_found (length s) _ _ (omega arith) (omega (arith, begins-length "}" (drop (3 + run is_hex_digit (drop 3 s)) s) e, length-drop (3 + run is_hex_digit (drop 3 s)) s)))
    (λ e. inside-stop (length s) _ _ 0 (omega arith))

inside-unicode4 : (s : List ℕ) → 2 ≤ length s → Inside (length s) (unicode4 s)
unfolding unicode4
inside-unicode4 s h =
    let m = run-after is_hex_digit 2 s h in
    inside-cond (length s) (leb 4 (run is_hex_digit (drop 2 s))) _ _
    (λ e. inside_found (length s) _ 6 (omega arith) (omega (arith, le_of 4 (run is_hex_digit (drop 2 s)) e)))
    (λ e. inside-stop (length s) _ 0 _ (omega arith))

inside-single_escape : (s : List ℕ) → begins "\\" s ≡ true → Inside (length s) (single_escape s)
unfolding single_escape
inside-single_escape s h =
    let one = begins-length "\\" s h in
    inside-cond (length s) (same "\\" s) _ _ (λ e. inside-stop-one (length s) _ (omega arith)) (λ e.
    let two = begins-longer "\\" s h e in
    inside-cond (length s) (begins "\r" (drop 1 s) || begins "\n" (drop 1 s)) _ _ (λ f. inside-stop (length s) _ 0 2 (omega arith)) (λ f.
    inside-cond (length s) (starts is_over127 (drop 1 s)) _ _ (λ g. inside-stop (length s) _ 0 _ (omega (arith, run-after is_tail 2 s two))) (λ g.
    inside_found (length s) _ 2 (omega arith) two)))

closes_quote-length : (quote : ℕ) (s : List ℕ) → closes_quote quote s ≡ true → cond (is_triple quote) 3 1 ≤ length s
unfolding closes_quote
closes_quote-length quote s = go (is_triple quote)
  where
    go : (t : Bool) → cond t (begins "\"\"\"" s) (begins "\"" s) ≡ true → cond t 3 1 ≤ length s
    go true e = begins-length "\"\"\"" s e
    go false e = begins-length "\"" s e

inside-inside : (quote : ℕ) (s : List ℕ) → 0 < length s → Inside (length s) (inside quote s)
unfolding inside
inside-inside quote s h =
    inside-cond (length s) (begins "\\u{" s) _ _ (λ e. inside-unicode_delim s (begins-length "\\u{" s e)) (λ e.
    inside-cond (length s) (begins "\\u" s) _ _ (λ e. inside-unicode4 s (begins-length "\\u" s e)) (λ e.
    inside-cond (length s) (begins "\\" s) _ _ (inside-single_escape s) (λ e.
    inside-cond (length s) (closes_quote quote s) _ _
    (λ e. inside_found (length s) _ _ (le-cond (is_triple quote) 3 1 1 (omega arith) (omega arith)) (closes_quote-length quote s e)) (λ e.
    inside-cond (length s) (is_format quote && begins "{" s) _ _ (λ e. inside_one (length s) _ h) (λ e.
    inside_found (length s) _ _ (omega arith) (omega (arith, run-after (is_inner quote) 1 s h)))))))

inside-step : (innermost : ℕ) (s : List ℕ) → 0 < length s → Inside (length s) (step innermost s)
unfolding step
inside-step innermost s h = inside-cond (length s) (is_quote_open innermost) _ _ (λ e. inside-inside innermost s h) (λ e. inside-outside innermost s h)

-- The laws
pub found_inside : (innermost : ℕ) (s : List ℕ) (k n : ℕ) → 0 < length s → step innermost s ≡ found k n → (0 < n) × (n ≤ length s)
found_inside innermost s k n some_left e = rw e at (inside-step innermost s some_left).fits

pub found-kind : (innermost : ℕ) (s : List ℕ) (k n : ℕ) → step innermost s ≡ found k n → k ≤ Pipe
found-kind innermost s k n e = rw e at (named_step innermost s).named

pub stop-inside : (innermost : ℕ) (s : List ℕ) (number from n : ℕ) → 0 < length s → step innermost s ≡ stop number from n → from + n ≤ length s
stop-inside innermost s number from n some_left e = rw e at (inside-step innermost s some_left).fits

-- a refusal of a step has one of the numbers 10 to 24
pub stop-number : (innermost : ℕ) (s : List ℕ) (number from n : ℕ) → step innermost s ≡ stop number from n → (10 ≤ number) × (number ≤ 24)
stop-number innermost s number from n e = rw e at (named_step innermost s).named
