-- Every lexeme of a UTF-8 text ends between two characters: all its bytes are ASCII, or it goes on over every byte over 127.
use Prim.Native.Nat.{ℕ, suc, ◌+◌, ◌≤◌, ◌<◌}
use Prim.Native.Char.{Char, code}
use Prim.Native.String.{String}
use Prim.Native.String as S
use mathlib.Core.Path.{◌≡◌, refl}
use mathlib.Core.List.{List, [], ◌∷◌}
use mathlib.Core.Bool.{Bool, true, false, cond, not, ◌&&◌, ◌||◌, false≢true, and-eq-true_iff}
use native.Mathlib.Omega.{arith}
use borrow.Author.Tests.{leb-true, le-leb, ltb-false, eqb-true}
use lib.Dec.{leb, eqb}
use lib.ListN.{length, drop}
use Rattle.rules.specs.Text.{ascii, is, within, begins, same, starts, run, all}
use Rattle.rules.specs.Bytes.{is_whitespace, is_digit, is_letter, is_punctuation, is_over127, is_identifier_byte, is_hex_digit, is_binary_digit, is_not_lf}
use Rattle.rules.specs.Utf8.{UTF8-octets}
use Rattle.rules.specs.Kinds.{HoleOpen, is_quote_open, is_format, is_triple}
use Rattle.rules.specs.Step.{Step, found, stop, is_underscore, is_digit_or_underscore, int_length, exponent_mark, exponent, fraction, decimal, prefixed, number, identifier_length, identifier, whitespace, closer, monograph, punctuation, outside, unicode_delim, unicode4, single_escape, is_inner, closes_quote, inside, step}
use Rattle.rules.proofs.Text.{decide, either, is_code}
use Rattle.rules.proofs.Runs.{run_drop, run_wider}
use Rattle.rules.proofs.Bounds.{size, give_back-le, begins-longer}
use Rattle.laws.proofs.Cuts.{Cut, is_ascii, cut-ascii, cut-run, cut_on}
use Rattle.rules.proofs.Steps.{length-of, refuted}

-- ASCII bytes
-- if the byte passes the test x, it is ASCII
record Low (b : ℕ) (x : Bool) : Type 0 where
  low : x ≡ true → is_ascii b ≡ true

-- a test for one ASCII byte
low-eqb : (b c : ℕ) → is_ascii c ≡ true → Low b (eqb b c)
low-eqb b c h = record { low = λ e. rw (eqb-true b c e) h }

-- a range up to an ASCII character
low-within : (first last : Char) (b : ℕ) → is_ascii (code last) ≡ true → Low b (within first last b)
low-within first last b h = record {
  low = λ e.
      let most = leb-true b (code last) ((and-eq-true_iff (leb (code first) b) (leb b (code last))).0 e).1 in
      le-leb b 127 (omega (arith, leb-true (code last) 127 h));
}

-- one of two tests
low_or : (b : ℕ) (x y : Bool) → Low b x → Low b y → Low b (x || y)
low_or b x y p q = record { low = λ e. either x y e p.low q.low }

-- every byte that passes the test is ASCII
abbrev Lows : (ℕ → Bool) → Type 0
Lows p = (b : ℕ) → Low b (p b)

low-whitespace : Lows is_whitespace
unfolding is_whitespace
low-whitespace b = search (low_or, low-eqb)

low_digit : Lows is_digit
unfolding is_digit
low_digit b = low-within "0" "9" b refl

low-letter : Lows is_letter
unfolding is_letter
low-letter b = search (low_or, low-within, low-eqb)

low-punctuation : Lows is_punctuation
unfolding is_punctuation
low-punctuation b = search (low_or, low-within)

low-digit_or_underscore : Lows is_digit_or_underscore
unfolding is_digit_or_underscore
low-digit_or_underscore b = search (low_or, low_digit, low-eqb)

low-identifier_byte : Lows is_identifier_byte
unfolding is_identifier_byte
low-identifier_byte b = search (low_or, low-letter, low_digit, low-eqb)

low-hex_digit : Lows is_hex_digit
unfolding is_hex_digit
low-hex_digit b = search (low_or, low_digit, low-within)

low-binary_digit : Lows is_binary_digit
unfolding is_binary_digit
low-binary_digit b = low-within "0" "1" b refl

-- How many ASCII bytes stand at the front of a text
abbrev asciis : List ℕ → ℕ
asciis = run is_ascii

-- a run of ASCII bytes is at most as long
asciis-run : (p : ℕ → Bool) → Lows p → (s : List ℕ) → run p s ≤ asciis s
asciis-run p l s = run_wider s (λ b. (l b).low)

-- a first byte that passes such a test is one of them
asciis-starts : (p : ℕ → Bool) → Lows p → (s : List ℕ) → starts p s ≡ true → 1 ≤ asciis s
asciis-starts p l [] e = absurd (false≢true e)
asciis-starts p l (b ∷ s) e = rw ((l b).low e) (omega arith)

-- so is each byte of a quoted ASCII text
asciis-begins : (t : String) (s : List ℕ) → all is_ascii (ascii t) ≡ true → begins t s ≡ true → size t ≤ asciis s
asciis-begins S.[] s a e = omega arith
asciis-begins (S.◌∷◌ c t) [] a e = absurd (false≢true e)
asciis-begins (S.◌∷◌ c t) (b ∷ s) a e =
    let here = (and-eq-true_iff (is c b) (begins t s)).0 e in
    let low = (and-eq-true_iff (is_ascii (code c)) (all is_ascii (ascii t))).0 a in
    rw (is_code c b here.0, low.0) (omega (arith, asciis-begins t s low.1 here.1))

-- behind some of them, the others
asciis-drop : (n : ℕ) (s : List ℕ) → n ≤ asciis s → asciis s ≡ n + asciis (drop n s)
asciis-drop n s h = run_drop is_ascii n s h

-- some of them and then a run of ASCII bytes
asciis-after : (p : ℕ → Bool) → Lows p → (n : ℕ) (s : List ℕ) → n ≤ asciis s → n + run p (drop n s) ≤ asciis s
asciis-after p l n s h = omega (arith, asciis-drop n s h, asciis-run p l (drop n s))

-- Steps
-- a lexeme that is found at the front of a UTF-8 text ends between two characters
record Seam (s : List ℕ) (x : Step) : Type 0 where
  seam : (k n : ℕ) → x ≡ found k n → UTF8-octets s → Cut s n

-- a lexeme, by its cut
seam-found : (s : List ℕ) (k n : ℕ) → (UTF8-octets s → Cut s n) → Seam s (found k n)
seam-found s k n f = record { seam = λ k n e o. rw (← length-of e) (f o) }

-- a lexeme of ASCII bytes
seam-ascii : (s : List ℕ) (k n : ℕ) → n ≤ asciis s → Seam s (found k n)
seam-ascii s k n h = seam-found s k n (cut-ascii n s h)

-- a lexeme within a quoted ASCII text
seam-quoted : (t : String) (s : List ℕ) (k n : ℕ) → all is_ascii (ascii t) ≡ true → begins t s ≡ true → leb n (size t) ≡ true → Seam s (found k n)
seam-quoted t s k n a e h = seam-ascii s k n (omega (arith, asciis-begins t s a e, leb-true n (size t) h))

-- a refusal finds none
seam-stop : (s : List ℕ) (number from n : ℕ) → Seam s (stop number from n)
seam-stop s number from n = record { seam = λ k n e o. refuted e }

-- a branch, by its test
seam-cond : (s : List ℕ) (b : Bool) (x y : Step) → (b ≡ true → Seam s x) → (b ≡ false → Seam s y) → Seam s (cond b x y)
seam-cond s true x y p q = p refl
seam-cond s false x y p q = q refl

-- Numbers
-- e or E, and perhaps a sign, are ASCII
mark-asciis : (s : List ℕ) → begins "e" s || begins "E" s ≡ true → exponent_mark s ≤ asciis s
unfolding exponent_mark
mark-asciis s e =
    let one : 1 ≤ asciis s = either (begins "e" s) (begins "E" s) e (asciis-begins "e" s refl) (asciis-begins "E" s refl) in
    let rest = asciis-drop 1 s one in
    decide (begins "+" (drop 1 s) || begins "-" (drop 1 s))
    (λ f.
    let two : 1 ≤ asciis (drop 1 s) = either (begins "+" (drop 1 s)) (begins "-" (drop 1 s)) f (asciis-begins "+" (drop 1 s) refl) (asciis-begins "-" (drop 1 s) refl) in
    rw f (omega arith))
    (λ f. rw f one)

-- s is what is left of the text t after n ASCII bytes
seam-exponent : (t : List ℕ) (n : ℕ) (s : List ℕ) → n + asciis s ≤ asciis t → Seam t (exponent n s)
unfolding exponent
seam-exponent t n s h =
    seam-cond t (begins "e" s || begins "E" s) _ _
    (λ e. seam-cond t (starts is_digit (drop (exponent_mark s) s)) _ _
    (λ f. seam-ascii t _ _ (omega (arith, asciis-after is_digit_or_underscore low-digit_or_underscore (exponent_mark s) s (mark-asciis s e))))
    (λ f. seam-stop t _ _ _))
    (λ e. seam-ascii t _ n (omega arith))

seam-fraction : (t : List ℕ) (n : ℕ) (s : List ℕ) → n + asciis s ≤ asciis t → Seam t (fraction n s)
unfolding fraction
seam-fraction t n s h =
    let m : ℕ = suc (run is_digit_or_underscore (drop 1 s)) in
    seam-cond t (begins "." s) _ _
    (λ e. seam-cond t (starts is_digit (drop 1 s)) _ _
    (λ f.
    let most : m ≤ asciis s = omega (arith, asciis-after is_digit_or_underscore low-digit_or_underscore 1 s (asciis-begins "." s refl e)) in
    seam-exponent t (n + m) (drop m s) (omega (arith, asciis-drop m s most)))
    (λ f. seam-stop t _ _ _))
    (λ e. seam-exponent t n s h)

-- the first digits are ASCII
int-asciis : (s : List ℕ) → int_length s ≤ asciis s
unfolding int_length
int-asciis s = decide (begins "0" s) (λ e. rw e (asciis-begins "0" s refl e)) (λ e. rw e (asciis-run is_digit_or_underscore low-digit_or_underscore s))

seam-prefixed : (kind refusal : ℕ) (p : ℕ → Bool) → Lows p → (s : List ℕ) → 2 ≤ asciis s → Seam s (prefixed kind refusal p s)
unfolding prefixed
seam-prefixed kind refusal p l s h =
    seam-cond s (eqb (run is_underscore (drop 2 s)) (run (λ b. p b || is_underscore b) (drop 2 s))) _ _
    (λ e. seam-stop s _ _ _)
    (λ e. seam-ascii s _ _ (asciis-after (λ b. p b || is_underscore b) (λ b. low_or b (p b) (is_underscore b) (l b) (low-eqb b (code "_") refl)) 2 s h))

seam-number : (s : List ℕ) → Seam s (number s)
unfolding number decimal
seam-number s =
    seam-cond s (begins "0b" s) _ _ (λ e. seam-prefixed _ _ is_binary_digit low-binary_digit s (asciis-begins "0b" s refl e)) (λ e.
    seam-cond s (begins "0x" s) _ _ (λ e. seam-prefixed _ _ is_hex_digit low-hex_digit s (asciis-begins "0x" s refl e)) (λ e.
    seam-fraction s (int_length s) (drop (int_length s) s) (omega (arith, asciis-drop (int_length s) s (int-asciis s)))))

-- Identifiers and whitespace
seam-identifier : (s : List ℕ) → Seam s (identifier s)
unfolding identifier identifier_length
seam-identifier s = seam-ascii s _ _ (omega (arith, give_back-le s (run is_identifier_byte s), asciis-run is_identifier_byte low-identifier_byte s))

seam-whitespace : (s : List ℕ) → Seam s (whitespace s)
unfolding whitespace
seam-whitespace s = seam-ascii s _ _ (asciis-run is_whitespace low-whitespace s)

-- Punctuation
seam-closer : (s : List ℕ) (innermost opener kind : ℕ) → 1 ≤ asciis s → Seam s (closer innermost opener kind)
unfolding closer
seam-closer s innermost opener kind h = search (seam-cond, seam-ascii, seam-stop)

seam-monograph : (innermost : ℕ) (s : List ℕ) → 1 ≤ asciis s → Seam s (monograph innermost s)
unfolding monograph
seam-monograph innermost s h = search (seam-cond, seam-closer, seam-ascii, seam-stop) depth 60 fits 3000

seam-punctuation : (innermost : ℕ) (s : List ℕ) → 1 ≤ asciis s → Seam s (punctuation innermost s)
unfolding punctuation
seam-punctuation innermost s h = search (seam-cond, seam-quoted, seam-monograph) depth 60 fits 3000

-- Outside strings
-- a byte over 127 is no LF
high-line : (b : ℕ) → 127 < b → is_not_lf b ≡ true
unfolding is_not_lf
high-line b h = decide (is "\n" b) (λ e. absurd (omega (arith, is_code "\n" b e))) (λ e. rw e)

-- a comment or shebang goes on to before LF
seam-line : (s : List ℕ) (k : ℕ) → Seam s (found k (run is_not_lf s))
seam-line s k = seam-found s k _ (cut-run is_not_lf high-line)

seam-outside : (innermost : ℕ) (s : List ℕ) → Seam s (outside innermost s)
unfolding outside
seam-outside innermost s =
    seam-cond s (begins "#!" s) _ _ (λ e. seam-line s _) (λ e.
    seam-cond s (begins "//" s) _ _ (λ e. seam-line s _) (λ e.
    seam-cond s (begins "f\"\"\"" s) _ _ (λ e. seam-quoted "f\"\"\"" s _ 4 refl e refl) (λ e.
    seam-cond s (begins "\"\"\"" s) _ _ (λ e. seam-quoted "\"\"\"" s _ 3 refl e refl) (λ e.
    seam-cond s (begins "f\"" s) _ _ (λ e. seam-quoted "f\"" s _ 2 refl e refl) (λ e.
    seam-cond s (begins "\"" s) _ _ (λ e. seam-quoted "\"" s _ 1 refl e refl) (λ e.
    seam-cond s (begins "}" s && eqb innermost HoleOpen) _ _ (λ e. seam-quoted "}" s _ 1 refl ((and-eq-true_iff (begins "}" s) (eqb innermost HoleOpen)).0 e).0 refl) (λ e.
    seam-cond s (starts is_digit s) _ _ (λ e. seam-number s) (λ e.
    seam-cond s (starts is_letter s) _ _ (λ e. seam-identifier s) (λ e.
    seam-cond s (starts is_whitespace s) _ _ (λ e. seam-whitespace s) (λ e.
    seam-cond s (starts is_punctuation s) _ _ (λ e. seam-punctuation innermost s (asciis-starts is_punctuation low-punctuation s e)) (λ e.
    search (seam-cond, seam-stop))))))))))))

-- In a string
seam-unicode_delim : (s : List ℕ) → 3 ≤ asciis s → Seam s (unicode_delim s)
unfolding unicode_delim
seam-unicode_delim s h =
    let n : ℕ = 3 + run is_hex_digit (drop 3 s) in
    seam-cond s (begins "}" (drop n s)) _ _
    (λ e.
    let most : n ≤ asciis s = asciis-after is_hex_digit low-hex_digit 3 s h in
    seam-ascii s _ (suc n) (omega (arith, asciis-drop n s most, asciis-begins "}" (drop n s) refl e)))
    (λ e. seam-stop s _ _ _)

seam-unicode4 : (s : List ℕ) → 2 ≤ asciis s → Seam s (unicode4 s)
unfolding unicode4
seam-unicode4 s h =
    seam-cond s (leb 4 (run is_hex_digit (drop 2 s))) _ _
    (λ e. seam-ascii s _ 6 (omega (arith, asciis-after is_hex_digit low-hex_digit 2 s h, leb-true 4 (run is_hex_digit (drop 2 s)) e)))
    (λ e. seam-stop s _ _ _)

-- `\` and a byte that is not over 127 are ASCII
asciis-escaped : (s : List ℕ) → begins "\\" s ≡ true → same "\\" s ≡ false → starts is_over127 (drop 1 s) ≡ false → 2 ≤ asciis s
unfolding is_over127
asciis-escaped [] e f g = absurd (false≢true e)
asciis-escaped (a ∷ []) e f g = absurd (omega (arith, begins-longer "\\" (a ∷ []) e f))
asciis-escaped (a ∷ b ∷ s) e f g =
    let first : a ≡ code "\\" = is_code "\\" a ((and-eq-true_iff (is "\\" a) true).0 e).0 in
    rw (first, le-leb b 127 (ltb-false 127 b g)) (omega arith)

seam-single_escape : (s : List ℕ) → begins "\\" s ≡ true → Seam s (single_escape s)
unfolding single_escape
seam-single_escape s h =
    seam-cond s (same "\\" s) _ _ (λ e. seam-stop s _ _ _) (λ e.
    seam-cond s (begins "\r" (drop 1 s) || begins "\n" (drop 1 s)) _ _ (λ f. seam-stop s _ _ _) (λ f.
    seam-cond s (starts is_over127 (drop 1 s)) _ _ (λ g. seam-stop s _ _ _) (λ g.
    seam-ascii s _ 2 (asciis-escaped s h e g))))

-- the closing quote is ASCII
quote-asciis : (quote : ℕ) (s : List ℕ) → closes_quote quote s ≡ true → cond (is_triple quote) 3 1 ≤ asciis s
unfolding closes_quote
quote-asciis quote s = go (is_triple quote)
  where
    go : (t : Bool) → cond t (begins "\"\"\"" s) (begins "\"" s) ≡ true → cond t 3 1 ≤ asciis s
    go true e = asciis-begins "\"\"\"" s refl e
    go false e = asciis-begins "\"" s refl e

-- a byte over 127 is no ASCII character
not-high : (c : Char) (b : ℕ) → is_ascii (code c) ≡ true → 127 < b → is c b ≡ false
not-high c b l h = decide (is c b) (λ e. absurd (omega (arith, is_code c b e, leb-true (code c) 127 l))) (λ e. e)

-- a byte over 127 goes on an inner part
high-inner : (quote b : ℕ) → 127 < b → is_inner quote b ≡ true
unfolding is_inner
high-inner quote b h = go (is_format quote)
  where
    go : (f : Bool) → not (is "\\" b || is "\"" b || is "\n" b || f && is "{" b) ≡ true
    go true = rw (not-high "\\" b refl h, not-high "\"" b refl h, not-high "\n" b refl h, not-high "{" b refl h)
    go false = rw (not-high "\\" b refl h, not-high "\"" b refl h, not-high "\n" b refl h)

seam-inside : (quote : ℕ) (s : List ℕ) → 0 < length s → Seam s (inside quote s)
unfolding inside
seam-inside quote s h =
    seam-cond s (begins "\\u{" s) _ _ (λ e. seam-unicode_delim s (asciis-begins "\\u{" s refl e)) (λ e.
    seam-cond s (begins "\\u" s) _ _ (λ e. seam-unicode4 s (asciis-begins "\\u" s refl e)) (λ e.
    seam-cond s (begins "\\" s) _ _ (seam-single_escape s) (λ e.
    seam-cond s (closes_quote quote s) _ _ (λ e. seam-ascii s _ _ (quote-asciis quote s e)) (λ e.
    seam-cond s (is_format quote && begins "{" s) _ _ (λ e. seam-quoted "{" s _ 1 refl ((and-eq-true_iff (is_format quote) (begins "{" s)).0 e).1 refl) (λ e.
    seam-found s _ _ (cut_on (is_inner quote) (high-inner quote) h))))))

seam-step : (innermost : ℕ) (s : List ℕ) → 0 < length s → Seam s (step innermost s)
unfolding step
seam-step innermost s h = seam-cond s (is_quote_open innermost) _ _ (λ e. seam-inside innermost s h) (λ e. seam-outside innermost s)

-- a lexeme of a UTF-8 text ends between two characters
pub found-cut : (innermost : ℕ) (s : List ℕ) (k n : ℕ) → 0 < length s → step innermost s ≡ found k n → UTF8-octets s → Cut s n
found-cut innermost s k n some_left e o = (seam-step innermost s some_left).seam k n e o
