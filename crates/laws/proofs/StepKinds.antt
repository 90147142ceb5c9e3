-- What a step gives: which kinds in a string and outside of strings, and how long whitespace, comments and inner parts are. By the step's branches.
use Prim.Native.Nat.{ℕ, suc}
use mathlib.Core.Path.{◌≡◌, refl, sym, ◌∙◌}
use mathlib.Core.List.{List, [], ◌∷◌}
use mathlib.Core.Bool.{Bool, true, false, cond, not, ◌&&◌, ◌||◌, false≢true}
use native.Mathlib.Omega.{arith}
use borrow.Author.Tests.{not-true, eqb-true, eq-eqb}
use lib.Dec.{leb, eqb}
use lib.ListN.{take, drop}
use Rattle.rules.specs.Text.{is, begins, starts, run, count}
use Rattle.rules.specs.Bytes.{is_whitespace, is_digit, is_letter, is_not_lf}
use Rattle.rules.specs.Kinds.{Space, Blank, Shebang, LineComment, QuoteClose, StringInner, HoleOpen, HoleClose, LParen, RParen, LBracket, RBracket, LBrace, RBrace, between, is_space, is_quote_open, is_format, is_triple}
use Rattle.rules.specs.Step.{Step, found, stop, exponent, fraction, decimal, prefixed, number, keyword_or_ident, identifier, whitespace, closer, monograph, punctuation, outside, unicode_delim, unicode4, single_escape, is_inner, closes_quote, inside, step}
use Rattle.rules.proofs.Text.{decide, branch, either, and_left, and_right}
use Rattle.rules.proofs.Steps.{kind-of, length-of}

-- a step, if it is no refusal, gives a kind and a length that pass a test
record Gives (test : (kind length : ℕ) → Bool) (r : Step) : Type 0 where
  each : (k n : ℕ) → r ≡ found k n → test k n ≡ true

-- a lexeme, a refusal, a branch, one of two kinds
gives_found : (test : (kind length : ℕ) → Bool) (k n : ℕ) → test k n ≡ true → Gives test (found k n)
gives_found test k n h = record { each = λ k₂ n₂ e. rw (← kind-of e, ← length-of e) h }

gives-stop : (test : (kind length : ℕ) → Bool) (number from n : ℕ) → Gives test (stop number from n)
gives-stop test number from n = record { each = λ k₂ n₂ e. let z : ◌≡◌ {A = ℕ} 0 1 = cc in absurd (omega arith) }

gives-cond : (test : (kind length : ℕ) → Bool) (b : Bool) (x y : Step) → (b ≡ true → Gives test x) → (b ≡ false → Gives test y) → Gives test (cond b x y)
gives-cond test true x y p q = p refl
gives-cond test false x y p q = q refl

gives-either : (test : (kind length : ℕ) → Bool) (b : Bool) (x y n : ℕ) → Gives test (found x n) → Gives test (found y n) → Gives test (found (cond b x y) n)
gives-either test true x y n p q = p
gives-either test false x y n p q = q

-- kinds that only a step in a string gives
abbrev pub is_of_string : ℕ → Bool
is_of_string = between QuoteClose HoleOpen

-- Space and Blank
abbrev pub is_blank_or_space : ℕ → Bool
is_blank_or_space k = is_space k || eqb k Blank

-- what goes on to the line's end
abbrev pub is_line : ℕ → Bool
is_line k = eqb k Shebang || eqb k LineComment

-- a hole is opened in a format string, and a closer closes its opener
abbrev pub may_stand : (innermost kind : ℕ) → Bool
may_stand innermost k =
    cond (eqb k HoleOpen) (is_format innermost) (
    cond (eqb k HoleClose) (eqb innermost HoleOpen) (
    cond (eqb k RParen) (eqb innermost LParen) (
    cond (eqb k RBracket) (eqb innermost LBracket) (
    cond (eqb k RBrace) (eqb innermost LBrace) true))))

-- whitespace, comments and shebangs are as long as their runs
abbrev runs_outside : List ℕ → (kind length : ℕ) → Bool
runs_outside s k n = cond (is_blank_or_space k) (starts is_whitespace s && eqb (run is_whitespace s) n) (cond (is_line k) (eqb (run is_not_lf s) n) true)

abbrev given_outside : (innermost : ℕ) → List ℕ → (kind length : ℕ) → Bool
given_outside innermost s k n = not (is_of_string k) && (may_stand innermost k && runs_outside s k n)

-- an inner part is as long as its run
abbrev runs_inside : (quote : ℕ) → List ℕ → (kind length : ℕ) → Bool
runs_inside quote s k n = cond (eqb k StringInner) (eqb (suc (run (is_inner quote) (drop 1 s))) n) true

abbrev given_inside : (quote : ℕ) → List ℕ → (kind length : ℕ) → Bool
given_inside quote s k n = is_of_string k && (may_stand quote k && runs_inside quote s k n)

-- a number is equal to itself, and a test may be followed by one that passes
same_number : (n : ℕ) → eqb n n ≡ true
same_number n = eq-eqb n n refl

and-true-of : (b : Bool) → b ≡ true → b && true ≡ true
and-true-of b e = rw e

-- Each branch of a step outside strings gives that
identifier-gives : (innermost : ℕ) (s : List ℕ) → Gives (given_outside innermost s) (identifier s)
unfolding identifier keyword_or_ident
identifier-gives innermost s = search (gives-either, gives_found) depth 40

whitespace-gives : (innermost : ℕ) (s : List ℕ) → starts is_whitespace s ≡ true → Gives (given_outside innermost s) (whitespace s)
unfolding whitespace
whitespace-gives innermost s h =
    let n : ℕ = run is_whitespace s in
    let runs : starts is_whitespace s && eqb n n ≡ true = rw (h, same_number n) in
    gives-either (given_outside innermost s) (leb 2 (count (is "\n") (take n s))) Blank Space n
    (gives_found (given_outside innermost s) Blank n runs) (gives_found (given_outside innermost s) Space n runs)

number-gives : (innermost : ℕ) (s : List ℕ) → Gives (given_outside innermost s) (number s)
unfolding number prefixed decimal fraction exponent
number-gives innermost s = search (gives-cond, gives_found, gives-stop) depth 40

closer-gives : (innermost opener kind : ℕ) (s : List ℕ) → is_of_string kind ≡ false → may_stand innermost kind ≡ eqb innermost opener → runs_outside s kind 1 ≡ true →
    Gives (given_outside innermost s) (closer innermost opener kind)
unfolding closer
closer-gives innermost opener kind s o m r = gives-cond (given_outside innermost s) (eqb innermost opener) _ _
    (λ e. gives_found (given_outside innermost s) kind 1 (rw (o, m, e, r)))
    (λ e. search (gives-cond, gives-stop))

punctuation-gives : (innermost : ℕ) (s : List ℕ) → Gives (given_outside innermost s) (punctuation innermost s)
unfolding punctuation monograph
punctuation-gives innermost s = search (closer-gives, gives-cond, gives_found, gives-stop) depth 60

hole-closed : (innermost : ℕ) (s : List ℕ) (b : Bool) → b && eqb innermost HoleOpen ≡ true → Gives (given_outside innermost s) (found HoleClose 1)
hole-closed innermost s b e = gives_found (given_outside innermost s) HoleClose 1 (and-true-of (eqb innermost HoleOpen) (and_right b (eqb innermost HoleOpen) e))

outside-gives : (innermost : ℕ) (s : List ℕ) → Gives (given_outside innermost s) (outside innermost s)
unfolding outside
outside-gives innermost s = search (hole-closed, number-gives, identifier-gives, whitespace-gives, punctuation-gives, same_number, gives-cond, gives_found, gives-stop) depth 40

-- and each of a step in a string
hole-opened : (quote : ℕ) (s : List ℕ) (b : Bool) → is_format quote && b ≡ true → Gives (given_inside quote s) (found HoleOpen 1)
hole-opened quote s b e = gives_found (given_inside quote s) HoleOpen 1 (and-true-of (is_format quote) (and_left (is_format quote) b e))

inside-gives : (quote : ℕ) (s : List ℕ) → Gives (given_inside quote s) (inside quote s)
unfolding inside unicode_delim unicode4 single_escape
inside-gives quote s = search (hole-opened, same_number, gives-cond, gives_found, gives-stop) depth 40

-- The laws. A step is one outside strings or one in a string
pub step-outside : (innermost : ℕ) (s : List ℕ) (r : Step) → is_quote_open innermost ≡ false → step innermost s ≡ r → outside innermost s ≡ r
unfolding step
step-outside innermost s r q e = rw q at e

pub step-inside : (quote : ℕ) (s : List ℕ) (r : Step) → is_quote_open quote ≡ true → step quote s ≡ r → inside quote s ≡ r
unfolding step
step-inside quote s r q e = rw q at e

-- the kinds that a step gives
pub step-kind : (innermost : ℕ) (s : List ℕ) (k n : ℕ) → step innermost s ≡ found k n → (is_of_string k ≡ is_quote_open innermost) × (may_stand innermost k ≡ true)
step-kind innermost s k n e = decide (is_quote_open innermost)
    (λ q.
    let h : given_inside innermost s k n ≡ true = (inside-gives innermost s).each k n (step-inside innermost s (found k n) q e) in
    let stands = and_right (is_of_string k) (may_stand innermost k && runs_inside innermost s k n) h in
    (and_left (is_of_string k) _ h ∙ sym q, and_left (may_stand innermost k) _ stands))
    (λ q.
    let h : given_outside innermost s k n ≡ true = (outside-gives innermost s).each k n (step-outside innermost s (found k n) q e) in
    let stands = and_right (not (is_of_string k)) (may_stand innermost k && runs_outside s k n) h in
    (not-true (is_of_string k) (and_left (not (is_of_string k)) _ h) ∙ sym q, and_left (may_stand innermost k) _ stands))

-- whitespace begins with a byte of whitespace and is the run of them, a comment or shebang is the run to before LF
outside-runs : (innermost : ℕ) (s : List ℕ) (k n : ℕ) → outside innermost s ≡ found k n → runs_outside s k n ≡ true
outside-runs innermost s k n e =
    let h : given_outside innermost s k n ≡ true = (outside-gives innermost s).each k n e in
    and_right (may_stand innermost k) (runs_outside s k n) (and_right (not (is_of_string k)) (may_stand innermost k && runs_outside s k n) h)

-- so whitespace is the run of its bytes
pub whitespace-run : (innermost : ℕ) (s : List ℕ) (k n : ℕ) → outside innermost s ≡ found k n → is_blank_or_space k ≡ true → run is_whitespace s ≡ n
whitespace-run innermost s k n e white =
    let h : starts is_whitespace s && eqb (run is_whitespace s) n ≡ true = rw white at (outside-runs innermost s k n e) in
    eqb-true (run is_whitespace s) n (and_right (starts is_whitespace s) (eqb (run is_whitespace s) n) h)

-- and a comment or shebang the run to before LF
pub line-run : (innermost : ℕ) (s : List ℕ) (k n : ℕ) → outside innermost s ≡ found k n → is_line k ≡ true → run is_not_lf s ≡ n
line-run innermost s k n e line =
    let other : is_blank_or_space k ≡ false = either (eqb k Shebang) (eqb k LineComment) line (λ f. rw (eqb-true k Shebang f) refl) (λ f. rw (eqb-true k LineComment f) refl) in
    eqb-true (run is_not_lf s) n (rw (other, line) at (outside-runs innermost s k n e))

-- the five bytes of whitespace
whitespace-byte : (P : ℕ → Type 0) (b : ℕ) → P 32 → P 9 → P 10 → P 12 → P 13 → is_whitespace b ≡ true → P b
unfolding is_whitespace
whitespace-byte P b space tab lf ff cr w =
    either (is " " b || is "\t" b || is "\n" b || eqb b 0x0C) (is "\r" b) w
    (λ w. either (is " " b || is "\t" b || is "\n" b) (eqb b 0x0C) w
    (λ w. either (is " " b || is "\t" b) (is "\n" b) w
    (λ w. either (is " " b) (is "\t" b) w (λ e. rw (eqb-true b 32 e) space) (λ e. rw (eqb-true b 9 e) tab)) (λ e. rw (eqb-true b 10 e) lf)) (λ e. rw (eqb-true b 12 e) ff)) (λ e. rw (eqb-true b 13 e) cr)

-- outside strings each of them begins whitespace
pub outside-whitespace : (innermost b : ℕ) (s : List ℕ) → is_whitespace b ≡ true → outside innermost (b ∷ s) ≡ whitespace (b ∷ s)
unfolding outside is_whitespace is_digit is_letter
outside-whitespace innermost b s w = whitespace-byte (λ b. outside innermost (b ∷ s) ≡ whitespace (b ∷ s)) b refl refl refl refl refl w

-- the kind of whitespace is Space or Blank
whitespace-kind : (s : List ℕ) (k n : ℕ) → whitespace s ≡ found k n → is_blank_or_space k ≡ true
unfolding whitespace
whitespace-kind s k n e = rw (← kind-of e) (go (leb 2 (count (is "\n") (take (run is_whitespace s) s))))
  where
    go : (b : Bool) → is_blank_or_space (cond b Blank Space) ≡ true
    go true = refl
    go false = refl

-- so a step gives whitespace exactly where the text starts with it
pub whitespace-first : (innermost : ℕ) (s : List ℕ) (k n : ℕ) → outside innermost s ≡ found k n → starts is_whitespace s ≡ is_blank_or_space k
whitespace-first innermost s k n e = decide (is_blank_or_space k)
    (λ white. let h : starts is_whitespace s && eqb (run is_whitespace s) n ≡ true = rw white at (outside-runs innermost s k n e) in and_left (starts is_whitespace s) _ h ∙ sym white)
    (λ other. go s e other ∙ sym other)
  where
    go : (s : List ℕ) → outside innermost s ≡ found k n → is_blank_or_space k ≡ false → starts is_whitespace s ≡ false
    go [] e other = refl
    go (b ∷ s) e other = decide (is_whitespace b)
        (λ w. absurd (false≢true (sym other ∙ whitespace-kind (b ∷ s) k n (sym (outside-whitespace innermost b s w) ∙ e))))
        (λ w. w)

-- an inner part of a string is one byte and the run after it
pub inner-run : (quote : ℕ) (s : List ℕ) (n : ℕ) → inside quote s ≡ found StringInner n → suc (run (is_inner quote) (drop 1 s)) ≡ n
inner-run quote s n e = eqb-true (suc (run (is_inner quote) (drop 1 s))) n ((inside-gives quote s).each StringInner n e)

-- a quote that begins a step of one byte in triple quotes is an inner part
pub quote-in-triple : (quote : ℕ) (s : List ℕ) (k : ℕ) → is_triple quote ≡ true → inside quote (34 ∷ s) ≡ found k 1 → k ≡ StringInner
unfolding inside closes_quote
quote-in-triple quote s k t e = branch (begins "\"\"" s) (rw t at e)
    (λ u f. absurd (omega (arith, length-of f)))
    (λ u f. branch (is_format quote && false) f (λ v g. absurd (false≢true (and_right (is_format quote) false v))) (λ v g. sym (kind-of g)))

-- and in a string of one quote it closes the string
pub quote-in-double : (quote : ℕ) (s : List ℕ) (k n : ℕ) → is_triple quote ≡ false → inside quote (34 ∷ s) ≡ found k n → (QuoteClose ≡ k) × (1 ≡ n)
unfolding inside closes_quote
quote-in-double quote s k n t e = let h : found QuoteClose 1 ≡ found k n = rw t at e in (kind-of h, length-of h)
