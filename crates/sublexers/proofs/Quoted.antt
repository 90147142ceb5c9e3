-- Laws of a step in a string by position, as the code tells its cases apart: escapes, the closing quote, the hole, the inner part. The text is a first byte and what follows it.
use Prim.Native.Nat.{ℕ, zero, suc, ◌+◌, ◌≤◌, ◌<◌, max}
use Prim.Native.Char.{Char, code}
use Prim.Native.String.{String}
use Prim.Native.String as S
use mathlib.Core.Path.{◌≡◌, refl, sym, ◌∙◌}
use mathlib.Core.List.{List, [], ◌∷◌}
use mathlib.Core.Bool.{Bool, true, false, cond, not, ◌&&◌, ◌||◌, and-true, and-false, false≢true}
use native.Mathlib.Omega.{arith}
use native.Mathlib.Nat.{add-zero, add_assoc}
use Rattle.std.proofs.lemmas.Grind.{common_steps}
use lib.Dec.{eqb}
use lib.ListN.{length, drop, get_or, drop_of_length-le}
use lib.Seq.{drop-drop}
use borrow.Author.Tests.{le-leb, lt-leb, lt-ltb, le-ltb, ne_eqb}
use Rattle.rules.specs.Text.{is, begins, same, starts, run}
use Rattle.rules.specs.Bytes.{is_hex_digit, is_over127}
use Rattle.rules.specs.Utf8.{is_tail}
use Rattle.rules.specs.Refusals.{NoClosingBrace, FewHexDigits, EscapeAtEnd, EscapedLineEnd, EscapedNotAscii}
use Rattle.rules.specs.Kinds.{is_format, is_triple, QuoteClose, StringInner, Single, Unicode4, UnicodeDelim, HoleOpen}
use Rattle.rules.specs.Step.{found, stop as stopped, unicode_delim, unicode4, single_escape, is_inner, inside, closes_quote}
use Rattle.rules.proofs.Text.{decide, is_code}
use Rattle.rules.proofs.Runs.{starts-at, begins-at, begins-more, run-same, run-stop, drop-byte, passes-inside}
use Rattle.scan.specs.Classes.{is_inner_for}
use Rattle.sublexers.specs.Outcome.{lexeme_to, refused_at, outcome}
use Rattle.sublexers.specs.ByClass.{backslash, escaped}
use Rattle.sublexers.specs.Quotes.{stop_of, inner_by, inside_by}
use Rattle.sublexers.proofs.Numbers.{some_inside}

module _ (t : List ℕ) (at b : ℕ) where
  -- what follows the first byte is the text's
  behind : (n : ℕ) → 0 < n → drop n (b ∷ drop (at + 1) t) ≡ drop (at + n) t
  behind zero h = absurd (omega arith)
  behind (suc m) h =
      let there : at + 1 + m ≡ at + suc m = omega arith in
      rw (drop-drop m (at + 1) t, there) refl

  first_more : (c : Char) (w : String) → begins (S.◌∷◌ c w) (b ∷ drop (at + 1) t) ≡ (is c b && begins w (drop (at + 1) t))
  first_more c w = refl

  first-is : (c : Char) → begins (S.◌∷◌ c S.[]) (b ∷ drop (at + 1) t) ≡ is c b
  first-is c = first_more c S.[] ∙ and-true _

  starts_first : (p : ℕ → Bool) → starts p (b ∷ drop (at + 1) t) ≡ p b
  starts_first p = refl

  -- `\u{` and hex digits up to `end`, by the byte there
  pub delim_at : (end : ℕ) → end ≡ at + 3 + run is_hex_digit (drop (at + 3) t) → outcome at (unicode_delim (b ∷ drop (at + 1) t)) ≡ cond (is "}" (get_or t end 0)) (lexeme_to UnicodeDelim (end + 1)) (refused_at NoClosingBrace end end)
  unfolding unicode_delim
  delim_at end q =
      let n : ℕ = 3 + run is_hex_digit (drop (at + 3) t) in
      let there : at + n ≡ end = omega arith in
      let next : at + suc n ≡ end + 1 = omega arith in
      rw (behind 3 (omega arith), behind n (omega arith), there, begins-at "}" t end refl)
      (decide (is "}" (get_or t end 0)) (λ f. rw (f, next)) (λ f. rw (f, there, add-zero)))

  -- `\u` and hex digits up to `end`: four and more
  pub four_digits : (end : ℕ) → end ≡ at + 2 + run is_hex_digit (drop (at + 2) t) → at + 6 ≤ end → lexeme_to Unicode4 (at + 6) ≡ outcome at (unicode4 (b ∷ drop (at + 1) t))
  unfolding unicode4
  four_digits end q h = rw (behind 2 (omega arith), le-leb 4 (run is_hex_digit (drop (at + 2) t)) (omega arith))

  -- or fewer
  pub four_few : (end : ℕ) → end ≡ at + 2 + run is_hex_digit (drop (at + 2) t) → end < at + 6 → refused_at FewHexDigits at end ≡ outcome at (unicode4 (b ∷ drop (at + 1) t))
  unfolding unicode4
  four_few end q h =
      let there : at + (2 + run is_hex_digit (drop (at + 2) t)) ≡ end = omega arith in
      rw (behind 2 (omega arith), lt-leb 4 (run is_hex_digit (drop (at + 2) t)) (omega arith), add-zero, there)

  -- `\` at the text's end
  pub single_end : b ≡ backslash → length t ≤ at + 1 → refused_at EscapeAtEnd at (at + 1) ≡ outcome at (single_escape (b ∷ drop (at + 1) t))
  unfolding single_escape
  single_end q h =
      let last : same "\\" (b ∷ drop (at + 1) t) ≡ true = rw (q, drop_of_length-le t h) refl in
      rw (last, add-zero)

  -- `\` and a byte, by that byte
  single-at : at + 1 < length t → single_escape (b ∷ drop (at + 1) t) ≡ cond (is "\r" (get_or t (at + 1) 0) || is "\n" (get_or t (at + 1) 0)) (stopped EscapedLineEnd 0 2) (cond (is_over127 (get_or t (at + 1) 0)) (stopped EscapedNotAscii 0 (2 + run is_tail (drop (at + 2) t))) (found Single 2))
  unfolding single_escape is_over127
  single-at h =
      let more : same "\\" (b ∷ drop (at + 1) t) ≡ false = rw (drop-byte t (at + 1) (get_or t (at + 1) 0) h refl) (and-false (is "\\" b)) in
      rw (more, behind 1 (omega arith), behind 2 (omega arith), begins-at "\r" t (at + 1) refl, begins-at "\n" t (at + 1) refl, starts-at is_over127 t (at + 1) refl)

  -- a line end
  pub single_line : at + 1 < length t → (is "\r" (get_or t (at + 1) 0) || is "\n" (get_or t (at + 1) 0)) ≡ true → refused_at EscapedLineEnd at (at + 2) ≡ outcome at (single_escape (b ∷ drop (at + 1) t))
  single_line h q = rw (single-at h, q, add-zero)

  -- a byte over 127
  pub single_over : at + 1 < length t → (is "\r" (get_or t (at + 1) 0) || is "\n" (get_or t (at + 1) 0)) ≡ false → 127 < get_or t (at + 1) 0 → refused_at EscapedNotAscii at (at + 2 + run is_tail (drop (at + 2) t)) ≡ outcome at (single_escape (b ∷ drop (at + 1) t))
  unfolding is_over127
  single_over h q o = rw (single-at h, q, lt-ltb _ _ o, add-zero, ← add_assoc)

  -- any other byte
  pub single_one : at + 1 < length t → (is "\r" (get_or t (at + 1) 0) || is "\n" (get_or t (at + 1) 0)) ≡ false → get_or t (at + 1) 0 ≤ 127 → lexeme_to Single (at + 2) ≡ outcome at (single_escape (b ∷ drop (at + 1) t))
  unfolding is_over127
  single_one h q o = rw (single-at h, q, le-ltb _ _ o)

  -- an escape by the two bytes after its `\`
  pub escaped_at : b ≡ backslash → escaped (b ∷ drop (at + 1) t) ≡ cond (is "u" (get_or t (at + 1) 0)) (cond (is "{" (get_or t (at + 2) 0)) (unicode_delim (b ∷ drop (at + 1) t)) (unicode4 (b ∷ drop (at + 1) t))) (single_escape (b ∷ drop (at + 1) t))
  unfolding escaped
  escaped_at q =
      let next : at + 1 + 1 ≡ at + 2 = omega arith in
      let here : is "\\" b ≡ true = rw q refl in
      rw (first_more "\\" "u{", first_more "\\" "u", here, begins-more "u" "{" t (at + 1) refl, begins-at "u" t (at + 1) refl, next, begins-at "{" t (at + 2) refl) (decide (is "u" (get_or t (at + 1) 0)) (λ f. rw f) (λ f. rw f))

  -- three quotes by the two bytes after the first
  three-quotes : b ≡ code "\"" → begins "\"\"\"" (b ∷ drop (at + 1) t) ≡ (is "\"" (get_or t (at + 1) 0) && is "\"" (get_or t (at + 2) 0))
  three-quotes q =
      let next : at + 1 + 1 ≡ at + 2 = omega arith in
      let here : is "\"" b ≡ true = rw q refl in
      rw (first_more "\"" "\"\"", here, begins-more "\"" "\"" t (at + 1) refl, next, begins-at "\"" t (at + 2) refl)

  module _ (end : ℕ) (triple : Bool) where
    -- the step at `\`
    pub at_escape : b ≡ backslash → inside_by end triple (b ∷ drop (at + 1) t) ≡ escaped (b ∷ drop (at + 1) t)
    unfolding inside_by
    at_escape q =
        let here : is "\\" b ≡ true = rw q refl in
        rw (first-is "\\", here)

    -- at a quote, by the code's test for one that closes
    pub at_quote : b ≡ code "\"" → inside_by end triple (b ∷ drop (at + 1) t) ≡ cond (not triple || is "\"" (get_or t (at + 1) 0) && is "\"" (get_or t (at + 2) 0)) (found QuoteClose (cond triple 3 1)) (inner_by end (b ∷ drop (at + 1) t))
    unfolding inside_by
    at_quote q =
        let other : is "\\" b ≡ false = rw q refl in
        let here : is "\"" b ≡ true = rw q refl in
        rw (first-is "\\", first-is "\"", three-quotes q, other, here)

    -- at any other byte
    pub at_other : (b ≡ backslash → ⊥) → (b ≡ code "\"" → ⊥) → inside_by end triple (b ∷ drop (at + 1) t) ≡ cond (eqb b end) (found HoleOpen 1) (inner_by end (b ∷ drop (at + 1) t))
    unfolding inside_by
    at_other q r = rw (first-is "\\", first-is "\"", ne_eqb b (code "\\") q, ne_eqb b (code "\"") r, starts_first (λ x. eqb x end))

    -- where an inner part ends
    pub inner_at : outcome at (inner_by end (b ∷ drop (at + 1) t)) ≡ lexeme_to StringInner (at + 1 + run (is_inner_for end) (drop (at + 1) t))
    inner_at =
        let there : at + suc (run (is_inner_for end) (drop (at + 1) t)) ≡ at + 1 + run (is_inner_for end) (drop (at + 1) t) = omega arith in
        rw (behind 1 (omega arith), there)

  -- an inner part before a line end is one byte long, by the code's test for an empty line
  pub line_at : (end : ℕ) → is "\n" b && is "\n" (get_or t (at + 1) 0) ≡ true → at + 1 + run (is_inner_for end) (drop (at + 1) t) ≡ at + 1
  unfolding is_inner_for
  line_at end q =
      let line : is "\n" (get_or t (at + 1) 0) ≡ true = decide (is "\n" b) (λ f. rw f at q) (λ f. absurd (false≢true (rw f at q))) in
      let ends : is_inner_for end (get_or t (at + 1) 0) ≡ false = rw (is_code "\n" (get_or t (at + 1) 0) line) refl in
      rw (run-stop (is_inner_for end) t (at + 1) ends, add-zero)

-- a closing quote of three bytes ends within the text
pub close_end : (t : List ℕ) (at : ℕ) (triple : Bool) → not triple || is "\"" (get_or t (at + 1) 0) && is "\"" (get_or t (at + 2) 0) ≡ true → at + cond triple 3 1 ≤ max (at + 1) (length t)
close_end t at true q =
    let last : is "\"" (get_or t (at + 2) 0) ≡ true = decide (is "\"" (get_or t (at + 1) 0)) (λ f. rw f at q) (λ f. absurd (false≢true (rw f at q))) in
    omega (arith, passes-inside (is "\"") t (at + 2) refl last)
close_end t at false q = omega arith

-- The rules' step in a string. A byte goes on an inner part where it does by the string's stop: in a plain one the stop is the quote once more
inner-same : (quote b : ℕ) → is_inner_for (stop_of quote) b ≡ is_inner quote b
unfolding is_inner is_inner_for
inner-same quote b = decide (is_format quote) (λ f. rw f) (λ f. rw f (sym (go (is "\\" b) (is "\"" b) (is "\n" b))))
  where
    go : (x y z : Bool) → not (x || y || z || false) ≡ not (x || y || z || y)
    go true y z = refl
    go false true z = refl
    go false false true = refl
    go false false false = refl

-- at `\`, at a quote, at any other byte
in-escape : (quote : ℕ) (s : List ℕ) → begins "\\" s ≡ true → inside quote s ≡ escaped s
unfolding inside escaped
in-escape quote s e = rw e

cond_same : (t x : Bool) → cond t x x ≡ x
cond_same true x = refl
cond_same false x = refl

in-quote : (quote : ℕ) (s : List ℕ) → begins "\"" s ≡ true → inside quote s ≡ cond (is_triple quote) (cond (begins "\"\"\"" s) (found QuoteClose 3) (found StringInner (suc (run (is_inner quote) (drop 1 s))))) (found QuoteClose 1)
unfolding inside closes_quote
in-quote quote [] e = absurd (false≢true e)
in-quote quote (b ∷ s) e =
    rw (is_code "\"" b (rw and-true at e))
    (decide (is_triple quote) (λ t. rw (t, and-false)) (λ t. rw t))

in-other : (quote : ℕ) (s : List ℕ) → begins "\\" s ≡ false → begins "\"" s ≡ false → inside quote s ≡ cond (is_format quote && begins "{" s) (found HoleOpen 1) (found StringInner (suc (run (is_inner quote) (drop 1 s))))
unfolding inside closes_quote
in-other quote [] e f = rw cond_same
in-other quote (b ∷ s) e f =
    let t : is "\\" b ≡ false = rw and-true at e in
    let u : is "\"" b ≡ false = rw and-true at f in
    rw (t, u, cond_same)

-- the byte of a text that begins with no quote is the stop where it opens a hole
hole-same : (quote : ℕ) (s : List ℕ) → begins "\"" s ≡ false → starts (λ b. eqb b (stop_of quote)) s ≡ (is_format quote && begins "{" s)
hole-same quote [] e = rw and-false refl
hole-same quote (b ∷ s) e =
    let u : is "\"" b ≡ false = rw and-true at e in
    decide (is_format quote) (λ f. rw (f, and-true)) (λ f. rw (f, u))

pub inside-by : (quote : ℕ) (s : List ℕ) → inside_by (stop_of quote) (is_triple quote) s ≡ inside quote s
unfolding inside_by
inside-by quote s =
    decide (begins "\\" s)
    (λ e. rw (e, in-escape quote s e))
    (λ e. decide (begins "\"" s)
    (λ f. rw (e, f, in-quote quote s f, run-same (drop 1 s) (inner-same quote))
    (decide (is_triple quote) (λ t. rw t (decide (begins "\"\"\"" s) (λ q. rw q) (λ q. rw q))) (λ t. rw t)))
    (λ f. rw (e, f, in-other quote s e f, hole-same quote s f, run-same (drop 1 s) (inner-same quote)) refl))

-- a step in a string, by the bytes behind its first
pub ruleset quoted_steps = (common_steps, delim_at, four_digits, four_few, single_end, single_line, single_over, single_one, escaped_at, begins-at, some_inside, add-zero)

-- a step in a string, by its first byte
pub ruleset by_first = (common_steps, at_escape, at_quote, at_other, inner_at, line_at, close_end, passes-inside)
