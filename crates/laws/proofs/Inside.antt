-- In a string. `-again`: an escape that ends in `w` is found again whatever follows `w`; `-least`: so many bytes at least. And where a closing quote begins.
use Prim.Native.Nat.{ℕ, suc, ◌+◌, ◌≤◌, ◌<◌}
use mathlib.Core.Path.{◌≡◌, refl, sym, ◌∙◌}
use mathlib.Core.List.{List, [], ◌∷◌, ◌++◌}
use mathlib.Core.Bool.{Bool, true, false, cond, ◌&&◌, ◌||◌, and-false, or-true, false≢true}
use native.Mathlib.Nat.{not-suc-le-zero}
use native.Mathlib.Omega.{arith}
use borrow.Author.Tests.{leb-true, le-leb}
use lib.Dec.{leb}
use lib.ListN.{length, drop, length-drop}
use lib.Seq.{drop-append-le}
use Rattle.rules.specs.Text.{is, begins, starts, run, same}
use Rattle.rules.specs.Bytes.{is_over127, is_hex_digit}
use Rattle.rules.specs.Kinds.{is_triple}
use Rattle.rules.specs.Step.{found, unicode_delim, unicode4, single_escape, is_inner, closes_quote}
use Rattle.rules.proofs.Text.{decide, branch}
use Rattle.rules.proofs.Runs.{run-ended}
use Rattle.laws.proofs.Lookahead.{begins-alone, begins-replaced, begins-differs, run_alone, run-least, run-longer}
use Rattle.rules.proofs.Steps.{length-of, refuted}

-- Escapes
-- `\u{`, hex digits and `}`
pub unicode_delim-least : (s : List ℕ) (k l : ℕ) → unicode_delim s ≡ found k l → 4 ≤ l
unfolding unicode_delim
unicode_delim-least s k l e = branch (begins "}" (drop (3 + run is_hex_digit (drop 3 s)) s)) e (λ u e. omega (arith, length-of e)) (λ u e. refuted e)

unicode_delim-same : (w r : List ℕ) → 3 + run is_hex_digit (drop 3 w) < length w → unicode_delim (w ++ r) ≡ unicode_delim w
unfolding unicode_delim
unicode_delim-same w r h =
    let n = 3 + run is_hex_digit (drop 3 w) in
    let more : run is_hex_digit (drop 3 w) < length (drop 3 w) = omega (arith, length-drop 3 w) in
    let next : 1 ≤ length (drop n w) = omega (arith, length-drop n w) in
    rw (drop-append-le 3 w r (omega arith), run-ended is_hex_digit (drop 3 w) r more, drop-append-le n w r (omega arith), begins-alone "}" (drop n w) r next)

pub unicode_delim-again : (w r r' : List ℕ) (k l : ℕ) → l ≤ length w → unicode_delim (w ++ r) ≡ found k l → unicode_delim (w ++ r') ≡ found k l
unfolding unicode_delim
unicode_delim-again w r r' k l most whole =
    branch (begins "}" (drop (3 + run is_hex_digit (drop 3 (w ++ r))) (w ++ r))) whole
    (λ u e.
    let within : 3 + run is_hex_digit (drop 3 (w ++ r)) < length w = omega (arith, length-of e) in
    let next : drop 3 (w ++ r) ≡ drop 3 w ++ r = drop-append-le 3 w r (omega arith) in
    let within2 : 3 + run is_hex_digit (drop 3 w ++ r) < length w = rw next at within in
    let alone : run is_hex_digit (drop 3 w ++ r) ≡ run is_hex_digit (drop 3 w) = run_alone is_hex_digit (drop 3 w) r (omega (arith, length-drop 3 w)) in
    let within3 : 3 + run is_hex_digit (drop 3 w) < length w = rw alone at within2 in
    unicode_delim-same w r' within3 ∙ sym (unicode_delim-same w r within3) ∙ whole)
    (λ u e. refuted e)

-- `\u` and four hex digits
pub unicode4-least : (s : List ℕ) (k l : ℕ) → unicode4 s ≡ found k l → 6 ≤ l
unfolding unicode4
unicode4-least s k l e = branch (leb 4 (run is_hex_digit (drop 2 s))) e (λ u e. omega (arith, length-of e)) (λ u e. refuted e)

pub unicode4-again : (w r r' : List ℕ) (k l : ℕ) → l ≤ length w → unicode4 (w ++ r) ≡ found k l → unicode4 (w ++ r') ≡ found k l
unfolding unicode4
unicode4-again w r r' k l most e = branch (leb 4 (run is_hex_digit (drop 2 (w ++ r)))) e
    (λ u e.
    let two : 2 ≤ length w = omega (arith, length-of e) in
    let next : drop 2 (w ++ r) ≡ drop 2 w ++ r = drop-append-le 2 w r two in
    let four : 4 ≤ run is_hex_digit (drop 2 w ++ r) = rw next at (leb-true 4 (run is_hex_digit (drop 2 (w ++ r))) u) in
    let inside : 4 ≤ run is_hex_digit (drop 2 w) = run-least is_hex_digit (drop 2 w) r 4 (omega (arith, length-drop 2 w, length-of e)) four in
    let again : leb 4 (run is_hex_digit (drop 2 w ++ r')) ≡ true = le-leb 4 (run is_hex_digit (drop 2 w ++ r')) (omega (arith, run-longer is_hex_digit (drop 2 w) r')) in
    rw (drop-append-le 2 w r' two, again) e)
    (λ u e. refuted e)

-- `\` and another byte
pub single_escape-least : (s : List ℕ) (k l : ℕ) → single_escape s ≡ found k l → 2 ≤ l
unfolding single_escape
single_escape-least s k l e =
    branch (same "\\" s) e (λ u e. refuted e) (λ u e.
    branch (begins "\r" (drop 1 s) || begins "\n" (drop 1 s)) e (λ u e. refuted e) (λ u e.
    branch (starts is_over127 (drop 1 s)) e (λ u e. refuted e) (λ u e. omega (arith, length-of e))))

pub single_escape-again : (w r r' : List ℕ) (k l : ℕ) → l ≤ length w → single_escape (w ++ r) ≡ found k l → single_escape (w ++ r') ≡ found k l
single_escape-again [] r r' k l most e = absurd (omega (arith, single_escape-least ([] ++ r) k l e))
single_escape-again (b ∷ []) r r' k l most e = absurd (omega (arith, single_escape-least ((b ∷ []) ++ r) k l e))
single_escape-again (b ∷ (c ∷ w)) r r' k l most e = two (w ++ r) (w ++ r') e
  where
    two : (s t : List ℕ) → single_escape (b ∷ (c ∷ s)) ≡ found k l → single_escape (b ∷ (c ∷ t)) ≡ found k l
    two s t e = unfold single_escape in
        branch (is "\\" b && false) e (λ u e. refuted e) (λ u e.
        branch (begins "\r" (c ∷ s) || begins "\n" (c ∷ s)) e (λ v e. refuted e) (λ v e.
        branch (is_over127 c) e (λ x e. refuted e) (λ x e. rw (u, v, x) e)))

-- Quotes
-- a text that begins with `{` begins with no closing quote
pub closes_quote-brace : (quote : ℕ) (s : List ℕ) → begins "{" s ≡ true → closes_quote quote s ≡ false
unfolding closes_quote
closes_quote-brace quote s u = decide (is_triple quote)
    (λ t. rw t (begins-differs "{" "\"" "" "\"\"" s u refl))
    (λ t. rw t (begins-differs "{" "\"" "" "" s u refl))

-- a closing quote is read in a first part that is as long
pub closes_quote-replaced : (quote : ℕ) (w r r' : List ℕ) → cond (is_triple quote) 3 1 ≤ length w → closes_quote quote (w ++ r') ≡ closes_quote quote (w ++ r)
unfolding closes_quote
closes_quote-replaced quote w r r' = go (is_triple quote)
  where
    go : (t : Bool) → cond t 3 1 ≤ length w → cond t (begins "\"\"\"" (w ++ r')) (begins "\"" (w ++ r')) ≡ cond t (begins "\"\"\"" (w ++ r)) (begins "\"" (w ++ r))
    go true h = begins-replaced "\"\"\"" w r r' h
    go false h = begins-replaced "\"" w r r' h

-- no byte of an inner part after its first is a quote
inner-no_quote : (quote c : ℕ) → is_inner quote c ≡ true → is "\"" c ≡ false
unfolding is_inner
inner-no_quote quote c e = decide (is "\"" c)
    (λ u. absurd (false≢true (rw (u, or-true (is "\\" c)) at e)))
    (λ u. u)

-- an inner part that begins with no closing quote does not before another rest, where in triple quotes two quotes begin it as they did
pub closes_quote-inner : (quote : ℕ) (w r r' : List ℕ) → 0 < length w → length w ≡ suc (run (is_inner quote) (drop 1 (w ++ r))) → (is_triple quote ≡ true → begins "\"\"" r' ≡ begins "\"\"" r) → closes_quote quote (w ++ r) ≡ false → closes_quote quote (w ++ r') ≡ false
unfolding closes_quote
closes_quote-inner quote [] r r' h n q e = absurd (not-suc-le-zero h)
closes_quote-inner quote (b ∷ []) r r' h n q e = decide (is_triple quote)
    (λ t. rw (t, q t) (rw t at e))
    (λ t. rw t (rw t at e))
closes_quote-inner quote (b ∷ (c ∷ w)) r r' h n q e = decide (is_triple quote)
    (λ t. decide (is_inner quote c)
    (λ i. rw (t, inner-no_quote quote c i) (and-false (is "\"" b)))
    (λ i. let z : suc (suc (length w)) ≡ 1 = rw i at n in absurd (omega arith)))
    (λ t. rw t (rw t at e))
