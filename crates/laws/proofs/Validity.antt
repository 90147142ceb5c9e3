-- Re-spacing keeps UTF-8: every lexeme begins and ends between two characters.
use Prim.Native.Nat.{ℕ, zero, suc, pred}
use Prim.Native.Char.{code}
use mathlib.Core.Path.{◌≡◌, refl}
use mathlib.Core.Option.{none}
use mathlib.Core.List.{List, [], ◌∷◌}
use mathlib.Core.Bool.{Bool, true, false, cond, ◌||◌}
use native.Mathlib.Omega.{arith}
use lib.Dec.{eqb}
use lib.ListN.{take, drop}
use Rattle.rules.specs.Text.{ascii, join}
use Rattle.rules.specs.Utf8.{UTF8-1, UTF8-octets, empty, more, first_bad}
use Rattle.rules.specs.Kinds.{Blank, Shebang, LineComment, StringInner, HoleClose, is_space, is_quote_open, is_escape}
use Rattle.rules.specs.Step.{Step, found, stop, step}
use Rattle.rules.specs.Lexing.{Taken, taken, ended, Trace, after, codes_after, innermost, follow, trace_from, lexemes_of}
use Rattle.rules.specs.Tidy.{gap, spaced_after, spaced}
use Rattle.rules.proofs.Text.{decide}
use Rattle.rules.proofs.Bounds.{found_inside}
use Rattle.rules.proofs.Rfc3629.{valid}
use Rattle.laws.proofs.Cuts.{octets-append}
use Rattle.laws.proofs.CharacterEnds.{found-cut}

-- the bytes of each piece are UTF-8
abbrev AllUtf8 : List Taken → Type 0
AllUtf8 [] = Unit {0}
AllUtf8 (p ∷ ps) = UTF8-octets p.bytes × AllUtf8 ps

-- one step of a text, b its first byte, and the steps after it
abbrev stepped : (openers : List ℕ) (b : ℕ) (s : List ℕ) → Step → Trace
stepped openers b s x = follow x (λ k n. after (taken k (take n (b ∷ s))) (trace_from (codes_after openers k) (pred n) s))

stepped-utf8 : (openers : List ℕ) (b : ℕ) (s : List ℕ) → UTF8-octets (b ∷ s) → (x : Step) → step (innermost openers) (b ∷ s) ≡ x
    → ((k n : ℕ) → UTF8-octets (drop n s) → AllUtf8 (trace_from (codes_after openers k) n s).taken)
    → AllUtf8 (stepped openers b s x).taken
stepped-utf8 openers b s o (found k zero) e later = absurd (omega (arith, found_inside (innermost openers) (b ∷ s) k 0 (omega arith) e))
stepped-utf8 openers b s o (found k (suc n)) e later =
    let cut = found-cut (innermost openers) (b ∷ s) k (suc n) (omega arith) e o in
    (cut.front, later k n cut.rest)
stepped-utf8 openers b s o (stop number from n) e later = tt

-- the steps of a text, where what is left after the skipped bytes is UTF-8
pieces-utf8 : (openers : List ℕ) (skip : ℕ) (s : List ℕ) → UTF8-octets (drop skip s) → AllUtf8 (trace_from openers skip s).taken
unfolding trace_from
pieces-utf8 openers skip [] o = tt
pieces-utf8 openers (suc skip) (b ∷ s) o = pieces-utf8 openers skip s o
pieces-utf8 openers zero (b ∷ s) o = stepped-utf8 openers b s o (step (innermost openers) (b ∷ s)) refl (λ k n. pieces-utf8 (codes_after openers k) n s)

-- the lexemes among the steps
lexemes-utf8 : (ps : List Taken) → AllUtf8 ps → AllUtf8 (lexemes_of ps)
lexemes-utf8 [] h = tt
lexemes-utf8 (p ∷ ps) h =
    let others = lexemes-utf8 ps h.1 in
    decide (is_space p.kind) (λ e. rw e others) (λ e. rw e (h.0, others))

-- a gap is nothing or one ASCII byte
gap-utf8 : (a b : ℕ) → UTF8-octets (gap a b)
unfolding gap
gap-utf8 a b = go (eqb a Blank || eqb b Blank || is_quote_open a || eqb a StringInner || is_escape a || eqb a HoleClose) (eqb a LineComment || eqb a Shebang)
  where
    go : (x y : Bool) → UTF8-octets (cond x [] (cond y (ascii "\n") (ascii " ")))
    go true y = empty
    go false true = more (UTF8-1 {a = code "\n"} (omega arith)) empty
    go false false = more (UTF8-1 {a = code " "} (omega arith)) empty

-- the pieces joined
after-utf8 : (k : ℕ) (ps : List Taken) → AllUtf8 ps → UTF8-octets (join (spaced_after k ps))
after-utf8 k [] h = empty
after-utf8 k (p ∷ ps) h = octets-append (octets-append (gap-utf8 k p.kind) h.0) (after-utf8 p.kind ps h.1)

spaced-utf8 : (ps : List Taken) → AllUtf8 ps → UTF8-octets (join (spaced ps))
spaced-utf8 [] h = empty
spaced-utf8 (p ∷ ps) h = octets-append h.0 (after-utf8 p.kind ps h.1)

pub respaced-utf8 : (text : List ℕ) → first_bad text ≡ none → (trace_from [] 0 text).end ≡ ended → first_bad (join (spaced (lexemes_of (trace_from [] 0 text).taken))) ≡ none
respaced-utf8 text u e =
    let steps = (trace_from [] 0 text).taken in
    (valid (join (spaced (lexemes_of steps)))).1 (spaced-utf8 (lexemes_of steps) (lexemes-utf8 steps (pieces-utf8 [] 0 text ((valid text).0 u))))
