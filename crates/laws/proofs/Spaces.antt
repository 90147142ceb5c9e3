-- Two Spaces never follow each other, since a Space is a whole run of whitespace; and what follows from it for the counts of steps.
use Prim.Native.Nat.{ℕ, ◌+◌, ◌≤◌, zero-le}
use mathlib.Core.Path.{◌≡◌, refl, sym, ◌∙◌}
use mathlib.Core.Bool.{Bool, true, false, cond, false≢true}
use mathlib.Core.List.{List, [], ◌∷◌, ◌++◌, append_assoc}
use native.Mathlib.Omega.{arith}
use lib.ListN.{length, drop, length-append}
use lib.Seq.{drop-append_seam}
use Rattle.rules.specs.Text.{starts, run}
use Rattle.rules.specs.Bytes.{is_whitespace}
use Rattle.rules.specs.Kinds.{is_space, is_quote_open}
use Rattle.rules.specs.Step.{Step, found, stop, exponent, fraction, decimal, prefixed, number, keyword_or_ident, identifier, whitespace, closer, monograph, punctuation, outside, unicode_delim, unicode4, single_escape, inside, step}
use Rattle.rules.specs.Lexing.{Taken, codes_after, innermost, lexemes_of, spaces_of, joined}
use Rattle.rules.proofs.Text.{decide}
use Rattle.rules.proofs.Bounds.{run-some}
use Rattle.rules.proofs.Runs.{run_drop}
use Rattle.rules.proofs.Front.{Steps}

-- what holds of a step that finds no Space
abbrev NoSpace : Step → Type 0
NoSpace (found k n) = is_space k ≡ false
NoSpace (stop number from n) = Unit {0}

-- the same as a record, by which `search` finds it
record FindsNoSpace (r : Step) : Type 0 where
  no-space : NoSpace r

-- a lexeme of another kind
none_found : (k n : ℕ) → is_space k ≡ false → FindsNoSpace (found k n)
none_found k n e = record { no-space = e }

-- a refusal
none-stop : (number from n : ℕ) → FindsNoSpace (stop number from n)
none-stop number from n = record { no-space = tt }

-- a test between two such steps
none-cond : (b : Bool) (x y : Step) → FindsNoSpace x → FindsNoSpace y → FindsNoSpace (cond b x y)
none-cond true x y p q = p
none-cond false x y p q = q

-- a kind that is not Space
record IsNoSpace (k : ℕ) : Type 0 where
  other : is_space k ≡ false

-- a kind, by its test
other-kind : (k : ℕ) → is_space k ≡ false → IsNoSpace k
other-kind k e = record { other = e }

-- a test between two such kinds
other-cond : (b : Bool) (x y : ℕ) → IsNoSpace x → IsNoSpace y → IsNoSpace (cond b x y)
other-cond true x y p q = p
other-cond false x y p q = q

-- Each part of a step but `whitespace` finds no Space: keywords and identifiers,
keyword-none : (w : List ℕ) → IsNoSpace (keyword_or_ident w)
unfolding keyword_or_ident
keyword-none w = search (other-cond, other-kind) depth 40

identifier-none : (s : List ℕ) → FindsNoSpace (identifier s)
unfolding identifier
identifier-none s = none_found _ _ (keyword-none _).other

-- numbers,
number-none : (s : List ℕ) → FindsNoSpace (number s)
unfolding number prefixed decimal fraction exponent
number-none s = search (none-cond, none_found, none-stop) depth 40

-- closers,
closer-none : (innermost opener kind : ℕ) → is_space kind ≡ false → FindsNoSpace (closer innermost opener kind)
unfolding closer
closer-none innermost opener kind e = search (none-cond, none_found, none-stop)

-- punctuation of one byte
monograph-none : (innermost : ℕ) (s : List ℕ) → FindsNoSpace (monograph innermost s)
unfolding monograph
monograph-none innermost s = search (closer-none, none-cond, none_found, none-stop) depth 40

-- and of more,
punctuation-none : (innermost : ℕ) (s : List ℕ) → FindsNoSpace (punctuation innermost s)
unfolding punctuation
punctuation-none innermost s = search (monograph-none, none-cond, none_found) depth 40

-- and all that stands in a string
inside-none : (quote : ℕ) (s : List ℕ) → FindsNoSpace (inside quote s)
unfolding inside unicode_delim unicode4 single_escape
inside-none quote s = search (none-cond, none_found, none-stop) depth 40

-- what holds of a step by which a Space is the whole run of whitespace at the front, of one byte or more
abbrev Whole : List ℕ → Step → Type 0
Whole s (found k n) = is_space k ≡ true → (starts is_whitespace s ≡ true) × (n ≡ run is_whitespace s)
Whole s (stop number from n) = Unit {0}

-- the same as a record
record SpaceWhole (s : List ℕ) (r : Step) : Type 0 where
  whole : Whole s r

-- a step that finds no Space is one
whole-none : (s : List ℕ) (r : Step) → FindsNoSpace r → SpaceWhole s r
whole-none s (found k n) h = record { whole = λ e. absurd (false≢true (sym h.no-space ∙ e)) }
whole-none s (stop number from n) h = record { whole = tt }

-- so is whitespace
whole-whitespace : (s : List ℕ) → starts is_whitespace s ≡ true → SpaceWhole s (whitespace s)
unfolding whitespace
whole-whitespace s e = record { whole = λ z. (e, refl) }

-- so is a test between two
whole-cond : (s : List ℕ) (b : Bool) (x y : Step) → (b ≡ true → SpaceWhole s x) → SpaceWhole s y → SpaceWhole s (cond b x y)
whole-cond s true x y p q = p refl
whole-cond s false x y p q = q

-- so is a step outside strings
whole-outside : (innermost : ℕ) (s : List ℕ) → SpaceWhole s (outside innermost s)
unfolding outside
whole-outside innermost s = search (whole-whitespace, number-none, identifier-none, punctuation-none, none_found, none-stop, whole-none, whole-cond) depth 60 fits 3000

-- so is every step
whole-step : (innermost : ℕ) (s : List ℕ) → SpaceWhole s (step innermost s)
unfolding step
whole-step innermost s = whole-cond s (is_quote_open innermost) _ _ (λ e. whole-none s _ (inside-none innermost s)) (whole-outside innermost s)

-- a Space is the whole run of whitespace at the front, of one byte or more
pub space-whole : (innermost : ℕ) (s : List ℕ) (k n : ℕ) → step innermost s ≡ found k n → is_space k ≡ true → (starts is_whitespace s ≡ true) × (n ≡ run is_whitespace s)
space-whole innermost s k n e = rw e at (whole-step innermost s).whole

-- after a Space no Space is found, whatever is open
pub two-spaces : (i i' : ℕ) (w s : List ℕ) (k k' n : ℕ) → step i (w ++ s) ≡ found k (length w) → is_space k ≡ true → step i' s ≡ found k' n → is_space k' ≡ false
two-spaces i i' w s k k' n e sp e' = decide (is_space k')
    (λ sp'.
    let first = space-whole i (w ++ s) k (length w) e sp in
    let second = space-whole i' s k' n e' sp' in
    let on : run is_whitespace (w ++ s) ≡ length w + run is_whitespace (drop (length w) (w ++ s)) = run_drop is_whitespace (length w) (w ++ s) (omega (arith, first.1)) in
    let on' : run is_whitespace (w ++ s) ≡ length w + run is_whitespace s = rw (drop-append_seam w s) at on in
    absurd (omega (arith, first.1, run-some is_whitespace s second.0)))
    (λ no-space. no-space)

-- the first step is a Space
abbrev pub starts_space : List Taken → Bool
starts_space [] = false
starts_space (p ∷ ps) = is_space p.kind

-- the step after a Space is none
after-space : (rest openers : List ℕ) (p : Taken) (ps : List Taken) → Steps rest openers (p ∷ ps) → is_space p.kind ≡ true → starts_space ps ≡ false
after-space rest openers p [] h e = refl
after-space rest openers p (q ∷ ps) h e =
    let s : List ℕ = q.bytes ++ (joined ps ++ rest) in
    let together : (q.bytes ++ joined ps) ++ rest ≡ s = append_assoc q.bytes (joined ps) rest in
    two-spaces (innermost openers) (innermost (codes_after openers p.kind)) p.bytes s p.kind q.kind _ (rw together at h.0) e h.2.0

-- there is at most one Space more than lexemes, and none more where no Space is first
pub few-spaces : (rest openers : List ℕ) (ps : List Taken) → Steps rest openers ps
    → (length (spaces_of ps) ≤ length (lexemes_of ps) + 1) × (starts_space ps ≡ false → length (spaces_of ps) ≤ length (lexemes_of ps))
few-spaces rest openers [] h = (zero-le, λ e. zero-le)
few-spaces rest openers (p ∷ ps) h =
    let more = few-spaces rest (codes_after openers p.kind) ps h.2 in
    decide (is_space p.kind)
    (λ e. rw e (omega (arith, more.1 (after-space rest openers p ps h e)), λ z. absurd (false≢true (sym z))))
    (λ e. rw e (omega (arith, more.0), λ z. omega (arith, more.0)))

-- every step is a lexeme or a Space
pub steps-sum : (ps : List Taken) → length ps ≡ length (lexemes_of ps) + length (spaces_of ps)
steps-sum [] = refl
steps-sum (p ∷ ps) = decide (is_space p.kind) (λ e. rw e (omega (arith, steps-sum ps))) (λ e. rw e (omega (arith, steps-sum ps)))

-- every byte is one of a lexeme or of a Space
pub bytes-sum : (ps : List Taken) → length (joined ps) ≡ length (joined (lexemes_of ps)) + length (joined (spaces_of ps))
bytes-sum [] = refl
bytes-sum (p ∷ ps) =
    let both = length-append p.bytes (joined ps) in
    decide (is_space p.kind)
    (λ e. rw e (omega (arith, bytes-sum ps, length-append p.bytes (joined (spaces_of ps)))))
    (λ e. rw e (omega (arith, bytes-sum ps, length-append p.bytes (joined (lexemes_of ps)))))

-- every step has a byte
pub steps-bytes : (rest openers : List ℕ) (ps : List Taken) → Steps rest openers ps → length ps ≤ length (joined ps)
steps-bytes rest openers [] h = zero-le
steps-bytes rest openers (p ∷ ps) h = omega (arith, h.1, steps-bytes rest (codes_after openers p.kind) ps h.2, length-append p.bytes (joined ps))
