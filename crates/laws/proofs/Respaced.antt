-- The steps of the re-spaced text: each lexeme is followed by what the same step finds it before, so lexing gives the same lexemes.
use Prim.Native.Nat.{ℕ, suc, ◌<◌}
use mathlib.Core.Path.{◌≡◌, refl, sym, ap, ◌∙◌}
use mathlib.Core.Bool.{Bool, true, false, cond, not, ◌&&◌, ◌||◌, and-true, false≢true}
use mathlib.Core.List.{List, [], ◌∷◌, ◌++◌, append_assoc}
use native.Mathlib.Omega.{arith}
use borrow.Author.Tests.{eqb-true, not-true, not-false}
use lib.Dec.{eqb}
use lib.ListN.{length, drop}
use Rattle.rules.specs.Text.{ascii, is, begins, starts, run, join}
use Rattle.rules.specs.Bytes.{is_whitespace, is_not_lf}
use Rattle.rules.specs.Kinds.{Space, Blank, Shebang, LineComment, PlainDouble, PlainTriple, FormatDouble, FormatTriple, StringInner, HoleClose, is_space, is_quote_open, is_triple, is_opener, is_closer}
use Rattle.rules.specs.Step.{found, whitespace, outside, is_inner, inside, step}
use Rattle.rules.specs.Lexing.{Taken, taken, ended, innermost, open_after, codes_after, trace_from, lexemes_of, joined}
use Rattle.rules.specs.Tidy.{gap, spaced, spaced_after}
use Rattle.rules.proofs.Text.{decide, either, is_code, is-another, run-append, neither}
use Rattle.rules.proofs.Every.{implied}
use Rattle.rules.proofs.Bounds.{found-kind}
use Rattle.laws.proofs.Follow.{end_or_whitespace, follows, FollowsInside, outside-follows, inside-follows}
use Rattle.laws.proofs.Accepted.{Accepted, accepted-sound, accepted-complete}
use Rattle.laws.proofs.StepKinds.{is_of_string, is_blank_or_space, is_line, step-outside, step-inside, step-kind, whitespace-run, line-run, outside-whitespace, whitespace-first, inner-run, quote-in-triple, quote-in-double}
use Rattle.laws.proofs.Modes.{string_after, nested, ModeAfter, mode-after}
use Rattle.laws.proofs.Gaps.{gap-cases, gap-in-string, gap-after-blank, gap-before-blank, gap-byte}

-- a gap as a step
abbrev pub gap_then : List ℕ → List Taken → List Taken
gap_then [] ps = ps
gap_then (b ∷ w) ps = taken Space (b ∷ w) ∷ ps

-- the steps of the re-spaced text, after a lexeme of a kind; a Blank's for the first, since after it there is no gap
abbrev pub respaced_after : (kind : ℕ) → List Taken → List Taken
respaced_after k [] = []
respaced_after k (p ∷ ps) = cond (is_space p.kind) (respaced_after k ps) (gap_then (gap k p.kind) (p ∷ respaced_after p.kind ps))

-- Their bytes: those of a gap and what follows
gap-joined : (w : List ℕ) (ps : List Taken) → joined (gap_then w ps) ≡ w ++ joined ps
gap-joined [] ps = refl
gap-joined (b ∷ w) ps = refl

-- the bytes after a lexeme of a kind
joined-after : (k : ℕ) (ps : List Taken) → joined (respaced_after k ps) ≡ join (spaced_after k (lexemes_of ps))
joined-after k [] = refl
joined-after k (p ∷ ps) = decide (is_space p.kind)
    (λ e. rw e (joined-after k ps))
    (λ e. rw (e, gap-joined (gap k p.kind) (p ∷ respaced_after p.kind ps), joined-after p.kind ps) (sym (append_assoc (gap k p.kind) p.bytes (join (spaced_after p.kind (lexemes_of ps))))))

-- after a Blank there is no gap
spaced-first : (ps : List Taken) → join (spaced_after Blank ps) ≡ join (spaced ps)
spaced-first [] = refl
spaced-first (p ∷ ps) = rw (gap-after-blank p.kind)

-- their bytes are the re-spaced text
pub respaced-joined : (ps : List Taken) → joined (respaced_after Blank ps) ≡ join (spaced (lexemes_of ps))
respaced-joined ps = joined-after Blank ps ∙ spaced-first (lexemes_of ps)

-- Their lexemes: a gap is none
gap-lexemes : (w : List ℕ) (ps : List Taken) → lexemes_of (gap_then w ps) ≡ lexemes_of ps
gap-lexemes [] ps = refl
gap-lexemes (b ∷ w) ps = refl

-- their lexemes are those of the text
pub respaced-lexemes : (k : ℕ) (ps : List Taken) → lexemes_of (respaced_after k ps) ≡ lexemes_of ps
respaced-lexemes k [] = refl
respaced-lexemes k (p ∷ ps) = decide (is_space p.kind)
    (λ e. rw e (respaced-lexemes k ps))
    (λ e. rw (e, gap-lexemes (gap k p.kind) (p ∷ respaced_after p.kind ps), e) (ap (λ (r : List Taken). p ∷ r) (respaced-lexemes p.kind ps)))

-- What comes next: a Space is left out, a lexeme follows its gap
next-dropped : (k : ℕ) (p : Taken) (ps : List Taken) → is_space p.kind ≡ true → respaced_after k (p ∷ ps) ≡ respaced_after k ps
next-dropped k p ps e = rw e

next-lexeme : (k : ℕ) (p : Taken) (ps : List Taken) → is_space p.kind ≡ false → respaced_after k (p ∷ ps) ≡ gap_then (gap k p.kind) (p ∷ respaced_after p.kind ps)
next-lexeme k p ps e = rw e

-- what is open stays so after a Space and after an inner part
space-open : (openers : List ℕ) (k : ℕ) → is_space k ≡ true → codes_after openers k ≡ openers
unfolding open_after is_opener is_closer
space-open openers k e = rw (eqb-true k Space e) refl

inner-open : (openers : List ℕ) → codes_after openers StringInner ≡ openers
unfolding open_after is_opener is_closer
inner-open openers = refl

-- the first byte is that of a first part which has one
starts-front : (test : ℕ → Bool) (w r r' : List ℕ) → 0 < length w → starts test (w ++ r) ≡ starts test (w ++ r')
starts-front test [] r r' some_bytes = absurd (omega arith)
starts-front test (b ∷ w) r r' some_bytes = refl

-- after a run comes no byte that would go on with it
run-rest : (test : ℕ → Bool) (w r : List ℕ) → run test (w ++ r) ≡ length w → starts test r ≡ false
run-rest test [] [] e = refl
run-rest test [] (b ∷ r) e = decide (test b) (λ t. let z : suc (run test r) ≡ 0 = rw t at e in absurd (omega arith)) (λ t. t)
run-rest test (b ∷ w) r e = decide (test b)
    (λ t. let z : suc (run test (w ++ r)) ≡ suc (length w) = rw t at e in run-rest test w r (omega arith))
    (λ t. let z : 0 ≡ suc (length w) = rw t at e in absurd (omega arith))

-- outside strings the first step is whitespace where the text starts so, and in the re-spaced text too
first-outside : (openers : List ℕ) (p : Taken) (ps : List Taken) (r : List ℕ) → is_quote_open (innermost openers) ≡ false → Accepted openers (p ∷ ps) →
    starts is_whitespace (p.bytes ++ r) ≡ is_blank_or_space p.kind
first-outside openers p ps r q a =
    starts-front is_whitespace p.bytes r (joined ps) a.1
    ∙ whitespace-first (innermost openers) (p.bytes ++ joined ps) p.kind (length p.bytes) (step-outside (innermost openers) (p.bytes ++ joined ps) (found p.kind (length p.bytes)) q a.0)

-- Blank and Space are whitespace
blank-whitespace : (k : ℕ) → eqb k Blank ≡ true → is_blank_or_space k ≡ true
blank-whitespace k e = rw (eqb-true k Blank e) refl

space-whitespace : (k : ℕ) → is_space k ≡ true → is_blank_or_space k ≡ true
space-whitespace k e = rw e

-- Outside strings, after a lexeme that is no Blank: the end or whitespace, as where whitespace starts
whitespace-ends : (r : List ℕ) → starts is_whitespace r ≡ true → end_or_whitespace r ≡ true
whitespace-ends [] e = absurd (false≢true e)
whitespace-ends (b ∷ r) e = rw e

-- and in each gap
gap_ends : (line : Bool) (ps : List Taken) → end_or_whitespace (joined (gap_then (cond line (ascii "\n") (ascii " ")) ps)) ≡ true
unfolding is_whitespace
gap_ends true ps = refl
gap_ends false ps = refl

-- and so in the re-spaced text
end-or-whitespace : (openers : List ℕ) (k : ℕ) (ps : List Taken) → eqb k Blank ≡ false → string_after k ≡ false → is_quote_open (innermost openers) ≡ false → Accepted openers ps →
    end_or_whitespace (joined (respaced_after k ps)) ≡ true
end-or-whitespace openers k [] x z q a = refl
end-or-whitespace openers k (p ∷ ps) x z q a = decide (is_space p.kind)
    (λ e. rw (next-dropped k p ps e) (end-or-whitespace openers k ps x z q (rw (space-open openers p.kind e) at a.2)))
    (λ e. rw (next-lexeme k p ps e) (decide (eqb p.kind Blank)
    (λ y. rw (eqb-true p.kind Blank y, gap-before-blank k)
    (whitespace-ends (p.bytes ++ joined (respaced_after Blank ps)) (first-outside openers p ps (joined (respaced_after Blank ps)) q a ∙ blank-whitespace p.kind y)))
    (λ y. rw (gap-byte k p.kind x y z) (gap_ends (is_line k) (p ∷ respaced_after p.kind ps)))))

-- after a Blank no whitespace, where none followed it
no-whitespace : (openers : List ℕ) (ps : List Taken) → is_quote_open (innermost openers) ≡ false → Accepted openers ps → starts is_whitespace (joined ps) ≡ false →
    starts is_whitespace (joined (respaced_after Blank ps)) ≡ false
no-whitespace openers [] q a n = refl
no-whitespace openers (p ∷ ps) q a n =
    let other : is_blank_or_space p.kind ≡ false = sym (first-outside openers p ps (joined ps) q a) ∙ n in
    rw (next-lexeme Blank p ps (neither (is_space p.kind) (eqb p.kind Blank) other).0, gap-after-blank p.kind)
    (first-outside openers p ps (joined (respaced_after p.kind ps)) q a ∙ other)

-- a comment or shebang is no Blank, and no string goes on after it
line-no-blank : (k : ℕ) → is_line k ≡ true → (eqb k Blank ≡ false) × (string_after k ≡ false)
line-no-blank k l = either (eqb k Shebang) (eqb k LineComment) l (λ e. rw (eqb-true k Shebang e) (refl, refl)) (λ e. rw (eqb-true k LineComment e) (refl, refl))

-- the gap after it is LF
gap-line : (k : ℕ) (p : Taken) (ps : List Taken) → is_line k ≡ true → is_blank_or_space p.kind ≡ false → starts is_not_lf (joined (respaced_after k (p ∷ ps))) ≡ false
unfolding is_not_lf
gap-line k p ps l n =
    let h = neither (is_space p.kind) (eqb p.kind Blank) n in
    let b = line-no-blank k l in
    rw (next-lexeme k p ps h.0, gap-byte k p.kind b.0 h.1 b.1, l) refl

-- after a Space comes no other whitespace
after-space : (openers : List ℕ) (p q : Taken) (ps : List Taken) → is_quote_open (innermost openers) ≡ false → is_space p.kind ≡ true → Accepted openers (p ∷ (q ∷ ps)) → is_blank_or_space q.kind ≡ false
after-space openers p q ps out e a =
    let r : List ℕ = joined (q ∷ ps) in
    let found-space = step-outside (innermost openers) (p.bytes ++ r) (found p.kind (length p.bytes)) out a.0 in
    let none-follows : starts is_whitespace r ≡ false = run-rest is_whitespace p.bytes r (whitespace-run (innermost openers) (p.bytes ++ r) p.kind (length p.bytes) found-space (space-whitespace p.kind e)) in
    sym (first-outside openers q ps (joined ps) out (rw (space-open openers p.kind e) at a.2)) ∙ none-follows

-- so LF or the end follows it, where one of them did
line-end : (openers : List ℕ) (k : ℕ) (ps : List Taken) → is_line k ≡ true → is_quote_open (innermost openers) ≡ false → Accepted openers ps → starts is_not_lf (joined ps) ≡ false →
    starts is_not_lf (joined (respaced_after k ps)) ≡ false
line-end openers k [] l q a n = refl
line-end openers k (p ∷ ps) l q a n = decide (is_space p.kind)
    (λ e. rw (next-dropped k p ps e) (go ps a e))
    (λ e. decide (eqb p.kind Blank)
    (λ y. rw (next-lexeme k p ps e, eqb-true p.kind Blank y, gap-before-blank k) (starts-front is_not_lf p.bytes (joined (respaced_after Blank ps)) (joined ps) a.1 ∙ n))
    (λ y. gap-line k p ps l (rw (e, y))))
  where
    go : (ps : List Taken) → Accepted openers (p ∷ ps) → is_space p.kind ≡ true → starts is_not_lf (joined (respaced_after k ps)) ≡ false
    go [] a e = refl
    go (r ∷ ps) a e = gap-line k r ps l (after-space openers p r ps q e a)

-- In a string there is no Space
of-string : (k : ℕ) → is_of_string k ≡ true → is_space k ≡ false
of-string k o = decide (is_space k) (λ e. let other : is_of_string Space ≡ true = rw (eqb-true k Space e) at o in absurd (false≢true other)) (λ e. e)

-- and no gap: every lexeme follows the one before, as it did
next-in-string : (openers : List ℕ) (k : ℕ) (p : Taken) (ps : List Taken) → string_after k ≡ true → is_quote_open (innermost openers) ≡ true → Accepted openers (p ∷ ps) →
    respaced_after k (p ∷ ps) ≡ p ∷ respaced_after p.kind ps
next-in-string openers k p ps s q a =
    let inner : is_of_string p.kind ≡ true = (step-kind (innermost openers) (p.bytes ++ joined ps) p.kind (length p.bytes) a.0).0 ∙ q in
    rw (next-lexeme k p ps (of-string p.kind inner), gap-in-string k p.kind s) refl

-- so what follows starts as it did
starts-in-string : (test : ℕ → Bool) (openers : List ℕ) (k : ℕ) (ps : List Taken) → string_after k ≡ true → is_quote_open (innermost openers) ≡ true → Accepted openers ps →
    starts test (joined (respaced_after k ps)) ≡ starts test (joined ps)
starts-in-string test openers k [] s q a = refl
starts-in-string test openers k (p ∷ ps) s q a = rw (next-in-string openers k p ps s q a) (starts-front test p.bytes (joined (respaced_after p.kind ps)) (joined ps) a.1)

-- a quote is the first byte
quote-starts : (r : List ℕ) → begins "\"" r ≡ starts (is "\"") r
quote-starts [] = refl
quote-starts (b ∷ r) = and-true (is "\"" b)

-- in triple quotes two quotes follow where two did: in a step of one byte, a quote is an inner part
first-quotes : (openers : List ℕ) (k : ℕ) (w : List ℕ) (ps : List Taken) → is_quote_open (innermost openers) ≡ true → is_triple (innermost openers) ≡ true → Accepted openers (taken k w ∷ ps) →
    begins "\"\"" (w ++ joined (respaced_after k ps)) ≡ begins "\"\"" (w ++ joined ps)
first-quotes openers k [] ps q t a = absurd (omega (arith, a.1))
first-quotes openers k (b ∷ (c ∷ w)) ps q t a = refl
first-quotes openers k (b ∷ []) ps q t a = decide (is "\"" b)
    (λ e.
    let at-quote : step (innermost openers) (34 ∷ joined ps) ≡ found k 1 = rw (is_code "\"" b e) at a.0 in
    let inner : k ≡ StringInner = quote-in-triple (innermost openers) (joined ps) k t (step-inside (innermost openers) (34 ∷ joined ps) (found k 1) q at-quote) in
    let more : Accepted (codes_after openers StringInner) ps = rw inner at a.2 in
    let same_start : begins "\"" (joined (respaced_after StringInner ps)) ≡ begins "\"" (joined ps) =
    quote-starts (joined (respaced_after StringInner ps)) ∙ starts-in-string (is "\"") openers StringInner ps refl q (rw (inner-open openers) at more) ∙ sym (quote-starts (joined ps)) in
    rw (inner, same_start) refl)
    (λ e. rw e refl)

-- so after any lexeme in triple quotes
quotes-in-triple : (openers : List ℕ) (k : ℕ) (ps : List Taken) → string_after k ≡ true → is_quote_open (innermost openers) ≡ true → is_triple (innermost openers) ≡ true → Accepted openers ps →
    begins "\"\"" (joined (respaced_after k ps)) ≡ begins "\"\"" (joined ps)
quotes-in-triple openers k [] s q t a = refl
quotes-in-triple openers k (p ∷ ps) s q t a = rw (next-in-string openers k p ps s q a) (first-quotes openers p.kind p.bytes ps q t a)

-- the end or whitespace is no quote
no-quote : (r : List ℕ) → end_or_whitespace r ≡ true → begins "\"" r ≡ false
unfolding is_whitespace
no-quote [] e = refl
no-quote (b ∷ r) e =
    let white : is_whitespace b ≡ true = not-false (is_whitespace b) (not-true (not (is_whitespace b)) e) in
    rw (is-another is_whitespace "\"" b white refl) refl

-- in a string of one quote, a quote closes it and the end or whitespace follows, so no two quotes follow the opening one
first-closes : (openers : List ℕ) (k : ℕ) (w : List ℕ) (ps : List Taken) → nested openers ≡ true → is_quote_open (innermost openers) ≡ true → is_triple (innermost openers) ≡ false → Accepted openers (taken k w ∷ ps) →
    begins "\"\"" (w ++ joined (respaced_after k ps)) ≡ false
first-closes openers k [] ps ne q t a = absurd (omega (arith, a.1))
first-closes openers k (b ∷ w) ps ne q t a = decide (is "\"" b)
    (λ e.
    let at-quote : step (innermost openers) (34 ∷ (w ++ joined ps)) ≡ found k (suc (length w)) = rw (is_code "\"" b e) at a.0 in
    let closes = quote-in-double (innermost openers) (w ++ joined ps) k (suc (length w)) t (step-inside (innermost openers) (34 ∷ (w ++ joined ps)) (found k (suc (length w))) q at-quote) in
    let m : ModeAfter (codes_after openers k) k = mode-after openers (b ∷ (w ++ joined ps)) k (suc (length w)) ne a.0 in
    let closed : string_after k ≡ false = rw (← closes.0) refl in
    let blank : eqb k Blank ≡ false = rw (← closes.0) refl in
    rw e (go w (omega (arith, closes.1)) (no-quote (joined (respaced_after k ps)) (end-or-whitespace (codes_after openers k) k ps blank closed (m.0 ∙ closed) a.2))))
    (λ e. rw e refl)
  where
    go : (w : List ℕ) → length w ≡ 0 → begins "\"" (joined (respaced_after k ps)) ≡ false → begins "\"" (w ++ joined (respaced_after k ps)) ≡ false
    go [] z n = n
    go (c ∷ w) z n = absurd (omega arith)

-- so after any lexeme in a string of one quote
quotes-in-double : (openers : List ℕ) (k : ℕ) (ps : List Taken) → string_after k ≡ true → nested openers ≡ true → is_quote_open (innermost openers) ≡ true → is_triple (innermost openers) ≡ false → Accepted openers ps →
    begins "\"\"" (joined (respaced_after k ps)) ≡ false
quotes-in-double openers k [] s ne q t a = refl
quotes-in-double openers k (p ∷ ps) s ne q t a = rw (next-in-string openers k p ps s q a) (first-closes openers p.kind p.bytes ps ne q t a)

-- What follows a lexeme in the re-spaced text. Outside strings, by the kinds that `follows` tells apart
abbrev is_double : ℕ → Bool
is_double k = eqb k PlainDouble || eqb k FormatDouble

abbrev is_any_follows : ℕ → Bool
is_any_follows k = eqb k PlainTriple || eqb k FormatTriple || eqb k HoleClose

-- of the other kinds none goes on in a string
other-outside : (k : ℕ) → k < 60 → is_of_string k ≡ false → is_double k ≡ false → is_any_follows k ≡ false → string_after k ≡ false
other-outside k lt o d t = not-true (string_after k)
    (implied 60 (λ k. not (is_of_string k) && (not (is_double k) && not (is_any_follows k))) (λ k. not (string_after k)) refl k lt (rw (o, d, t)))

-- in what a quote of one byte opens there are no triple quotes
double-open : (openers : List ℕ) (k : ℕ) → is_double k ≡ true → (string_after k ≡ true) × (is_triple (innermost (codes_after openers k)) ≡ false)
unfolding open_after is_opener
double-open openers k d = either (eqb k PlainDouble) (eqb k FormatDouble) d (λ e. rw (eqb-true k PlainDouble e) (refl, refl)) (λ e. rw (eqb-true k FormatDouble e) (refl, refl))

-- each is followed by what `follows` asks for
follows-respaced : (openers : List ℕ) (k : ℕ) (w : List ℕ) (ps : List Taken) → nested openers ≡ true → is_quote_open (innermost openers) ≡ false → is_space k ≡ false → Accepted openers (taken k w ∷ ps) →
    follows k (joined (respaced_after k ps)) ≡ true
unfolding follows
follows-respaced openers k w ps ne q n a =
    let r : List ℕ = joined ps in
    let e : outside (innermost openers) (w ++ r) ≡ found k (length w) = step-outside (innermost openers) (w ++ r) (found k (length w)) q a.0 in
    let m : ModeAfter (codes_after openers k) k = mode-after openers (w ++ r) k (length w) ne a.0 in
    let lt : k < 60 = omega (arith, found-kind (innermost openers) (w ++ r) k (length w) a.0) in
    let o : is_of_string k ≡ false = (step-kind (innermost openers) (w ++ r) k (length w) a.0).0 ∙ q in
    decide (is_blank_or_space k)
    (λ white.
    let blank : k ≡ Blank = eqb-true k Blank (rw n at white) in
    let out : is_quote_open (innermost (codes_after openers k)) ≡ false = m.0 ∙ rw blank refl in
    let none_left : starts is_whitespace r ≡ false = run-rest is_whitespace w r (whitespace-run (innermost openers) (w ++ r) k (length w) e white) in
    let none-now : starts is_whitespace (joined (respaced_after k ps)) ≡ false = rw blank (no-whitespace (codes_after openers k) ps out a.2 none_left) in
    rw (white, none-now) refl)
    (λ other. decide (is_line k)
    (λ l.
    let out : is_quote_open (innermost (codes_after openers k)) ≡ false = m.0 ∙ (line-no-blank k l).1 in
    let ends : starts is_not_lf (joined (respaced_after k ps)) ≡ false = line-end (codes_after openers k) k ps l out a.2 (run-rest is_not_lf w r (line-run (innermost openers) (w ++ r) k (length w) e l)) in
    rw (other, l, ends) refl)
    (λ l. decide (is_double k)
    (λ d.
    let h = double-open openers k d in
    let one : begins "\"\"" (joined (respaced_after k ps)) ≡ false = quotes-in-double (codes_after openers k) k ps h.0 m.1 (m.0 ∙ h.0) h.1 a.2 in
    rw (other, l, d, one) refl)
    (λ d. decide (is_any_follows k)
    (λ t. rw (other, l, d, t) refl)
    (λ t.
    let z : string_after k ≡ false = other-outside k lt o d t in
    rw (other, l, d, t) (end-or-whitespace (codes_after openers k) k ps (neither (is_space k) (eqb k Blank) other).1 z (m.0 ∙ z) a.2)))))

-- In a string an inner part ends where its run ends
run-inner : (quote : ℕ) (w r : List ℕ) → 0 < length w → suc (run (is_inner quote) (drop 1 (w ++ r))) ≡ length w → starts (is_inner quote) r ≡ false
run-inner quote [] r some_bytes e = absurd (omega arith)
run-inner quote (b ∷ w) r some_bytes e = run-rest (is_inner quote) w r (omega arith)

-- and each is followed by what `FollowsInside` asks for
follows-inside : (openers : List ℕ) (k : ℕ) (w : List ℕ) (ps : List Taken) → is_quote_open (innermost openers) ≡ true → Accepted openers (taken k w ∷ ps) →
    FollowsInside (innermost openers) k (joined ps) (joined (respaced_after k ps))
follows-inside openers k w ps q a =
    let after-inner : k ≡ StringInner → Accepted openers ps = λ i. let more : Accepted (codes_after openers StringInner) ps = rw i at a.2 in rw (inner-open openers) at more in
    record {
      ends = λ i.
          let e : inside (innermost openers) (w ++ joined ps) ≡ found StringInner (length w) = rw i at (step-inside (innermost openers) (w ++ joined ps) (found k (length w)) q a.0) in
          let ended-there : starts (is_inner (innermost openers)) (joined ps) ≡ false = run-inner (innermost openers) w (joined ps) a.1 (inner-run (innermost openers) (w ++ joined ps) (length w) e) in
          rw i (starts-in-string (is_inner (innermost openers)) openers StringInner ps refl q (after-inner i) ∙ ended-there);
      quotes = λ i t. rw i (quotes-in-triple openers StringInner ps refl q t (after-inner i));
    }

-- so the step finds it again
step-again : (openers : List ℕ) (k : ℕ) (w : List ℕ) (ps : List Taken) → nested openers ≡ true → is_space k ≡ false → Accepted openers (taken k w ∷ ps) →
    step (innermost openers) (w ++ joined (respaced_after k ps)) ≡ found k (length w)
unfolding step
step-again openers k w ps ne n a = decide (is_quote_open (innermost openers))
    (λ q. rw q (inside-follows (innermost openers) k w (joined ps) (joined (respaced_after k ps)) a.1 (step-inside (innermost openers) (w ++ joined ps) (found k (length w)) q a.0) (follows-inside openers k w ps q a)))
    (λ q. rw q (outside-follows (innermost openers) k w (joined ps) (joined (respaced_after k ps)) a.1 (step-outside (innermost openers) (w ++ joined ps) (found k (length w)) q a.0) (follows-respaced openers k w ps ne q n a)))

-- One byte of whitespace is a Space, where no other follows
whitespace-byte : (b : ℕ) (s : List ℕ) → is_whitespace b ≡ true → starts is_whitespace s ≡ false → whitespace (b ∷ s) ≡ found Space 1
unfolding whitespace
whitespace-byte b s w n = rw (w, run-append is_whitespace [] s refl n) (decide (is "\n" b) (λ e. rw e refl) (λ e. rw e refl))

-- so a gap is one step
gap_step : (innermost b : ℕ) (s : List ℕ) → is_quote_open innermost ≡ false → is_whitespace b ≡ true → starts is_whitespace s ≡ false → step innermost (b ∷ s) ≡ found Space 1
unfolding step
gap_step innermost b s q w n = rw (q, outside-whitespace innermost b s w) (whitespace-byte b s w n)

-- and gives steps of a text with those after it
gap-accepted : (openers : List ℕ) (line : Bool) (ps : List Taken) → is_quote_open (innermost openers) ≡ false → starts is_whitespace (joined ps) ≡ false → Accepted openers ps →
    Accepted openers (gap_then (cond line (ascii "\n") (ascii " ")) ps)
unfolding is_whitespace
gap-accepted openers true ps q n a = (gap_step (innermost openers) 10 (joined ps) q refl n, omega arith, rw (space-open openers Space refl) a)
gap-accepted openers false ps q n a = (gap_step (innermost openers) 32 (joined ps) q refl n, omega arith, rw (space-open openers Space refl) a)

-- The theorem after a lexeme of a kind, where something may be open
accepted-after : (openers : List ℕ) (k : ℕ) (ps : List Taken) → ModeAfter openers k → Accepted openers ps → Accepted openers (respaced_after k ps)
accepted-after openers k [] m a = a
accepted-after openers k (p ∷ ps) m a = decide (is_space p.kind)
    (λ e. rw (next-dropped k p ps e) (accepted-after openers k ps m (rw (space-open openers p.kind e) at a.2)))
    (λ n.
    let more : ModeAfter (codes_after openers p.kind) p.kind = mode-after openers (p.bytes ++ joined ps) p.kind (length p.bytes) m.1 a.0 in
    let here : Accepted openers (p ∷ respaced_after p.kind ps) = (step-again openers p.kind p.bytes ps m.1 n a, a.1, accepted-after (codes_after openers p.kind) p.kind ps more a.2) in
    rw (next-lexeme k p ps n) (gap-cases (λ g. Accepted openers (gap_then g (p ∷ respaced_after p.kind ps))) k p.kind
    (λ e. here)
    (λ x y z.
    let out : is_quote_open (innermost openers) ≡ false = m.0 ∙ z in
    let none_first : starts is_whitespace (p.bytes ++ joined (respaced_after p.kind ps)) ≡ false = first-outside openers p ps (joined (respaced_after p.kind ps)) out a ∙ rw (n, y) in
    gap-accepted openers (is_line k) (p ∷ respaced_after p.kind ps) out none_first here)))

-- the re-spaced text has those steps
pub respaced-accepted : (ps : List Taken) → Accepted [] ps → Accepted [] (respaced_after Blank ps)
respaced-accepted ps a = accepted-after [] Blank ps (refl, refl) a

-- and lexing it gives them
pub respaced-trace : (text : List ℕ) → (trace_from [] 0 text).end ≡ ended →
    trace_from [] 0 (join (spaced (lexemes_of (trace_from [] 0 text).taken))) ≡ record { taken = respaced_after Blank (trace_from [] 0 text).taken; end = ended }
respaced-trace text e =
    let ps : List Taken = (trace_from [] 0 text).taken in
    rw (respaced-joined ps) at (accepted-complete [] (respaced_after Blank ps) (respaced-accepted ps (accepted-sound [] text e).1))

-- re-spacing leaves a re-spaced text as it is
pub respaced-again : (ps : List Taken) → join (spaced (lexemes_of (respaced_after Blank ps))) ≡ join (spaced (lexemes_of ps))
respaced-again ps = ap (λ (qs : List Taken). join (spaced qs)) (respaced-lexemes Blank ps)
