-- Outside strings. `-alone`: a lexeme that ends in `w` is found again where the text ends with `w`; `-extended`: and before what may follow it.
use Prim.Native.Nat.{ℕ, ◌≤◌, ◌<◌}
use Prim.Native.Char.{code}
use Prim.Native.String.{String}
use Prim.Native.String as S
use mathlib.Core.Path.{◌≡◌, refl, sym, ◌∙◌}
use mathlib.Core.List.{List, [], ◌∷◌, ◌++◌}
use mathlib.Core.Bool.{Bool, true, false, cond, not, ◌&&◌, ◌||◌, false≢true}
use native.Mathlib.Omega.{arith}
use borrow.Author.Tests.{leb-true, leb-false, le-leb}
use lib.Dec.{eqb, leb}
use lib.ListN.{length, take}
use lib.Seq.{take-append-le}
use Rattle.rules.specs.Text.{is, begins, starts, run, count}
use Rattle.rules.specs.Bytes.{is_whitespace, is_digit, is_letter, is_identifier_byte, is_not_lf}
use Rattle.rules.specs.Kinds.{Space, Blank, Shebang, LineComment, PlainDouble, PlainTriple, FormatDouble, FormatTriple, HoleOpen, HoleClose, is_space}
use Rattle.rules.specs.Step.{Step, found, exponent, fraction, decimal, prefixed, number, identifier_length, keyword_or_ident, identifier, whitespace, closer, monograph, punctuation, outside}
use Rattle.rules.proofs.Text.{decide, branch, is_code, and_left, and_right}
use Rattle.rules.proofs.Runs.{run-extended, run-le}
use Rattle.rules.proofs.Bounds.{size, give_back-le}
use Rattle.laws.proofs.Found.{Finds, finds-found, finds-stop, finds-cond, Again, again-same, again-equal, again-stop, again-fails, again-cond}
use Rattle.laws.proofs.Lookahead.{end_or_whitespace, no_whitespace, FailsWhitespace, fails-whitespace, begins-alone, begins-part, begins-another, begins-differs, begins-extended, starts-another, starts-alone, run_alone, run-over, run_none, run-before, give_back-alone, give_back-between}
use Rattle.laws.proofs.Numbers.{digit-fails, number-alone, number-extended}
use Rattle.rules.proofs.Steps.{kind-of, length-of}

-- Identifiers
-- whitespace is no letter
letter-fails : FailsWhitespace is_letter
unfolding is_letter
letter-fails = fails-whitespace is_letter refl refl refl refl refl

-- and no byte of an identifier
identifier-fails : FailsWhitespace is_identifier_byte
unfolding is_identifier_byte is_letter is_digit
identifier-fails = fails-whitespace is_identifier_byte refl refl refl refl refl

-- an identifier ends in its text
identifier_length-length : (w : List ℕ) → identifier_length w ≤ length w
unfolding identifier_length
identifier_length-length w = omega (arith, give_back-le w (run is_identifier_byte w), run-le is_identifier_byte w)

-- where its bytes go on after `w`, only `-` does, and is given back
identifier_length-alone : (w r : List ℕ) → identifier_length (w ++ r) ≤ length w → identifier_length (w ++ r) ≡ identifier_length w
unfolding identifier_length
identifier_length-alone w r h = decide (leb (run is_identifier_byte (w ++ r)) (length w))
    (λ e.
    let same = run_alone is_identifier_byte w r (leb-true (run is_identifier_byte (w ++ r)) (length w) e) in
    rw same (give_back-alone w r (run is_identifier_byte w) (run-le is_identifier_byte w)))
    (λ e.
    let over = leb-false (run is_identifier_byte (w ++ r)) (length w) e in
    let all : run is_identifier_byte w ≡ length w = run-over is_identifier_byte w r (omega arith) in
    rw all (give_back-between (w ++ r) (length w) (run is_identifier_byte (w ++ r)) h (omega arith) ∙ give_back-alone w r (length w) (omega arith)))

identifier_length-extended : (w r : List ℕ) → end_or_whitespace r ≡ true → identifier_length (w ++ r) ≡ identifier_length w
unfolding identifier_length
identifier_length-extended w r f = rw (run-before is_identifier_byte w r identifier-fails f) (give_back-alone w r (run is_identifier_byte w) (run-le is_identifier_byte w))

identifier-alone : (w r : List ℕ) (k l : ℕ) → l ≤ length w → identifier (w ++ r) ≡ found k l → identifier w ≡ found k l
unfolding identifier
identifier-alone w r k l most e =
    let within : identifier_length (w ++ r) ≤ length w = omega (arith, length-of e) in
    let same = identifier_length-alone w r within in
    rw (same, take-append-le (identifier_length w) w r (identifier_length-length w)) at e

identifier-extended : (w r : List ℕ) → end_or_whitespace r ≡ true → identifier (w ++ r) ≡ identifier w
unfolding identifier
identifier-extended w r f = rw (identifier_length-extended w r f, take-append-le (identifier_length w) w r (identifier_length-length w))

-- Whitespace
whitespace-alone : (w r : List ℕ) (k l : ℕ) → l ≤ length w → whitespace (w ++ r) ≡ found k l → whitespace w ≡ found k l
unfolding whitespace
whitespace-alone w r k l most e =
    let within : run is_whitespace (w ++ r) ≤ length w = omega (arith, length-of e) in
    rw (run_alone is_whitespace w r within, take-append-le (run is_whitespace w) w r (run-le is_whitespace w)) at e

pub whitespace-extended : (w r : List ℕ) → starts is_whitespace r ≡ false → whitespace (w ++ r) ≡ whitespace w
unfolding whitespace
whitespace-extended w r f = rw (run-extended is_whitespace w r (run_none is_whitespace r f), take-append-le (run is_whitespace w) w r (run-le is_whitespace w))

-- whitespace is Space or Blank
pub whitespace-kind : (s : List ℕ) (k l : ℕ) → whitespace s ≡ found k l → (is_space k || eqb k Blank) ≡ true
unfolding whitespace
whitespace-kind s k l e = rw (← kind-of e) (go (leb 2 (count (is "\n") (take (run is_whitespace s) s))))
  where
    go : (b : Bool) → (is_space (cond b Blank Space) || eqb (cond b Blank Space) Blank) ≡ true
    go true = refl
    go false = refl

-- Comments
-- every character of a quoted text passes a test
abbrev all_of : (ℕ → Bool) → String → Bool
all_of p S.[] = true
all_of p (S.◌∷◌ c t) = p (code c) && all_of p t

-- a run goes over a quoted text whose characters pass
run-quoted : (p : ℕ → Bool) (t : String) (s : List ℕ) → all_of p t ≡ true → begins t s ≡ true → size t ≤ run p s
run-quoted p S.[] s a e = omega arith
run-quoted p (S.◌∷◌ c t) [] a e = absurd (false≢true e)
run-quoted p (S.◌∷◌ c t) (b ∷ s) a e =
    let same : b ≡ code c = is_code c b (and_left (is c b) (begins t s) e) in
    let pass : p b ≡ true = rw same (and_left (p (code c)) (all_of p t) a) in
    rw pass (omega (arith, run-quoted p t s (and_right (p (code c)) (all_of p t) a) (and_right (is c b) (begins t s) e)))

-- Where the text ends with the lexeme
-- of at least so many bytes
abbrev at_least : ℕ → ℕ → ℕ → Bool
at_least n k l = leb n l

-- of at most so many bytes
abbrev at_most : ℕ → ℕ → ℕ → Bool
at_most n k l = leb l n

-- what a lexeme within `w` begins with is read in `w`
alone-begins : (t : String) (w r : List ℕ) (x y x' y' : Step) → Finds (at_least (size t)) x → Again (at_most (length w)) x x' → Again (at_most (length w)) y y' → Again (at_most (length w)) (cond (begins t (w ++ r)) x y) (cond (begins t w) x' y')
alone-begins t w r x y x' y' n f g = record {
  again = λ k l h e. branch (begins t (w ++ r)) e
      (λ u e.
      let inside : size t ≤ length w = omega (arith, leb-true (size t) l (n.each k l e), leb-true l (length w) h) in
      let here : begins t w ≡ true = sym (begins-alone t w r inside) ∙ u in
      rw here (f.again k l h e))
      (λ u e. rw (begins-part t w r u) (g.again k l h e));
}

alone-line : (t : String) (w r : List ℕ) (k : ℕ) (y y' : Step) → all_of is_not_lf t ≡ true → Again (at_most (length w)) y y' → Again (at_most (length w)) (cond (begins t (w ++ r)) (found k (run is_not_lf (w ++ r))) y) (cond (begins t w) (found k (run is_not_lf w)) y')
alone-line t w r k y y' a g = record {
  again = λ k l h e. branch (begins t (w ++ r)) e
      (λ u e.
      let within : run is_not_lf (w ++ r) ≤ length w = omega (arith, length-of e, leb-true l (length w) h) in
      let here : begins t w ≡ true = sym (begins-alone t w r (omega (arith, run-quoted is_not_lf t (w ++ r) a u))) ∙ u in
      rw here (rw (run_alone is_not_lf w r within) at e))
      (λ u e. rw (begins-part t w r u) (g.again k l h e));
}

alone-starts : (p : ℕ → Bool) (w r : List ℕ) (x y x' y' : Step) → 0 < length w → Again (at_most (length w)) x x' → Again (at_most (length w)) y y' → Again (at_most (length w)) (cond (starts p (w ++ r)) x y) (cond (starts p w) x' y')
alone-starts p w r x y x' y' h = again-cond (at_most (length w)) (starts p (w ++ r)) (starts p w) x y x' y' (sym (starts-alone p w r h))

alone-hole_close : (innermost : ℕ) (w r : List ℕ) (y y' : Step) → 0 < length w → Again (at_most (length w)) y y' → Again (at_most (length w)) (cond (begins "}" (w ++ r) && eqb innermost HoleOpen) (found HoleClose 1) y) (cond (begins "}" w && eqb innermost HoleOpen) (found HoleClose 1) y')
alone-hole_close innermost w r y y' h = rw (begins-alone "}" w r h) (again-cond (at_most (length w)) (begins "}" w && eqb innermost HoleOpen) (begins "}" w && eqb innermost HoleOpen) (found HoleClose 1) y (found HoleClose 1) y' refl (again-same (at_most (length w)) (found HoleClose 1)))

alone-number : (w r : List ℕ) → 0 < length w → Again (at_most (length w)) (number (w ++ r)) (number w)
alone-number w r some_left = record { again = λ k l h. number-alone w r k l some_left (leb-true l (length w) h) }

alone-identifier : (w r : List ℕ) → Again (at_most (length w)) (identifier (w ++ r)) (identifier w)
alone-identifier w r = record { again = λ k l h. identifier-alone w r k l (leb-true l (length w) h) }

alone-whitespace : (w r : List ℕ) → Again (at_most (length w)) (whitespace (w ++ r)) (whitespace w)
alone-whitespace w r = record { again = λ k l h. whitespace-alone w r k l (leb-true l (length w) h) }

least-closer : (innermost opener kind : ℕ) → Finds (at_least 1) (closer innermost opener kind)
unfolding closer
least-closer innermost opener kind = search (finds-cond, finds-found, finds-stop)

alone-monograph : (innermost : ℕ) (w r : List ℕ) → Again (at_most (length w)) (monograph innermost (w ++ r)) (monograph innermost w)
unfolding monograph
alone-monograph innermost w r = search (alone-begins, again-same, least-closer, finds-found, finds-stop) depth 60 fits 3000

alone-punctuation : (innermost : ℕ) (w r : List ℕ) → Again (at_most (length w)) (punctuation innermost (w ++ r)) (punctuation innermost w)
unfolding punctuation
alone-punctuation innermost w r = search (alone-begins, again-same, finds-found, alone-monograph) depth 60 fits 3000

alone-outside : (innermost : ℕ) (w r : List ℕ) → 0 < length w → Again (at_most (length w)) (outside innermost (w ++ r)) (outside innermost w)
unfolding outside is_not_lf
alone-outside innermost w r h = search (alone-line, alone-begins, alone-hole_close, alone-starts, alone-number, alone-identifier, alone-whitespace, alone-punctuation, again-same, again-stop, finds-found) depth 60 fits 3000

-- a lexeme outside strings that ends in `w` is found again where the text ends with `w`
pub outside_alone : (innermost : ℕ) (w r : List ℕ) (k l : ℕ) → 0 < length w → l ≤ length w → outside innermost (w ++ r) ≡ found k l → outside innermost w ≡ found k l
outside_alone innermost w r k l some_left most = (alone-outside innermost w r some_left).again k l (le-leb l (length w) most)

-- Before the end or whitespace
-- a kind other than whitespace, comments, opening quotes and a hole's closer
abbrev pub is_other : ℕ → Bool
is_other k = not (is_space k || eqb k Blank || (eqb k Shebang || eqb k LineComment) || (eqb k PlainDouble || eqb k FormatDouble) || (eqb k PlainTriple || eqb k FormatTriple || eqb k HoleClose))

-- the same, of a kind and a length
abbrev other : ℕ → ℕ → Bool
other k l = is_other k

record OtherKind (k : ℕ) : Type 0 where
  holds : is_other k ≡ true

other_kind : (k : ℕ) → is_other k ≡ true → OtherKind k
other_kind k h = record { holds = h }

other_kind-cond : (b : Bool) (x y : ℕ) → OtherKind x → OtherKind y → OtherKind (cond b x y)
other_kind-cond true x y p q = p
other_kind-cond false x y p q = q

other_kind-keyword : (w : List ℕ) → OtherKind (keyword_or_ident w)
unfolding keyword_or_ident
other_kind-keyword w = search (other_kind-cond, other_kind) depth 40

other-number : (s : List ℕ) → Finds other (number s)
unfolding number prefixed decimal fraction exponent
other-number s = search (finds-cond, finds-found, finds-stop) depth 40

other-closer : (innermost opener kind : ℕ) → is_other kind ≡ true → Finds other (closer innermost opener kind)
unfolding closer
other-closer innermost opener kind h = search (finds-cond, finds-found, finds-stop)

other-monograph : (innermost : ℕ) (s : List ℕ) → Finds other (monograph innermost s)
unfolding monograph
other-monograph innermost s = search (other-closer, finds-cond, finds-found, finds-stop) depth 60

other-punctuation : (innermost : ℕ) (s : List ℕ) → Finds other (punctuation innermost s)
unfolding punctuation
other-punctuation innermost s = search (other-monograph, finds-cond, finds-found) depth 60

-- numbers are of such a kind
pub number-other : (s : List ℕ) (k l : ℕ) → number s ≡ found k l → is_other k ≡ true
number-other s = (other-number s).each

-- identifiers and keywords are
pub identifier-other : (s : List ℕ) (k l : ℕ) → identifier s ≡ found k l → is_other k ≡ true
unfolding identifier
identifier-other s k l e = rw (← kind-of e) (other_kind-keyword (take (identifier_length s) s)).holds

-- punctuation is
pub punctuation-other : (innermost : ℕ) (s : List ℕ) (k l : ℕ) → punctuation innermost s ≡ found k l → is_other k ≡ true
punctuation-other innermost s = (other-punctuation innermost s).each

again-begins : (t : String) (w r : List ℕ) (x y x' y' : Step) → no_whitespace t ≡ true → end_or_whitespace r ≡ true → Again other x x' → Again other y y' → Again other (cond (begins t w) x y) (cond (begins t (w ++ r)) x' y')
again-begins t w r x y x' y' n f = again-cond other (begins t w) (begins t (w ++ r)) x y x' y' (begins-extended t w r n f)

again-starts : (p : ℕ → Bool) (w r : List ℕ) (x y x' y' : Step) → 0 < length w → Again other x x' → Again other y y' → Again other (cond (starts p w) x y) (cond (starts p (w ++ r)) x' y')
again-starts p w r x y x' y' h = again-cond other (starts p w) (starts p (w ++ r)) x y x' y' (starts-alone p w r h)

again-hole_close : (innermost : ℕ) (w r : List ℕ) (y y' : Step) → 0 < length w → Again other y y' → Again other (cond (begins "}" w && eqb innermost HoleOpen) (found HoleClose 1) y) (cond (begins "}" (w ++ r) && eqb innermost HoleOpen) (found HoleClose 1) y')
again-hole_close innermost w r y y' h = rw (begins-alone "}" w r h) (again-cond other (begins "}" w && eqb innermost HoleOpen) (begins "}" w && eqb innermost HoleOpen) (found HoleClose 1) y (found HoleClose 1) y' refl (again-same other (found HoleClose 1)))

again-number : (w r : List ℕ) → end_or_whitespace r ≡ true → Again other (number w) (number (w ++ r))
again-number w r f = again-equal other (number w) (number (w ++ r)) (number-extended w r f)

again-identifier : (w r : List ℕ) → end_or_whitespace r ≡ true → Again other (identifier w) (identifier (w ++ r))
again-identifier w r f = again-equal other (identifier w) (identifier (w ++ r)) (identifier-extended w r f)

again-whitespace : (s : List ℕ) (y : Step) → Again other (whitespace s) y
unfolding whitespace
again-whitespace s y = again-fails other (cond (leb 2 (count (is "\n") (take (run is_whitespace s) s))) Blank Space) (run is_whitespace s) y (go (leb 2 (count (is "\n") (take (run is_whitespace s) s))))
  where
    go : (b : Bool) → is_other (cond b Blank Space) ≡ false
    go true = refl
    go false = refl

again-monograph : (innermost : ℕ) (w r : List ℕ) → end_or_whitespace r ≡ true → Again other (monograph innermost w) (monograph innermost (w ++ r))
unfolding monograph is_whitespace
again-monograph innermost w r f = search (again-begins, again-same) depth 60 fits 3000

again-punctuation : (innermost : ℕ) (w r : List ℕ) → end_or_whitespace r ≡ true → Again other (punctuation innermost w) (punctuation innermost (w ++ r))
unfolding punctuation is_whitespace
again-punctuation innermost w r f = search (again-begins, again-same, again-monograph) depth 60 fits 3000

again-outside : (innermost : ℕ) (w r : List ℕ) → 0 < length w → end_or_whitespace r ≡ true → Again other (outside innermost w) (outside innermost (w ++ r))
unfolding outside is_whitespace
again-outside innermost w r h f = search (again-begins, again-hole_close, again-starts, again-number, again-identifier, again-whitespace, again-punctuation, again-fails, again-stop) depth 60 fits 3000

-- a lexeme of such a kind is found again before the end or whitespace
pub outside-before : (innermost : ℕ) (w r : List ℕ) (k l : ℕ) → 0 < length w → end_or_whitespace r ≡ true → is_other k ≡ true → outside innermost w ≡ found k l → outside innermost (w ++ r) ≡ found k l
outside-before innermost w r k l h f = (again-outside innermost w r h f).again k l

-- What a text begins with
-- a shebang
pub outside-shebang : (innermost : ℕ) (s : List ℕ) → begins "#!" s ≡ true → outside innermost s ≡ found Shebang (run is_not_lf s)
unfolding outside
outside-shebang innermost s u = rw u

-- a line comment
pub outside-comment : (innermost : ℕ) (s : List ℕ) → begins "//" s ≡ true → outside innermost s ≡ found LineComment (run is_not_lf s)
unfolding outside
outside-comment innermost s u = rw (begins-differs "/" "#" "/" "!" s u refl, u)

-- whitespace
pub outside-whitespace : (innermost : ℕ) (s : List ℕ) → starts is_whitespace s ≡ true → outside innermost s ≡ whitespace s
unfolding outside is_whitespace
outside-whitespace innermost s u =
    rw (begins-another is_whitespace "#" "!" s u refl, begins-another is_whitespace "/" "/" s u refl, begins-another is_whitespace "f" "\"\"\"" s u refl, begins-another is_whitespace "\"" "\"\"" s u refl, begins-another is_whitespace "f" "\"" s u refl, begins-another is_whitespace "\"" "" s u refl, begins-another is_whitespace "}" "" s u refl, starts-another is_digit s digit-fails u, starts-another is_letter s letter-fails u, u)
