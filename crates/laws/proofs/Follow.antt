-- What may follow a lexeme so that the same step finds it again.
use Prim.Native.Nat.{ℕ, ◌≤◌, ◌<◌}
use Prim.Native.String.{String}
use mathlib.Core.Path.{◌≡◌, refl, sym, ap, ◌∙◌}
use mathlib.Core.Bool.{Bool, true, false, cond, not, ◌&&◌, ◌||◌, false≢true}
use mathlib.Core.List.{List, ◌++◌}
use native.Mathlib.Omega.{arith}
use lib.Dec.{eqb}
use lib.ListN.{length, drop, length-drop}
use lib.Seq.{drop-append-le}
use Rattle.rules.specs.Text.{starts, begins, run}
use Rattle.rules.specs.Bytes.{is_whitespace, is_control, is_digit, is_letter, is_punctuation, is_not_lf}
use Rattle.rules.specs.Kinds.{Blank, Shebang, LineComment, PlainDouble, PlainTriple, FormatDouble, FormatTriple, StringInner, HoleOpen, HoleClose, is_space, is_format, is_triple}
use Rattle.rules.specs.Step.{found, outside, inside, is_inner, closes_quote}
use Rattle.rules.proofs.Text.{branch, starts-append, and_right, and_left}
use Rattle.rules.proofs.Runs.{run-extended}
use Rattle.rules.proofs.Bounds.{size}
pub use Rattle.laws.proofs.Lookahead.{end_or_whitespace}
use Rattle.laws.proofs.Lookahead.{not-true, begins-append, begins-replaced, begins-further, begins-whole, run_alone, run_none}
use Rattle.laws.proofs.Outside.{is_other, number-other, identifier-other, punctuation-other, whitespace-kind, whitespace-extended, outside_alone, outside-before, outside-shebang, outside-comment, outside-whitespace}
use Rattle.laws.proofs.Inside.{unicode_delim-least, unicode_delim-again, unicode4-least, unicode4-again, single_escape-least, single_escape-again, closes_quote-brace, closes_quote-replaced, closes_quote-inner}
use Rattle.rules.proofs.Steps.{kind-of, length-of, refuted}

-- after a lexeme of a kind outside strings: after a Space or Blank no whitespace; after a comment or shebang the end or LF; after an opening quote of one byte no two quotes; after three, or a hole's closer, anything; after any other the end or whitespace
unfoldable pub follows : (kind : ℕ) → List ℕ → Bool
follows k r =
    cond (is_space k || eqb k Blank) (not (starts is_whitespace r)) (
    cond (eqb k Shebang || eqb k LineComment) (not (starts is_not_lf r)) (
    cond (eqb k PlainDouble || eqb k FormatDouble) (not (begins "\"\"" r)) (
    cond (eqb k PlainTriple || eqb k FormatTriple || eqb k HoleClose) true
    (end_or_whitespace r))))

-- in a string, where `r` followed and now `r'` does: an inner part ends where it ended, and in triple quotes two quotes follow where two did
pub record FollowsInside (quote kind : ℕ) (r r' : List ℕ) : Type 0 where
  pub ends : kind ≡ StringInner → starts (is_inner quote) r' ≡ false
  pub quotes : kind ≡ StringInner → is_triple quote ≡ true → begins "\"\"" r' ≡ begins "\"\"" r

-- after any other kind the end or whitespace may follow
follows-other : (k : ℕ) (r : List ℕ) → is_other k ≡ true → follows k r ≡ end_or_whitespace r
unfolding follows
follows-other k r = go (is_space k || eqb k Blank) (eqb k Shebang || eqb k LineComment) (eqb k PlainDouble || eqb k FormatDouble) (eqb k PlainTriple || eqb k FormatTriple || eqb k HoleClose)
  where
    go : (a b c d : Bool) → not (a || b || c || d) ≡ true → cond a (not (starts is_whitespace r)) (cond b (not (starts is_not_lf r)) (cond c (not (begins "\"\"" r)) (cond d true (end_or_whitespace r)))) ≡ end_or_whitespace r
    go true b c d h = absurd (false≢true h)
    go false true c d h = absurd (false≢true h)
    go false false true d h = absurd (false≢true h)
    go false false false true h = absurd (false≢true h)
    go false false false false h = refl

-- a lexeme outside strings with which the text ends is found again before what may follow it
outside-extended : (innermost k : ℕ) (w r : List ℕ) → 0 < length w → outside innermost w ≡ found k (length w) → follows k r ≡ true → outside innermost (w ++ r) ≡ found k (length w)
unfolding outside follows
outside-extended innermost k w r some_left whole f =
    let other : is_other k ≡ true → outside innermost (w ++ r) ≡ found k (length w) = λ o. outside-before innermost w r k (length w) some_left (sym (follows-other k r o) ∙ f) o whole in
    branch (begins "#!" w) whole
    (λ u e.
    let end : starts is_not_lf r ≡ false = not-true (starts is_not_lf r) (rw (← kind-of e) at f) in
    outside-shebang innermost (w ++ r) (begins-append "#!" w r u) ∙ rw (run-extended is_not_lf w r (run_none is_not_lf r end)) e)
    (λ u e.
    branch (begins "//" w) e
    (λ u e.
    let end : starts is_not_lf r ≡ false = not-true (starts is_not_lf r) (rw (← kind-of e) at f) in
    outside-comment innermost (w ++ r) (begins-append "//" w r u) ∙ rw (run-extended is_not_lf w r (run_none is_not_lf r end)) e)
    (λ u e.
    branch (begins "f\"\"\"" w) e (λ u e. rw (begins-whole "f\"\"\"" w u (sym (length-of e)), ← kind-of e))
    (λ u e.
    branch (begins "\"\"\"" w) e (λ u e. rw (begins-whole "\"\"\"" w u (sym (length-of e)), ← kind-of e))
    (λ u e.
    branch (begins "f\"" w) e
    (λ u e.
    let end : begins "\"\"" r ≡ false = not-true (begins "\"\"" r) (rw (← kind-of e) at f) in
    rw (begins-whole "f\"" w u (sym (length-of e)), ← kind-of e, end))
    (λ u e.
    branch (begins "\"" w) e
    (λ u e.
    let end : begins "\"\"" r ≡ false = not-true (begins "\"\"" r) (rw (← kind-of e) at f) in
    rw (begins-whole "\"" w u (sym (length-of e)), ← kind-of e, end))
    (λ u e.
    branch (begins "}" w && eqb innermost HoleOpen) e
    (λ u e. rw (begins-whole "}" w (and_left (begins "}" w) (eqb innermost HoleOpen) u) (sym (length-of e)), ← kind-of e, and_right (begins "}" w) (eqb innermost HoleOpen) u))
    (λ u e.
    branch (starts is_digit w) e (λ u e. other (number-other w k (length w) e))
    (λ u e.
    branch (starts is_letter w) e (λ u e. other (identifier-other w k (length w) e))
    (λ u e.
    branch (starts is_whitespace w) e
    (λ u e.
    let end : starts is_whitespace r ≡ false = not-true (starts is_whitespace r) (rw (whitespace-kind w k (length w) e) at f) in
    outside-whitespace innermost (w ++ r) (starts-append is_whitespace w r u) ∙ whitespace-extended w r end ∙ e)
    (λ u e.
    branch (starts is_punctuation w) e (λ u e. other (punctuation-other innermost w k (length w) e))
    (λ u e.
    branch (starts is_control w) e (λ u e. refuted e) (λ u e. refuted e))))))))))))

-- a lexeme outside strings is found again before whatever may follow its kind
pub outside-follows : (innermost k : ℕ) (w r r' : List ℕ) → 0 < length w → outside innermost (w ++ r) ≡ found k (length w) → follows k r' ≡ true → outside innermost (w ++ r') ≡ found k (length w)
outside-follows innermost k w r r' some e f = outside-extended innermost k w r' some (outside_alone innermost w r k (length w) some (omega arith) e) f

-- a lexeme in a string is found again before a rest that may stand where the first did
pub inside-follows : (quote k : ℕ) (w r r' : List ℕ) → 0 < length w → inside quote (w ++ r) ≡ found k (length w) → FollowsInside quote k r r' → inside quote (w ++ r') ≡ found k (length w)
unfolding inside
inside-follows quote k w r r' some e f =
    let again : (t : String) → size t ≤ length w → begins t (w ++ r') ≡ begins t (w ++ r) = λ t h. begins-replaced t w r r' h in
    branch (begins "\\u{" (w ++ r)) e
    (λ u e.
    let here : begins "\\u{" (w ++ r') ≡ true = again "\\u{" (omega (arith, unicode_delim-least (w ++ r) k (length w) e)) ∙ u in
    rw here (unicode_delim-again w r r' k (length w) (omega arith) e))
    (λ not_delim e.
    branch (begins "\\u" (w ++ r)) e
    (λ u e.
    let six = unicode4-least (w ++ r) k (length w) e in
    let here : begins "\\u" (w ++ r') ≡ true = again "\\u" (omega arith) ∙ u in
    let other : begins "\\u{" (w ++ r') ≡ false = again "\\u{" (omega arith) ∙ not_delim in
    rw (other, here) (unicode4-again w r r' k (length w) (omega arith) e))
    (λ not_unicode e.
    branch (begins "\\" (w ++ r)) e
    (λ u e.
    let two = single_escape-least (w ++ r) k (length w) e in
    let here : begins "\\" (w ++ r') ≡ true = again "\\" (omega arith) ∙ u in
    let other : begins "\\u" (w ++ r') ≡ false = again "\\u" (omega arith) ∙ not_unicode in
    rw (begins-further "\\u" "\\u{" (w ++ r') refl other, other, here) (single_escape-again w r r' k (length w) (omega arith) e))
    (λ not_escape e.
    let other : begins "\\" (w ++ r') ≡ false = again "\\" some ∙ not_escape in
    rw (begins-further "\\" "\\u{" (w ++ r') refl other, begins-further "\\" "\\u" (w ++ r') refl other, other) (
    branch (closes_quote quote (w ++ r)) e
    (λ u e.
    let here : closes_quote quote (w ++ r') ≡ true = closes_quote-replaced quote w r r' (omega (arith, length-of e)) ∙ u in
    rw here e)
    (λ not_closed e.
    let brace : begins "{" (w ++ r') ≡ begins "{" (w ++ r) = again "{" some in
    branch (is_format quote && begins "{" (w ++ r)) e
    (λ u e.
    let here : begins "{" (w ++ r') ≡ true = brace ∙ and_right (is_format quote) (begins "{" (w ++ r)) u in
    rw (closes_quote-brace quote (w ++ r') here, brace, u) e)
    (λ u e.
    let kind : k ≡ StringInner = sym (kind-of e) in
    let rest : drop 1 (w ++ r) ≡ drop 1 w ++ r = drop-append-le 1 w r some in
    let within : run (is_inner quote) (drop 1 (w ++ r)) ≤ length (drop 1 w) = omega (arith, length-of e, length-drop 1 w) in
    let alone : run (is_inner quote) (drop 1 (w ++ r)) ≡ run (is_inner quote) (drop 1 w) = ap (run (is_inner quote)) rest ∙ run_alone (is_inner quote) (drop 1 w) r (rw rest at within) in
    let ended : run (is_inner quote) (drop 1 w ++ r') ≡ run (is_inner quote) (drop 1 w) = run-extended (is_inner quote) (drop 1 w) r' (run_none (is_inner quote) r' (f.ends kind)) in
    rw (closes_quote-inner quote w r r' some (sym (length-of e)) (f.quotes kind) not_closed, brace, u, drop-append-le 1 w r' some, ended) (rw alone at e)))))))
