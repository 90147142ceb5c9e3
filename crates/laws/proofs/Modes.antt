-- Whether a string goes on after a lexeme follows from its kind: computed tests over all kinds, and what may be open inside what.
use Prim.Native.Nat.{ℕ, ◌<◌}
use mathlib.Core.Path.{◌≡◌, refl, sym, ◌∙◌}
use mathlib.Core.List.{List, [], ◌∷◌}
use mathlib.Core.Bool.{Bool, true, false, cond, not, ◌&&◌, ◌||◌, beq, false≢true, true≢false}
use native.Mathlib.Omega.{arith}
use borrow.Author.Tests.{eqb-true, not-true}
use lib.Dec.{eqb}
use lib.ListN.{drop}
use Rattle.rules.specs.Kinds.{FormatDouble, FormatTriple, QuoteClose, StringInner, HoleOpen, HoleClose, LParen, RParen, LBracket, RBracket, LBrace, RBrace, is_quote_open, is_format, is_escape, is_opener, is_closer}
use Rattle.rules.specs.Step.{found, step}
use Rattle.rules.specs.Lexing.{innermost, open_after, codes_after}
use Rattle.rules.proofs.Text.{decide, either, and_left, and_right, same_truth}
use Rattle.rules.proofs.Every.{implied}
use Rattle.rules.proofs.Bounds.{found-kind}
use Rattle.laws.proofs.StepKinds.{is_of_string, may_stand, step-kind}

-- kinds after which the text goes on in a string
abbrev pub string_after : ℕ → Bool
string_after k = is_quote_open k || eqb k StringInner || is_escape k || eqb k HoleClose

-- a hole is open in a format string, any other opener outside of strings
abbrev stands_in : (opener outer : ℕ) → Bool
stands_in k outer = cond (eqb k HoleOpen) (is_format outer) (not (is_quote_open outer))

-- what is open stands each in the next
abbrev pub nested : List ℕ → Bool
nested [] = true
nested (k ∷ openers) = stands_in k (innermost openers) && nested openers

-- an opener: a string goes on after a quote, and after no other opener
opener-mode : (k : ℕ) → k < 60 → is_opener k ≡ true → is_quote_open k ≡ string_after k
unfolding is_opener
opener-mode k lt o = same_truth (is_quote_open k) (string_after k) (implied 60 is_opener (λ k. beq (is_quote_open k) (string_after k)) refl k lt o)

-- a step in a string gives no opener but a hole
opener-place : (k : ℕ) → k < 60 → is_opener k ≡ true → eqb k HoleOpen ≡ false → is_of_string k ≡ false
unfolding is_opener
opener-place k lt o h = not-true (is_of_string k) (implied 60 (λ k. is_opener k && not (eqb k HoleOpen)) (λ k. not (is_of_string k)) refl k lt (rw (o, h)))

-- neither opener nor closer: a string goes on after what a step in it gave
other-mode : (k : ℕ) → k < 60 → is_opener k ≡ false → is_closer k ≡ false → is_of_string k ≡ string_after k
unfolding is_opener is_closer
other-mode k lt o c = same_truth (is_of_string k) (string_after k) (implied 60 (λ k. not (is_opener k) && not (is_closer k)) (λ k. beq (is_of_string k) (string_after k)) refl k lt (rw (o, c)))

-- a format string is a string
format-quote : (k : ℕ) → is_format k ≡ true → is_quote_open k ≡ true
format-quote k f = either (eqb k FormatDouble) (eqb k FormatTriple) f (λ e. rw (eqb-true k FormatDouble e) refl) (λ e. rw (eqb-true k FormatTriple e) refl)

-- the five closers
closer-cases : (P : ℕ → Type 0) (k : ℕ) → P QuoteClose → P HoleClose → P RParen → P RBracket → P RBrace → is_closer k ≡ true → P k
unfolding is_closer
closer-cases P k q h p b c e =
    either (eqb k QuoteClose || eqb k HoleClose || eqb k RParen || eqb k RBracket) (eqb k RBrace) e
    (λ e. either (eqb k QuoteClose || eqb k HoleClose || eqb k RParen) (eqb k RBracket) e
    (λ e. either (eqb k QuoteClose || eqb k HoleClose) (eqb k RParen) e
    (λ e. either (eqb k QuoteClose) (eqb k HoleClose) e (λ e. rw (eqb-true k QuoteClose e) q) (λ e. rw (eqb-true k HoleClose e) h))
    (λ e. rw (eqb-true k RParen e) p)) (λ e. rw (eqb-true k RBracket e) b)) (λ e. rw (eqb-true k RBrace e) c)

-- where a closer takes an opener, a string goes on if the opener stands in one
closer-mode : (t outer k : ℕ) → stands_in t outer ≡ true → is_closer k ≡ true → is_of_string k ≡ is_quote_open t → may_stand t k ≡ true → is_quote_open outer ≡ string_after k
closer-mode t outer k stands c = closer-cases (λ k. is_of_string k ≡ is_quote_open t → may_stand t k ≡ true → is_quote_open outer ≡ string_after k) k
    (λ o m. decide (eqb t HoleOpen)
    (λ e. let none_open : true ≡ is_quote_open HoleOpen = rw (eqb-true t HoleOpen e) at o in absurd (true≢false none_open))
    (λ e. not-true (is_quote_open outer) (rw e at stands)))
    (λ o m. format-quote outer (rw m at stands))
    (λ o m. not-true (is_quote_open outer) (rw (eqb-true t LParen m) at stands))
    (λ o m. not-true (is_quote_open outer) (rw (eqb-true t LBracket m) at stands))
    (λ o m. not-true (is_quote_open outer) (rw (eqb-true t LBrace m) at stands)) c

-- where nothing is open a step gives no closer
closer-open : (k : ℕ) → is_closer k ≡ true → is_of_string k ≡ is_quote_open (innermost []) → may_stand (innermost []) k ≡ true → ⊥
closer-open k c = closer-cases (λ k. is_of_string k ≡ is_quote_open (innermost []) → may_stand (innermost []) k ≡ true → ⊥) k
    (λ o m. true≢false o) (λ o m. false≢true m) (λ o m. false≢true m) (λ o m. false≢true m) (λ o m. false≢true m) c

-- what is open after a lexeme of a kind: a string is innermost where the kind says so
abbrev pub ModeAfter : List ℕ → ℕ → Type 0
ModeAfter openers k = (is_quote_open (innermost openers) ≡ string_after k) × (nested openers ≡ true)

-- after a closer, and after an opener
closed-mode : (openers : List ℕ) (k : ℕ) → nested openers ≡ true → is_closer k ≡ true → is_of_string k ≡ is_quote_open (innermost openers) → may_stand (innermost openers) k ≡ true → ModeAfter (drop 1 openers) k
closed-mode [] k ne c o m = absurd (closer-open k c o m)
closed-mode (t ∷ openers) k ne c o m = (closer-mode t (innermost openers) k (and_left (stands_in t (innermost openers)) _ ne) c o m, and_right (stands_in t (innermost openers)) (nested openers) ne)

opened-mode : (openers : List ℕ) (k : ℕ) → k < 60 → nested openers ≡ true → is_opener k ≡ true → is_of_string k ≡ is_quote_open (innermost openers) → may_stand (innermost openers) k ≡ true → ModeAfter (k ∷ openers) k
opened-mode openers k lt ne op o m = (
  opener-mode k lt op,
  decide (eqb k HoleOpen)
      (λ e. let f : is_format (innermost openers) ≡ true = rw e at m in rw (e, f) ne)
      (λ e. let f : is_quote_open (innermost openers) ≡ false = sym o ∙ opener-place k lt op e in rw (e, f) ne),
)

-- after any step
pub mode-after : (openers s : List ℕ) (k n : ℕ) → nested openers ≡ true → step (innermost openers) s ≡ found k n → ModeAfter (codes_after openers k) k
unfolding open_after
mode-after openers s k n ne e =
    let lt : k < 60 = omega (arith, found-kind (innermost openers) s k n e) in
    let h = step-kind (innermost openers) s k n e in
    decide (is_opener k)
    (λ op. rw op (opened-mode openers k lt ne op h.0 h.1))
    (λ op. decide (is_closer k)
    (λ c. rw (op, c) (closed-mode openers k ne c h.0 h.1))
    (λ c. rw (op, c) (sym h.0 ∙ other-mode k lt op c, ne)))
