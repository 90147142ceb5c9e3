-- A number tells the reason: no two reasons have one number.
use Prim.Native.Nat.{ℕ}
use mathlib.Core.Path.{◌≡◌, refl, sym, ap, ◌∙◌}
use mathlib.Core.Bool.{Bool, true, false, cond, true≢false}
use mathlib.Core.List.{List, [], ◌∷◌}
use lib.Dec.{eqb}
use Rattle.std.proofs.Math.Bool.{Bool-set}
use Rattle.std.specs.List.{list_any}
use Rattle.std.proofs.lemmas.Bool.{ne_eqb}
use Rattle.rules.specs.Refusals.{is_named, numbers}
use Rattle.rules.specs.Reasons.{number_of}
use Rattle.rules.specs.declared.refusal.Unnamed.{Unnamed}
use Rattle.rules.specs.declared.refusal.Reason.{Reason}
use Rattle.rules.specs.declared.refusal.Reason.TheVariants.{NotUtf8, TooLong, BadSpan, ControlByte, NotAscii, UnknownPunctuation, LoneHash, NoBinaryDigit, NoHexDigit, NoFractionDigit, NoExponentDigit, NoClosingBrace, FewHexDigits, EscapeAtEnd, EscapedLineEnd, EscapedNotAscii, NothingOpen, AnotherDue, UnclosedBracket, UnclosedHole, UnclosedString, UnclosedFormat, StackFull, ListFull, WrongForm, UnknownEscape, CapitalEscape, NoDigits, ManyDigits, NotScalar, OutputFull, NoString, Other}

-- a number is none of these: what a match on them knows in its last arm, behind what was known before it
abbrev pub IsNone : List ℕ → ℕ → Type 0 → Type 0
IsNone [] n before = before
IsNone (k ∷ ks) n before = IsNone ks n (before × (n ≡ k → ⊥))

none-any : (ks : List ℕ) (n : ℕ) (before : Type 0) → IsNone ks n before → (list_any (eqb n) ks ≡ false) × before
none-any [] n before h = (refl, h)
none-any (k ∷ ks) n before h =
    let rest = none-any ks n (before × (n ≡ k → ⊥)) h in
    (rw (ne_eqb n k rest.1.1) rest.0, rest.1.0)

pub none_unnamed : (n : ℕ) → IsNone numbers n (Unit {0}) → is_named n ≡ false
none_unnamed n h = (none-any numbers n (Unit {0}) h).0

-- in the order of their numbers
reasons : List Reason
reasons =
    NotUtf8 ∷ TooLong ∷ BadSpan ∷ ControlByte ∷ NotAscii ∷ UnknownPunctuation ∷ LoneHash ∷ NoBinaryDigit ∷
    NoHexDigit ∷ NoFractionDigit ∷ NoExponentDigit ∷ NoClosingBrace ∷ FewHexDigits ∷ EscapeAtEnd ∷ EscapedLineEnd ∷
    EscapedNotAscii ∷ NothingOpen ∷ AnotherDue ∷ UnclosedBracket ∷ UnclosedHole ∷ UnclosedString ∷ UnclosedFormat ∷
    StackFull ∷ ListFull ∷ WrongForm ∷ UnknownEscape ∷ CapitalEscape ∷ NoDigits ∷ ManyDigits ∷ NotScalar ∷
    OutputFull ∷ NoString ∷ []

first_of : List Reason → ℕ → Reason
first_of [] n = NotUtf8
first_of (r ∷ rs) n = cond (eqb n (number_of r)) r (first_of rs n)

reason_by : (n : ℕ) (b : Bool) → is_named n ≡ b → Reason
reason_by n true e = first_of reasons n
reason_by n false e = Other (record { number = n; not_named = e })

by-unnamed : (u : Unnamed) (b : Bool) (e : is_named u.number ≡ b) → reason_by u.number b e ≡ Other u
unfolding reason_by
by-unnamed u true e = absurd (true≢false (sym e ∙ u.not_named))
by-unnamed u false e = ap (λ h. Other (record { number = u.number; not_named = h })) (Bool-set _ _ e u.not_named)

reason-back : (r : Reason) → reason_by (number_of r) (is_named (number_of r)) refl ≡ r
unfolding reason_by first_of reasons
reason-back (Other u) = by-unnamed u (is_named u.number) refl
reason-back r = refl

pub reasons-apart : (r s : Reason) → number_of r ≡ number_of s → r ≡ s
reasons-apart r s e = sym (reason-back r) ∙ ap (λ n. reason_by n (is_named n) refl) e ∙ reason-back s
