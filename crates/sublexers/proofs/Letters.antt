-- Laws of a text that begins with a letter: by position, and by what a right table holds.
use Prim.Native.Nat.{ℕ, suc, ◌+◌, ◌<◌}
use mathlib.Core.Path.{◌≡◌, refl}
use mathlib.Core.List.{List, [], ◌∷◌}
use mathlib.Core.Bool.{Bool, cond, ◌&&◌, ◌||◌, beq}
use native.Mathlib.Omega.{arith}
use Rattle.std.proofs.lemmas.Grind.{common_steps}
use lib.Dec.{eqb}
use lib.ListN.{drop, get_or}
use lib.Seq.{drop-drop}
use Rattle.rules.specs.Text.{is, begins, run}
use Rattle.rules.specs.Bytes.{is_whitespace, is_control, is_digit, is_letter, is_punctuation, is_identifier_byte, class_of, Digit, Letter}
use Rattle.rules.specs.Kinds.{FormatDouble, FormatTriple}
use Rattle.rules.specs.Step.{found}
use Rattle.rules.proofs.Text.{same_truth}
use Rattle.rules.proofs.Every.{below}
use Rattle.rules.proofs.Runs.{begins-at, begins-more}
use Rattle.token.specs.Table.{IsTable}
use Rattle.sublexers.specs.Words.{is_identifier_byte_in, identifier_by}
use Rattle.sublexers.proofs.Numbers.{some_inside}
use Rattle.sublexers.specs.ByClass.{lettered_by}

-- two quotes two bytes further
pub quotes_at : (t : List ℕ) (at : ℕ) → begins "\"\"" (drop (at + 2) t) ≡ is "\"" (get_or t (at + 2) 0) && is "\"" (get_or t (at + 3) 0)
quotes_at t at =
    let three : at + 2 + 1 ≡ at + 3 = omega arith in
    rw (begins-more "\"" "\"" t (at + 2) refl, begins-at "\"" t (at + 2 + 1) refl, three)

-- a letter: an `f` with a quote behind it opens a format string
pub letter_at : (is_any : ℕ → Bool) (first : ℕ) (t s : List ℕ) (at : ℕ) →
    lettered_by is_any first (drop (at + 1) t) s ≡ cond (is "f" first && is "\"" (get_or t (at + 1) 0)) (cond (begins "\"\"" (drop (at + 2) t)) (found FormatTriple 4) (found FormatDouble 2)) (identifier_by is_any s)
unfolding lettered_by
letter_at is_any first t s at =
    let two : at + 1 + 1 ≡ at + 2 = omega arith in
    rw (begins-at "\"" t (at + 1) refl, drop-drop 1 (at + 1) t, two)

-- a letter by position
pub ruleset letter_steps = (common_steps, letter_at, quotes_at, some_inside)

-- A byte, by its class: one computed test over all of them
ident-byte : (b : ℕ) → b < 256 → eqb (class_of b) Letter || eqb (class_of b) Digit || is "-" b ≡ is_identifier_byte b
unfolding class_of is_whitespace is_control is_digit is_letter is_punctuation is_identifier_byte
ident-byte b h = same_truth _ _ (below 256 (λ b. beq (eqb (class_of b) Letter || eqb (class_of b) Digit || is "-" b) (is_identifier_byte b)) refl b h)

-- A right table: what it holds decides as the rules do
same-run : (p q : ℕ → Bool) (s : List ℕ) → ((i : ℕ) → get_or s i 0 < 256) → ((b : ℕ) → b < 256 → p b ≡ q b) → run p s ≡ run q s
same-run p q [] bytes e = refl
same-run p q (b ∷ s) bytes e = rw (e b (bytes 0), same-run p q s (λ i. bytes (suc i)) e) refl

pub lettered-in : (table : List ℕ) (first : ℕ) (rest s : List ℕ) → IsTable table → ((i : ℕ) → get_or s i 0 < 256) → lettered_by (is_identifier_byte_in table) first rest s ≡ lettered_by is_identifier_byte first rest s
unfolding lettered_by identifier_by
lettered-in table first rest s right bytes =
    rw (same-run (is_identifier_byte_in table) is_identifier_byte s bytes (λ b h. rw (right.right b h) (ident-byte b h))) refl
