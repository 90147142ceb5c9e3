-- One computed test over all 256 entries: each is the class of its place.
use Prim.Native.Nat.{ℕ}
use mathlib.Core.Path.{◌≡◌, refl}
use mathlib.Core.Bool.{Bool, true}
use mathlib.Core.List.{List}
use borrow.Author.Tests.{eqb-true}
use lib.Dec.{eqb}
use lib.ListN.{length, get_or}
use Rattle.rules.specs.Bytes.{is_whitespace, is_control, is_digit, is_letter, is_punctuation, class_of}
use Rattle.rules.proofs.Every.{every, entries}
use Rattle.token.specs.Table.{IsTable}
use Rattle.token.proofs.table.Goals as goal

abbrev is_class : ℕ → ℕ → Bool
is_class b x = eqb x (class_of b)

tested : (t : List ℕ) → length t ≡ 256 → every is_class t ≡ true → IsTable t
tested t l h = record { right = λ b lt. eqb-true (get_or t b 0) (class_of b) (entries is_class t h b (rw l lt)) }

pub returns : goal.returns
unfolding class_of is_whitespace is_control is_digit is_letter is_punctuation
returns c = tested _ refl refl
