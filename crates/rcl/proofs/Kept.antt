-- What an opening keeps, in words: its position is within the limit, so that it has a span.
use Prim.Native.Nat.{ℕ}
use mathlib.Core.Path.{◌≡◌, refl}
use mathlib.Core.List.{List}
use mathlib.Core.Bool.{false}
use mathlib.Core.Option.{Option, none, some}
use native.Mathlib.Omega.{arith}
use lib.Dec.{ltb}
use lib.ListN.{length}
use borrow.Author.Tests.{ltb-false, le-leb}
use Rattle.rules.specs.Utf8.{first_bad}
use Rattle.rules.specs.Spans.{limit}
use Rattle.rules.specs.Walker.{bad_at, kept_of, kept_bad, kept_refusal}
use Rattle.rules.proofs.Text.{decide}
use Rattle.rules.proofs.Rfc3629.{first-bad}
use Rattle.words.specs.Walking.{kept_said, kept_as}

bad-said : (doc : ℕ) (text : List ℕ) (b : Option ℕ) → first_bad text ≡ b → ltb limit (length text) ≡ false → kept_said (kept_refusal doc (bad_at b)) ≡ kept_as doc (bad_at b)
unfolding kept_bad
bad-said doc text none e h = refl
bad-said doc text (some j) e h =
    rw (le-leb j limit (omega (arith, ((first-bad text j).0 e).inside, ltb-false limit (length text) h)))

pub opening_said : (doc : ℕ) (text : List ℕ) → kept_said (kept_refusal doc (kept_of text)) ≡ kept_as doc (kept_of text)
opening_said doc text = decide (ltb limit (length text)) (λ e. rw e) (λ e. rw e (bad-said doc text (first_bad text) refl e))
