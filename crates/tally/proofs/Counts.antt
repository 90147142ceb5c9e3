-- Two tallies with the same counts.
use Prim.Native.Nat.{ℕ}
use mathlib.Core.Path.{◌≡◌}
use Rattle.rules.specs.Tally.{Tally}

abbrev counts : (accepted refused steps : ℕ) → Tally
counts a r n = record { accepted = a; refused = r; steps = n }

-- tallies are the same where each count is
pub same-counts : {a r n a' r' n' : ℕ} → a ≡ a' → r ≡ r' → n ≡ n' → counts a r n ≡ counts a' r' n'
same-counts p q s = rw (p, q, s)
