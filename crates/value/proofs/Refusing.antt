-- Laws of the first refusal along a list.
use Rattle.std.proofs.Common.{◌≡◌, ℕ, zero, suc, List, [], ◌∷◌, drop, refl}
use Rattle.rules.specs.Answers.{given, refused, Verdict, accepted, and_then, first_refusal}
use Rattle.rules.specs.Lent.{Lexeme}

-- where one verdict after another is accepted, both are
pub both-accepted : (v w : Verdict) → and_then v w ≡ accepted → (v ≡ accepted) × (w ≡ accepted)
both-accepted (given u) w e = (refl, e)
both-accepted (refused r) w e = cc

-- where nothing is refused, each place is accepted
pub first-each : (f : Lexeme → Verdict) (ls : List Lexeme) (i : ℕ) {l : Lexeme} {rest : List Lexeme} → first_refusal f ls ≡ accepted → drop i ls ≡ l ∷ rest → f l ≡ accepted
first-each f [] zero e here = cc
first-each f [] (suc i) e here = cc
first-each f (p ∷ ps) zero {l} {rest} e here = let same : p ≡ l = cc in rw same at (both-accepted (f p) (first_refusal f ps) e).0
first-each f (p ∷ ps) (suc i) e here = first-each f ps i (both-accepted (f p) (first_refusal f ps) e).1 here
