-- What is open where a code is innermost.
use Rattle.std.specs.Prelude.{Option as CodeOption, Some, None}
use Prim.Native.Nat.{ℕ}
use mathlib.Core.Path.{◌≡◌, refl}
use mathlib.Core.Bool.{cond}
use mathlib.Core.List.{List}
use mathlib.Core.Option.{Option, none, some}
use Rattle.rules.specs.Kinds.{Nothing, is_opener}
use Rattle.rules.proofs.Text.{decide}
use Rattle.token.specs.Codes.{state_meant, if_opener}
use Rattle.token.specs.declared.State.{State as StateCode}
use Rattle.lexer.specs.declared.Cursor.{Cursor}
use Rattle.lexer.specs.Cursor.{start}
use Rattle.lexer.specs.Memory.{TopState}
use Rattle.sublexers.specs.Outcome.{innermost_of}

-- the code itself, or of none nothing
or_nothing : Option ℕ → ℕ
or_nothing none = Nothing
or_nothing (some k) = k

meant-code : (r : CodeOption StateCode) → innermost_of r ≡ or_nothing (state_meant r)
unfolding state_meant or_nothing
meant-code (Some s) = refl
meant-code None = refl

-- what stands for a code is that code if it is an opener's, and else nothing
pub opened-code : (r : CodeOption StateCode) (k : ℕ) → state_meant r ≡ if_opener k → innermost_of r ≡ cond (is_opener k) k Nothing
unfolding or_nothing if_opener
opened-code r k e = decide (is_opener k) (λ o. rw (meant-code r, e, o)) (λ o. rw (meant-code r, e, o))

-- at depth 0 nothing is open
pub nothing-open : (ks : List ℕ) → TopState 0 ks None
unfolding state_meant
nothing-open ks = refl

-- A cursor of zeros stands at a text's start
pub at-start : {c : Cursor} → (c.at ≡ 0) × ((c.depth ≡ 0) × ((c.lexemes ≡ 0) × ((c.spaces ≡ 0) × ((c.dropped ≡ 0) × (c.deepest ≡ 0))))) → c ≡ start
at-start z = rw (z.0, z.1.0, z.1.1.0, z.1.1.1.0, z.1.1.1.1.0, z.1.1.1.1.1) refl
