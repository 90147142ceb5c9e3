-- Which bytes are of a class, in the words of the rules.
use Rattle.std.specs.Prelude.{ℕ, Bool, not, ◌||◌, eqb}
use Rattle.rules.specs.Text.{is}

-- a byte that goes on an inner part which the byte `stop`, too, ends: `{` in a format string, a quote in a plain one
unfoldable pub is_inner_for : (stop : ℕ) → ℕ → Bool
is_inner_for stop b = not (is "\\" b || is "\"" b || is "\n" b || eqb b stop)
