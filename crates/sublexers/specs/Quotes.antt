-- A string's step in the code's terms: the byte that ends an inner part beside a quote, and whether quotes are triple.
use Rattle.std.specs.Prelude.{ℕ, suc, List, Bool, cond, not, ◌||◌, eqb, drop}
use Prim.Native.Char.{code}
use Rattle.rules.specs.Text.{begins, starts, run}
use Rattle.rules.specs.Kinds.{is_format, QuoteClose, HoleOpen, StringInner}
use Rattle.rules.specs.Step.{Step, found}
use Rattle.scan.specs.Classes.{is_inner_for}
use Rattle.sublexers.specs.ByClass.{escaped}

-- the brace in a format string, a quote in a plain one
abbrev pub stop_of : (quote : ℕ) → ℕ
stop_of quote = cond (is_format quote) (code "{") (code "\"")

-- an inner part: one byte, and on to before `\`, a quote, LF, or the byte `end`
abbrev pub inner_by : (end : ℕ) → List ℕ → Step
inner_by end s = found StringInner (suc (run (is_inner_for end) (drop 1 s)))

-- the rules' `inside`, by these two: a law says that it is `inside` of every opener that has them
unfoldable pub inside_by : (end : ℕ) (triple : Bool) → List ℕ → Step
inside_by end triple s =
    cond (begins "\\" s) (escaped s) (
    cond (begins "\"" s) (cond (not triple || begins "\"\"\"" s) (found QuoteClose (cond triple 3 1)) (inner_by end s)) (
    cond (starts (λ b. eqb b end) s) (found HoleOpen 1)
    (inner_by end s)))
