-- The fewest spaces so far, as the loop carries them; and how many the indent takes off.
use Rattle.std.specs.Prelude.{ℕ, min, Bool, cond, not, ◌&&◌, List, [], ◌∷◌, Option, Some, None}
use Rattle.rules.specs.Text.{begins}
use Rattle.rules.specs.Source.{resolved}
use Rattle.rules.specs.Lent.{Lexeme}
use Rattle.rules.specs.Indent.{is_string_part, spaces_after, is_blank_line}
use Rattle.source.specs.Meaning.{part_of}

-- the spaces that have been counted, fewest first: none, or one number
abbrev pub fewest_meant : Option ℕ → List ℕ
fewest_meant None = []
fewest_meant (Some n) = n ∷ []

-- what the bytes of a String part add, where the next part is a String or not
unfoldable pub line_indents : (next : Bool) → List ℕ → List ℕ
line_indents next w = cond (begins "\n" w && not (is_blank_line w && next)) (spaces_after w ∷ []) []

-- the fewest of what was counted and of one more
abbrev pub fewer : List ℕ → List ℕ → List ℕ
fewer [] ns = ns
fewer (n ∷ ms) [] = n ∷ []
fewer (n ∷ ms) (m ∷ ns) = min n m ∷ []

-- what a part adds
unfoldable pub part_indents : List ℕ → (next : Bool) → Lexeme → List ℕ
part_indents text next p = cond (is_string_part p) (line_indents next (part_of (resolved text p.at))) []

-- how many spaces the indent takes off a line
unfoldable pub taken_off : (indent : ℕ) → List ℕ → ℕ
taken_off indent w = cond (begins "\n" w) (min indent (spaces_after w)) 0
