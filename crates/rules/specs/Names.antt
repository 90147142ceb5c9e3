-- "`is_identifier` and `is_keyword` answer on bytes."
use Rattle.std.specs.Prelude.{ℕ, ◌-◌, List, Bool, not, ◌&&◌, eqb, drop, length}
use Rattle.rules.specs.Text.{starts, begins, all}
use Rattle.rules.specs.Bytes.{is_letter, is_identifier_byte}
use Rattle.rules.specs.Kinds.{Ident}
use Rattle.rules.specs.Step.{keyword_or_ident}

-- a word that the lexer gives another kind than Ident
unfoldable pub is_keyword : List ℕ → Bool
is_keyword w = not (eqb (keyword_or_ident w) Ident)

-- "starts with an ASCII letter or `_`, takes ASCII letters, digits, `_`, `-`", has no `-` at its end, and is no keyword
unfoldable pub is_identifier : List ℕ → Bool
is_identifier w = starts is_letter w && all is_identifier_byte w && not (begins "-" (drop (length w - 1) w)) && not (is_keyword w)
