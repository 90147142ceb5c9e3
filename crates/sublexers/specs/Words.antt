-- Identifiers by what a table holds.
use Rattle.std.specs.Prelude.{ℕ, Bool, ◌||◌, List, eqb, take, get_or}
use Rattle.rules.specs.Text.{is, run}
use Rattle.rules.specs.Bytes.{Digit, Letter}
use Rattle.rules.specs.Step.{Step, found, give_back, keyword_or_ident}

-- an identifier's byte, where a table has its class
abbrev pub is_identifier_byte_in : List ℕ → ℕ → Bool
is_identifier_byte_in table b = eqb (get_or table b 0) Letter || eqb (get_or table b 0) Digit || is "-" b

-- the rules' `identifier`, by any test of a byte
unfoldable pub identifier_by : (ℕ → Bool) → List ℕ → Step
identifier_by is_any s = found (keyword_or_ident (take (give_back s (run is_any s)) s)) (give_back s (run is_any s))
