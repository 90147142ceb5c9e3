-- What the answer on an entry says of it: which part it is, or none.
use native.Mathlib.Omega.{arith}
use mathlib.Core.Path.{◌≡◌, refl}
use mathlib.Core.Bool.{true, false}
use mathlib.Core.Option.{none, some}
use Rattle.rules.specs.Kinds.{StringInner, HoleOpen, between, is_escape}
use Rattle.rules.specs.Lent.{Lexeme}
use Rattle.token.specs.Codes.{escape_code}
use Rattle.token.specs.declared.Escape.{Escape}
use Rattle.token.specs.declared.Escape.TheVariants.{Single, Unicode4, UnicodeDelim}
use Rattle.cst.specs.Meaning.{if_part}

-- every escape's code is an Escape's
pub escape-code : (e : Escape) → is_escape (escape_code e) ≡ true
escape-code Single = refl
escape-code Unicode4 = refl
escape-code UnicodeDelim = refl

-- the part that a lexeme is known as is that lexeme
pub part_same : (l q : Lexeme) → some q ≡ if_part l → q ≡ l
unfolding if_part
part_same l q h = grind arith

module _ (l : Lexeme) (h : none ≡ if_part l) where
  -- what is no part has no part's kind
  pub no-part-kind : between StringInner HoleOpen l.kind ≡ false
  unfolding if_part
  no-part-kind = grind arith
