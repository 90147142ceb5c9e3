-- Of a length that no arm has there is no keyword.
use mathlib.Core.Path.{sym}
use native.Mathlib.Omega.{arith}
use Rattle.token.specs.Codes.{code_of}
use Rattle.sublexers.proofs.Identifier.{words_none, words_six}
use Rattle.sublexers.proofs.ident.get_keyword_or_ident.Goals as goal

pub returns-in_default-43 : goal.returns-in_default-43
unfolding code_of
returns-in_default-43 c = grind (arith, words_six)

pub returns-in_default-44 : goal.returns-in_default-44
unfolding code_of
returns-in_default-44 c = sym (words_none c.args.ident.now (omega arith))
