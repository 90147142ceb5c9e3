-- What parts mean, and the answer to an entry.
use Rattle.std.specs.Prelude.{cond, Result, Ok, Err}
use Rattle.std.proofs.Math.Option.{Option, none, some}
use Rattle.rules.specs.Kinds.{StringInner, HoleOpen, between}
use Rattle.rules.specs.Lent.{Lexeme, lexeme}
use Rattle.source.specs.Meaning.{span_meant}
use Rattle.token.specs.Codes.{escape_code}
use Rattle.cst.specs.declared.StringPart.{StringPart}
use Rattle.cst.specs.declared.StringPart.TheVariants.{String, Escape, Hole}
use Rattle.cst.specs.declared.NoPart.{NoPart}

-- "At depth 1, StringInner and Escape are parts; a hole is one part, kind 14"
abbrev pub part_meant : StringPart → Lexeme
part_meant (String s) = lexeme StringInner (span_meant s)
part_meant (Escape s e) = lexeme (escape_code e) (span_meant s)
part_meant (Hole s) = lexeme HoleOpen (span_meant s)

abbrev pub as_part_meant : Result StringPart NoPart → Option Lexeme
as_part_meant (Ok p) = some (part_meant p)
as_part_meant (Err e) = none

-- a lexeme that is a part by its kind, 10 to 14
unfoldable pub if_part : Lexeme → Option Lexeme
if_part l = cond (between StringInner HoleOpen l.kind) (some l) none
