-- What a walker keeps.
use Rattle.std.specs.Prelude.{Option, Some, None}
use Rattle.rules.specs.Walker.{Kept as KeptRule, nothing, too_long, not_utf8}
use Rattle.walker.specs.declared.Kept.{Kept}
use Rattle.walker.specs.declared.Kept.TheVariants.{TooLong, NotUtf8}

abbrev pub kept_meant : Option Kept → KeptRule
kept_meant None = nothing
kept_meant (Some TooLong) = too_long
kept_meant (Some (NotUtf8 at)) = not_utf8 at
