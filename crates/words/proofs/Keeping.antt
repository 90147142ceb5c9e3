-- The words of a refusal that is kept, by what it means.
use Rattle.std.proofs.Common.{◌<◌, ◌^◌, ◌≡◌}
use Rattle.std.proofs.Math.Option.{Option, some}
use Rattle.rules.specs.Reasons.{number_of}
use Rattle.rules.specs.Answers.{Refusal as RefusalRule}
use Rattle.rules.proofs.Spans.{low-of-span, high-of-span}
use Rattle.source.specs.Meaning.{refusal_meant}
use Rattle.source.specs.declared.Refusal.{Refusal}
use Rattle.words.specs.Refusals.{refusal_said}
use Rattle.words.specs.Walking.{kept_said}

pub kept_said_by : (k : Option RefusalRule) (r : Refusal) → r.at.low < 2 ^ 64 → k ≡ some (refusal_meant r) → refusal_said (number_of r.reason) r.at ≡ kept_said k
kept_said_by k r word e = rw (e, low-of-span r.at.low r.at.high word, high-of-span r.at.low r.at.high word)
