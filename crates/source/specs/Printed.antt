-- What is printed of a refusal, byte for byte.
use Rattle.std.specs.Prelude.{ℕ, List, [], ◌++◌, codes, decimal}
use Rattle.std.proofs.Math.Option.{Option, none, some}
use Rattle.rules.specs.Spans.{Span}
use Rattle.rules.specs.Answers.{Refusal}

-- a number, a space before it
abbrev pub next : ℕ → List ℕ
next n = codes " " ++ decimal n

abbrev pub offsets : Span → List ℕ
offsets s = next s.start ++ next s.end

abbrev pub note_offsets : Option Span → List ℕ
note_offsets none = []
note_offsets (some s) = offsets s

-- "A refusal prints `refused`, number, start, end, and note start and end if any, on one line with single spaces."
abbrev pub refusal_text : Refusal → List ℕ
refusal_text r = codes "refused" ++ (next r.number ++ (offsets r.at ++ note_offsets r.note))
