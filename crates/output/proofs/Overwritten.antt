-- Laws of bytes written over an output, of a piece that is written whole or not, and of chunks one after another.
use Prim.Native.Nat.{ℕ, ◌+◌, ◌≤◌, ◌<◌}
use native.Mathlib.Omega.{arith}
use mathlib.Core.Path.{◌≡◌, refl, sym}
use mathlib.Core.List.{List, [], ◌∷◌, ◌++◌, append_assoc}
use borrow.Author.Tests.{leb-true}
use lib.Dec.{leb}
use lib.ListN.{length, take, drop, length-append}
use lib.Seq.{take-length, paste}
use Rattle.std.specs.Prelude.{Ok, Err}
use Rattle.std.proofs.lemmas.Grind.{common_steps}
use Rattle.std.proofs.lemmas.List.Edits.{paste_all, paste-paste, drop-paste}
use Rattle.rules.specs.Refusals.{OutputFull}
use Rattle.rules.specs.Spans.{nowhere, limit}
use Rattle.rules.specs.Answers.{accepted, refuse}
use Rattle.rules.specs.Output.{end_of, overwritten, Piece, written}
use Rattle.rules.proofs.Text.{decide}
use Rattle.output.specs.declared.Full.{Full}
use Rattle.output.specs.declared.Output.{Output}
use Rattle.output.specs.Places.{Put}

-- an output ends within its places
pub end-within : (out : List ℕ) → end_of out ≤ length out
end-within out = omega arith

-- an output ends at 2^48 − 1 at most
pub end-limit : (out : List ℕ) → end_of out ≤ limit
end-limit out = omega arith

-- bytes written over an output are the copy of all of them
pub overwritten-paste : (out : List ℕ) (at : ℕ) (w : List ℕ) → overwritten out at w ≡ paste out at w (length w)
overwritten-paste out at w = sym (paste_all out at w (length w) refl)

-- nothing written over an output leaves it
pub overwritten-nothing : (out : List ℕ) (at : ℕ) → overwritten out at [] ≡ out
overwritten-nothing out at = grind (arith, common_steps)

-- bytes written over an output leave its length
pub overwritten-length : (out : List ℕ) (at : ℕ) (w : List ℕ) → at + length w ≤ length out → length (overwritten out at w) ≡ length out
overwritten-length out at w h = grind (arith, common_steps)

-- bytes written over an output leave its end
pub end-overwritten : (out : List ℕ) (at : ℕ) (w : List ℕ) → at + length w ≤ length out → end_of (overwritten out at w) ≡ end_of out
end-overwritten out at w h = grind (arith, common_steps)

-- up to where the bytes end: what stood before them, then they
pub overwritten-take : (out : List ℕ) (at : ℕ) (w : List ℕ) → at + length w ≤ length out → take (at + length w) (overwritten out at w) ≡ take at out ++ w
overwritten-take out at w h = grind (arith, common_steps)

-- from where the bytes end on, the output is as it was
pub overwritten-drop : (out : List ℕ) (at : ℕ) (w : List ℕ) → at + length w ≤ length out → drop (at + length w) (overwritten out at w) ≡ drop (at + length w) out
overwritten-drop out at w h = rw (overwritten-paste out at w) (drop-paste out at w (length w) (omega arith) (omega arith))

-- bytes written after others are both written at once
pub overwritten-two : (out : List ℕ) (at : ℕ) (v w : List ℕ) → at + length v + length w ≤ length out → overwritten (overwritten out at v) (at + length v) w ≡ overwritten out at (v ++ w)
overwritten-two out at v w h =
    let twice = paste-paste out at v w (length v) (length w) refl refl (omega arith) in
    simp append_assoc (simp (take-length, ← length-append, append_assoc) at twice)

-- that, for a piece whose parts are copied one after the other
pub ruleset two_parts = (common_steps, overwritten-two)

-- a piece that was written fitted, the position is the one behind it, and the output is overwritten with it
pub put-ok : {w : List ℕ} {o o' : Output} {u : Unit {0}} → Put w o (Ok u) o' → (o.at + length w ≤ end_of o.bytes.now) × (o'.at ≡ o.at + length w) × (o'.bytes.now ≡ overwritten o.bytes.now o.at w)
put-ok {w} {o} {o'} p = grind (arith, common_steps)

-- one that was not did not fit, and position and output are as they were
pub put-err : {w : List ℕ} {o o' : Output} {e : Full} → Put w o (Err e) o' → (end_of o.bytes.now < o.at + length w) × (o'.at ≡ o.at) × (o'.bytes.now ≡ o.bytes.now)
put-err {w} {o} {o'} p = grind (arith, common_steps)

-- a chunk that fits, then the others
pub written-fits : (end at : ℕ) (c : Piece) (cs : List Piece) → at + length c.bytes ≤ end
    → written end at (c ∷ cs) ≡ record { bytes = c.bytes ++ (written end (at + length c.bytes) cs).bytes; verdict = (written end (at + length c.bytes) cs).verdict }
unfolding written
written-fits end at c cs h = grind (arith, common_steps)

-- a chunk that does not fit, where nothing is written any more
pub written-stops : (end at : ℕ) (c : Piece) (cs : List Piece) → end < at + length c.bytes → written end at (c ∷ cs) ≡ record { bytes = []; verdict = refuse OutputFull c.at }
unfolding written
written-stops end at c cs h = grind (arith, common_steps)

-- nothing to write, at a position within the output's end
pub written-nothing : (end at : ℕ) → at ≤ end → written end at [] ≡ record { bytes = []; verdict = accepted }
unfolding written
written-nothing end at h = grind (arith, common_steps)

-- nothing to write, at a position past the output's end
pub written-past : (end at : ℕ) → end < at → written end at [] ≡ record { bytes = []; verdict = refuse OutputFull nowhere }
unfolding written
written-past end at h = grind (arith, common_steps)

-- one chunk that fits
pub written-one-fits : (end at : ℕ) (c : Piece) → at + length c.bytes ≤ end → written end at (c ∷ []) ≡ record { bytes = c.bytes; verdict = accepted }
unfolding written
written-one-fits end at c h = grind (arith, common_steps)

-- one chunk that does not fit
pub written-one-not : (end at : ℕ) (c : Piece) → end < at + length c.bytes → written end at (c ∷ []) ≡ record { bytes = []; verdict = refuse OutputFull c.at }
written-one-not end at c h = written-stops end at c [] h

-- what is written ends within the output's end
pub written-within : (end at : ℕ) (cs : List Piece) → at ≤ end → at + length (written end at cs).bytes ≤ end
unfolding written
written-within end at [] h = omega (arith, h)
written-within end at (c ∷ cs) h = decide (leb (at + length c.bytes) end)
    (λ f.
    let more = written-within end (at + length c.bytes) cs (leb-true (at + length c.bytes) end f) in
    rw f (omega (arith, more, length-append c.bytes (written end (at + length c.bytes) cs).bytes)))
    (λ f. rw f (omega (arith, h)))
