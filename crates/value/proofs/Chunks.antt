-- Laws of the pieces that parts give, written one after another.
use Rattle.std.proofs.Common.{◌≡◌, ℕ, ◌+◌, ◌≤◌, ◌<◌, false, List, [], ◌∷◌, leb, eqb, length, refl, sym, ap, ◌∙◌, arith, length-append, add-zero, add_assoc}
use borrow.Author.Tests.{leb-true, leb-false}
use Rattle.rules.specs.Refusals.{OutputFull}
use Rattle.rules.specs.Spans.{nowhere}
use Rattle.rules.specs.Answers.{Answer, given, refused, Refusal, refuse, Verdict}
use Rattle.rules.specs.Kinds.{HoleOpen}
use Rattle.rules.specs.Lent.{Lexeme}
use Rattle.rules.specs.Output.{end_of, piece, overwritten, written}
use Rattle.rules.specs.Value.{part_bytes, value_pieces}
use Rattle.rules.proofs.Text.{decide}
use Rattle.output.proofs.Overwritten.{end-within, end-overwritten, overwritten-nothing, overwritten-two, written-fits, written-stops, written-nothing, written-past, written-within}
use Rattle.value.specs.Pieces.{reached_from, PartWritten, AllWritten}

-- where writing came to, counted from an earlier position
reached-on : (at n m : ℕ) (v : Verdict) → reached_from (at + n) m v ≡ reached_from at (n + m) v
reached-on at n m (given u) = ap given (add_assoc at n m)
reached-on at n m (refused r) = refl

module _ {text : List ℕ} {indent at : ℕ} {out : List ℕ} where
  -- no part is left, at a position within the output's end
  pub all-end : at ≤ end_of out → AllWritten text indent [] at out (given at) out
  all-end h =
      let ends = written-nothing (end_of out) at h in
      record { answered = rw (ends, add-zero at); output = rw ends (sym (overwritten-nothing out at)) }

  -- no part is left, at a position past the output's end
  pub all-past : end_of out < at → AllWritten text indent [] at out (refuse OutputFull nowhere) out
  all-past h =
      let ends = written-past (end_of out) at h in
      record { answered = rw ends; output = rw ends (sym (overwritten-nothing out at)) }

  module _ {p : Lexeme} {ps : List Lexeme} where
    -- a part whose bytes fit, then the others
    all-fits : {r : Answer ℕ} {out' : List ℕ} → eqb p.kind HoleOpen ≡ false → at + length (part_bytes text indent p) ≤ end_of out → AllWritten text indent ps (at + length (part_bytes text indent p)) (overwritten out at (part_bytes text indent p)) r out' → AllWritten text indent (p ∷ ps) at out r out'
    all-fits e h all =
        let b = part_bytes text indent p in
        let cs = value_pieces text indent ps in
        let w = written (end_of out) (at + length b) cs in
        let inside : at + length b ≤ length out = omega (arith, h, end-within out) in
        let ends = end-overwritten out at b inside in
        let room : at + length b + length w.bytes ≤ length out = omega (arith, written-within (end_of out) (at + length b) cs h, end-within out) in
        let here = written-fits (end_of out) at (piece b p.at) cs h in
        record {
          answered = rw (e, here) (
              all.answered ∙ ap (λ (n : ℕ). reached_from (at + length b) (length (written n (at + length b) cs).bytes) (written n (at + length b) cs).verdict) ends
              ∙ reached-on at (length b) (length w.bytes) w.verdict ∙ ap (λ (n : ℕ). reached_from at n w.verdict) (sym (length-append b w.bytes)));
          output = rw (e, here) (
              all.output ∙ ap (λ (n : ℕ). overwritten (overwritten out at b) (at + length b) (written n (at + length b) cs).bytes) ends ∙ overwritten-two out at b w.bytes room);
        }

    -- a part that is written, then the others
    pub all-on : {next : ℕ} {r : Answer ℕ} {mid out' : List ℕ} → PartWritten text indent p at out (given next) mid → AllWritten text indent ps next mid r out' → AllWritten text indent (p ∷ ps) at out r out'
    all-on {next} {r} {mid} {out'} part all = decide (eqb p.kind HoleOpen)
        (λ e.
        let t = (part.hole e).0 in
        let stays : next ≡ at = cc in
        let left : AllWritten text indent ps at out r out' = rw (stays, (part.hole e).1) at all in
        record { answered = rw e left.answered; output = rw e left.output })
        (λ e.
        let b = part_bytes text indent p in
        decide (leb (at + length b) (end_of out))
        (λ f.
        let t = rw f at (part.answered e) in
        let moves : next ≡ at + length b = cc in
        let puts : mid ≡ overwritten out at b = rw f at (part.output e) in
        all-fits e (leb-true (at + length b) (end_of out) f) (rw (moves, puts) at all))
        (λ f. let t = rw f at (part.answered e) in cc))

    -- a part that is not written ends it
    pub all-stop : {r : Refusal} {out' : List ℕ} → PartWritten text indent p at out (refused r) out' → AllWritten text indent (p ∷ ps) at out (refused r) out'
    all-stop {r} {out'} part = decide (eqb p.kind HoleOpen)
        (λ e. let t = (part.hole e).0 in cc)
        (λ e.
        let b = part_bytes text indent p in
        decide (leb (at + length b) (end_of out))
        (λ f. let t = rw f at (part.answered e) in cc)
        (λ f.
        let stops = written-stops (end_of out) at (piece b p.at) (value_pieces text indent ps) (leb-false (at + length b) (end_of out) f) in
        record {
          answered = rw (e, stops) (rw f at (part.answered e));
          output = rw (e, stops) (rw f at (part.output e) ∙ sym (overwritten-nothing out at));
        }))
