-- Laws of the pieces of a list as they are written one after another.
use Rattle.std.specs.Prelude.{Ok, Err}
use Prim.Native.Nat.{ℕ, ◌+◌, ◌≤◌, ◌<◌}
use native.Mathlib.Nat.{zero-add}
use native.Mathlib.Omega.{arith}
use mathlib.Core.Path.{◌≡◌, refl, sym, ap, ◌∙◌}
use mathlib.Core.List.{List, [], ◌∷◌, ◌++◌, append_assoc, append-nil}
use lib.ListN.{length, length-append}
use Rattle.rules.specs.Refusals.{OutputFull}
use Rattle.rules.specs.Answers.{Verdict, accepted, refuse}
use Rattle.rules.specs.Source.{resolved}
use Rattle.rules.specs.Kinds.{Blank}
use Rattle.rules.specs.Lent.{Lexeme}
use Rattle.rules.specs.Output.{end_of, Written, piece, written, overwritten}
use Rattle.rules.specs.Tidy.{gap}
use Rattle.source.specs.Meaning.{part_of}
use Rattle.output.specs.declared.Full.{Full}
use Rattle.output.specs.declared.Output.{Output}
use Rattle.output.specs.Places.{Put}
use Rattle.output.proofs.Overwritten.{end-within, end-overwritten, overwritten-nothing, overwritten-two, put-ok, put-err, written-fits, written-stops, written-nothing}
use Rattle.tidy.specs.Pieces.{pieces_after, WritesPieces}

-- what is to be written of all lexemes of a list
abbrev pub all_of : (text : List ℕ) → List Lexeme → (out : List ℕ) → Written
all_of text ls out = written (end_of out) 0 (pieces_after text Blank ls)

-- what is to be written of the lexemes that are left, at a position, where a lexeme of a kind stands before them
abbrev pub rest_of : (text : List ℕ) → (left : List Lexeme) → (out : List ℕ) → (at first : ℕ) → Written
rest_of text left out at first = written (end_of out) at (pieces_after text first left)

-- the pieces before those that are left are written: an output was `out` and is `now`
pub record Writing (text : List ℕ) (ls left : List Lexeme) (out now : List ℕ) (at first : ℕ) : Type 0 where
  pub before : List ℕ
  pub size : length before ≡ at
  pub room : at ≤ end_of out
  pub output : now ≡ overwritten out 0 before
  pub bytes : (all_of text ls out).bytes ≡ before ++ (rest_of text left out at first).bytes
  pub verdict : (all_of text ls out).verdict ≡ (rest_of text left out at first).verdict

-- before the first piece nothing is written
pub writing_start : (text : List ℕ) (ls : List Lexeme) (out : List ℕ) → Writing text ls ls out out 0 Blank
writing_start text ls out = record { before = []; size = refl; room = omega arith; output = sym (overwritten-nothing out 0); bytes = refl; verdict = refl }

-- what is written leaves the output's end
writing-end-same : {text : List ℕ} {ls left : List Lexeme} {out now : List ℕ} {at first : ℕ} → Writing text ls left out now at first → end_of now ≡ end_of out
writing-end-same {text} {ls} {out} w = ap end_of w.output ∙ end-overwritten out 0 w.before (omega (arith, w.size, w.room, end-within out))

-- a piece: the gap after a lexeme of a kind, and the lexeme
abbrev pub piece_of : (text : List ℕ) (first : ℕ) → Lexeme → List ℕ
piece_of text first l = gap first l.kind ++ part_of (resolved text l.at)

-- a piece that is written
pub writing-on : {text : List ℕ} {ls left : List Lexeme} {out : List ℕ} {o o' : Output} {first : ℕ} {u : Unit {0}} (l : Lexeme) → Writing text ls (l ∷ left) out o.bytes.now o.at first
    → Put (piece_of text first l) o (Ok u) o' → Writing text ls left out o'.bytes.now o'.at l.kind
writing-on {text} {ls} {left} {out} {o} {o'} {first} l w put =
    let at : ℕ = o.at in
    let now : List ℕ = o.bytes.now in
    let bytes : List ℕ = piece_of text first l in
    let p : (at + length bytes ≤ end_of now) × (o'.at ≡ at + length bytes) × (o'.bytes.now ≡ overwritten now at bytes) = put-ok put in
    let fits : at + length bytes ≤ end_of out = rw (writing-end-same w) at p.0 in
    let on : rest_of text (l ∷ left) out at first ≡ record { bytes = bytes ++ (rest_of text left out (at + length bytes) l.kind).bytes; verdict = (rest_of text left out (at + length bytes) l.kind).verdict } =
    written-fits (end_of out) at (piece bytes l.at) (pieces_after text l.kind left) fits in
    let both : overwritten (overwritten out 0 w.before) (length w.before) bytes ≡ overwritten out 0 (w.before ++ bytes) =
    ap (λ (n : ℕ). overwritten (overwritten out 0 w.before) n bytes) (sym (zero-add (length w.before)))
    ∙ overwritten-two out 0 w.before bytes (omega (arith, w.size, fits, end-within out)) in
    rw p.1
    (record {
      before = w.before ++ bytes;
      size = length-append w.before bytes ∙ ap (λ (n : ℕ). n + length bytes) w.size;
      room = fits;
      output = p.2 ∙ rw (w.output, ← w.size) both;
      bytes = w.bytes ∙ ap (λ (r : Written). w.before ++ r.bytes) on ∙ sym (append_assoc w.before bytes (rest_of text left out (at + length bytes) l.kind).bytes);
      verdict = w.verdict ∙ ap (λ (r : Written). r.verdict) on;
    })

-- where nothing more is written: what was written is all
writing-last : {text : List ℕ} {ls left : List Lexeme} {out now : List ℕ} {at first : ℕ} (v : Verdict) → Writing text ls left out now at first → rest_of text left out at first ≡ record { bytes = []; verdict = v } → WritesPieces text ls out v at now
writing-last {text} {ls} {left} {out} {now} {at} {first} v w last =
    let all : (all_of text ls out).bytes ≡ w.before = w.bytes ∙ ap (λ (r : Written). w.before ++ r.bytes) last ∙ append-nil w.before in
    record {
      answered = sym (w.verdict ∙ ap (λ (r : Written). r.verdict) last);
      bytes = sym (ap length all ∙ w.size);
      output = w.output ∙ ap (λ (r : List ℕ). overwritten out 0 r) (sym all);
    }

-- a piece that is not written
pub writing-stop : {text : List ℕ} {ls left : List Lexeme} {out : List ℕ} {o o' : Output} {first : ℕ} {e : Full} (l : Lexeme) → Writing text ls (l ∷ left) out o.bytes.now o.at first
    → Put (piece_of text first l) o (Err e) o' → WritesPieces text ls out (refuse OutputFull l.at) o'.at o'.bytes.now
writing-stop {text} {ls} {left} {out} {o} {o'} {first} l w put =
    let bytes : List ℕ = piece_of text first l in
    let p : (end_of o.bytes.now < o.at + length bytes) × (o'.at ≡ o.at) × (o'.bytes.now ≡ o.bytes.now) = put-err put in
    let full : end_of out < o.at + length bytes = rw (writing-end-same w) at p.0 in
    rw (p.1, p.2) (writing-last (refuse OutputFull l.at) w (written-stops (end_of out) o.at (piece bytes l.at) (pieces_after text l.kind left) full))

-- behind the last piece
pub writing-end : {text : List ℕ} {ls : List Lexeme} {out now : List ℕ} {at first : ℕ} → Writing text ls [] out now at first → WritesPieces text ls out accepted at now
writing-end {text} {ls} {out} {now} {at} {first} w = writing-last accepted w (written-nothing (end_of out) at w.room)
