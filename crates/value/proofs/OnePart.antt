-- Laws of one part that nothing is said against: where it lies, and what writing its bytes comes to.
use Rattle.std.proofs.Common.{◌≡◌, ℕ, ◌+◌, ◌-◌, ◌≤◌, ◌<◌, true, false, List, ◌∷◌, ◌++◌, leb, eqb, length, length-drop, take, take_all, drop, refl, sym, ap, ◌∙◌, arith, Result, Ok, Err}
use borrow.Author.Tests.{ne_eqb, le-leb, lt-leb, leb-true, leb-false}
use mathlib.Core.Option.{none, some}
use Rattle.rules.specs.Utf8.{encode}
use Rattle.rules.specs.Refusals.{OutputFull}
use Rattle.rules.specs.Spans.{Span, bytes_at}
use Rattle.rules.specs.Answers.{Answer, given, refused, Refusal, refuse, accepted, verdict_on}
use Rattle.rules.specs.Kinds.{StringInner, HoleOpen, is_escape}
use Rattle.rules.specs.Lent.{Lexeme, lexeme}
use Rattle.rules.specs.Output.{end_of, overwritten}
use Rattle.rules.specs.Escapes.{escape_scalar, Unescapes}
use Rattle.rules.specs.Source.{resolved}
use Rattle.rules.specs.Indent.{part_verdict}
use Rattle.rules.specs.Value.{dedented, part_bytes, escape_verdict}
use Rattle.rules.proofs.Text.{decide, both}
use Rattle.cst.specs.Meaning.{if_part}
use Rattle.cst.proofs.Told.{part_same, no-part-kind}
use Rattle.source.specs.Meaning.{part_of}
use Rattle.string.specs.Indents.{taken_off}
use Rattle.string.proofs.Dedenting.{taken-within, dedented-same, dedented-two}
use Rattle.string.proofs.Lines.{checked-kind, checked-inside}
use Rattle.string.proofs.Escapes.{unescape-fits, unescape-not}
use Rattle.source.specs.declared.Refusal.{Refusal as CodeRefusal}
use Rattle.string.specs.Meaning.{bytes_written}
use Rattle.value.specs.Meaning.{reached}
use Rattle.output.specs.declared.Full.{Full}
use Rattle.output.specs.declared.Output.{Output}
use Rattle.output.specs.Places.{Put}
use Rattle.output.proofs.Overwritten.{put-ok, put-err}
use Rattle.value.specs.Pieces.{PartAccepted, PartsAccepted, PartWritten}
use Rattle.value.proofs.Refusing.{both-accepted}

module _ {text : List ℕ} {p : Lexeme} {ps : List Lexeme} (g : PartsAccepted text (p ∷ ps)) where
  -- the first of the parts that nothing is said against is such a part
  pub first-good : PartAccepted text p
  first-good = record { inside = (both-accepted (part_verdict text p) _ g.inside).0; escape = (both-accepted (escape_verdict text p) _ g.escapes).0 }

  -- and the others are such parts
  pub rest-good : PartsAccepted text ps
  rest-good = record { inside = (both-accepted (part_verdict text p) _ g.inside).1; escapes = (both-accepted (escape_verdict text p) _ g.escapes).1 }

-- a lexeme that nothing is said against is a part
pub good-some : {P : Type 0} (text : List ℕ) (l : Lexeme) → PartAccepted text l → none ≡ if_part l → P
good-some text l g e = let t = sym (no-part-kind l e) ∙ checked-kind text l g.inside in cc

-- and nothing is said against the part that it is
pub good-known : (text : List ℕ) (l q : Lexeme) → PartAccepted text l → some q ≡ if_part l → PartAccepted text q
good-known text l q g e = rw (part_same l q e) g

module _ (text : List ℕ) (indent : ℕ) (p : Lexeme) (at : ℕ) (out : List ℕ) where
  -- a part that fits
  part-fits : eqb p.kind HoleOpen ≡ false → at + length (part_bytes text indent p) ≤ end_of out → PartWritten text indent p at out (given (at + length (part_bytes text indent p))) (overwritten out at (part_bytes text indent p))
  part-fits e h =
      let fits = le-leb (at + length (part_bytes text indent p)) (end_of out) h in
      record { hole = λ f. cc; answered = λ f. rw fits refl; output = λ f. rw fits refl }

  -- one that does not fit
  part-not : eqb p.kind HoleOpen ≡ false → end_of out < at + length (part_bytes text indent p) → PartWritten text indent p at out (refuse OutputFull p.at) out
  part-not e h =
      let full = lt-leb (at + length (part_bytes text indent p)) (end_of out) h in
      record { hole = λ f. cc; answered = λ f. rw full refl; output = λ f. rw full refl }

-- what is left of a line: its first byte, then what stands after the bytes taken off
pub dedented-cut : (indent n : ℕ) (w : List ℕ) → n ≡ taken_off indent w → dedented indent w ≡ take 1 w ++ take (length w - (n + 1)) (drop (n + 1) w)
dedented-cut indent n w e =
    let rest = take_all (length w - (n + 1)) (drop (n + 1) w) (omega (arith, length-drop (n + 1) w)) in
    rw (rest, e) (dedented-two indent w)

-- the line of a String part
line : {text : List ℕ} {s : Span} → PartAccepted text (lexeme StringInner s) → part_of (resolved text s) ≡ bytes_at text s
line {text} {s} g = ap part_of (checked-inside text (lexeme StringInner s) g.inside)

module _ {text : List ℕ} {indent : ℕ} {s : Span} {o o' : Output} where
  -- its bytes that were written
  pub string-put : {u : Unit {0}} → PartAccepted text (lexeme StringInner s) → Put (dedented indent (part_of (resolved text s))) o (Ok u) o' → PartWritten text indent (lexeme StringInner s) o.at o.bytes.now (given o'.at) o'.bytes.now
  unfolding part_bytes
  string-put g w = let f = put-ok (rw (line g) at w) in rw (f.1, f.2) (part-fits text indent (lexeme StringInner s) o.at o.bytes.now refl f.0)

  -- those that were not
  pub string-not : {e : Full} → PartAccepted text (lexeme StringInner s) → Put (dedented indent (part_of (resolved text s))) o (Err e) o' → PartWritten text indent (lexeme StringInner s) o.at o.bytes.now (refuse OutputFull s) o'.bytes.now
  unfolding part_bytes
  string-not g w = let f = put-err (rw (line g) at w) in rw f.2 (part-not text indent (lexeme StringInner s) o.at o.bytes.now refl f.0)

-- an answer that nothing is said against is given
given-of : {P A : Type 0} (a : Answer A) → verdict_on a ≡ accepted → ((x : A) → a ≡ given x → P) → P
given-of (given x) e f = f x refl
given-of (refused r) e f = cc

-- an escape's kind is 11 to 13, so it is no String and no hole
escape-kind : (k : ℕ) → is_escape k ≡ true → (eqb k StringInner ≡ false) × (eqb k HoleOpen ≡ false)
escape-kind k e =
    let t = both (leb 11 k) (leb k 13) e in
    let from : 11 ≤ k = leb-true 11 k t.0 in
    let to : k ≤ 13 = leb-true k 13 t.1 in
    (ne_eqb k 10 (λ z. absurd (omega (arith, z))), ne_eqb k 14 (λ z. absurd (omega (arith, z))))

-- the bytes of an escape that is not refused
scalar : {P : Type 0} (text : List ℕ) (indent : ℕ) (s : Span) (k : ℕ) → is_escape k ≡ true → escape_verdict text (lexeme k s) ≡ accepted
    → ((u : ℕ) → escape_scalar text s k ≡ given u → part_bytes text indent (lexeme k s) ≡ encode u → P) → P
unfolding part_bytes
scalar text indent s k escape good f = given-of (escape_scalar text s k) (rw escape at good) (λ u e. f u e (rw ((escape-kind k escape).0, e) refl))

module _ {text : List ℕ} {indent : ℕ} {s : Span} {k at : ℕ} {out out' : List ℕ} where
  -- the bytes of an Escape part that were written
  pub escape-put : {n : ℕ} → is_escape k ≡ true → escape_verdict text (lexeme k s) ≡ accepted → Unescapes text s k out at (given n) out'
      → (at + n ≤ end_of out) × PartWritten text indent (lexeme k s) at out (given (at + n)) out'
  escape-put {n} escape good w = scalar text indent s k escape good (λ u e is. decide (leb (at + length (encode u)) (end_of out))
      (λ f.
      let fits = leb-true (at + length (encode u)) (end_of out) f in
      let whole : Unescapes text s k out at (given (length (encode u))) (overwritten out at (encode u)) = unescape-fits e fits in
      let t = w.answered ∙ sym whole.answered in
      let count : n ≡ length (encode u) = cc in
      let put = part-fits text indent (lexeme k s) at out (escape-kind k escape).1 (rw is fits) in
      rw (count, w.output ∙ sym whole.output) (fits, rw is at put))
      (λ f.
      let not : Unescapes text s k out at (refuse OutputFull s) out = unescape-not e (leb-false (at + length (encode u)) (end_of out) f) in
      let t = w.answered ∙ sym not.answered in
      cc))

  -- those that were not
  pub escape-not : {r : Refusal} → is_escape k ≡ true → escape_verdict text (lexeme k s) ≡ accepted → Unescapes text s k out at (refused r) out' → PartWritten text indent (lexeme k s) at out (refused r) out'
  escape-not {r} escape good w = scalar text indent s k escape good (λ u e is. decide (leb (at + length (encode u)) (end_of out))
      (λ f.
      let whole : Unescapes text s k out at (given (length (encode u))) (overwritten out at (encode u)) = unescape-fits e (leb-true (at + length (encode u)) (end_of out) f) in
      let t = w.answered ∙ sym whole.answered in
      cc)
      (λ f.
      let full = leb-false (at + length (encode u)) (end_of out) f in
      let not : Unescapes text s k out at (refuse OutputFull s) out = unescape-not e full in
      rw (w.answered ∙ sym not.answered, w.output ∙ sym not.output) (part-not text indent (lexeme k s) at out (escape-kind k escape).1 (rw is full))))

module _ {text : List ℕ} {s : Span} {k : ℕ} (indent : ℕ) (o o' : Output) where
  -- whether they were written or not
  pub escape-written : (r : Result (Unit {0}) CodeRefusal) → is_escape k ≡ true → escape_verdict text (lexeme k s) ≡ accepted → o.at ≤ o'.at → Unescapes text s k o.bytes.now o.at (bytes_written o r o') o'.bytes.now
      → PartWritten text indent (lexeme k s) o.at o.bytes.now (reached r o') o'.bytes.now
  escape-written (Ok u) escape good on w =
      let count : o.at + (o'.at - o.at) ≡ o'.at = omega (arith, on) in
      let put : PartWritten text indent (lexeme k s) o.at o.bytes.now (given (o.at + (o'.at - o.at))) o'.bytes.now = (escape-put escape good w).1 in
      rw count at put
  escape-written (Err r) escape good on w = escape-not escape good w

-- for attributes: of a line
pub ruleset dedents = (taken-within, dedented-same, dedented-cut)
