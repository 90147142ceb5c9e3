-- Lexemes that are the same in two texts, but for their spans, have the same value: a text is read only at the spans of parts that have the same bytes in both.
use Prim.Native.Nat.{ℕ}
use mathlib.Core.Path.{◌≡◌, refl, ap, ◌∙◌}
use mathlib.Core.List.{List}
use mathlib.Core.Bool.{true, false, ◌&&◌, false≢true}
use borrow.Author.Tests.{le-leb, eqb-true}
use lib.Dec.{eqb}
use lib.ListN.{length}
use Rattle.rules.specs.Spans.{Span, span, bytes_at}
use Rattle.rules.specs.Answers.{Refusal, Answer, given, refused, Verdict, first_refusal, unless_refused}
use Rattle.rules.specs.Source.{resolved}
use Rattle.rules.specs.Kinds.{StringInner, HoleOpen, between, is_escape}
use Rattle.rules.specs.Lent.{Lexeme}
use Rattle.rules.specs.Output.{end_of, Written, overwritten}
use Rattle.rules.specs.Escapes.{single_scalar, unicode_scalar, scalar_of, escape_scalar, escape_bytes}
use Rattle.rules.specs.Parts.{Parts}
use Rattle.rules.specs.Indent.{part_verdict, is_string_part, string_next, indents_of, fewest, indent_of}
use Rattle.rules.specs.Value.{part_bytes, value_pieces, is_unbroken, Held, in_text, in_output, text_part, output_part, Valued, escape_verdict, value_written, kind_of_first, indent_taken, value_of, handed_part, or_empty}
use Rattle.rules.proofs.Text.{decide}
use Rattle.laws.specs.Demand3.{number_of, handed_back, held_by}
use Rattle.rules.proofs.Listing.{Inside}
use Rattle.laws.proofs.SameButSpans.{SameButSpans, both-given, both-refused, agree-cond, agree_then, agree-verdict, SamePieces, no_pieces, piece-more, SameWritten, written_same}
use Rattle.laws.proofs.SameParts.{SameLexeme, EachSame, none-like, more-like, SameParts, not-bad}

-- Escapes: the same bytes give the same scalar value, or refusals of the same number
-- of the byte after `\`
single-agrees : (s s' : Span) (b : ℕ) → SameButSpans (single_scalar s b) (single_scalar s' b)
unfolding single_scalar
single-agrees s s' b = search (agree-cond, both-given, both-refused) depth 40

-- of hex digits
unicode-agrees : (s s' : Span) (ds : List ℕ) → SameButSpans (unicode_scalar s ds) (unicode_scalar s' ds)
unfolding unicode_scalar
unicode-agrees s s' ds = search (agree-cond, both-given, both-refused) depth 40

-- of an escape of a kind
scalar-agrees : (s s' : Span) (k : ℕ) (w : List ℕ) → SameButSpans (scalar_of s k w) (scalar_of s' k w)
unfolding scalar_of
scalar-agrees s s' k w = search (agree-cond, single-agrees, unicode-agrees, both-refused) depth 40

-- the bytes of answers that agree
escape-bytes : {a b : Answer ℕ} → SameButSpans a b → escape_bytes b ≡ escape_bytes a
escape-bytes (both-given u) = refl
escape-bytes (both-refused e) = refl

-- a String part is no hole
string-no-hole : (k : ℕ) → eqb k StringInner ≡ true → eqb k HoleOpen ≡ false
string-no-hole k e = rw (eqb-true k StringInner e)

-- an Escape is none
escape-no-hole : (k : ℕ) → is_escape k ≡ true → eqb k HoleOpen ≡ false
escape-no-hole k e = decide (eqb k HoleOpen)
    (λ hole. let z : is_escape HoleOpen ≡ true = rw (eqb-true k HoleOpen hole) at e in absurd (false≢true z))
    (λ hole. hole)

-- a span inside a text resolves to its bytes
resolved-inside : (text : List ℕ) (doc : ℕ) (s : Span) → Inside text doc s → resolved text (span 0 s.start s.end) ≡ given (bytes_at text s)
unfolding resolved
resolved-inside text doc s h = rw (not-bad s h, le-leb s.end (length text) h.room)

-- where a value is: in the two texts the same bytes, in the output the same place; or refusals of the same number
pub data SameAnswer (text text' : List ℕ) : Answer Held → Answer Held → Type 0 where
  both-text : (w : List ℕ) {a e a' e' : ℕ} → resolved text (span 0 a e) ≡ given w → resolved text' (span 0 a' e') ≡ given w → SameAnswer text text' (given (in_text a e)) (given (in_text a' e'))
  both-output : (a e : ℕ) → SameAnswer text text' (given (in_output a e)) (given (in_output a e))
  neither : {r q : Refusal} → q.number ≡ r.number → SameAnswer text text' (refused r) (refused q)

-- the same answer, and the same output after it
pub record SameValued (text text' : List ℕ) (v v' : Valued) : Type 0 where
  pub answers : SameAnswer text text' v.answer v'.answer
  pub output : v'.output ≡ v.output

module _ {text text' : List ℕ} where
  -- What follows of such answers
  -- the same number, or none
  pub answer-number : {a a' : Answer Held} → SameAnswer text text' a a' → number_of a' ≡ number_of a
  answer-number (both-text w e e') = refl
  answer-number (both-output a e) = refl
  answer-number (neither e) = rw e

  -- held by the text in both, or by the output in both
  pub answer-held : {a a' : Answer Held} → SameAnswer text text' a a' → held_by a' ≡ held_by a
  answer-held (both-text w e e') = refl
  answer-held (both-output a e) = refl
  answer-held (neither e) = refl

  -- handing back gives the same number, or none
  pub handed-number : (out : List ℕ) {a a' : Answer Held} → SameAnswer text text' a a' → number_of (handed_back text' out a') ≡ number_of (handed_back text out a)
  unfolding handed_part
  handed-number out (both-text w e e') = rw (e, e')
  handed-number out (both-output a e) = refl
  handed-number out (neither e) = rw e

  -- and the same bytes
  pub handed-bytes : (out : List ℕ) {a a' : Answer Held} → SameAnswer text text' a a' → or_empty (handed_back text' out a') ≡ or_empty (handed_back text out a)
  unfolding handed_part
  handed-bytes out (both-text w e e') = rw (e, e')
  handed-bytes out (both-output a e) = refl
  handed-bytes out (neither e) = refl

  -- the output's part of verdicts that agree
  output-part : (at n : ℕ) {v w : Verdict} → SameButSpans v w → SameAnswer text text' (output_part at n v) (output_part at n w)
  output-part at n (both-given u) = both-output _ _
  output-part at n (both-refused e) = neither e

  -- the written part of the output
  written-value : (out : List ℕ) (at : ℕ) (w v : Written) → SameWritten w v → SameValued text text'
      (record { answer = output_part at (length w.bytes) w.verdict; output = overwritten out at w.bytes })
      (record { answer = output_part at (length v.bytes) v.verdict; output = overwritten out at v.bytes })
  written-value out at w v h = record { answers = rw h.bytes (output-part at (length w.bytes) h.verdicts); output = ap (overwritten out at) h.bytes }

  -- values where nothing is said against the parts
  unless-refused : {v w : Verdict} (out : List ℕ) {x y : Valued} → SameButSpans v w → SameValued text text' x y →
      SameValued text text' (unless_refused v (λ r. record { answer = refused r; output = out }) x) (unless_refused w (λ r. record { answer = refused r; output = out }) y)
  unless-refused out (both-given u) h = h
  unless-refused out (both-refused e) h = record { answers = neither e; output = refl }

module _ {text text' : List ℕ} {doc doc' : ℕ} where
  -- what is said against a part
  part-agrees : (p p' : Lexeme) → SameLexeme text text' doc doc' p p' → SameButSpans (part_verdict text p) (part_verdict text' p')
  unfolding part_verdict
  part-agrees p p' h =
      rw (not-bad p.at h.inside, not-bad p'.at h.inside', le-leb p.at.end (length text) h.inside.room, le-leb p'.at.end (length text') h.inside'.room, h.kind)
      (agree-cond (between StringInner HoleOpen p.kind && true) (both-given tt) (both-refused refl))

  -- the scalar value of a part that is no hole, if it is an escape
  escape-agrees : (p p' : Lexeme) → SameLexeme text text' doc doc' p p' → eqb p.kind HoleOpen ≡ false → SameButSpans (escape_scalar text p.at p.kind) (escape_scalar text' p'.at p'.kind)
  unfolding escape_scalar
  escape-agrees p p' h other =
      rw (not-bad p.at h.inside, not-bad p'.at h.inside', le-leb p.at.end (length text) h.inside.room, le-leb p'.at.end (length text') h.inside'.room, h.kind, h.bytes other)
      (scalar-agrees p.at p'.at p.kind (bytes_at text p.at))

  -- what is said against an Escape part
  escaped-agrees : (p p' : Lexeme) → SameLexeme text text' doc doc' p p' → SameButSpans (escape_verdict text p) (escape_verdict text' p')
  escaped-agrees p p' h = decide (is_escape p.kind)
      (λ e. let e' : is_escape p'.kind ≡ true = ap is_escape h.kind ∙ e in
      rw (e, e') (agree-verdict (escape-agrees p p' h (escape-no-hole p.kind e))))
      (λ e. let e' : is_escape p'.kind ≡ false = ap is_escape h.kind ∙ e in
      rw (e, e') (both-given tt))

  -- the first refusal along two lists of parts
  first-agrees : (f f' : Lexeme → Verdict) → ((p p' : Lexeme) → SameLexeme text text' doc doc' p p' → SameButSpans (f p) (f' p')) →
      {ps ps' : List Lexeme} → EachSame text text' doc doc' ps ps' → SameButSpans (first_refusal f ps) (first_refusal f' ps')
  first-agrees f f' each none-like = both-given tt
  first-agrees f f' each (more-like {l = p} {l' = p'} h more) = agree_then (each p p' h) (first-agrees f f' each more)

  -- whether a String comes next
  next-same : {ps ps' : List Lexeme} → EachSame text text' doc doc' ps ps' → string_next ps' ≡ string_next ps
  next-same none-like = refl
  next-same (more-like h more) = rw h.kind

  -- the indents of the parts that count
  indents-same : {ps ps' : List Lexeme} → EachSame text text' doc doc' ps ps' → indents_of text' ps' ≡ indents_of text ps
  indents-same none-like = refl
  indents-same (more-like {l = p} {l' = p'} h more) = decide (is_string_part p)
      (λ e. rw (h.kind, h.bytes (string-no-hole p.kind e), next-same more, indents-same more))
      (λ e. rw (h.kind, e, indents-same more))

  -- the fewest of them
  indent-same : {ps ps' : List Lexeme} → EachSame text text' doc doc' ps ps' → indent_of text' ps' ≡ indent_of text ps
  unfolding indent_of
  indent-same a = ap fewest (indents-same a)

  -- the bytes of a part that is no hole
  bytes_same : (indent : ℕ) (p p' : Lexeme) → SameLexeme text text' doc doc' p p' → eqb p.kind HoleOpen ≡ false → part_bytes text' indent p' ≡ part_bytes text indent p
  unfolding part_bytes
  bytes_same indent p p' h other = rw (escape-bytes (escape-agrees p p' h other), h.kind, h.bytes other)

  -- the pieces of a value
  pieces-same : (indent : ℕ) {ps ps' : List Lexeme} → EachSame text text' doc doc' ps ps' → SamePieces (value_pieces text indent ps) (value_pieces text' indent ps')
  pieces-same indent none-like = no_pieces
  pieces-same indent (more-like {l = p} {l' = p'} h more) = decide (eqb p.kind HoleOpen)
      (λ e. let e' : eqb p'.kind HoleOpen ≡ true = rw h.kind e in
      rw (e, e') (pieces-same indent more))
      (λ e. let e' : eqb p'.kind HoleOpen ≡ false = rw h.kind e in
      rw (e, e') (piece-more (bytes_same indent p p' h e) (pieces-same indent more)))

  -- an unbroken value is so in both texts
  unbroken-same : (indent : ℕ) {ps ps' : List Lexeme} → EachSame text text' doc doc' ps ps' → is_unbroken text' indent ps' ≡ is_unbroken text indent ps
  unbroken-same indent none-like = refl
  unbroken-same indent (more-like h (more-like g more)) = refl
  unbroken-same indent (more-like {l = p} {l' = p'} h none-like) = decide (is_string_part p)
      (λ e. let other = string-no-hole p.kind e in rw (bytes_same indent p p' h other, h.bytes other, h.kind))
      (λ e. rw (h.kind, e))

  -- and is the same part of both
  text-part : (indent : ℕ) {ps ps' : List Lexeme} → EachSame text text' doc doc' ps ps' → is_unbroken text indent ps ≡ true → SameAnswer text text' (given (text_part ps)) (given (text_part ps'))
  text-part indent none-like u = absurd (false≢true u)
  text-part indent (more-like h (more-like g more)) u = absurd (false≢true u)
  text-part indent (more-like {l = p} {l' = p'} h none-like) u = decide (is_string_part p)
      (λ e. both-text (bytes_at text p.at) (resolved-inside text doc p.at h.inside) (resolved-inside text' doc' p'.at h.inside' ∙ ap given (h.bytes (string-no-hole p.kind e))))
      (λ e. absurd (false≢true (rw e at u)))

  -- the value of parts that nothing is said against
  value_written_lem : (indent : ℕ) {ps ps' : List Lexeme} (out : List ℕ) (at : ℕ) → EachSame text text' doc doc' ps ps' →
      SameValued text text' (value_written text indent ps out at) (value_written text' indent ps' out at)
  unfolding value_written
  value_written_lem indent {ps} {ps'} out at a = decide (is_unbroken text indent ps)
      (λ u. let u' : is_unbroken text' indent ps' ≡ true = unbroken-same indent a ∙ u in
      rw (u, u') (record { answers = text-part indent a u; output = refl }))
      (λ u. let u' : is_unbroken text' indent ps' ≡ false = unbroken-same indent a ∙ u in
      rw (u, u') (written-value out at _ _ (written_same (end_of out) at (pieces-same indent a))))

  -- the opener's kind
  first_kind : {ls ls' : List Lexeme} → EachSame text text' doc doc' ls ls' → kind_of_first ls' ≡ kind_of_first ls
  first_kind none-like = refl
  first_kind (more-like h more) = h.kind

  -- the value of a string, from its opener and its parts
  pub value_same : {ls ls' : List Lexeme} (p p' : Parts) (out : List ℕ) (at : ℕ) → EachSame text text' doc doc' ls ls' → SameParts text text' doc doc' p p' →
      SameValued text text' (value_of text ls p out at) (value_of text' ls' p' out at)
  unfolding value_of
  value_same {ls} {ls'} p p' out at a h =
      let verdicts = agree_then (agree-verdict h.answers)
      (agree_then (first-agrees (part_verdict text) (part_verdict text') part-agrees h.found) (first-agrees (escape_verdict text) (escape_verdict text') escaped-agrees h.found)) in
      rw (first_kind a, indent-same h.found)
      (unless-refused out verdicts (value_written_lem (indent_taken text (kind_of_first ls) p.found) out at h.found))
