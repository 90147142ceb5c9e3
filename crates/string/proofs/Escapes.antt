-- Laws of escapes: the brace at their end, that each stands for a scalar value, and what a call that writes the bytes of one leaves.
use Prim.Native.Nat.{ℕ, suc, ◌+◌, ◌-◌, ◌≤◌, ◌<◌}
use Prim.Native.Char.{code}
use native.Mathlib.Omega.{arith}
use mathlib.Core.Bool.{true, ◌&&◌, ◌||◌, and-true}
use mathlib.Core.Path.{◌≡◌, refl, sym}
use mathlib.Core.List.{List}
use lib.Dec.{leb, eqb}
use lib.ListN.{length, drop, get_or, drop_of_length-le}
use lib.Seq.{drop-cons}
use Rattle.rules.specs.Text.{is, same}
use Rattle.rules.specs.Bytes.{is_capital}
use Rattle.rules.specs.Utf8.{encode, is_scalar}
use Rattle.rules.specs.Refusals.{OutputFull}
use Rattle.rules.specs.Spans.{Span, bytes_at, is_bad}
use Rattle.rules.specs.Answers.{Refusal, given, refused, refuse}
use Rattle.rules.specs.Kinds.{Single, Unicode4, UnicodeDelim}
use Rattle.rules.specs.Output.{end_of, piece, overwritten}
use Rattle.rules.specs.Escapes.{is_single, is_unicode4, is_unicode_delim, delimited, single_scalar, unicode_scalar, scalar_of, escape_scalar, scalar_put, unescape, Unescapes}
use Rattle.rules.proofs.Text.{branch}
use Rattle.output.proofs.Overwritten.{put-ok, put-err, overwritten-nothing, written-one-fits, written-one-not}

-- a text ends with `}` where its last byte is one
pub last_brace : (w : List ℕ) → 0 < length w → same "}" (drop (length w - 1) w) ≡ eqb (get_or w (length w - 1) 0) (code "}")
last_brace w h =
    let l = length w - 1 in
    let inside : l < length w = omega arith in
    let behind : length w ≤ suc l = omega arith in
    rw (drop-cons w l 0 inside, drop_of_length-le w {i = suc l} behind) (and-true _)

-- a byte that stands for itself after the backslash is a scalar value
same-scalar : (b : ℕ) → is "\"" b || is "\\" b || is "/" b || is "{" b || is "}" b ≡ true → is_scalar b ≡ true
unfolding is_scalar
same-scalar b t = grind arith

-- what is given is a scalar value where what it equals is one
given-scalar : {x u : ℕ} → given x ≡ given u → is_scalar x ≡ true → is_scalar u ≡ true
given-scalar e t = cc

-- what the byte after the backslash stands for is a scalar value
pub single-scalar : (s : Span) (b u : ℕ) → single_scalar s b ≡ given u → is_scalar u ≡ true
unfolding single_scalar is_scalar
single-scalar s b u e =
    branch (is "\"" b || is "\\" b || is "/" b || is "{" b || is "}" b) e (λ t f. given-scalar f (same-scalar b t))
    (λ t e. branch (is "b" b) e (λ t f. given-scalar f refl)
    (λ t e. branch (is "f" b) e (λ t f. given-scalar f refl)
    (λ t e. branch (is "n" b) e (λ t f. given-scalar f refl)
    (λ t e. branch (is "r" b) e (λ t f. given-scalar f refl)
    (λ t e. branch (is "t" b) e (λ t f. given-scalar f refl)
    (λ t e. branch (is_capital b) e (λ t f. cc) (λ t f. cc)))))))

-- what hex digits stand for is a scalar value
pub unicode-scalar : (s : Span) (ds : List ℕ) (u : ℕ) → unicode_scalar s ds ≡ given u → is_scalar u ≡ true
unfolding unicode_scalar
unicode-scalar s ds u e = grind arith

-- what an escape of a kind stands for is a scalar value
pub scalar-of-given : (s : Span) (k : ℕ) (w : List ℕ) (u : ℕ) → scalar_of s k w ≡ given u → is_scalar u ≡ true
unfolding scalar_of
scalar-of-given s k w u e =
    branch (eqb k Single && is_single w) e (λ t f. single-scalar s (get_or w 1 0) u f)
    (λ t e. branch (eqb k Unicode4 && is_unicode4 w) e (λ t f. unicode-scalar s (drop 2 w) u f)
    (λ t e. branch (eqb k UnicodeDelim && is_unicode_delim w) e (λ t f. unicode-scalar s (delimited w) u f) (λ t f. cc)))

-- what an escape of a text stands for is a scalar value
pub scalar-given : (text : List ℕ) (s : Span) (k u : ℕ) → escape_scalar text s k ≡ given u → is_scalar u ≡ true
unfolding escape_scalar
scalar-given text s k u e =
    branch (is_bad s) e (λ t f. cc)
    (λ t e. branch (leb s.end (length text)) e (λ t f. scalar-of-given s k (bytes_at text s) u f) (λ t f. cc))

module _ {text : List ℕ} {s : Span} {k : ℕ} {out : List ℕ} {at : ℕ} where
  -- an escape that is refused writes nothing
  pub unescape-refused : {r : Refusal} → escape_scalar text s k ≡ refused r → Unescapes text s k out at (refused r) out
  unfolding unescape scalar_put
  unescape-refused e = record { answered = rw e refl; output = rw e refl }

  -- one that fits is written whole
  pub unescape-fits : {u : ℕ} → escape_scalar text s k ≡ given u → at + length (encode u) ≤ end_of out → Unescapes text s k out at (given (length (encode u))) (overwritten out at (encode u))
  unfolding unescape scalar_put
  unescape-fits {u} e h =
      let w = written-one-fits (end_of out) at (piece (encode u) s) h in
      record { answered = rw (e, w) refl; output = rw (e, w) refl }

  -- one that does not fit is not written
  pub unescape-not : {u : ℕ} → escape_scalar text s k ≡ given u → end_of out < at + length (encode u) → Unescapes text s k out at (refuse OutputFull s) out
  unfolding unescape scalar_put
  unescape-not {u} e h =
      let w = written-one-not (end_of out) at (piece (encode u) s) h in
      record { answered = rw (e, w) refl; output = rw (e, w) (sym (overwritten-nothing out at)) }

  -- the same by the position behind it
  pub unescape-on : {u next : ℕ} → escape_scalar text s k ≡ given u → at + length (encode u) ≤ end_of out → next ≡ at + length (encode u) → Unescapes text s k out at (given (next - at)) (overwritten out at (encode u))
  unescape-on {u} {next} e h n =
      let count : next - at ≡ length (encode u) = omega (arith, n) in
      rw count (unescape-fits e h)

-- both, for a call that puts the bytes
pub ruleset writes = (put-ok, put-err, unescape-on, unescape-not)
