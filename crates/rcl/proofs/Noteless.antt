-- Only lexing gives notes: an answer about a string is the same without one.
use Prim.Native.Nat.{ℕ, zero, suc, ◌+◌}
use mathlib.Core.Path.{◌≡◌, refl, ap}
use mathlib.Core.Bool.{Bool, true, false, cond}
use mathlib.Core.List.{List, [], ◌∷◌, ◌++◌}
use lib.Dec.{leb}
use lib.ListN.{length, take}
use Rattle.rules.specs.Utf8.{encode}
use Rattle.rules.specs.Refusals.{BadSpan, ListFull, OutputFull, NoString}
use Rattle.rules.specs.Spans.{Span, span, nowhere, is_bad}
use Rattle.rules.specs.Answers.{Refusal, Answer, given, refused, refuse, Verdict, accepted, verdict_on, and_then, first_refusal, unless_refused}
use Rattle.rules.specs.Source.{resolved}
use Rattle.rules.specs.Kinds.{is_quote_open, is_escape}
use Rattle.rules.specs.Lent.{Lexeme, Arrays, array_places, contents, lexemes_from}
use Rattle.rules.specs.Output.{end_of, Piece, piece, Written, written, overwritten}
use Rattle.rules.specs.Escapes.{single_scalar, unicode_scalar, scalar_of, escape_scalar, wrote_all, scalar_put, unescape}
use Rattle.rules.specs.Parts.{Effect, closes, refuses, passes, yields, Parts, no_parts, follow_effect, effect, parts_from, parts_of, in_room, parts_in, parts_call}
use Rattle.rules.specs.Indent.{part_verdict, indent_of, indent_call}
use Rattle.rules.specs.Value.{value_pieces, is_unbroken, Held, in_text, in_output, text_part, output_part, Valued, escape_verdict, value_written, kind_of_first, indent_taken, value_of, value_call, handed_part, hand_check}
use Rattle.words.specs.Strings.{without_note, or_zero}

-- an answer whose refusal has no note
record Noteless {A : Type 0} (a : Answer A) : Type 0 where
  same : without_note a ≡ a

note-given : {A : Type 0} (x : A) → Noteless (given x)
note-given x = record { same = refl }

note-refuse : {A : Type 0} (n : ℕ) (s : Span) → Noteless {A = A} (refuse n s)
note-refuse n s = record { same = refl }

note-cond : {A : Type 0} (b : Bool) (x y : Answer A) → Noteless x → Noteless y → Noteless (cond b x y)
note-cond true x y p q = p
note-cond false x y p q = q

-- the same of a part of a record
note-of-cond : {A B : Type 0} (f : A → Answer B) (b : Bool) (x y : A) → Noteless (f x) → Noteless (f y) → Noteless (f (cond b x y))
note-of-cond f true x y p q = p
note-of-cond f false x y p q = q

-- escapes
note-single : (s : Span) (b : ℕ) → Noteless (single_scalar s b)
unfolding single_scalar
note-single s b = search (note-cond, note-given, note-refuse) depth 40

note-unicode : (s : Span) (ds : List ℕ) → Noteless (unicode_scalar s ds)
unfolding unicode_scalar
note-unicode s ds = search (note-cond, note-given, note-refuse) depth 40

note-scalar : (text : List ℕ) (s : Span) (k : ℕ) → Noteless (escape_scalar text s k)
unfolding escape_scalar scalar_of
note-scalar text s k = search (note-single, note-unicode, note-cond, note-refuse) depth 40

-- a refusal passed on
note-passed : {A B : Type 0} (r : Refusal) → Noteless {A = A} (refused r) → Noteless {A = B} (refused r)
note-passed {A} {B} r p = record { same = ap again p.same }
  where
    again : Answer A → Answer B
    again (given x) = refused r
    again (refused q) = refused q

note-verdict : {A : Type 0} (a : Answer A) → Noteless a → Noteless (verdict_on a)
note-verdict (given x) p = note-given tt
note-verdict {A} (refused r) p = note-passed {A = A} r p

note-then : {A : Type 0} (v : Verdict) (a : Answer A) → Noteless v → Noteless a → Noteless (and_then v a)
note-then (given u) a p q = q
note-then (refused r) a p q = note-passed {A = Unit {0}} r p

note-first : (f : Lexeme → Verdict) (ps : List Lexeme) → ((p : Lexeme) → Noteless (f p)) → Noteless (first_refusal f ps)
note-first f [] h = note-given tt
note-first f (p ∷ ps) h = note-then (f p) (first_refusal f ps) (h p) (note-first f ps h)

-- writing
note-written : (end at : ℕ) (cs : List Piece) → Noteless (written end at cs).verdict
unfolding written
note-written end at [] = note-cond (leb at end) accepted (refuse OutputFull nowhere) (note-given tt) (note-refuse OutputFull nowhere)
note-written end at (c ∷ cs) =
    let next = at + length c.bytes in
    note-of-cond (λ (w : Written). w.verdict) (leb next end)
    (record { bytes = c.bytes ++ (written end next cs).bytes; verdict = (written end next cs).verdict })
    (record { bytes = []; verdict = refuse OutputFull c.at })
    (note-written end next cs) (note-refuse OutputFull c.at)

note-wrote : (n : ℕ) (v : Verdict) → Noteless v → Noteless (wrote_all n v)
note-wrote n (given u) p = note-given n
note-wrote n (refused r) p = note-passed {A = Unit {0}} r p

note-put : (s : Span) (out : List ℕ) (at : ℕ) (a : Answer ℕ) → Noteless a → Noteless (scalar_put s out at a).answer
unfolding scalar_put
note-put s out at (refused r) p = p
note-put s out at (given u) p =
    let w = written (end_of out) at (piece (encode u) s ∷ []) in
    note-wrote (length w.bytes) w.verdict (note-written (end_of out) at (piece (encode u) s ∷ []))

note-unescape : (text : List ℕ) (s : Span) (k : ℕ) (out : List ℕ) (at : ℕ) → Noteless (unescape text s k out at).answer
unfolding unescape
note-unescape text s k out at = note-put s out at (escape_scalar text s k) (note-scalar text s k)

-- the indent
note-part : (text : List ℕ) (p : Lexeme) → Noteless (part_verdict text p)
unfolding part_verdict
note-part text p = search (note-cond, note-given, note-refuse) depth 40

note-indent : (text : List ℕ) (list : Arrays) (n : ℕ) → Noteless (indent_call text list n)
unfolding indent_call
note-indent text list n =
    let ps = take n (contents list) in
    note-then (first_refusal (part_verdict text) ps) (given (indent_of text ps)) (note-first (part_verdict text) ps (note-part text)) (note-given (indent_of text ps))

-- parts
note-from : (place depth : ℕ) (hole : Span) (ls : List Lexeme) → Noteless (parts_from place depth hole ls).answer
note-from place depth hole [] = note-refuse NoString nowhere
note-from place depth hole (l ∷ ls) = followed (effect depth hole l) (λ d h. note-from (suc place) d h ls)
  where
    followed : (t : Effect) → ((d : ℕ) (h : Span) → Noteless (parts_from (suc place) d h ls).answer) → Noteless (follow_effect t place (λ d h. parts_from (suc place) d h ls)).answer
    followed closes more = note-given place
    followed (refuses n s) more = note-refuse n s
    followed (passes d h) more = more d h
    followed (yields p) more = more 1 nowhere

note-of : (place : ℕ) (ls : List Lexeme) → Noteless (parts_of place ls).answer
unfolding parts_of
note-of place [] = note-refuse NoString nowhere
note-of place (l ∷ ls) =
    let more = parts_from (suc place) 1 nowhere ls in
    let other = no_parts (refuse NoString l.at) in
    note-of-cond (λ (p : Parts). p.answer) (is_bad l.at) (no_parts (refuse BadSpan nowhere)) (cond (is_quote_open l.kind) more other) (note-refuse BadSpan nowhere)
    (note-of-cond (λ (p : Parts). p.answer) (is_quote_open l.kind) more other (note-from (suc place) 1 nowhere ls) (note-refuse NoString l.at))

note-room : (room : ℕ) (ps : List Lexeme) (a : Answer ℕ) → Noteless a → Noteless (in_room room ps a).answer
note-room room [] a p = p
note-room zero (q ∷ ps) a p = note-refuse ListFull q.at
note-room (suc room) (q ∷ ps) a p = note-room room ps a p

note-in : (room place : ℕ) (ls : List Lexeme) → Noteless (parts_in room place ls).answer
unfolding parts_in
note-in room place ls = note-room room (parts_of place ls).found (parts_of place ls).answer (note-of place ls)

note-parts : (list : Arrays) (count place : ℕ) (parts : Arrays) → Noteless (parts_call list count place parts).answer
unfolding parts_call
note-parts list count place parts = note-in (array_places parts) place (lexemes_from list count place)

-- values
note-escape : (text : List ℕ) (p : Lexeme) → Noteless (escape_verdict text p)
note-escape text p =
    let a = escape_scalar text p.at p.kind in
    note-cond (is_escape p.kind) (verdict_on a) accepted (note-verdict a (note-scalar text p.at p.kind)) (note-given tt)

note-output : (at n : ℕ) (v : Verdict) → Noteless v → Noteless (output_part at n v)
note-output at n (given u) p = note-given (in_output at (at + n))
note-output at n (refused r) p = note-passed {A = Unit {0}} r p

note-value-written : (text : List ℕ) (indent : ℕ) (ps : List Lexeme) (out : List ℕ) (at : ℕ) → Noteless (value_written text indent ps out at).answer
unfolding value_written
note-value-written text indent ps out at =
    let w = written (end_of out) at (value_pieces text indent ps) in
    note-of-cond (λ (v : Valued). v.answer) (is_unbroken text indent ps) (record { answer = given (text_part ps); output = out })
    (record { answer = output_part at (length w.bytes) w.verdict; output = overwritten out at w.bytes })
    (note-given (text_part ps)) (note-output at (length w.bytes) w.verdict (note-written (end_of out) at (value_pieces text indent ps)))

note-unless : (v : Verdict) (out : List ℕ) (w : Valued) → Noteless v → Noteless w.answer → Noteless (unless_refused v (λ r. record { answer = refused r; output = out }) w).answer
note-unless (given u) out w p q = q
note-unless (refused r) out w p q = note-passed {A = Unit {0}} r p

note-value-of : (text : List ℕ) (ls : List Lexeme) (p : Parts) (out : List ℕ) (at : ℕ) → Noteless p.answer → Noteless (value_of text ls p out at).answer
unfolding value_of
note-value-of text ls p out at h =
    let ps = p.found in
    let inside = first_refusal (part_verdict text) ps in
    let escapes = first_refusal (escape_verdict text) ps in
    let indent = indent_taken text (kind_of_first ls) ps in
    note-unless (and_then (verdict_on p.answer) (and_then inside escapes)) out (value_written text indent ps out at)
    (note-then (verdict_on p.answer) (and_then inside escapes) (note-verdict p.answer h)
    (note-then inside escapes (note-first (part_verdict text) ps (note-part text)) (note-first (escape_verdict text) ps (note-escape text))))
    (note-value-written text indent ps out at)

note-value : (text : List ℕ) (list : Arrays) (count place : ℕ) (parts : Arrays) (out : List ℕ) (at : ℕ) → Noteless (value_call text list count place parts out at).answer
unfolding value_call
note-value text list count place parts out at =
    let ls = lexemes_from list count place in
    let p = parts_in (array_places parts) place ls in
    note-value-of text ls p out at (note-in (array_places parts) place ls)

-- handing back
note-resolved : (text : List ℕ) (s : Span) → Noteless (resolved text s)
unfolding resolved
note-resolved text s = search (note-cond, note-given, note-refuse) depth 40

note-handed : (text out : List ℕ) (p : Held) → Noteless (handed_part text out p)
unfolding handed_part
note-handed text out (in_text a e) = note-resolved text (span 0 a e)
note-handed text out (in_output a e) = note-resolved out (span 0 a e)

note-hand : (text out : List ℕ) (p : Held) → Noteless (hand_check text out p)
note-hand text out p = note-verdict (handed_part text out p) (note-handed text out p)

note-zero : (v : Verdict) → Noteless v → Noteless (or_zero v)
note-zero (given u) p = note-given 0
note-zero (refused r) p = note-passed {A = Unit {0}} r p

-- the same as equations, for the answer of each call
pub scalar_noteless : (text : List ℕ) (s : Span) (k : ℕ) → without_note (escape_scalar text s k) ≡ escape_scalar text s k
scalar_noteless text s k = (note-scalar text s k).same

pub unescape_noteless : (text : List ℕ) (s : Span) (k : ℕ) (out : List ℕ) (at : ℕ) → without_note (unescape text s k out at).answer ≡ (unescape text s k out at).answer
unescape_noteless text s k out at = (note-unescape text s k out at).same

pub indent_noteless : (text : List ℕ) (list : Arrays) (n : ℕ) → without_note (indent_call text list n) ≡ indent_call text list n
indent_noteless text list n = (note-indent text list n).same

pub parts_noteless : (list : Arrays) (count place : ℕ) (parts : Arrays) → without_note (parts_call list count place parts).answer ≡ (parts_call list count place parts).answer
parts_noteless list count place parts = (note-parts list count place parts).same

pub value_noteless : (text : List ℕ) (list : Arrays) (count place : ℕ) (parts : Arrays) (out : List ℕ) (at : ℕ) → without_note (value_call text list count place parts out at).answer ≡ (value_call text list count place parts out at).answer
value_noteless text list count place parts out at = (note-value text list count place parts out at).same

pub hand_noteless : (text out : List ℕ) (p : Held) → without_note (or_zero (hand_check text out p)) ≡ or_zero (hand_check text out p)
hand_noteless text out p = (note-zero (hand_check text out p) (note-hand text out p)).same
