-- Laws of lines and parts: the spaces of a line, what a part that is accepted tells, and the indent from any part on.
use Prim.Native.Nat.{ℕ, min}
use native.Mathlib.Omega.{arith}
use mathlib.Core.Path.{◌≡◌, refl}
use mathlib.Core.Bool.{Bool, true, false, cond, not, ◌&&◌}
use mathlib.Core.List.{List, [], ◌∷◌, ◌++◌}
use lib.Dec.{leb}
use lib.ListN.{length, take}
use Rattle.std.specs.Prelude.{Option, Some, None}
use Rattle.rules.specs.Text.{begins}
use Rattle.rules.specs.Refusals.{BadSpan, WrongForm}
use Rattle.rules.specs.Spans.{nowhere, is_bad, bytes_at}
use Rattle.rules.specs.Answers.{Refusal, Answer, given, refused, refuse, Verdict, accepted, and_then, first_refusal}
use Rattle.rules.specs.Source.{resolved}
use Rattle.rules.specs.Kinds.{StringInner, HoleOpen, between}
use Rattle.rules.specs.Lent.{Lexeme, Arrays, contents}
use Rattle.rules.specs.Indent.{part_verdict, is_string_part, spaces_after, is_blank_line, string_next, indents_of, fewest, indent_of, indent_call}
use Rattle.list.specs.Entries.{first_of}
use Rattle.string.specs.Meaning.{part_checked}
use Rattle.string.specs.Indents.{fewest_meant, line_indents, part_indents, fewer}

-- what is told where nothing is said against a part: its span is not bad, its kind is a part's, and it ends within the text
accepted-tells : (text : List ℕ) (p : Lexeme) → part_verdict text p ≡ accepted → (is_bad p.at ≡ false) × (between StringInner HoleOpen p.kind ≡ true) × (leb p.at.end (length text) ≡ true)
unfolding part_verdict
accepted-tells text p h = tells (is_bad p.at) (between StringInner HoleOpen p.kind) (leb p.at.end (length text)) refl refl refl h
  where
    tells : (a b c : Bool) → is_bad p.at ≡ a → between StringInner HoleOpen p.kind ≡ b → leb p.at.end (length text) ≡ c
        → cond a (refuse BadSpan nowhere) (cond (b && c) accepted (refuse WrongForm p.at)) ≡ accepted
        → (is_bad p.at ≡ false) × (between StringInner HoleOpen p.kind ≡ true) × (leb p.at.end (length text) ≡ true)
    tells true b c x y z e = cc
    tells false true true x y z e = (x, y, z)
    tells false true false x y z e = cc
    tells false false c x y z e = cc

-- a part that nothing is said against lies inside the text
pub checked-inside : (text : List ℕ) (p : Lexeme) → part_verdict text p ≡ accepted → resolved text p.at ≡ given (bytes_at text p.at)
unfolding resolved
checked-inside text p h = let t = accepted-tells text p h in rw (t.0, t.2)

-- its kind is a part's
pub checked-kind : (text : List ℕ) (p : Lexeme) → part_verdict text p ≡ accepted → between StringInner HoleOpen p.kind ≡ true
checked-kind text p h = (accepted-tells text p h).1

-- nothing is said against a part that was checked
pub part-accepted : (text : List ℕ) (p q : Lexeme) → given q ≡ part_checked text p → part_verdict text p ≡ accepted
unfolding part_checked
part-accepted text p q h = by (part_verdict text p) h
  where
    by : (v : Verdict) → given q ≡ and_then v (given p) → v ≡ accepted
    by (given u) e = refl
    by (refused r) e = cc

-- and it is the part that was asked for
pub part_same : (text : List ℕ) (p q : Lexeme) → given q ≡ part_checked text p → q ≡ p
unfolding part_checked
part_same text p q h = by (part_verdict text p) h
  where
    by : (v : Verdict) → given q ≡ and_then v (given p) → q ≡ p
    by (given u) e = cc
    by (refused r) e = cc

-- a part that is refused is refused by the rule
pub part-refused : (text : List ℕ) (p : Lexeme) (r : Refusal) → refused r ≡ part_checked text p → part_verdict text p ≡ refused r
unfolding part_checked
part-refused text p r h = by (part_verdict text p) h
  where
    by : (v : Verdict) → refused r ≡ and_then v (given p) → v ≡ refused r
    by (given u) e = cc
    by (refused s) e = cc

-- whether the next part is a String is read off the first of those that follow
pub next_first : (ps : List Lexeme) → string_next ps ≡ is_string_part (first_of ps)
next_first [] = refl
next_first (p ∷ ps) = refl

-- what a list's first part adds stands before what the others add
pub indents-on : (text : List ℕ) (p : Lexeme) (ps : List Lexeme) → part_verdict text p ≡ accepted → indents_of text (p ∷ ps) ≡ part_indents text (string_next ps) p ++ indents_of text ps
unfolding part_indents line_indents
indents-on text p ps h =
    let w = bytes_at text p.at in
    rw (checked-inside text p h) (three (is_string_part p) (begins "\n" w) (not (is_blank_line w && string_next ps)) (spaces_after w) (indents_of text ps))
  where
    three : (a b c : Bool) (n : ℕ) (ns : List ℕ) → cond (a && b && c) (n ∷ ns) ns ≡ cond a (cond (b && c) (n ∷ []) []) [] ++ ns
    three true true true n ns = refl
    three true true false n ns = refl
    three true false c n ns = refl
    three false b c n ns = refl

-- the fewest stays the same where two numbers at the front give way to the smaller one
fewest-min : (n m : ℕ) (ns : List ℕ) → fewest (min n m ∷ ns) ≡ fewest (n ∷ (m ∷ ns))
fewest-min n m [] = refl
fewest-min n m (k ∷ ns) = omega arith

-- and where what was counted and one more give way to the fewest of both
fewest-fewer : (s t : Option ℕ) (ns : List ℕ) → fewest (fewer (fewest_meant s) (fewest_meant t) ++ ns) ≡ fewest (fewest_meant s ++ (fewest_meant t ++ ns))
fewest-fewer None t ns = refl
fewest-fewer (Some n) None ns = refl
fewest-fewer (Some n) (Some m) ns = fewest-min n m ns

-- the indent call from some part on, where the parts before it added these
abbrev pub indent_from : List ℕ → (before : List ℕ) → List Lexeme → Answer ℕ
indent_from text ns ps = and_then (first_refusal (part_verdict text) ps) (given (fewest (ns ++ indents_of text ps)))

-- the call starts with its first part and none before it
pub indent-start : (text : List ℕ) (parts : Arrays) (count : ℕ) → indent_call text parts count ≡ indent_from text [] (take count (contents parts))
unfolding indent_call indent_of
indent-start text parts count = refl

-- it goes on behind a part that nothing is said against
pub indent-on : (text : List ℕ) (s t : Option ℕ) (p : Lexeme) (ps : List Lexeme) → part_verdict text p ≡ accepted → fewest_meant t ≡ part_indents text (string_next ps) p
    → indent_from text (fewest_meant s) (p ∷ ps) ≡ indent_from text (fewer (fewest_meant s) (fewest_meant t)) ps
indent-on text s t p ps h e =
    rw (h, indents-on text p ps h, ← e, fewest-fewer s t (indents_of text ps))

-- it stops at a part that is refused
pub indent-stop : (text ns : List ℕ) (p : Lexeme) (ps : List Lexeme) (r : Refusal) → part_verdict text p ≡ refused r → indent_from text ns (p ∷ ps) ≡ refused r
indent-stop text ns p ps r h = rw h
