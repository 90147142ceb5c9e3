-- The spans of found parts lie within the limit, so parts that were written into the parts list are read back.
use Prim.Native.Nat.{ℕ, zero, suc, ◌^◌, ◌≤◌, ◌<◌}
use native.Mathlib.Omega.{arith}
use mathlib.Core.Path.{◌≡◌}
use mathlib.Core.Bool.{Bool, true, false, cond, ◌||◌}
use mathlib.Core.List.{List, [], ◌∷◌}
use lib.Dec.{ltb, eqb}
use lib.ListN.{length, take}
use borrow.Author.Tests.{ltb-false}
use Rattle.rules.specs.Spans.{Span, nowhere, limit, is_bad, enclosing}
use Rattle.rules.specs.Answers.{Answer}
use Rattle.rules.specs.Kinds.{QuoteClose, StringInner, HoleOpen, HoleClose, is_quote_open, is_escape}
use Rattle.rules.specs.Lent.{Lexeme, Arrays, array_places, contents, holding}
use Rattle.rules.specs.Parts.{Effect, closes, refuses, passes, yields, effect, Parts, parts_from, parts_of, follow_effect, in_room, parts_in}
use Rattle.rules.proofs.Text.{decide, neither}
use Rattle.rules.proofs.Listed.{AllWords, contents-holding}

-- a span that starts and ends within the limit
abbrev pub Within : Span → Type 0
Within s = (s.start < 2 ^ 48) × (s.end < 2 ^ 48)

-- one that is not refused does
pub good-within : (s : Span) → is_bad s ≡ false → Within s
good-within s e =
    let both = neither (ltb s.end s.start) (ltb limit s.end) e in
    let order : s.start ≤ s.end = ltb-false s.end s.start both.0 in
    let last : s.end ≤ limit = ltb-false limit s.end both.1 in
    (omega arith, omega arith)

-- and so does one that encloses two such
enclosing-within : (s t : Span) → Within s → Within t → Within (enclosing s t)
enclosing-within s t a b = (omega (arith, a.0, b.0), omega (arith, a.1, b.1))

-- what an effect keeps or completes lies within the limit
data EffectWithin : Effect → Type 0 where
  ends : EffectWithin closes
  stops : {n : ℕ} {s : Span} → EffectWithin (refuses n s)
  keeps : {depth : ℕ} {hole : Span} → Within hole → EffectWithin (passes depth hole)
  completes : {p : Lexeme} → Within p.at → EffectWithin (yields p)

one-within : (b : Bool) {t u : Effect} → EffectWithin t → EffectWithin u → EffectWithin (cond b t u)
one-within true a b = a
one-within false a b = b

effect-within : (depth : ℕ) (hole : Span) (l : Lexeme) → Within hole → EffectWithin (effect depth hole l)
unfolding effect
effect-within depth hole l h = decide (is_bad l.at)
    (λ e. rw e stops)
    (λ e.
    let here = good-within l.at e in
    rw e (one-within (eqb depth 1)
    (one-within (eqb l.kind StringInner || is_escape l.kind) (completes here) (one-within (eqb l.kind HoleOpen) (keeps here) (one-within (eqb l.kind QuoteClose) ends stops)))
    (one-within (is_quote_open l.kind || eqb l.kind HoleOpen) (keeps h)
    (one-within (eqb l.kind QuoteClose || eqb l.kind HoleClose)
    (one-within (eqb depth 2) (one-within (eqb hole.doc l.at.doc) (completes (enclosing-within hole l.at h here)) stops) (keeps h))
    (keeps h)))))

follow-within : {t : Effect} (place : ℕ) (go : (depth : ℕ) (hole : Span) → Parts) → EffectWithin t → ((depth : ℕ) (hole : Span) → Within hole → AllWords (go depth hole).found) → AllWords (follow_effect t place go).found
follow-within place go ends h = tt
follow-within place go stops h = tt
follow-within place go (keeps {depth} {hole} g) h = h depth hole g
follow-within place go (completes g) h = (g.0, g.1, h 1 nowhere (omega arith, omega arith))

from-within : (ls : List Lexeme) (place depth : ℕ) (hole : Span) → Within hole → AllWords (parts_from place depth hole ls).found
from-within [] place depth hole h = tt
from-within (l ∷ ls) place depth hole h =
    follow-within place (λ d s. parts_from (suc place) d s ls) (effect-within depth hole l h) (λ d s g. from-within ls (suc place) d s g)

found-one : (b : Bool) (p q : Parts) → AllWords p.found → AllWords q.found → AllWords (cond b p q).found
found-one true p q a b = a
found-one false p q a b = b

of-within : (place : ℕ) (ls : List Lexeme) → AllWords (parts_of place ls).found
unfolding parts_of
of-within place [] = tt
of-within place (l ∷ ls) =
    found-one (is_bad l.at) _ _ tt (found-one (is_quote_open l.kind) _ _ (from-within ls (suc place) 1 nowhere (omega arith, omega arith)) tt)

room_within : (room : ℕ) (ps : List Lexeme) (a : Answer ℕ) → AllWords ps → AllWords (in_room room ps a).found
room_within room [] a h = tt
room_within zero (p ∷ ps) a h = tt
room_within (suc room) (p ∷ ps) a h = (h.0, h.1, room_within room ps a h.2)

room_most : (room : ℕ) (ps : List Lexeme) (a : Answer ℕ) → length (in_room room ps a).found ≤ room
room_most room [] a = omega arith
room_most zero (p ∷ ps) a = omega arith
room_most (suc room) (p ∷ ps) a = omega (arith, room_most room ps a)

module _ (room place : ℕ) (ls : List Lexeme) where
  -- the spans of found parts lie within the limit
  pub found_within : AllWords (parts_in room place ls).found
  unfolding parts_in
  found_within = room_within room (parts_of place ls).found (parts_of place ls).answer (of-within place ls)

  -- no more parts are found than there is room for
  pub found-most : length (parts_in room place ls).found ≤ room
  unfolding parts_in
  found-most = room_most room (parts_of place ls).found (parts_of place ls).answer

-- the parts that were written are read back
pub found-read : (place : ℕ) (ls : List Lexeme) (parts : Arrays) →
    let ps = (parts_in (array_places parts) place ls).found in take (length ps) (contents (holding ps parts)) ≡ ps
found-read place ls parts =
    contents-holding (parts_in (array_places parts) place ls).found parts (found-most (array_places parts) place ls) (found_within (array_places parts) place ls)
