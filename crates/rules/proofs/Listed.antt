-- Lexemes that were written to two lent arrays are read back.
use Prim.Native.Nat.{ℕ, ◌^◌, ◌≤◌, ◌<◌}
use native.Mathlib.Omega.{arith}
use mathlib.Core.Path.{◌≡◌, refl, ap}
use mathlib.Core.List.{List, [], ◌∷◌}
use lib.ListN.{length, take, drop}
use Rattle.rules.specs.Lent.{Lexeme, Arrays, places_of, array_places, lexemes_in, contents, lexemes_from, kinds_with, words_with, holding}
use Rattle.rules.proofs.Arithmetic.{suc-double}
use Rattle.rules.proofs.Spans.{span-of-words}

-- as many lexemes stand in the arrays as there are places
pub places-length : (ks ws : List ℕ) → length (lexemes_in ks ws) ≡ places_of ks ws
places-length [] ws = omega arith
places-length (k ∷ ks) [] = omega arith
places-length (k ∷ ks) (l ∷ []) = omega arith
places-length (k ∷ ks) (l ∷ (h ∷ ws)) = omega (arith, places-length ks ws)

-- every span of some lexemes starts and ends within the limit, so that its two words name it
abbrev pub AllWords : List Lexeme → Type 0
AllWords [] = Unit {0}
AllWords (p ∷ ps) = (p.at.start < 2 ^ 48) × (p.at.end < 2 ^ 48) × AllWords ps

-- lexemes that were written at the start of the arrays are read back
pub lexemes-with : (ps : List Lexeme) (ks ws : List ℕ) → length ps ≤ places_of ks ws → AllWords ps → take (length ps) (lexemes_in (kinds_with ps ks) (words_with ps ws)) ≡ ps
lexemes-with [] ks ws room small = refl
lexemes-with (p ∷ ps) [] ws room small = absurd (omega arith)
lexemes-with (p ∷ ps) (k ∷ ks) [] room small = absurd (omega arith)
lexemes-with (p ∷ ps) (k ∷ ks) (a ∷ []) room small = absurd (omega arith)
lexemes-with (p ∷ ps) (k ∷ ks) (a ∷ (b ∷ ws)) room small =
    rw (suc-double (length ps), span-of-words p.at small.0 small.1)
    (ap (λ (r : List Lexeme). p ∷ r) (lexemes-with ps ks ws (omega arith) small.2))

-- the same of the arrays as one
pub contents-holding : (ps : List Lexeme) (a : Arrays) → length ps ≤ array_places a → AllWords ps → take (length ps) (contents (holding ps a)) ≡ ps
contents-holding ps a room small = lexemes-with ps a.kinds a.words room small

-- so are those from a place on
pub lexemes-from-holding : (ps : List Lexeme) (a : Arrays) (place : ℕ) → length ps ≤ array_places a → AllWords ps → lexemes_from (holding ps a) (length ps) place ≡ drop place ps
lexemes-from-holding ps a place room small = ap (λ (r : List Lexeme). drop place r) (contents-holding ps a room small)
