-- Laws of a list in two arrays: which lexeme stands at a place, and what is there after one was put.
use Prim.Native.Nat.{ℕ, zero, suc, ◌+◌, ◌*◌, ◌≤◌, ◌<◌}
use native.Mathlib.Numerals.{add-one}
use native.Mathlib.Omega.{arith}
use mathlib.Core.Path.{◌≡◌, refl, sym, ◌∙◌}
use mathlib.Core.List.{List, [], ◌∷◌, ◌++◌}
use lib.Dec.{ltb}
use lib.ListN.{length, get_or, take, drop, length-take, drop_of_length-le}
use borrow.Author.Tests.{lt-ltb}
use Rattle.std.proofs.lemmas.List.{take_min}
use Rattle.rules.specs.Spans.{nowhere, span_of}
use Rattle.rules.specs.Kinds.{Space}
use Rattle.rules.specs.Lent.{Lexeme, lexeme, Arrays, places_of, array_places, lexemes_in, holding, put_at, UntouchedFrom}
use Rattle.rules.proofs.Arithmetic.{suc-double, suc-double-one}
use Rattle.rules.proofs.Listed.{places-length}
use Rattle.rules.proofs.Lent.{AsLong, same-places, holding-snoc, holding-long, put-long, untouched-put}
use Rattle.rules.proofs.Text.{decide}
use Rattle.list.specs.Entries.{first_of, put_in}

-- from a place on stand the lexeme at that place and those from the next place on
pub first-drop : (ls : List Lexeme) (i : ℕ) → i < length ls → drop i ls ≡ first_of (drop i ls) ∷ drop (suc i) ls
first-drop [] i lt = absurd (omega arith)
first-drop (l ∷ ls) zero lt = refl
first-drop (l ∷ ls) (suc i) lt = first-drop ls i (omega arith)

-- the same, where the lexeme there is known
pub place_on : (ls : List Lexeme) (i : ℕ) (l : Lexeme) → i < length ls → l ≡ first_of (drop i ls) → drop i ls ≡ l ∷ drop (i + 1) ls
place_on ls i l lt e = rw (add-one i, e) (first-drop ls i lt)

-- the lexeme at a place is the same where only the first lexemes are taken, and the place is among them
pub first_taken : (n : ℕ) (ls : List Lexeme) (i : ℕ) → i < n → first_of (drop i (take n ls)) ≡ first_of (drop i ls)
first_taken zero ls i lt = absurd (omega arith)
first_taken (suc n) [] i lt = refl
first_taken (suc n) (l ∷ ls) zero lt = refl
first_taken (suc n) (l ∷ ls) (suc i) lt = first_taken n ls i (omega arith)

-- from a place among the first lexemes on, a list is the lexeme at that place and those behind it
pub from_place : (n : ℕ) (ls : List Lexeme) (i : ℕ) (l : Lexeme) → i < length (take n ls) → l ≡ first_of (drop i ls) → drop i (take n ls) ≡ l ∷ drop (i + 1) (take n ls)
from_place n ls i l lt e =
    let among : i < n = omega (arith, lt, length-take n ls) in
    rw (add-one i, e, ← (first_taken n ls i among)) (first-drop (take n ls) i lt)

-- past the last lexeme stands a Space at 0-0
pub first_past : (ls : List Lexeme) (i : ℕ) → length ls ≤ i → first_of (drop i ls) ≡ lexeme Space nowhere
first_past ls i le = rw (drop_of_length-le ls le)

-- the lexeme at a place has the kind and the span that stand there
pub lexeme-at : (ks ws : List ℕ) (i : ℕ) → i < places_of ks ws →
    first_of (drop i (lexemes_in ks ws)) ≡ lexeme (get_or ks i 0) (span_of (get_or ws (i * 2) 0) (get_or ws (i * 2 + 1) 0))
lexeme-at [] ws i lt = absurd (omega arith)
lexeme-at (k ∷ ks) [] i lt = absurd (omega arith)
lexeme-at (k ∷ ks) (l ∷ []) i lt = absurd (omega arith)
lexeme-at (k ∷ ks) (l ∷ (h ∷ ws)) zero lt = refl
lexeme-at (k ∷ ks) (l ∷ (h ∷ ws)) (suc i) lt = rw (suc-double-one i, suc-double i) (lexeme-at ks ws i (omega arith))

-- the first places of the arrays hold the first lexemes
first_places : (n : ℕ) (ks ws : List ℕ) → lexemes_in (take n ks) (take (n * 2) ws) ≡ take n (lexemes_in ks ws)
first_places zero ks ws = refl
first_places (suc n) [] ws = refl
first_places (suc n) (k ∷ ks) [] = rw (suc-double n) refl
first_places (suc n) (k ∷ ks) (l ∷ []) = rw (suc-double n) refl
first_places (suc n) (k ∷ ks) (l ∷ (h ∷ ws)) = rw (suc-double n, first_places n ks ws) refl

-- where there are not two words, no entry stands
pub no_entry : (ks ws : List ℕ) → length ws < 2 → lexemes_in ks ws ≡ []
no_entry [] ws lt = refl
no_entry (k ∷ ks) [] lt = refl
no_entry (k ∷ ks) (l ∷ []) lt = refl
no_entry (k ∷ ks) (l ∷ (h ∷ ws)) lt = absurd (omega arith)

-- the end of a list with so many entries is within its places
pub end_inside : (n e : ℕ) (ks ws : List ℕ) → e ≡ length (take n (lexemes_in ks ws)) → e ≤ places_of ks ws
end_inside n e ks ws h = omega (arith, h, length-take n (lexemes_in ks ws), places-length ks ws)

-- up to there the arrays hold its entries
pub first_entries : (n e : ℕ) (ks ws : List ℕ) → e ≡ length (take n (lexemes_in ks ws)) → lexemes_in (take e ks) (take (e * 2) ws) ≡ take n (lexemes_in ks ws)
first_entries n e ks ws h = rw (h, length-take n (lexemes_in ks ws), first_places) (take_min n (lexemes_in ks ws))

-- Putting a lexeme
-- where there is such a place
pub put-there : (place : ℕ) (l : Lexeme) (a : Arrays) → place < array_places a → put_in place l a ≡ put_at place l a
put-there place l a lt = rw (lt-ltb place (array_places a) lt)

-- at the place behind those at the start, it is one more of them
pub put-behind : (ls : List Lexeme) (l : Lexeme) (a : Arrays) → length ls < array_places a → put_in (length ls) l (holding ls a) ≡ holding (ls ++ (l ∷ [])) a
put-behind ls l a lt =
    let room : length ls < array_places (holding ls a) = omega (arith, same-places (holding-long ls a (omega arith))) in
    put-there (length ls) l (holding ls a) room ∙ sym (holding-snoc ls l a lt)

-- no array gets longer or shorter
pub put-in-long : (place : ℕ) (l : Lexeme) (a : Arrays) → AsLong a (put_in place l a)
put-in-long place l a = decide (ltb place (array_places a)) (λ e. rw e (put-long place l a)) (λ e. rw e (record { kinds = refl; words = refl }))

-- what is above that place is untouched
pub put-in-untouched : (e place : ℕ) (l : Lexeme) {a a' : Arrays} → place < e → UntouchedFrom e a a' → UntouchedFrom e a (put_in place l a')
put-in-untouched e place l {a} {a'} lt u = decide (ltb place (array_places a')) (λ t. rw t (untouched-put e place l lt u)) (λ t. rw t u)
