-- Lent memory: lexemes, openers and parts in parallel arrays.
use Rattle.std.specs.Prelude.{ℕ, ◌+◌, ◌*◌, ◌/◌, min, ◌≡◌, List, [], ◌∷◌, ◌++◌, map, take, drop, length, set}
use Rattle.rules.specs.Spans.{Span, low, high, span_of}

-- a listed lexeme, or an opener on the stack, or a part of a string
pub record Lexeme : Type 0 where
  pub kind : ℕ
  pub at : Span

abbrev pub lexeme : ℕ → Span → Lexeme
lexeme k s = record { kind = k; at = s }

-- an array of kind codes, and beside it an array with the two words of each span
pub record Arrays : Type 0 where
  pub kinds : List ℕ
  pub words : List ℕ

abbrev pub arrays : (kinds words : List ℕ) → Arrays
arrays ks ws = record { kinds = ks; words = ws }

-- "its places are the smaller of the first length and half the second, rounded down"
abbrev pub places_of : (kinds words : List ℕ) → ℕ
places_of ks ws = min (length ks) (length ws / 2)

abbrev pub array_places : Arrays → ℕ
array_places a = places_of a.kinds a.words

-- what stands in them
abbrev pub lexemes_in : (kinds words : List ℕ) → List Lexeme
lexemes_in [] ws = []
lexemes_in (k ∷ ks) [] = []
lexemes_in (k ∷ ks) (l ∷ []) = []
lexemes_in (k ∷ ks) (l ∷ (h ∷ ws)) = lexeme k (span_of l h) ∷ lexemes_in ks ws

abbrev pub contents : Arrays → List Lexeme
contents a = lexemes_in a.kinds a.words

-- "The list ends at the smaller of its count and its places": its lexemes from a place on
abbrev pub lexemes_from : Arrays → (count place : ℕ) → List Lexeme
lexemes_from a count place = drop place (take count (contents a))

-- these lexemes at their start, every later place untouched
abbrev pub kinds_with : List Lexeme → List ℕ → List ℕ
kinds_with ls ks = map (λ l. l.kind) ls ++ drop (length ls) ks

abbrev pub words_of : List Lexeme → List ℕ
words_of [] = []
words_of (l ∷ ls) = low l.at ∷ high l.at ∷ words_of ls

abbrev pub words_with : List Lexeme → List ℕ → List ℕ
words_with ls ws = words_of ls ++ drop (length ls * 2) ws

abbrev pub holding : List Lexeme → Arrays → Arrays
holding ls a = arrays (kinds_with ls a.kinds) (words_with ls a.words)

-- one lexeme put at a place
abbrev pub put_at : (place : ℕ) → Lexeme → Arrays → Arrays
put_at place l a = arrays (set a.kinds place l.kind) (set (set a.words (place * 2) (low l.at)) (place * 2 + 1) (high l.at))

-- untouched from a place upward
pub record UntouchedFrom (place : ℕ) (a a' : Arrays) : Type 0 where
  pub kinds : drop place a'.kinds ≡ drop place a.kinds
  pub words : drop (place * 2) a'.words ≡ drop (place * 2) a.words
  pub kinds_length : length a'.kinds ≡ length a.kinds
  pub words_length : length a'.words ≡ length a.words

-- What a call that fills a list is lent: a list and a stack, each of them this. An array more for both would be a field here, and would count in the four definitions below.
pub record Lent : Type 0 where
  pub arrays : Arrays

abbrev pub lent : (kinds words : List ℕ) → Lent
lent ks ws = record { arrays = arrays ks ws }

abbrev pub places_in : Lent → ℕ
places_in m = array_places m.arrays

-- with these lexemes at the start and every later place untouched
abbrev pub filled : List Lexeme → Lent → Lent
filled ls m = record { arrays = holding ls m.arrays }

-- "Stack places from the deepest nesting upward" are untouched, "lower ones are free"
abbrev pub FreeBelow : (place : ℕ) (m m' : Lent) → Type 0
FreeBelow place m m' = UntouchedFrom place m.arrays m'.arrays
