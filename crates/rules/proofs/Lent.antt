-- Laws of lent memory: one lexeme more, what stands on a stack, and what is untouched.
use Prim.Native.Nat.{ℕ, suc, ◌+◌, ◌-◌, ◌*◌, ◌≤◌, ◌<◌}
use mathlib.Core.Path.{◌≡◌, refl, sym, ap, ◌∙◌}
use mathlib.Core.List.{List, [], ◌∷◌, ◌++◌, map}
use native.Mathlib.Omega.{arith}
use lib.ListN.{drop, length, set, get_or, length-append, length-drop, length-map, length-set}
use lib.Seq.{drop-drop, drop-set-lt, get_or-set_same, get_or-set_other}
use Rattle.rules.specs.Spans.{low, high, span_of}
use Rattle.rules.specs.Lent.{Lexeme, Arrays, arrays, array_places, words_of, kinds_with, words_with, holding, put_at, UntouchedFrom, Lent, places_in}
use Rattle.rules.specs.Lexing.{innermost}
use Rattle.rules.proofs.Arithmetic.{suc-double, suc-double-one}

-- arrays are the same by each of the two
pub same-arrays : {ks ks' ws ws' : List ℕ} → ks ≡ ks' → ws ≡ ws' → arrays ks ws ≡ arrays ks' ws'
same-arrays e f = rw (e, f)

-- what is lent has no more places than its arrays
pub places-arrays : (m : Lent) → places_in m ≤ array_places m.arrays
places-arrays m = omega arith

-- With one lexeme more
kinds-snoc : (ls : List Lexeme) (l : Lexeme) (ks : List ℕ) → length ls < length ks → kinds_with (ls ++ (l ∷ [])) ks ≡ set (kinds_with ls ks) (length ls) l.kind
kinds-snoc [] l [] room = absurd (omega arith)
kinds-snoc [] l (k ∷ ks) room = refl
kinds-snoc (m ∷ ls) l [] room = absurd (omega arith)
kinds-snoc (m ∷ ls) l (k ∷ ks) room = ap (λ (r : List ℕ). m.kind ∷ r) (kinds-snoc ls l ks (omega arith))

words_snoc : (ls : List Lexeme) (l : Lexeme) (ws : List ℕ) → length ls * 2 + 1 < length ws →
    words_with (ls ++ (l ∷ [])) ws ≡ set (set (words_with ls ws) (length ls * 2) (low l.at)) (length ls * 2 + 1) (high l.at)
words_snoc [] l [] room = absurd (omega arith)
words_snoc [] l (a ∷ []) room = absurd (omega arith)
words_snoc [] l (a ∷ (b ∷ ws)) room = refl
words_snoc (m ∷ ls) l [] room = absurd (omega arith)
words_snoc (m ∷ ls) l (a ∷ []) room = absurd (omega arith)
words_snoc (m ∷ ls) l (a ∷ (b ∷ ws)) room =
    rw (suc-double-one (length ls), suc-double (length ls), suc-double (length (ls ++ (l ∷ []))))
    (ap (λ (r : List ℕ). low m.at ∷ high m.at ∷ r) (words_snoc ls l ws (omega arith)))

pub holding-snoc : (ls : List Lexeme) (l : Lexeme) (a : Arrays) → length ls < array_places a → holding (ls ++ (l ∷ [])) a ≡ put_at (length ls) l (holding ls a)
holding-snoc ls l a room = same-arrays (kinds-snoc ls l a.kinds (omega arith)) (words_snoc ls l a.words (omega arith))

-- as long as they were
pub record AsLong (a a' : Arrays) : Type 0 where
  pub kinds : length a'.kinds ≡ length a.kinds
  pub words : length a'.words ≡ length a.words

pub same-places : {a a' : Arrays} → AsLong a a' → array_places a' ≡ array_places a
same-places l = rw (l.kinds, l.words)

length-words : (ls : List Lexeme) → length (words_of ls) ≡ length ls * 2
length-words [] = refl
length-words (l ∷ ls) = omega (arith, length-words ls)

pub holding-long : (ls : List Lexeme) (a : Arrays) → length ls ≤ array_places a → AsLong a (holding ls a)
holding-long ls a room = record {
  kinds = simp (length-append, length-map, length-drop) (omega arith);
  words = simp (length-append, length-words, length-drop) (omega arith);
}

pub put-long : (n : ℕ) (l : Lexeme) (a : Arrays) → AsLong a (put_at n l a)
put-long n l a = record { kinds = length-set a.kinds n l.kind; words = simp length-set }

-- The stack
-- the openers, innermost first, as the stack has them: the innermost stands at the place below the depth
abbrev pub OnStack : List Lexeme → Arrays → Type 0
OnStack [] a = Unit {0}
OnStack (o ∷ os) a = (get_or a.kinds (length os) 0 ≡ o.kind) × (span_of (get_or a.words (length os * 2) 0) (get_or a.words (length os * 2 + 1) 0) ≡ o.at) × OnStack os a

-- the two words of a place, where another place's words are written
other-words : (ws : List ℕ) (i n l h : ℕ) → i < n →
    span_of (get_or (set (set ws (n * 2) l) (n * 2 + 1) h) (i * 2) 0) (get_or (set (set ws (n * 2) l) (n * 2 + 1) h) (i * 2 + 1) 0) ≡ span_of (get_or ws (i * 2) 0) (get_or ws (i * 2 + 1) 0)
other-words ws i n l h lt =
    let below : (j : ℕ) → j < n * 2 → get_or (set (set ws (n * 2) l) (n * 2 + 1) h) j 0 ≡ get_or ws j 0 =
    λ j lt₂. get_or-set_other (set ws (n * 2) l) (n * 2 + 1) j h 0 (omega arith) ∙ get_or-set_other ws (n * 2) j l 0 (omega arith) in
    rw (below (i * 2) (omega arith), below (i * 2 + 1) (omega arith))

-- writing at the depth or above keeps what is on the stack
stack-keep : (os : List Lexeme) (a : Arrays) (n : ℕ) (l : Lexeme) → OnStack os a → length os ≤ n → OnStack os (put_at n l a)
stack-keep [] a n l on above = tt
stack-keep (o ∷ os) a n l on above = (
  get_or-set_other a.kinds n (length os) l.kind 0 (omega arith) ∙ on.0,
  other-words a.words (length os) n (low l.at) (high l.at) (omega arith) ∙ on.1,
  stack-keep os a n l on.2 (omega arith),
)

-- an opener written at the depth is the innermost
pub stack_push : (os : List Lexeme) (o : Lexeme) (a : Arrays) → OnStack os a → length os < array_places a → span_of (low o.at) (high o.at) ≡ o.at → OnStack (o ∷ os) (put_at (length os) o a)
stack_push os o a on room e =
    let n : ℕ = length os in
    let l : ℕ = low o.at in
    let h : ℕ = high o.at in
    let first_word : List ℕ = set a.words (n * 2) l in
    let first : get_or (set first_word (n * 2 + 1) h) (n * 2) 0 ≡ l = get_or-set_other first_word (n * 2 + 1) (n * 2) h 0 (omega arith) ∙ get_or-set_same a.words (n * 2) l 0 (omega arith) in
    let second : get_or (set first_word (n * 2 + 1) h) (n * 2 + 1) 0 ≡ h = get_or-set_same first_word (n * 2 + 1) h 0 (omega (arith, length-set a.words (n * 2) l)) in
    (get_or-set_same a.kinds n o.kind 0 (omega arith), rw (first, second) e, stack-keep os a n o on (omega arith))

-- a closer takes the innermost, and writes nothing
pub stack-pop : (os : List Lexeme) (a : Arrays) → OnStack os a → OnStack (drop 1 os) a
stack-pop [] a on = tt
stack-pop (o ∷ os) a on = on.2

-- the innermost opener's code, read off the array
pub stack-top-kind : (os : List Lexeme) (a : Arrays) → OnStack os a → 0 < length os → innermost (map (λ x. x.kind) os) ≡ get_or a.kinds (length os - 1) 0
stack-top-kind [] a on some-open = absurd (omega arith)
stack-top-kind (o ∷ os) a on some-open =
    let n : suc (length os) - 1 ≡ length os = omega arith in
    rw n (sym on.0)

-- What is untouched from a place upward
pub all-untouched : (place : ℕ) (a : Arrays) → UntouchedFrom place a a
all-untouched place a = record { kinds = refl; words = refl; kinds_length = refl; words_length = refl }

-- what is the same from a place on is so from any later one
same-later : {A : Type 0} (d e : ℕ) (xs ys : List A) → d ≤ e → drop d xs ≡ drop d ys → drop e xs ≡ drop e ys
same-later {A} d e xs ys le same =
    let there : d + (e - d) ≡ e = omega arith in
    let further : drop (d + (e - d)) xs ≡ drop (d + (e - d)) ys = sym (drop-drop (e - d) d xs) ∙ ap (λ (r : List A). drop (e - d) r) same ∙ drop-drop (e - d) d ys in
    rw there at further

pub untouched-later : (d e : ℕ) {a a' : Arrays} → d ≤ e → UntouchedFrom d a a' → UntouchedFrom e a a'
untouched-later d e {a} {a'} le u = record {
  kinds = same-later d e a'.kinds a.kinds le u.kinds;
  words = same-later (d * 2) (e * 2) a'.words a.words (omega arith) u.words;
  kinds_length = u.kinds_length;
  words_length = u.words_length;
}

-- a lexeme put below that place leaves it so
pub untouched-put : (e n : ℕ) (l : Lexeme) {a a' : Arrays} → n < e → UntouchedFrom e a a' → UntouchedFrom e a (put_at n l a')
untouched-put e n l {a} {a'} lt u = record {
  kinds = drop-set-lt e a'.kinds n l.kind lt ∙ u.kinds;
  words = drop-set-lt (e * 2) (set a'.words (n * 2) (low l.at)) (n * 2 + 1) (high l.at) (omega arith) ∙ drop-set-lt (e * 2) a'.words (n * 2) (low l.at) (omega arith) ∙ u.words;
  kinds_length = length-set a'.kinds n l.kind ∙ u.kinds_length;
  words_length = simp length-set u.words_length;
}
