-- Text is a list of bytes. How it is quoted here, and what is read off its front.
use Rattle.std.specs.Prelude.{ℕ, suc, List, [], ◌∷◌, ◌++◌, Bool, true, false, cond, ◌&&◌, leb, eqb}
use Prim.Native.Char.{Char, code}
use Prim.Native.String.{String}
use Prim.Native.String as S

-- the bytes of a quoted ASCII text
abbrev pub ascii : String → List ℕ
ascii S.[] = []
ascii (S.◌∷◌ c t) = code c ∷ ascii t

-- the byte is this character
abbrev pub is : Char → ℕ → Bool
is c b = eqb b (code c)

-- the byte stands from one character to another, both included
abbrev pub within : Char → Char → ℕ → Bool
within first last b = leb (code first) b && leb b (code last)

-- the text begins with the quoted one
abbrev pub begins : String → List ℕ → Bool
begins S.[] s = true
begins (S.◌∷◌ c t) [] = false
begins (S.◌∷◌ c t) (b ∷ s) = is c b && begins t s

-- the text is the quoted one
abbrev pub same : String → List ℕ → Bool
same S.[] [] = true
same S.[] (b ∷ s) = false
same (S.◌∷◌ c t) [] = false
same (S.◌∷◌ c t) (b ∷ s) = is c b && same t s

-- the text has a first byte, and it passes a test
abbrev pub starts : (ℕ → Bool) → List ℕ → Bool
starts p [] = false
starts p (b ∷ s) = p b

-- how many bytes at the front pass a test
abbrev pub run : (ℕ → Bool) → List ℕ → ℕ
run p [] = 0
run p (b ∷ s) = let more = suc (run p s) in cond (p b) more 0

-- every byte passes a test
abbrev pub all : (ℕ → Bool) → List ℕ → Bool
all p [] = true
all p (b ∷ s) = p b && all p s

-- how many bytes in all pass a test
abbrev pub count : (ℕ → Bool) → List ℕ → ℕ
count p [] = 0
count p (b ∷ s) = let more = count p s in cond (p b) (suc more) more

-- the elements that pass a test, in their order
abbrev pub keep : {A : Type 0} → (A → Bool) → List A → List A
keep p [] = []
keep p (x ∷ xs) = let more = keep p xs in cond (p x) (x ∷ more) more

-- texts one after another
abbrev pub join : List (List ℕ) → List ℕ
join [] = []
join (s ∷ ss) = s ++ join ss
