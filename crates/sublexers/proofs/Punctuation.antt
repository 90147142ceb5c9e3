-- Punctuation by its first byte: each byte leaves what is short enough for the code to decide.
use Prim.Native.Nat.{ℕ, suc, ◌+◌}
use Prim.Native.Char.{Char, code}
use Prim.Native.String.{String}
use Prim.Native.String as S
use mathlib.Core.Path.{◌≡◌, refl}
use mathlib.Core.List.{List, ◌∷◌}
use mathlib.Core.Bool.{Bool, true, false, cond, ◌||◌, false≢true}
use native.Mathlib.Omega.{arith}
use native.Mathlib.Nat.{add-zero}
use Rattle.std.proofs.lemmas.Grind.{common_steps}
use borrow.Author.Tests.{ne_eqb}
use lib.Dec.{eqb}
use Rattle.rules.specs.Text.{is, begins, run}
use Rattle.rules.specs.Bytes.{is_not_lf}
use Rattle.rules.specs.Refusals.{UnknownPunctuation, LoneHash}
use Rattle.rules.specs.Kinds.{Shebang, LineComment, PlainDouble, PlainTriple, HoleOpen, HoleClose, LParen, RParen, LBracket, RBracket, LBrace, RBrace, Lt, Gt, LtEq, GtEq, Eq2, Neq, ThinArrow, FatArrow, Eq1, Bang, Star, Plus, Comma, Minus, Dot, DotDot, DotDotDot, Slash, Colon, Semicolon, Pipe}
use Rattle.rules.specs.Step.{Step, found, stop, closer, monograph, punctuation}
use Rattle.rules.proofs.Text.{decide, is_code}
use Rattle.rules.proofs.Runs.{begins-at, begins-more}
use Rattle.sublexers.specs.ByClass.{punctuated}

-- the end of a line from one byte further
pub plus_suc : (at n : ℕ) → at + 1 + n ≡ at + suc n
plus_suc at n = omega arith

-- to unfold this is to unfold the rules of punctuation
whole : (innermost : ℕ) → List ℕ → Step
unfolding punctuated punctuation monograph
whole = punctuated

module _ (i : ℕ) (s : List ℕ) where
  -- one byte, whatever follows
  pub at_lparen : punctuated i (code "(" ∷ s) ≡ found LParen 1
  unfolding whole
  at_lparen = refl

  pub at_lbracket : punctuated i (code "[" ∷ s) ≡ found LBracket 1
  unfolding whole
  at_lbracket = refl

  pub at_lbrace : punctuated i (code "{" ∷ s) ≡ found LBrace 1
  unfolding whole
  at_lbrace = refl

  pub at_star : punctuated i (code "*" ∷ s) ≡ found Star 1
  unfolding whole
  at_star = refl

  pub at_plus : punctuated i (code "+" ∷ s) ≡ found Plus 1
  unfolding whole
  at_plus = refl

  pub at_comma : punctuated i (code "," ∷ s) ≡ found Comma 1
  unfolding whole
  at_comma = refl

  pub at_colon : punctuated i (code ":" ∷ s) ≡ found Colon 1
  unfolding whole
  at_colon = refl

  pub at_semicolon : punctuated i (code ";" ∷ s) ≡ found Semicolon 1
  unfolding whole
  at_semicolon = refl

  pub at_pipe : punctuated i (code "|" ∷ s) ≡ found Pipe 1
  unfolding whole
  at_pipe = refl

  -- a closer, by the innermost opener
  pub at_rparen : punctuated i (code ")" ∷ s) ≡ closer i LParen RParen
  unfolding whole
  at_rparen = refl

  pub at_rbracket : punctuated i (code "]" ∷ s) ≡ closer i LBracket RBracket
  unfolding whole
  at_rbracket = refl

  pub at_rbrace : punctuated i (code "}" ∷ s) ≡ cond (eqb i HoleOpen) (found HoleClose 1) (closer i LBrace RBrace)
  unfolding whole
  at_rbrace = refl

  -- one byte or more, by the bytes that follow
  pub at_quote : punctuated i (code "\"" ∷ s) ≡ cond (begins "\"\"" s) (found PlainTriple 3) (found PlainDouble 1)
  unfolding whole
  at_quote = refl

  pub at_lt : punctuated i (code "<" ∷ s) ≡ cond (begins "=" s) (found LtEq 2) (found Lt 1)
  unfolding whole
  at_lt = refl

  pub at_gt : punctuated i (code ">" ∷ s) ≡ cond (begins "=" s) (found GtEq 2) (found Gt 1)
  unfolding whole
  at_gt = refl

  pub at_eq : punctuated i (code "=" ∷ s) ≡ cond (begins "=" s) (found Eq2 2) (cond (begins ">" s) (found FatArrow 2) (found Eq1 1))
  unfolding whole
  at_eq = refl

  pub at_bang : punctuated i (code "!" ∷ s) ≡ cond (begins "=" s) (found Neq 2) (found Bang 1)
  unfolding whole
  at_bang = refl

  pub at_minus : punctuated i (code "-" ∷ s) ≡ cond (begins ">" s) (found ThinArrow 2) (found Minus 1)
  unfolding whole
  at_minus = refl

  pub at_dot : punctuated i (code "." ∷ s) ≡ cond (begins ".." s) (found DotDotDot 3) (cond (begins "." s) (found DotDot 2) (found Dot 1))
  unfolding whole
  at_dot = refl

  pub at_slash : punctuated i (code "/" ∷ s) ≡ cond (begins "/" s) (found LineComment (suc (run is_not_lf s))) (found Slash 1)
  unfolding whole is_not_lf
  at_slash = refl

  pub at_hash : punctuated i (code "#" ∷ s) ≡ cond (begins "!" s) (found Shebang (suc (run is_not_lf s))) (stop LoneHash 0 1)
  unfolding whole is_not_lf
  at_hash = refl

-- beside another fact, the byte is none of these characters: as the last arm of a match knows it
abbrev pub BesideNoneOf : Type 0 → String → ℕ → Type 0
BesideNoneOf N S.[] b = N
BesideNoneOf N (S.◌∷◌ c w) b = BesideNoneOf (N × (b ≡ code c → ⊥)) w b

beside : (N : Type 0) (w : String) (b : ℕ) → BesideNoneOf N w b → N
beside N S.[] b h = h
beside N (S.◌∷◌ c w) b h = (beside (N × (b ≡ code c → ⊥)) w b h).0

-- the byte is none of these characters
abbrev pub NoneOf : String → ℕ → Type 0
NoneOf = BesideNoneOf (Unit {0})

-- the character is one of these
abbrev among : Char → String → Bool
among d S.[] = false
among d (S.◌∷◌ c w) = is c (code d) || among d w

none_of : (N : Type 0) (d : Char) (w : String) (b : ℕ) → BesideNoneOf N w b → among d w ≡ true → is d b ≡ false
none_of N d S.[] b h e = absurd (false≢true e)
none_of N d (S.◌∷◌ c w) b h e = decide (is c (code d))
    (λ q. rw (is_code c (code d) q) (ne_eqb b (code c) (beside (N × (b ≡ code c → ⊥)) w b h).1))
    (λ q. none_of (N × (b ≡ code c → ⊥)) d w b h (rw q at e))

-- the bytes of the laws above
abbrev pub marks : String
marks = "([{*+,:;|)]}\"<>=!-./#"

-- any other byte
pub at_other : (i b : ℕ) (s : List ℕ) → NoneOf marks b → punctuated i (b ∷ s) ≡ stop UnknownPunctuation 0 1
unfolding whole
at_other i b s h =
    let no : (c : Char) → among c marks ≡ true → is c b ≡ false = λ c e. none_of (Unit {0}) c marks b h e in
    rw (
      no "(" refl,
      no "[" refl,
      no "{" refl,
      no "*" refl,
      no "+" refl,
      no "," refl,
      no ":" refl,
      no ";" refl,
      no "|" refl,
      no ")" refl,
      no "]" refl,
      no "}" refl,
      no "\"" refl,
      no "<" refl,
      no ">" refl,
      no "=" refl,
      no "!" refl,
      no "-" refl,
      no "." refl,
      no "/" refl,
      no "#" refl,
    )

-- a step at punctuation, by the bytes behind its first
pub ruleset behind_first = (common_steps, plus_suc, begins-at, begins-more, add-zero)

-- a step at punctuation, by its first byte
pub ruleset by_first = (common_steps, begins-at, at_lparen, at_lbracket, at_lbrace, at_star, at_plus, at_comma, at_colon, at_semicolon, at_pipe, at_rparen, at_rbracket, at_rbrace, at_quote, at_lt, at_gt, at_eq, at_bang, at_minus, at_dot, at_slash, at_hash, at_other)
