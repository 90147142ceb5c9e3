-- Codes lead both ways, of tokens and of states: no two have one code, and what is answered to the code of one is that one. The list of the tokens by code carries it.
use Prim.Native.Nat.{ℕ}
use mathlib.Core.Path.{◌≡◌, refl, sym, ap, ◌∙◌}
use mathlib.Core.Bool.{cond}
use mathlib.Core.List.{List, [], ◌∷◌}
use mathlib.Core.Option.{some}
use lib.Dec.{eqb}
use lib.ListN.{get_or}
use Rattle.std.specs.Prelude.{Option, Some, None as NoState, Result, Ok, Err}
use Rattle.rules.specs.Kinds as Kinds
use Rattle.token.specs.Codes.{code_of, state_code, token_meant, state_meant, if_kind, if_opener}
use Rattle.token.specs.declared.StringPrefix.TheVariants.{None, Format as FormatPrefix}
use Rattle.token.specs.declared.QuoteStyle.TheVariants.{Double, Triple}
use Rattle.token.specs.declared.Escape.TheVariants.{Single, Unicode4, UnicodeDelim}
use Rattle.token.specs.declared.State.{State}
use Rattle.token.specs.declared.State.TheVariants.{Brace, Paren, Bracket, String, Format, Hole}
use Rattle.token.specs.declared.UnknownKind.{UnknownKind}
use Rattle.token.specs.declared.Token.{Token}
use Rattle.token.specs.declared.Token.TheVariants.{Space, Blank, Shebang, LineComment, Ident, QuoteOpen, QuoteClose, StringInner, Escape, HoleOpen, HoleClose, NumHexadecimal, NumBinary, NumDecimal, KwAnd, KwAssert, KwFalse, KwFor, KwElse, KwIf, KwImport, KwIn, KwLet, KwNot, KwNull, KwOr, KwTrace, KwTrue, LParen, RParen, LBracket, RBracket, LBrace, RBrace, Lt, Gt, LtEq, GtEq, Eq2, Neq, ThinArrow, FatArrow, Eq1, Bang, Star, Plus, Comma, Minus, Dot, DotDot, DotDotDot, Slash, Colon, Semicolon, Pipe}

-- in the order of their codes
tokens : List Token
tokens =
    Space ∷ Blank ∷ Shebang ∷ LineComment ∷ Ident ∷ QuoteOpen None Double ∷ QuoteOpen None Triple ∷
    QuoteOpen FormatPrefix Double ∷ QuoteOpen FormatPrefix Triple ∷ QuoteClose ∷ StringInner ∷ Escape Single ∷
    Escape Unicode4 ∷ Escape UnicodeDelim ∷ HoleOpen ∷ HoleClose ∷ NumHexadecimal ∷ NumBinary ∷ NumDecimal ∷ KwAnd ∷
    KwAssert ∷ KwFalse ∷ KwFor ∷ KwElse ∷ KwIf ∷ KwImport ∷ KwIn ∷ KwLet ∷ KwNot ∷ KwNull ∷ KwOr ∷ KwTrace ∷ KwTrue ∷
    LParen ∷ RParen ∷ LBracket ∷ RBracket ∷ LBrace ∷ RBrace ∷ Lt ∷ Gt ∷ LtEq ∷ GtEq ∷ Eq2 ∷ Neq ∷ ThinArrow ∷ FatArrow ∷
    Eq1 ∷ Bang ∷ Star ∷ Plus ∷ Comma ∷ Minus ∷ Dot ∷ DotDot ∷ DotDotDot ∷ Slash ∷ Colon ∷ Semicolon ∷ Pipe ∷ []

token_by : ℕ → Token
token_by k = get_or tokens k Space

token_back : (t : Token) → (token_by (code_of t) ≡ t) × (if_kind (code_of t) ≡ some (code_of t))
unfolding code_of tokens token_by if_kind
token_back (QuoteOpen None Double) = (refl, refl)
token_back (QuoteOpen None Triple) = (refl, refl)
token_back (QuoteOpen FormatPrefix Double) = (refl, refl)
token_back (QuoteOpen FormatPrefix Triple) = (refl, refl)
token_back (Escape Single) = (refl, refl)
token_back (Escape Unicode4) = (refl, refl)
token_back (Escape UnicodeDelim) = (refl, refl)
token_back t = (refl, refl)

pub codes-apart : (t u : Token) → code_of t ≡ code_of u → t ≡ u
codes-apart t u e = sym (token_back t).0 ∙ ap token_by e ∙ (token_back u).0

-- what the law of `Token::try_from` says at a token's code: its answer is that token
pub token-of-code : (t : Token) (r : Result Token UnknownKind) → token_meant r ≡ if_kind (code_of t) → r ≡ Ok t
unfolding token_meant
token-of-code t (Ok u) h = let same = codes-apart u t (cc (token_back t).1) in cc
token-of-code t (Err e) h = cc (token_back t).1

state_by : ℕ → State
state_by k =
    cond (eqb k Kinds.LBrace) Brace (
    cond (eqb k Kinds.LParen) Paren (
    cond (eqb k Kinds.LBracket) Bracket (
    cond (eqb k Kinds.PlainDouble) (String Double) (
    cond (eqb k Kinds.PlainTriple) (String Triple) (
    cond (eqb k Kinds.FormatDouble) (Format Double) (
    cond (eqb k Kinds.FormatTriple) (Format Triple) Hole))))))

state-back : (s : State) → (state_by (state_code s) ≡ s) × (if_opener (state_code s) ≡ some (state_code s))
unfolding state_code state_by if_opener Kinds.is_opener
state-back (String Double) = (refl, refl)
state-back (String Triple) = (refl, refl)
state-back (Format Double) = (refl, refl)
state-back (Format Triple) = (refl, refl)
state-back s = (refl, refl)

pub states-apart : (s u : State) → state_code s ≡ state_code u → s ≡ u
states-apart s u e = sym (state-back s).0 ∙ ap state_by e ∙ (state-back u).0

-- what `state_of` ensures, at the code of a state's opener: its answer is that state
pub state-of-code : (s : State) (r : Option State) → state_meant r ≡ if_opener (state_code s) → r ≡ Some s
unfolding state_meant
state-of-code s (Some u) h = let same = states-apart u s (cc (state-back s).1) in cc
state-of-code s NoState h = cc (state-back s).1
