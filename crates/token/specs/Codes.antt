-- The kind code of each token and of each state's opener, by the paper's names.
use Rattle.std.specs.Prelude.{ℕ, Bool, cond, ◌||◌, leb, eqb, Option as CodeOption, Some as CodeSome, None as CodeNone, Result, Ok, Err}
use Rattle.std.proofs.Math.Option.{Option, none, some}
use Rattle.rules.specs.Kinds as Kinds
use Rattle.token.specs.declared.StringPrefix.{StringPrefix}
use Rattle.token.specs.declared.StringPrefix.TheVariants.{None, Format as FormatPrefix}
use Rattle.token.specs.declared.QuoteStyle.{QuoteStyle}
use Rattle.token.specs.declared.QuoteStyle.TheVariants.{Double, Triple}
use Rattle.token.specs.declared.Escape.{Escape as EscapeKind}
use Rattle.token.specs.declared.Escape.TheVariants.{Single, Unicode4, UnicodeDelim}
use Rattle.token.specs.declared.State.{State}
use Rattle.token.specs.declared.State.TheVariants.{Brace, Paren, Bracket, String, Format, Hole}
use Rattle.token.specs.declared.UnknownKind.{UnknownKind}
use Rattle.token.specs.declared.Token.{Token}
use Rattle.token.specs.declared.Token.TheVariants.{Space, Blank, Shebang, LineComment, Ident, QuoteOpen, QuoteClose, StringInner, Escape, HoleOpen, HoleClose, NumHexadecimal, NumBinary, NumDecimal, KwAnd, KwAssert, KwFalse, KwFor, KwElse, KwIf, KwImport, KwIn, KwLet, KwNot, KwNull, KwOr, KwTrace, KwTrue, LParen, RParen, LBracket, RBracket, LBrace, RBrace, Lt, Gt, LtEq, GtEq, Eq2, Neq, ThinArrow, FatArrow, Eq1, Bang, Star, Plus, Comma, Minus, Dot, DotDot, DotDotDot, Slash, Colon, Semicolon, Pipe}

abbrev pub quote_code : StringPrefix → QuoteStyle → ℕ
quote_code None Double = Kinds.PlainDouble
quote_code None Triple = Kinds.PlainTriple
quote_code FormatPrefix Double = Kinds.FormatDouble
quote_code FormatPrefix Triple = Kinds.FormatTriple

abbrev pub escape_code : EscapeKind → ℕ
escape_code Single = Kinds.Single
escape_code Unicode4 = Kinds.Unicode4
escape_code UnicodeDelim = Kinds.UnicodeDelim

unfoldable pub code_of : Token → ℕ
code_of Space = Kinds.Space
code_of Blank = Kinds.Blank
code_of Shebang = Kinds.Shebang
code_of LineComment = Kinds.LineComment
code_of Ident = Kinds.Ident
code_of (QuoteOpen prefix style) = quote_code prefix style
code_of QuoteClose = Kinds.QuoteClose
code_of StringInner = Kinds.StringInner
code_of (Escape escape) = escape_code escape
code_of HoleOpen = Kinds.HoleOpen
code_of HoleClose = Kinds.HoleClose
code_of NumHexadecimal = Kinds.NumHexadecimal
code_of NumBinary = Kinds.NumBinary
code_of NumDecimal = Kinds.NumDecimal
code_of KwAnd = Kinds.KwAnd
code_of KwAssert = Kinds.KwAssert
code_of KwFalse = Kinds.KwFalse
code_of KwFor = Kinds.KwFor
code_of KwElse = Kinds.KwElse
code_of KwIf = Kinds.KwIf
code_of KwImport = Kinds.KwImport
code_of KwIn = Kinds.KwIn
code_of KwLet = Kinds.KwLet
code_of KwNot = Kinds.KwNot
code_of KwNull = Kinds.KwNull
code_of KwOr = Kinds.KwOr
code_of KwTrace = Kinds.KwTrace
code_of KwTrue = Kinds.KwTrue
code_of LParen = Kinds.LParen
code_of RParen = Kinds.RParen
code_of LBracket = Kinds.LBracket
code_of RBracket = Kinds.RBracket
code_of LBrace = Kinds.LBrace
code_of RBrace = Kinds.RBrace
code_of Lt = Kinds.Lt
code_of Gt = Kinds.Gt
code_of LtEq = Kinds.LtEq
code_of GtEq = Kinds.GtEq
code_of Eq2 = Kinds.Eq2
code_of Neq = Kinds.Neq
code_of ThinArrow = Kinds.ThinArrow
code_of FatArrow = Kinds.FatArrow
code_of Eq1 = Kinds.Eq1
code_of Bang = Kinds.Bang
code_of Star = Kinds.Star
code_of Plus = Kinds.Plus
code_of Comma = Kinds.Comma
code_of Minus = Kinds.Minus
code_of Dot = Kinds.Dot
code_of DotDot = Kinds.DotDot
code_of DotDotDot = Kinds.DotDotDot
code_of Slash = Kinds.Slash
code_of Colon = Kinds.Colon
code_of Semicolon = Kinds.Semicolon
code_of Pipe = Kinds.Pipe

-- the code of the opener that opens a state
unfoldable pub state_code : State → ℕ
state_code Brace = Kinds.LBrace
state_code Paren = Kinds.LParen
state_code Bracket = Kinds.LBracket
state_code (String style) = quote_code None style
state_code (Format style) = quote_code FormatPrefix style
state_code Hole = Kinds.HoleOpen

-- of the answers to a code: the code of the token, or of the state's opener
unfoldable pub token_meant : Result Token UnknownKind → Option ℕ
token_meant (Ok t) = some (code_of t)
token_meant (Err e) = none

unfoldable pub state_meant : CodeOption State → Option ℕ
state_meant (CodeSome s) = some (state_code s)
state_meant CodeNone = none

-- a code is a kind's from Space to Pipe
unfoldable pub if_kind : ℕ → Option ℕ
if_kind k = cond (leb k Kinds.Pipe) (some k) none

unfoldable pub if_opener : ℕ → Option ℕ
if_opener k = cond (Kinds.is_opener k) (some k) none

-- "the first is QuoteOpen, StringInner, Escape or HoleClose"
unfoldable pub joins_next : ℕ → Bool
joins_next k = Kinds.is_quote_open k || eqb k Kinds.StringInner || Kinds.is_escape k || eqb k Kinds.HoleClose
