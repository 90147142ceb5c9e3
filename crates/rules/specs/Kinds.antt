-- "Kind codes", by the names of the Rust's `Token` and with the paper's numbers.
use Rattle.std.specs.Prelude.{ℕ, Bool, ◌&&◌, ◌||◌, leb, eqb}

-- Space 0 (dropped)
abbrev pub Space : ℕ
Space = 0

abbrev pub Blank : ℕ
Blank = 1

abbrev pub Shebang : ℕ
Shebang = 2

abbrev pub LineComment : ℕ
LineComment = 3

abbrev pub Ident : ℕ
Ident = 4

-- QuoteOpen 5 to 8 (plain double, plain triple, format double, format triple)
abbrev pub PlainDouble : ℕ
PlainDouble = 5

abbrev pub PlainTriple : ℕ
PlainTriple = 6

abbrev pub FormatDouble : ℕ
FormatDouble = 7

abbrev pub FormatTriple : ℕ
FormatTriple = 8

abbrev pub QuoteClose : ℕ
QuoteClose = 9

abbrev pub StringInner : ℕ
StringInner = 10

-- Escape 11 to 13
abbrev pub Single : ℕ
Single = 11

abbrev pub Unicode4 : ℕ
Unicode4 = 12

abbrev pub UnicodeDelim : ℕ
UnicodeDelim = 13

abbrev pub HoleOpen : ℕ
HoleOpen = 14

abbrev pub HoleClose : ℕ
HoleClose = 15

abbrev pub NumHexadecimal : ℕ
NumHexadecimal = 16

abbrev pub NumBinary : ℕ
NumBinary = 17

abbrev pub NumDecimal : ℕ
NumDecimal = 18

-- `KwAnd` to `KwTrue` 19 to 32
abbrev pub KwAnd : ℕ
KwAnd = 19

abbrev pub KwAssert : ℕ
KwAssert = 20

abbrev pub KwFalse : ℕ
KwFalse = 21

abbrev pub KwFor : ℕ
KwFor = 22

abbrev pub KwElse : ℕ
KwElse = 23

abbrev pub KwIf : ℕ
KwIf = 24

abbrev pub KwImport : ℕ
KwImport = 25

abbrev pub KwIn : ℕ
KwIn = 26

abbrev pub KwLet : ℕ
KwLet = 27

abbrev pub KwNot : ℕ
KwNot = 28

abbrev pub KwNull : ℕ
KwNull = 29

abbrev pub KwOr : ℕ
KwOr = 30

abbrev pub KwTrace : ℕ
KwTrace = 31

abbrev pub KwTrue : ℕ
KwTrue = 32

-- `LParen` to `Pipe` 33 to 59 in the order of `Token`
abbrev pub LParen : ℕ
LParen = 33

abbrev pub RParen : ℕ
RParen = 34

abbrev pub LBracket : ℕ
LBracket = 35

abbrev pub RBracket : ℕ
RBracket = 36

abbrev pub LBrace : ℕ
LBrace = 37

abbrev pub RBrace : ℕ
RBrace = 38

abbrev pub Lt : ℕ
Lt = 39

abbrev pub Gt : ℕ
Gt = 40

abbrev pub LtEq : ℕ
LtEq = 41

abbrev pub GtEq : ℕ
GtEq = 42

abbrev pub Eq2 : ℕ
Eq2 = 43

abbrev pub Neq : ℕ
Neq = 44

abbrev pub ThinArrow : ℕ
ThinArrow = 45

abbrev pub FatArrow : ℕ
FatArrow = 46

abbrev pub Eq1 : ℕ
Eq1 = 47

abbrev pub Bang : ℕ
Bang = 48

abbrev pub Star : ℕ
Star = 49

abbrev pub Plus : ℕ
Plus = 50

abbrev pub Comma : ℕ
Comma = 51

abbrev pub Minus : ℕ
Minus = 52

abbrev pub Dot : ℕ
Dot = 53

abbrev pub DotDot : ℕ
DotDot = 54

abbrev pub DotDotDot : ℕ
DotDotDot = 55

abbrev pub Slash : ℕ
Slash = 56

abbrev pub Colon : ℕ
Colon = 57

abbrev pub Semicolon : ℕ
Semicolon = 58

abbrev pub Pipe : ℕ
Pipe = 59

-- what the innermost opener's code is where nothing is open: no opener has this code
abbrev pub Nothing : ℕ
Nothing = 0

abbrev pub between : ℕ → ℕ → ℕ → Bool
between first last k = leb first k && leb k last

abbrev pub is_space : ℕ → Bool
is_space k = eqb k Space

abbrev pub is_quote_open : ℕ → Bool
is_quote_open = between PlainDouble FormatTriple

-- format double, format triple
abbrev pub is_format : ℕ → Bool
is_format k = eqb k FormatDouble || eqb k FormatTriple

-- plain triple, format triple
abbrev pub is_triple : ℕ → Bool
is_triple k = eqb k PlainTriple || eqb k FormatTriple

abbrev pub is_escape : ℕ → Bool
is_escape = between Single UnicodeDelim

-- "codes 5 to 8, 14, 33, 35, 37"
unfoldable pub is_opener : ℕ → Bool
is_opener k = is_quote_open k || eqb k HoleOpen || eqb k LParen || eqb k LBracket || eqb k LBrace

unfoldable pub is_closer : ℕ → Bool
is_closer k = eqb k QuoteClose || eqb k HoleClose || eqb k RParen || eqb k RBracket || eqb k RBrace
