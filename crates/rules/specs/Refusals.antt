-- "What is turned down, and where": the numbers of the table, by name.
use Rattle.std.specs.Prelude.{ℕ, Bool, List, [], ◌∷◌}
use Rattle.std.specs.List.{list_any}
use lib.Dec.{eqb}

-- not UTF-8 by RFC 3629; empty span where the first bad sequence begins
abbrev pub NotUtf8 : ℕ
NotUtf8 = 1

-- over 2^48 − 1 bytes; span 0-0
abbrev pub TooLong : ℕ
TooLong = 2

-- span with start after end, end over 2^48 − 1, or a union of two documents
abbrev pub BadSpan : ℕ
BadSpan = 3

-- other control byte; the run of bytes under 0x20 or equal 0x7F, line ends included
abbrev pub ControlByte : ℕ
ControlByte = 10

-- byte over 127 outside strings, comments and shebangs; the run of them
abbrev pub NotAscii : ℕ
NotAscii = 11

-- other ASCII punctuation; 1 byte
abbrev pub UnknownPunctuation : ℕ
UnknownPunctuation = 12

-- `#` without `!`; 1 byte
abbrev pub LoneHash : ℕ
LoneHash = 13

-- `0b`, `0x` without a digit; prefix and underscores
abbrev pub NoBinaryDigit : ℕ
NoBinaryDigit = 14

abbrev pub NoHexDigit : ℕ
NoHexDigit = 15

-- no digit right after the dot; the dot
abbrev pub NoFractionDigit : ℕ
NoFractionDigit = 16

-- no digit after e or E and its sign; empty span there
abbrev pub NoExponentDigit : ℕ
NoExponentDigit = 17

-- `\u{` and hex digits without `}`; empty span after them
abbrev pub NoClosingBrace : ℕ
NoClosingBrace = 18

-- `\u` with fewer than 4 hex digits; what was found
abbrev pub FewHexDigits : ℕ
FewHexDigits = 19

-- `\` is the last byte; 1 byte
abbrev pub EscapeAtEnd : ℕ
EscapeAtEnd = 20

-- `\` before CR or LF; 2 bytes
abbrev pub EscapedLineEnd : ℕ
EscapedLineEnd = 21

-- `\` before a byte over 127; both and the bytes 0x80 to 0xBF after them
abbrev pub EscapedNotAscii : ℕ
EscapedNotAscii = 22

-- closer and nothing open; 1 byte
abbrev pub NothingOpen : ℕ
NothingOpen = 23

-- closer and another one due; 1 byte, note the opener
abbrev pub AnotherDue : ℕ
AnotherDue = 24

-- end reached in a bracket; empty span at the end, note the opener
abbrev pub UnclosedBracket : ℕ
UnclosedBracket = 25

-- the same in a hole, string, format string
abbrev pub UnclosedHole : ℕ
UnclosedHole = 26

abbrev pub UnclosedString : ℕ
UnclosedString = 27

abbrev pub UnclosedFormat : ℕ
UnclosedFormat = 28

-- opener and full stack; its span
abbrev pub StackFull : ℕ
StackFull = 30

-- entry and full list; its span
abbrev pub ListFull : ℕ
ListFull = 31

-- wrong kind code or form, or span outside the text; for the walker see there
abbrev pub WrongForm : ℕ
WrongForm = 40

-- other byte, A to Z, after `\`
abbrev pub UnknownEscape : ℕ
UnknownEscape = 41

abbrev pub CapitalEscape : ℕ
CapitalEscape = 42

-- `\u{}`; over 6 digits; surrogate or over 0x10FFFF
abbrev pub NoDigits : ℕ
NoDigits = 43

abbrev pub ManyDigits : ℕ
ManyDigits = 44

abbrev pub NotScalar : ℕ
NotScalar = 45

-- the next piece does not fit the output
abbrev pub OutputFull : ℕ
OutputFull = 46

-- no string: see the parts list
abbrev pub NoString : ℕ
NoString = 50

-- all of them
abbrev pub numbers : List ℕ
numbers =
    NotUtf8 ∷ TooLong ∷ BadSpan ∷ ControlByte ∷ NotAscii ∷ UnknownPunctuation ∷ LoneHash ∷ NoBinaryDigit ∷
    NoHexDigit ∷ NoFractionDigit ∷ NoExponentDigit ∷ NoClosingBrace ∷ FewHexDigits ∷ EscapeAtEnd ∷ EscapedLineEnd ∷
    EscapedNotAscii ∷ NothingOpen ∷ AnotherDue ∷ UnclosedBracket ∷ UnclosedHole ∷ UnclosedString ∷ UnclosedFormat ∷
    StackFull ∷ ListFull ∷ WrongForm ∷ UnknownEscape ∷ CapitalEscape ∷ NoDigits ∷ ManyDigits ∷ NotScalar ∷
    OutputFull ∷ NoString ∷ []

-- whether the table has a number
abbrev pub is_named : ℕ → Bool
is_named n = list_any (eqb n) numbers
