-- The paper's number of each of the code's reasons.
use Rattle.std.specs.Prelude.{ℕ}
use Rattle.rules.specs.Refusals as Refusals
use Rattle.rules.specs.declared.refusal.Reason.{Reason}
use Rattle.rules.specs.declared.refusal.Reason.TheVariants.{NotUtf8, TooLong, BadSpan, ControlByte, NotAscii, UnknownPunctuation, LoneHash, NoBinaryDigit, NoHexDigit, NoFractionDigit, NoExponentDigit, NoClosingBrace, FewHexDigits, EscapeAtEnd, EscapedLineEnd, EscapedNotAscii, NothingOpen, AnotherDue, UnclosedBracket, UnclosedHole, UnclosedString, UnclosedFormat, StackFull, ListFull, WrongForm, UnknownEscape, CapitalEscape, NoDigits, ManyDigits, NotScalar, OutputFull, NoString, Other}

abbrev pub number_of : Reason → ℕ
number_of NotUtf8 = Refusals.NotUtf8
number_of TooLong = Refusals.TooLong
number_of BadSpan = Refusals.BadSpan
number_of ControlByte = Refusals.ControlByte
number_of NotAscii = Refusals.NotAscii
number_of UnknownPunctuation = Refusals.UnknownPunctuation
number_of LoneHash = Refusals.LoneHash
number_of NoBinaryDigit = Refusals.NoBinaryDigit
number_of NoHexDigit = Refusals.NoHexDigit
number_of NoFractionDigit = Refusals.NoFractionDigit
number_of NoExponentDigit = Refusals.NoExponentDigit
number_of NoClosingBrace = Refusals.NoClosingBrace
number_of FewHexDigits = Refusals.FewHexDigits
number_of EscapeAtEnd = Refusals.EscapeAtEnd
number_of EscapedLineEnd = Refusals.EscapedLineEnd
number_of EscapedNotAscii = Refusals.EscapedNotAscii
number_of NothingOpen = Refusals.NothingOpen
number_of AnotherDue = Refusals.AnotherDue
number_of UnclosedBracket = Refusals.UnclosedBracket
number_of UnclosedHole = Refusals.UnclosedHole
number_of UnclosedString = Refusals.UnclosedString
number_of UnclosedFormat = Refusals.UnclosedFormat
number_of StackFull = Refusals.StackFull
number_of ListFull = Refusals.ListFull
number_of WrongForm = Refusals.WrongForm
number_of UnknownEscape = Refusals.UnknownEscape
number_of CapitalEscape = Refusals.CapitalEscape
number_of NoDigits = Refusals.NoDigits
number_of ManyDigits = Refusals.ManyDigits
number_of NotScalar = Refusals.NotScalar
number_of OutputFull = Refusals.OutputFull
number_of NoString = Refusals.NoString
number_of (Other u) = u.number
