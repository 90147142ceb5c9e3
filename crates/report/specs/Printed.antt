-- What is printed, byte for byte.
use Rattle.std.specs.Prelude.{ℕ, zero, suc, List, [], ◌++◌, ◌≡◌, take, drop, length, cond, ltb, codes, decimal}
use Rattle.std.specs.Prelude.{Option as Option'}
use Rattle.std.specs.Io.KnownBytes.{Appends, Keeps}
use Rattle.rules.specs.Refusals.{TooLong}
use Rattle.rules.specs.Spans.{Span, nowhere}
use Rattle.rules.specs.Answers.{Refusal, refusal, Verdict, given, refused, unless_refused}
use Rattle.rules.specs.Lent.{Lexeme}
use Rattle.rules.specs.Lexing.{Lexed, lexing, listing}
use Rattle.rules.specs.Tidy.{tidying}
use Rattle.list.specs.Entries.{first_of}
use Rattle.source.specs.Printed.{next, refusal_text}
use Rattle.report.specs.declared.print.Failed.{Failed}
use Rattle.report.specs.declared.print.Failed.TheVariants.{Unread, Unwritten}

-- the line that a refusal prints
abbrev pub refusal_line : Refusal → List ℕ
refusal_line r = refusal_text r ++ codes "\n"

-- of a text over a program's limit
abbrev pub over_line : List ℕ
over_line = refusal_line (refusal TooLong nowhere)

-- "Sizes first: bytes, lexemes, deepest, steps, dropped bytes".
abbrev pub sizes_line : (bytes : ℕ) → Lexed → List ℕ
sizes_line bytes r = decimal bytes ++ (next r.lexemes ++ (next r.deepest ++ (next r.steps ++ (next r.dropped ++ codes "\n"))))

-- a space before every entry of a line but the first
abbrev pub separator : (place : ℕ) → List ℕ
separator zero = []
separator (suc n) = codes " "

abbrev pub span_of_entry : Span → List ℕ
span_of_entry s = decimal s.start ++ (codes "-" ++ decimal s.end)

-- what the line of the kind codes says of a lexeme, and what that of the spans says
abbrev pub kind_said : Lexeme → List ℕ
kind_said l = decimal l.kind

abbrev pub span_said : Lexeme → List ℕ
span_said l = span_of_entry l.at

abbrev pub entry_at : (said : Lexeme → List ℕ) → List Lexeme → (place : ℕ) → List ℕ
entry_at said ls n = separator n ++ said (first_of (drop n ls))

-- so many first entries of a list
abbrev pub entries_of : (said : Lexeme → List ℕ) → List Lexeme → ℕ → List ℕ
entries_of said ls zero = []
entries_of said ls (suc n) = entries_of said ls n ++ entry_at said ls n

abbrev pub kinds_of : List Lexeme → ℕ → List ℕ
kinds_of = entries_of kind_said

abbrev pub spans_of : List Lexeme → ℕ → List ℕ
spans_of = entries_of span_said

-- the sizes, the kind codes and the spans of what was lexed from so many bytes
abbrev pub listed_lines : (bytes : ℕ) → Lexed → List Lexeme → List ℕ
listed_lines bytes r ls = sizes_line bytes r ++ ((kinds_of ls r.lexemes ++ codes "\n") ++ (spans_of ls r.lexemes ++ codes "\n"))

-- the listing of a text that is lexed into a list of so many places with a stack of so many, or the refusal's line
abbrev pub listed_in : (places stack : ℕ) → List ℕ → List ℕ
listed_in places stack text =
    unless_refused (lexing 0 places stack text).verdict refusal_line
    (listed_lines (length text) (lexing 0 places stack text) (listing 0 places stack text))

abbrev pub text_listed : List ℕ → List ℕ
text_listed text = listed_in 1024 64 text

-- "A listing program reads standard input (over 4,096 bytes: refusal 2; list 1,024 places, stack 64)."
abbrev pub listing_of : List ℕ → List ℕ
listing_of text = cond (ltb 4096 (length text)) over_line (text_listed text)

-- what is appended where two writers are lent: to the first the bytes, or to the second the refusal's line; the other one keeps what it held
abbrev pub AppendsEither : Verdict → (bytes : List ℕ) → (to to' refusals refusals' : Option' (List ℕ)) → Type 0
AppendsEither (given u) bytes to to' refusals refusals' = Appends to to' bytes × Keeps refusals refusals'
AppendsEither (refused r) bytes to to' refusals refusals' = Appends refusals refusals' (refusal_line r) × Keeps to to'

-- the tidied text or the refusal's line, with a list and a stack of so many places, into an output whatever it held
abbrev pub TidiedIn : (places stack : ℕ) → (text out : List ℕ) → (to to' refusals refusals' : Option' (List ℕ)) → Type 0
TidiedIn places stack text out to to' refusals refusals' =
    AppendsEither (tidying 0 places stack text out).lexed.verdict (take (tidying 0 places stack text out).written (tidying 0 places stack text out).output) to to' refusals refusals'

-- with memory for every text of 65,536 bytes
abbrev pub TextTidied : (text : List ℕ) → (to to' refusals refusals' : Option' (List ℕ)) → Type 0
TextTidied text to to' refusals refusals' = (out : List ℕ) × (length out ≡ 131072) × TidiedIn 65536 65536 text out to to' refusals refusals'

-- what is said on standard error where something could not be read or written
abbrev pub message : Failed → List ℕ
message Unread = codes "standard input could not be read"
message Unwritten = codes "the answer could not be written"
