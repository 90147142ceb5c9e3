-- The rules that everything here is proved against, in the order of document 01 (RCL text: lexemes, strings and tidy protocols), then of document 02 (changes customers asked for later).
-- Each file names the heading that it is written from. Nothing here is proved: laws stand in proofs/.

-- how the other files write text, and what they read off the front of one
pub mod Text
-- "One step of the lexer": the class of each byte
pub mod Bytes
-- "not UTF-8 by RFC 3629": the RFC's grammar, and where the first bad sequence begins
pub mod Utf8
-- "What is turned down, and where": the refusals' numbers by name
pub mod Refusals
-- the same of the reasons that the code gives
pub mod Reasons
-- "Spans"
pub mod Spans
-- an answer or a refusal
pub mod Answers
-- what can be done with spans
pub mod Source
-- "Kind codes"
pub mod Kinds
-- "One step of the lexer": outside strings, in a string
pub mod Step
-- RFC 8259's numbers
pub mod Decimals
-- lent memory: lists and stacks in parallel arrays
pub mod Lent
-- "What is turned down, and where": the steps of a text, counts, notes
pub mod Lexing
-- "Beside the line": is_identifier, is_keyword
pub mod Names
-- "Escapes, parts, indent, value"
pub mod Output
pub mod Escapes
pub mod Parts
pub mod Indent
pub mod Value
-- "The gap rule and the tidy writer"
pub mod Tidy
-- "Beside the line": the walker, the tally
pub mod Walker
pub mod Tally
-- Document 02
-- "Whitespace in one pass": what measuring a run answers
pub mod Measuring
