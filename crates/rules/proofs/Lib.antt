-- Laws about the definitions that every crate above needs, and the definitions on given texts.

-- a number tells the reason
pub mod Reasons
-- what is read off the front of a text
pub mod Text
-- the places of the two words of an entry
pub mod Arithmetic
-- one computed test over all entries of a table, over all bytes or kinds
pub mod Every
-- runs of bytes by position, as a loop meets them
pub mod Runs
-- a run of whitespace, measured
pub mod Measuring
-- spans and their two words
pub mod Spans
-- UTF-8: the function by position, and the RFC's grammar
pub mod Utf8
pub mod Rfc3629
-- what a step answers, by its two cases
pub mod Steps
-- one step stays inside the text
pub mod Bounds
-- RFC 8259's decimals
pub mod Decimals
-- the steps of a text as a loop meets them
pub mod Trace
-- lent memory: one lexeme more, what is on a stack, what is untouched
pub mod Lent
-- lexemes in lent arrays, read back
pub mod Listed
-- the steps of any text, in any lent memory, are a front of it
pub mod Front
-- lent memory is taken by lexemes alone
pub mod SpacesAside
-- what is listed shows the lexemes
pub mod Listing
-- the marked pairs and the worked texts
pub mod Computes
pub mod Marked
