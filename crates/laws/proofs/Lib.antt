-- Why demand 3 holds of the definitions of `rules`.

-- The account of every byte, and of lent memory.
-- no two Spaces follow each other
pub mod Spaces
-- every opener has its closer
pub mod Nesting
-- what a call does with the memory lent to it
pub mod Lent
-- together
pub mod Accounting
-- Lookahead: what of the rest of a text a step depends on.
-- tests and runs at the front of a longer text
pub mod Lookahead
-- what a step may find, and finds again
pub mod Found
-- numbers
pub mod Numbers
-- the other lexemes outside strings
pub mod Outside
-- lexemes in a string
pub mod Inside
-- what may follow a lexeme so that it is found again
pub mod Follow
-- What lexing a re-spaced text gives.
-- the steps of an accepted text
pub mod Accepted
-- which kinds a step gives, and where runs end
pub mod StepKinds
-- in a string or outside, after a lexeme
pub mod Modes
-- the gap rule by cases
pub mod Gaps
-- the steps of the re-spaced text
pub mod Respaced
-- cutting UTF-8 texts between two characters
pub mod Cuts
-- every lexeme ends there
pub mod CharacterEnds
-- the re-spaced text is UTF-8
pub mod Validity
-- Two accepted texts with the same lexemes cannot be told apart.
-- answers that are the same but for their spans
pub mod SameButSpans
-- the tidy writer
pub mod Tidying
-- the parts of a string
pub mod SameParts
-- the value of a string
pub mod Values
-- lexing, tidying and values together
pub mod SameAnswers
-- Demand 3, over the definitions and at the calls.
pub mod Demand3
pub mod Calls
-- The walker.
pub mod Walking
