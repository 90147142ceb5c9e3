-- places of a text over which the check has gone
pub mod Ahead
-- the character at the front of a text
pub mod Front
-- from byte to byte through characters of any length
pub mod Reading
-- the bytes of a scalar value
pub mod Scalars
