-- the indent taken off a line
pub mod Dedenting
-- writing the bytes of an escape
pub mod Escapes
-- hex digits and the number that they make up
pub mod Digits
-- lines, parts and the indent
pub mod Lines
-- the first and the last byte of an identifier
pub mod Identifiers
-- the definitions' words on texts by the library's
pub mod Texts
