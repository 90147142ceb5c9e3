-- To unfold `computes` is to unfold every definition of specs/, so that each computes on closed arguments.
use mathlib.Core.List.{List}
use Prim.Native.Nat.{ℕ}
use Rattle.rules.specs.Bytes.{is_whitespace, is_control, is_digit, is_letter, is_punctuation, is_over127, class_of, is_identifier_byte, is_hex_digit, is_binary_digit, is_capital, is_not_lf}
use Rattle.rules.specs.Utf8.{is_two, is_three, is_four, char_length, first_bad_from, first_bad, encode, is_scalar}
use Rattle.rules.specs.Spans.{span_of}
use Rattle.rules.specs.Source.{new_span, len_of, trim_start, trim_end, until_of, union_of, resolved}
use Rattle.rules.specs.Kinds.{is_opener, is_closer}
use Rattle.rules.specs.Step.{is_digit_or_underscore, int_length, exponent_mark, exponent, fraction, decimal, prefixed, number, identifier_length, keyword_or_ident, identifier, whitespace, closer, monograph, punctuation, outside, unicode_delim, unicode4, single_escape, is_inner, closes_quote, inside, step}
use Rattle.rules.specs.Lexing.{Lexed, open_after, unclosed, trace_from, trace, limited, trace_in, verdict_of, lexed_of, listing, lexing}
use Rattle.rules.specs.Names.{is_keyword, is_identifier}
use Rattle.rules.specs.Output.{written}
use Rattle.rules.specs.Escapes.{is_single, is_unicode4, is_unicode_delim, hex_digit, single_scalar, unicode_scalar, scalar_of, escape_scalar, scalar_put, unescape}
use Rattle.rules.specs.Parts.{effect, parts_of, parts_in, parts_call}
use Rattle.rules.specs.Indent.{part_verdict, indent_of, indent_call}
use Rattle.rules.specs.Value.{dedented, part_bytes, value_written, value_of, value_call, handed_part}
use Rattle.rules.specs.Tidy.{gap, respaced, tidying}
use Rattle.rules.specs.Walker.{opening, kept_bad, is_misplaced, opener_put, walking}
use Rattle.rules.specs.Tally.{tallied}
use Rattle.rules.specs.Measuring.{measured}

unfoldable pub computes : (doc places stack : ℕ) → List ℕ → Lexed
unfolding is_whitespace is_control is_digit is_letter is_punctuation is_over127 class_of is_identifier_byte is_hex_digit is_binary_digit is_capital is_not_lf is_two is_three is_four char_length first_bad_from first_bad encode is_scalar span_of new_span len_of trim_start trim_end until_of union_of resolved is_opener is_closer is_digit_or_underscore int_length exponent_mark exponent fraction decimal prefixed number identifier_length keyword_or_ident identifier whitespace closer monograph punctuation outside unicode_delim unicode4 single_escape is_inner closes_quote inside step open_after unclosed trace_from trace limited trace_in verdict_of lexed_of listing lexing is_keyword is_identifier written is_single is_unicode4 is_unicode_delim hex_digit single_scalar unicode_scalar scalar_of escape_scalar scalar_put unescape effect parts_of parts_in parts_call part_verdict indent_of indent_call dedented part_bytes value_written value_of value_call handed_part gap respaced tidying opening kept_bad is_misplaced opener_put walking tallied measured
computes = lexing
