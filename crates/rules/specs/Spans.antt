-- "Spans": start, end and document id; their two words; the bytes that a span names.
use Rattle.std.specs.Prelude.{ℕ, ◌+◌, ◌-◌, ◌*◌, ◌/◌, ◌%◌, ◌^◌, min, max, List, Bool, ◌||◌, ltb, take, drop}

pub record Span : Type 0 where
  pub doc : ℕ
  pub start : ℕ
  pub end : ℕ

-- a span of a document, from its start to before its end
abbrev pub span : (doc start end : ℕ) → Span
span d a e = record { doc = d; start = a; end = e }

-- "elsewhere 0-0 is two zero words"
abbrev pub nowhere : Span
nowhere = span 0 0 0

-- "at most 2^48 − 1 bytes"
abbrev pub limit : ℕ
limit = 2 ^ 48 - 1

-- "Low word = start + (end mod 2^16) × 2^48; high word = end div 2^16 + id × 2^32."
abbrev pub low : Span → ℕ
low s = s.start + s.end % 2 ^ 16 * 2 ^ 48

abbrev pub high : Span → ℕ
high s = s.end / 2 ^ 16 + s.doc * 2 ^ 32

-- the span of two words: "A document id is 32 bits, an offset 48."
unfoldable pub span_of : (low high : ℕ) → Span
span_of l h = span (h / 2 ^ 32) (l % 2 ^ 48) (l / 2 ^ 48 + h % 2 ^ 32 * 2 ^ 16)

-- refusal 3: "span with start after end, end over 2^48 − 1"
abbrev pub is_bad : Span → Bool
is_bad s = ltb s.end s.start || ltb limit s.end

-- the span that encloses both
abbrev pub enclosing : Span → Span → Span
enclosing s t = span s.doc (min s.start t.start) (max s.end t.end)

-- the bytes of a text from a start to an end
abbrev pub bytes_from : List ℕ → (start end : ℕ) → List ℕ
bytes_from text a e = take (e - a) (drop a text)

-- the part of a text that a span names
abbrev pub bytes_at : List ℕ → Span → List ℕ
bytes_at text s = bytes_from text s.start s.end
