-- UTF-8 by RFC 3629. Section 4's grammar, and, beside it, the function that finds where the first bad sequence begins.
use Rattle.std.specs.Prelude.{ℕ, zero, suc, pred, ◌+◌, ◌/◌, ◌%◌, ◌≤◌, List, [], ◌∷◌, ◌++◌, Bool, cond, ◌&&◌, ◌||◌, get_or, leb, ltb, eqb}
use Rattle.std.proofs.Math.Option.{Option, none, some}

-- %xLO-HI of the RFC's notation
abbrev pub Octet : ℕ → ℕ → ℕ → Type 0
Octet lo hi b = (lo ≤ b) × (b ≤ hi)

abbrev pub UTF8-tail : ℕ → Type 0
UTF8-tail b = Octet 0x80 0xBF b

-- UTF8-char = UTF8-1 / UTF8-2 / UTF8-3 / UTF8-4, each alternative in the RFC's order
pub data UTF8-char : List ℕ → Type 0 where
  UTF8-1 : {a : ℕ} → Octet 0x00 0x7F a → UTF8-char (a ∷ [])
  UTF8-2 : {a b : ℕ} → Octet 0xC2 0xDF a → UTF8-tail b → UTF8-char (a ∷ b ∷ [])
  UTF8-3-E0 : {a b c : ℕ} → Octet 0xE0 0xE0 a → Octet 0xA0 0xBF b → UTF8-tail c → UTF8-char (a ∷ b ∷ c ∷ [])
  UTF8-3-E1 : {a b c : ℕ} → Octet 0xE1 0xEC a → UTF8-tail b → UTF8-tail c → UTF8-char (a ∷ b ∷ c ∷ [])
  UTF8-3-ED : {a b c : ℕ} → Octet 0xED 0xED a → Octet 0x80 0x9F b → UTF8-tail c → UTF8-char (a ∷ b ∷ c ∷ [])
  UTF8-3-EE : {a b c : ℕ} → Octet 0xEE 0xEF a → UTF8-tail b → UTF8-tail c → UTF8-char (a ∷ b ∷ c ∷ [])
  UTF8-4-F0 : {a b c d : ℕ} → Octet 0xF0 0xF0 a → Octet 0x90 0xBF b → UTF8-tail c → UTF8-tail d → UTF8-char (a ∷ b ∷ c ∷ d ∷ [])
  UTF8-4-F1 : {a b c d : ℕ} → Octet 0xF1 0xF3 a → UTF8-tail b → UTF8-tail c → UTF8-tail d → UTF8-char (a ∷ b ∷ c ∷ d ∷ [])
  UTF8-4-F4 : {a b c d : ℕ} → Octet 0xF4 0xF4 a → Octet 0x80 0x8F b → UTF8-tail c → UTF8-tail d → UTF8-char (a ∷ b ∷ c ∷ d ∷ [])

-- UTF8-octets = *( UTF8-char )
pub data UTF8-octets : List ℕ → Type 0 where
  empty : UTF8-octets []
  more : {c s : List ℕ} → UTF8-char c → UTF8-octets s → UTF8-octets (c ++ s)

-- the same ranges as tests
abbrev pub is_octet : ℕ → ℕ → ℕ → Bool
is_octet lo hi b = leb lo b && leb b hi

abbrev pub is_tail : ℕ → Bool
is_tail = is_octet 0x80 0xBF

unfoldable pub is_two : ℕ → ℕ → Bool
is_two a b = is_octet 0xC2 0xDF a && is_tail b

unfoldable pub is_three : ℕ → ℕ → ℕ → Bool
is_three a b c =
    is_octet 0xE0 0xE0 a && is_octet 0xA0 0xBF b && is_tail c
    || is_octet 0xE1 0xEC a && is_tail b && is_tail c
    || is_octet 0xED 0xED a && is_octet 0x80 0x9F b && is_tail c
    || is_octet 0xEE 0xEF a && is_tail b && is_tail c

unfoldable pub is_four : ℕ → ℕ → ℕ → ℕ → Bool
is_four a b c d =
    is_octet 0xF0 0xF0 a && is_octet 0x90 0xBF b && is_tail c && is_tail d
    || is_octet 0xF1 0xF3 a && is_tail b && is_tail c && is_tail d
    || is_octet 0xF4 0xF4 a && is_octet 0x80 0x8F b && is_tail c && is_tail d

-- how many bytes the character at the front of a text has, 0 where there is none; past the end a 0 is read, with which no character goes on
unfoldable pub char_length : List ℕ → ℕ
char_length [] = 0
char_length (a ∷ s) =
    cond (is_octet 0x00 0x7F a) 1 (
    cond (is_two a (get_or s 0 0)) 2 (
    cond (is_three a (get_or s 0 0) (get_or s 1 0)) 3 (
    cond (is_four a (get_or s 0 0) (get_or s 1 0) (get_or s 2 0)) 4 0)))

-- where the first bad sequence begins, in a text that stands at `at`, of whose front `skip` bytes belong to a character before
unfoldable pub first_bad_from : (skip at : ℕ) → List ℕ → Option ℕ
first_bad_from skip at [] = none
first_bad_from (suc skip) at (b ∷ s) = first_bad_from skip (suc at) s
first_bad_from zero at (b ∷ s) =
    let n = char_length (b ∷ s) in
    let next = first_bad_from (pred n) (suc at) s in
    cond (eqb n 0) (some at) next

-- refusal 1: "where the first bad sequence begins"
unfoldable pub first_bad : List ℕ → Option ℕ
first_bad = first_bad_from 0 0

-- section 3: the bytes of a scalar value
unfoldable pub encode : ℕ → List ℕ
encode u =
    cond (ltb u 0x80) (u ∷ []) (
    cond (ltb u 0x800) ((0xC0 + u / 64) ∷ (0x80 + u % 64) ∷ []) (
    cond (ltb u 0x10000) ((0xE0 + u / 4096) ∷ (0x80 + u / 64 % 64) ∷ (0x80 + u % 64) ∷ [])
    ((0xF0 + u / 262144) ∷ (0x80 + u / 4096 % 64) ∷ (0x80 + u / 64 % 64) ∷ (0x80 + u % 64) ∷ [])))

-- "surrogate or over 0x10FFFF" is none
unfoldable pub is_scalar : ℕ → Bool
is_scalar u = ltb u 0xD800 || leb 0xE000 u && leb u 0x10FFFF
