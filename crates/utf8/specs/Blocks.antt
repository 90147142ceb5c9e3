-- What the private functions ensure of a block in which characters of any length stand: each byte is held against the three before it.
use Rattle.std.specs.Prelude.{ℕ, ◌+◌, ◌≤◌, ◌<◌, ◌≡◌, cond, List, length, get_or, leb}
use Rattle.rules.specs.Utf8.{UTF8-tail}

-- what the RFC asks of a byte `d` behind `a`, `b` and `c`: a tail where a character goes on, in a narrower range behind E0, ED, F0 and F4; elsewhere ASCII, or C2 and up. That it is F4 at most stands apart, in `Good`
pub record Follows (a b c d : ℕ) : Type 0 where
  pub second : 0xC0 ≤ c → UTF8-tail d
  pub third : 0xE0 ≤ b → UTF8-tail d
  pub fourth : 0xF0 ≤ a → UTF8-tail d
  pub first : a < 0xF0 → b < 0xE0 → c < 0xC0 → 0x80 ≤ d → 0xC2 ≤ d
  pub after-E0 : c ≡ 0xE0 → 0x80 ≤ d → 0xA0 ≤ d
  pub after-ED : c ≡ 0xED → d ≤ 0x9F
  pub after-F0 : c ≡ 0xF0 → 0x80 ≤ d → 0x90 ≤ d
  pub after-F4 : c ≡ 0xF4 → d ≤ 0x8F

-- the same of the byte at `k + 3`
abbrev pub FollowsAt : List ℕ → ℕ → Type 0
FollowsAt t k = Follows (get_or t k 0) (get_or t (k + 1) 0) (get_or t (k + 2) 0) (get_or t (k + 3) 0)

-- each byte of a block follows the three before it
pub record AllFollow (b : List ℕ) : Type 0 where
  pub each : (k : ℕ) → k + 3 < length b → FollowsAt b k

-- and is F4 at most
pub record Good (b : List ℕ) : Type 0 where
  pub follows : (k : ℕ) → k + 3 < length b → FollowsAt b k
  pub low : (k : ℕ) → k + 3 < length b → get_or b (k + 3) 0 ≤ 0xF4

-- three bytes with which a text can begin: no character goes on from before
pub record Starts (a b c : ℕ) : Type 0 where
  pub low : (a ≤ 0xF4) × (b ≤ 0xF4) × (c ≤ 0xF4)
  pub one : Follows 0 0 0 a
  pub two : Follows 0 0 a b
  pub three : Follows 0 a b c

abbrev pub StartsAt : List ℕ → ℕ → Type 0
StartsAt t i = Starts (get_or t i 0) (get_or t (i + 1) 0) (get_or t (i + 2) 0)

-- of the three bytes from `i` on, the one at which a character begins that goes on behind them; the place behind them where none does
abbrev pub last_boundary : List ℕ → ℕ → ℕ
last_boundary t i =
    cond (leb 0xC0 (get_or t (i + 2) 0)) (i + 2) (
    cond (leb 0xE0 (get_or t (i + 1) 0)) (i + 1) (
    cond (leb 0xF0 (get_or t i 0)) i (i + 3)))
