-- One pass over a run of whitespace: what was looked at, and what is measured so far.
use Rattle.std.specs.Prelude.{ℕ, suc, ◌+◌, ◌-◌, ◌≤◌, ◌<◌, ◌^◌, min, ◌≡◌, false, cond, Bool, ◌&&◌, List, ◌⊎◌, eqb, ltb, length, drop, get_or}
use Prim.Native.Char.{code}
use Rattle.rules.specs.Text.{is, run}
use Rattle.rules.specs.Bytes.{is_whitespace}
use Rattle.rules.specs.Measuring.{measured}
use Rattle.rules.specs.Measuring as Rule
use Rattle.scan.specs.Reach.{Reach}
use Rattle.scan.specs.declared.Measured.{Measured}
use Rattle.scan.specs.declared.Looked.{Looked}

-- the code's answer in the rules' words
abbrev pub measured_meant : Measured → Rule.Measured
measured_meant m = record { length = m.length; lines = m.lines; looked = m.looked }

-- so many bytes looked at one after the other, or fewer until one is no space: how many they are, and the last of them, a space where all are
pub record LooksAs (t : List ℕ) (at most : ℕ) (r : Looked) : Type 0 where
  pub count : r.count ≡ min (suc (run (is " ") (drop at t))) most
  pub byte : r.byte ≡ cond (ltb (run (is " ") (drop at t)) most) (get_or t (at + run (is " ") (drop at t)) 0) (code " ")

-- the measure after more bytes, of which all but the last are spaces
abbrev pub further_of : Measured → Looked → Measured
further_of m l = cond (is_whitespace l.byte)
    (record { length = m.length + l.count; lines = m.lines + cond (is "\n" l.byte) 1 0; looked = m.looked + l.count })
    (record { length = m.length + (l.count - 1); lines = m.lines; looked = m.looked + l.count })

-- no byte has ended the run yet, and bytes are left
abbrev pub goes_on : List ℕ → (at : ℕ) → Measured → Bool
goes_on t at m = eqb m.length m.looked && ltb (at + m.length) (length t)

-- no count can overflow by it
pub record CanGrow (m : Measured) (l : Looked) : Type 0 where
  pub some : 0 < l.count
  pub length : m.length + l.count < 2 ^ 64
  pub looked : m.looked + l.count < 2 ^ 64
  pub lines : m.lines < m.length + l.count

-- the byte at a position was looked at, and ends the run
pub record EndsAt (t : List ℕ) (i : ℕ) : Type 0 where
  pub inside : i < length t
  pub other : is_whitespace (get_or t i 0) ≡ false

-- a pass from a position: the run goes on where the pass stands, with the line ends that are left, and each byte was looked at once; or the byte there was looked at too, and the run ends before it
pub record Passing (t : List ℕ) (at : ℕ) (m : Measured) : Type 0 where
  pub reach : Reach is_whitespace t at (at + m.length)
  pub few : m.lines ≤ m.length
  pub counted : (measured (drop at t)).lines ≡ m.lines + (measured (drop (at + m.length) t)).lines
  pub looked : (m.looked ≡ m.length) ⊎ ((m.looked ≡ m.length + 1) × EndsAt t (at + m.length))
