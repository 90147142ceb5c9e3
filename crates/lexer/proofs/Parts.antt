-- Laws of the loop's parts: when the stack or the list is full, and that no opener and no closer is a Space.
use Prim.Native.Nat.{ℕ, ◌≤◌, max}
use native.Mathlib.Omega.{arith}
use mathlib.Core.Path.{◌≡◌, sym, ◌∙◌}
use mathlib.Core.Bool.{true, false, cond, false≢true}
use lib.Dec.{leb}
use Rattle.rules.specs.Kinds.{is_space, is_opener, is_closer}
use Rattle.rules.specs.Refusals.{StackFull, ListFull}
use Rattle.rules.proofs.Text.{decide}
use Rattle.lexer.specs.declared.Cursor.{Cursor}
use Rattle.lexer.specs.Cursor.{no_room_of}
use Rattle.rules.proofs.SpacesAside.{space-opens, space-closes}

-- when there is no room for a lexeme that opens, and for one that does not
pub full-opener : (stack places : ℕ) (c : Cursor) (k : ℕ) → is_space k ≡ false → is_opener k ≡ true → cond (leb stack c.depth) StackFull (cond (leb places c.lexemes) ListFull 0) ≡ no_room_of stack places c k
unfolding no_room_of
full-opener stack places c k b o = rw (b, o)

pub full-other : (stack places : ℕ) (c : Cursor) (k : ℕ) → is_space k ≡ false → is_opener k ≡ false → cond (leb places c.lexemes) ListFull 0 ≡ no_room_of stack places c k
unfolding no_room_of
full-other stack places c k b o = rw (b, o)

-- an opener and a closer are no Space
pub opener_listed : (k : ℕ) → is_opener k ≡ true → is_space k ≡ false
opener_listed k o = decide (is_space k) (λ b. absurd (false≢true (sym (space-opens k b) ∙ o))) (λ b. b)

pub closer_listed : (k : ℕ) → is_closer k ≡ true → is_space k ≡ false
closer_listed k o = decide (is_space k) (λ b. absurd (false≢true (sym (space-closes k b) ∙ o))) (λ b. b)

pub max_stays : (m n : ℕ) → n ≤ m → max m n ≡ m
max_stays m n h = omega arith
