-- What was read of a text, and what answered it.
use Rattle.std.specs.Prelude.{ℕ, ◌<◌, ◌≤◌, ◌≡◌, List, length, Option, Some, None, Result, Ok, Err}
use Rattle.std.specs.Borrow.{Bor, MutBor}
use Rattle.std.specs.Fn.{Called, Mut}

-- what was read of some bytes: all of them, which leave room, or as many as fill the room; or a read that failed
abbrev pub Reads : {E : Type 0} → Result (Option (Bor (List ℕ))) E → (room : ℕ) → (bytes : List ℕ) → Type 0
Reads (Ok (Some text)) room bytes = (length bytes < room) × (text.now ≡ bytes)
Reads (Ok None) room bytes = room ≤ length bytes
Reads (Err e) room bytes = Unit {0}

-- a call of `f` at a text and a writer, which gives `Ok`
pub record Answers {F W E : Type 0} (g : Mut F (Bor (List ℕ) × (MutBor W × Unit {0})) (Result (Unit {0}) E × (MutBor W × Unit {0}))) (f : F) (text : List ℕ) (to : W) (f' : F) (to' : W) : Type 0 where
  pub shown : Bor (List ℕ)
  pub shows : shown.now ≡ text
  pub writer : MutBor W
  pub holds : writer.now ≡ to
  pub left : MutBor W
  pub called : Called g f (shown, (writer, tt)) (Ok tt, (left, tt)) f'
  pub leaves : left.now ≡ to'
