-- A walker over a text that it borrows: as it is opened, and one step of it.
use Rattle.std.specs.Prelude.{ℕ, ◌≡◌, List}
use Rattle.std.specs.Borrow.{Bor}
use Rattle.rules.specs.Lent.{Arrays}
use Rattle.rules.specs.Walker.{opening}
use Rattle.lexer.specs.Stepping.{walker_at, Walks}
use Rattle.lexer.specs.declared.Stepped.{Stepped}
use Rattle.walker.specs.Meaning.{kept_meant}
use Rattle.walker.specs.declared.Walker.{Walker}
use Rattle.walker.specs.declared.Walked.{Walked}

-- a walker of document n as it is opened: at the text's start, nothing open, with what the rule keeps
pub record Opens (t : Bor (List ℕ)) (n : ℕ) (r : Walker) : Type 0 where
  pub text : r.text ≡ t
  pub doc : r.doc ≡ n
  pub position : r.position ≡ 0
  pub depth : r.depth ≡ 0
  pub kept : kept_meant r.kept ≡ (opening n t.now).kept

-- the answer, with where the next walker stands
abbrev pub stepped_of : Walked → Stepped
stepped_of r = record { answer = r.answer; position = r.next.position; depth = r.next.depth }

-- one step of a walker: the rule's, and the next walker has the text, the document and what is kept of the one before
pub record Steps (w : Walker) (stack : Arrays) (r : Walked) (stack' : Arrays) : Type 0 where
  pub walks : Walks w.text.now (walker_at w.doc w.position w.depth (kept_meant w.kept)) stack (stepped_of r) stack'
  pub text : r.next.text ≡ w.text
  pub doc : r.next.doc ≡ w.doc
  pub kept : r.next.kept ≡ w.kept
