-- "The walker": walking a text from its opening gives the steps of lexing it, one by one, and ends as lexing ends.
use Rattle.std.specs.Prelude.{ℕ, zero, suc, ◌≤◌, ◌≡◌, List, length}
use Rattle.std.proofs.Math.Option.{Option, none, some}
use Rattle.std.proofs.Math.ListN.{get_elem?}
use Rattle.rules.specs.Answers.{Answer, given, refused, Verdict}
use Rattle.rules.specs.Lent.{Lexeme, Arrays, array_places}
use Rattle.rules.specs.Lexing.{Trace, trace, trace_in, placed, lexed_of}
use Rattle.rules.specs.Walker.{Walker, opening, Walked, walking}
use Rattle.laws.specs.Demand3.{lexeme_count, deepest_in}

-- step i of a walk, the first being 0
abbrev pub step_from : (text : List ℕ) → Walker → (stack : Arrays) → ℕ → Walked
step_from text w stack zero = walking text w stack
step_from text w stack (suc i) =
    let r = walking text w stack in
    step_from text r.walker r.stack i

-- step i of the walk of a text from its opening, with a stack in two arrays
abbrev pub step_of : (doc : ℕ) (text : List ℕ) (stack : Arrays) → ℕ → Walked
step_of doc text stack i = step_from text (opening doc text) stack i

-- what a step answers where lexing has ended: "ended", or its refusal
abbrev pub ending : Verdict → Answer (Option Lexeme)
ending (given u) = given none
ending (refused r) = refused r

-- a walk from the opening goes as this trace does: each step gives the lexeme of the trace's step, a Space too, and stands at its end; every later step gives the verdict of lexing
pub record WalksAs (doc : ℕ) (text : List ℕ) (stack : Arrays) (t : Trace) : Type 0 where
  pub steps : (i : ℕ) (l : Lexeme) → get_elem? (placed doc 0 t.taken) i ≡ some l → (step_of doc text stack i).answer ≡ given (some l)
  pub positions : (i : ℕ) (l : Lexeme) → get_elem? (placed doc 0 t.taken) i ≡ some l → (step_of doc text stack i).walker.at ≡ l.at.end
  pub ends : (i : ℕ) → length t.taken ≤ i → (step_of doc text stack i).answer ≡ ending (lexed_of doc t).verdict

-- the walk of any text, accepted or refused, with a stack in two arrays
pub record WalksText (doc : ℕ) (text : List ℕ) (stack : Arrays) : Type 0 where
  -- with places enough it goes as lexing the text, memory aside
  pub ample : deepest_in text ≤ array_places stack → WalksAs doc text stack (trace text)
  -- with any it goes as lexing (`lexing` is `lexed_of` of `trace_in`) in a stack of as many places, so that 30 comes at the same step, and a list that is never full
  pub any : (places : ℕ) → lexeme_count text ≤ places → WalksAs doc text stack (trace_in places (array_places stack) text)
