-- What the innermost opener of a stack is and has opened, and what a refusal says of it.
use Rattle.std.specs.Prelude.{ℕ, ◌-◌, ◌≡◌, cond, List, [], ◌∷◌, eqb, get_or, drop, Option, Some, None}
use Rattle.std.proofs.Math.Option.{none, some}
use Rattle.rules.specs.Reasons.{number_of}
use Rattle.rules.specs.Spans.{Span, span}
use Rattle.rules.specs.Answers.{Refusal, Verdict, accepted, refused}
use Rattle.rules.specs.Lent.{Lexeme, Arrays, contents}
use Rattle.rules.specs.Lexing.{innermost, unclosed, note_of}
use Rattle.rules.specs.Walker.{codes_of}
use Rattle.token.specs.Codes.{state_meant, if_opener}
use Rattle.token.specs.declared.State.{State}
use Rattle.sublexers.specs.declared.Fault.{Fault}
use Rattle.list.specs.declared.Entry.{Entry}
use Rattle.list.specs.Entries.{entry_meant, first_of}

abbrev pub TopState : (depth : ℕ) → List ℕ → Option State → Type 0
TopState depth ks r = state_meant r ≡ cond (eqb depth 0) none (if_opener (get_or ks (depth - 1) 0))

-- of so many openers on a stack the innermost, where there is one
abbrev pub opener_in : (depth : ℕ) → Arrays → List Lexeme
opener_in depth stack = cond (eqb depth 0) [] (first_of (drop (depth - 1) (contents stack)) ∷ [])

abbrev pub opener_meant : Option Entry → List Lexeme
opener_meant (Some e) = entry_meant e ∷ []
opener_meant None = []

-- its code, nothing's where there is none
abbrev pub code_in : List Lexeme → ℕ
code_in openers = innermost (codes_of openers)

-- a step that was refused, with the rules' note
abbrev pub refusal_by : (doc : ℕ) → Fault → List Lexeme → Refusal
refusal_by doc f openers = record { number = number_of f.reason; at = span doc f.start f.end; note = note_of (number_of f.reason) openers }

-- the verdict at the text's end
abbrev pub end_by : Span → List Lexeme → Verdict
end_by at [] = accepted
end_by at (l ∷ openers) = refused (record { number = unclosed l.kind; at = at; note = some l.at })
