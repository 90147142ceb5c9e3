-- The class that the table has decides which rule is left.
use mathlib.Core.List.{◌∷◌}
use mathlib.Core.Path.{sym, ◌∙◌}
use Rattle.lexer.proofs.Steps.{here-whitespace, here-control, here-digit, here-letter, here-punctuation, here-over-127, last-class}
use native.Mathlib.Nat.{add-zero}
use native.Mathlib.Omega.{arith}
use Prim.Native.Nat.{◌+◌}
use lib.ListN.{drop, get_or}
use lib.Seq.{get_or-drop}
use Rattle.sublexers.specs.Outcome.{innermost_of}
use Rattle.sublexers.specs.ByClass.{punctuated}
use Rattle.sublexers.proofs.Outcomes.{before_last}
use Rattle.sublexers.proofs.Letters.{lettered-in}
use Rattle.lexer.proofs.next.next_normal.Goals as goal

pub returns-in-0 : goal.returns-in-0
returns-in-0 c = rw (here-whitespace c.args.text.now c.args.at (innermost_of c.args.top) c.requires.1.inside (sym (c.class-k.ensures ∙ c.requires.0.right (get_or c.args.text.now c.args.at 0) (c.type_inv.text c.args.at).fits) ∙ c.in-0.is)) c.lex_in_space.ensures

pub returns-in-1 : goal.returns-in-1
returns-in-1 c = rw (here-control c.args.text.now c.args.at (innermost_of c.args.top) c.requires.1.inside (sym (c.class-k.ensures ∙ c.requires.0.right (get_or c.args.text.now c.args.at 0) (c.type_inv.text c.args.at).fits) ∙ c.in-1.is)) (c.refused_at.ensures ∙ (rw c.run_end.ensures (simp add-zero)))

pub returns-in-2 : goal.returns-in-2
returns-in-2 c = rw (here-digit c.args.text.now c.args.at (innermost_of c.args.top) c.requires.1.inside (sym (c.class-k.ensures ∙ c.requires.0.right (get_or c.args.text.now c.args.at 0) (c.type_inv.text c.args.at).fits) ∙ c.in-2.is)) c.lex_in_number.ensures

pub returns-in-3 : goal.returns-in-3
returns-in-3 c = rw (here-letter c.args.text.now c.args.at (innermost_of c.args.top) c.requires.1.inside (sym (c.class-k.ensures ∙ c.requires.0.right (get_or c.args.text.now c.args.at 0) (c.type_inv.text c.args.at).fits) ∙ c.in-3.is), ← lettered-in c.args.table.now (get_or c.args.text.now c.args.at 0) (drop (c.args.at + 1) c.args.text.now) (drop c.args.at c.args.text.now) c.requires.0 (λ i. rw get_or-drop (c.type_inv.text (c.args.at + i)).fits)) c.lex_in_letter.ensures

pub returns-in-4 : goal.returns-in-4
returns-in-4 c = rw (here-punctuation c.args.text.now c.args.at (innermost_of c.args.top) c.requires.1.inside (sym (c.class-k.ensures ∙ c.requires.0.right (get_or c.args.text.now c.args.at 0) (c.type_inv.text c.args.at).fits) ∙ c.in-4.is)) (c.lex_in_punct.ensures ∙ before_last c.args.at (punctuated (innermost_of c.args.top) (get_or c.args.text.now c.args.at 0 ∷ drop (c.args.at + 1) c.args.text.now)) (omega arith))

pub returns-in_default : goal.returns-in_default
returns-in_default c = rw (here-over-127 c.args.text.now c.args.at (innermost_of c.args.top) c.requires.1.inside (last-class _ _ (c.class-k.ensures ∙ c.requires.0.right (get_or c.args.text.now c.args.at 0) (c.type_inv.text c.args.at).fits) c.in_default.in_default-own.rest.0.0.0.0.1 c.in_default.in_default-own.rest.0.0.0.1 c.in_default.in_default-own.rest.0.0.1 c.in_default.in_default-own.rest.0.1 c.in_default.in_default-own.rest.1)) (c.refused_at-in_default.ensures ∙ (rw c.run_end-in_default.ensures (simp add-zero)))
