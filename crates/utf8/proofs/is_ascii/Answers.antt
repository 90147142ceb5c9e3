-- `is_ascii` tells that the bytes of a block are ASCII: the fold of its tests is true only if each is.
use Rattle.std.proofs.Common.{◌≡◌, ℕ, ◌<◌, Bool, true, ◌&&◌, ltb, fold, List, [], ◌∷◌, sym, ◌∙◌, arith, rules, All}
use mathlib.Core.Bool.{and-eq-true_iff}
use Rattle.std.proofs.lemmas.Iterator.{YieldsList-from_slice}
use Rattle.std.proofs.lemmas.Iterator.Consumers.{fold_from_yields_List}
use Rattle.std.proofs.lemmas.List.Elements.{All-cons}
use borrow.Author.Tests.{ltb-true}
use Rattle.utf8.proofs.is_ascii.Goals as goal

abbrev tested : Bool → ℕ → Bool
tested all b = all && ltb b 0x80

each : (bs : List ℕ) (all : Bool) → fold tested all bs ≡ true → (all ≡ true) × All (λ b. b < 0x80) bs
each [] all e = (e, λ k d l. absurd (omega arith))
each (b ∷ bs) all e =
    let rest = each bs (all && ltb b 0x80) e in
    let both = (and-eq-true_iff all (ltb b 0x80)).0 rest.0 in
    (both.0, All-cons (λ b. b < 0x80) b bs (ltb-true b 0x80 both.1) rest.1)

pub returns : goal.returns
returns c = λ e. (each _ true (sym (fold_from_yields_List _ tested true _ c.fold.ensures.ran (YieldsList-from_slice c.args.block.now cc) (λ a x b q. search rules)) ∙ e)).1
