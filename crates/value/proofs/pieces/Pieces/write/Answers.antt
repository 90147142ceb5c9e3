-- Each entry is a part that nothing is said against; it is written, or it ends the writing.
use Rattle.std.proofs.Common.{◌≡◌, ◌∙◌, refl, rules, arith}
use Rattle.rules.specs.Answers.{refused}
use Rattle.source.specs.Meaning.{refusal_meant}
use Rattle.list.specs.Entries.{entry_meant}
use Rattle.cst.proofs.Told.{part_same}
use Rattle.value.specs.Meaning.{reached}
use Rattle.value.proofs.OnePart.{first-good, rest-good, good-some, good-known}
use Rattle.value.proofs.Chunks.{all-end, all-past, all-on, all-stop}
use Rattle.value.proofs.pieces.Pieces.write.Goals as goal

pub loop-entry-init : goal.loop-entry-init
loop-entry-init c =
    let all = c.into_iter-entry-iterator.ensures.into_iter_gives in
    record { accepted = rw all c.args.self.accepted; written = λ r out' w. rw all at w; same = refl }

pub returns-in_default : goal.returns-in_default
returns-in_default c =
    let here = first-good (rw c.in-Some.ensures.steps at c.loop-entry.invariant.accepted) in
    good-some c.args.self.text.now (entry_meant c.in-Some.entry) here c.in_default.ensures

pub write_part-requires : goal.write_part-requires
write_part-requires c =
    let here = first-good (rw c.in-Some.ensures.steps at c.loop-entry.invariant.accepted) in
    good-known c.args.self.text.now (entry_meant c.in-Some.entry) _ here c.in-Ok.ensures

pub returns-in_err-write_part-clause-written : goal.returns-in_err-write_part-clause-written
returns-in_err-write_part-clause-written c =
    let part = part_same (entry_meant c.in-Some.entry) _ c.in-Ok.ensures in
    let stops : reached c.from_residual.result c.write_part.new.output ≡ refused (refusal_meant c.in_err-write_part.field-0.0) = search rules in
    rw stops (c.loop-entry.invariant.written _ _ (rw c.in-Some.ensures.steps (all-stop (rw part at c.in_err-write_part.ensures.written))))

pub loop-entry-preserved : goal.loop-entry-preserved
loop-entry-preserved c =
    let part = part_same (entry_meant c.in-Some.entry) _ c.in-Ok.ensures in
    record {
      accepted = rest-good (rw c.in-Some.ensures.steps at c.loop-entry.invariant.accepted);
      written = λ r out' w. c.loop-entry.invariant.written r out' (rw c.in-Some.ensures.steps (all-on (rw part at c.in_ok-write_part.ensures.written) w));
      same = c.write_part.ensures.same ∙ c.loop-entry.invariant.same;
    }

pub returns-then-end-output-clause-written : goal.returns-then-end-output-clause-written
returns-then-end-output-clause-written c =
    let past = all-past (omega (arith, c.if-end-output.true, c.end.ensures)) in
    rw (c.refuse.ensures, c.nowhere.ensures) (c.loop-entry.invariant.written _ _ (rw c.in-None.ensures.steps.0 past))

pub returns-clause-written : goal.returns-clause-written
returns-clause-written c = c.loop-entry.invariant.written _ _ (rw c.in-None.ensures.steps.0 (all-end (omega (arith, c.if-end-output.false, c.end.ensures))))
