-- A step in the text is one turn of the loop (`single_of`); `Walking` says what that is to the walker.
use mathlib.Core.Path.{refl, ap, ◌∙◌}
use native.Mathlib.Omega.{arith}
use Rattle.token.specs.Codes.{code_of}
use Rattle.rules.specs.Kinds.{is_opener}
use Rattle.rules.specs.Spans.{span}
use Rattle.rules.specs.Answers.{Answer, refused}
use mathlib.Core.Option.{Option}
use Rattle.rules.specs.Lent.{Lexeme, lexeme, Lent}
use Rattle.list.specs.Entries.{lent_in, lent_meant}
use Rattle.lexer.proofs.Openers.{state-here}
use Rattle.lexer.proofs.Single.{single_of}
use Rattle.lexer.proofs.Walking.{found-small, found-on, refused-small, refused-on, put-arrays}
use Rattle.lexer.proofs.stepping.step_on.Goals as goal

pub run-ran-requires : goal.run-ran-requires
run-ran-requires c = record { small = omega (arith, c.requires.small); before = omega (arith, c.requires.inside); inside = omega (arith, c.requires.inside); stack = c.requires.shallow; deepest = omega arith; steps = omega arith; dropped = omega arith; going = refl; innermost = state-here c.args.depth (lent_meant c.args.stack.now) _ _ c.requires.shallow c.requires.innermost c.opened-opened.ensures }

pub pack-requires : goal.pack-requires
pack-requires c =
    let once = rw c.in-Ok.is at (single_of _ _ _ _ _ c.requires.inside (omega arith) c.run-ran.ensures.runs) in
    (omega (arith, c.requires.inside, c.requires.small), found-small c.args.doc c.requires _ _ once.is)

pub refusal-refusal-requires : goal.refusal-refusal-requires
refusal-refusal-requires c =
    let once = rw c.in-Err.is at (single_of _ _ _ _ _ c.requires.inside (omega arith) c.run-ran.ensures.runs) in
    refused-small c.args.doc c.requires c.in-Err.fault refl refl once.refuses

pub returns-in-Ok-clause-steps : goal.returns-in-Ok-clause-steps
returns-in-Ok-clause-steps c =
    let a = c.args in
    let once = rw c.in-Ok.is at (single_of _ _ _ _ _ c.requires.inside (omega arith) c.run-ran.ensures.runs) in
    let k = code_of c.in-Ok.token in
    let e = c.run-ran.result.cursor.at in
    record {
      moves = rw (c.pack.ensures, once.depth) (found-on a.doc c.requires k e once.is once.room);
      stacked = rw c.pack.ensures (ap (λ (m : Lent). m.arrays) once.stacked ∙ put-arrays (is_opener k) a.depth (lexeme k (span a.doc a.position e)) (lent_in a.stack.now));
    }

pub returns-in-Err-clause-steps : goal.returns-in-Err-clause-steps
returns-in-Err-clause-steps c =
    let once = rw c.in-Err.is at (single_of _ _ _ _ _ c.requires.inside (omega arith) c.run-ran.ensures.runs) in
    let answer = ap {B = Answer (Option Lexeme)} refused c.refusal-refusal.ensures in
    record {
      moves = rw (c.stays.ensures, answer) (refused-on c.args.doc c.requires c.in-Err.fault refl refl once.refuses);
      stacked = rw c.stays.ensures (ap (λ (m : Lent). m.arrays) once.stacked);
    }
