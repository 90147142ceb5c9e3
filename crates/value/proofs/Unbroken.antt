-- Laws of parts that are handed back as a part of the text, and of others.
use Rattle.std.proofs.Common.{◌≡◌, ℕ, ◌<◌, true, false, List, [], ◌∷◌, eqb, length, refl, arith}
use borrow.Author.Tests.{ne_eqb}
use Rattle.rules.specs.Spans.{bytes_at}
use Rattle.rules.specs.Answers.{given, refused, Refusal, Verdict}
use Rattle.rules.specs.Kinds.{StringInner}
use Rattle.rules.specs.Lent.{Lexeme}
use Rattle.rules.specs.Output.{end_of, written}
use Rattle.rules.specs.Value.{dedented, part_bytes, value_pieces, is_unbroken, in_text, in_output, output_part, value_written}
use Rattle.list.specs.Entries.{first_of}
use Rattle.list.proofs.Entries.{place_on}
use Rattle.string.proofs.Lines.{checked-inside}
use Rattle.value.proofs.Refusing.{first-each}
use Rattle.value.specs.Pieces.{reached_from, AllWritten, WrittenValue}

-- the one part of a list
pub one-part : (ls : List Lexeme) {l : Lexeme} → length ls ≡ 1 → l ≡ first_of ls → ls ≡ l ∷ []
one-part [] one e = absurd (omega arith)
one-part (p ∷ []) one e = rw e refl
one-part (p ∷ (q ∷ ls)) one e = absurd (omega arith)

module _ (text : List ℕ) (indent : ℕ) (p : Lexeme) where
  -- it is no String
  pub unbroken-other : (p.kind ≡ StringInner → ⊥) → is_unbroken text indent (p ∷ []) ≡ false
  unbroken-other e = rw (ne_eqb p.kind StringInner e) refl

  -- it is a String
  pub unbroken-string : p.kind ≡ StringInner → is_unbroken text indent (p ∷ []) ≡ eqb (length (dedented indent (bytes_at text p.at))) (length (bytes_at text p.at))
  unfolding part_bytes
  unbroken-string e = rw e refl

-- there is a part
pub unbroken-some : (text : List ℕ) (indent : ℕ) (ps : List Lexeme) → is_unbroken text indent ps ≡ true → 0 < length ps
unbroken-some text indent [] e = cc
unbroken-some text indent (p ∷ ps) e = omega arith

module _ {text : List ℕ} {indent : ℕ} {at : ℕ} {out : List ℕ} where
  -- the value that is handed back as that part of the text
  pub value-in-text : {p : Lexeme} {ps : List Lexeme} → is_unbroken text indent (p ∷ ps) ≡ true → WrittenValue text indent (p ∷ ps) at out (given (in_text p.at.start p.at.end)) out
  unfolding value_written
  value-in-text e = record { answered = rw e refl; output = rw e refl }

  module _ {ps : List Lexeme} {out' : List ℕ} (e : is_unbroken text indent ps ≡ false) where
    -- one that is written
    pub value-in-output : {end : ℕ} → AllWritten text indent ps at out (given end) out' → WrittenValue text indent ps at out (given (in_output at end)) out'
    unfolding value_written
    value-in-output {end} w =
        let all = written (end_of out) at (value_pieces text indent ps) in
        record { answered = rw e (reached (length all.bytes) all.verdict w.answered); output = rw e w.output }
      where
        reached : (n : ℕ) (v : Verdict) → given end ≡ reached_from at n v → given (in_output at end) ≡ output_part at n v
        reached n (given u) h = cc
        reached n (refused r) h = cc

    -- one that is not
    pub value-not-written : {r : Refusal} → AllWritten text indent ps at out (refused r) out' → WrittenValue text indent ps at out (refused r) out'
    unfolding value_written
    value-not-written {r} w =
        let all = written (end_of out) at (value_pieces text indent ps) in
        record { answered = rw e (reached (length all.bytes) all.verdict w.answered); output = rw e w.output }
      where
        reached : (n : ℕ) (v : Verdict) → refused r ≡ reached_from at n v → refused r ≡ output_part at n v
        reached n (given u) h = cc
        reached n (refused s) h = cc

-- for attributes: of the test whether parts are unbroken, and of the call that hands back what is
pub ruleset tests = (one-part, unbroken-other, unbroken-string, first-each, checked-inside)

pub ruleset handed_back = (place_on, unbroken-some, value-in-text)
