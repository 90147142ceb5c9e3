-- The value call, by its refusals: of the parts, of the indent, of the escapes; and where there is none.
use Rattle.std.proofs.Common.{◌≡◌, ℕ, ◌<◌, cond, List, [], ltb, length, take, take_all, drop, refl, arith, sym, ap, ◌∙◌, drop_of_length-le}
use borrow.Author.Tests.{ltb-true, ltb-false}
use Rattle.rules.specs.Refusals.{NoString}
use Rattle.rules.specs.Spans.{nowhere}
use Rattle.rules.specs.Answers.{Answer, given, refused, Refusal, refuse, Verdict, accepted, and_then, first_refusal}
use Rattle.rules.specs.Kinds.{is_triple}
use Rattle.rules.specs.Lent.{Lexeme, Arrays, array_places, contents, lexemes_from}
use Rattle.rules.specs.Parts.{Parts, parts_of, parts_in, parts_call, ListsParts}
use Rattle.rules.specs.Indent.{part_verdict, indent_of, indent_call}
use Rattle.rules.specs.Value.{Held, Valued, escape_verdict, kind_of_first, value_of, value_call, Values}
use Rattle.rules.proofs.Text.{decide}
use Rattle.list.specs.Entries.{first_of}
use Rattle.list.proofs.Entries.{from_place}
use Rattle.cst.proofs.Found.{found-read}
use Rattle.value.specs.Pieces.{PartsAccepted, WrittenValue, listed_value, ListedValue}

-- all entries of a list are as many as its places
pub all-taken : (list : Arrays) (count : ℕ) → count ≡ length (contents list) → take count (contents list) ≡ contents list
all-taken list count whole = take_all count (contents list) (omega (arith, whole))

-- an indent that is found: no part is refused, and it is theirs
indent-found : (text : List ℕ) (list : Arrays) (count n : ℕ) → count ≡ length (contents list) → given n ≡ indent_call text list count
    → (first_refusal (part_verdict text) (contents list) ≡ accepted) × (n ≡ indent_of text (contents list))
unfolding indent_call
indent-found text list count n whole e = from (first_refusal (part_verdict text) (contents list)) (indent_of text (contents list)) (rw (all-taken list count whole) at e)
  where
    from : (v : Verdict) (m : ℕ) → given n ≡ and_then v (given m) → (v ≡ accepted) × (n ≡ m)
    from (given u) m e = (refl, cc)
    from (refused r) m e = cc

-- one that is refused: a part is
indent-refused : (text : List ℕ) (list : Arrays) (count : ℕ) (r : Refusal) → count ≡ length (contents list) → refused r ≡ indent_call text list count → first_refusal (part_verdict text) (contents list) ≡ refused r
unfolding indent_call
indent-refused text list count r whole e = from (first_refusal (part_verdict text) (contents list)) (indent_of text (contents list)) (rw (all-taken list count whole) at e)
  where
    from : (v : Verdict) (m : ℕ) → refused r ≡ and_then v (given m) → v ≡ refused r
    from (given u) m e = cc
    from (refused q) m e = cc

-- Of listed parts
module _ (text : List ℕ) (quote : ℕ) (list : Arrays) (count at : ℕ) (out : List ℕ) (whole : count ≡ length (contents list)) where
  -- the indent is refused
  pub listed-no-indent : (r : Refusal) → refused r ≡ indent_call text list count → ListedValue text quote (contents list) at out (refused r) out
  listed-no-indent r e = let bad = indent-refused text list count r whole e in record { answered = rw bad refl; output = rw bad refl }

  module _ (n : ℕ) (e : given n ≡ indent_call text list count) where
    -- the indent is found, and an escape is refused
    pub listed-no-escapes : (r : Refusal) → refused r ≡ first_refusal (escape_verdict text) (contents list) → ListedValue text quote (contents list) at out (refused r) out
    listed-no-escapes r f = let good = (indent-found text list count n whole e).0 in record { answered = rw (good, ← f) refl; output = rw (good, ← f) refl }

    module _ (f : accepted ≡ first_refusal (escape_verdict text) (contents list)) where
      -- nothing is said against the parts
      pub parts-good : PartsAccepted text (contents list)
      parts-good = record { inside = (indent-found text list count n whole e).0; escapes = sym f }

      -- so their value is the call's
      pub listed-written : {answer : Answer Held} {out' : List ℕ} → WrittenValue text (cond (is_triple quote) n 0) (contents list) at out answer out' → ListedValue text quote (contents list) at out answer out'
      listed-written w =
          let found = indent-found text list count n whole e in
          let v = rw found.1 at w in
          record { answered = rw (found.0, ← f) v.answered; output = rw (found.0, ← f) v.output }

-- for attributes
pub ruleset listed = (parts-good)

module _ (text : List ℕ) (ls : List Lexeme) (p : Parts) (out : List ℕ) (at : ℕ) where
  -- the parts are refused
  value-no-parts : (r : Refusal) → p.answer ≡ refused r → value_of text ls p out at ≡ record { answer = refused r; output = out }
  unfolding value_of
  value-no-parts r e = rw e refl

  -- the parts are found
  value-listed : (place : ℕ) → p.answer ≡ given place → value_of text ls p out at ≡ listed_value text (kind_of_first ls) p.found out at
  unfolding value_of
  value-listed place e = rw e refl

-- where parts are found, the place is in the list
place-there : (room place : ℕ) (ls : List Lexeme) (closer : ℕ) → (parts_in room place (drop place ls)).answer ≡ given closer → place < length ls
unfolding parts_in parts_of
place-there room place ls closer e = decide (ltb place (length ls))
    (λ f. ltb-true place (length ls) f)
    (λ f.
    let past : drop place ls ≡ [] = drop_of_length-le ls {i = place} (ltb-false place (length ls) f) in
    let none-there : refuse NoString nowhere ≡ given closer = rw past at e in
    cc)

-- the parts of a call
abbrev found_by : (list : Arrays) (count place : ℕ) (parts : Arrays) → Parts
found_by list count place parts = parts_in (array_places parts) place (lexemes_from list count place)

module _ {list : Arrays} {count place : ℕ} {parts : Arrays} {closer : Answer ℕ} {n : ℕ} {parts' : Arrays} (p : ListsParts list count place parts closer n parts') where
  -- the answer of the parts
  parts-answer : closer ≡ (found_by list count place parts).answer
  unfolding parts_call
  parts-answer = p.answered

  -- what is read from the parts list are the parts
  parts-read : take n (contents parts') ≡ (found_by list count place parts).found
  unfolding parts_call
  parts-read = rw (p.counted, p.listed) (found-read place (lexemes_from list count place) parts)

  module _ {text out : List ℕ} {at : ℕ} where
    -- what the call leaves, by what its value is
    call-is : (v : Valued) → value_of text (lexemes_from list count place) (found_by list count place parts) out at ≡ v
        → {answer : Answer Held} {out' : List ℕ} → answer ≡ v.answer → out' ≡ v.output → Values text list count place parts out at answer n parts' out'
    unfolding value_call parts_call
    call-is v e a o = record {
      answered = a ∙ sym (ap (λ z. z.answer) e);
      counted = p.counted;
      listed = p.listed;
      output = o ∙ sym (ap (λ z. z.output) e);
    }

    -- the parts are refused
    pub call-no-parts : {r : Refusal} → closer ≡ refused r → Values text list count place parts out at (refused r) n parts' out
    call-no-parts {r} e = call-is _ (value-no-parts text (lexemes_from list count place) (found_by list count place parts) out at r (sym parts-answer ∙ e)) refl refl

    -- the parts are found, and this is the lexeme at the opener's place
    pub call-listed : {last : ℕ} {l : Lexeme} → closer ≡ given last → l ≡ first_of (drop place (contents list)) → {answer : Answer Held} {out' : List ℕ}
        → ListedValue text l.kind (take n (contents parts')) at out answer out' → Values text list count place parts out at answer n parts' out'
    call-listed {last} {l} e here {answer} {out'} w =
        let found = sym parts-answer ∙ e in
        let opener = from_place count (contents list) place l (place-there (array_places parts) place (take count (contents list)) last found) here in
        let quote : kind_of_first (lexemes_from list count place) ≡ l.kind = ap kind_of_first opener in
        let v : ListedValue text (kind_of_first (lexemes_from list count place)) (found_by list count place parts).found at out answer out' = rw (quote, ← parts-read) w in
        call-is _ (value-listed text (lexemes_from list count place) (found_by list count place parts) out at last found) v.answered v.output
