-- Demand 3 at the calls, from demand 3: a contract's relation is an equation with the definitions.
use Prim.Native.Nat.{ℕ}
use mathlib.Core.Path.{◌≡◌, refl, sym, ap, ◌∙◌}
use mathlib.Core.Bool.{true}
use mathlib.Core.List.{List, map}
use lib.ListN.{length, length-map}
use Rattle.rules.specs.Answers.{Answer, given, refused, Verdict, verdict_on}
use Rattle.rules.specs.Lent.{Lexeme, Arrays, kinds_with, Lent, places_in, filled}
use Rattle.rules.specs.Lexing.{accepts, trace_in, Lexed, lexed_of, listing, lexing}
use Rattle.rules.specs.Value.{Held, handed_part, or_empty, Values, ChecksPart, HandsBack}
use Rattle.rules.specs.Tidy.{respaced}
use Rattle.rules.proofs.Trace.{listed_kept}
use Rattle.rules.proofs.Listed.{contents-holding}
use Rattle.laws.specs.Demand3.{number_of, Memory, Account, SameLexing, SameTidying, handed_back, SameAnswers}
use Rattle.laws.specs.Calls.{LexingCall, listed_by, OneCall, ValueAfter, SameCalls, Demand3Calls}
use Rattle.rules.proofs.Listing.{listing-shows, listing-room, shown-words, accepted-short}
use Rattle.laws.proofs.Demand3.{accepted-whole, demand-3}

-- lexing counts what it lists
lexing-counts : (doc places stack : ℕ) (text : List ℕ) → (lexing doc places stack text).lexemes ≡ length (listing doc places stack text)
unfolding lexing lexed_of listing
lexing-counts doc places stack text = sym (listed_kept doc 0 (trace_in places stack text).taken)

-- so does a call
call-counts : {text : List ℕ} {list stack : Lent} (c : LexingCall text list stack) → c.result.lexemes ≡ length (listing c.doc (places_in list) (places_in stack) text)
call-counts {text} {list} {stack} c = ap (λ (x : Lexed). x.lexemes) c.meets.result ∙ lexing-counts c.doc (places_in list) (places_in stack) text

-- what a call lists is read back from its arrays
call-listed : {text : List ℕ} {list stack : Lent} → accepts text ≡ true → (c : LexingCall text list stack) → listed_by c ≡ listing c.doc (places_in list) (places_in stack) text
call-listed {text} {list} {stack} a c =
    let shows = listing-shows text c.doc (places_in list) (places_in stack) (accepted-short text a) (accepted-whole text a) in
    rw (call-counts c, c.meets.listed)
    (contents-holding (listing c.doc (places_in list) (places_in stack) text) list.arrays (listing-room text c.doc list (places_in stack)) (shown-words shows))

-- what one lexing call on an accepted text leaves and answers
pub one-call : (text : List ℕ) → accepts text ≡ true → {list stack : Lent} (c : LexingCall text list stack) → OneCall c
one-call text a {list} {stack} c =
    let memory : Memory text c.doc (places_in list) (places_in stack) = (demand-3 text a).memory c.doc (places_in list) (places_in stack) in
    let result = c.meets.result in
    record {
      exactly = rw result memory.exactly;
      ample = λ enough.
          let account : Account text c.doc (places_in list) (places_in stack) = (demand-3 text a).account c.doc (places_in list) (places_in stack) enough in
          record {
            accepts = rw result (memory.ample enough);
            whole = account.whole;
            bytes = rw result account.bytes;
            steps = rw result account.steps;
            steps_bytes = rw result account.steps_bytes;
            steps_lexemes = rw result account.steps_lexemes;
            deepest = rw result account.deepest;
          };
      listed = call-listed a c;
    }

-- lists with the same kinds are as long
kinds-count : (ls ls₂ : List Lexeme) → map (λ l. l.kind) ls₂ ≡ map (λ l. l.kind) ls → length ls₂ ≡ length ls
kinds-count ls ls₂ e = sym (length-map ls₂ (λ l. l.kind)) ∙ (ap length e ∙ length-map ls (λ l. l.kind))

-- and leave the same array of kinds
kinds-array : (ls ls₂ : List Lexeme) (ks : List ℕ) → map (λ l. l.kind) ls₂ ≡ map (λ l. l.kind) ls → kinds_with ls₂ ks ≡ kinds_with ls ks
kinds-array ls ls₂ ks e = rw (e, kinds-count ls ls₂ e)

-- the value call on the list that a lexing call left is the one of demand 3
value_on_lem : {text : List ℕ} {list stack : Lent} (c : LexingCall text list stack) {place : ℕ} {parts : Arrays} {out : List ℕ} {at : ℕ} (v : ValueAfter c place parts out at) →
    Values text (filled (listing c.doc (places_in list) (places_in stack) text) list).arrays (length (listing c.doc (places_in list) (places_in stack) text)) place parts out at v.answer v.listed v.parts' v.out'
value_on_lem c v = rw (call-counts c, c.meets.listed) at v.meets

-- a check's number is the answer's
checked-number : (a : Answer (List ℕ)) → number_of (verdict_on a) ≡ number_of a
checked-number (given w) = refl
checked-number (refused r) = refl

-- the number that the check of a call's answer gives
hands-number : (text out₁ : List ℕ) (p : Held) {v : Verdict} {out : List ℕ} {a : Answer Held} → ChecksPart text out₁ p v → given p ≡ a → out₁ ≡ out → number_of v ≡ number_of (handed_back text out a)
hands-number text out₁ p k e o = rw (k, ← e, ← o) (checked-number (handed_part text out₁ p))

-- and the bytes that are handed back
hands_bytes : (text out₁ : List ℕ) (p : Held) {w : List ℕ} {out : List ℕ} {a : Answer Held} → HandsBack text out₁ p w → given p ≡ a → out₁ ≡ out → w ≡ or_empty (handed_back text out a)
hands_bytes text out₁ p h e o = rw (h, ← e, ← o)

-- calls on two accepted texts that have the same answers give the same
pub same-calls : (text text₂ : List ℕ) → accepts text ≡ true → accepts text₂ ≡ true → SameAnswers text text₂ → SameCalls text text₂
same-calls text text₂ a a₂ e = record {
  lexing = λ {list} {stack} c c₂.
      let same : SameLexing c.doc c₂.doc (places_in list) (places_in stack) text text₂ = e.lexing c.doc c₂.doc (places_in list) (places_in stack) in
      let ls : List Lexeme = listing c.doc (places_in list) (places_in stack) text in
      let ls₂ : List Lexeme = listing c₂.doc (places_in list) (places_in stack) text₂ in
      record {
        number = rw (c.meets.result, c₂.meets.result) same.number;
        lexemes = call-counts c₂ ∙ (kinds-count ls ls₂ same.kinds ∙ sym (call-counts c));
        kinds = ap (λ (m : Lent). m.arrays.kinds) c₂.meets.listed ∙ (kinds-array ls ls₂ list.arrays.kinds same.kinds ∙ sym (ap (λ (m : Lent). m.arrays.kinds) c.meets.listed));
        bytes = rw (call-listed a c, call-listed a₂ c₂) same.bytes;
      };
  tidying = λ {list} {stack} {out} c c₂.
      let same : SameTidying c.doc c₂.doc (places_in list) (places_in stack) text text₂ out = e.tidying c.doc c₂.doc (places_in list) (places_in stack) out in
      record {
        number = rw (c.meets.result, c₂.meets.result) same.number;
        written = c₂.meets.written ∙ (same.written ∙ sym c.meets.written);
        output = c₂.meets.output ∙ (same.output ∙ sym c.meets.output);
      };
  values = λ {list} {stack} c c₂ {place} {parts} {out} {at} v v₂.
      let same = e.values c.doc c₂.doc (places_in stack) list place parts out at in
      let u = value_on_lem c v in
      let u₂ = value_on_lem c₂ v₂ in
      record {
        number = rw (u.answered, u₂.answered) same.number;
        held = rw (u.answered, u₂.answered) same.held;
        listed = u₂.counted ∙ (same.parts ∙ sym u.counted);
        kinds = ap (λ (p : Arrays). p.kinds) u₂.listed ∙ (same.kinds ∙ sym (ap (λ (p : Arrays). p.kinds) u.listed));
        output = u₂.output ∙ (same.output ∙ sym u.output);
      };
  handing = λ {list} {stack} c c₂ {place} {parts} {out} {at} v v₂ {part} {part₂} is is₂ h h₂.
      let same = e.values c.doc c₂.doc (places_in stack) list place parts out at in
      let u = value_on_lem c v in
      let u₂ = value_on_lem c₂ v₂ in
      record {
        number = hands-number text₂ v₂.out' part₂ h₂.checks (sym is₂ ∙ u₂.answered) u₂.output ∙ (same.handed_number ∙ sym (hands-number text v.out' part h.checks (sym is ∙ u.answered) u.output));
        bytes = hands_bytes text₂ v₂.out' part₂ h₂.hands (sym is₂ ∙ u₂.answered) u₂.output ∙ (same.handed_bytes ∙ sym (hands_bytes text v.out' part h.hands (sym is ∙ u.answered) u.output));
      };
}

-- demand 3 holds of the calls on every text that the rules accept
pub demand-3-calls : (text : List ℕ) → accepts text ≡ true → Demand3Calls text
demand-3-calls text a = record {
  one = one-call text a;
  both = λ fits. same-calls text (respaced text) a ((demand-3 text a).respaces fits).accepted ((demand-3 text a).same_answers fits);
}
