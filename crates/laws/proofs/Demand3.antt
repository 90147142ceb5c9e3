-- Demand 3, and what the auditor asks beside it, from the laws before.
use Prim.Native.Nat.{ℕ, ◌≤◌}
use mathlib.Core.Path.{◌≡◌, refl, sym, ap, ◌∙◌}
use mathlib.Core.Bool.{Bool, true, false, false≢true}
use mathlib.Core.Option.{Option, none, some}
use mathlib.Core.List.{List, []}
use lib.ListN.{length}
use Rattle.rules.specs.Text.{join}
use Rattle.rules.specs.Utf8.{first_bad}
use Rattle.rules.specs.Spans.{limit}
use Rattle.rules.specs.Answers.{given, refused, Verdict, accepted}
use Rattle.rules.specs.Kinds.{Blank}
use Rattle.rules.specs.Lexing.{Taken, Trace, End, ended, stopped, trace_from, trace, accepts, meets_no_refusal, trace_in, lexemes_of, joined, placed, open_of, verdict_of, lexed_of, lexing}
use Rattle.rules.specs.Tidy.{spaced, respaced}
use Rattle.rules.proofs.Trace.{trace-bad, trace-good}
use Rattle.rules.proofs.Text.{decide}
use Rattle.laws.specs.Demand3.{is_memory_refusal, is_short, Demand3}
use Rattle.laws.proofs.Lent.{in-ample, in-short, verdict-short}
use Rattle.laws.proofs.Accounting.{memory, account}
use Rattle.laws.proofs.Accepted.{accepted-sound}
use Rattle.laws.proofs.Respaced.{respaced_after, respaced-lexemes, respaced-joined, respaced-trace, respaced-again}
use Rattle.laws.proofs.Validity.{respaced-utf8}
use Rattle.rules.proofs.Listing.{accepted-ended, accepted-short}
use Rattle.laws.proofs.SameAnswers.{SameLexemes, same-answers}

-- an accepted text is UTF-8
pub accepted-utf8 : (text : List ℕ) → accepts text ≡ true → first_bad text ≡ none
accepted-utf8 text a = by-case (first_bad text) refl
  where
    by-case : (o : Option ℕ) → first_bad text ≡ o → o ≡ none
    by-case none e = refl
    by-case (some i) e = absurd (false≢true (rw (trace-bad text i (accepted-short text a) e) at a))

module _ (text : List ℕ) (a : accepts text ≡ true) where
  abbrev traced : trace text ≡ trace_from [] 0 text
  traced = trace-good text (accepted-short text a) (accepted-utf8 text a)

  reaches_end : (trace_from [] 0 text).end ≡ ended
  reaches_end = rw traced at (accepted-ended text a)

  -- the steps, joined, are the text
  pub accepted-whole : joined (trace text).taken ≡ text
  accepted-whole = ap (λ (t : Trace). joined t.taken) traced ∙ (accepted-sound [] text reaches_end).0

  respaced-is : respaced text ≡ join (spaced (lexemes_of (trace_from [] 0 text).taken))
  unfolding respaced
  respaced-is = ap (λ (t : Trace). join (spaced (lexemes_of t.taken))) traced

  module _ (fits : length (respaced text) ≤ limit) where
    -- the steps of the re-spaced text
    respaced-traced : trace (respaced text) ≡ record { taken = respaced_after Blank (trace_from [] 0 text).taken; end = ended }
    respaced-traced =
        let valid : first_bad (respaced text) ≡ none = rw respaced-is (respaced-utf8 text (accepted-utf8 text a) reaches_end) in
        trace-good (respaced text) fits valid ∙ (ap (λ (s : List ℕ). trace_from [] 0 s) respaced-is ∙ respaced-trace text reaches_end)

    again-accepted : accepts (respaced text) ≡ true
    again-accepted = ap (λ (t : Trace). meets_no_refusal t.end) respaced-traced

    again-same : respaced (respaced text) ≡ respaced text
    again-same = again (respaced text) respaced-traced ∙ (respaced-again (trace_from [] 0 text).taken ∙ sym respaced-is)
      where
        again : (s : List ℕ) → trace s ≡ record { taken = respaced_after Blank (trace_from [] 0 text).taken; end = ended } →
            respaced s ≡ join (spaced (lexemes_of (respaced_after Blank (trace_from [] 0 text).taken)))
        again s e = unfold respaced in ap (λ (t : Trace). join (spaced (lexemes_of t.taken))) e

    same-lexemes : SameLexemes text (respaced text)
    same-lexemes = record {
      first = a;
      second = again-accepted;
      whole = accepted-whole;
      whole' = ap (λ (t : Trace). joined t.taken) respaced-traced ∙ (respaced-joined (trace_from [] 0 text).taken ∙ sym respaced-is);
      lexemes = ap (λ (t : Trace). lexemes_of t.taken) respaced-traced ∙ (respaced-lexemes Blank (trace_from [] 0 text).taken ∙ sym (ap (λ (t : Trace). lexemes_of t.taken) traced));
    }

-- demand 3 holds of every text that the rules accept
pub demand-3 : (text : List ℕ) → accepts text ≡ true → Demand3 text
demand-3 text a = record {
  memory = memory text a;
  account = account text a;
  respaces = λ fits. record { accepted = again-accepted text a fits; unchanged = again-same text a fits };
  same_answers = λ fits. same-answers text (respaced text) (same-lexemes text a fits);
}

-- a call that accepts met no refusal
no-refusal : (doc places stack : ℕ) (text : List ℕ) → (lexing doc places stack text).verdict ≡ accepted → meets_no_refusal (trace_in places stack text).end ≡ true
unfolding lexing lexed_of verdict_of
no-refusal doc places stack text = cases (trace_in places stack text).end
  where
    ps : List Taken
    ps = (trace_in places stack text).taken

    is_given : Verdict → Bool
    is_given (given u) = true
    is_given (refused r) = false

    cases : (e : End) → verdict_of doc (length (joined ps)) (open_of [] (placed doc 0 ps)) e ≡ accepted → meets_no_refusal e ≡ true
    cases ended v = refl
    cases (stopped number from n) v = ap is_given v

-- a lexing call that accepts a text has read the whole of it, whatever was lent; and the rules accept it
pub accepted-all : (text : List ℕ) (doc places stack : ℕ) → (lexing doc places stack text).verdict ≡ accepted → (accepts text ≡ true) × (joined (trace_in places stack text).taken ≡ text)
accepted-all text doc places stack v = decide (is_short text places stack)
    (λ short. absurd (false≢true (ap is_memory_refusal (sym v) ∙ verdict-short doc places stack text (in-short places stack text short))))
    (λ ample.
    let same : trace_in places stack text ≡ trace text = in-ample places stack text ample in
    let a : accepts text ≡ true = ap (λ (t : Trace). meets_no_refusal t.end) (sym same) ∙ no-refusal doc places stack text v in
    (a, ap (λ (t : Trace). joined t.taken) same ∙ accepted-whole text a))
