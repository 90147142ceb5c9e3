-- The lines that are printed from the arrays are those of the lexemes that the rule lists.
use Rattle.std.specs.Prelude.{ℕ, zero, suc, ◌≡◌, ◌≤◌, ◌<◌, List, [], ◌∷◌, take, drop, length, IfSome, None, Some, Option, ltb, false, ◌+◌}
use Rattle.std.proofs.Common.{arith, refl, sym}
use Rattle.std.proofs.KnownBytes.{Appends-trans}
use borrow.Author.Tests.{le-ltb}
use Rattle.std.specs.Io.KnownBytes.{Appends}
use Rattle.rules.specs.Answers.{accepted}
use Rattle.rules.specs.Lent.{Lexeme, Lent, places_in, contents}
use Rattle.rules.specs.Lexing.{Lexed, Lexes, listing}
use Rattle.list.specs.Entries.{first_of}
use Rattle.tidy.proofs.Whole.{listing-back}
use Rattle.report.specs.Printed.{separator, kind_said, span_said, entry_at, entries_of, listed_lines, listed_in, text_listed, listing_of}

-- an entry before the end of the first so many
first-front : (ls : List Lexeme) (m n : ℕ) → n < m → first_of (drop n (take m ls)) ≡ first_of (drop n ls)
first-front ls zero n h = absurd (omega arith)
first-front [] (suc m) zero h = refl
first-front [] (suc m) (suc n) h = refl
first-front (l ∷ ls) (suc m) zero h = refl
first-front (l ∷ ls) (suc m) (suc n) h = first-front ls m n (omega (arith, h))

entries-front : (said : Lexeme → List ℕ) (ls : List Lexeme) (m n : ℕ) → n ≤ m → entries_of said (take m ls) n ≡ entries_of said ls n
entries-front said ls m zero h = refl
entries-front said ls m (suc n) h = rw (entries-front said ls m n (omega (arith, h)), first-front ls m n (omega (arith, h))) refl

-- one entry more
pub entries_more : (a b c d : Option (List ℕ)) (said : Lexeme → List ℕ) (ls : List Lexeme) (n : ℕ) (e : Lexeme) → e ≡ first_of (drop n ls) →
    Appends a b (entries_of said ls n) → Appends b c (separator n) → Appends c d (said e) → Appends a d (entries_of said ls (n + 1))
entries_more a b c d said ls n e same p q r =
    let one : n + 1 ≡ suc n = omega arith in
    let entry : Appends b d (entry_at said ls n) = rw (sym same) (Appends-trans b c d (separator n) (said e) q r) in
    rw one (Appends-trans a b d (entries_of said ls n) (entry_at said ls n) p entry)

-- what is printed of an accepted call is its listing
pub lines_listed : {text : List ℕ} {list stack list' stack' : Lent} {r : Lexed} → Lexes 0 text list stack r list' stack' → r.verdict ≡ accepted →
    listed_lines (length text) r (contents list'.arrays) ≡ listed_in (places_in list) (places_in stack) text
lines_listed {text} {list} {stack} {list'} {stack'} {r} h ok =
    let ls : List Lexeme = listing 0 (places_in list) (places_in stack) text in
    let read : List Lexeme = contents list'.arrays in
    let back : take r.lexemes (contents list'.arrays) ≡ ls = rw (h.listed, h.result) (listing-back text 0 (places_in stack) list) in
    let same : (said : Lexeme → List ℕ) → entries_of said (contents list'.arrays) r.lexemes ≡ entries_of said ls r.lexemes = λ said. rw (sym back) (sym (entries-front said read r.lexemes r.lexemes (omega arith))) in
    rw (sym h.result, ok, same kind_said, same span_said) refl

-- a text that left room is listed
pub ended_listed : (known : Option (List ℕ)) (text : List ℕ) (a b : Option (List ℕ)) → IfSome known (λ bytes. (length bytes < 4097) × (text ≡ bytes)) → Appends a b (text_listed text) →
    IfSome known (λ text. Appends a b (listing_of text))
ended_listed None text a b h p = tt
ended_listed (Some bytes) text a b h p =
    let few : length bytes ≤ 4096 = omega (arith, h.0) in
    let short : ltb 4096 (length bytes) ≡ false = le-ltb 4096 (length bytes) few in
    rw (short, sym h.1) p
