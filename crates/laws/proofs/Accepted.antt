-- The steps of an accepted text: each is what the step finds there, and nothing is left open. By induction on the text, and on the steps.
use Prim.Native.Nat.{ℕ, zero, suc, pred, ◌≤◌, ◌<◌, zero-le}
use mathlib.Core.Path.{◌≡◌, refl, ap, ◌∙◌}
use mathlib.Core.List.{List, [], ◌∷◌, ◌++◌}
use native.Mathlib.Omega.{arith}
use lib.ListN.{take, drop, length, length-append, take-append-drop}
use lib.Seq.{length-take-le, take-append_seam, drop-append_seam}
use Rattle.rules.specs.Step.{found, step}
use Rattle.rules.specs.Lexing.{Taken, taken, ended, stopped, Trace, after, innermost, codes_after, trace_from, joined}
use Rattle.rules.proofs.Bounds.{found_inside}
use Rattle.rules.proofs.Trace.{trace-found, trace-ended}
use Rattle.rules.proofs.Steps.{step-cases}

-- steps of a text, where these codes are open before them and nothing is open after them
abbrev pub Accepted : (openers : List ℕ) → List Taken → Type 0
Accepted openers [] = openers ≡ []
Accepted openers (p ∷ ps) =
    (step (innermost openers) (p.bytes ++ joined ps) ≡ found p.kind (length p.bytes))
    × (0 < length p.bytes)
    × Accepted (codes_after openers p.kind) ps

-- a refusal is no end of the text
stopped-ended : {A : Type 0} {number from n : ℕ} → stopped number from n ≡ ended → A
stopped-ended e = let z : ◌≡◌ {A = ℕ} 0 1 = cc in absurd (omega arith)

-- one step more in front of such steps
accepted-more : (openers : List ℕ) (b : ℕ) (s : List ℕ) (k n : ℕ) (ps : List Taken) →
    step (innermost openers) (b ∷ s) ≡ found k n → joined ps ≡ drop (pred n) s → Accepted (codes_after openers k) ps →
    (joined (taken k (take n (b ∷ s)) ∷ ps) ≡ b ∷ s) × Accepted openers (taken k (take n (b ∷ s)) ∷ ps)
accepted-more openers b s k zero ps e j a = absurd (omega (arith, (found_inside (innermost openers) (b ∷ s) k 0 (omega arith) e).0))
accepted-more openers b s k (suc n) ps e j a =
    let inside : suc n ≤ suc (length s) = (found_inside (innermost openers) (b ∷ s) k (suc n) (omega arith) e).1 in
    let whole : take n s ++ joined ps ≡ s = rw j (take-append-drop n s) in
    let size : length (take n s) ≡ n = length-take-le n s (omega arith) in
    (ap (λ (r : List ℕ). b ∷ r) whole, (rw (whole, size) e, omega arith, a))

-- lexing gives such steps, where some bytes at the front belong to the step before
sound-from : (openers : List ℕ) (skip : ℕ) (s : List ℕ) → skip ≤ length s → (trace_from openers skip s).end ≡ ended →
    (joined (trace_from openers skip s).taken ≡ drop skip s) × Accepted openers (trace_from openers skip s).taken
unfolding trace_from
sound-from [] zero [] le e = (refl, refl)
sound-from (k ∷ openers) zero [] le e = stopped-ended e
sound-from openers (suc skip) [] le e = absurd (omega arith)
sound-from openers (suc skip) (b ∷ s) le e = sound-from openers skip s (omega arith) e
sound-from openers zero (b ∷ s) le e = step-cases (step (innermost openers) (b ∷ s))
    (λ k n f.
    let inside = found_inside (innermost openers) (b ∷ s) k n (omega arith) f in
    let more = sound-from (codes_after openers k) (pred n) s (omega arith) (rw f at e) in
    rw f (accepted-more openers b s k n (trace_from (codes_after openers k) (pred n) s).taken f more.0 more.1))
    (λ number from n f. stopped-ended (rw f at e))

-- lexing gives such steps, and their bytes are the text's
pub accepted-sound : (openers s : List ℕ) → (trace_from openers 0 s).end ≡ ended → (joined (trace_from openers 0 s).taken ≡ s) × Accepted openers (trace_from openers 0 s).taken
accepted-sound openers s e = sound-from openers 0 s zero-le e

-- such steps are what lexing their bytes gives
pub accepted-complete : (openers : List ℕ) (ps : List Taken) → Accepted openers ps → trace_from openers 0 (joined ps) ≡ record { taken = ps; end = ended }
accepted-complete openers [] a = rw a (trace-ended [] [] refl)
accepted-complete openers (p ∷ ps) a =
    let w : List ℕ = p.bytes in
    let r : List ℕ = joined ps in
    trace-found openers (w ++ r) p.kind (length w) (omega (arith, length-append w r, a.1)) a.1 a.0
    ∙ rw (take-append_seam w r, drop-append_seam w r)
    (ap (λ (t : Trace). after p t) (accepted-complete (codes_after openers p.kind) ps a.2))
