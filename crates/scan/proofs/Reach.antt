-- Laws of a scan that has come to a place: how it starts, goes on by a byte or a block, and ends.
use Prim.Native.Nat.{ℕ, ◌+◌, ◌-◌, ◌≤◌, ◌<◌, min}
use mathlib.Core.Bool.{Bool, true, false, cond}
use mathlib.Core.List.{List}
use mathlib.Core.Path.{◌≡◌, refl, sym, ◌∙◌}
use native.Mathlib.Decide.{dec_lt}
use native.Mathlib.Omega.{arith}
use lib.Dec.{ltb}
use lib.ListN.{length, drop, get_or, length-drop}
use lib.Seq.{drop-drop}
use borrow.Author.Tests.{lt-ltb, le-ltb}
use Rattle.rules.specs.Text.{run}
use Rattle.rules.proofs.Runs.{run_more, run-stop, run-done, run-le, run_wider, run_drop}
use Rattle.scan.specs.Reach.{Reach}

-- of a block of `n` bytes the first `j` are read, and `r` pass in a row: their number once the byte that ends them is read, `n` till then
abbrev pub read : (n r j : ℕ) → ℕ
read n r j = cond (ltb r j) r n

module _ {p : ℕ → Bool} {t : List ℕ} where
  -- a scan starts where it is
  pub stay : {i : ℕ} → Reach p t i i
  stay {i} = record { up = omega arith; inside = omega arith; same = refl }

  -- one more byte
  pub more : {at i : ℕ} → i < length t → p (get_or t i 0) ≡ true → Reach p t at i → Reach p t at (i + 1)
  more {at} {i} h e x = record { up = omega arith; inside = omega arith; same = x.same ∙ run_more p t i h e }

  -- two parts of a scan
  pub join : {a b c : ℕ} → Reach p t a b → Reach p t b c → Reach p t a c
  join {a} {b} {c} x y = record { up = omega arith; inside = omega arith; same = x.same ∙ y.same }

  -- the run ends here where no more of it follows
  pub over : {at i : ℕ} → run p (drop i t) ≡ 0 → Reach p t at i → i ≡ at + run p (drop at t)
  over z x = omega arith

  -- the run ends here where the byte here fails
  pub stop : {at i : ℕ} → p (get_or t i 0) ≡ false → Reach p t at i → i ≡ at + run p (drop at t)
  stop {i = i} e x = over (run-stop p t i e) x

  -- the run ends here at the text's end
  pub done : {at i : ℕ} → length t ≤ i → Reach p t at i → i ≡ at + run p (drop at t)
  done {i = i} h x = over (run-done p t i h) x

  -- a scan comes to each place of a run
  pub along : {at : ℕ} (n : ℕ) → n ≤ run p (drop at t) → Reach p t at (at + n)
  along {at} n h =
      let rest : run p (drop at t) ≡ n + run p (drop (at + n) t) = rw (run_drop p n (drop at t) h, drop-drop) in
      record { up = omega arith; inside = omega (arith, run-le p (drop at t), length-drop at t); same = omega arith }

  -- a scan of a class is a scan of a wider one
  pub wider : {q : ℕ → Bool} {at i : ℕ} → ((b : ℕ) → p b ≡ true → q b ≡ true) → Reach p t at i → Reach q t at i
  wider {q} {at} {i} w x =
      let n : ℕ = i - at in
      let there : at + n ≡ i = omega arith in
      let passed : n ≤ run p (drop at t) = omega arith in
      let longer : run p (drop at t) ≤ run q (drop at t) = run_wider (drop at t) w in
      let rest : run q (drop at t) ≡ n + run q (drop i t) = rw (run_drop q n (drop at t) (omega arith), drop-drop, there) in
      record { up = x.up; inside = x.inside; same = omega arith }

-- one more byte of a block: it ends the bytes that pass in a row, if it fails and none before did
pub read-more : (p : ℕ → Bool) (t : List ℕ) (at n j : ℕ) {first here : ℕ} {r : Bool} (b : Bool) → at + j < length t → j < n → r ≡ p (get_or t (at + j) 0) → r ≡ b → first ≡ read n (run p (drop at t)) j → here ≡ cond b n j → min first here ≡ read n (run p (drop at t)) (j + 1)
read-more p t at n j b h k f e x y = rw (x, y) (elim (dec_lt (run p (drop at t)) j) [
  | yes l ↦ rw (lt-ltb (run p (drop at t)) j l, lt-ltb (run p (drop at t)) (j + 1) (omega arith)) (before b l)
  | no l ↦ now b (sym f ∙ e) l
])
  where
    before : (b : Bool) → run p (drop at t) < j → min (run p (drop at t)) (cond b n j) ≡ run p (drop at t)
    before true l = omega arith
    before false l = omega arith

    now : (b : Bool) → p (get_or t (at + j) 0) ≡ b → (run p (drop at t) < j → ⊥) → min (read n (run p (drop at t)) j) (cond b n j) ≡ read n (run p (drop at t)) (j + 1)
    now true e l =
        let come : Reach p t at (at + j) = along j (omega arith) in
        let next : Reach p t at (at + j + 1) = more h e come in
        rw (le-ltb (run p (drop at t)) j (omega arith), le-ltb (run p (drop at t)) (j + 1) (omega arith)) (omega arith)
    now false e l =
        let come : Reach p t at (at + j) = along j (omega arith) in
        let last : at + j ≡ at + run p (drop at t) = stop e come in
        rw (le-ltb (run p (drop at t)) j (omega arith), lt-ltb (run p (drop at t)) (j + 1) (omega arith)) (omega arith)
