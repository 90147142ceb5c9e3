-- What is known where a closure was called at a text and a writer, and answered `Ok`.
use Rattle.std.specs.Prelude.{List, ℕ, ◌≡◌, ◌<◌, length, Option, Some, None, IfSome, Result, Ok, Err, OnOk, is_ok}
use Rattle.std.proofs.Common.{refl}
use Rattle.std.proofs.lemmas.Bool.{true≢false}
use Rattle.std.specs.Borrow.{Bor, MutBor}
use Rattle.std.specs.Fn.{Called, Mut}
use Rattle.report.specs.Reading.{Answers}

pub answered_ok : {F W E D : Type 0} (g : Mut F (Bor (List ℕ) × (MutBor W × Unit {0})) (Result (Unit {0}) E × (MutBor W × Unit {0}))) (f f' : F) (shown : Bor (List ℕ)) (writer left : MutBor W)
    (r : Result (Unit {0}) E) (r' : Result (Unit {0}) D) (known : Option (List ℕ)) (room n : ℕ) → is_ok r' ≡ is_ok r → Called g f (shown, (writer, tt)) (r, (left, tt)) f' →
    IfSome known (λ bytes. (length bytes < room) × (shown.now ≡ bytes)) → OnOk r' (IfSome known (λ text. length text < n → Answers g f text writer.now f' left.now))
answered_ok g f f' shown writer left r (Err d) known room n same called read = tt
answered_ok g f f' shown writer left (Err e) (Ok v) known room n same called read = absurd (true≢false same)
answered_ok g f f' shown writer left (Ok u) (Ok v) None room n same called read = tt
answered_ok g f f' shown writer left (Ok u) (Ok v) (Some bytes) room n same called read =
    λ few. record { shown = shown; shows = read.1; writer = writer; holds = refl; left = left; called = called; leaves = refl }
