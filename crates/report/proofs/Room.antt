-- What stands in a room after a read behind what stood there.
use Rattle.std.specs.Prelude.{ℕ, ◌+◌, ◌≤◌, ◌≡◌, List, ◌++◌, take, length, Option}
use Rattle.std.proofs.Common.{ap, subst, ◌∙◌, length-take-le}
use Rattle.std.proofs.KnownBytes.{Consumes-trans}
use Rattle.std.proofs.Math.Seq.{take-append-add}
use Rattle.std.proofs.lemmas.List.{take-append-le}
use Rattle.std.specs.Io.KnownBytes.{Consumes}
use borrow.Rule.Slice.PartMut.{put_mid, post_of}

-- the first bytes that stood there, and those of the read
first-put : (d m k : ℕ) (room buf : List ℕ) → d ≤ length room → m ≤ length buf → take (d + m) (put_mid d k room buf) ≡ take d room ++ take m buf
first-put d m k room buf p q =
    let front : length (take d room) ≡ d = length-take-le d room p in
    let more : take (length (take d room) + m) (take d room ++ (buf ++ post_of d k room)) ≡ take d room ++ take m (buf ++ post_of d k room) = take-append-add (take d room) (buf ++ post_of d k room) m in
    let both : take (d + m) (take d room ++ (buf ++ post_of d k room)) ≡ take d room ++ take m (buf ++ post_of d k room) = subst (λ (n : ℕ). take (n + m) (take d room ++ (buf ++ post_of d k room)) ≡ take d room ++ take m (buf ++ post_of d k room)) front more in
    both ∙ ap (λ (bs : List ℕ). take d room ++ bs) (take-append-le m buf (post_of d k room) q)

pub read_more : (a b c : Option (List ℕ)) (d m k : ℕ) (room buf : List ℕ) → d ≤ length room → m ≤ length buf →
    Consumes a b (take d room) → Consumes b c (take m buf) → Consumes a c (take (d + m) (put_mid d k room buf))
read_more a b c d m k room buf h i p q = rw (first-put d m k room buf h i) (Consumes-trans a b c (take d room) (take m buf) p q)
