-- Lent memory is spent on lexemes alone: a Space opens and closes nothing and takes no place.
use Prim.Native.Nat.{ℕ, ◌≤◌, pred, zero, suc}
use native.Mathlib.Omega.{arith}
use mathlib.Core.Path.{◌≡◌, refl, sym, ap, ◌∙◌}
use mathlib.Core.List.{List, [], ◌∷◌}
use mathlib.Core.Bool.{Bool, true, false, cond, not, ◌&&◌}
use borrow.Author.Tests.{eqb-true, eqb-false}
use lib.Dec.{leb, eqb}
use lib.ListN.{length}
use Rattle.rules.specs.Refusals.{StackFull, ListFull}
use Rattle.rules.specs.Kinds.{Space, is_space, is_opener, is_closer}
use Rattle.rules.specs.Lexing.{Taken, End, stopped, Trace, ends, after, depth_after, room_after, limited, lexemes_of}
use Rattle.rules.proofs.Text.{decide}

-- a Space opens nothing
pub space-opens : (k : ℕ) → is_space k ≡ true → is_opener k ≡ false
unfolding is_opener
space-opens k e = rw (eqb-true k Space e)

-- and closes nothing
pub space-closes : (k : ℕ) → is_space k ≡ true → is_closer k ≡ false
unfolding is_closer
space-closes k e = rw (eqb-true k Space e)

-- so as many are open after it as before
pub space-depth : (depth k : ℕ) → is_space k ≡ true → depth_after depth k ≡ depth
space-depth depth k e = rw (space-opens k e, space-closes k e)

-- steps that have the lexemes of the first as their steps, and the same end
pub record SpacesAside (t u : Trace) : Type 0 where
  pub lexemes : lexemes_of t.taken ≡ u.taken
  pub end : t.end ≡ u.end

aside-cond : (b : Bool) {t u v w : Trace} → SpacesAside t u → SpacesAside v w → SpacesAside (cond b t v) (cond b u w)
aside-cond true f g = f
aside-cond false f g = g

aside-ends : (e : End) → SpacesAside (ends e) (ends e)
aside-ends e = record { lexemes = refl; end = refl }

aside-space : (p : Taken) (t u : Trace) → is_space p.kind ≡ true → SpacesAside t u → SpacesAside (after p t) u
aside-space p t u e h = record { lexemes = rw e h.lexemes; end = h.end }

aside-lexeme : (p : Taken) (t u : Trace) → is_space p.kind ≡ false → SpacesAside t u → SpacesAside (after p t) (after p u)
aside-lexeme p t u e h = record { lexemes = rw e (ap (λ (r : List Taken). p ∷ r) h.lexemes); end = h.end }

-- leaving out the Spaces before the memory is spent or after it comes to the same
pub limited-lexemes : (stack depth room : ℕ) (ps : List Taken) (e : End) → SpacesAside (limited stack depth room ps e) (limited stack depth room (lexemes_of ps) e)
unfolding limited
limited-lexemes stack depth room [] e = aside-ends e
limited-lexemes stack depth room (p ∷ ps) e = decide (is_space p.kind)
    (λ s. rw (s, space-opens p.kind s, space-closes p.kind s) (aside-space p _ _ s (limited-lexemes stack depth room ps e)))
    (λ s.
    let kept : lexemes_of (p ∷ ps) ≡ p ∷ lexemes_of ps = rw s in
    rw kept
    (aside-cond (is_opener p.kind && leb stack depth) (aside-ends (stopped StackFull 0 (length p.bytes)))
    (aside-cond (not (is_space p.kind) && eqb room 0) (aside-ends (stopped ListFull 0 (length p.bytes)))
    (aside-lexeme p _ _ s (limited-lexemes stack (depth_after depth p.kind) (room_after room p.kind) ps e)))))

-- steps with the same lexemes list the same in the same memory
pub limited-same : (stack depth room : ℕ) (ps qs : List Taken) (e : End) → lexemes_of qs ≡ lexemes_of ps →
    lexemes_of (limited stack depth room qs e).taken ≡ lexemes_of (limited stack depth room ps e).taken
limited-same stack depth room ps qs e same =
    (limited-lexemes stack depth room qs e).lexemes
    ∙ (ap (λ (r : List Taken). (limited stack depth room r e).taken) same ∙ sym (limited-lexemes stack depth room ps e).lexemes)

-- and come to the same end
pub limited-same-end : (stack depth room : ℕ) (ps qs : List Taken) (e : End) → lexemes_of qs ≡ lexemes_of ps → (limited stack depth room qs e).end ≡ (limited stack depth room ps e).end
limited-same-end stack depth room ps qs e same =
    (limited-lexemes stack depth room qs e).end
    ∙ (ap (λ (r : List Taken). (limited stack depth room r e).end) same ∙ sym (limited-lexemes stack depth room ps e).end)

room-cond : (b : Bool) (room : ℕ) (t u : Trace) → length (lexemes_of t.taken) ≤ room → (b ≡ false → length (lexemes_of u.taken) ≤ room) → length (lexemes_of (cond b t u).taken) ≤ room
room-cond true room t u f g = f
room-cond false room t u f g = g refl

-- one step more needs no more room than there is
room_after_lem : (room : ℕ) (p : Taken) (t : Trace) → not (is_space p.kind) && eqb room 0 ≡ false → length (lexemes_of t.taken) ≤ room_after room p.kind → length (lexemes_of (after p t).taken) ≤ room
room_after_lem room p t left h = decide (is_space p.kind)
    (λ s. rw s (rw s at h))
    (λ s. rw s (some_left room _ (rw s at left) (rw s at h)))
  where
    some_left : (room n : ℕ) → eqb room 0 ≡ false → n ≤ pred room → suc n ≤ room
    some_left zero n e h = absurd (eqb-false 0 0 e refl)
    some_left (suc room) n e h = omega (arith, h)

-- what is listed has room
pub limited-room : (stack depth room : ℕ) (ps : List Taken) (e : End) → length (lexemes_of (limited stack depth room ps e).taken) ≤ room
unfolding limited
limited-room stack depth room [] e = omega arith
limited-room stack depth room (p ∷ ps) e =
    let more = limited stack (depth_after depth p.kind) (room_after room p.kind) ps e in
    room-cond (is_opener p.kind && leb stack depth) room _ _ (omega arith) (λ o.
    room-cond (not (is_space p.kind) && eqb room 0) room _ _ (omega arith) (λ left.
    room_after_lem room p more left (limited-room stack (depth_after depth p.kind) (room_after room p.kind) ps e)))
