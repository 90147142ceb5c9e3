-- Lists that show the same lexemes of two texts have the same parts from each place on.
use Prim.Native.Nat.{ℕ, zero, suc, pred}
use native.Mathlib.Omega.{arith}
use mathlib.Core.Path.{◌≡◌, refl, sym, ap, ◌∙◌}
use mathlib.Core.List.{List, [], ◌∷◌, map}
use mathlib.Core.Bool.{Bool, true, false, cond, ◌||◌, false≢true}
use borrow.Author.Tests.{le-ltb, eq-eqb}
use lib.Dec.{eqb}
use lib.ListN.{drop, length}
use Rattle.rules.specs.Refusals.{NoString}
use Rattle.rules.specs.Spans.{Span, nowhere, limit, is_bad, enclosing, bytes_at}
use Rattle.rules.specs.Answers.{Answer}
use Rattle.rules.specs.Kinds.{QuoteClose, StringInner, HoleOpen, HoleClose, is_quote_open, is_escape}
use Rattle.rules.specs.Lent.{Lexeme, lexeme, kinds_with}
use Rattle.rules.specs.Lexing.{Taken}
use Rattle.rules.specs.Parts.{Effect, closes, refuses, passes, yields, at_depth1, hole_ends, deeper, effect, Parts, follow_effect, parts_from, parts_of, in_room, parts_in}
use Rattle.rules.proofs.Text.{decide}
use Rattle.rules.proofs.Listing.{Inside, ShowsAll, no_more, one_more}
use Rattle.laws.proofs.SameButSpans.{SameButSpans, both-given, both-refused}

-- two lexemes or parts of the same kind and bytes, each in its own text; a hole's bytes are not asked for, as they may have Spaces among them
pub record SameLexeme (text text' : List ℕ) (doc doc' : ℕ) (l l' : Lexeme) : Type 0 where
  pub kind : l'.kind ≡ l.kind
  pub inside : Inside text doc l.at
  pub inside' : Inside text' doc' l'.at
  pub bytes : eqb l.kind HoleOpen ≡ false → bytes_at text' l'.at ≡ bytes_at text l.at

-- one after another
pub data EachSame (text text' : List ℕ) (doc doc' : ℕ) : List Lexeme → List Lexeme → Type 0 where
  none-like : EachSame text text' doc doc' [] []
  more-like : {l l' : Lexeme} {ls ls' : List Lexeme} → SameLexeme text text' doc doc' l l' → EachSame text text' doc doc' ls ls' → EachSame text text' doc doc' (l ∷ ls) (l' ∷ ls')

-- what one lexeme does in each list
data SameEffect (text text' : List ℕ) (doc doc' : ℕ) : Effect → Effect → Type 0 where
  both-close : SameEffect text text' doc doc' closes closes
  both-refuse : (number : ℕ) {s s' : Span} → SameEffect text text' doc doc' (refuses number s) (refuses number s')
  both-pass : (depth : ℕ) {h h' : Span} → Inside text doc h → Inside text' doc' h' → SameEffect text text' doc doc' (passes depth h) (passes depth h')
  both-yield : {p p' : Lexeme} → SameLexeme text text' doc doc' p p' → SameEffect text text' doc doc' (yields p) (yields p')

-- parts that are the same in two texts, and the same place of the closer or refusals of the same number
pub record SameParts (text text' : List ℕ) (doc doc' : ℕ) (p p' : Parts) : Type 0 where
  pub found : EachSame text text' doc doc' p.found p'.found
  pub answers : SameButSpans p.answer p'.answer

-- a span inside a text is not bad
pub not-bad : {text : List ℕ} {doc : ℕ} (s : Span) → Inside text doc s → is_bad s ≡ false
not-bad s h = rw (le-ltb s.end s.start h.order, le-ltb limit s.end h.small)

-- the span that encloses two spans inside a text is inside it
enclosing-inside : {text : List ℕ} {doc : ℕ} (s t : Span) → Inside text doc s → Inside text doc t → Inside text doc (enclosing s t)
enclosing-inside s t h k =
    record { order = omega (arith, h.order, k.order); room = omega (arith, h.room, k.room); small = omega (arith, h.small, k.small); document = h.document }

module _ {text text' : List ℕ} {doc doc' : ℕ} where
  -- lists that show the same lexemes have the same ones
  pub shown-like : {ls ls' : List Lexeme} {ps : List Taken} → ShowsAll text doc ls ps → ShowsAll text' doc' ls' ps → EachSame text text' doc doc' ls ls'
  shown-like no_more no_more = none-like
  shown-like (one_more h more) (one_more h' more') =
      more-like (record { kind = h'.kind ∙ sym h.kind; inside = h.inside; inside' = h'.inside; bytes = λ e. h'.bytes ∙ sym h.bytes }) (shown-like more more')

  -- so they are from a place on
  pub like-drop : (place : ℕ) {ls ls' : List Lexeme} → EachSame text text' doc doc' ls ls' → EachSame text text' doc doc' (drop place ls) (drop place ls')
  like-drop zero a = a
  like-drop (suc place) none-like = none-like
  like-drop (suc place) (more-like h a) = like-drop place a

  -- they are as many
  pub like-length : {ls ls' : List Lexeme} → EachSame text text' doc doc' ls ls' → length ls' ≡ length ls
  like-length none-like = refl
  like-length (more-like h a) = ap suc (like-length a)

  -- they have the same kinds
  pub like-kinds : {ls ls' : List Lexeme} → EachSame text text' doc doc' ls ls' → map (λ l. l.kind) ls' ≡ map (λ l. l.kind) ls
  like-kinds none-like = refl
  like-kinds (more-like h a) = rw (h.kind, like-kinds a)

  -- they leave the same kinds in an array
  pub like-array : {ls ls' : List Lexeme} (ks : List ℕ) → EachSame text text' doc doc' ls ls' → kinds_with ls' ks ≡ kinds_with ls ks
  like-array ks a = rw (like-kinds a, like-length a)

  effect-cond : (b : Bool) {t u v w : Effect} → SameEffect text text' doc doc' t u → SameEffect text text' doc doc' v w → SameEffect text text' doc doc' (cond b t v) (cond b u w)
  effect-cond true f g = f
  effect-cond false f g = g

  parts-cond : (b : Bool) {p q r s : Parts} → SameParts text text' doc doc' p q → SameParts text text' doc doc' r s → SameParts text text' doc doc' (cond b p r) (cond b q s)
  parts-cond true f g = f
  parts-cond false f g = g

  -- what a lexeme does at depth 1
  at-depth-one : (l l' : Lexeme) → SameLexeme text text' doc doc' l l' → SameEffect text text' doc doc' (at_depth1 l) (at_depth1 l')
  at-depth-one l l' h = rw h.kind
      (effect-cond (eqb l.kind StringInner || is_escape l.kind) (both-yield (record { kind = refl; inside = h.inside; inside' = h.inside'; bytes = h.bytes }))
      (effect-cond (eqb l.kind HoleOpen) (both-pass 2 h.inside h.inside')
      (effect-cond (eqb l.kind QuoteClose) both-close (both-refuse NoString))))

  -- each hole's two ends are of one document, so that it is a part
  hole-ends : (a a' b b' : Span) → Inside text doc a → Inside text' doc' a' → Inside text doc b → Inside text' doc' b' → SameEffect text text' doc doc' (hole_ends a b) (hole_ends a' b')
  hole-ends a a' b b' ia ia' ib ib' =
      let one : eqb a.doc b.doc ≡ true = eq-eqb _ _ (ia.document ∙ sym ib.document) in
      let one' : eqb a'.doc b'.doc ≡ true = eq-eqb _ _ (ia'.document ∙ sym ib'.document) in
      let h : SameLexeme text text' doc doc' (lexeme HoleOpen (enclosing a b)) (lexeme HoleOpen (enclosing a' b')) =
      record { kind = refl; inside = enclosing-inside a b ia ib; inside' = enclosing-inside a' b' ia' ib'; bytes = λ e. absurd (false≢true (sym e)) } in
      rw (one, one') (both-yield h)

  -- what it does deeper
  deeper-same : (depth : ℕ) (a a' : Span) (l l' : Lexeme) → Inside text doc a → Inside text' doc' a' → SameLexeme text text' doc doc' l l' →
      SameEffect text text' doc doc' (deeper depth a l) (deeper depth a' l')
  deeper-same depth a a' l l' i i' h = rw h.kind
      (effect-cond (is_quote_open l.kind || eqb l.kind HoleOpen) (both-pass (suc depth) i i')
      (effect-cond (eqb l.kind QuoteClose || eqb l.kind HoleClose)
      (effect-cond (eqb depth 2) (hole-ends a a' l.at l'.at i i' h.inside h.inside') (both-pass (pred depth) i i'))
      (both-pass depth i i')))

  -- at depth 1 no hole is open, and deeper the open hole's span is inside
  effect-same : (depth : ℕ) (a a' : Span) (l l' : Lexeme) → (eqb depth 1 ≡ false → Inside text doc a × Inside text' doc' a') → SameLexeme text text' doc doc' l l' →
      SameEffect text text' doc doc' (effect depth a l) (effect depth a' l')
  unfolding effect
  effect-same depth a a' l l' inner h = rw (not-bad l.at h.inside, not-bad l'.at h.inside')
      (decide (eqb depth 1) (λ e. rw e (at-depth-one l l' h)) (λ e. rw e (deeper-same depth a a' l l' (inner e).0 (inner e).1 h)))

  -- going on after what it does
  follow-same : {t u : Effect} (place : ℕ) (go go' : (depth : ℕ) (hole : Span) → Parts) → SameEffect text text' doc doc' t u →
      ((depth : ℕ) (a a' : Span) → (eqb depth 1 ≡ false → Inside text doc a × Inside text' doc' a') → SameParts text text' doc doc' (go depth a) (go' depth a')) →
      SameParts text text' doc doc' (follow_effect t place go) (follow_effect u place go')
  follow-same place go go' both-close more = record { found = none-like; answers = both-given place }
  follow-same place go go' (both-refuse number) more = record { found = none-like; answers = both-refused refl }
  follow-same place go go' (both-pass depth {h} {h'} i i') more = more depth h h' (λ e. (i, i'))
  follow-same place go go' (both-yield h) more =
      let rest = more 1 nowhere nowhere (λ e. absurd (false≢true (sym e))) in
      record { found = more-like h rest.found; answers = rest.answers }

  -- the parts from a place in a string on
  parts_from_lem : {ls ls' : List Lexeme} → EachSame text text' doc doc' ls ls' → (place depth : ℕ) (a a' : Span) → (eqb depth 1 ≡ false → Inside text doc a × Inside text' doc' a') →
      SameParts text text' doc doc' (parts_from place depth a ls) (parts_from place depth a' ls')
  parts_from_lem none-like place depth a a' inner = record { found = none-like; answers = both-refused refl }
  parts_from_lem (more-like {l} {l'} h more) place depth a a' inner =
      follow-same place _ _ (effect-same depth a a' l l' inner h) (λ depth a a' inner. parts_from_lem more (suc place) depth a a' inner)

  -- the parts from an opener on
  parts-of : {ls ls' : List Lexeme} → EachSame text text' doc doc' ls ls' → (place : ℕ) → SameParts text text' doc doc' (parts_of place ls) (parts_of place ls')
  unfolding parts_of
  parts-of none-like place = record { found = none-like; answers = both-refused refl }
  parts-of (more-like {l} {l'} h more) place = rw (not-bad l.at h.inside, not-bad l'.at h.inside', h.kind)
      (parts-cond (is_quote_open l.kind) (parts_from_lem more (suc place) 1 nowhere nowhere (λ e. absurd (false≢true (sym e)))) (record { found = none-like; answers = both-refused refl }))

  -- those that fit
  room-same : (room : ℕ) {ps ps' : List Lexeme} {a a' : Answer ℕ} → EachSame text text' doc doc' ps ps' → SameButSpans a a' → SameParts text text' doc doc' (in_room room ps a) (in_room room ps' a')
  room-same room none-like g = record { found = none-like; answers = g }
  room-same zero (more-like h more) g = record { found = none-like; answers = both-refused refl }
  room-same (suc room) (more-like h more) g =
      let rest = room-same room more g in
      record { found = more-like h rest.found; answers = rest.answers }

  -- the parts in a list of so many places
  pub parts_same : {ls ls' : List Lexeme} → EachSame text text' doc doc' ls ls' → (room place : ℕ) → SameParts text text' doc doc' (parts_in room place ls) (parts_in room place ls')
  unfolding parts_in
  parts_same a room place = room-same room (parts-of a place).found (parts-of a place).answers
