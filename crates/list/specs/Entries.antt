-- What the entries of a list in two arrays mean.
use Rattle.std.specs.Prelude.{ℕ, cond, ◌≡◌, List, [], ◌∷◌, ltb}
use Rattle.rules.specs.Spans.{nowhere}
use Rattle.rules.specs.Kinds.{Space}
use Rattle.rules.specs.Lent.{Lexeme, lexeme, Arrays, arrays, array_places, contents, put_at, Lent}
use Rattle.source.specs.Meaning.{span_meant}
use Rattle.list.specs.declared.Entry.{Entry}
use Rattle.list.specs.declared.List.{List as CodeList}
use Rattle.list.specs.declared.ListMut.{ListMut}
use Rattle.list.specs.declared.Iter.{Iter}

-- the two arrays of a list that is lent to be read
abbrev pub list_meant : CodeList → Arrays
list_meant l = arrays l.kinds.now l.words.now

-- the entries that are left to go over
abbrev pub entries_left : Iter → List Lexeme
entries_left it = contents (list_meant it.left)

-- and of one that is lent to be filled
abbrev pub lent_meant : ListMut → Arrays
lent_meant l = arrays l.kinds.now l.words.now

-- the same as what a call that fills a list is lent
abbrev pub lent_in : ListMut → Lent
lent_in l = record { arrays = lent_meant l }

-- the arrays are still those that were lent
abbrev pub SameArrays : ListMut → ListMut → Type 0
SameArrays l l' = (l'.kinds.ghost_name ≡ l.kinds.ghost_name) × (l'.words.ghost_name ≡ l.words.ghost_name)

abbrev pub entry_meant : Entry → Lexeme
entry_meant e = lexeme e.kind (span_meant e.at)

-- the first of some lexemes; where there is none, a Space at 0-0
abbrev pub first_of : List Lexeme → Lexeme
first_of [] = lexeme Space nowhere
first_of (l ∷ ls) = l

-- the arrays after a lexeme was put at a place; as they were where there is no such place
abbrev pub put_in : (place : ℕ) → Lexeme → Arrays → Arrays
put_in place l a = cond (ltb place (array_places a)) (put_at place l a) a
