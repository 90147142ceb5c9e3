-- Lexing a text: its steps; what is listed, counted and refused, in a lent list and stack.
use Rattle.std.specs.Prelude.{ℕ, zero, suc, pred, ◌+◌, max, ◌≡◌, List, [], ◌∷◌, map, Bool, true, false, cond, not, ◌&&◌, leb, ltb, eqb, take, drop, length}
use Rattle.std.proofs.Math.Option.{Option, none, some}
use Rattle.rules.specs.Text.{keep, join}
use Rattle.rules.specs.Utf8.{first_bad}
use Rattle.rules.specs.Refusals.{NotUtf8, TooLong, AnotherDue, UnclosedBracket, UnclosedHole, UnclosedString, UnclosedFormat, StackFull, ListFull}
use Rattle.rules.specs.Spans.{Span, span, limit}
use Rattle.rules.specs.Answers.{refused, Verdict, accepted}
use Rattle.rules.specs.Kinds.{HoleOpen, Nothing, between, is_space, is_quote_open, is_format, is_opener, is_closer}
use Rattle.rules.specs.Step.{Step, found, stop, step}
use Rattle.rules.specs.Lent.{Lent, places_in, filled, FreeBelow, Lexeme, lexeme}

-- a step that was not refused: its kind and its bytes
pub record Taken : Type 0 where
  pub kind : ℕ
  pub bytes : List ℕ

abbrev pub taken : ℕ → List ℕ → Taken
taken k w = record { kind = k; bytes = w }

-- how the steps of a text end: at the text's end, or with a refusal, whose span starts so many bytes after the last step
pub data End : Type 0 where
  ended : End
  stopped : (number from length : ℕ) → End

pub record Trace : Type 0 where
  pub taken : List Taken
  pub end : End

abbrev pub ends : End → Trace
ends e = record { taken = []; end = e }

abbrev pub after : Taken → Trace → Trace
after p t = record { taken = p ∷ t.taken; end = t.end }

-- what is open, innermost first, after one more lexeme: an opener is added, a closer takes one
unfoldable pub open_after : {A : Type 0} → (A → ℕ) → List A → A → List A
open_after kind_of openers x = cond (is_opener (kind_of x)) (x ∷ openers) (cond (is_closer (kind_of x)) (drop 1 openers) openers)

abbrev pub codes_after : List ℕ → ℕ → List ℕ
codes_after = open_after (λ k. k)

abbrev pub innermost : List ℕ → ℕ
innermost [] = Nothing
innermost (k ∷ openers) = k

-- 25 to 28: "end reached in a bracket", "the same in a hole, string, format string"
unfoldable pub unclosed : ℕ → ℕ
unclosed k =
    cond (eqb k HoleOpen) UnclosedHole (
    cond (is_format k) UnclosedFormat (
    cond (is_quote_open k) UnclosedString UnclosedBracket))

abbrev pub at_end : List ℕ → End
at_end [] = ended
at_end (k ∷ openers) = stopped (unclosed k) 0 0

-- a refusal ends the steps, a lexeme goes on
abbrev pub follow : Step → ((kind length : ℕ) → Trace) → Trace
follow (found k n) go = go k n
follow (stop number from n) go = ends (stopped number from n)

-- the steps of a text, memory aside, where these codes are open and `skip` bytes at the front belong to the step before
unfoldable pub trace_from : (openers : List ℕ) (skip : ℕ) → List ℕ → Trace
trace_from openers skip [] = ends (at_end openers)
trace_from openers (suc skip) (b ∷ s) = trace_from openers skip s
trace_from openers zero (b ∷ s) =
    follow (step (innermost openers) (b ∷ s)) (λ k n. after (taken k (take n (b ∷ s))) (trace_from (codes_after openers k) (pred n) s))

-- refusal 1
abbrev pub unless_not_utf8 : Option ℕ → Trace → Trace
unless_not_utf8 none t = t
unless_not_utf8 (some at) t = ends (stopped NotUtf8 at 0)

-- "Lexing checks 2, then 1, then each step"
unfoldable pub trace : List ℕ → Trace
trace text = cond (ltb limit (length text)) (ends (stopped TooLong 0 0)) (unless_not_utf8 (first_bad text) (trace_from [] 0 text))

-- "The rules accept a text when lexing it, memory aside, meets no refusal."
abbrev pub meets_no_refusal : End → Bool
meets_no_refusal ended = true
meets_no_refusal (stopped number from n) = false

abbrev pub accepts : List ℕ → Bool
accepts text = meets_no_refusal (trace text).end

-- how many are open after one more lexeme
abbrev pub depth_after : ℕ → ℕ → ℕ
depth_after depth k = cond (is_opener k) (suc depth) (cond (is_closer k) (pred depth) depth)

-- how many are open after some steps
abbrev pub open_after_all : ℕ → List Taken → ℕ
open_after_all depth [] = depth
open_after_all depth (p ∷ ps) = open_after_all (depth_after depth p.kind) ps

-- how many places are left after one more lexeme
abbrev pub room_after : ℕ → ℕ → ℕ
room_after room k = cond (is_space k) room (pred room)

-- "in a step, text errors, then 30, then 31, before anything is written": the steps in a stack of so many places, of which `depth` are taken, and a list with room for so many
unfoldable pub limited : (stack depth room : ℕ) → List Taken → End → Trace
limited stack depth room [] e = ends e
limited stack depth room (p ∷ ps) e =
    let more = limited stack (depth_after depth p.kind) (room_after room p.kind) ps e in
    cond (is_opener p.kind && leb stack depth) (ends (stopped StackFull 0 (length p.bytes))) (
    cond (not (is_space p.kind) && eqb room 0) (ends (stopped ListFull 0 (length p.bytes)))
    (after p more))

-- the steps of a lexing call
unfoldable pub trace_in : (places stack : ℕ) → List ℕ → Trace
trace_in places stack text = limited stack 0 places (trace text).taken (trace text).end

-- Counts. "Of the steps not refused (reaching the end is none), steps is the number; lexemes, those that are no Space; kept and dropped, the bytes of lexemes and of Spaces"
abbrev pub lexemes_of : List Taken → List Taken
lexemes_of = keep (λ p. not (is_space p.kind))

abbrev pub spaces_of : List Taken → List Taken
spaces_of = keep (λ p. is_space p.kind)

abbrev pub joined : List Taken → List ℕ
joined ps = join (map (λ p. p.bytes) ps)

-- "deepest, the most lexemes of codes 5 to 8, 14, 33, 35, 37 open at once", where so many are open before
abbrev pub deepest_from : (depth : ℕ) → List Taken → ℕ
deepest_from depth [] = depth
deepest_from depth (p ∷ ps) = max depth (deepest_from (depth_after depth p.kind) ps)

-- the steps with their spans, from a position on
abbrev pub placed : (doc at : ℕ) → List Taken → List Lexeme
placed doc at [] = []
placed doc at (p ∷ ps) =
    let next = at + length p.bytes in
    lexeme p.kind (span doc at next) ∷ placed doc next ps

-- what is listed: every lexeme, no Space
abbrev pub listed_of : List Lexeme → List Lexeme
listed_of = keep (λ l. not (is_space l.kind))

-- what is open after some lexemes
abbrev pub open_of : List Lexeme → List Lexeme → List Lexeme
open_of openers [] = openers
open_of openers (l ∷ ls) = open_of (open_after (λ x. x.kind) openers l) ls

-- refusals 24 to 28: "note the opener"
abbrev pub note_of : ℕ → List Lexeme → Option Span
note_of number [] = none
note_of number (l ∷ openers) = cond (between AnotherDue UnclosedFormat number) (some l.at) none

-- the verdict on a text that came to its end so, at a position and with these open
unfoldable pub verdict_of : (doc at : ℕ) → List Lexeme → End → Verdict
verdict_of doc at openers ended = accepted
verdict_of doc at openers (stopped number from n) =
    refused (record { number = number; at = span doc (at + from) (at + from + n); note = note_of number openers })

-- "The result always carries lexemes, steps, kept, dropped and deepest so far."
pub record Lexed : Type 0 where
  pub verdict : Verdict
  pub lexemes : ℕ
  pub steps : ℕ
  pub kept : ℕ
  pub dropped : ℕ
  pub deepest : ℕ

unfoldable pub lexed_of : (doc : ℕ) → Trace → Lexed
lexed_of doc t = record {
  verdict = verdict_of doc (length (joined t.taken)) (open_of [] (placed doc 0 t.taken)) t.end;
  lexemes = length (lexemes_of t.taken);
  steps = length t.taken;
  kept = length (joined (lexemes_of t.taken));
  dropped = length (joined (spaces_of t.taken));
  deepest = deepest_from 0 t.taken;
}

-- what a lexing call lists
unfoldable pub listing : (doc places stack : ℕ) → List ℕ → List Lexeme
listing doc places stack text = listed_of (placed doc 0 (trace_in places stack text).taken)

-- what a lexing call answers
unfoldable pub lexing : (doc places stack : ℕ) → List ℕ → Lexed
lexing doc places stack text = lexed_of doc (trace_in places stack text)

-- what a lexing call leaves of the list and the stack lent to it, where its result is r: its result and list are those above, every place after what was listed is untouched, and "Stack places from the deepest nesting upward" are too
pub record Lexes (doc : ℕ) (text : List ℕ) (list stack : Lent) (r : Lexed) (list' stack' : Lent) : Type 0 where
  pub result : r ≡ lexing doc (places_in list) (places_in stack) text
  pub listed : list' ≡ filled (listing doc (places_in list) (places_in stack) text) list
  pub stacked : FreeBelow r.deepest stack stack'
