-- Where the lexer stands after one more lexeme, and whether there is room for it.
use Rattle.std.specs.Prelude.{ℕ, ◌+◌, ◌-◌, max, cond, not, ◌&&◌, leb}
use Rattle.rules.specs.Refusals.{StackFull, ListFull}
use Rattle.rules.specs.Kinds.{is_space, is_opener}
use Rattle.rules.specs.Lexing.{depth_after}
use Rattle.lexer.specs.declared.Cursor.{Cursor}

abbrev pub start : Cursor
start = record { at = 0; depth = 0; lexemes = 0; spaces = 0; dropped = 0; deepest = 0 }

-- after a lexeme of a kind that ends at `end`
unfoldable pub advance_of : Cursor → (kind end : ℕ) → Cursor
advance_of c k e =
    cond (is_space k)
    (record {
      at = e;
      depth = c.depth;
      lexemes = c.lexemes;
      spaces = c.spaces + 1;
      dropped = c.dropped + (e - c.at);
      deepest = c.deepest;
    })
    (record {
      at = e;
      depth = depth_after c.depth k;
      lexemes = c.lexemes + 1;
      spaces = c.spaces;
      dropped = c.dropped;
      deepest = max c.deepest (depth_after c.depth k);
    })

-- 30, 31, or 0 where there is room in a stack and a list of so many places
unfoldable pub no_room_of : (stack places : ℕ) → Cursor → (kind : ℕ) → ℕ
no_room_of stack places c k =
    cond (is_opener k && leb stack c.depth) StackFull (
    cond (not (is_space k) && leb places c.lexemes) ListFull 0)
