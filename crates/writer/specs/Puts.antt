-- A content put into a space.
use Rattle.std.specs.Prelude.{◌≡◌, ℕ, ◌+◌, ◌≤◌, List, ◌++◌, length, take, drop}
use Rattle.writer.specs.declared.cursor.Cursor.{Cursor}

-- from a place on, up to `end`, the space has the content, and elsewhere what it had
pub record Puts (content : List ℕ) (at end : ℕ) (before after : List ℕ) : Type 0 where
  pub ends : end ≡ at + length content
  pub is : after ≡ take at before ++ (content ++ drop (at + length content) before)

-- there is room for the content where a cursor stands
abbrev pub Fits : List ℕ → Cursor → Type 0
Fits content c = c.at + length content ≤ length c.space.now

-- a cursor on the same space, behind the content
pub record Appends (content : List ℕ) (before after : Cursor) : Type 0 where
  pub fits : Fits content before
  pub same_reference : after.space.ghost_name ≡ before.space.ghost_name
  pub puts : Puts content before.at after.at before.space.now after.space.now
