-- Texts behind a cursor.
use Rattle.std.specs.Prelude.{◌≡◌, ℕ, List}
use Rattle.texts.specs.declared.cursor.Cursor.{Cursor}
use Rattle.texts.specs.Text.{Wrote}

-- as much of the text as there is room for stands where the cursor was, the cursor is behind it, and in the same buffer
pub record Put (old : Cursor) (t : List ℕ) (new : Cursor) : Type 0 where
  pub wrote : Wrote old.buf.now old.at t new.buf.now new.at
  pub same : new.buf.ghost_name ≡ old.buf.ghost_name
