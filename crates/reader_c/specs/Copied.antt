-- Bytes copied to the start of a buffer, where it has room for them.
-- Assumes nothing.
use Rattle.std.specs.Prelude.{◌≡◌, List, ℕ, ◌≤◌, ◌<◌, length}
use Rattle.wire.specs.Put.{Wrote}

pub record Copied (bytes before after : List ℕ) (n : ℕ) : Type 0 where
  pub room : length bytes ≤ length before → Wrote before 0 bytes after n
  pub no_room : length before < length bytes → (after ≡ before) × (n ≡ 0)
