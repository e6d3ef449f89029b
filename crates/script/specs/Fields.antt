-- The fields of a line: what stands between two commas, before the first or after the last.
use Rattle.std.specs.Prelude.{◌≡◌, ℕ, ◌+◌, ◌<◌, ◌≤◌, Bool, cond, List, length, drop, Some, None, Option, ◌==◌, ◌≢◌, nat_le, slice_index, slice_range}
use Rattle.std.specs.List.{position_or_len}
use Rattle.script.specs.declared.fields.Field.{Field}

abbrev pub comma : ℕ
comma = 44

abbrev pub is_comma : ℕ → Bool
is_comma byte = byte == comma

-- how many bytes there are before the first comma, or in all
abbrev pub before_comma : List ℕ → ℕ
before_comma text = position_or_len is_comma text

-- the first comma there or later ends the field, or the end of the line
abbrev pub field_end : List ℕ → ℕ → ℕ
field_end line start = start + before_comma (drop start line)

abbrev pub part : List ℕ → ℕ → ℕ → List ℕ
part line start end = slice_range line start end

-- a field as plain data
pub record Placed : Type 0 where
  pub start : ℕ
  pub end : ℕ
  pub bytes : List ℕ

abbrev pub placed : Field → Placed
placed f = record { start = f.start; end = f.end; bytes = f.bytes.now }

-- the field that starts there, unless the line ends before
abbrev pub field_at : List ℕ → ℕ → Option Placed
field_at line start = cond (nat_le start (length line)) (Some (record { start = start; end = field_end line start; bytes = part line start (field_end line start) })) None

-- where a part of the memory at a block and an offset lies that starts at this byte of it
abbrev pub part_place : ℕ × ℕ → ℕ → ℕ × ℕ
part_place at start = (at.0, start + at.1)

-- The law of a field: it is within the line, has no comma inside, and ends at a comma or at the line's end.
pub record Parted (line : List ℕ) (start end : ℕ) : Type 0 where
  pub ordered : start ≤ end
  pub within : end ≤ length line
  pub no_comma : (k : ℕ) → start ≤ k → k < end → slice_index line k ≢ comma
  pub ends : end < length line → slice_index line end ≡ comma
