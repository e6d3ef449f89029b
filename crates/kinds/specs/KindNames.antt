-- The kind that a text names.
use Rattle.std.specs.Prelude.{ℕ, Bool, cond, ◌&&◌, List, length, Some, None, Option, ◌==◌, slice_index}
use Rattle.kinds.specs.declared.name.KindName.{KindName}
use Rattle.kinds.specs.declared.name.KindName.TheVariants.{Batch, Choice}

-- the text is this one byte
abbrev pub is_byte : ℕ → List ℕ → Bool
is_byte b text = length text == 1 && slice_index text 0 == b

-- B and C
abbrev pub kind_of : List ℕ → Option KindName
kind_of text = cond (is_byte 66 text) (Some Batch) (cond (is_byte 67 text) (Some Choice) None)
