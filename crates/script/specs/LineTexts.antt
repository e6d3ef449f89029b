-- The text of a line, by what the line asks.
use Rattle.std.specs.Prelude.{◌≡◌, ℕ, ◌<◌, ◌≤◌, List, ◌++◌, length, codes, decimal, ◌≢◌, slice_index}
use Rattle.kinds.specs.declared.name.KindName.{KindName}
use Rattle.kinds.specs.declared.name.KindName.TheVariants.{Batch, Choice}
use Rattle.script.specs.Fields.{comma}
use Rattle.script.specs.Shapes.{max_line, Asked, opens, proposes, goes, waits, follows, suspects}

abbrev pub kind_text : KindName → List ℕ
kind_text Batch = codes "B"
kind_text Choice = codes "C"

abbrev pub line_text : Asked → List ℕ
line_text (opens n k) = codes "O," ++ (decimal n ++ (codes "," ++ kind_text k))
line_text (proposes i value) = codes "P," ++ (decimal i ++ (codes "," ++ value))
line_text (goes i) = codes "G," ++ decimal i
line_text (waits i) = codes "W," ++ decimal i
line_text (follows i leader) = codes "L," ++ (decimal i ++ (codes "," ++ decimal leader))
line_text (suspects i mask) = codes "S," ++ (decimal i ++ (codes "," ++ decimal mask))

abbrev pub NoComma : List ℕ → Type 0
NoComma text = (k : ℕ) → k < length text → slice_index text k ≢ comma

-- the numbers are at most 255, and there is no comma in a value
abbrev pub Fit : Asked → Type 0
Fit (opens n k) = n < 256
Fit (proposes i value) = (i < 256) × NoComma value
Fit (goes i) = i < 256
Fit (waits i) = i < 256
Fit (follows i leader) = (i < 256) × (leader < 256)
Fit (suspects i mask) = (i < 256) × (mask < 256)

-- the bytes are the line that asks this
pub record Writes (bytes : List ℕ) (a : Asked) : Type 0 where
  pub text : bytes ≡ line_text a
  pub short : length bytes ≤ max_line
  pub fit : Fit a
