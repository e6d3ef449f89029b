-- Where the value of a proposal lies.
use Rattle.std.specs.Prelude.{◌≡◌, ℕ, ◌+◌, List}
use Rattle.script.specs.declared.line.Line.{Line}
use Rattle.script.specs.declared.line.Line.TheVariants.{Propose}
use Rattle.script.specs.Fields.{field_end, part_place}

-- the value, if the line has one, is at this place in memory
abbrev pub Lies : ℕ × ℕ → Line → Type 0
Lies at (Propose i value) = value.ref_ptr ≡ at
Lies at another = Unit {0}

-- behind the first comma from this byte on, in the memory that begins at a place
abbrev pub behind_comma : ℕ × ℕ → List ℕ → ℕ → ℕ × ℕ
behind_comma at bytes start = part_place at (field_end bytes start + 1)
