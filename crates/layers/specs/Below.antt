-- What a write through a layer leaves in the bank below it, by the register below that is written.
use Rattle.std.specs.Prelude.{ℕ, List, Some, None, Option}
use Rattle.registers.specs.declared.record.Fields.{Fields}
use Rattle.registers.specs.Cells.{Cell, write_cells}

abbrev pub write_below : {V : Type 0} → Option ℕ → List (Cell V) → Fields V → List (Cell V)
write_below None cells f = cells
write_below (Some at) cells f = write_cells cells at f
