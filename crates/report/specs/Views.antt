-- The cells that are reported: those of the whole box, or those of a window of it.
use Rattle.std.specs.Prelude.{ℕ, List, Some, None, Option}
use Rattle.registers.specs.Cells.{Cell}
use Rattle.layers.specs.Windows.{window_cells}
use Rattle.blocks.specs.BlockCells.{block_cells}
use Rattle.requests.specs.declared.Span.{Span}

abbrev pub viewed_cells : {V : Type 0} → (List ℕ → Option V) → List ℕ → Option Span → List (Cell V)
viewed_cells of_image bs None = block_cells of_image bs
viewed_cells of_image bs (Some s) = window_cells (block_cells of_image bs) s.first s.count
