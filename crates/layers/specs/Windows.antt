-- A window of a list of cells: its size, the place below of each register, its cells, and what it does not show.
use Rattle.std.specs.Prelude.{ℕ, ◌+◌, ◌-◌, Bool, if◌then◌else◌, ◌&&◌, List, [], ◌++◌, length, take, drop, Some, None, Option, nat_le}
use Rattle.registers.specs.Cells.{Cell, stands}

-- `count` registers from `first` on lie among the first n
abbrev pub window_fits : ℕ → ℕ → ℕ → Bool
window_fits n first count = nat_le 1 first && (nat_le 1 count && nat_le (first + count - 1) n)

abbrev pub window_size : ℕ → ℕ → ℕ → ℕ
window_size n first count = if window_fits n first count then count else 0

-- the register below that register j is
abbrev pub window_place : ℕ → ℕ → ℕ → ℕ → Option ℕ
window_place n first count j = if stands (window_size n first count) j then Some (first + (j - 1)) else None

module _ {X : Type 0} (cells : List X) (first count : ℕ) where
  abbrev pub window_cells : List X
  window_cells = if window_fits (length cells) first count then take count (drop (first - 1) cells) else []

  -- the cells that the window does not show
  abbrev pub window_outside : List X
  window_outside = if window_fits (length cells) first count then take (first - 1) cells ++ drop (first - 1 + count) cells else cells

-- what no write through a window touches: where it stands, what it does not show, and the rest of the bank below
pub record WindowRest (V R : Type 0) : Type 0 where
  pub first : ℕ
  pub count : ℕ
  pub outside : List (Cell V)
  pub below : R

abbrev pub window_rest : {V R : Type 0} → List (Cell V) → ℕ → ℕ → R → WindowRest V R
window_rest cells first count r = record { first = first; count = count; outside = window_outside cells first count; below = r }
