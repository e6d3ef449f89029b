-- Cells in the order that a permutation names: the place below of each register, the cells, and what is not shown.
use Rattle.std.specs.Prelude.{ℕ, ◌-◌, if◌then◌else◌, ◌&&◌, List, [], map, length, take, Some, None, Option, ◌==◌, slice_index, slice_index_or}
use Rattle.registers.specs.Cells.{Cell, stands}
use Rattle.layers.specs.declared.permutation.Permutation.{Permutation}

-- the registers that a permutation names, in its order
abbrev pub named : Permutation → List ℕ
named p = take p.count p.places

abbrev pub permuted_size : List ℕ → ℕ → ℕ
permuted_size order n = if length order == n then n else 0

-- over n registers, the one that is named at place j
abbrev pub permuted_place : List ℕ → ℕ → ℕ → Option ℕ
permuted_place order n j = if length order == n && stands n j then Some (slice_index order (j - 1)) else None

module _ {V : Type 0} (cells : List (Cell V)) (order : List ℕ) where
  abbrev pub permuted_cells : List (Cell V)
  permuted_cells = if length order == length cells then map (λ at. slice_index_or cells (at - 1) None) order else []

  -- the cells that the layer does not show
  abbrev pub permuted_outside : List (Cell V)
  permuted_outside = if length order == length cells then [] else cells

-- what no write through a permutation touches: the order, what it does not show, and the rest of the bank below
pub record PermutedRest (V R : Type 0) : Type 0 where
  pub order : List ℕ
  pub outside : List (Cell V)
  pub below : R

abbrev pub permuted_rest : {V R : Type 0} → List (Cell V) → List ℕ → R → PermutedRest V R
permuted_rest cells order r = record { order = order; outside = permuted_outside cells order; below = r }
