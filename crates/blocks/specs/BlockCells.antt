-- A bank on a list of bytes: its cells, one for each whole block, and the bytes after a write.
use Rattle.std.specs.Borrow.{GName, MutBor}
use Rattle.std.specs.Prelude.{ℕ, ◌+◌, ◌-◌, ◌*◌, ◌/◌, min, cond, List, ◌++◌, map, length, take, drop, Some, None, Option}
use Rattle.std.specs.List.{range_with_len}
use Rattle.registers.specs.declared.record.Fields.{Fields}
use Rattle.registers.specs.declared.record.Record.{Record}
use Rattle.registers.specs.Cells.{Cell, max_registers, stands}
use Rattle.registers.specs.Records.{made}
use Rattle.blocks.specs.Layout.{block_len}
use Rattle.blocks.specs.Blocks.{encoded, decoded}

-- how many registers n bytes have
abbrev pub block_count : ℕ → ℕ
block_count n = min max_registers (n / block_len)

-- the block of register k + 1
abbrev pub block_at : List ℕ → ℕ → List ℕ
block_at bs k = take block_len (drop (block_len * k) bs)

module _ {V : Type 0} where
  abbrev pub block_cells : (List ℕ → Option V) → List ℕ → List (Cell V)
  block_cells of_image bs = map (λ k. decoded of_image (block_at bs k)) (range_with_len 0 (block_count (length bs)))

  -- with a record, the block of register j is that record's, and all bytes before and after it are as they were
  abbrev pub made_bytes : (V → List ℕ) → List ℕ → ℕ → Option (Record V) → List ℕ
  made_bytes image_of bs j None = bs
  made_bytes image_of bs j (Some r) = take (block_len * (j - 1)) bs ++ (encoded image_of r ++ drop (block_len * (j - 1) + block_len) bs)

  abbrev pub write_bytes : (V → List ℕ) → List ℕ → ℕ → Fields V → List ℕ
  write_bytes image_of bs j f = cond (stands (block_count (length bs)) j) (made_bytes image_of bs j (made f)) bs

-- the bytes that belong to no register: a tail shorter than a block, and what lies past the last register
abbrev pub rest_bytes : List ℕ → List ℕ
rest_bytes bs = drop (block_len * block_count (length bs)) bs

-- what no write touches: which loan the bytes are, and the bytes that belong to no register
pub record BlockRest : Type 0 where
  pub loan : GName
  pub beyond : List ℕ

abbrev pub block_rest : MutBor (List ℕ) → BlockRest
block_rest bs = record { loan = bs.ghost_name; beyond = rest_bytes bs.now }
