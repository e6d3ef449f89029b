-- A bank on a list of records: its cells, and the records after a write.
use Rattle.std.specs.Borrow.{GName, MutBor}
use Rattle.std.specs.Prelude.{ℕ, ◌-◌, cond, List, map, length, take, drop, Some, None, Option, slice_set}
use Rattle.registers.specs.declared.record.Fields.{Fields}
use Rattle.registers.specs.declared.record.Record.{Record}
use Rattle.registers.specs.Cells.{Cell, max_registers, stands}
use Rattle.registers.specs.Records.{made}

module _ {V : Type 0} where
  abbrev pub record_cells : List (Record V) → List (Cell V)
  record_cells rs = map Some (take max_registers rs)

  abbrev pub made_records : List (Record V) → ℕ → Option (Record V) → List (Record V)
  made_records rs j None = rs
  made_records rs j (Some r) = slice_set rs (j - 1) r

  abbrev pub write_records : List (Record V) → ℕ → Fields V → List (Record V)
  write_records rs j f = cond (stands (length (record_cells rs)) j) (made_records rs j (made f)) rs

-- what no write touches: which loan the records are, and the records past the last register
pub record RecordRest (V : Type 0) : Type 0 where
  pub loan : GName
  pub beyond : List (Record V)

abbrev pub record_rest : {V : Type 0} → MutBor (List (Record V)) → RecordRest V
record_rest rs = record { loan = rs.ghost_name; beyond = drop max_registers rs.now }
