-- What a bank of registers answers, and what a write leaves in it. A bank is the list of its cells, register 1 first.
use Rattle.std.specs.Prelude.{ℕ, ◌-◌, Bool, cond, ◌&&◌, List, length, Some, None, Ok, Err, Option, Result, nat_le, slice_index_or, slice_set}
use Rattle.registers.specs.declared.record.Fields.{Fields}
use Rattle.registers.specs.declared.record.Record.{Record}
use Rattle.registers.specs.declared.refusal.Refusal.TheVariants.{NoRegister, Unlawful, Unreadable}
use Rattle.registers.specs.Refusals.{refusal_number}
use Rattle.registers.specs.Records.{made}

-- however much memory a bank is given, it has no more registers
abbrev pub max_registers : ℕ
max_registers = 128

-- a register holds a lawful record, or is unreadable: None
abbrev pub Cell : Type 0 → Type 0
Cell V = Option (Record V)

-- one of n registers, which are numbered from 1
abbrev pub stands : ℕ → ℕ → Bool
stands n j = nat_le 1 j && nat_le j n

-- the index, from 0, of number j of n, or a refusal with the number e
abbrev pub index_or : ℕ → ℕ → ℕ → Result ℕ ℕ
index_or e n j = cond (stands n j) (Ok (j - 1)) (Err e)

abbrev pub index_answer : ℕ → ℕ → Result ℕ ℕ
index_answer n j = index_or (refusal_number NoRegister) n j

module _ {V : Type 0} where
  abbrev pub cell_answer : Cell V → Result (Record V) ℕ
  cell_answer None = Err (refusal_number Unreadable)
  cell_answer (Some r) = Ok r

  abbrev pub read_answer : List (Cell V) → ℕ → Result (Record V) ℕ
  read_answer cells j = cond (stands (length cells) j) (cell_answer (slice_index_or cells (j - 1) None)) (Err (refusal_number NoRegister))

  -- of a register that stands, by the record that the fields make
  abbrev pub made_answer : Option (Record V) → Result (Unit {0}) ℕ
  made_answer None = Err (refusal_number Unlawful)
  made_answer (Some r) = Ok tt

  abbrev pub write_answer : List (Cell V) → ℕ → Fields V → Result (Unit {0}) ℕ
  write_answer cells j f = cond (stands (length cells) j) (made_answer (made f)) (Err (refusal_number NoRegister))

  -- with a record, register j holds it, and the others are as they were
  abbrev pub made_cells : List (Cell V) → ℕ → Option (Record V) → List (Cell V)
  made_cells cells j None = cells
  made_cells cells j (Some r) = slice_set cells (j - 1) (Some r)

  abbrev pub write_cells : List (Cell V) → ℕ → Fields V → List (Cell V)
  write_cells cells j f = cond (stands (length cells) j) (made_cells cells j (made f)) cells
