-- The cells of a list of records, as the bank on it reads and writes them.
use Rattle.std.proofs.Common.{◌≡◌, ℕ, ◌+◌, ◌-◌, ◌<◌, ◌≤◌, min, List, map, length, get_or, take, drop, set, Some, None, Ok, sym, ap, ◌∙◌, arith, length-take, get_or-take, drop-set-lt}
use lib.ListN.{length-map}
use lib.Seq.{take-set-lt}
use Rattle.std.proofs.lemmas.List.{map-set, get_or-map}
use Rattle.std.proofs.lemmas.Bool.{cond-true}
use Rattle.registers.specs.declared.record.Fields.{Fields}
use Rattle.registers.specs.declared.record.Record.{Record}
use Rattle.registers.specs.Records.{made}
use Rattle.registers.specs.Cells.{max_registers, cell_answer, read_answer, made_cells, write_cells}
use Rattle.record_bank.specs.RecordCells.{record_cells, made_records, write_records}
use Rattle.registers.proofs.Answering.{reads, writes_cells, write_length, stands_true}

module _ {V : Type 0} (rs : List (Record V)) where
  pub record_count : length (record_cells rs) ≡ min max_registers (length rs)
  record_count = length-map _ _ ∙ length-take max_registers rs

  pub record_set : (i : ℕ) (r : Record V) → i < max_registers → record_cells (set rs i r) ≡ set (record_cells rs) i (Some r)
  record_set i r p = ap (map Some) (take-set-lt max_registers rs i r p) ∙ map-set Some (take max_registers rs) i r

  -- register j, which has the index i
  module _ (i j : ℕ) (inside : i < length (record_cells rs)) (next : i + 1 ≡ j) where
    back : j - 1 ≡ i
    back = omega arith

    low : 1 ≤ j
    low = omega arith

    high : j ≤ length (record_cells rs)
    high = omega arith

    pub within : i < length rs
    within = omega (arith, record_count)

    limited : i < max_registers
    limited = omega (arith, record_count)

    pub record_read : (r : Record V) → r ≡ get_or rs i r → Ok r ≡ read_answer (record_cells rs) j
    record_read r e =
        let inner : i < length (take max_registers rs) = simp length-take (omega (arith, within, limited)) in
        let here : get_or (record_cells rs) i None ≡ Some r = get_or-map Some (take max_registers rs) i r None inner ∙ ap Some (get_or-take max_registers rs i r limited ∙ sym e) in
        sym (reads (record_cells rs) j low high ∙ ap (λ k. cell_answer (get_or (record_cells rs) k None)) back ∙ ap cell_answer here)

    -- after an accepted write
    module _ (f : Fields V) (r : Record V) (e : Some r ≡ made f) where
      pub record_written : set rs i r ≡ write_records rs j f
      record_written = ap (λ k. set rs k r) (sym back) ∙ sym (cond-true _ _ _ (stands_true (length (record_cells rs)) j low high) ∙ ap (made_records rs j) (sym e))

      pub record_after : record_cells (set rs i r) ≡ write_cells (record_cells rs) j f
      record_after = record_set i r limited ∙ ap (λ k. set (record_cells rs) k (Some r)) (sym back) ∙ sym (writes_cells (record_cells rs) j low high f ∙ ap (made_cells (record_cells rs) j) (sym e))

      pub record_size : length (record_cells (set rs i r)) ≡ length (record_cells rs)
      record_size = ap length record_after ∙ write_length (record_cells rs) j f

      pub record_rest : drop max_registers (set rs i r) ≡ drop max_registers rs
      record_rest = drop-set-lt max_registers rs i r limited
