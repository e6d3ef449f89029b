-- What a bank answers and holds after a write, at a register that stands and at one that does not.
use Rattle.std.proofs.Common.{◌≡◌, ℕ, ◌-◌, ◌≤◌, true, false, leb, ◌⊎◌, List, length, get_or, Some, None, Option, refl, ap, ◌∙◌, inl, inr, length-set}
use Rattle.std.proofs.lemmas.Bool.{le-leb, and_from, cases_Bool, cond-true, cond-false}
use Rattle.registers.specs.declared.record.Fields.{Fields}
use Rattle.registers.specs.declared.record.Record.{Record}
use Rattle.registers.specs.Records.{made}
use Rattle.registers.specs.Cells.{Cell, stands, cell_answer, read_answer, made_answer, write_answer, made_cells, write_cells}

pub stands_true : (n j : ℕ) → 1 ≤ j → j ≤ n → stands n j ≡ true
stands_true n j p q = and_from (leb 1 j) (leb j n) (le-leb 1 j p) (le-leb j n q)

module _ {V : Type 0} (cells : List (Cell V)) (j : ℕ) where
  module _ (low : 1 ≤ j) (high : j ≤ length cells) where
    pub reads : read_answer cells j ≡ cell_answer (get_or cells (j - 1) None)
    reads = cond-true _ _ _ (stands_true (length cells) j low high)

    pub writes_answer : (f : Fields V) → write_answer cells j f ≡ made_answer (made f)
    writes_answer f = cond-true _ _ _ (stands_true (length cells) j low high)

    pub writes_cells : (f : Fields V) → write_cells cells j f ≡ made_cells cells j (made f)
    writes_cells f = cond-true _ _ _ (stands_true (length cells) j low high)

  -- a write keeps the size
  made_length : (o : Option (Record V)) → length (made_cells cells j o) ≡ length cells
  made_length None = refl
  made_length (Some r) = length-set cells (j - 1) (Some r)

  pub write_length : (f : Fields V) → length (write_cells cells j f) ≡ length cells
  write_length f = by (cases_Bool (stands (length cells) j))
    where
      by : ((stands (length cells) j ≡ true) ⊎ (stands (length cells) j ≡ false)) → length (write_cells cells j f) ≡ length cells
      by (inl e) = ap length (cond-true _ (made_cells cells j (made f)) cells e) ∙ made_length (made f)
      by (inr e) = ap length (cond-false _ (made_cells cells j (made f)) cells e)
