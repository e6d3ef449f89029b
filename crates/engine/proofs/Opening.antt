-- A row is renewed, and a bank is cleared, register by register.
use Rattle.std.proofs.Common.{◌≡◌, ℕ, ◌+◌, ◌-◌, ◌<◌, ◌≤◌, List, length, get_or, set, Ok, Err, Some, Result, ap, ◌∙◌, arith}
use Rattle.std.proofs.lemmas.Bool.Decides.{nat_tests}
use Rattle.std.proofs.lemmas.List.FromFn.{fill_by_all}
use Rattle.std.proofs.lemmas.List.Edits.{fill_by_more}
use Rattle.registers.specs.declared.record.Fields.{Fields}
use Rattle.registers.specs.Records.{fields_of, blank}
use Rattle.registers.specs.Cells.{Cell, made_cells, write_cells}
use Rattle.registers.proofs.Making.{made_back}
use Rattle.registers.proofs.Answering.{writes_cells}
use Rattle.calls.specs.declared.refusal.CallRefusal.{CallRefusal}
use Rattle.calls.specs.CallRefusals.{call_numbered}
use Rattle.engine.specs.declared.worker.Worker.{Worker}
use Rattle.engine.specs.Steps.{Whole, sizes_answer, unchanged}
use Rattle.engine.specs.Instances.{fresh_states, blank_cells, open_whole}
use Rattle.engine.specs.Rows.{states}
use Rattle.engine.proofs.Rows.{states_length}

module _ {V : Type 0} where
  -- the blank record over a register
  pub blanked : (cells : List (Cell V)) (j : ℕ) (f : Fields V) → f ≡ fields_of blank → 1 ≤ j → j ≤ length cells → write_cells cells j f ≡ set cells (j - 1) (Some blank)
  blanked cells j f e low high = ap (write_cells cells j) e ∙ writes_cells cells j low high (fields_of blank) ∙ ap (made_cells cells j) (made_back blank)

  -- one register more
  pub blanked_more : (cells cells' : List (Cell V)) (j : ℕ) (f : Fields V) → f ≡ fields_of blank → 1 ≤ j → j ≤ length cells → cells' ≡ write_cells cells j f
      → ((k : ℕ) (d : Cell V) → k + 1 < j → get_or cells k d ≡ Some blank) → (k : ℕ) (d : Cell V) → k + 1 < j + 1 → get_or cells' k d ≡ Some blank
  blanked_more cells cells' j f e low high w before k d h =
      let earlier : (m : ℕ) → m < j - 1 → get_or cells m d ≡ Some blank = λ m l. before m d (omega arith) in
      ap (λ row. get_or row k d) (w ∙ blanked cells j f e low high) ∙ fill_by_more (λ _. Some blank) cells (j - 1) d (omega arith) earlier k (omega arith)

  pub blank_all : (cells : List (Cell V)) (n : ℕ) → length cells ≡ n → ((k : ℕ) (d : Cell V) → k < n → get_or cells k d ≡ Some blank) → cells ≡ blank_cells n
  blank_all cells n e all = fill_by_all (λ _. Some blank) cells n (Some blank) e (λ k l. all k (Some blank) l)

  module _ (ws : List (Worker V)) (cells : List (Cell V)) (size : ℕ) (z : size ≡ length cells) where
    pub open_size : (r : Result (Unit {0}) CallRefusal) (e : CallRefusal) → call_numbered r ≡ sizes_answer size (length ws) → r ≡ Err e → unchanged e (states ws) cells ≡ open_whole (states ws) cells
    open_size r e p q = grind (arith, nat_tests, states_length)

    abbrev all_new : ℕ → ℕ → Whole (Unit {0}) V
    all_new m n = record { answer = Ok tt; states = fresh_states m; cells = blank_cells n }

    pub open_here : sizes_answer size (length ws) ≡ Ok tt → all_new (length ws) (length cells) ≡ open_whole (states ws) cells
    open_here o = grind (arith, nat_tests, states_length)
