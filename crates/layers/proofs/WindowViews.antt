-- The cells that a window shows follow a write of one of them below.
use Rattle.std.proofs.Common.{◌≡◌, ℕ, ◌+◌, ◌-◌, ◌≤◌, List, take, drop, set, length, Some, None, Option, refl, arith, length-set}
use Rattle.std.proofs.lemmas.Bool.Decides.{nat_tests}
use Rattle.std.proofs.lemmas.Grind.{common_steps}
use lib.Seq.{take-set-lt, drop-set-add}
use Rattle.registers.specs.Cells.{Cell, made_cells, write_cells}
use Rattle.registers.specs.declared.record.Fields.{Fields}
use Rattle.registers.specs.declared.record.Record.{Record}
use Rattle.registers.specs.Records.{made}
use Rattle.layers.specs.Windows.{window_place, window_cells}

window_set : {X : Type 0} (cells : List X) (first count j i : ℕ) (x : X) → 1 ≤ first → 1 ≤ j → j ≤ count → i ≡ first + (j - 1) - 1 → take count (drop (first - 1) (set cells i x)) ≡ set (take count (drop (first - 1) cells)) (j - 1) x
window_set cells first count j i x one low high is =
    let at : i ≡ first - 1 + (j - 1) = omega arith in
    rw (at, drop-set-add) (take-set-lt count (drop (first - 1) cells) (j - 1) x (omega arith))

-- the view follows a write of what it shows
module _ {V : Type 0} (cells : List (Cell V)) (first count j at : ℕ) (e : Some at ≡ window_place (length cells) first count j) where
  made_shown : (o : Option (Record V)) → window_cells (made_cells cells at o) first count ≡ made_cells (window_cells cells first count) j o
  made_shown None = refl
  made_shown (Some r) = grind (arith, nat_tests, window_set, length-set cells (at - 1) (Some r))

  pub window_write : (f : Fields V) → window_cells (write_cells cells at f) first count ≡ write_cells (window_cells cells first count) j f
  window_write f = grind (arith, nat_tests, common_steps, made_shown (made f))
