-- The cells that a permutation shows, and how they follow a write of one of them below.
use Rattle.std.proofs.Common.{◌≡◌, ℕ, ◌-◌, ◌<◌, ◌≤◌, List, map, length, get_or, set, None, Some, Option, refl, arith, length-set}
use Rattle.std.proofs.lemmas.Bool.Decides.{nat_tests}
use Rattle.std.proofs.lemmas.Grind.{common_steps, elements}
use Rattle.std.proofs.lemmas.List.{ext_get_or, get_or-map, length-map}
use Rattle.registers.specs.Cells.{Cell, made_cells, write_cells}
use Rattle.registers.specs.declared.record.Fields.{Fields}
use Rattle.registers.specs.declared.record.Record.{Record}
use Rattle.registers.specs.Records.{made}
use Rattle.layers.specs.declared.permutation.Permutation.{Permutation}
use Rattle.layers.specs.Permuting.{named, permuted_place, permuted_cells}
use Rattle.layers.proofs.Naming.{lawful_permutes}

pub placed : (p : Permutation) (i : ℕ) → i < length (named p) → (1 ≤ get_or (named p) i 0) × (get_or (named p) i 0 ≤ length (named p))
placed p i h = let s = lawful_permutes p in (s.low i h, s.high i h)

abbrev under : {X : Type 0} → List (Option X) → ℕ → Option X
under cells at = get_or cells (at - 1) None

-- two places name the same register below only where they are the same
under_set : {X : Type 0} (cells : List (Option X)) (p : Permutation) (i k : ℕ) (x : Option X) → length (named p) ≡ length cells → i < length (named p) → k < length (named p) → under (set cells (get_or (named p) i 0 - 1) x) (get_or (named p) k 0) ≡ get_or (set (map (under cells) (named p)) i x) k None
under_set cells p i k x whole h q =
    let s = (lawful_permutes p).apart i k h q in
    let b = placed p i h in
    let d = placed p k q in
    grind (arith, common_steps, elements, get_or-map (under cells) (named p) k 0 None q)

permuted_set : {X : Type 0} (cells : List (Option X)) (p : Permutation) (i : ℕ) (x : Option X) → length (named p) ≡ length cells → i < length (named p) → map (under (set cells (get_or (named p) i 0 - 1) x)) (named p) ≡ set (map (under cells) (named p)) i x
permuted_set cells p i x whole h =
    let after = under (set cells (get_or (named p) i 0 - 1) x) in
    ext_get_or None (map after (named p)) (set (map (under cells) (named p)) i x) (grind (arith, common_steps)) (λ k q. grind (arith, get_or-map after (named p) k 0 None, under_set cells p i k x whole h, length-map (named p) after))

-- what a place that the permutation has says
record Placed (p : Permutation) (n j at : ℕ) : Type 0 where
  pub whole : length (named p) ≡ n
  pub low : 1 ≤ j
  pub high : j ≤ n
  pub is : at ≡ get_or (named p) (j - 1) 0
  pub at_low : 1 ≤ at
  pub at_high : at ≤ n

is_placed : (p : Permutation) (n j at : ℕ) → Some at ≡ permuted_place (named p) n j → Placed p n j at
is_placed p n j at e = grind (arith, nat_tests, placed)

-- the view follows a write of what it shows
module _ {V : Type 0} (cells : List (Cell V)) (p : Permutation) (j at : ℕ) (e : Some at ≡ permuted_place (named p) (length cells) j) where
  made_shown : (o : Option (Record V)) → permuted_cells (made_cells cells at o) (named p) ≡ made_cells (permuted_cells cells (named p)) j o
  made_shown None = refl
  made_shown (Some r) =
      let s = is_placed p (length cells) j at e in
      grind (arith, nat_tests, permuted_set cells p (j - 1) (Some r) s.whole (omega arith), length-set cells (at - 1) (Some r))

  pub permuted_write : (f : Fields V) → permuted_cells (write_cells cells at f) (named p) ≡ write_cells (permuted_cells cells (named p)) j f
  permuted_write f =
      let s = is_placed p (length cells) j at e in
      grind (arith, nat_tests, common_steps, made_shown (made f))
