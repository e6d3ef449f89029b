-- Each register before this turn's is named once.
use Rattle.std.proofs.Common.{◌≡◌, true, eqb, length, take}
use Rattle.std.specs.List.{list_all, range_with_len}
use Rattle.layers.specs.Permutations.{times}
use Rattle.layers.proofs.permutation.methods.names_each_once.Given as goal

abbrev pub invariant-loop-k : goal.invariant-loop-k
invariant-loop-k l = list_all (λ j. eqb (times j l.list) 1) (take l.k (range_with_len 1 (length l.list))) ≡ true
