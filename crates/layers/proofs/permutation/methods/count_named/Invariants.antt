-- How often the places before this turn's name the register, which is at most how many they are.
use Rattle.std.proofs.Common.{◌≡◌, ◌≤◌, take}
use Rattle.layers.specs.Permutations.{times}
use Rattle.layers.proofs.permutation.methods.count_named.Given as goal

abbrev pub invariant-loop-place : goal.invariant-loop-place
invariant-loop-place l = (l.n ≡ times l.register (take l.place-index l.list)) × (l.n ≤ l.place-index)
