-- A list that is kept is a permutation.
use Rattle.std.proofs.Common.{◌≡◌, true, arith}
use Rattle.std.proofs.lemmas.Grind.{common_steps}
use lib.Seq.{take-append_seam}
use Rattle.layers.specs.Permutations.{each_once}
use Rattle.layers.proofs.Naming.{permutes}
use Rattle.layers.proofs.permutation.Permutation.new.Goals as goal

pub returns-clause-permutes : goal.returns-clause-permutes
returns-clause-permutes c =
    let xs = c.args.list.now in
    let once : each_once xs ≡ true = grind (arith, common_steps) in
    rw c.copy_from_slice.ensures.after (rw take-append_seam (permutes xs once (omega arith)))
