-- A place that names the register counts one more, and another none.
use Rattle.std.proofs.Common.{◌<◌, eqb, length, get_or, arith}
use Rattle.std.proofs.lemmas.List.Sums.{count_by_more_yes, count_by_more_no}
use Rattle.std.proofs.lemmas.Bool.{eq-eqb, ne_eqb}
use Rattle.layers.proofs.permutation.methods.count_named.Goals as goal
use Rattle.layers.proofs.permutation.methods.count_named.Goals.{then-place-register, else-place-register}

pub loop-place-preserved : goal.loop-place-preserved
loop-place-preserved c =
    let xs = c.args.list.now in
    let j = c.args.register in
    let i = c.loop-place.place-index in
    let h : c.loop-place.place-index < length c.args.list.now = omega arith in
    elim c.if-place-register.branch [
      | then-place-register w ↦ (omega (arith, w.n-is, count_by_more_yes (λ x. eqb x j) xs i 0 h (eq-eqb (get_or xs i 0) j w.if-place-register.true)), omega (arith, w.n-is))
      | else-place-register w ↦ (omega (arith, w.n-is, count_by_more_no (λ x. eqb x j) xs i 0 h (ne_eqb (get_or xs i 0) j w.if-place-register.false)), omega (arith, w.n-is))
    ]
