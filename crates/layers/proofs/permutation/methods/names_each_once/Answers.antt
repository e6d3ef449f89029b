-- A register that is not named once refuses the list; at the end each one is.
use Rattle.std.proofs.Common.{◌≡◌, ◌+◌, ◌<◌, true, eqb, length, get_or, ap, sym, ◌∙◌, arith}
use Rattle.std.specs.List.{list_all, range_with_len}
use Rattle.std.proofs.lemmas.List.{take_all}
use Rattle.std.proofs.lemmas.Bool.{eq-eqb, ne_eqb}
use Rattle.std.proofs.lemmas.List.Folds.{list_all_at, list_all_more}
use Rattle.std.proofs.lemmas.List.FromFn.{get_or-range_with_len, length-range_with_len}
use Rattle.layers.specs.Permutations.{times}
use Rattle.layers.proofs.permutation.methods.names_each_once.Goals as goal

pub returns-then-count_named-ne1 : goal.returns-then-count_named-ne1
returns-then-count_named-ne1 c =
    let xs = c.args.list.now in
    let k = c.loop-k.k in
    let h : c.loop-k.k < length c.args.list.now = omega arith in
    let at : get_or (range_with_len 1 (length xs)) k 0 ≡ k + 1 = omega (arith, get_or-range_with_len 1 (length xs) k 0 h) in
    let no : eqb (times (k + 1) xs) 1 ≡ _ = ne_eqb (times (k + 1) xs) 1 (λ e. c.if-count_named-ne1.true (c.count_named.ensures ∙ e)) in
    sym (list_all_at (λ j. eqb (times j xs) 1) (range_with_len 1 (length xs)) k 0 (omega (arith, h, length-range_with_len 1 (length xs))) (ap (λ j. eqb (times j xs) 1) at ∙ no))

pub loop-k-preserved : goal.loop-k-preserved
loop-k-preserved c =
    let xs = c.args.list.now in
    let k = c.loop-k.k in
    let h : c.loop-k.k < length c.args.list.now = omega arith in
    let at : get_or (range_with_len 1 (length xs)) k 0 ≡ k + 1 = omega (arith, get_or-range_with_len 1 (length xs) k 0 h) in
    let yes : eqb (times (k + 1) xs) 1 ≡ true = eq-eqb (times (k + 1) xs) 1 (sym c.count_named.ensures ∙ c.if-count_named-ne1.false) in
    let more = list_all_more (λ j. eqb (times j xs) 1) (range_with_len 1 (length xs)) k 0 (omega (arith, h, length-range_with_len 1 (length xs))) in
    grind (arith, more, at, yes, c.loop-k.invariant)

pub returns : goal.returns
returns c =
    let xs = c.args.list.now in
    sym c.loop-k.invariant ∙ ap (list_all (λ j. eqb (times j xs) 1)) (take_all c.loop-k.k (range_with_len 1 (length xs)) (omega (arith, length-range_with_len 1 (length xs))))
