-- Bytes that are read as an absent value are zeros.
use Rattle.std.proofs.Common.{◌≡◌, Bool, true, false, List, ℕ, length, Some, None, Option, sym, ap, ◌∙◌, arith}
use Rattle.std.specs.Bool.{then_some}
use Rattle.std.proofs.lemmas.Option.{none-some}
use Rattle.blocks.specs.Layout.{all_zero}
use Rattle.blocks.specs.Blocks.{value_bytes}
use Rattle.blocks.proofs.Places.{eight_zeros}
use Rattle.blocks.proofs.block.read_value.Goals as goal

-- bytes that are read as an absent value are zeros
absent : {V : Type 0} (image_of : V → List ℕ) (xs : List ℕ) (b : Bool) (v : Option V) → length xs ≡ 8 → b ≡ all_zero xs → then_some b None ≡ Some v → xs ≡ value_bytes image_of v
absent image_of xs false v h e p = absurd (none-some _ p)
absent image_of xs true v h e p = let same : None ≡ v = cc in eight_zeros xs h (sym e) ∙ ap (value_bytes image_of) same

pub returns-in-None-clause-only : goal.returns-in-None-clause-only
returns-in-None-clause-only g c = λ v e. absent g.K.Kind.image_of c.args.image c.is_zero.result v (omega arith) c.is_zero.ensures (sym c.then_some.ensures ∙ e)
