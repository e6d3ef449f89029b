-- The block of a record reads back as it.
use Rattle.std.proofs.Common.{◌≡◌, length, sym, ap, ◌∙◌, subst, arith, rules}
use Rattle.blocks.specs.Blocks.{value_bytes, ImagedBack, encoded, decoded}
use Rattle.blocks.proofs.RoundTrip.{round_trip}
use Rattle.blocks.proofs.block.encode.Goals as goal

pub returns-clause-back : goal.returns-clause-back
returns-clause-back g c =
    let k = g.K.Kind in
    let x = c.args.item.now in
    let same = c.fields-fields.ensures.value in
    let bytes : c.lay.result ≡ encoded k.image_of x = search rules in
    let value : c.value_image.result ≡ value_bytes k.image_of x.fields.value = search rules in
    let eight : length c.value_image.result ≡ 8 = omega arith in
    ap (decoded k.of_image) bytes ∙ round_trip k.of_image k.image_of x (subst (λ f. ImagedBack k.image_of k.of_image f.value) same c.value_image.ensures.back) (ap length (sym value) ∙ eight)
