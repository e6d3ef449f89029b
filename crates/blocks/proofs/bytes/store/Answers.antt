-- A write puts the record's block in the place of its register.
use Rattle.std.proofs.Common.{◌≡◌, ◌+◌, ◌-◌, ◌*◌, ◌<◌, length, Some, ap, ◌∙◌, arith, rules}
use Rattle.registers.specs.Records.{made}
use Rattle.blocks.specs.Layout.{block_len}
use Rattle.blocks.specs.Blocks.{encoded, decoded}
use Rattle.blocks.specs.BlockCells.{block_count}
use Rattle.blocks.proofs.BlockBanks.{stored_answer, stored_bytes, stored_after, stored_size, stored_rest}
use Rattle.blocks.proofs.bytes.store.Goals as goal

pub returns : goal.returns
returns g c =
    let draw = g.K.Kind.image_of in
    let see = g.K.Kind.of_image in
    let bs = c.args.bytes.now in
    let ys = c.copy_from_slice.new.self in
    let i = c.in_ok-at.field-0 in
    let j = c.args.register in
    let f = c.args.fields.now in
    let k = block_len * c.in_ok-at.field-0 + block_len - block_len * c.in_ok-at.field-0 in
    let r = c.in_ok-item.item in
    let found = c.in_ok-at.ensures.found in
    let within : c.in_ok-at.field-0 < block_count (length c.args.bytes.now) = omega (arith, found.0) in
    let e : Some c.in_ok-item.item ≡ made c.args.fields.now = search rules in
    let full : k ≡ block_len = omega arith in
    let is : c.copy_from_slice.new.self ≡ encoded g.K.Kind.image_of c.in_ok-item.item = c.copy_from_slice.ensures.after ∙ c.encode.ensures.bytes in
    let sized : length c.copy_from_slice.new.self ≡ block_len = omega (arith, ap length c.copy_from_slice.ensures.after) in
    let back : decoded g.K.Kind.of_image c.copy_from_slice.new.self ≡ _ = ap (decoded g.K.Kind.of_image) c.copy_from_slice.ensures.after ∙ c.encode.ensures.back in
    record {
      answer = stored_answer draw see bs ys i j k f r e full within found.1 is sized back;
      bytes = stored_bytes draw see bs ys i j k f r e full within found.1 is sized back;
      after = stored_after draw see bs ys i j k f r e full within found.1 is sized back;
      size = stored_size draw see bs ys i j k f r e full within found.1 is sized back;
      rest = stored_rest draw see bs ys i j k f r e full within found.1 is sized back;
    }
