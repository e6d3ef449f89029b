-- A block is read by its parts, and one that reads as a record is that record's.
use Rattle.std.proofs.Common.{rules, ◌≡◌, true, Some, sym, refl, ◌∙◌}
use Rattle.std.specs.Result.{result_ok}
use Rattle.registers.specs.declared.record.Fields.{Fields}
use Rattle.blocks.specs.Layout.{is_laid}
use Rattle.blocks.proofs.Places.{is_laid_by}
use Rattle.blocks.proofs.RoundTrip.{decodes_some, encodes}
use Rattle.blocks.proofs.block.decode.Goals as goal

pub returns : goal.returns
returns g c =
    let k = g.K.Kind in
    let b = c.args.block.now in
    let t = c.in_ok-tag.tag in
    let v = c.in_ok-value.value in
    let f : Fields _ = record { round = c.word-round.result; accepted = c.word-accepted.result; tag = c.in_ok-tag.tag; value = c.in_ok-value.value } in
    let whole : is_laid c.args.block.now ≡ true = is_laid_by c.args.block.now c.if-block-ne-BLOCK_LEN.false (search rules) (search rules) (search rules) in
    let read : result_ok c.try_from.result ≡ Some c.in_ok-tag.tag = sym c.ok.ensures.value ∙ c.in_ok-tag.was in
    let known = sym read ∙ c.try_from.ensures.value in
    let value = sym c.in_ok-value.was ∙ c.read_value.ensures.value in
    record {
      value = c.new.ensures.value ∙ decodes_some k.of_image b whole t known c.image.result c.image.ensures f c.word-round.ensures.value c.word-accepted.ensures.value refl value;
      only = λ x e. encodes k.of_image b whole t known c.image.result c.image.ensures f c.word-round.ensures.value c.word-accepted.ensures.value refl k.image_of x (sym c.new.ensures.value ∙ e) (c.try_from.ensures.only t read) c.word-round.ensures.bytes c.word-accepted.ensures.bytes (c.read_value.ensures.only v c.in_ok-value.was);
    }
