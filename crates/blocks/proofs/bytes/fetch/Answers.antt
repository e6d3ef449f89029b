-- A read decodes the block of its register.
use Rattle.std.proofs.Common.{◌≡◌, ◌<◌, length, ◌+◌, ◌-◌, ◌*◌, Some, None, refl, ap, ◌∙◌, arith}
use Rattle.std.specs.Option.{ok_or}
use Rattle.registers.specs.Cells.{Cell, cell_answer}
use Rattle.registers.specs.Refusals.{numbered}
use Rattle.registers.specs.declared.refusal.Refusal.TheVariants.{Unreadable}
use Rattle.blocks.specs.Layout.{block_len}
use Rattle.blocks.specs.BlockCells.{block_cells}
use Rattle.blocks.proofs.BlockBanks.{blocks_read}
use Rattle.blocks.proofs.bytes.fetch.Goals as goal

-- a block that is no record's is an unreadable cell
answered : {V : Type 0} (o : Cell V) → numbered (ok_or o Unreadable) ≡ cell_answer o
answered None = refl
answered (Some r) = refl

pub returns : goal.returns
returns g c =
    let i = c.in_ok-at.field-0 in
    let found = c.in_ok-at.ensures.found in
    let inside : c.in_ok-at.field-0 < length (block_cells g.K.Kind.of_image c.args.bytes.now) = omega (arith, found.0) in
    ap numbered c.ok_or.ensures.value
    ∙ answered c.decode.result
    ∙ ap cell_answer c.decode.ensures.value
    ∙ blocks_read g.K.Kind.of_image c.args.bytes.now i c.args.register (block_len * i + block_len - block_len * i) inside found.1 (omega arith)
