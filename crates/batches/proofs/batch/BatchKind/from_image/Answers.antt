-- An image that reads as a batch is that batch's.
use Rattle.std.proofs.Common.{◌≡◌, Some, sym, ◌∙◌, rules}
use Rattle.batches.specs.BatchForms.{batch_of_image}
use Rattle.batches.proofs.BatchLaws.{only_batch_image}
use Rattle.batches.proofs.batch.BatchKind.from_image.Goals as goal

pub returns-in-0 : goal.returns-in-0
returns-in-0 c =
    let value : Some c.new.result ≡ batch_of_image c.args.image = search rules in
    record {
      value = value;
      only = λ v e. only_batch_image c.args.image (search rules) (search rules) (search rules) (search rules) (search rules) v (sym value ∙ e);
    }
