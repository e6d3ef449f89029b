-- The number in decimal reads back.
use Rattle.std.proofs.Common.{rules}
use Rattle.batches.proofs.BatchLaws.{back_batch_text}
use Rattle.batches.proofs.batch.BatchKind.append_text.Goals as goal

pub returns-clause-back : goal.returns-clause-back
returns-clause-back c = back_batch_text c.args.self (search rules)
