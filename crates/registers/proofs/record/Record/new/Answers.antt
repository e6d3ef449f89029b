-- Lawful fields make the record.
use Rattle.std.proofs.Common.{sym}
use Rattle.registers.proofs.Making.{made_with}
use Rattle.registers.proofs.record.Record.new.Goals as goal

pub returns-then-is_lawful-clause-value : goal.returns-then-is_lawful-clause-value
returns-then-is_lawful-clause-value g c = sym (made_with c.args.fields _)
