-- The fields of a record are lawful and make it again.
use Rattle.std.proofs.Common.{refl}
use Rattle.registers.proofs.Making.{made_back, lawful}
use Rattle.registers.proofs.record.Record.fields.Goals as goal

pub returns : goal.returns
returns g c = let r = c.args.self.now in record { value = refl; back = made_back r; lawful = lawful r }
