-- The registers before this one are blank.
use Rattle.std.proofs.Common.{◌≡◌, ℕ, ◌+◌, ◌<◌, length, get_or, Some}
use Rattle.registers.specs.Records.{blank}
use Rattle.registers.specs.Cells.{Cell}
use Rattle.engine.proofs.instance.clear.Given as goal

-- the registers so far are blank, and there are as many as before
abbrev pub invariant-loop-register : goal.invariant-loop-register
invariant-loop-register g l = record {
  same_size : length (g.B.ReadBank.cells l.bank) ≡ l.size;
  cleared : (k : ℕ) (d : Cell g.row.V.Denot) → k + 1 < l.register → get_or (g.B.ReadBank.cells l.bank) k d ≡ Some blank;
  same_rest : g.B.WriteBank.rest l.bank ≡ g.B.WriteBank.rest l.initial.bank;
}
