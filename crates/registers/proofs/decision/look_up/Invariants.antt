-- No register before this one is decided or unreadable.
use Rattle.std.proofs.Common.{◌≡◌, ◌-◌, drop}
use Rattle.registers.specs.Decision.{shown, UndecidedBefore}
use Rattle.registers.proofs.decision.look_up.Given as goal

-- the registers before this one are undecided, so what the bank shows is what it and those after it show
abbrev pub invariant-loop-register : goal.invariant-loop-register
invariant-loop-register g l =
    let cs = g.B.ReadBank.cells l.bank in
    (shown cs ≡ shown (drop (l.register - 1) cs)) × UndecidedBefore cs (l.register - 1)
