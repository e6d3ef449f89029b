-- What is written, and the lines still to come.
use Rattle.std.proofs.Common.{◌≡◌, ◌-◌, ◌++◌, length, drop, string_bytes}
use Rattle.report.specs.Lines.{register_lines, size_row}
use Rattle.report.proofs.view.report.Given as goal

-- what is written, with the lines of this register and those after it, is all lines but the last
abbrev pub invariant-loop-register : goal.invariant-loop-register
invariant-loop-register g l =
    let cs = g.B.ReadBank.cells l.bank in
    let t = g.K.Kind.text_of in
    string_bytes l.out ++ register_lines t l.register (drop (l.register - 1) cs) ≡ size_row (length cs) ++ register_lines t 1 cs
