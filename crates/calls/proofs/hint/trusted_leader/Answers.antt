-- The worker behind the lowest ones of the mask leads. That the ones counted are those of the mask is left to arithmetic, so that a mask
-- which is put together in numbers is refused for what it is, and not for how it is written.
use Rattle.std.proofs.Common.{◌≡◌, ap, ◌∙◌, w8, arith}
use Rattle.std.specs.Int.{trailing_ones}
use Rattle.calls.proofs.Leading.{leads}
use Rattle.calls.proofs.hint.trusted_leader.Goals as goal

pub returns : goal.returns
returns c =
    let ones : c.trailing_ones.result ≡ trailing_ones w8 c.args.suspects = c.trailing_ones.ensures ∙ ap (trailing_ones w8) (omega arith) in
    let h = leads c.args.suspects c.args.workers c.trailing_ones.result (omega arith) ones c.then_some.result c.then_some.ensures in
    record { value = h.0; least = h.1 }
