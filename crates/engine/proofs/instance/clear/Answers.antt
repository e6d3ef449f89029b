-- Each turn makes one more register blank.
use Rattle.std.proofs.Common.{ap, ◌∙◌, arith}
use Rattle.registers.specs.Records.{fields_of}
use Rattle.engine.proofs.Opening.{blanked_more, blank_all}
use Rattle.engine.proofs.instance.clear.Goals as goal

pub loop-register-preserved : goal.loop-register-preserved
loop-register-preserved g c =
    let same = c.fields-blank.ensures.value ∙ ap fields_of c.blank.ensures in
    record {
      same_size = c.write.ensures.size ∙ c.loop-register.invariant.same_size;
      cleared = blanked_more _ _ c.loop-register.register _ same (omega arith) (omega arith) c.write.ensures.after c.loop-register.invariant.cleared;
      same_rest = c.write.ensures.rest ∙ c.loop-register.invariant.same_rest;
    }

-- at the last register
pub returns-2-clause-cells : goal.returns-2-clause-cells
returns-2-clause-cells g c =
    let same = c.fields-blank.ensures.value ∙ ap fields_of c.blank.ensures in
    let cleared = blanked_more _ _ c.loop-register.register _ same (omega arith) (omega arith) c.write.ensures.after c.loop-register.invariant.cleared in
    blank_all _ _ (c.write.ensures.size ∙ c.loop-register.invariant.same_size ∙ c.size-size.ensures) (λ k d h. cleared k d (omega arith))
