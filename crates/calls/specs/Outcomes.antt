-- The word of each outcome.
use Rattle.std.specs.Prelude.{ℕ, List, codes}
use Rattle.calls.specs.declared.outcome.Outcome.{Outcome}
use Rattle.calls.specs.declared.outcome.Outcome.TheVariants.{Begun, Read, Failed, Ready, Put, Adopted, Decided}

abbrev pub outcome_word : Outcome → List ℕ
outcome_word Begun = codes "begun"
outcome_word Read = codes "read"
outcome_word Failed = codes "failed"
outcome_word Ready = codes "ready"
outcome_word Put = codes "put"
outcome_word Adopted = codes "adopted"
outcome_word Decided = codes "decided"
