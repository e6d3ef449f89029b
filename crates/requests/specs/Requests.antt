-- What the arguments ask to see.
use Rattle.std.specs.Prelude.{ℕ, List, Some, None, Option}
use Rattle.decimals.specs.Decimals.{read_decimal}
use Rattle.kinds.specs.declared.name.KindName.{KindName}
use Rattle.kinds.specs.KindNames.{kind_of}
use Rattle.requests.specs.declared.Request.{Request}

abbrev pub whole : Option KindName → Option Request
whole None = None
whole (Some k) = Some (record { kind = k; span = None })

abbrev pub request_of : List ℕ → Option Request
request_of kind = whole (kind_of kind)

abbrev pub windowed : Option KindName → Option ℕ → Option ℕ → Option Request
windowed None first count = None
windowed (Some k) None count = None
windowed (Some k) (Some first) None = None
windowed (Some k) (Some first) (Some count) = Some (record { kind = k; span = Some (record { first = first; count = count }) })

abbrev pub window_request_of : List ℕ → List ℕ → List ℕ → Option Request
window_request_of kind first count = windowed (kind_of kind) (read_decimal first) (read_decimal count)
