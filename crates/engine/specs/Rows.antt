-- A row of workers by their states, which is all that a worker is.
use Rattle.std.specs.Prelude.{List, map}
use Rattle.protocol.specs.declared.state.State.{State}
use Rattle.engine.specs.declared.worker.Worker.{Worker}

abbrev pub states : {V : Type 0} → List (Worker V) → List (State V)
states workers = map (λ w. w.state) workers
