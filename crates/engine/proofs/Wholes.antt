-- A call on the whole row: where it reaches its worker, and what every step leaves true.
use Rattle.std.proofs.Common.{◌≡◌, ℕ, ◌-◌, ◌<◌, true, List, length, get_or, set, Some, None, Ok, Err, Option, Result, sym, refl, ap, ◌∙◌, subst, arith}
use Rattle.std.specs.List.{slice_get}
use Rattle.std.proofs.lemmas.Bool.{cond_both}
use Rattle.std.proofs.lemmas.Bool.Decides.{nat_tests}
use Rattle.registers.specs.Cells.{Cell, stands}
use Rattle.calls.specs.declared.hint.Hint.{Hint}
use Rattle.calls.specs.declared.outcome.Effect.{Effect}
use Rattle.calls.specs.declared.refusal.CallRefusal.{CallRefusal}
use Rattle.calls.specs.declared.refusal.CallRefusal.TheVariants.{Size, NoWorker, Bank}
use Rattle.calls.specs.CallRefusals.{call_refusal_number, call_numbered}
use Rattle.protocol.specs.declared.state.State.{State}
use Rattle.actions.specs.Actions.{After, reading}
use Rattle.engine.specs.declared.worker.Worker.{Worker}
use Rattle.engine.specs.Steps.{Whole, is_row, sizes_fit, is_at, row_answer, sizes_answer, place_answer, worker_step, unchanged, in_place, step_at, step_whole}
use Rattle.engine.specs.Instances.{Row, Proposal, row_unchanged, first_proposal, worker_propose, propose_at, propose_row}
use Rattle.engine.specs.StepLaws.{Later, StepLaw, OnlyUnreadable, RowKept, Kept}
use Rattle.engine.specs.Rows.{states}
use Rattle.engine.proofs.Rows.{slice_get-set_other, slice_get-set_same, set-slice_get, states_length, states_nth, states_sound}
use Rattle.engine.proofs.Stepping.{Stays, worker_fine}

module _ {V : Type 0} (ws : List (Worker V)) (i : ℕ) where
  -- the worker of a number that a row has
  module _ (k : ℕ) (e : place_answer i (length ws) ≡ Ok k) (d : Worker V) where
    abbrev w : Worker V
    w = get_or ws k d

    stands_here : stands (length (states ws)) i ≡ true
    stands_here = grind (arith, nat_tests, states_length)

    pub within : k < length ws
    within = grind (arith, nat_tests)

    before : k ≡ i - 1
    before = grind (arith, nat_tests)

    found : slice_get (states ws) (i - 1) ≡ Some w.state
    found = ap (slice_get (states ws)) (sym before) ∙ states_nth ws k d within

    pub step_here : (size : ℕ) (cells : List (Cell V)) (h : Hint) → size ≡ length cells → sizes_answer size (length ws) ≡ Ok tt
        → in_place (worker_step h w.state i (length ws) cells) (states ws) k ≡ step_whole (states ws) cells i h
    step_here size cells h p q =
        grind (arith, nat_tests, states_length, stands_here, found, before)

    abbrev pub proposed_row : V → Row (Unit {0}) V
    proposed_row v = record { answer = (worker_propose w.state i (length ws) v).answer; states = set (states ws) k (worker_propose w.state i (length ws) v).state }

    pub propose_here : (v : V) → row_answer (length ws) ≡ Ok tt → proposed_row v ≡ propose_row (states ws) i v
    propose_here v q =
        grind (arith, nat_tests, states_length, stands_here, found, before)

  -- a call that is refused before it reaches a worker
  pub propose_size : (v : V) (r : Result (Unit {0}) CallRefusal) (e : CallRefusal) → call_numbered r ≡ row_answer (length ws) → r ≡ Err e → row_unchanged e (states ws) ≡ propose_row (states ws) i v
  propose_size v r e p q = grind (arith, nat_tests, states_length)

  pub propose_nowhere : (v : V) (r : Result ℕ CallRefusal) (e : CallRefusal) → row_answer (length ws) ≡ Ok tt → call_numbered r ≡ place_answer i (length ws) → r ≡ Err e → row_unchanged e (states ws) ≡ propose_row (states ws) i v
  propose_nowhere v r e o p q = grind (arith, nat_tests, states_length)

  pub step_size : (size : ℕ) (cells : List (Cell V)) (h : Hint) → size ≡ length cells → (r : Result (Unit {0}) CallRefusal) (e : CallRefusal) → call_numbered r ≡ sizes_answer size (length ws) → r ≡ Err e → unchanged e (states ws) cells ≡ step_whole (states ws) cells i h
  step_size size cells h z r e p q = grind (arith, nat_tests, states_length)

  pub step_nowhere : (size : ℕ) (cells : List (Cell V)) (h : Hint) → size ≡ length cells → (r : Result ℕ CallRefusal) (e : CallRefusal) → sizes_answer size (length ws) ≡ Ok tt → call_numbered r ≡ place_answer i (length ws) → r ≡ Err e → unchanged e (states ws) cells ≡ step_whole (states ws) cells i h
  step_nowhere size cells h z r e o p q = grind (arith, nat_tests, states_length)

  -- a refused proposal leaves the row
  module _ (v : V) where
    abbrev ProposedKept : Row (Unit {0}) V → Type 0
    ProposedKept r = RowKept r.answer (states ws) r.states

    abbrev placed : Proposal V → Row (Unit {0}) V
    placed p = record { answer = p.answer; states = set (states ws) (i - 1) p.state }

    first_kept : (s : State V) (o : Option V) → slice_get (states ws) (i - 1) ≡ Some s → ProposedKept (placed (first_proposal o s v))
    first_kept s None e = tt
    first_kept s (Some p) e = set-slice_get (states ws) (i - 1) s e

    at_kept : (o : Option (State V)) → slice_get (states ws) (i - 1) ≡ o → ProposedKept (propose_at o (states ws) i v)
    at_kept None e = refl
    at_kept (Some s) e =
        let same = set-slice_get (states ws) (i - 1) s e in
        cond_both (is_at s i (length (states ws))) _ _ (λ p. ProposedKept (placed p))
        (λ _. cond_both s.crashed _ _ (λ p. ProposedKept (placed p)) (λ _. same) (λ _. first_kept s s.proposal e))
        (λ _. same)

    row_kept : ProposedKept (propose_row (states ws) i v)
    row_kept =
        cond_both (is_row (length (states ws))) _ _ ProposedKept
        (λ _. cond_both (stands (length (states ws)) i) _ _ ProposedKept (λ _. at_kept _ refl) (λ _. refl))
        (λ _. refl)

    pub propose_kept : (r : Result (Unit {0}) ℕ) (states' : List (State V)) → r ≡ (propose_row (states ws) i v).answer → states' ≡ (propose_row (states ws) i v).states → RowKept r (states ws) states'
    propose_kept r states' p q = subst (λ z. RowKept z (states ws) states') (sym p) (subst (RowKept _ (states ws)) (sym q) row_kept)

  module _ (cells : List (Cell V)) (h : Hint) where
    -- what the contract of a step says of it besides its definition
    pub record Laws (w : Whole (Effect V) V) : Type 0 where
      pub kept : Kept w.answer (states ws) w.states cells w.cells
      pub law : StepLaw i (states ws) w.states cells w.cells
      pub unreadable : OnlyUnreadable w.answer (states ws) cells i h

    unchanged_laws : (e : CallRefusal) → (call_refusal_number e ≡ call_refusal_number Bank → ⊥) → Laws (unchanged e (states ws) cells)
    unchanged_laws e other = record {
      kept = (refl, refl);
      law = record {
        workers = λ j n. refl;
        registers = λ j n. refl;
        onward = λ s s' p q. let same : s ≡ s' = cc in subst (Later s) same (record { seen = omega arith; round = omega arith; decision = λ v d. d });
      };
      unreadable = λ q. absurd (other cc);
    }

    kept_in_place : (s : State V) (a : After V) → slice_get (states ws) (i - 1) ≡ Some s → (r : Result (Effect V) ℕ) → Stays r s a.state cells a.cells → Kept r (states ws) (set (states ws) (i - 1) a.state) cells a.cells
    kept_in_place s a e (Ok x) st = tt
    kept_in_place s a e (Err x) st = (ap (set (states ws) (i - 1)) st.0 ∙ set-slice_get (states ws) (i - 1) s e, st.1)

    at_laws : (n : ℕ) → n ≡ length cells → (s : State V) → slice_get (states ws) (i - 1) ≡ Some s → Laws (in_place (worker_step h s i n cells) (states ws) (i - 1))
    at_laws n sized s e =
        let a = worker_step h s i n cells in
        let fine = worker_fine s cells (states_sound ws (i - 1) s e) h i n in
        record {
          kept = kept_in_place s a e a.answer fine.stays;
          law = record {
            workers = λ j d. slice_get-set_other (states ws) (i - 1) j a.state d;
            registers = fine.elsewhere;
            onward = λ s₁ s₂ p q.
                let set_here = slice_get-set_same (states ws) (i - 1) a.state s e in
                let first : s ≡ s₁ = cc in
                let second : a.state ≡ s₂ = cc in
                subst (λ z. Later z s₂) first (subst (Later s) second fine.went.later);
          };
          unreadable = λ q s₁ p. let same : s₁ ≡ s = cc in ap (λ z. reading h z cells) same ∙ fine.bank sized q;
        }

    step_at_laws : length (states ws) ≡ length cells → (o : Option (State V)) → slice_get (states ws) (i - 1) ≡ o → Laws (step_at o (states ws) cells i h)
    step_at_laws sized None e = unchanged_laws NoWorker (omega arith)
    step_at_laws sized (Some s) e = at_laws (length (states ws)) sized s e

    pub whole_laws : Laws (step_whole (states ws) cells i h)
    whole_laws =
        cond_both (sizes_fit (length cells) (length (states ws))) _ _ Laws
        (λ f. cond_both (stands (length (states ws)) i) _ _ Laws
        (λ _. step_at_laws (grind (arith, nat_tests)) _ refl)
        (λ _. unchanged_laws NoWorker (omega arith)))
        (λ _. unchanged_laws Size (omega arith))
