-- What every step of a sound worker leaves: the worker is sound and went on, no other register changed, a refusal changed nothing, and the
-- bank refused only what it could not read.
use Rattle.std.proofs.Common.{◌≡◌, ℕ, ◌+◌, ◌-◌, ◌<◌, ◌≤◌, true, cond, ltb, List, length, Some, None, Ok, Err, Option, Result, refl, ap, ◌∙◌, subst, arith}
use Rattle.std.specs.Option.{option_map}
use Rattle.std.proofs.lemmas.Bool.{ltb-true, cond_both}
use Rattle.std.proofs.lemmas.Bool.Decides.{nat_tests}
use Rattle.registers.specs.declared.tag.Tag.TheVariants.{Pro, Dec}
use Rattle.registers.specs.declared.record.Fields.{Fields}
use Rattle.registers.specs.declared.record.Record.{Record}
use Rattle.registers.specs.Lawful.{is_lawful}
use Rattle.registers.specs.Records.{fields_of, blank}
use Rattle.registers.specs.Cells.{Cell, made_answer, read_answer, write_answer}
use Rattle.registers.specs.declared.refusal.Refusal.TheVariants.{Unreadable}
use Rattle.registers.specs.Refusals.{refusal_number}
use Rattle.registers.proofs.Making.{made_with}
use Rattle.registers.proofs.Answering.{writes_answer}
use Rattle.calls.specs.declared.hint.Hint.{Hint}
use Rattle.calls.specs.declared.hint.Hint.TheVariants.{Go, Wait}
use Rattle.calls.specs.declared.outcome.Outcome.{Outcome}
use Rattle.calls.specs.declared.outcome.Effect.{Effect}
use Rattle.calls.specs.declared.refusal.CallRefusal.{CallRefusal}
use Rattle.calls.specs.declared.refusal.CallRefusal.TheVariants.{Misplaced, Crashed, NoProposal, Decided as HasDecided, RoundLimit, Bank}
use Rattle.calls.specs.CallRefusals.{call_refusal_number}
use Rattle.protocol.specs.declared.state.Phase.{Phase}
use Rattle.protocol.specs.declared.state.Phase.TheVariants.{Idle, First, Ready, Second, Sure, Decided}
use Rattle.protocol.specs.declared.state.State.{State}
use Rattle.protocol.specs.Rounds.{round_of_worker}
use Rattle.protocol.specs.Turns.{Turn, turn, read_effect, decided_value, raised, adopting, on_read, candidate_of, greater, moved, onward, watch_turn, first_turn, second_turn}
use Rattle.protocol.proofs.RoundLaws.{begun_round}
use Rattle.actions.specs.Actions.{After, refused, accepted, on_write, stored, begun_fields, value_fields, begun_at, looked, acted, reading, register_read, taken}
use Rattle.engine.specs.Sound.{phase_sound, is_sound}
use Rattle.engine.specs.StepLaws.{Later, SameBut}
use Rattle.engine.specs.Steps.{proposing, worker_step, is_at}
use Rattle.engine.proofs.Rows.{slice_get-set_other}

module _ {V : Type 0} where
  -- a refusal leaves the worker and the cells
  abbrev pub Stays : Result (Effect V) ℕ → State V → State V → List (Cell V) → List (Cell V) → Type 0
  Stays (Ok e) s s' cells cells' = Unit {0}
  Stays (Err n) s s' cells cells' = (s' ≡ s) × (cells' ≡ cells)

  -- the worker is sound and went on
  pub record Went (s s' : State V) : Type 0 where
    pub sound : is_sound s' ≡ true
    pub later : Later s s'

  -- what a step of worker i of n leaves, whose read answered `got`
  pub record Fine (i n : ℕ) (s : State V) (cells : List (Cell V)) (got : Result (Record V) ℕ) (a : After V) : Type 0 where
    pub went : Went s a.state
    pub elsewhere : SameBut (i - 1) cells a.cells
    pub stays : Stays a.answer s a.state cells a.cells
    pub bank : n ≡ length cells → a.answer ≡ Err (call_refusal_number Bank) → got ≡ Err (refusal_number Unreadable)

  -- a worker that has not decided, and what a read leaves of it besides its phase
  module _ (s r : State V) (h : is_sound r ≡ true) (open' : (v : V) → s.phase ≡ Decided v → ⊥) (seen : s.seen ≤ r.seen) (round : s.own.round ≤ r.own.round) where
    to : (x : Phase V) → phase_sound r.total r.own.round x ≡ true → Went s (record r { phase = x })
    to x e = record {
      sound = grind (arith, nat_tests);
      later = record { seen = seen; round = round; decision = λ v q. absurd (open' v q) };
    }

    adopted_or : (o : Option V) (e : V → Effect V) (t : State V → Turn V) → Went s (t r).state → Went s (on_read (option_map e o) (adopting o r) (t (adopting o r))).state
    adopted_or None e t w = w
    adopted_or (Some v) e t w = to (Decided v) refl

    goes_on : (k : ℕ) (f : Fields V) (a : ℕ → Phase V) (b : Phase V) (c : V)
        → (k < r.total → phase_sound r.total r.own.round (a (k + 1)) ≡ true) → phase_sound r.total r.own.round b ≡ true
        → Went s (onward r k f a b c).state
    goes_on k f a b c on end =
        cond_both (ltb k r.total) _ _ (λ (t : Turn V). Went s t.state) (λ e. to (a (k + 1)) (on (ltb-true k r.total e)))
        (λ _. cond_both (ltb r.own.round r.seen) _ _ (λ (t : Turn V). Went s t.state) (λ _. to Idle refl) (λ _. to b end))

  module _ (s : State V) (cells : List (Cell V)) (h : is_sound s ≡ true) where
    refused_fine : (i n : ℕ) (got : Result (Record V) ℕ) (e : CallRefusal) → (call_refusal_number e ≡ call_refusal_number Bank → ⊥) → Fine i n s cells got (refused e s cells)
    refused_fine i n got e other = record {
      went = record { sound = h; later = record { seen = omega arith; round = omega arith; decision = λ v p. p } };
      elsewhere = λ k d. refl;
      stays = (refl, refl);
      bank = λ _ q. absurd (other cc);
    }

    -- an accepted write leaves another worker, and a refused one this one
    written_stays : (e : Effect V) (s' : State V) (cells' : List (Cell V)) (w : Result (Unit {0}) ℕ)
        → let a = on_write w (accepted e s' cells') (refused Bank s cells) in Stays a.answer s a.state cells a.cells
    written_stays e s' cells' (Ok u) = tt
    written_stays e s' cells' (Err n) = (refl, refl)

    module _ (open' : (v : V) → s.phase ≡ Decided v → ⊥) where
      watch_went : (f : Fields V) → Went s (watch_turn s f).state
      watch_went f =
          let r = raised (moved s) f in
          let seen : s.seen ≤ r.seen = omega arith in
          let round : s.own.round ≤ r.own.round = omega arith in
          let sound : is_sound r ≡ true = grind (arith, nat_tests) in
          let inside : phase_sound r.total r.own.round r.phase ≡ true = grind (arith, nat_tests) in
          adopted_or s r sound open' seen round (decided_value f.tag f.value) _ (λ z. turn z (read_effect s.watch f))
          (to s r sound open' seen round r.phase inside)

      collect_went : (f : Fields V) (k : ℕ) (e : V → Effect V) (a : ℕ → Phase V) (b : Phase V) (c : V)
          → (k < s.total → phase_sound s.total s.own.round (a (k + 1)) ≡ true) → phase_sound s.total s.own.round b ≡ true
          → Went s (on_read (option_map e (decided_value f.tag f.value)) (adopting (decided_value f.tag f.value) (raised s f)) (onward (adopting (decided_value f.tag f.value) (raised s f)) k f a b c)).state
      collect_went f k e a b c on end =
          let sound : is_sound (raised s f) ≡ true = grind (arith, nat_tests) in
          adopted_or s (raised s f) sound open' (omega arith) (omega arith) (decided_value f.tag f.value) e (λ z. onward z k f a b c)
          (goes_on s (raised s f) sound open' (omega arith) (omega arith) k f a b c on end)

      stored_fine : (got : Result (Record V) ℕ) (f : Fields V) (next : Phase V) (o : Outcome) → is_lawful f ≡ true → s.own.round ≤ f.round → phase_sound s.total f.round next ≡ true → Fine s.number s.total s cells got (stored s cells f next o)
      stored_fine got f next o e up inside = record {
        went = record { sound = grind (arith, nat_tests); later = grind (arith, nat_tests) };
        elsewhere = λ k n. grind (arith, nat_tests, slice_get-set_other);
        stays = written_stays _ _ _ (write_answer cells s.number f);
        bank = λ sized q.
            let written = writes_answer cells s.number (grind (arith, nat_tests)) (grind (arith, nat_tests)) f ∙ ap made_answer (made_with f e) in
            grind arith;
      }

      looked_fine : (k : ℕ) (t : Fields V → Turn V) → 1 ≤ k → k ≤ s.total → ((f : Fields V) → Went s (t f).state) → Fine s.number s.total s cells (read_answer cells k) (looked s cells (read_answer cells k) t)
      looked_fine k t low high ok =
          by (read_answer cells k) (λ sized q. grind (arith, nat_tests))
        where
          by : (got : Result (Record V) ℕ) → (s.total ≡ length cells → (looked s cells got t).answer ≡ Err (call_refusal_number Bank) → got ≡ Err (refusal_number Unreadable)) → Fine s.number s.total s cells got (looked s cells got t)
          by (Ok r) b = record { went = ok (fields_of r); elsewhere = λ j n. refl; stays = tt; bank = b }
          by (Err n) b = record {
            went = record { sound = h; later = record { seen = omega arith; round = omega arith; decision = λ v p. p } };
            elsewhere = λ j d. refl;
            stays = (refl, refl);
            bank = b;
          }

      begun_fine : (got : Result (Record V) ℕ) (o : Option ℕ) → round_of_worker s.seen s.number s.total ≡ o → Fine s.number s.total s cells got (begun_at o s cells)
      begun_fine got None e = refused_fine s.number s.total got RoundLimit (omega arith)
      begun_fine got (Some r) e =
          let b = begun_round s.seen s.number s.total r e in
          stored_fine got (begun_fields r s.own) (First 1 (fields_of blank)) _ (grind (arith, nat_tests)) (grind (arith, nat_tests)) (grind (arith, nat_tests))

    acted_fine : (x : Phase V) (hint : Hint) (p : V) → s.phase ≡ x
        → Fine s.number s.total s cells (read_answer cells (register_read x hint s.watch)) (acted x hint s cells p (read_answer cells (register_read x hint s.watch)))
    acted_fine Idle Go p e = begun_fine (λ v q. cc) _ _ refl
    acted_fine Idle Wait p e =
        looked_fine (λ v q. cc) s.watch (watch_turn s) (grind (arith, nat_tests)) (grind (arith, nat_tests)) (watch_went (λ v q. cc))
    acted_fine (First next kept) hint p e =
        let low : 1 ≤ s.own.round = grind (arith, nat_tests) in
        looked_fine (λ v q. cc) next (first_turn s next kept p) (grind (arith, nat_tests)) (grind (arith, nat_tests))
        (λ f. collect_went (λ v q. cc) f next _ (λ j. First j (greater kept f)) (Ready (greater kept f)) (candidate_of (greater kept f) p) (λ n. grind (arith, nat_tests)) (grind (arith, nat_tests)))
    acted_fine (Ready kept) hint p e =
        let low : 1 ≤ s.own.round = grind (arith, nat_tests) in
        let c = candidate_of kept p in
        stored_fine (λ v q. cc) _ (value_fields s.own.round Pro c) (Second 1 c) _ (grind (arith, nat_tests)) (omega arith) (grind (arith, nat_tests))
    acted_fine (Second next c) hint p e =
        let low : 1 ≤ s.own.round = grind (arith, nat_tests) in
        looked_fine (λ v q. cc) next (second_turn s next c) (grind (arith, nat_tests)) (grind (arith, nat_tests))
        (λ f. collect_went (λ v q. cc) f next _ (λ j. Second j c) (Sure c) c (λ n. grind (arith, nat_tests)) (grind (arith, nat_tests)))
    acted_fine (Sure c) hint p e =
        let low : 1 ≤ s.own.round = grind (arith, nat_tests) in
        stored_fine (λ v q. cc) _ (value_fields s.own.round Dec c) (Decided c) _ (grind (arith, nat_tests)) (omega arith) refl
    acted_fine (Decided v) hint p e = refused_fine s.number s.total _ HasDecided (omega arith)

    pub taken_fine : (hint : Hint) (p : V) → Fine s.number s.total s cells (reading hint s cells) (taken hint s cells p)
    taken_fine hint p = acted_fine s.phase hint p refl

    proposing_fine : (o : Option V) (hint : Hint) → Fine s.number s.total s cells (reading hint s cells) (proposing o hint s cells)
    proposing_fine None hint = refused_fine s.number s.total _ NoProposal (omega arith)
    proposing_fine (Some p) hint = taken_fine hint p

    pub worker_fine : (hint : Hint) (i n : ℕ) → Fine i n s cells (reading hint s cells) (worker_step hint s i n cells)
    worker_fine hint i n =
        let got = reading hint s cells in
        cond_both (is_at s i n) (cond s.crashed (refused Crashed s cells) (proposing s.proposal hint s cells)) (refused Misplaced s cells) (Fine i n s cells got)
        (λ e. cond_both s.crashed (refused Crashed s cells) (proposing s.proposal hint s cells) (Fine i n s cells got)
        (λ _. refused_fine i n got Crashed (omega arith))
        (λ _.
        let at_number : s.number ≡ i = grind (arith, nat_tests) in
        let at_total : s.total ≡ n = grind (arith, nat_tests) in
        subst (λ j. Fine j n s cells got (proposing s.proposal hint s cells)) at_number
        (subst (λ m. Fine s.number m s cells got (proposing s.proposal hint s cells)) at_total (proposing_fine s.proposal hint))))
        (λ _. refused_fine i n got Misplaced (omega arith))
