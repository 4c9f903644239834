-- A command comes to its end, if such a lamp answers and the waits end in time. Assumes nothing.
use Rattle.std.specs.Prelude.{Some, ℕ}
use Prim.Native.Nat.{ℕ, suc, ◌+◌, ◌≤◌, max}
use mathlib.Core.Bool.{Bool, true, not, ◌||◌, false≢true}
use mathlib.Core.Path.{◌≡◌, refl, sym, ap, subst, ◌∙◌}
use mathlib.Core.List.{List, [], ◌∷◌, ◌++◌, append-nil}
use native.Mathlib.Omega.{arith}
use borrow.Author.Tests.{eq-eqb, leb-true}
use lib.Dec.{eqb, leb}
use lib.ListN.{length, length-append}
use lib.Seq.{append_snoc}
use Rattle.std.proofs.lemmas.Bool.{and_from, and_parts, or_right}
use Rattle.units.specs.Units.{micros}
use Rattle.units.specs.declared.Micros.{Micros}
use Rattle.transitions.specs.Events.{event}
use Rattle.transitions.specs.Tasks.{task_open, phase_open, next_move}
use Rattle.transitions.specs.Types.{Level}
use Rattle.transitions.specs.declared.events.DeviceAnswer.TheVariants as device
use Rattle.transitions.specs.declared.events.Event.{Event}
use Rattle.transitions.specs.declared.events.EventKind.TheVariants as kind
use Rattle.transitions.specs.declared.tasks.Motion.{Motion}
use Rattle.transitions.specs.declared.tasks.MoveStep.{MoveStep}
use Rattle.transitions.specs.declared.tasks.MoveStep.TheVariants as step
use Rattle.transitions.specs.declared.tasks.Phase.{Phase}
use Rattle.transitions.specs.declared.tasks.Phase.TheVariants.{Asked, Waiting}
use Rattle.transitions.specs.declared.tasks.Task.{Task}
use Rattle.transitions.specs.declared.tasks.Task.TheVariants as task
use Rattle.level_control.specs.Answer.{Outcome}
use Rattle.level_control.specs.Judge.{latest}
use Rattle.level_control.specs.Handle.{woken_in, number_of, event_of}
use Rattle.level_control.specs.Moves.{move_by, move_goes_on}
use Rattle.level_control.specs.Path.{path}
use Rattle.level_control.specs.Reports.{Told}
use Rattle.level_control.specs.Run.{Run, Pending, accepted, is_echo, last_of, started, next as next_run, play, only_echo}
use Rattle.level_control.specs.State.{accept}
use Rattle.level_control.specs.Targets.{quiet}
use Rattle.level_control.specs.declared.state.LevelControlState.{LevelControlState}
use Rattle.level_control.proofs.EveryFade.{accepted_zero}
use Rattle.level_control.proofs.FadeInvariant.{wake_is}
use Rattle.level_theorems.specs.EveryEvent.{InPhase}
use Rattle.level_theorems.specs.Replies.{Reply, wake_in, wake_of, replies, answers_from, in_time}
use Rattle.level_theorems.proofs.Acceptance.{answers_accepted, wakes_accepted}
use Rattle.level_theorems.proofs.Progress.{next_state_is, next_answers, wake_opens, answered}
use Rattle.matter.specs.Ends.{limit, way_of, levels_of, Completes}
use Rattle.matter.proofs.EchoInvariant.{seen_in, stands, on_goes, onward, short, Held, Kept, After, keep, arrives}

-- the last of the levels asked for is the one that is to be answered
last_at : (asked others answers : List ℕ) (v : ℕ) (more : List ℕ) → asked ++ others ≡ answers ++ (v ∷ more) → length asked ≡ length answers + 1
    → last_of asked ≡ v
last_at [] others answers v more e n = absurd (omega arith)
last_at (x ∷ []) others [] v more e n = cc
last_at (x ∷ []) others (a ∷ answers) v more e n = absurd (omega (arith, n))
last_at (x ∷ y ∷ asked) others [] v more e n = absurd (omega (arith, n))
last_at (x ∷ y ∷ asked) others (a ∷ answers) v more e n =
    let same : y ∷ (asked ++ others) ≡ answers ++ (v ∷ more) = cc in
    let shorter : length (y ∷ asked) ≡ length answers + 1 = omega (arith, n) in
    last_at (y ∷ asked) others answers v more same shorter

-- after the wake that ends a move's wait, a request is open
move_opens : (told : Told) (m : Motion) (at : Micros) (on : Bool) (a : ℕ) → next_move told.state.current_level m.mode ≡ step.Asks a
    → task_open (move_goes_on told m at on).state.task ≡ true
unfolding move_goes_on
move_opens told m at on a e = subst (λ (x : MoveStep). task_open (move_by x told m at on).state.task ≡ true) (sym e) refl

-- with a request open, the levels asked for are the first of the way, one more than were answered
abbrev OpenIn : List ℕ → List ℕ → ℕ → Type 0
OpenIn way asked k = (others : List ℕ) × (asked ++ others ≡ way) × (length asked ≡ k + 1)

module _ (way : List ℕ) (last : ℕ) where
  open_asks : (s : LevelControlState) (asked : List ℕ) (k : ℕ) (p : Pending) (x : Task) → task_open x ≡ true → Held way last s asked k p x → OpenIn way asked k
  open_asks s asked k p task.Rest o h = absurd (false≢true o)
  open_asks s asked k p task.StartUp o h = absurd h
  open_asks s asked k p (task.Fade f) o h = by f.phase o h.seen
    where
      by : (q : Phase) → phase_open q ≡ true → seen_in q f.counter f.target asked k p → OpenIn way asked k
      by (Asked since) o seen = (path f.counter f.target, h.split, seen.1)
      by (Waiting until) o seen = absurd (false≢true o)
  open_asks s asked k p (task.Move m) o h = by m.phase o h.seen
    where
      to : ℕ
      to = limit m.motion.mode s.settings.range.min s.settings.range.max

      by : (q : Phase) → phase_open q ≡ true → seen_in q m.asked to asked k p → OpenIn way asked k
      by (Asked since) o seen = (path m.asked to, h.split, seen.1)
      by (Waiting until) o seen = absurd (false≢true o)
  open_asks s asked k p (task.OnReaction r) o h =
      let others : List ℕ = way_of (on_goes s r.before) in
      (others, ap (λ (l : List ℕ). l ++ others) h.first ∙ h.way_is, ap length h.first ∙ omega (arith, h.count))

  -- what a list of events leads to
  abbrev Leads : Run → List Event → Type 0
  Leads r es = (only_echo r es ≡ true) × ((play r es).answers ≡ length way)

  -- what is to be shown of the replies ps, from every run
  abbrev Goal : List Reply → Type 0
  Goal ps = (given : List ℕ) (r : Run) → Kept way last r → given ++ levels_of ps ≡ way → length given ≡ r.answers → in_time (answers_from r ps) ≡ true
      → Leads r (answers_from r ps)

  answer_leads : (p : Reply) (ps : List Reply) → Goal ps → (given : List ℕ) (r : Run) → Kept way last r → task_open r.state.task ≡ true
      → given ++ (p.level ∷ levels_of ps) ≡ way → length given ≡ r.answers → in_time (answered r p ps) ≡ true → Leads r (answered r p ps)
  answer_leads p ps goal given r h is_open split count time =
      let e : Event = replies r.state p in
      let later : Bool = in_time (answers_from (next_run r e) ps) in
      let soon : e.moment.at.0 ≤ latest.0 = leb-true e.moment.at.0 latest.0 (and_parts (leb e.moment.at.0 latest.0) later time).0 in
      let ok : accepted r.state e ≡ true = answers_accepted r.state (device.Level p.level) e.moment.at p.on is_open (omega arith) soon in
      let answers : (next_run r e).answers ≡ r.answers + 1 = next_answers r e ok in
      let opens : OpenIn way r.asked r.answers = open_asks r.state r.asked r.answers r.pending r.state.task is_open h in
      let same : p.level ≡ last_of r.asked =
      sym (last_at r.asked opens.0 given p.level (levels_of ps) (opens.1 ∙ sym split) (opens.2 ∙ ap (λ (x : ℕ). x + 1) (sym count))) in
      let echo : (not (accepted r.state e) || is_echo e.kind (last_of r.asked)) ≡ true =
      or_right (not (accepted r.state e)) (eqb p.level (last_of r.asked)) (eq-eqb p.level (last_of r.asked) same) in
      let rest =
      goal (given ++ (p.level ∷ [])) (next_run r e) (keep way last r e echo h) (append_snoc given p.level (levels_of ps) ∙ split)
      (length-append given _ ∙ omega arith) (and_parts (leb e.moment.at.0 latest.0) later time).1 in
      (and_from _ _ echo rest.0, rest.1)

  -- a wake before it, where the fade or the move waits
  abbrev Led : Run → Reply → List Reply → List Event → Type 0
  Led r p ps ws = in_time (ws ++ answered (play r ws) p ps) ≡ true → Leads r (ws ++ answered (play r ws) p ps)

  wake_leads : (p : Reply) (ps : List Reply) → Goal ps → (given : List ℕ) (r : Run) → Kept way last r → (until : Micros) → InPhase r.state.task (Waiting until)
      → ((at : Micros) → number_of r.state (event at p.on kind.Wake) ≡ 0 → task_open (event_of r.state (event at p.on kind.Wake)).state.task ≡ true)
      → given ++ (p.level ∷ levels_of ps) ≡ way → length given ≡ r.answers
      → Led r p ps (event (micros (max until.0 r.state.last_accepted.0)) p.on kind.Wake ∷ [])
  wake_leads p ps goal given r h until waits opens split count time =
      let at : Micros = micros (max until.0 r.state.last_accepted.0) in
      let w : Event = event at p.on kind.Wake in
      let later : Bool = in_time (answered (next_run r w) p ps) in
      let soon : at.0 ≤ latest.0 = leb-true at.0 latest.0 (and_parts (leb at.0 latest.0) later time).0 in
      let ok : accepted r.state w ≡ true = wakes_accepted r.state until at p.on waits (omega arith) (omega arith) soon in
      let echo : (not (accepted r.state w) || is_echo w.kind (last_of r.asked)) ≡ true = or_right (not (accepted r.state w)) true refl in
      let is_open : task_open (next_run r w).state.task ≡ true =
      ap (λ (s : LevelControlState). task_open s.task) (next_state_is r w) ∙ opens at (accepted_zero r.state w ok) in
      let answers : (next_run r w).answers ≡ r.answers + 0 = next_answers r w ok in
      let rest =
      answer_leads p ps goal given (next_run r w) (keep way last r w echo h) is_open split (omega arith)
      (and_parts (leb at.0 latest.0) later time).1 in
      (and_from _ _ echo rest.0, rest.1)

  -- before the end a request is open, or a fade or a move waits
  task_leads : (p : Reply) (ps : List Reply) → Goal ps → (given : List ℕ) (r : Run) → Kept way last r → given ++ (p.level ∷ levels_of ps) ≡ way
      → length given ≡ r.answers → (x : Task) → r.state.task ≡ x → Held way last r.state r.asked r.answers r.pending x → Led r p ps (wake_of x r.state p.on)
  task_leads p ps goal given r h split count task.Rest q i =
      absurd (let n : length given + suc (length (levels_of ps)) ≡ length way = sym (length-append given _) ∙ ap length split in omega (arith, i.0))
  task_leads p ps goal given r h split count task.StartUp q i = absurd i
  task_leads p ps goal given r h split count (task.Fade f) q i = by f.phase refl
    where
      by : (y : Phase) → f.phase ≡ y → Led r p ps (wake_in y r.state p.on)
      by (Asked since) e = answer_leads p ps goal given r h (ap task_open q ∙ ap phase_open e) split count
      by (Waiting until) e =
          wake_leads p ps goal given r h until (subst (λ (x : Task). InPhase x (Waiting until)) (sym q) e) (λ at z. wake_opens r.state f at p.on q z) split count
  task_leads p ps goal given r h split count (task.Move m) q i = by m.phase refl
    where
      lo : ℕ
      lo = r.state.settings.range.min

      hi : ℕ
      hi = r.state.settings.range.max

      -- the wake of a move makes its next request
      opens : (until : Micros) → m.phase ≡ Waiting until → (at : Micros) → number_of r.state (event at p.on kind.Wake) ≡ 0
          → task_open (event_of r.state (event at p.on kind.Wake)).state.task ≡ true
      opens until e at z =
          let seen : seen_in (Waiting until) m.asked (limit m.motion.mode lo hi) r.asked r.answers r.pending =
          subst (λ (y : Phase). seen_in y m.asked (limit m.motion.mode lo hi) r.asked r.answers r.pending) e i.seen in
          let stored : r.state.current_level ≡ Some m.asked = subst (λ (y : Phase). stands y r.state.current_level m.asked) e i.stored in
          let further = onward m.motion.mode lo hi m.asked (short m.motion.mode lo hi m.asked i.inside seen.0) i.small in
          ap (λ (o : Outcome). task_open o.state.task) (wake_is 0 0 1 (omega arith) (omega arith) r.state at p.on z)
          ∙ ap (λ (x : Task). task_open (woken_in x (accept r.state at) at p.on).state.task) q
          ∙ move_opens (quiet (accept r.state at)) m.motion at p.on further.0 (ap (λ (l : Level). next_move l m.motion.mode) stored ∙ further.1.asks)

      by : (y : Phase) → m.phase ≡ y → Led r p ps (wake_in y r.state p.on)
      by (Asked since) e = answer_leads p ps goal given r h (ap task_open q ∙ ap phase_open e) split count
      by (Waiting until) e =
          wake_leads p ps goal given r h until (subst (λ (x : Task). InPhase x (Waiting until)) (sym q) e) (opens until e) split count
  task_leads p ps goal given r h split count (task.OnReaction o) q i = answer_leads p ps goal given r h (ap task_open q) split count

  leads : (ps : List Reply) → Goal ps
  leads [] given r h split count time = (refl, sym count ∙ ap length (sym (append-nil given) ∙ split))
  leads (p ∷ ps) given r h split count time = task_leads p ps (leads ps) given r h split count r.state.task refl h time

  pub completes : (o : Outcome) → After way last [] 0 o → Completes way last o
  completes o h = record {
    arrives = λ es only. arrives way last o es only h;
    reaches = λ ps levels time.
        let led = leads ps [] (started o) h levels refl time in
        record { only = led.0; answered = led.1 };
  }
