-- What holds between two events of a fade, and that each accepted answer with a level and each accepted wake keeps it. Assumes nothing.
use Rattle.std.specs.Prelude.{Option, Some, None, ℕ}
use Prim.Native.Nat.{ℕ, ◌+◌, ◌-◌, ◌*◌, ◌/◌, ◌≤◌, ◌<◌}
use mathlib.Core.Bool.{Bool, true, false, cond, not, ◌||◌, false≢true}
use mathlib.Core.Path.{◌≡◌, refl, sym, ap, ◌∙◌}
use mathlib.Core.List.{List, [], ◌∷◌, ◌++◌, append-nil}
use native.Mathlib.Omega.{arith}
use native.Mathlib.Nat.{add-zero}
use borrow.Author.Tests.{eqb-true, eqb-false, eq-eqb, ne_eqb, not-false}
use lib.Dec.{eqb}
use lib.ListN.{length, length-append}
use lib.Seq.{append_snoc}
use Rattle.units.specs.declared.Micros.{Micros}
use Rattle.units.specs.declared.Tenths.{Tenths}
use Rattle.transitions.specs.Events.{event}
use Rattle.transitions.specs.Fade.{next_level, remaining_after}
use Rattle.transitions.specs.Tasks.{fade_last, fade_left, fade_next, fade_asking, fade_waiting, level_to_put_back, task_open, task_due, phase_open, phase_due}
use Rattle.transitions.specs.Types.{is_level}
use Rattle.transitions.specs.declared.actions.ActionKind.TheVariants.{P}
use Rattle.transitions.specs.declared.events.DeviceAnswer.{DeviceAnswer}
use Rattle.transitions.specs.declared.events.DeviceAnswer.TheVariants as device
use Rattle.transitions.specs.declared.events.Event.{Event}
use Rattle.transitions.specs.declared.events.EventKind.{EventKind}
use Rattle.transitions.specs.declared.events.EventKind.TheVariants as kind
use Rattle.transitions.specs.declared.tasks.Fade.{Fade}
use Rattle.transitions.specs.declared.tasks.Phase.{Phase}
use Rattle.transitions.specs.declared.tasks.Phase.TheVariants.{Asked, Waiting}
use Rattle.transitions.specs.declared.tasks.Task.{Task}
use Rattle.transitions.specs.declared.tasks.Task.TheVariants as task
use Rattle.transitions.specs.Types.{Level}
use Rattle.level_control.specs.State.{accept, with_task}
use Rattle.transitions.specs.Actions.{reports_of}
use Rattle.level_control.specs.Answer.{Outcome, done}
use Rattle.level_control.specs.Reports.{write_remaining_time}
use Rattle.level_control.specs.Fades.{fade_told, ended_put_back, fade_ended_by, fade_ended, fade_then, fade_goes_on, move_to_level_transition, fade_answered, fade_woken}
use Rattle.level_control.specs.Judge.{turn_tests, command_tests_of}
use Rattle.level_control.specs.Handle.{fade_answered_in, answered_in, answered, woken_in, woken, run, number_of, event_of}
use Rattle.level_control.specs.Path.{path}
use Rattle.level_control.specs.Run.{Run, Pending, Nothing, Request, Wait, asks, opened, closed_by, accepted, is_onward, next_by, next as next_run}
use Rattle.level_control.specs.Starts.{distance}
use Rattle.level_control.specs.Reports.{Told}
use Rattle.level_control.specs.declared.state.LevelControlState.{LevelControlState}
use Rattle.level_control.proofs.PathLaws.{path_step, path_end, length_path}
use Rattle.level_control.proofs.TimeLaws.{shown_of, falls}
use Rattle.level_control.proofs.SeenLaws.{Silent, silent_append, silent_if, silent_reports, asks_after, opened_after}
use Rattle.level_control.proofs.EventLaws.{event_refused, event_runs, event_number, turn_passes}
use Rattle.transitions.specs.declared.events.Command.TheVariants as command

-- a running fade: what was asked for, with what is left to ask for, is the path; `unanswered` requests are open
pub record Running (c t T : ℕ) (asked : List ℕ) (k shown target counter time left period unanswered : ℕ) : Type 0 where
  pub to : target ≡ t
  pub within : time ≡ T
  pub split : asked ++ path counter t ≡ path c t
  pub count : length asked ≡ k + unanswered
  pub more : k < distance t c
  pub each : period ≡ T * 100 / distance t c
  pub whole : left + k * (T * 100 / distance t c) ≡ T * 100
  pub shows : 1 ≤ k → shown ≡ shown_of left

abbrev pub openings : Phase → ℕ
openings (Asked since) = 1
openings (Waiting until) = 0

-- what is seen to be open in a phase
abbrev pub pending_in : Phase → Pending
pending_in (Asked since) = Request
pending_in (Waiting until) = Wait

abbrev pub Inv : ℕ → ℕ → ℕ → List ℕ → ℕ → ℕ → Pending → Task → Type 0
Inv c t T asked k shown p task.Rest = (k ≡ distance t c) × (asked ≡ path c t) × (shown ≡ 0) × (p ≡ Nothing)
Inv c t T asked k shown p task.StartUp = ⊥
Inv c t T asked k shown p (task.Fade f) =
    Running c t T asked k shown f.target f.counter f.transition_time.0 f.remaining.0 f.period.0 (openings f.phase)
    × (p ≡ pending_in f.phase)
Inv c t T asked k shown p (task.Move m) = ⊥
Inv c t T asked k shown p (task.OnReaction r) = ⊥

module _ (c t T : ℕ) (pos : 1 ≤ T) where
  lengths : (asked : List ℕ) (counter : ℕ) → asked ++ path counter t ≡ path c t → length asked + distance t counter ≡ distance t c
  lengths asked counter e = simp (length-append, length_path) at (ap length e)

  -- at the target the path is at its end
  all_asked : (asked : List ℕ) (counter : ℕ) → asked ++ path counter t ≡ path c t → counter ≡ t → asked ≡ path c t
  all_asked asked counter e at_end =
      sym (append-nil asked) ∙ ap (λ (l : List ℕ). asked ++ l) (sym (ap (λ (x : ℕ). path x t) at_end ∙ path_end t)) ∙ e

  -- a fade that waits asks for the next level
  ask : {asked : List ℕ} {k shown target counter left period : ℕ} (time : Tenths)
      → Running c t T asked k shown target counter time.0 left period 0
      → Running c t T (asked ++ (next_level counter target time ∷ [])) k shown target (next_level counter target time) time.0 left period 1
  ask {asked} {k} {shown} {target} {counter} time h =
      let sum : length asked + distance t counter ≡ distance t c = lengths asked counter h.split in
      let ne : counter ≡ t → ⊥ = λ e. let d : distance t counter ≡ 0 = rw e (omega arith) in omega (arith, h.count, h.more) in
      let some : 1 ≤ time.0 = omega (arith, h.within) in
      record {
        to = h.to;
        within = h.within;
        split = rw h.to (append_snoc asked (next_level counter t time) _ ∙ ap (λ (l : List ℕ). asked ++ l) (sym (path_step counter t time some ne)) ∙ h.split);
        count = length-append asked _ ∙ omega (arith, h.count);
        more = h.more;
        each = h.each;
        whole = h.whole;
        shows = h.shows;
      }

  -- an answer before the end: the remaining time falls, and nothing is open
  lower : {asked : List ℕ} {k shown target counter time left period : ℕ} → T ≤ 65535
      → Running c t T asked k shown target counter time left period 1 → (counter ≡ target → ⊥)
      → Running c t T asked (k + 1) (shown_of (left - period)) target counter time (left - period) period 0
  lower {asked} {k} {shown} {target} {counter} {time} {left} {period} small h ne =
      let sum : length asked + distance t counter ≡ distance t c = lengths asked counter h.split in
      let far : counter ≡ t → ⊥ = λ e. ne (e ∙ sym h.to) in
      record {
        to = h.to;
        within = h.within;
        split = h.split;
        count = omega (arith, h.count);
        more = omega (arith, h.count);
        each = h.each;
        whole = rw h.each (falls T (distance t c) k left small h.whole (omega (arith, h.more)));
        shows = λ one. refl;
      }

  -- the end: all is asked for, and answered
  finish : {asked : List ℕ} {k shown target counter time left period : ℕ}
      → Running c t T asked k shown target counter time left period 1 → counter ≡ target
      → (k + 1 ≡ distance t c) × (asked ≡ path c t)
  finish {asked} {k} {shown} {target} {counter} h e =
      let all : asked ≡ path c t = all_asked asked counter h.split (e ∙ h.to) in
      let sum : length asked ≡ distance t c = ap length all ∙ length_path c t in
      (omega (arith, h.count), all)

  -- after an outcome that closed what was open
  abbrev After : List ℕ → ℕ → Outcome → Type 0
  After asked k o = Inv c t T (asked ++ asks o.actions) k o.state.remaining_time.0 (opened o.actions Nothing) o.state.task

  -- an end: the task rests, the remaining time is what was written, and nothing is asked
  record Ends (told : Told) (o : Outcome) : Type 0 where
    rests : o.state.task ≡ task.Rest
    time : o.state.remaining_time ≡ told.state.remaining_time
    silent : Silent o.actions

  ends_rest : (told : Told) → Ends told (done (with_task told.state task.Rest) (reports_of told.reports))
  ends_rest told = record { rests = refl; time = refl; silent = silent_reports told.reports }

  ends_put_back : (told : Told) (before : ℕ) → Ends told (ended_put_back told before)
  unfolding ended_put_back
  ends_put_back told before = record {
    rests = refl;
    time = refl;
    silent =
        silent_append _ _
        (silent_append _ _ (silent_reports told.reports) (silent_if P (not (is_level told.state.current_level before)) (record { no_ask = refl; no_open = λ p. refl })))
        (record { no_ask = refl; no_open = λ p. refl });
  }

  ends : (told : Told) (put_back : Option ℕ) → Ends told (fade_ended told put_back)
  unfolding fade_ended
  ends told put_back = by (level_to_put_back put_back told.state.attributes.on_level)
    where
      by : (l : Level) → Ends told (fade_ended_by l told)
      by (Some before) = ends_put_back told before
      by None = ends_rest told

  ended_keeps : (asked : List ℕ) (k : ℕ) (told : Told) (o : Outcome) → Ends told o → told.state.remaining_time.0 ≡ 0
      → (k ≡ distance t c) × (asked ≡ path c t) → After asked k o
  ended_keeps asked k told o e z h =
      rw (e.rests, e.silent.no_ask, e.silent.no_open Nothing, e.time, append-nil) (h.0, h.1, z, refl)

  goes_on : (f : Fade) (since at : Micros) (told : Told) (asked : List ℕ) (k : ℕ)
      → Running c t T asked k told.state.remaining_time.0 f.target f.counter f.transition_time.0 (fade_left f).0 f.period.0 0
      → After asked k (fade_goes_on told f since at)
  unfolding fade_goes_on fade_waiting fade_asking
  goes_on f since at told asked k h = by (fade_next f since at)
    where
      by : (n : Option Micros) → After asked k (fade_then n told f at)
      by (Some until) = rw (asks_after, opened_after, append-nil) (h, refl)
      by None = rw (asks_after, opened_after) (ask f.transition_time h, refl)

  -- what is left after an answer, at the end and before it
  left_last : (f : Fade) → f.counter ≡ f.target → (fade_left f).0 ≡ 0
  unfolding remaining_after
  left_last f e = simp (eq-eqb f.counter f.target e)

  left_before : (f : Fade) → (f.counter ≡ f.target → ⊥) → (fade_left f).0 ≡ f.remaining.0 - f.period.0
  unfolding remaining_after
  left_before f e = simp (ne_eqb f.counter f.target e)

  -- the remaining time that is written
  told_time : (s : LevelControlState) (f : Fade) (at : Micros) (on : Bool) (v : ℕ)
      → (fade_told s f at on v).state.remaining_time.0 ≡ shown_of (fade_left f).0
  unfolding fade_told write_remaining_time
  told_time s f at on v = refl

  module _ (small : T ≤ 65535) where
    -- an answer with a level
    answer_keeps : (s : LevelControlState) (f : Fade) (since at : Micros) (on : Bool) (v : ℕ) (asked : List ℕ) (k shown : ℕ)
        → Running c t T asked k shown f.target f.counter f.transition_time.0 f.remaining.0 f.period.0 1
        → After asked (k + 1) (move_to_level_transition s f since at on v)
    unfolding move_to_level_transition
    answer_keeps s f since at on v asked k shown h = by (fade_last f) refl
      where
        told : Told
        told = fade_told s f at on v

        by : (b : Bool) → fade_last f ≡ b → After asked (k + 1) (cond b (fade_ended told f.put_back) (fade_goes_on told f since at))
        by true e =
            let last : f.counter ≡ f.target = eqb-true _ _ e in
            let zero : told.state.remaining_time.0 ≡ 0 = told_time s f at on v ∙ ap shown_of (left_last f last) in
            ended_keeps asked (k + 1) told (fade_ended told f.put_back) (ends told f.put_back) zero (finish h last)
        by false e =
            let far : f.counter ≡ f.target → ⊥ = eqb-false _ _ e in
            let lowered = lower small h far in
            goes_on f since at told asked (k + 1) (rw (told_time s f at on v, left_before f far) lowered)

    -- a wake
    wake_keeps : (s : LevelControlState) (f : Fade) (at : Micros) (asked : List ℕ) (k : ℕ)
        → Running c t T asked k s.remaining_time.0 f.target f.counter f.transition_time.0 f.remaining.0 f.period.0 0
        → After asked k (fade_woken s f at)
    unfolding fade_woken fade_asking
    wake_keeps s f at asked k h = (ask f.transition_time h, refl)

    -- an accepted answer with a level, in any state where it holds
    after_answer : (s : LevelControlState) (v : ℕ) (at : Micros) (on : Bool) (asked : List ℕ) (k shown : ℕ) (p : Pending) (x : Task)
        → task_open x ≡ true → Inv c t T asked k shown p x → After asked (k + 1) (answered_in x s (device.Level v) at on)
    unfolding fade_answered
    after_answer s v at on asked k shown p task.Rest o h = absurd (false≢true o)
    after_answer s v at on asked k shown p task.StartUp o h = absurd h
    after_answer s v at on asked k shown p (task.Fade f) o h = by f.phase o h.0
      where
        by : (q : Phase) → phase_open q ≡ true
            → Running c t T asked k shown f.target f.counter f.transition_time.0 f.remaining.0 f.period.0 (openings q)
            → After asked (k + 1) (fade_answered_in q s f (device.Level v) at on)
        by (Asked since) o h = answer_keeps s f since at on v asked k shown h
        by (Waiting until) o h = absurd (false≢true o)
    after_answer s v at on asked k shown p (task.Move m) o h = absurd h
    after_answer s v at on asked k shown p (task.OnReaction r) o h = absurd h

    after_wake : (s : LevelControlState) (at : Micros) (on : Bool) (asked : List ℕ) (k : ℕ) (p : Pending) (x : Task)
        → task_due x at ≡ true → Inv c t T asked k s.remaining_time.0 p x → After asked k (woken_in x s at on)
    after_wake s at on asked k p task.Rest o h = absurd (false≢true o)
    after_wake s at on asked k p task.StartUp o h = absurd h
    after_wake s at on asked k p (task.Fade f) o h = wake_keeps s f at asked k (by f.phase o h.0)
      where
        by : (q : Phase) → phase_due q at ≡ true
            → Running c t T asked k s.remaining_time.0 f.target f.counter f.transition_time.0 f.remaining.0 f.period.0 (openings q)
            → Running c t T asked k s.remaining_time.0 f.target f.counter f.transition_time.0 f.remaining.0 f.period.0 0
        by (Asked since) o h = absurd (false≢true o)
        by (Waiting until) o h = h
    after_wake s at on asked k p (task.Move m) o h = absurd h
    after_wake s at on asked k p (task.OnReaction r) o h = absurd h

    -- what was open is closed by the event
    answer_closes : (a : DeviceAnswer) (asked : List ℕ) (k shown : ℕ) (p : Pending) (x : Task) → task_open x ≡ true → Inv c t T asked k shown p x
        → closed_by (kind.Answer a) p ≡ Nothing
    answer_closes a asked k shown p task.Rest o h = absurd (false≢true o)
    answer_closes a asked k shown p task.StartUp o h = absurd h
    answer_closes a asked k shown p (task.Fade f) o h = by f.phase o h.1
      where
        by : (q : Phase) → phase_open q ≡ true → p ≡ pending_in q → closed_by (kind.Answer a) p ≡ Nothing
        by (Asked since) o e = rw e refl
        by (Waiting until) o e = absurd (false≢true o)
    answer_closes a asked k shown p (task.Move m) o h = absurd h
    answer_closes a asked k shown p (task.OnReaction r) o h = absurd h

    wake_closes : (at : Micros) (asked : List ℕ) (k shown : ℕ) (p : Pending) (x : Task) → task_due x at ≡ true → Inv c t T asked k shown p x
        → closed_by kind.Wake p ≡ Nothing
    wake_closes at asked k shown p task.Rest o h = absurd (false≢true o)
    wake_closes at asked k shown p task.StartUp o h = absurd h
    wake_closes at asked k shown p (task.Fade f) o h = by f.phase o h.1
      where
        by : (q : Phase) → phase_due q at ≡ true → p ≡ pending_in q → closed_by kind.Wake p ≡ Nothing
        by (Asked since) o e = absurd (false≢true o)
        by (Waiting until) o e = rw e refl
    wake_closes at asked k shown p (task.Move m) o h = absurd h
    wake_closes at asked k shown p (task.OnReaction r) o h = absurd h

    abbrev pub Kept : Run → Type 0
    Kept r = Inv c t T r.asked r.answers r.state.remaining_time.0 r.pending r.state.task

    -- an accepted event, by its outcome
    pub next_is : (r : Run) (e : Event) (o : Outcome) → event_of r.state e ≡ o → o.number ≡ 0 → next_run r e ≡ next_by true o e.kind r
    unfolding next_run
    next_is r e o q z = rw q (rw (eq-eqb o.number 0 z) refl)

    pub answer_is : (s : LevelControlState) (at : Micros) (on : Bool) (v : ℕ) → number_of s (event at on (kind.Answer (device.Level v))) ≡ 0
        → event_of s (event at on (kind.Answer (device.Level v))) ≡ answered_in s.task (accept s at) (device.Level v) at on
    unfolding command_tests_of run answered
    answer_is s at on v z = event_runs s (event at on (kind.Answer (device.Level v))) z refl

    pub wake_is : (s : LevelControlState) (at : Micros) (on : Bool) → number_of s (event at on kind.Wake) ≡ 0
        → event_of s (event at on kind.Wake) ≡ woken_in s.task (accept s at) at on
    unfolding command_tests_of run woken
    wake_is s at on z = event_runs s (event at on kind.Wake) z refl

    pub is_open : (s : LevelControlState) (at : Micros) (on : Bool) (a : DeviceAnswer) → number_of s (event at on (kind.Answer a)) ≡ 0 → task_open s.task ≡ true
    unfolding number_of turn_tests
    is_open s at on a z = not-false (task_open s.task) (turn_passes _ _ z).opened

    pub is_due : (s : LevelControlState) (at : Micros) (on : Bool) → number_of s (event at on kind.Wake) ≡ 0 → task_due s.task at ≡ true
    unfolding number_of turn_tests
    is_due s at on z = not-false (task_due s.task at) (turn_passes _ _ z).due

    same_time : (s : LevelControlState) (at : Micros) → (accept s at).remaining_time ≡ s.remaining_time
    same_time s at = refl

    keep_answer : (r : Run) (at : Micros) (on : Bool) (v : ℕ) → number_of r.state (event at on (kind.Answer (device.Level v))) ≡ 0
        → Kept r → Kept (next_run r (event at on (kind.Answer (device.Level v))))
    keep_answer r at on v z h =
        let s : LevelControlState = r.state in
        let e : Event = event at on (kind.Answer (device.Level v)) in
        let o : Outcome = answered_in s.task (accept s at) (device.Level v) at on in
        let is_open : task_open s.task ≡ true = is_open s at on (device.Level v) z in
        let zero : o.number ≡ 0 = ap (λ (x : Outcome). x.number) (sym (answer_is s at on v z)) ∙ event_number s e ∙ z in
        rw (next_is r e o (answer_is s at on v z) zero, answer_closes _ r.asked r.answers s.remaining_time.0 r.pending s.task is_open h)
        (after_answer (accept s at) v at on r.asked r.answers s.remaining_time.0 r.pending s.task is_open h)

    keep_wake : (r : Run) (at : Micros) (on : Bool) → number_of r.state (event at on kind.Wake) ≡ 0 → Kept r → Kept (next_run r (event at on kind.Wake))
    keep_wake r at on z h =
        let s : LevelControlState = r.state in
        let e : Event = event at on kind.Wake in
        let o : Outcome = woken_in s.task (accept s at) at on in
        let due : task_due s.task at ≡ true = is_due s at on z in
        let zero : o.number ≡ 0 = ap (λ (x : Outcome). x.number) (sym (wake_is s at on z)) ∙ event_number s e ∙ z in
        rw (next_is r e o (wake_is s at on z) zero, wake_closes at r.asked r.answers s.remaining_time.0 r.pending s.task due h, add-zero)
        (after_wake (accept s at) at on r.asked r.answers r.pending s.task due (rw (same_time s at) h))

    keep_onward : (r : Run) (at : Micros) (on : Bool) (k : EventKind) → is_onward k ≡ true → number_of r.state (event at on k) ≡ 0
        → Kept r → Kept (next_run r (event at on k))
    keep_onward r at on kind.StartUp w z h = absurd (false≢true w)
    keep_onward r at on (kind.Command (command.MoveToLevel x)) w z h = absurd (false≢true w)
    keep_onward r at on (kind.Command (command.Move x)) w z h = absurd (false≢true w)
    keep_onward r at on (kind.Command (command.Step x)) w z h = absurd (false≢true w)
    keep_onward r at on (kind.Command (command.Stop x)) w z h = absurd (false≢true w)
    keep_onward r at on (kind.Answer (device.Level v)) w z h = keep_answer r at on v z h
    keep_onward r at on (kind.Answer device.Missing) w z h = absurd (false≢true w)
    keep_onward r at on (kind.Answer device.Failed) w z h = absurd (false≢true w)
    keep_onward r at on kind.Wake w z h = keep_wake r at on z h
    keep_onward r at on (kind.Command (command.OnOffChanged x)) w z h = absurd (false≢true w)
    keep_onward r at on (kind.Command (command.Scene x)) w z h = absurd (false≢true w)
    keep_onward r at on (kind.Command (command.DeviceUpdate x)) w z h = absurd (false≢true w)
    keep_onward r at on (kind.Command command.DeviceStop) w z h = absurd (false≢true w)
    keep_onward r at on (kind.Command (command.SetOnLevel x)) w z h = absurd (false≢true w)
    keep_onward r at on (kind.Command (command.SetDefaultMoveRate x)) w z h = absurd (false≢true w)
    keep_onward r at on (kind.Command (command.SetStartUpCurrentLevel x)) w z h = absurd (false≢true w)
    keep_onward r at on (kind.Command command.FactoryReset) w z h = absurd (false≢true w)

    -- a refused event leaves the run as it was
    pub refused_is : (r : Run) (e : Event) → (number_of r.state e ≡ 0 → ⊥) → next_run r e ≡ r
    unfolding next_run
    refused_is r e ne = rw (event_refused r.state e ne) (simp (ne_eqb (number_of r.state e) 0 ne, append-nil))

    -- every event that the list may hold keeps it, a refused one too
    pub keep : (r : Run) (e : Event) → (not (accepted r.state e) || is_onward e.kind) ≡ true → Kept r → Kept (next_run r e)
    keep r e w h = go (eqb (number_of r.state e) 0) refl
      where
        go : (b : Bool) → eqb (number_of r.state e) 0 ≡ b → Kept (next_run r e)
        go true q =
            let z = eqb-true (number_of r.state e) 0 q in
            let onward : is_onward e.kind ≡ true = rw (event_number r.state e, q) at w in
            keep_onward r e.moment.at e.moment.on_off e.kind onward z h
        go false q = rw (refused_is r e (eqb-false (number_of r.state e) 0 q)) h
