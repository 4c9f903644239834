-- Off, from its event to rest: what holds between two events of its fade, and at rest. Assumes nothing.
use Rattle.std.specs.Prelude.{Option, Some, None}
use Prim.Native.Nat.{ℕ}
use mathlib.Core.Bool.{Bool, true, false, cond, not, ◌||◌, false≢true}
use mathlib.Core.Path.{◌≡◌, refl, sym, ap, subst, ◌∙◌}
use mathlib.Core.List.{List, [], ◌∷◌}
use native.Mathlib.Omega.{arith}
use borrow.Author.Tests.{eqb-true, eqb-false}
use lib.Dec.{eqb}
use Rattle.std.proofs.lemmas.Bool.{and_parts}
use Rattle.units.specs.declared.Micros.{Micros}
use Rattle.transitions.specs.Events.{event}
use Rattle.transitions.specs.Tasks.{begin_fade, fade_from, fade_last, fade_next, fade_asking, fade_waiting, level_to_put_back, task_open, task_due, phase_open, phase_due}
use Rattle.transitions.specs.Types.{Level, is_level}
use Rattle.transitions.specs.declared.actions.ActionKind.TheVariants.{P, L}
use Rattle.transitions.specs.declared.events.DeviceAnswer.{DeviceAnswer}
use Rattle.transitions.specs.declared.events.DeviceAnswer.TheVariants as device
use Rattle.transitions.specs.declared.events.Event.{Event}
use Rattle.transitions.specs.declared.events.EventKind.{EventKind}
use Rattle.transitions.specs.declared.events.EventKind.TheVariants as kind
use Rattle.transitions.specs.declared.tasks.Begin.TheVariants as begin
use Rattle.transitions.specs.declared.tasks.Fade.{Fade}
use Rattle.transitions.specs.declared.tasks.FadeRequest.{FadeRequest}
use Rattle.transitions.specs.declared.tasks.Phase.{Phase}
use Rattle.transitions.specs.declared.tasks.Phase.TheVariants.{Asked, Waiting}
use Rattle.transitions.specs.declared.tasks.Task.{Task}
use Rattle.transitions.specs.declared.tasks.Task.TheVariants as task
use Rattle.level_control.specs.State.{accept}
use Rattle.level_control.specs.Answer.{Outcome}
use Rattle.level_control.specs.Judge.{command_tests_of}
use Rattle.level_control.specs.Handle.{fade_answered_in, answered_in, woken_in, run, number_of, event_of}
use Rattle.level_control.specs.Fades.{fade_told, fade_stored, ended_put_back, fade_ended_by, fade_ended, fade_then, fade_goes_on, move_to_level_transition, fade_answered, fade_woken}
use Rattle.level_control.specs.Reactions.{turned_off, switched, off_time}
use Rattle.level_control.specs.Reports.{Told, set_level, write_remaining_time}
use Rattle.level_control.specs.Coupling.{coupled_by}
use Rattle.level_control.specs.Run.{Run, Pending, Nothing, opened, closed_by, accepted, started, is_onward, only_onward, play, next as next_run}
use Rattle.level_control.specs.Targets.{go_to, go_to_by, request_to, quiet}
use Rattle.level_control.specs.declared.state.LevelControlState.{LevelControlState}
use Rattle.level_control.proofs.EveryFade.{accepted_zero}
use Rattle.level_control.proofs.EventLaws.{event_number, event_runs}
use Rattle.level_control.proofs.FadeInvariant as fade
use Rattle.level_control.proofs.FadeInvariant.{pending_in}
use Rattle.level_control.proofs.SeenLaws.{Silent, silent_append, silent_if, silent_reports, silent_coupled, opened_after}
use Rattle.matter.specs.Matter.{after_off}
use Rattle.matter.specs.Agreement.{level_given, device_level}
use Rattle.matter.proofs.Changes.{is_open, is_due, no_request, no_wait}
use Rattle.transitions.specs.declared.events.Command.TheVariants as command

-- off found the level c
module _ (c : ℕ) (on_level : Level) where
  -- the fade keeps c for its end; at rest the level is what the document says, from where the device is
  abbrev Held : ℕ → Pending → Level → Task → Type 0
  Held reached p level task.Rest = (level ≡ Some (after_off on_level c reached)) × (p ≡ Nothing)
  Held reached p level task.StartUp = ⊥
  Held reached p level (task.Fade f) = (f.put_back ≡ Some c) × (p ≡ pending_in f.phase)
  Held reached p level (task.Move m) = ⊥
  Held reached p level (task.OnReaction r) = ⊥

  abbrev Kept : ℕ → Run → Type 0
  Kept reached r = (r.state.attributes.on_level ≡ on_level) × Held reached r.pending r.state.current_level r.state.task

  -- after an outcome that closed what was open
  abbrev After : ℕ → Outcome → Type 0
  After reached o = (o.state.attributes.on_level ≡ on_level) × Held reached (opened o.actions Nothing) o.state.current_level o.state.task

  -- an answer with a level
  ended : (told : Told) (v : ℕ) → told.state.attributes.on_level ≡ on_level → told.state.current_level ≡ Some v
      → After v (fade_ended told (Some c))
  unfolding fade_ended level_to_put_back ended_put_back
  ended told v stays level = by told.state.attributes.on_level stays
    where
      quietly : Silent (ended_put_back told c).actions
      quietly =
          silent_append _ _
          (silent_append _ _ (silent_reports told.reports)
          (silent_if P (not (is_level told.state.current_level c)) (record { no_ask = refl; no_open = λ p. refl })))
          (record { no_ask = refl; no_open = λ p. refl })

      by : (l : Level) → l ≡ on_level → After v (fade_ended_by (level_to_put_back (Some c) l) told)
      by (Some x) q = (stays, (level ∙ ap (λ (l : Level). Some (after_off l c v)) q, (silent_reports told.reports).no_open Nothing))
      by None q = (stays, (ap (λ (l : Level). Some (after_off l c v)) q, quietly.no_open Nothing))

  goes_on : (f : Fade) (since at : Micros) (told : Told) (v : ℕ) → f.put_back ≡ Some c → told.state.attributes.on_level ≡ on_level
      → After v (fade_goes_on told f since at)
  unfolding fade_goes_on fade_waiting fade_asking
  goes_on f since at told v puts stays = by (fade_next f since at)
    where
      by : (n : Option Micros) → After v (fade_then n told f at)
      by (Some until) = rw opened_after (stays, (puts, refl))
      by None = rw opened_after (stays, (puts, refl))

  answer_keeps : (s : LevelControlState) (f : Fade) (since at : Micros) (on : Bool) (v : ℕ) → f.put_back ≡ Some c → s.attributes.on_level ≡ on_level
      → After v (move_to_level_transition s f since at on v)
  unfolding move_to_level_transition fade_told fade_stored set_level write_remaining_time
  answer_keeps s f since at on v puts stays = by (fade_last f)
    where
      told : Told
      told = fade_told s f at on v

      by : (b : Bool) → After v (cond b (fade_ended told f.put_back) (fade_goes_on told f since at))
      by true = subst (λ (a : Option ℕ). After v (fade_ended told a)) (sym puts) (ended told v stays refl)
      by false = goes_on f since at told v puts stays

  after_answer : (s : LevelControlState) (v : ℕ) (at : Micros) (on : Bool) (reached : ℕ) (p : Pending) (x : Task)
      → task_open x ≡ true → s.attributes.on_level ≡ on_level → Held reached p s.current_level x → After v (answered_in x s (device.Level v) at on)
  unfolding fade_answered
  after_answer s v at on reached p task.Rest o stays h = absurd (false≢true o)
  after_answer s v at on reached p task.StartUp o stays h = absurd h
  after_answer s v at on reached p (task.Fade f) o stays h = by f.phase o
    where
      by : (q : Phase) → phase_open q ≡ true → After v (fade_answered_in q s f (device.Level v) at on)
      by (Asked since) o = answer_keeps s f since at on v h.0 stays
      by (Waiting until) o = absurd (false≢true o)
  after_answer s v at on reached p (task.Move m) o stays h = absurd h
  after_answer s v at on reached p (task.OnReaction r) o stays h = absurd h

  -- a wake
  after_wake : (s : LevelControlState) (at : Micros) (on : Bool) (reached : ℕ) (p : Pending) (x : Task)
      → task_due x at ≡ true → s.attributes.on_level ≡ on_level → Held reached p s.current_level x → After reached (woken_in x s at on)
  unfolding fade_woken fade_asking
  after_wake s at on reached p task.Rest o stays h = absurd (false≢true o)
  after_wake s at on reached p task.StartUp o stays h = absurd h
  after_wake s at on reached p (task.Fade f) o stays h = (stays, (h.0, refl))
  after_wake s at on reached p (task.Move m) o stays h = absurd h
  after_wake s at on reached p (task.OnReaction r) o stays h = absurd h

  -- what was open is closed by the event
  answer_closes : (a : DeviceAnswer) (reached : ℕ) (p : Pending) (l : Level) (x : Task) → task_open x ≡ true → Held reached p l x
      → closed_by (kind.Answer a) p ≡ Nothing
  answer_closes a reached p l task.Rest o h = absurd (false≢true o)
  answer_closes a reached p l task.StartUp o h = absurd h
  answer_closes a reached p l (task.Fade f) o h = by f.phase o h.1
    where
      by : (q : Phase) → phase_open q ≡ true → p ≡ pending_in q → closed_by (kind.Answer a) p ≡ Nothing
      by (Asked since) o e = rw e refl
      by (Waiting until) o e = absurd (false≢true o)
  answer_closes a reached p l (task.Move m) o h = absurd h
  answer_closes a reached p l (task.OnReaction r) o h = absurd h

  wake_closes : (at : Micros) (reached : ℕ) (p : Pending) (l : Level) (x : Task) → task_due x at ≡ true → Held reached p l x
      → closed_by kind.Wake p ≡ Nothing
  wake_closes at reached p l task.Rest o h = absurd (false≢true o)
  wake_closes at reached p l task.StartUp o h = absurd h
  wake_closes at reached p l (task.Fade f) o h = by f.phase o h.1
    where
      by : (q : Phase) → phase_due q at ≡ true → p ≡ pending_in q → closed_by kind.Wake p ≡ Nothing
      by (Asked since) o e = absurd (false≢true o)
      by (Waiting until) o e = rw e refl
  wake_closes at reached p l (task.Move m) o h = absurd h
  wake_closes at reached p l (task.OnReaction r) o h = absurd h

  keep_answer : (r : Run) (at : Micros) (on : Bool) (v reached : ℕ) → number_of r.state (event at on (kind.Answer (device.Level v))) ≡ 0
      → Kept reached r → Kept v (next_run r (event at on (kind.Answer (device.Level v))))
  keep_answer r at on v reached z h =
      let s : LevelControlState = r.state in
      let e : Event = event at on (kind.Answer (device.Level v)) in
      let o : Outcome = answered_in s.task (accept s at) (device.Level v) at on in
      let opens : task_open s.task ≡ true = is_open s at on (device.Level v) z in
      let same : event_of s e ≡ o = fade.answer_is 0 0 1 (omega arith) (omega arith) s at on v z in
      let zero : o.number ≡ 0 = ap (λ (y : Outcome). y.number) (sym same) ∙ event_number s e ∙ z in
      rw (fade.next_is 0 0 1 (omega arith) (omega arith) r e o same zero, answer_closes (device.Level v) reached r.pending s.current_level s.task opens h.1)
      (after_answer (accept s at) v at on reached r.pending s.task opens h.0 h.1)

  keep_wake : (r : Run) (at : Micros) (on : Bool) (reached : ℕ) → number_of r.state (event at on kind.Wake) ≡ 0 → Kept reached r
      → Kept reached (next_run r (event at on kind.Wake))
  keep_wake r at on reached z h =
      let s : LevelControlState = r.state in
      let e : Event = event at on kind.Wake in
      let o : Outcome = woken_in s.task (accept s at) at on in
      let due : task_due s.task at ≡ true = is_due s at on z in
      let same : event_of s e ≡ o = fade.wake_is 0 0 1 (omega arith) (omega arith) s at on z in
      let zero : o.number ≡ 0 = ap (λ (y : Outcome). y.number) (sym same) ∙ event_number s e ∙ z in
      rw (fade.next_is 0 0 1 (omega arith) (omega arith) r e o same zero, wake_closes at reached r.pending s.current_level s.task due h.1)
      (after_wake (accept s at) at on reached r.pending s.task due h.0 h.1)

  keep_onward : (r : Run) (at : Micros) (on : Bool) (k : EventKind) (reached : ℕ) → is_onward k ≡ true → number_of r.state (event at on k) ≡ 0
      → Kept reached r → Kept (level_given k reached) (next_run r (event at on k))
  keep_onward r at on kind.StartUp reached w z h = absurd (false≢true w)
  keep_onward r at on (kind.Answer (device.Level v)) reached w z h = keep_answer r at on v reached z h
  keep_onward r at on (kind.Answer device.Missing) reached w z h = absurd (false≢true w)
  keep_onward r at on (kind.Answer device.Failed) reached w z h = absurd (false≢true w)
  keep_onward r at on kind.Wake reached w z h = keep_wake r at on reached z h
  keep_onward r at on (kind.Command x) reached w z h = absurd (false≢true w)

  -- every event that the list may hold keeps it, a refused one too
  keep : (r : Run) (e : Event) (reached : ℕ) → (not (accepted r.state e) || is_onward e.kind) ≡ true → Kept reached r
      → Kept (cond (accepted r.state e) (level_given e.kind reached) reached) (next_run r e)
  keep r e reached w h = go (eqb (number_of r.state e) 0) refl
    where
      go : (b : Bool) → eqb (number_of r.state e) 0 ≡ b → Kept (cond (accepted r.state e) (level_given e.kind reached) reached) (next_run r e)
      go true q =
          let onward : is_onward e.kind ≡ true = rw (event_number r.state e, q) at w in
          rw (event_number r.state e, q) (keep_onward r e.moment.at e.moment.on_off e.kind reached onward (eqb-true (number_of r.state e) 0 q) h)
      go false q = rw (event_number r.state e, q, fade.refused_is 0 0 1 (omega arith) (omega arith) r e (eqb-false (number_of r.state e) 0 q)) h

  plays : (es : List Event) (r : Run) (reached : ℕ) → only_onward r es ≡ true → Kept reached r → Kept (device_level r es reached) (play r es)
  plays [] r reached w h = h
  plays (e ∷ es) r reached w h =
      let parts = and_parts (not (accepted r.state e) || is_onward e.kind) (only_onward (next_run r e) es) w in
      plays es (next_run r e) _ parts.1 (keep r e reached parts.0 h)

  -- at rest
  rests : (reached : ℕ) (p : Pending) (l : Level) (x : Task) → p ≡ Nothing → Held reached p l x → l ≡ Some (after_off on_level c reached)
  rests reached p l task.Rest n h = h.0
  rests reached p l task.StartUp n h = absurd h
  rests reached p l (task.Fade f) n h = by f.phase h.1
    where
      by : (q : Phase) → p ≡ pending_in q → l ≡ Some (after_off on_level c reached)
      by (Asked since) e = absurd (no_request (sym e ∙ n))
      by (Waiting until) e = absurd (no_wait (sym e ∙ n))
  rests reached p l (task.Move m) n h = absurd h
  rests reached p l (task.OnReaction r) n h = absurd h

  -- MIN is the target: the fade begins, or it is reached already
  begins : (told : Told) (r : FadeRequest) (at : Micros) (on : Bool) → r.puts_back ≡ true → told.state.attributes.on_level ≡ on_level
      → told.state.current_level ≡ Some c → After c (go_to told r at on)
  unfolding go_to begin_fade fade_from
  begins told r at on puts stays level =
      subst (λ (l : Level). After c (go_to_by (begin_fade l r at) told r on)) (sym level) (by (eqb c r.target))
    where
      -- c is where the device is
      here : (l : Level) → c ≡ after_off l c c
      here (Some x) = refl
      here None = refl

      quietly : Silent (go_to_by begin.Reached told r on).actions
      quietly =
          silent_append _ _
          (silent_append _ _ (silent_reports told.reports) (silent_coupled (coupled_by told.state r.target r.with_on_off on)))
          (silent_if L _ (record { no_ask = refl; no_open = λ p. refl }))

      by : (b : Bool) → After c (go_to_by (cond b begin.Reached (begin.Starts (fade_from c r at))) told r on)
      by true = (stays, (level ∙ ap (λ (x : ℕ). Some x) (here on_level), quietly.no_open Nothing))
      by false = rw opened_after (stays, (ap (λ (b : Bool). cond {A = Option ℕ} b (Some c) None) puts, refl))

off_is : (s : LevelControlState) (at : Micros) (on : Bool) → number_of s (event at on (kind.Command (command.OnOffChanged false))) ≡ 0
    → event_of s (event at on (kind.Command (command.OnOffChanged false)))
    ≡ go_to (quiet (accept s at)) (request_to (accept s at) s.settings.range.min (off_time (accept s at)) true false true) at on
unfolding run switched turned_off command_tests_of
off_is s at on z = event_runs s (event at on (kind.Command (command.OnOffChanged false))) z refl

off_starts : (s : LevelControlState) (e : Event) (c : ℕ) → e.kind ≡ kind.Command (command.OnOffChanged false) → accepted s e ≡ true
    → s.current_level ≡ Some c → Kept c s.attributes.on_level c (started (event_of s e))
off_starts s e c k ok level =
    subst (λ (x : EventKind). accepted s (event e.moment.at e.moment.on_off x) ≡ true → Kept c s.attributes.on_level c (started (event_of s (event e.moment.at e.moment.on_off x))))
    (sym k) by ok
  where
    at : Micros
    at = e.moment.at

    on : Bool
    on = e.moment.on_off

    by : accepted s (event at on (kind.Command (command.OnOffChanged false))) ≡ true
        → Kept c s.attributes.on_level c (started (event_of s (event at on (kind.Command (command.OnOffChanged false)))))
    by ok =
        rw (off_is s at on (accepted_zero s (event at on (kind.Command (command.OnOffChanged false))) ok))
        (begins c s.attributes.on_level (quiet (accept s at)) (request_to (accept s at) s.settings.range.min (off_time (accept s at)) true false true) at on
        refl refl level)

pub off_at_rest : (s : LevelControlState) (e : Event) (c : ℕ) (es : List Event)
    → e.kind ≡ kind.Command (command.OnOffChanged false) → accepted s e ≡ true → s.current_level ≡ Some c
    → only_onward (started (event_of s e)) es ≡ true → (play (started (event_of s e)) es).pending ≡ Nothing
    → (play (started (event_of s e)) es).state.current_level
    ≡ Some (after_off s.attributes.on_level c (device_level (started (event_of s e)) es c))
off_at_rest s e c es k ok level onward rest =
    let kept = plays c s.attributes.on_level es (started (event_of s e)) c onward (off_starts s e c k ok level) in
    rests c s.attributes.on_level _ _ _ _ rest kept.1
