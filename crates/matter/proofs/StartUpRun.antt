-- Start-up, from its event to rest, with a lamp that gives back what it was asked for. Assumes nothing.
use Rattle.std.specs.Prelude.{Some, None}
use Prim.Native.Nat.{ℕ, ◌≤◌}
use mathlib.Core.Bool.{Bool, true, false, not, ◌||◌, false≢true}
use mathlib.Core.Path.{◌≡◌, refl, sym, ap, ◌∙◌}
use mathlib.Core.List.{List, [], ◌∷◌, ◌++◌}
use native.Mathlib.Omega.{arith}
use borrow.Author.Tests.{eqb-true, eqb-false}
use lib.Dec.{eqb}
use Rattle.std.proofs.lemmas.Bool.{and_parts}
use Rattle.units.specs.declared.Micros.{Micros}
use Rattle.transitions.specs.Events.{event}
use Rattle.transitions.specs.Tasks.{task_open, task_due}
use Rattle.transitions.specs.Types.{Level, same_level}
use Rattle.transitions.specs.declared.actions.ActionKind.TheVariants.{P}
use Rattle.transitions.specs.declared.events.DeviceAnswer.TheVariants as device
use Rattle.transitions.specs.declared.events.Event.{Event}
use Rattle.transitions.specs.declared.events.EventKind.{EventKind}
use Rattle.transitions.specs.declared.events.EventKind.TheVariants as kind
use Rattle.transitions.specs.declared.tasks.Task.{Task}
use Rattle.transitions.specs.declared.tasks.Task.TheVariants as task
use Rattle.level_control.specs.State.{accept}
use Rattle.level_control.specs.Answer.{Outcome}
use Rattle.level_control.specs.Judge.{command_tests_of}
use Rattle.level_control.specs.Handle.{answered_in, run, number_of, event_of}
use Rattle.level_control.specs.StartUp.{start_up_or, start_up_level, start_up_at, started_up, stored_start_up, start_up_answered}
use Rattle.level_control.specs.Run.{Run, Pending, Nothing, Request, asks, opened, closed_by, accepted, started, is_echo, only_echo, last_of, play, next as next_run}
use Rattle.level_control.specs.declared.state.LevelControlState.{LevelControlState}
use Rattle.level_control.proofs.EventLaws.{event_number}
use Rattle.level_control.proofs.FadeInvariant as fade
use Rattle.level_control.proofs.SeenLaws.{Silent, silent_if}
use Rattle.matter.specs.Matter.{start_up}
use Rattle.matter.specs.Agreement.{InRange}
use Rattle.matter.proofs.Changes.{is_open, is_due, no_request}
use Rattle.matter.proofs.CommandRules.{runs_as, held}

-- the level is what the device was asked for at start-up
module _ (level : ℕ) where
  abbrev Held : List ℕ → Pending → Level → Task → Type 0
  Held asked p l task.Rest = (asked ≡ level ∷ []) × (l ≡ Some level) × (p ≡ Nothing)
  Held asked p l task.StartUp = (asked ≡ level ∷ []) × (p ≡ Request)
  Held asked p l (task.Fade f) = ⊥
  Held asked p l (task.Move m) = ⊥
  Held asked p l (task.OnReaction r) = ⊥

  abbrev Kept : Run → Type 0
  Kept r = Held r.asked r.pending r.state.current_level r.state.task

  abbrev After : List ℕ → Outcome → Type 0
  After asked o = Held (asked ++ asks o.actions) (opened o.actions Nothing) o.state.current_level o.state.task

  after_answer : (s : LevelControlState) (v : ℕ) (at : Micros) (on : Bool) (asked : List ℕ) (p : Pending) (x : Task)
      → task_open x ≡ true → Held asked p s.current_level x → v ≡ last_of asked → After asked (answered_in x s (device.Level v) at on)
  unfolding start_up_answered stored_start_up
  after_answer s v at on asked p task.Rest o h e = absurd (false≢true o)
  after_answer s v at on asked p task.StartUp o h e =
      let q : Silent _ = silent_if P (not (same_level s.current_level (Some v))) (record { no_ask = refl; no_open = λ p. refl }) in
      rw (h.0, q.no_ask) (refl, ap (λ (n : ℕ). Some n) (e ∙ ap last_of h.0), q.no_open Nothing)
  after_answer s v at on asked p (task.Fade f) o h e = absurd h
  after_answer s v at on asked p (task.Move m) o h e = absurd h
  after_answer s v at on asked p (task.OnReaction r) o h e = absurd h

  answer_closes : (v : ℕ) (asked : List ℕ) (p : Pending) (l : Level) (x : Task) → task_open x ≡ true → Held asked p l x
      → closed_by (kind.Answer (device.Level v)) p ≡ Nothing
  answer_closes v asked p l task.Rest o h = absurd (false≢true o)
  answer_closes v asked p l task.StartUp o h = rw h.1 refl
  answer_closes v asked p l (task.Fade f) o h = absurd h
  answer_closes v asked p l (task.Move m) o h = absurd h
  answer_closes v asked p l (task.OnReaction r) o h = absurd h

  -- nothing waits for a wake
  never_due : (at : Micros) (asked : List ℕ) (p : Pending) (l : Level) (x : Task) → Held asked p l x → task_due x at ≡ true → ⊥
  never_due at asked p l task.Rest h o = false≢true o
  never_due at asked p l task.StartUp h o = false≢true o
  never_due at asked p l (task.Fade f) h o = h
  never_due at asked p l (task.Move m) h o = h
  never_due at asked p l (task.OnReaction r) h o = h

  keep_answer : (r : Run) (at : Micros) (on : Bool) (v : ℕ) → number_of r.state (event at on (kind.Answer (device.Level v))) ≡ 0
      → Kept r → v ≡ last_of r.asked → Kept (next_run r (event at on (kind.Answer (device.Level v))))
  keep_answer r at on v z h gives =
      let s : LevelControlState = r.state in
      let e : Event = event at on (kind.Answer (device.Level v)) in
      let o : Outcome = answered_in s.task (accept s at) (device.Level v) at on in
      let opens : task_open s.task ≡ true = is_open s at on (device.Level v) z in
      let same : event_of s e ≡ o = fade.answer_is 0 0 1 (omega arith) (omega arith) s at on v z in
      let zero : o.number ≡ 0 = ap (λ (y : Outcome). y.number) (sym same) ∙ event_number s e ∙ z in
      rw (fade.next_is 0 0 1 (omega arith) (omega arith) r e o same zero, answer_closes v r.asked r.pending s.current_level s.task opens h)
      (after_answer (accept s at) v at on r.asked r.pending s.task opens h gives)

  keep_echo : (r : Run) (at : Micros) (on : Bool) (k : EventKind) → is_echo k (last_of r.asked) ≡ true → number_of r.state (event at on k) ≡ 0
      → Kept r → Kept (next_run r (event at on k))
  keep_echo r at on kind.StartUp w z h = absurd (false≢true w)
  keep_echo r at on (kind.Answer (device.Level v)) w z h = keep_answer r at on v z h (eqb-true _ _ w)
  keep_echo r at on (kind.Answer device.Missing) w z h = absurd (false≢true w)
  keep_echo r at on (kind.Answer device.Failed) w z h = absurd (false≢true w)
  keep_echo r at on kind.Wake w z h = absurd (never_due at r.asked r.pending r.state.current_level r.state.task h (is_due r.state at on z))
  keep_echo r at on (kind.Command x) w z h = absurd (false≢true w)

  keep : (r : Run) (e : Event) → (not (accepted r.state e) || is_echo e.kind (last_of r.asked)) ≡ true → Kept r → Kept (next_run r e)
  keep r e w h = go (eqb (number_of r.state e) 0) refl
    where
      go : (b : Bool) → eqb (number_of r.state e) 0 ≡ b → Kept (next_run r e)
      go true q =
          let echo : is_echo e.kind (last_of r.asked) ≡ true = rw (event_number r.state e, q) at w in
          keep_echo r e.moment.at e.moment.on_off e.kind echo (eqb-true (number_of r.state e) 0 q) h
      go false q = rw (fade.refused_is 0 0 1 (omega arith) (omega arith) r e (eqb-false (number_of r.state e) 0 q)) h

  plays : (es : List Event) (r : Run) → only_echo r es ≡ true → Kept r → Kept (play r es)
  plays [] r w h = h
  plays (e ∷ es) r w h =
      let parts = and_parts (not (accepted r.state e) || is_echo e.kind (last_of r.asked)) (only_echo (next_run r e) es) w in
      plays es (next_run r e) parts.1 (keep r e parts.0 h)

  -- at rest
  rests : (asked : List ℕ) (p : Pending) (l : Level) (x : Task) → p ≡ Nothing → Held asked p l x → (asked ≡ level ∷ []) × (l ≡ Some level)
  rests asked p l task.Rest n h = (h.0, h.1)
  rests asked p l task.StartUp n h = absurd (no_request (sym h.1 ∙ n))
  rests asked p l (task.Fade f) n h = absurd h
  rests asked p l (task.Move m) n h = absurd h
  rests asked p l (task.OnReaction r) n h = absurd h

starts : (s : LevelControlState) (e : Event) (level : ℕ)
    → e.kind ≡ kind.StartUp → accepted s e ≡ true → s.settings.range.min ≤ s.settings.range.max
    → InRange s.attributes.start_up_current_level s.settings.range.min s.settings.range.max
    → start_up s.attributes.start_up_current_level s.settings.range.min s.current_level ≡ Some level
    → Kept level (started (event_of s e))
unfolding run started_up start_up_level command_tests_of
starts s e level k ok order range says =
    rw (runs_as s e kind.StartUp k ok refl) (by s.attributes.start_up_current_level range says)
  where
    asking : (l : Level) → l ≡ Some level → Kept level (started (start_up_at l (accept s e.moment.at)))
    asking l q = rw q (refl, refl)

    by : (l : Level) → InRange l s.settings.range.min s.settings.range.max → start_up l s.settings.range.min s.current_level ≡ Some level
        → Kept level (started (start_up_at (start_up_or l (accept s e.moment.at)) (accept s e.moment.at)))
    by (Some v) r p = asking _ (ap (λ (n : ℕ). Some n) (held s.settings.range.min s.settings.range.max v level order r p))
    by None r p = asking _ p

pub start_up_at_rest : (s : LevelControlState) (e : Event) (level : ℕ) (es : List Event)
    → e.kind ≡ kind.StartUp → accepted s e ≡ true → s.settings.range.min ≤ s.settings.range.max
    → InRange s.attributes.start_up_current_level s.settings.range.min s.settings.range.max
    → start_up s.attributes.start_up_current_level s.settings.range.min s.current_level ≡ Some level
    → only_echo (started (event_of s e)) es ≡ true → (play (started (event_of s e)) es).pending ≡ Nothing
    → ((play (started (event_of s e)) es).asked ≡ level ∷ []) × ((play (started (event_of s e)) es).state.current_level ≡ Some level)
start_up_at_rest s e level es k ok order range says echo rest =
    rests level _ _ _ _ rest (plays level es (started (event_of s e)) echo (starts s e level k ok order range says))
