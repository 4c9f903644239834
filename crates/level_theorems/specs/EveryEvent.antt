-- Every event: what it gives, in every state. No field has a hypothesis that it does not state.
use Rattle.std.specs.Prelude.{ℕ, ◌≤◌, Bool, true, false, ◌≡◌, ◌↔◌, ◌⊎◌, List, [], ◌∷◌, ◌++◌, All, length, take, drop, Option, Some, None}
use Rattle.units.specs.Units.{micros}
use Rattle.units.specs.declared.Micros.{Micros}
use Rattle.transitions.specs.Causes.{Row, rows, event_tests}
use Rattle.transitions.specs.Actions.{action, act}
use Rattle.transitions.specs.Tasks.{fade_last}
use Rattle.transitions.specs.Types.{is_missing}
use Rattle.transitions.specs.Search.{NoneOf, First}
use Rattle.transitions.specs.declared.causes.Tests.{Tests}
use Rattle.transitions.specs.declared.actions.Action.{Action}
use Rattle.transitions.specs.declared.actions.ActionKind.TheVariants.{W, X}
use Rattle.transitions.specs.declared.causes.Refusal.{Refusal}
use Rattle.transitions.specs.declared.events.DeviceAnswer.{DeviceAnswer}
use Rattle.transitions.specs.declared.events.DeviceAnswer.TheVariants as device
use Rattle.transitions.specs.declared.events.Event.{Event}
use Rattle.transitions.specs.declared.events.EventKind.{EventKind}
use Rattle.transitions.specs.declared.events.EventKind.TheVariants as kind
use Rattle.transitions.specs.declared.tasks.Fade.{Fade}
use Rattle.transitions.specs.declared.tasks.Phase.{Phase}
use Rattle.transitions.specs.declared.tasks.Phase.TheVariants.{Asked, Waiting}
use Rattle.transitions.specs.declared.tasks.Task.{Task}
use Rattle.transitions.specs.declared.tasks.Task.TheVariants as task
use Rattle.transitions.specs.declared.settings.Attributes.{Attributes}
use Rattle.transitions.specs.declared.settings.Settings.{Settings}
use Rattle.transitions.specs.Types.{Level}
use Rattle.transitions.specs.Types.{Rate}
use Rattle.level_control.specs.Answer.{packed, answer_of, number_shown}
use Rattle.level_control.specs.Judge.{turn_tests, command_tests_of}
use Rattle.level_control.specs.Handle.{number_of, event_of}
use Rattle.level_theorems.specs.Orders.{kinds_of, OneOf, orders}
use Rattle.level_control.specs.State.{new_state}
use Rattle.level_control.specs.declared.state.LevelControlState.{LevelControlState}
use Rattle.transitions.specs.declared.events.Command.TheVariants as command

-- what the tests of the table of causes say of an event in a state
abbrev pub tests_of : LevelControlState → Event → Tests
tests_of s e = event_tests (turn_tests s e.moment.at e.kind) (command_tests_of s e.moment.on_off e.kind)

-- the options stop the event
abbrev pub stopped_by_options : LevelControlState → Event → Bool
stopped_by_options s e = (command_tests_of s e.moment.on_off e.kind).stopped_by_options

-- where the level that is stored after an event of a kind comes from
pub data LevelFrom (s : LevelControlState) (k : EventKind) : Level → Type 0 where
  -- it is the level before the event
  kept : LevelFrom s k s.current_level
  -- the device answered it, or answered that it is missing
  answered : {v : ℕ} → k ≡ kind.Answer (device.Level v) → LevelFrom s k (Some v)
  missing : k ≡ kind.Answer device.Missing → LevelFrom s k None
  -- the device updated it
  updated : {v : ℕ} → k ≡ kind.Command (command.DeviceUpdate v) → LevelFrom s k (Some v)
  -- an off fade has had its last answer, no on level is known, and the level before that fade is put back
  put_back : {f : Fade} {v before : ℕ} → s.task ≡ task.Fade f → fade_last f ≡ true → f.put_back ≡ Some before
      → is_missing s.attributes.on_level ≡ true → k ≡ kind.Answer (device.Level v) → LevelFrom s k (Some before)

-- a state's attributes but for those that a setter sets
abbrev pub attributes_but : LevelControlState → Level → Rate → Level → Attributes
attributes_but s on rate start = record {
  on_level = on;
  options = s.attributes.options;
  on_off_transition_time = s.attributes.on_off_transition_time;
  on_transition_time = s.attributes.on_transition_time;
  off_transition_time = s.attributes.off_transition_time;
  default_move_rate = rate;
  start_up_current_level = start;
}

-- where the attributes after an event of a kind come from: the transition times and the options change by none but a reset
pub data AttributesFrom (s : LevelControlState) (k : EventKind) : Attributes → Type 0 where
  unchanged : AttributesFrom s k s.attributes
  by_set_on_level : {level : Level} → k ≡ kind.Command (command.SetOnLevel level) → AttributesFrom s k (attributes_but s level s.attributes.default_move_rate s.attributes.start_up_current_level)
  by_set_default_move_rate : {rate : Rate} → k ≡ kind.Command (command.SetDefaultMoveRate rate)
      → AttributesFrom s k (attributes_but s s.attributes.on_level rate s.attributes.start_up_current_level)
  by_set_start_up : {level : Level} → k ≡ kind.Command (command.SetStartUpCurrentLevel level)
      → AttributesFrom s k (attributes_but s s.attributes.on_level s.attributes.default_move_rate level)
  -- a reset puts them back to the configured
  by_factory_reset : k ≡ (kind.Command command.FactoryReset) → AttributesFrom s k s.settings.attributes

-- the state that settings give
pub record FirstState (x : Settings) : Type 0 where
  pub settings : (new_state x).settings ≡ x
  pub attributes : (new_state x).attributes ≡ x.attributes
  -- the level as configured, whatever it is: 0, 255, outside MIN..MAX or missing
  pub level : (new_state x).current_level ≡ x.current_level
  pub previous_level : (new_state x).previous_current_level ≡ None
  pub remaining_time : (new_state x).remaining_time.0 ≡ 0
  pub last_report : (new_state x).last_current_level_notification.0 ≡ 0
  -- at rest, with nothing accepted
  pub rest : (new_state x).task ≡ task.Rest
  pub last_accepted : (new_state x).last_accepted.0 ≡ 0
  pub nothing_accepted : (new_state x).started ≡ false

-- a fade or a move that is in a phase
abbrev pub InPhase : Task → Phase → Type 0
InPhase task.Rest p = ⊥
InPhase task.StartUp p = ⊥
InPhase (task.Fade f) p = f.phase ≡ p
InPhase (task.Move m) p = m.phase ≡ p
InPhase (task.OnReaction r) p = ⊥

-- what stands behind a W u of an event
pub record WaitAfter (s : LevelControlState) (e : Event) (u : ℕ) : Type 0 where
  -- the event is an answer with a level
  pub level : ℕ
  pub answers : e.kind ≡ kind.Answer (device.Level level)
  -- to a request that a fade or a move made, and u is not before it: clock times have 64 bits
  pub since : Micros
  pub asked : InPhase s.task (Asked since)
  pub not_before : since.0 ≤ 18446744073709551615 → since.0 ≤ u
  -- and the fade or the move waits until u
  pub waits : InPhase (event_of s e).state.task (Waiting (micros u))

pub record EveryEvent : Type 0 where
  -- Before the first event the state is the one that settings give.
  pub first_state : (x : Settings) → FirstState x
  -- An event whose number is not 0 gives back the state it was given, and no action.
  pub refused_keeps : (s : LevelControlState) (e : Event) → ((event_of s e).number ≡ 0 → ⊥)
      → ((event_of s e).state ≡ s) × ((event_of s e).actions ≡ [])
  -- The number is that of the first row of the table that applies, the options being a row with number 0 between 10 and 11; it is 0 without such a
  -- row exactly if none applies.
  pub first_cause_is_first : (s : LevelControlState) (e : Event) (n : ℕ)
      → ((event_of s e).number ≡ n)
      ↔ (((r : Row) × First (λ r. r.applies) (rows (tests_of s e)) r × (r.number ≡ n))
      ⊎ (NoneOf (λ r. r.applies) (rows (tests_of s e)) × (n ≡ 0)))
  -- 6 is never the number of an answer; 7 is that of an answer alone, 8 of a wake alone, and 9 of start-up alone.
  pub never_6_of_answer : (s : LevelControlState) (e : Event) (a : DeviceAnswer) → e.kind ≡ kind.Answer a → (event_of s e).number ≡ 6 → ⊥
  pub only_answer_7 : (s : LevelControlState) (e : Event) → (event_of s e).number ≡ 7 → (a : DeviceAnswer) × (e.kind ≡ kind.Answer a)
  pub only_wake_8 : (s : LevelControlState) (e : Event) → (event_of s e).number ≡ 8 → e.kind ≡ kind.Wake
  pub only_start_up_9 : (s : LevelControlState) (e : Event) → (event_of s e).number ≡ 9 → e.kind ≡ kind.StartUp
  -- An event that the options stop is accepted with number 0 and no action, and leaves all as it was but the last accepted time, and that an event was
  -- accepted.
  pub stopped_accepted : (s : LevelControlState) (e : Event) → number_of s e ≡ 0 → stopped_by_options s e ≡ true
      → ((event_of s e).number ≡ 0) × ((event_of s e).actions ≡ [])
      × ((event_of s e).state
      ≡ record {
        settings = s.settings;
        attributes = s.attributes;
        current_level = s.current_level;
        remaining_time = s.remaining_time;
        previous_current_level = s.previous_current_level;
        last_current_level_notification = s.last_current_level_notification;
        last_accepted = e.moment.at;
        started = true;
        task = s.task;
      })
  -- An event gives at most seven actions.
  pub at_most_seven : (s : LevelControlState) (e : Event) → length (event_of s e).actions ≤ 7
  -- They are what stands in the first `count` slots of the answer's array.
  pub slots_are_actions : (s : LevelControlState) (e : Event)
      → take (packed (event_of s e)).count (packed (event_of s e)).actions ≡ (event_of s e).actions
  -- So it is of every list of at most seven, whatever the refusal and the state.
  pub slots_hold : (refusal : Option Refusal) (s : LevelControlState) (l : List Action) → length l ≤ 7
      → take (answer_of refusal s l).count (answer_of refusal s l).actions ≡ l
  -- The array has seven slots, and the free ones, from `count` on, hold X with value 0.
  pub seven_slots : (s : LevelControlState) (e : Event) → length (packed (event_of s e)).actions ≡ 7
  pub free_slots : (s : LevelControlState) (e : Event)
      → All (λ a. a ≡ action X 0) (drop (packed (event_of s e)).count (packed (event_of s e)).actions)
  -- The answer's refusal stands for the event's number: none where it is 0.
  pub refusal_shows_number : (s : LevelControlState) (e : Event) → number_shown (packed (event_of s e)).refusal ≡ (event_of s e).number
  -- The kinds of its actions stand in the order of one of the patterns for its kind and for the task it finds, entries of which may be left out.
  pub action_order : (s : LevelControlState) (e : Event) → OneOf (orders s.task e.kind) (kinds_of (event_of s e).actions)
  -- An accepted reset gives X alone, and the state made from the settings but for the level, which stays, the last accepted time, and that an event was
  -- accepted.
  pub reset : (s : LevelControlState) (e : Event) → e.kind ≡ (kind.Command command.FactoryReset) → (event_of s e).number ≡ 0
      → ((event_of s e).actions ≡ act X 0)
      × ((event_of s e).state
      ≡ record {
        settings = (new_state s.settings).settings;
        attributes = (new_state s.settings).attributes;
        current_level = s.current_level;
        remaining_time = (new_state s.settings).remaining_time;
        previous_current_level = (new_state s.settings).previous_current_level;
        last_current_level_notification = (new_state s.settings).last_current_level_notification;
        last_accepted = e.moment.at;
        started = true;
        task = (new_state s.settings).task;
      })
  -- The last accepted time never falls.
  pub time_never_falls : (s : LevelControlState) (e : Event) → s.last_accepted.0 ≤ (event_of s e).state.last_accepted.0
  -- After an accepted event it is the event's time.
  pub time_accepted : (s : LevelControlState) (e : Event) → (event_of s e).number ≡ 0 → (event_of s e).state.last_accepted ≡ e.moment.at
  -- Wherever W u stands among the actions, the event answers a request, u is not before that request, and the task waits until u.
  pub wait_after_request : (s : LevelControlState) (e : Event) (u : ℕ) (earlier others : List Action)
      → (event_of s e).actions ≡ earlier ++ (action W u ∷ others) → WaitAfter s e u
  -- The stored level is the one before the event, or what the device answered, or what a device update gave, or what an off fade puts back at its end.
  pub level_comes_from : (s : LevelControlState) (e : Event) → LevelFrom s e.kind (event_of s e).state.current_level
  -- What the settings configure never changes; the attributes are as before the event, but for the one that an accepted setter sets, or, after a reset, as
  -- configured.
  pub settings_stay : (s : LevelControlState) (e : Event) → (event_of s e).state.settings ≡ s.settings
  pub attributes_come_from : (s : LevelControlState) (e : Event) → AttributesFrom s e.kind (event_of s e).state.attributes
