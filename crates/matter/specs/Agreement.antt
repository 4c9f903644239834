-- Where the machine does what the Matter document says of whole commands: for every state, on the inputs that each line names.
use Rattle.std.specs.Prelude.{ℕ, ◌≤◌, Bool, true, false, cond, ◌&&◌, ◌≡◌, ◌⊎◌, List, [], ◌∷◌, Some, None}
use Rattle.units.specs.declared.Tenths.{Tenths}
use Rattle.transitions.specs.Matter.{executes}
use Rattle.transitions.specs.Tasks.{fade_last}
use Rattle.transitions.specs.declared.events.DeviceAnswer.{DeviceAnswer}
use Rattle.transitions.specs.declared.events.DeviceAnswer.TheVariants as device
use Rattle.transitions.specs.declared.events.Event.{Event}
use Rattle.transitions.specs.declared.events.EventKind.{EventKind}
use Rattle.transitions.specs.declared.events.EventKind.TheVariants as kind
use Rattle.transitions.specs.declared.events.MoveRequest.{MoveRequest}
use Rattle.transitions.specs.declared.events.MoveToLevelRequest.{MoveToLevelRequest}
use Rattle.transitions.specs.declared.events.StepRequest.{StepRequest}
use Rattle.transitions.specs.declared.options.CommandOptions.{CommandOptions}
use Rattle.transitions.specs.declared.tasks.Fade.{Fade}
use Rattle.transitions.specs.declared.tasks.Task.TheVariants as task
use Rattle.transitions.specs.Types.{Level}
use Rattle.transitions.specs.declared.types.OptionsBitmap.{OptionsBitmap}
use Rattle.level_control.specs.Answer.{Outcome}
use Rattle.level_control.specs.Judge.{latest}
use Rattle.level_control.specs.Handle.{event_of}
use Rattle.level_control.specs.Run.{Run, Nothing, accepted, asks, started, next, play, only_onward, only_echo, all_refused, state_after}
use Rattle.event_theorems.specs.Table.{request_open}
use Rattle.level_theorems.specs.Covered.{Begins}
use Rattle.level_control.specs.declared.state.LevelControlState.{LevelControlState}
use Rattle.matter.specs.Matter.{Effect, Invalid, NotExecuted, NoEffect, Goes, move_to_level, step, move_is_invalid, move_to, after_on, off, after_off, start_up}
use Rattle.transitions.specs.declared.events.Command.TheVariants as command

-- nothing happens: CurrentLevel, the time that remains and what runs are as they were, and nothing is told
pub record Unchanged (s : LevelControlState) (o : Outcome) : Type 0 where
  pub level : o.state.current_level ≡ s.current_level
  pub remaining_time : o.state.remaining_time ≡ s.remaining_time
  pub runs : o.state.task ≡ s.task
  pub quiet : o.actions ≡ []

-- CurrentLevel stays, and what ran is over: nothing is asked for, and neither an answer nor a wake is awaited
pub record AtRest (s : LevelControlState) (o : Outcome) : Type 0 where
  pub level : o.state.current_level ≡ s.current_level
  pub rests : o.state.task ≡ task.Rest
  pub asks_nothing : (started o).asked ≡ []
  pub awaits_nothing : (started o).pending ≡ Nothing

-- the machine does in an event what the document says: it refuses with 10; or does nothing; or keeps CurrentLevel, and what ran is over; or starts the
-- fade, of which Every fade (docs/RULES.md) says how it goes on to its end
abbrev pub Does : LevelControlState → Event → Effect → Type 0
Does s e Invalid = (event_of s e).number ≡ 10
Does s e NotExecuted = Unchanged s (event_of s e)
Does s e NoEffect = AtRest s (event_of s e)
Does s e (Goes from to tenths) = Begins from to tenths e.moment.at (event_of s e).state

-- an event's turn has come: its time is neither below the last accepted one nor above 2^62 − 1, and no request is open
pub record HasTurn (s : LevelControlState) (e : Event) : Type 0 where
  pub not_before : s.last_accepted.0 ≤ e.moment.at.0
  pub not_after : e.moment.at.0 ≤ latest.0
  pub none_open : request_open s.task ≡ false

-- the Options processing lets a command pass
abbrev pub passes : LevelControlState → Event → Bool → OptionsBitmap → OptionsBitmap → Bool
passes s e with_on_off mask override = executes with_on_off s.settings.coupled e.moment.on_off s.attributes.options.0 mask.0 override.0

-- a level that is no 255
abbrev pub IsLevel : Level → Type 0
IsLevel (Some level) = level ≤ 254
IsLevel None = Unit {0}

-- 0, or within the range
abbrev pub InRange : Level → ℕ → ℕ → Type 0
InRange (Some level) min max = (level ≡ 0) ⊎ ((min ≤ level) × (level ≤ max))
InRange None min max = Unit {0}

abbrev pub levels : Level → List ℕ
levels (Some level) = level ∷ []
levels None = []

-- The level that the device gives.

abbrev pub level_answered : DeviceAnswer → ℕ → ℕ
level_answered (device.Level level) before = level
level_answered device.Missing before = before
level_answered device.Failed before = before

abbrev pub level_given : EventKind → ℕ → ℕ
level_given kind.StartUp before = before
level_given (kind.Answer answer) before = level_answered answer before
level_given kind.Wake before = before
level_given (kind.Command c) before = before

-- the level of the last accepted answer of a list, or the one before where no answer is accepted: there the device is
abbrev pub device_level : Run → List Event → ℕ → ℕ
device_level r [] before = before
device_level r (e ∷ es) before = device_level (next r e) es (cond (accepted r.state e) (level_given e.kind before) before)

-- answers, with a level or not, and wakes

abbrev pub is_reply : EventKind → Bool
is_reply kind.StartUp = false
is_reply (kind.Answer answer) = true
is_reply kind.Wake = true
is_reply (kind.Command c) = false

abbrev pub only_replies : List Event → Bool
only_replies [] = true
only_replies (e ∷ es) = is_reply e.kind && only_replies es

pub record Agreement : Type 0 where
  -- MoveToLevel, with a level of at most 254 and a time that is given
  pub move_to_level_agrees : (s : LevelControlState) (e : Event) (r : MoveToLevelRequest) (c : ℕ) (T : Tenths)
      → e.kind ≡ kind.Command (command.MoveToLevel r) → accepted s e ≡ true → s.current_level ≡ Some c → s.settings.range.min ≤ s.settings.range.max
      → r.level ≤ 254 → r.transition_time ≡ Some T
      → Does s e
      (move_to_level (passes s e r.options.with_on_off r.options.options_mask r.options.options_override) s.settings.range.min s.settings.range.max c r.level
      r.transition_time s.attributes.on_off_transition_time.0)
  -- and with a null time where CurrentLevel goes nowhere: the options stop the command, or the target is reached already
  pub move_to_level_stays : (s : LevelControlState) (e : Event) (r : MoveToLevelRequest) (c : ℕ)
      → e.kind ≡ kind.Command (command.MoveToLevel r) → accepted s e ≡ true → s.current_level ≡ Some c → s.settings.range.min ≤ s.settings.range.max
      → r.level ≤ 254 → r.transition_time ≡ None → (effect : Effect)
      → move_to_level (passes s e r.options.with_on_off r.options.options_mask r.options.options_override) s.settings.range.min s.settings.range.max c r.level
      r.transition_time s.attributes.on_off_transition_time.0 ≡ effect
      → ((from to tenths : ℕ) → effect ≡ Goes from to tenths → ⊥) → Does s e effect
  -- Step, from a level within MIN..MAX, MAX at most 254, where it is not refused
  pub step_agrees : (s : LevelControlState) (e : Event) (r : StepRequest) (c : ℕ)
      → e.kind ≡ kind.Command (command.Step r) → accepted s e ≡ true → s.current_level ≡ Some c → s.settings.range.min ≤ c → c ≤ s.settings.range.max
      → s.settings.range.max ≤ 254 → 1 ≤ r.step_size
      → Does s e
      (step (passes s e r.options.with_on_off r.options.options_mask r.options.options_override) r.mode s.settings.range.min s.settings.range.max c
      r.step_size r.transition_time)
  -- Step of size 0, from whatever level: it is refused where its turn has come
  pub step_invalid : (s : LevelControlState) (e : Event) (r : StepRequest) (c : ℕ)
      → e.kind ≡ kind.Command (command.Step r) → HasTurn s e
      → step (passes s e r.options.with_on_off r.options.options_mask r.options.options_override) r.mode s.settings.range.min s.settings.range.max c
      r.step_size r.transition_time ≡ Invalid
      → Does s e Invalid
  -- Off, from a known level; MIN at most MAX
  pub off_agrees : (s : LevelControlState) (e : Event) (c : ℕ)
      → e.kind ≡ kind.Command (command.OnOffChanged false) → accepted s e ≡ true → s.current_level ≡ Some c
      → s.settings.range.min ≤ s.settings.range.max → s.settings.range.max ≤ 254
      → Does s e (off c s.settings.range.min s.attributes.off_transition_time s.attributes.on_off_transition_time.0)
  -- On: the device is asked for the minimum
  pub on_asks : (s : LevelControlState) (e : Event) → e.kind ≡ kind.Command (command.OnOffChanged true) → accepted s e ≡ true
      → asks (event_of s e).actions ≡ s.settings.range.min ∷ []
  -- and where it answers the minimum, the level goes on as the document says, after any refused events; an on level of at most 254
  pub on_agrees : (s : LevelControlState) (e a : Event) (es : List Event)
      → e.kind ≡ kind.Command (command.OnOffChanged true) → accepted s e ≡ true → all_refused (event_of s e).state es ≡ true
      → a.kind ≡ kind.Answer (device.Level s.settings.range.min) → accepted (state_after (event_of s e).state es) a ≡ true
      → s.settings.range.min ≤ s.settings.range.max → IsLevel s.attributes.on_level → IsLevel s.current_level
      → (from to tenths : ℕ)
      → after_on s.attributes.on_level s.current_level s.settings.range.min s.settings.range.max s.attributes.on_transition_time
      s.attributes.on_off_transition_time.0 ≡ Goes from to tenths
      → Begins from to tenths a.moment.at (event_of (state_after (event_of s e).state es) a).state
  -- the end of off: the fade keeps the level at its start, and after its last answer CurrentLevel is what the document says
  pub off_ends : (s : LevelControlState) (e : Event) (f : Fade) (stored v : ℕ)
      → s.task ≡ task.Fade f → f.put_back ≡ Some stored → fade_last f ≡ true → e.kind ≡ kind.Answer (device.Level v) → accepted s e ≡ true
      → (event_of s e).state.current_level ≡ Some (after_off s.attributes.on_level stored v)
  -- Off from a known level, in any state: whatever levels the device answers, if only these and wakes are accepted up to rest, CurrentLevel is then what the
  -- document says, where the device is being told by the last answer, or, nothing being asked, the level at the command
  pub off_at_rest : (s : LevelControlState) (e : Event) (c : ℕ) (es : List Event)
      → e.kind ≡ kind.Command (command.OnOffChanged false) → accepted s e ≡ true → s.current_level ≡ Some c
      → only_onward (started (event_of s e)) es ≡ true → (play (started (event_of s e)) es).pending ≡ Nothing
      → (play (started (event_of s e)) es).state.current_level ≡ Some (after_off s.attributes.on_level c (device_level (started (event_of s e)) es c))
  -- StartUpCurrentLevel: 0, null, or a value within MIN..MAX
  pub start_up_agrees : (s : LevelControlState) (e : Event) (level : ℕ)
      → e.kind ≡ kind.StartUp → accepted s e ≡ true → s.settings.range.min ≤ s.settings.range.max
      → InRange s.attributes.start_up_current_level s.settings.range.min s.settings.range.max
      → start_up s.attributes.start_up_current_level s.settings.range.min s.current_level ≡ Some level
      → asks (event_of s e).actions ≡ level ∷ []
  -- and of a lamp that gives back what it was asked for, if only its answers and wakes are accepted up to rest, nothing more is asked for, and CurrentLevel
  -- is then that level
  pub start_up_at_rest : (s : LevelControlState) (e : Event) (level : ℕ) (es : List Event)
      → e.kind ≡ kind.StartUp → accepted s e ≡ true → s.settings.range.min ≤ s.settings.range.max
      → InRange s.attributes.start_up_current_level s.settings.range.min s.settings.range.max
      → start_up s.attributes.start_up_current_level s.settings.range.min s.current_level ≡ Some level
      → only_echo (started (event_of s e)) es ≡ true → (play (started (event_of s e)) es).pending ≡ Nothing
      → ((play (started (event_of s e)) es).asked ≡ level ∷ []) × ((play (started (event_of s e)) es).state.current_level ≡ Some level)
  -- Stop, past the Options processing: what ran is terminated, and no time remains [general]
  pub stop : (s : LevelControlState) (e : Event) (r : CommandOptions)
      → e.kind ≡ kind.Command (command.Stop r) → accepted s e ≡ true → passes s e r.with_on_off r.options_mask r.options_override ≡ true
      → ((event_of s e).state.task ≡ task.Rest) × ((event_of s e).state.remaining_time.0 ≡ 0) × ((event_of s e).state.current_level ≡ s.current_level)
  -- and it stays so: nothing is asked for or awaited, every answer and every wake that comes after it is refused, CurrentLevel stays and no time remains
  pub stop_at_rest : (s : LevelControlState) (e : Event) (r : CommandOptions) (es : List Event)
      → e.kind ≡ kind.Command (command.Stop r) → accepted s e ≡ true → passes s e r.with_on_off r.options_mask r.options_override ≡ true
      → only_replies es ≡ true
      → AtRest s (event_of s e) × (all_refused (event_of s e).state es ≡ true)
      × ((state_after (event_of s e).state es).current_level ≡ s.current_level) × ((state_after (event_of s e).state es).remaining_time.0 ≡ 0)
  -- Stop, stopped by the Options processing: nothing happens
  pub stop_not_executed : (s : LevelControlState) (e : Event) (r : CommandOptions)
      → e.kind ≡ kind.Command (command.Stop r) → accepted s e ≡ true → passes s e r.with_on_off r.options_mask r.options_override ≡ false
      → Does s e NotExecuted
  -- Move, past the Options processing, from a level within MIN..MAX, MAX at most 254: the next level towards the limit is asked for;
  -- at the limit nothing is
  pub move_asks : (s : LevelControlState) (e : Event) (r : MoveRequest) (c : ℕ)
      → e.kind ≡ kind.Command (command.Move r) → accepted s e ≡ true → passes s e r.options.with_on_off r.options.options_mask r.options.options_override ≡ true
      → s.current_level ≡ Some c → s.settings.range.min ≤ c → c ≤ s.settings.range.max → s.settings.range.max ≤ 254
      → asks (event_of s e).actions ≡ levels (move_to r.mode s.settings.range.min s.settings.range.max c)
  -- and what runs goes on there, of which the document does not speak
  pub move_at_limit : (s : LevelControlState) (e : Event) (r : MoveRequest) (c : ℕ)
      → e.kind ≡ kind.Command (command.Move r) → accepted s e ≡ true → passes s e r.options.with_on_off r.options.options_mask r.options.options_override ≡ true
      → s.current_level ≡ Some c → move_to r.mode s.settings.range.min s.settings.range.max c ≡ None
      → Unchanged s (event_of s e)
  -- Move, stopped by the Options processing: nothing happens
  pub move_not_executed : (s : LevelControlState) (e : Event) (r : MoveRequest)
      → e.kind ≡ kind.Command (command.Move r) → accepted s e ≡ true → passes s e r.options.with_on_off r.options.options_mask r.options.options_override ≡ false
      → Does s e NotExecuted
  -- Move at a given rate of 0: it is refused where its turn has come
  pub move_invalid : (s : LevelControlState) (e : Event) (r : MoveRequest)
      → e.kind ≡ kind.Command (command.Move r) → HasTurn s e → move_is_invalid r.rate ≡ true → Does s e Invalid
