-- Settings and reset: the state, and a state with something replaced.
use Rattle.std.specs.Prelude.{true, false, None}
use Rattle.units.specs.Units.{tenths, micros}
use Rattle.units.specs.declared.Tenths.{Tenths}
use Rattle.units.specs.declared.Micros.{Micros}
use Rattle.transitions.specs.declared.tasks.Task.{Task}
use Rattle.transitions.specs.declared.tasks.Task.TheVariants as task
use Rattle.transitions.specs.Types.{Level}
use Rattle.transitions.specs.declared.settings.Attributes.{Attributes}
use Rattle.transitions.specs.declared.settings.Settings.{Settings}
use Rattle.level_control.specs.declared.state.LevelControlState.{LevelControlState}

-- the state that settings give: at rest, nothing accepted, previous level missing, times 0
unfoldable pub new_state : Settings → LevelControlState
new_state settings = record {
  settings = settings;
  attributes = settings.attributes;
  current_level = settings.current_level;
  previous_current_level = None;
  remaining_time = tenths 0;
  last_current_level_notification = micros 0;
  task = task.Rest;
  last_accepted = micros 0;
  started = false;
}

-- a reset ends the task and puts the attributes back to the configured; remaining and last-report time become 0, the previous level missing. The level stays
unfoldable pub reset_state : LevelControlState → LevelControlState
reset_state s = record s {
  attributes = s.settings.attributes;
  remaining_time = tenths 0;
  previous_current_level = None;
  last_current_level_notification = micros 0;
  task = task.Rest;
}

-- an event at a time is accepted
abbrev pub accept : LevelControlState → Micros → LevelControlState
accept s at = record s { last_accepted = at; started = true }

abbrev pub with_task : LevelControlState → Task → LevelControlState
with_task s task = record s { task = task }

abbrev pub with_level : LevelControlState → Level → LevelControlState
with_level s level = record s { current_level = level }

abbrev pub with_previous_level : LevelControlState → Level → LevelControlState
with_previous_level s level = record s { previous_current_level = level }

abbrev pub with_attributes : LevelControlState → Attributes → LevelControlState
with_attributes s attributes = record s { attributes = attributes }

abbrev pub with_remaining_time : LevelControlState → Tenths → LevelControlState
with_remaining_time s time = record s { remaining_time = time }

-- a level that was answered at a time; `noticed` is the last-report time
abbrev pub with_answered : LevelControlState → Level → Micros → LevelControlState
with_answered s level noticed = record s {
  current_level = level;
  previous_current_level = s.current_level;
  last_current_level_notification = noticed;
}
