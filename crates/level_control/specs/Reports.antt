-- Remaining time and Level reports, on the state: what is written and stored, and whether it is reported.
use Rattle.std.specs.Prelude.{Bool, true, false, cond, not, None}
use Rattle.units.specs.Units.{tenths_up}
use Rattle.units.specs.declared.Millis.{Millis}
use Rattle.units.specs.declared.Micros.{Micros}
use Rattle.transitions.specs.Types.{same_level}
use Rattle.transitions.specs.RemainingTime.{remaining_time_due}
use Rattle.transitions.specs.CurrentLevel.{second, current_level_due}
use Rattle.transitions.specs.Types.{Level}
use Rattle.transitions.specs.Actions.{Reports, reports_of}
use Rattle.level_control.specs.Answer.{Outcome, done}
use Rattle.level_control.specs.State.{with_remaining_time, with_answered}
use Rattle.level_control.specs.declared.state.LevelControlState.{LevelControlState}

-- a state, and whether the attribute that was written in it is to be reported
pub record Reported : Type 0 where
  pub state : LevelControlState
  pub due : Bool

abbrev pub reported : LevelControlState → Bool → Reported
reported s due = record { state = s; due = due }

-- a state, and what is to be told of it
pub record Told : Type 0 where
  pub state : LevelControlState
  pub reports : Reports

abbrev pub outcome_told : Told → Outcome
outcome_told t = done t.state (reports_of t.reports)

-- the time is written in tenths rounded up
unfoldable pub write_remaining_time : LevelControlState → Millis → Bool → Reported
write_remaining_time s remaining start = record {
  state = with_remaining_time s (tenths_up remaining);
  due = remaining_time_due s.remaining_time (tenths_up remaining) start;
}

-- whether the level that is answered is reported
unfoldable pub level_due : LevelControlState → Level → Micros → Bool → Bool
level_due s level now end = current_level_due second s.last_current_level_notification now end s.current_level level

-- then the last-report time becomes now
abbrev pub noticed_at : Bool → Micros → Micros → Micros
noticed_at due now last = cond due now last

-- the device's answer is stored
unfoldable pub set_level : LevelControlState → Level → Micros → Bool → Reported
set_level s level now end = record {
  state = with_answered s level (noticed_at (level_due s level now end) now s.last_current_level_notification);
  due = level_due s level now end;
}

-- a level that is stored, told by P if it changed, S, and L as due
unfoldable pub told_level : LevelControlState → Level → Micros → Bool → Told
told_level s level now end = record {
  state = (set_level s level now end).state;
  reports = record {
    stored = not (same_level s.current_level level);
    scene = true;
    coupling = None;
    level = (set_level s level now end).due;
    time = false;
  };
}
