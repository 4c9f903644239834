-- The disagreements with the Matter document, computed. Assumes nothing.
use mathlib.Core.Path.{refl}
use Rattle.units.specs.Units.{scaled_floor}
use Rattle.transitions.specs.Causes.{first_cause}
use Rattle.transitions.specs.Commands.{target_level, step_level, step_time, rate_in_force}
use Rattle.transitions.specs.Coupling.{coupled_on_off}
use Rattle.transitions.specs.CurrentLevel.{current_level_due}
use Rattle.transitions.specs.Fade.{fade_period, is_transition_start, remaining_after, next_level, wait_or_ask}
use Rattle.transitions.specs.Matter.{executes}
use Rattle.transitions.specs.Options.{should_continue}
use Rattle.transitions.specs.RemainingTime.{remaining_time_due}
use Rattle.transitions.specs.Tasks.{at_limit, next_move, fade_asking, fade_waiting, fade_from, level_to_put_back, begin_fade}
use Rattle.transitions.specs.Types.{same_level, level_or, time_or}
use Rattle.level_control.specs.State.{new_state}
use Rattle.transitions.specs.Actions.{reports_of}
use Rattle.level_control.specs.Reports.{write_remaining_time, level_due, set_level, told_level}
use Rattle.level_control.specs.Coupling.{coupled_by}
use Rattle.level_control.specs.Judge.{continues}
use Rattle.level_control.specs.Targets.{go_to, moved_to_level, stepped_level, stepped_time, stepped, recalled}
use Rattle.level_control.specs.Fades.{fade_coupling, fade_stored, fade_told, ended_put_back, fade_ended, fade_goes_on, move_to_level_transition, fade_answered, fade_woken}
use Rattle.level_control.specs.Reactions.{on_time, off_time, turned_on, on_goes_on, on_answered, turned_off, switched}
use Rattle.level_control.specs.Judge.{time_refused, turn_tests, move_to_level_tests, move_tests, step_overflows, step_tests, scene_tests, level_tests, rate_tests, command_tests_of}
use Rattle.level_control.specs.Handle.{answered, woken, run, number_of, event_of}
use Rattle.level_control.specs.Run.{next}
use Rattle.level_control.specs.Starts.{start_of, on_start}
use Rattle.level_control.specs.Moves.{leaves_min, move_ends, rate_by, move_goes_on, begin_move, move_then, move_transition, move_answered}
use Rattle.level_control.specs.StartUp.{start_up_level, started_up}
use Rattle.transitions.specs.MovePeriod.{move_period}
use Rattle.matter.specs.Parts.{Parts}

pub parts : Parts
unfolding at_limit move_tests next_move answered begin_fade begin_move command_tests_of continues coupled_by coupled_on_off current_level_due event_of executes fade_answered fade_asking fade_coupling fade_ended fade_from fade_goes_on fade_period fade_stored fade_told fade_waiting fade_woken first_cause go_to is_transition_start leaves_min level_due level_or level_tests level_to_put_back move_answered move_ends move_goes_on move_period move_then move_to_level_tests move_to_level_transition move_transition moved_to_level new_state next next_level number_of off_time on_answered on_goes_on on_start on_time rate_by rate_in_force rate_tests recalled remaining_after remaining_time_due reports_of ended_put_back run same_level scaled_floor scene_tests set_level should_continue start_of start_up_level started_up step_level step_overflows step_tests step_time stepped stepped_level stepped_time switched target_level time_or time_refused told_level turn_tests turned_off turned_on wait_or_ask woken write_remaining_time
parts = record {
  level_255 = (refl, refl);
  missing_time = (refl, refl);
  remaining_at_start_parts = (refl, refl);
  remaining_at_target = (refl, refl);
  remaining_in_move = refl;
  coupled_late = (refl, refl);
  coupled_below_min = refl;
  off_from_missing = refl;
  off_time_parts = (refl, refl);
  step_product = (refl, refl);
  step_from_outside = refl;
  move_from_outside = refl;
  on_level_255 = (refl, refl);
  start_up_outside = (refl, refl);
  set_start_up_0 = (refl, refl);
  set_rate_0 = refl;
  scene_while_off = (refl, refl);
}
