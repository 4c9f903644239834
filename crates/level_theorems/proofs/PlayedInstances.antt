-- The five played fades, computed. Assumes nothing.
use Prim.Native.Nat.{ℕ}
use mathlib.Core.Bool.{true}
use mathlib.Core.Path.{◌≡◌, refl, sym}
use mathlib.Core.List.{List, [], ◌∷◌}
use native.Mathlib.Omega.{arith}
use lib.ListN.{take}
use Rattle.units.specs.Units.{scaled_floor}
use Rattle.transitions.specs.Causes.{first_cause}
use Rattle.transitions.specs.Commands.{target_level, step_level, step_time, rate_in_force}
use Rattle.transitions.specs.Coupling.{coupled_on_off}
use Rattle.transitions.specs.CurrentLevel.{current_level_due}
use Rattle.transitions.specs.Fade.{fade_period, is_transition_start, remaining_after, next_level, wait_or_ask}
use Rattle.transitions.specs.Matter.{executes}
use Rattle.transitions.specs.Options.{should_continue}
use Rattle.transitions.specs.RemainingTime.{remaining_time_due}
use Rattle.transitions.specs.Tasks.{fade_asking, fade_waiting, fade_from, level_to_put_back, begin_fade}
use Rattle.transitions.specs.Types.{same_level, level_or, time_or}
use Rattle.level_control.specs.State.{new_state}
use Rattle.transitions.specs.Actions.{reports_of}
use Rattle.level_control.specs.Answer.{Outcome}
use Rattle.level_control.specs.Reports.{write_remaining_time, level_due, set_level, told_level}
use Rattle.level_control.specs.Coupling.{coupled_by}
use Rattle.level_control.specs.Judge.{continues}
use Rattle.level_control.specs.Targets.{go_to, moved_to_level, stepped_level, stepped_time, stepped, recalled}
use Rattle.level_control.specs.Fades.{fade_coupling, fade_stored, fade_told, ended_put_back, fade_ended, fade_goes_on, move_to_level_transition, fade_answered, fade_woken}
use Rattle.level_control.specs.Reactions.{on_time, off_time, turned_on, on_goes_on, on_answered, turned_off, switched}
use Rattle.level_control.specs.Judge.{time_refused, turn_tests, move_to_level_tests, step_overflows, step_tests, scene_tests, level_tests, command_tests_of}
use Rattle.level_control.specs.Handle.{answered, woken, run, number_of, event_of}
use Rattle.level_control.specs.Run.{Request, next, started, play, only_onward}
use Rattle.level_control.specs.Starts.{start_of, on_start, distance}
use Rattle.level_control.specs.EveryFade.{Starts, directly, after_on}
use Rattle.level_theorems.specs.Replies.{answers_from, in_time}
use Rattle.level_theorems.specs.Instances.{device3, lamp, move_to13, step_by3, off, scene_of13, on, between, answer2, follows, numbers_of, Instance, Instances}
use Rattle.level_control.proofs.EveryFade.{every_fade}
use Rattle.level_theorems.proofs.Progress.{comes_to_rest}

-- a row, from what is computed
row : (o : Outcome) (c t : ℕ) (asked : List ℕ) → Starts o c t 3 → (c ≡ t → ⊥) → only_onward (started o) follows ≡ true
    → (play (started o) follows).asked ≡ asked
    → numbers_of o.state follows ≡ 6 ∷ 0 ∷ 0 ∷ 8 ∷ 0 ∷ 0 ∷ []
    → (play (started o) (take 2 follows)).pending ≡ Request
    → distance t c ≡ 3
    → in_time (answers_from (started o) device3) ≡ true
    → Instance o c t asked
row o c t asked w ne onward asks numbers late n time = record {
  starts = w;
  onward = onward;
  shown = every_fade o c t 3 follows w ne (omega arith) (omega arith) onward;
  asks = asks;
  numbers = numbers;
  late = late;
  ends = comes_to_rest o c t 3 device3 w ne (omega arith) (omega arith) (sym n) time;
}

pub instances : Instances
unfolding answered begin_fade command_tests_of continues coupled_by coupled_on_off current_level_due event_of executes fade_answered fade_asking fade_coupling fade_ended fade_from level_to_put_back fade_goes_on fade_period fade_stored fade_told fade_waiting fade_woken first_cause go_to is_transition_start level_due level_or level_tests move_to_level_tests move_to_level_transition moved_to_level new_state next next_level number_of off_time on_answered on_goes_on on_start on_time rate_in_force recalled remaining_after remaining_time_due reports_of ended_put_back run same_level scaled_floor scene_tests set_level should_continue start_of step_level step_overflows step_tests step_time stepped stepped_level stepped_time switched target_level time_or time_refused told_level turn_tests turned_off turned_on wait_or_ask woken write_remaining_time
instances = record {
  by_move_to_level = row _ 10 13 _ (directly (new_state (lamp 10)) move_to13 10 13 3 refl refl) (λ e. omega arith) refl refl refl refl refl refl;
  by_step = row _ 10 13 _ (directly (new_state (lamp 10)) step_by3 10 13 3 refl refl) (λ e. omega arith) refl refl refl refl refl refl;
  by_off = row _ 4 1 _ (directly (new_state (lamp 4)) off 4 1 3 refl refl) (λ e. omega arith) refl refl refl refl refl refl;
  by_on = row _ 2 5 _ (after_on (new_state (lamp 10)) on answer2 between 2 2 5 3 refl refl refl refl refl refl) (λ e. omega arith) refl refl refl refl refl refl;
  by_scene = row _ 10 13 _ (directly (new_state (lamp 10)) scene_of13 10 13 3 refl refl) (λ e. omega arith) refl refl refl refl refl refl;
}
