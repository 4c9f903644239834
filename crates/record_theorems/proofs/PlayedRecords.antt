-- The small play of docs/RULES.md as records, and a play for each of the five starts, computed. Assumes nothing.
use Rattle.std.specs.Prelude.{Some}
use Prim.Native.Nat.{ℕ}
use mathlib.Core.Bool.{Bool, true, false, ◌&&◌}
use mathlib.Core.Path.{◌≡◌, refl, sym}
use mathlib.Core.List.{List, [], ◌∷◌}
use native.Mathlib.Omega.{arith}
use borrow.Author.Tests.{ltb-true}
use lib.Dec.{ltb}
use lib.ListN.{take}
use Rattle.std.proofs.lemmas.Bool.{and_parts}
use Rattle.units.specs.Units.{scaled_floor, tenths, micros}
use Rattle.transitions.specs.Causes.{first_cause}
use Rattle.transitions.specs.Commands.{target_level, step_level, step_time, rate_in_force}
use Rattle.transitions.specs.Coupling.{coupled_on_off}
use Rattle.transitions.specs.CurrentLevel.{current_level_due}
use Rattle.transitions.specs.Fade.{fade_period, is_transition_start, remaining_after, next_level, wait_or_ask}
use Rattle.transitions.specs.Matter.{executes}
use Rattle.transitions.specs.Options.{should_continue}
use Rattle.transitions.specs.RemainingTime.{remaining_time_due}
use Rattle.transitions.specs.Tasks.{fade_asking, fade_waiting, fade_from, level_to_put_back, begin_fade}
use Rattle.transitions.specs.Types.{same_level, level_or, time_or}
use Rattle.level_control.specs.State.{new_state}
use Rattle.transitions.specs.Actions.{reports_of}
use Rattle.level_control.specs.Reports.{write_remaining_time, level_due, set_level, told_level}
use Rattle.level_control.specs.Coupling.{coupled_by}
use Rattle.level_control.specs.Judge.{continues}
use Rattle.level_control.specs.Targets.{go_to, moved_to_level, stepped_level, stepped_time, stepped, recalled}
use Rattle.level_control.specs.Fades.{fade_coupling, fade_stored, fade_told, ended_put_back, fade_ended, fade_goes_on, move_to_level_transition, fade_answered, fade_woken}
use Rattle.level_control.specs.Reactions.{on_time, off_time, turned_on, on_goes_on, on_answered, turned_off, switched}
use Rattle.level_control.specs.Judge.{time_refused, turn_tests, move_to_level_tests, step_overflows, step_tests, scene_tests, level_tests, command_tests_of}
use Rattle.level_control.specs.Handle.{answered, woken, run, number_of, event_of}
use Rattle.level_control.specs.Run.{Request, next, started}
use Rattle.level_control.specs.Starts.{start_of, on_start, distance}
use Rattle.records.specs.EventRecord.{event_read, kind_read}
use Rattle.records.specs.Laws.{AllBytes}
use Rattle.records.specs.SettingsRecord.{settings_at, settings_read}
use Rattle.sheet.specs.Lines.{record_outcome, outcomes_of}
use Rattle.transitions.specs.Events.{event}
use Rattle.transitions.specs.declared.events.Event.{Event}
use Rattle.transitions.specs.declared.events.EventKind.TheVariants as kind
use Rattle.transitions.specs.declared.settings.Settings.{Settings}
use Rattle.level_control.specs.Answer.{Outcome}
use Rattle.record_theorems.specs.RecordTheorems.{Configured, answers_after}
use Rattle.record_theorems.specs.RecordPlays.{Record, all_bytes, answer_to, answers_of, seen, only_onward, StartsAt, directly, after_on}
use Rattle.record_theorems.specs.RecordInstance.{settings_bytes, start_bytes, at, numbers, Instance, lamp_bytes, event_bytes, move_to13, step_by3, off, scene_of13, StartInstance, StartInstances}
use Rattle.record_theorems.proofs.RecordsHold.{every_fade_recorded, records_come_to_rest}
use Rattle.level_theorems.specs.Replies.{answers_from, in_time}
use Rattle.level_theorems.specs.Instances.{device3}
use Rattle.level_theorems.specs.Instances as played
use Rattle.transitions.specs.declared.events.Command.TheVariants as command

abbrev all_small : List ℕ → Bool
all_small [] = true
all_small (b ∷ s) = ltb b 256 && all_small s

bytes : (s : List ℕ) → all_small s ≡ true → AllBytes s
bytes [] h = tt
bytes (b ∷ s) h = (ltb-true b 256 (and_parts (ltb b 256) (all_small s) h).0, bytes s (and_parts (ltb b 256) (all_small s) h).1)

abbrev held : (s : List ℕ) → all_small s ≡ true → Record
held s h = record { bytes = s; small = bytes s h }

abbrev after : List Record
after =
    held (at 99 0x80 0x84 0x1E 0 0) refl
    ∷ held (at 5 0x80 0x84 0x1E 0 11) refl
    ∷ held (at 6 0x20 0x0B 0x20 0 0) refl
    ∷ held (at 5 0x70 0xCE 0x20 0 12) refl
    ∷ held (at 6 0xB0 0x6A 0x21 0 0) refl
    ∷ held (at 6 0xC0 0x91 0x21 0 0) refl
    ∷ held (at 5 0xC0 0x91 0x21 0 13) refl
    ∷ []

abbrev start_event : Event
start_event = event (micros 2000000) false (kind.Command (command.MoveToLevel (record {
  options = record { with_on_off = false; options_mask = record { 0 = 0 }; options_override = record { 0 = 0 } };
  level = 13;
  transition_time = Some (tenths 3);
})))

pub instance : Instance
unfolding answered begin_fade command_tests_of continues coupled_by coupled_on_off current_level_due event_of event_read executes fade_answered fade_asking fade_coupling fade_ended fade_from fade_goes_on fade_period fade_stored fade_told fade_waiting fade_woken first_cause go_to is_transition_start kind_read level_due level_or level_tests level_to_put_back move_to_level_tests move_to_level_transition moved_to_level new_state next next_level number_of off_time on_answered on_goes_on on_time outcomes_of rate_in_force recalled record_outcome remaining_after remaining_time_due reports_of ended_put_back run same_level scaled_floor scene_tests set_level settings_read should_continue start_of step_level step_overflows step_tests step_time stepped stepped_level stepped_time switched target_level time_or time_refused told_level turn_tests turned_off turned_on wait_or_ask woken write_remaining_time
instance =
    let x : Settings = settings_at settings_bytes in
    let first : Record = held start_bytes refl in
    let o : Outcome = answer_to (new_state x) first in
    let conf : Configured x = record { head = held settings_bytes refl; read = refl } in
    let starts : StartsAt (new_state x) (first ∷ []) o 10 13 3 = directly [] first start_event 10 13 3 refl refl refl in
    record {
      settings = x;
      configured = conf;
      settings_have_bytes = refl;
      up = first ∷ [];
      up_bytes = refl;
      after = after;
      after_has_bytes = refl;
      first = o;
      starts = starts;
      answered = refl;
      onward = refl;
      shown = every_fade_recorded x (first ∷ []) after o 10 13 3 conf starts (λ e. omega arith) (omega arith) refl;
      all_answered = refl;
    }

-- The five starts.

abbrev follow : List Record
follow =
    held (event_bytes 11 2050000 (0 ∷ [])) refl
    ∷ held (event_bytes 99 2100000 []) refl
    ∷ held (event_bytes 5 2150000 (0 ∷ 40 ∷ [])) refl
    ∷ held (event_bytes 5 2200000 (0 ∷ 7 ∷ [])) refl
    ∷ held (event_bytes 6 2200001 []) refl
    ∷ held (event_bytes 6 2250000 []) refl
    ∷ held (event_bytes 5 2260000 (0 ∷ 200 ∷ [])) refl
    ∷ []

-- a row, from what is computed
row : (x : Settings) (head : List ℕ) (conf : Configured x) → conf.head.bytes ≡ head → (up : List Record) (o : Outcome) (c t : ℕ) (got asked : List ℕ)
    → StartsAt (new_state x) up o c t 3 → (c ≡ t → ⊥) → distance t c ≡ 3
    → numbers (answers_of (new_state x) up) ≡ got
    → numbers (answers_after x up follow) ≡ 6 ∷ 1 ∷ 0 ∷ 0 ∷ 8 ∷ 0 ∷ 0 ∷ []
    → only_onward follow (answers_after x up follow) ≡ true
    → (seen (started o) follow (answers_after x up follow)).asked ≡ asked
    → (seen (started o) (take 3 follow) (answers_after x up follow)).pending ≡ Request
    → in_time (answers_from (started o) device3) ≡ true
    → StartInstance head (all_bytes up) got c t asked
row x head conf is up o c t got asked w ne n up_numbers numbers onward asks late time = record {
  settings = x;
  configured = conf;
  settings_have_bytes = is;
  up = up;
  up_has_bytes = refl;
  up_answered = up_numbers;
  first = o;
  starts = w;
  after = follow;
  after_has_bytes = refl;
  answered = numbers;
  onward = onward;
  shown = every_fade_recorded x up follow o c t 3 conf w ne (omega arith) onward;
  asks = asks;
  late = late;
  ends = records_come_to_rest x up o c t 3 device3 conf w ne (omega arith) (sym n) (omega arith, (omega arith, (omega arith, tt))) time;
}

abbrev at10 : Settings
at10 = settings_at (lamp_bytes 10)

abbrev at4 : Settings
at4 = settings_at (lamp_bytes 4)

pub start_instances : StartInstances
unfolding answered begin_fade command_tests_of continues coupled_by coupled_on_off current_level_due event_of event_read executes fade_answered fade_asking fade_coupling fade_ended fade_from fade_goes_on fade_period fade_stored fade_told fade_waiting fade_woken first_cause go_to is_transition_start kind_read level_due level_or level_tests level_to_put_back move_to_level_tests move_to_level_transition moved_to_level new_state next next_level number_of off_time on_answered on_goes_on on_start on_time outcomes_of rate_in_force recalled record_outcome remaining_after remaining_time_due reports_of ended_put_back run same_level scaled_floor scene_tests set_level settings_read should_continue start_of step_level step_overflows step_tests step_time stepped stepped_level stepped_time switched target_level time_or time_refused told_level turn_tests turned_off turned_on wait_or_ask woken write_remaining_time
start_instances =
    let ten : Configured at10 = record { head = held (lamp_bytes 10) refl; read = refl } in
    let four : Configured at4 = record { head = held (lamp_bytes 4) refl; read = refl } in
    let move = held move_to13 refl in
    let step = held step_by3 refl in
    let dark = held off refl in
    let scene = held scene_of13 refl in
    record {
      by_move_to_level = row at10 _ ten refl (move ∷ []) _ 10 13 _ _ (directly [] move played.move_to13 10 13 3 refl refl refl) (λ e. omega arith) refl refl refl refl refl refl refl;
      by_step = row at10 _ ten refl (step ∷ []) _ 10 13 _ _ (directly [] step played.step_by3 10 13 3 refl refl refl) (λ e. omega arith) refl refl refl refl refl refl refl;
      by_off = row at4 _ four refl (dark ∷ []) _ 4 1 _ _ (directly [] dark played.off 4 1 3 refl refl refl) (λ e. omega arith) refl refl refl refl refl refl refl;
      by_on =
          row at10 _ ten refl _ _ 2 5 _ _
          (after_on [] (held (event_bytes 7 1000000 (1 ∷ [])) refl) played.on
          (held (event_bytes 6 1500000 []) refl ∷ held (event_bytes 99 1500000 []) refl ∷ [])
          (held (event_bytes 5 2000000 (0 ∷ 2 ∷ [])) refl) played.answer2 2 2 5 3 refl refl refl refl refl refl refl refl)
          (λ e. omega arith) refl refl refl refl refl refl refl;
      by_scene = row at10 _ ten refl (scene ∷ []) _ 10 13 _ _ (directly [] scene played.scene_of13 10 13 3 refl refl refl) (λ e. omega arith) refl refl refl refl refl refl refl;
    }
