-- Every key holds: antt computes the whole table at once. Assumes nothing.
use Prim.Native.Nat.{ℕ, ◌+◌, ◌-◌}
use mathlib.Core.Bool.{Bool, true, false}
use mathlib.Core.Path.{◌≡◌, refl, sym, ap, ◌∙◌}
use native.Mathlib.Omega.{arith}
use Rattle.std.specs.Prelude.{Some, None}
use lib.ListN.{length}
use mathlib.Core.List.{List, [], ◌∷◌}
use Rattle.units.specs.Units.{scaled_floor}
use Rattle.transitions.specs.Actions.{reports_of}
use Rattle.level_control.specs.Judge.{command_tests_of, move_to_level_tests, time_refused, turn_tests}
use Rattle.level_control.specs.Handle.{answered_in, answered, event_of, number_of, run}
use Rattle.level_control.specs.Fades.{fade_answered, fade_coupling, fade_ended, fade_goes_on, fade_stored, fade_told, move_to_level_transition}
use Rattle.level_control.specs.Reactions.{on_answered, on_goes_on, switched, turned_on}
use Rattle.level_control.specs.Coupling.{coupled_by}
use Rattle.level_control.specs.Reports.{level_due, set_level, told_level, write_remaining_time}
use Rattle.level_control.specs.State.{accept, new_state}
use Rattle.level_control.specs.declared.state.LevelControlState.{LevelControlState}
use Rattle.level_control.proofs.EventLaws.{event_number, event_runs}
use Rattle.level_control.specs.Targets.{go_to, moved_to_level}
use Rattle.transitions.specs.Causes.{first_cause}
use Rattle.transitions.specs.Commands.{step_level, step_time, target_level}
use Rattle.transitions.specs.Coupling.{coupled_on_off}
use Rattle.transitions.specs.CurrentLevel.{current_level_due}
use Rattle.transitions.specs.Fade.{fade_period, is_transition_start, next_level, remaining_after, wait_or_ask}
use Rattle.transitions.specs.MovePeriod.{move_period}
use Rattle.transitions.specs.RemainingTime.{remaining_time_due}
use Rattle.transitions.specs.Tasks.{level_to_put_back, begin_fade, fade_asking, fade_from}
use Rattle.transitions.specs.Types.{Level, level_or, same_level, time_or}
use Rattle.transitions.specs.Actions.{action, act}
use Rattle.transitions.specs.declared.actions.ActionKind.TheVariants.{D, P, S, L, E}
use Rattle.transitions.specs.declared.events.Command.TheVariants as command
use Rattle.transitions.specs.declared.events.DeviceAnswer.TheVariants as device
use Rattle.transitions.specs.declared.events.EventKind.{EventKind}
use Rattle.transitions.specs.declared.events.EventKind.TheVariants as kind
use Rattle.transitions.specs.declared.tasks.Task.{Task}
use Rattle.transitions.specs.declared.tasks.Task.TheVariants as task
use Rattle.units.specs.declared.Micros.{Micros}
use Rattle.transitions.proofs.RuleLaws.{rule_laws}
use Rattle.transitions.specs.declared.events.Event.{Event}
use Rattle.level_control.specs.Answer.{Outcome}
use Rattle.level_control.specs.EveryFade.{Starts}
use Rattle.level_control.specs.Path.{path}
use Rattle.level_control.specs.Run.{Nothing, next, started, play, only_onward}
use Rattle.level_control.proofs.EveryFade.{every_fade}
use Rattle.transitions.specs.CurrentLevel.{second}
use Rattle.units.specs.Units.{micros}
use Rattle.level_theorems.specs.Keys.{Key, KeyRow, answer_to, table, AllHold, Keys}

abbrev answers : List KeyRow → List Key
answers [] = []
answers (r ∷ rs) = answer_to r.question ∷ answers rs

abbrev keys : List KeyRow → List Key
keys [] = []
keys (r ∷ rs) = r.key ∷ keys rs

computed : answers table ≡ keys table
unfolding answer_to answered begin_fade command_tests_of coupled_by coupled_on_off current_level_due event_of fade_answered fade_asking fade_coupling fade_ended fade_from fade_goes_on fade_period fade_stored fade_told first_cause go_to is_transition_start level_due level_or level_to_put_back move_period move_to_level_tests move_to_level_transition moved_to_level new_state next_level number_of on_answered on_goes_on remaining_after remaining_time_due reports_of run same_level scaled_floor set_level step_level step_time switched target_level time_or time_refused told_level turn_tests turned_on wait_or_ask write_remaining_time
computed = refl

hold : (rs : List KeyRow) → answers rs ≡ keys rs → AllHold rs
hold [] e = tt
hold (r ∷ rs) e = (cc, hold rs (cc))

-- key 9, of every fade: at rest all its levels were asked for
five_requests : (o : Outcome) (es : List Event) → Starts o 250 255 1 → only_onward (started o) es ≡ true
    → (play (started o) es).pending ≡ Nothing → length (play (started o) es).asked ≡ 5
unfolding path
five_requests o es starts onward rest =
    let shown = every_fade o 250 255 1 es starts (λ e. omega arith) (omega arith) (omega arith) onward in
    let all : (play (started o) es).answers ≡ 5 = shown.rest.0 rest in
    ap length (rw (rest, all) at shown.levels)

-- key 10, whatever the levels and the last-report time
gap : (last passed : ℕ) → last + passed - last ≡ passed
gap last passed = omega arith

a_second : (last old new : ℕ)
    → (current_level_due second (micros last) (micros (last + 1000000)) false (Some old) (Some new) ≡ true)
    × (current_level_due second (micros last) (micros (last + 999999)) false (Some old) (Some new) ≡ false)
unfolding current_level_due
a_second last old new = (rw (gap last 1000000) refl, rw (gap last 999999) refl)

-- key 12, in every state: on asks for MIN, and has nothing to return to

asked_for_min : (s : LevelControlState) (e : Event) → e.kind ≡ kind.Command (command.OnOffChanged true) → (event_of s e).number ≡ 0
    → event_of s e ≡ turned_on (accept s e.moment.at)
unfolding command_tests_of run switched
asked_for_min s e k z =
    event_runs s e (sym (event_number s e) ∙ z) (ap (λ (k : EventKind). (command_tests_of s e.moment.on_off k).stopped_by_options) k)
    ∙ ap (λ (k : EventKind). run (accept s e.moment.at) k e.moment.at e.moment.on_off) k

nothing_to_return_to : (s : LevelControlState) (at : Micros) (on : Bool) (v : ℕ) → s.current_level ≡ None → s.attributes.on_level ≡ None
    → (on_answered s (record { before = None }) at on (device.Level v)).actions ≡ action P 0 ∷ action S 0 ∷ action L 0 ∷ action E 15 ∷ []
unfolding on_answered on_goes_on told_level set_level level_due same_level level_or reports_of
nothing_to_return_to s at on v none no_on =
    rw (none, no_on, (rule_laws.missing_report second s.last_current_level_notification at false (Some v)).0) refl

answered_lost : (s : LevelControlState) (a : Event) (v : ℕ) → s.task ≡ task.OnReaction (record { before = None }) → s.current_level ≡ None
    → s.attributes.on_level ≡ None → a.kind ≡ kind.Answer (device.Level v) → (event_of s a).number ≡ 0
    → (event_of s a).actions ≡ action P 0 ∷ action S 0 ∷ action L 0 ∷ action E 15 ∷ []
unfolding command_tests_of run answered
answered_lost s a v waits none no_on k z =
    ap (λ (o : Outcome). o.actions)
    (event_runs s a (sym (event_number s a) ∙ z) (ap (λ (k : EventKind). (command_tests_of s a.moment.on_off k).stopped_by_options) k)
    ∙ ap (λ (k : EventKind). run (accept s a.moment.at) k a.moment.at a.moment.on_off) k
    ∙ ap (λ (t : Task). answered_in t (accept s a.moment.at) (device.Level v) a.moment.at a.moment.on_off) waits)
    ∙ nothing_to_return_to (accept s a.moment.at) a.moment.at a.moment.on_off v none no_on

on_lost : (s : LevelControlState) (e a : Event) (v : ℕ) → s.current_level ≡ None → s.attributes.on_level ≡ None
    → e.kind ≡ kind.Command (command.OnOffChanged true) → (event_of s e).number ≡ 0
    → a.kind ≡ kind.Answer (device.Level v) → (event_of (event_of s e).state a).number ≡ 0
    → ((event_of s e).actions ≡ act D s.settings.range.min)
    × ((event_of (event_of s e).state a).actions ≡ action P 0 ∷ action S 0 ∷ action L 0 ∷ action E 15 ∷ [])
unfolding turned_on
on_lost s e a v none no_on k z k' z' =
    let same = asked_for_min s e k z in (
      ap (λ (o : Outcome). o.actions) same,
      answered_lost (event_of s e).state a v
          (ap (λ (o : Outcome). o.state.task) same ∙ ap (λ (l : Level). task.OnReaction (record { before = l })) none)
          (ap (λ (o : Outcome). o.state.current_level) same ∙ none)
          (ap (λ (o : Outcome). o.state.attributes.on_level) same ∙ no_on) k' z',
    )

pub keys_hold : Keys
unfolding next answer_to answered begin_fade command_tests_of coupled_by coupled_on_off current_level_due event_of fade_answered fade_asking fade_coupling fade_ended fade_from fade_goes_on fade_period fade_stored fade_told first_cause go_to is_transition_start level_due level_or level_to_put_back move_period move_to_level_tests move_to_level_transition moved_to_level new_state next_level number_of on_answered on_goes_on remaining_after remaining_time_due reports_of run same_level scaled_floor set_level step_level step_time switched target_level time_or time_refused told_level turn_tests turned_on wait_or_ask write_remaining_time
keys_hold = record {
  hold = hold table computed;
  no_other = refl;
  rows_1 = refl;
  key_1 = (refl, refl);
  rows_2 = refl;
  key_2 = λ start. (refl, refl);
  rows_3 = refl;
  key_3 = λ start. (refl, refl);
  rows_4 = refl;
  key_4 = (refl, refl);
  rows_5 = refl;
  key_5 = refl;
  rows_6 = refl;
  key_6 = refl;
  rows_7 = refl;
  key_7 = (refl, (_, refl, refl));
  rows_8 = refl;
  key_8 = (refl, refl);
  rows_9 = refl;
  key_9 = five_requests;
  rows_10 = refl;
  key_10 = a_second;
  rows_11 = refl;
  key_11 = (refl, refl);
  rows_12 = refl;
  key_12 = on_lost;
}
