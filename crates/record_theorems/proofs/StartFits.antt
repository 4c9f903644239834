-- A fade that records start takes at most 65,535 tenths. Assumes nothing.
use Rattle.std.specs.Prelude.{Some, None, Option}
use Prim.Native.Nat.{ℕ, ◌*◌, ◌/◌, ◌^◌, ◌≤◌, ◌<◌, min}
use mathlib.Core.Bool.{Bool, true, false, not, ◌||◌, true≢false}
use mathlib.Core.Path.{◌≡◌, refl, sym, ap, subst, ◌∙◌}
use mathlib.Core.List.{List, [], ◌∷◌}
use native.Mathlib.Nat.{div-le_self, le_trans}
use native.Mathlib.Omega.{arith}
use borrow.Author.Tests.{ltb-false}
use lib.Dec.{leb, ltb, eqb}
use Rattle.units.specs.Units.{scaled_floor}
use Rattle.units.specs.declared.Micros.{Micros}
use Rattle.transitions.specs.Commands.{step_time, is_overflow}
use Rattle.transitions.specs.Events.{event}
use Rattle.transitions.specs.declared.events.Event.{Event}
use Rattle.transitions.specs.declared.events.EventKind.{EventKind}
use Rattle.transitions.specs.declared.events.EventKind.TheVariants as kind
use Rattle.transitions.specs.declared.events.StepRequest.{StepRequest}
use Rattle.transitions.specs.declared.settings.Attributes.{Attributes}
use Rattle.transitions.specs.declared.settings.Settings.{Settings}
use Rattle.transitions.specs.Types.{Level}
use Rattle.transitions.specs.Types.{Time}
use Rattle.records.specs.EventRecord.{event_read}
use Rattle.records.specs.Written.{TimeFits, KindFits}
use Rattle.records.proofs.FitLaws.{event_fits, settings_fit}
use Rattle.level_control.specs.Answer.{Outcome}
use Rattle.level_control.specs.Judge.{command_tests_of, step_tests, step_overflows, overflows_from}
use Rattle.level_control.specs.Handle.{event_of, number_of}
use Rattle.level_control.specs.Judge.{continues}
use Rattle.level_control.specs.Starts.{Fades, start_from, target, passes, given_or, step_to, distance, step_in, step_start, scene_start, start_of, on_start_at, on_start}
use Rattle.level_control.specs.State.{new_state}
use Rattle.level_control.specs.Targets.{stepped_level, stepped_time}
use Rattle.level_control.specs.declared.state.LevelControlState.{LevelControlState}
use Rattle.level_control.proofs.EventLaws.{command_passes}
use Rattle.level_control.proofs.EveryFade.{accepted_zero}
use Rattle.level_control.proofs.StartLaws.{no_fade, when_fades, from_fades, continues_is, step_is}
use Rattle.level_theorems.specs.EveryEvent.{AttributesFrom, unchanged, by_set_on_level, by_set_default_move_rate, by_set_start_up, by_factory_reset}
use Rattle.level_theorems.proofs.EveryEventLaws.{every_event}
use Rattle.sheet.specs.Lines.{read_outcome, record_outcome}
use Rattle.record_theorems.specs.RecordPlays.{Record, answer_to, state_after, StartsAt, directly, after_on, accepts}
use Rattle.record_theorems.specs.RecordTheorems.{Configured}
use Rattle.record_theorems.proofs.RecordRuns.{answer_is}
use Rattle.transitions.specs.declared.events.Command.TheVariants as command

-- The transition times among the attributes are 16-bit numbers in every state that records lead to.

record TimesFit (a : Attributes) : Type 0 where
  common : a.on_off_transition_time.0 < 2 ^ 16
  on : TimeFits a.on_transition_time
  off : TimeFits a.off_transition_time

record StateFits (s : LevelControlState) : Type 0 where
  now : TimesFit s.attributes
  configured : TimesFit s.settings.attributes

from_fits : (s : LevelControlState) (k : EventKind) (a : Attributes) → StateFits s → AttributesFrom s k a → TimesFit a
from_fits s k _ h unchanged = h.now
from_fits s k _ h (by_set_on_level e) = record { common = h.now.common; on = h.now.on; off = h.now.off }
from_fits s k _ h (by_set_default_move_rate e) = record { common = h.now.common; on = h.now.on; off = h.now.off }
from_fits s k _ h (by_set_start_up e) = record { common = h.now.common; on = h.now.on; off = h.now.off }
from_fits s k _ h (by_factory_reset e) = h.configured

event_keeps_fit : (s : LevelControlState) (e : Event) → StateFits s → StateFits (event_of s e).state
event_keeps_fit s e h = record {
  now = from_fits s e.kind _ h (every_event.attributes_come_from s e);
  configured = subst (λ (x : Settings). TimesFit x.attributes) (sym (every_event.settings_stay s e)) h.configured;
}

records_keep_fit : (bs : List Record) (s : LevelControlState) → StateFits s → StateFits (state_after s bs)
unfolding record_outcome
records_keep_fit [] s h = h
records_keep_fit (b ∷ bs) s h = records_keep_fit bs (answer_to s b).state (by (event_read b.bytes))
  where
    by : (x : Option Event) → StateFits (read_outcome s x).state
    by (Some e) = event_keeps_fit s e h
    by None = h

new_fits : (x : Settings) → Configured x → StateFits (new_state x)
unfolding new_state
new_fits x c =
    let fit = (settings_fit c.head.bytes x c.head.small c.read).0 in
    let times : TimesFit x.attributes = record { common = fit.common_time; on = fit.on_time_fits; off = fit.off_time_fits } in
    record { now = times; configured = times }

-- The time of a fade.

named_fits : (l : Level) (to within c t T : ℕ) → start_from l to within ≡ Fades c t T → within ≤ 65535 → T ≤ 65535
named_fits l to within c t T e h = let same : within ≡ T = (from_fades l to within c t T e).time in omega arith

given_fits : (t : Time) (other : ℕ) → TimeFits t → other < 2 ^ 16 → given_or t other ≤ 65535
given_fits (Some t) other f o = omega arith
given_fits None other f o = omega arith

-- a step's time, where its product is not refused
step_fits : (given : Time) (actual size : ℕ) → TimeFits given → is_overflow (step_time given actual size) ≡ false → step_in given actual size ≤ 65535
unfolding step_time scaled_floor
step_fits None actual size f h = omega arith
step_fits (Some t) actual size f h = go (eqb actual size) refl (ltb 65535 (t.0 * actual)) refl
  where
    go : (b : Bool) → eqb actual size ≡ b → (l : Bool) → ltb 65535 (t.0 * actual) ≡ l → step_in (Some t) actual size ≤ 65535
    go true e l q = rw e (omega arith)
    go false e true q = absurd (true≢false (simp (e, q) at h))
    go false e false q = rw e (le_trans (div-le_self (t.0 * actual) size) (ltb-false 65535 (t.0 * actual) q))

step_start_fits : (s : LevelControlState) (at : Micros) (on : Bool) (r : StepRequest) (c t T : ℕ) → TimeFits r.transition_time
    → number_of s (event at on (kind.Command (command.Step r))) ≡ 0 → start_of s on (kind.Command (command.Step r)) ≡ Fades c t T → T ≤ 65535
unfolding start_of number_of command_tests_of step_tests step_overflows stepped_time
step_start_fits s at on r c t T f z named = by s.current_level refl
  where
    pass : Bool
    pass = passes s r.options.with_on_off on r.options.options_mask r.options.options_override

    by : (l : Level) → s.current_level ≡ l → T ≤ 65535
    by (Some level) q =
        let lets = when_fades pass (step_start s.current_level s r) c t T named in
        let free : not (continues s r.options.with_on_off on r.options.options_mask r.options.options_override) ≡ false = freed lets.0 in
        let passed : overflows_from (Some level) s r ≡ false = ap (λ (l : Level). overflows_from l s r) (sym q) ∙ (command_passes _ _ z free).fits in
        let fit = step_fits r.transition_time (distance (stepped_level s level r) level) r.step_size f passed in
        named_fits (Some level) (target s (step_to r.mode s level r.step_size))
        (step_in r.transition_time (distance (step_to r.mode s level r.step_size) level) r.step_size) c t T
        (ap (λ (l : Level). step_start l s r) (sym q) ∙ lets.1)
        (subst (λ (x : ℕ). step_in r.transition_time (distance x level) r.step_size ≤ 65535) (step_is s level r) fit)
      where
        freed : pass ≡ true → not (continues s r.options.with_on_off on r.options.options_mask r.options.options_override) ≡ false
        freed h = rw (continues_is s r.options.with_on_off on r.options.options_mask r.options.options_override, h) refl
    by None q = no_fade c t T (ap (λ (l : Level). step_start l s r) (sym q) ∙ (when_fades pass (step_start s.current_level s r) c t T named).1)

start_fits : (s : LevelControlState) (at : Micros) (on : Bool) (c t T : ℕ) (k : EventKind) → StateFits s → KindFits k → number_of s (event at on k) ≡ 0
    → start_of s on k ≡ Fades c t T → T ≤ 65535
unfolding start_of
start_fits s at on c t T kind.StartUp h f z named = no_fade c t T named
start_fits s at on c t T (kind.Command (command.MoveToLevel r)) h f z named =
    let lets = when_fades (leb 255 r.level || passes s r.options.with_on_off on r.options.options_mask r.options.options_override)
    (start_from s.current_level (target s r.level) (given_or r.transition_time 0)) c t T named in
    named_fits s.current_level (target s r.level) (given_or r.transition_time 0) c t T lets.1 (given_fits r.transition_time 0 f.1 (omega arith))
start_fits s at on c t T (kind.Command (command.Move r)) h f z named = no_fade c t T named
start_fits s at on c t T (kind.Command (command.Step r)) h f z named = step_start_fits s at on r c t T f.1 z named
start_fits s at on c t T (kind.Command (command.Stop r)) h f z named = no_fade c t T named
start_fits s at on c t T (kind.Answer a) h f z named = no_fade c t T named
start_fits s at on c t T kind.Wake h f z named = no_fade c t T named
start_fits s at on c t T (kind.Command (command.OnOffChanged true)) h f z named = no_fade c t T named
start_fits s at on c t T (kind.Command (command.OnOffChanged false)) h f z named =
    named_fits s.current_level (target s s.settings.range.min) (given_or s.attributes.off_transition_time s.attributes.on_off_transition_time.0)
    c t T named (given_fits s.attributes.off_transition_time _ h.now.off h.now.common)
start_fits s at on c t T (kind.Command (command.Scene r)) h f z named = by r.level named
  where
    by : (l : Level) → scene_start l s on r.transition_time.0 ≡ Fades c t T → T ≤ 65535
    by (Some level) p =
        let within : ℕ = min 65535 (r.transition_time.0 / 100) in
        let lets = when_fades (leb 255 level || passes s false on (record { 0 = 0 }) (record { 0 = 0 }))
        (start_from s.current_level (target s level) within) c t T p in
        named_fits s.current_level (target s level) within c t T lets.1 (omega arith)
    by None p = no_fade c t T p
start_fits s at on c t T (kind.Command (command.DeviceUpdate level)) h f z named = no_fade c t T named
start_fits s at on c t T (kind.Command command.DeviceStop) h f z named = no_fade c t T named
start_fits s at on c t T (kind.Command (command.SetOnLevel level)) h f z named = no_fade c t T named
start_fits s at on c t T (kind.Command (command.SetDefaultMoveRate rate)) h f z named = no_fade c t T named
start_fits s at on c t T (kind.Command (command.SetStartUpCurrentLevel level)) h f z named = no_fade c t T named
start_fits s at on c t T (kind.Command command.FactoryReset) h f z named = no_fade c t T named

on_start_fits : (s : LevelControlState) (on before : Level) (v c t T : ℕ) → StateFits s → on_start_at on before s v ≡ Fades c t T → T ≤ 65535
on_start_fits s on before v c t T h named = by on before named
  where
    time : ℕ
    time = given_or s.attributes.on_transition_time s.attributes.on_off_transition_time.0

    to : (level : ℕ) → start_from (Some v) (target s level) time ≡ Fades c t T → T ≤ 65535
    to level p =
        named_fits (Some v) (target s level) time c t T p (given_fits s.attributes.on_transition_time _ h.now.on h.now.common)

    by : (on before : Level) → on_start_at on before s v ≡ Fades c t T → T ≤ 65535
    by (Some level) before p = to level p
    by None (Some level) p = to level p
    by None None p = no_fade c t T p

pub recorded_fits : (x : Settings) (up : List Record) (o : Outcome) (c t T : ℕ) → Configured x → StartsAt (new_state x) up o c t T → T ≤ 65535
unfolding on_start
recorded_fits x _ _ _ _ _ conf (directly earlier b e c t T p ok named) =
    let s : LevelControlState = state_after (new_state x) earlier in
    let z : number_of s e ≡ 0 = accepted_zero s e (subst (λ (o : Outcome). accepts o ≡ true) (answer_is s b e p) ok) in
    start_fits s e.moment.at e.moment.on_off c t T e.kind (records_keep_fit earlier (new_state x) (new_fits x conf)) (event_fits b.bytes e b.small p).kind z named
recorded_fits x _ _ _ _ _ conf (after_on earlier b e others b' a v c t T p ok on refusals q answered level named) =
    let s : LevelControlState = state_after (new_state x) earlier in
    on_start_fits s s.attributes.on_level s.current_level v c t T (records_keep_fit earlier (new_state x) (new_fits x conf)) named
