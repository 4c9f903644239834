-- Every fade, what goes with the claim: what an accepted event does to fades, the cases of `EveryFadeCovered`.
use Rattle.std.specs.Prelude.{ℕ, true, ◌≡◌}
use Rattle.units.specs.declared.Micros.{Micros}
use Rattle.transitions.specs.Tasks.{fade_from}
use Rattle.transitions.specs.declared.events.DeviceAnswer.TheVariants as device
use Rattle.transitions.specs.declared.events.Event.{Event}
use Rattle.transitions.specs.declared.events.EventKind.TheVariants as kind
use Rattle.transitions.specs.declared.tasks.Fade.{Fade}
use Rattle.transitions.specs.declared.tasks.FadeRequest.{FadeRequest}
use Rattle.transitions.specs.declared.tasks.OnReaction.{OnReaction}
use Rattle.transitions.specs.declared.tasks.Task.TheVariants as task
use Rattle.level_control.specs.Run.{is_onward}
use Rattle.level_control.specs.Starts.{NoFade, Fades, start_of, on_start_at}
use Rattle.level_control.specs.declared.state.LevelControlState.{LevelControlState}

-- in this state runs a fade from c to t in T tenths that started at this time: its first request is open, its remaining time is 100·T
pub record Begins (c t T : ℕ) (at : Micros) (s : LevelControlState) : Type 0 where
  pub request : FadeRequest
  pub target : request.target ≡ t
  pub time : request.transition_time.0 ≡ T
  pub begins : s.task ≡ task.Fade (fade_from c request at)

-- the table of starts names no fade
pub record NoneNamed (s : LevelControlState) (e : Event) : Type 0 where
  pub direct : start_of s e.moment.on_off e.kind ≡ NoFade
  pub on : (r : OnReaction) (v : ℕ) → s.task ≡ task.OnReaction r → e.kind ≡ kind.Answer (device.Level v)
      → on_start_at s.attributes.on_level r.before s v ≡ NoFade

-- what stays of a fade that goes on
pub record SameFade (f g : Fade) : Type 0 where
  pub with_on_off : g.with_on_off ≡ f.with_on_off
  pub scene : g.scene_apply ≡ f.scene_apply
  pub target : g.target ≡ f.target
  pub time : g.transition_time ≡ f.transition_time
  pub period : g.period ≡ f.period
  pub put_back : g.put_back ≡ f.put_back

-- an accepted event in a state, and the state after it
pub data Covered (s : LevelControlState) (e : Event) (s' : LevelControlState) : Type 0 where
  starts : (c t T : ℕ) → start_of s e.moment.on_off e.kind ≡ Fades c t T → Begins c t T e.moment.at s' → Covered s e s'
  starts_on : (r : OnReaction) (v c t T : ℕ) → s.task ≡ task.OnReaction r → e.kind ≡ kind.Answer (device.Level v)
      → on_start_at s.attributes.on_level r.before s v ≡ Fades c t T → Begins c t T e.moment.at s' → Covered s e s'
  no_fade : NoneNamed s e → ((f : Fade) → s'.task ≡ task.Fade f → ⊥) → Covered s e s'
  goes_on : NoneNamed s e → (f g : Fade) → s.task ≡ task.Fade f → s'.task ≡ task.Fade g → SameFade f g → is_onward e.kind ≡ true → Covered s e s'
  as_it_was : NoneNamed s e → (f : Fade) → s.task ≡ task.Fade f → s'.task ≡ task.Fade f → Covered s e s'
