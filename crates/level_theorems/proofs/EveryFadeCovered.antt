-- No fade is left out: what is named starts, and nothing else does. Assumes nothing.
use Prim.Native.Nat.{ℕ}
use mathlib.Core.Bool.{Bool, true, false, true≢false}
use mathlib.Core.Path.{◌≡◌, refl, sym, ap, subst, ◌∙◌}
use native.Mathlib.Omega.{arith}
use Rattle.units.specs.declared.Micros.{Micros}
use Rattle.transitions.specs.Events.{event}
use Rattle.transitions.specs.declared.events.DeviceAnswer.TheVariants as device
use Rattle.transitions.specs.declared.events.Event.{Event}
use Rattle.transitions.specs.declared.events.EventKind.{EventKind}
use Rattle.transitions.specs.declared.events.EventKind.TheVariants as kind
use Rattle.transitions.specs.declared.tasks.OnReaction.{OnReaction}
use Rattle.transitions.specs.declared.tasks.Task.{Task}
use Rattle.transitions.specs.declared.tasks.Task.TheVariants as task
use Rattle.level_control.specs.Answer.{Outcome}
use Rattle.level_control.specs.Handle.{number_of, event_of}
use Rattle.level_control.specs.Run.{count_answer, is_onward}
use Rattle.level_control.specs.Starts.{Start, NoFade, Fades, start_of, on_start_at}
use Rattle.level_theorems.specs.Covered.{Begins, NoneNamed, Covered, starts, starts_on, no_fade, goes_on, as_it_was}
use Rattle.level_theorems.specs.FadeTheorems.{EveryFadeCovered}
use Rattle.level_control.specs.declared.state.LevelControlState.{LevelControlState}
use Rattle.level_control.proofs.EventLaws.{event_options_stop, event_runs, options_stop_in}
use Rattle.level_control.proofs.StartLaws.{Starting, go_to_starts, direct_starts, on_starts, on_answered_is}
use Rattle.level_control.proofs.EveryFade.{accepted_zero}
use Rattle.level_theorems.proofs.TaskSteps.{Becomes, gone, reacts, further, stays, is_plain}
use Rattle.level_theorems.proofs.Coverage.{Reacts, runs_none}
use Rattle.transitions.specs.declared.events.Command.TheVariants as command

covers : (R : OnReaction → Type 0) (s : LevelControlState) (e : Event) (s' : LevelControlState) → NoneNamed s e
    → Becomes R s.task (is_onward e.kind) s'.task → Covered s e s'
covers R s e s' n (gone h) = no_fade n (λ f z. true≢false (sym h ∙ ap is_plain z))
covers R s e s' n (reacts r q w) = no_fade n (λ f z. let u : ◌≡◌ {A = ℕ} 0 1 = cc in omega arith)
covers R s e s' n (further f g p q same o) = goes_on n f g p q same o
covers R s e s' n (stays q) = by s.task refl
  where
    by : (x : Task) → s.task ≡ x → Covered s e s'
    by task.Rest p = no_fade n (λ f z. let u : ◌≡◌ {A = ℕ} 0 1 = cc in omega arith)
    by task.StartUp p = no_fade n (λ f z. let u : ◌≡◌ {A = ℕ} 0 1 = cc in omega arith)
    by (task.Fade f) p = as_it_was n f p (q ∙ p)
    by (task.Move m) p = no_fade n (λ f z. let u : ◌≡◌ {A = ℕ} 0 1 = cc in omega arith)
    by (task.OnReaction r) p = no_fade n (λ f z. let u : ◌≡◌ {A = ℕ} 0 1 = cc in omega arith)

pub begins : (o : Outcome) (at : Micros) (c t T : ℕ) → Starting o at c t T → Begins c t T at o.state
begins o at c t T w = record {
  request = w.request;
  target = w.target;
  time = w.time;
  begins = ap (λ (x : Outcome). x.state.task) (w.outcome ∙ go_to_starts w.told w.request at w.on c w.level w.apart);
}

-- the answer with a level to the on reaction's request, or anything else

data View (x : Task) (k : EventKind) : Type 0 where
  reaction : (r : OnReaction) (v : ℕ) → x ≡ task.OnReaction r → k ≡ kind.Answer (device.Level v) → View x k
  other : ((r : OnReaction) (v : ℕ) → x ≡ task.OnReaction r → k ≡ kind.Answer (device.Level v) → ⊥) → View x k

no_answer : (x : Task) (k : EventKind) → count_answer k ≡ 0 → View x k
no_answer x k h = other (λ r v p q. let one : count_answer k ≡ 1 = ap (λ (y : EventKind). count_answer y) q in omega arith)

level_view : (x : Task) (v : ℕ) → View x (kind.Answer (device.Level v))
level_view task.Rest v = other (λ r w p q. let z : ◌≡◌ {A = ℕ} 0 1 = cc in omega arith)
level_view task.StartUp v = other (λ r w p q. let z : ◌≡◌ {A = ℕ} 0 1 = cc in omega arith)
level_view (task.Fade f) v = other (λ r w p q. let z : ◌≡◌ {A = ℕ} 0 1 = cc in omega arith)
level_view (task.Move m) v = other (λ r w p q. let z : ◌≡◌ {A = ℕ} 0 1 = cc in omega arith)
level_view (task.OnReaction r) v = reaction r v refl refl

view : (x : Task) (k : EventKind) → View x k
view x kind.StartUp = no_answer x _ refl
view x (kind.Command (command.MoveToLevel r)) = no_answer x _ refl
view x (kind.Command (command.Move r)) = no_answer x _ refl
view x (kind.Command (command.Step r)) = no_answer x _ refl
view x (kind.Command (command.Stop r)) = no_answer x _ refl
view x (kind.Answer (device.Level v)) = level_view x v
view x (kind.Answer device.Missing) = other (λ r v p q. true≢false (sym (ap is_onward q)))
view x (kind.Answer device.Failed) = other (λ r v p q. true≢false (sym (ap is_onward q)))
view x kind.Wake = no_answer x _ refl
view x (kind.Command (command.OnOffChanged b)) = no_answer x _ refl
view x (kind.Command (command.Scene r)) = no_answer x _ refl
view x (kind.Command (command.DeviceUpdate l)) = no_answer x _ refl
view x (kind.Command command.DeviceStop) = no_answer x _ refl
view x (kind.Command (command.SetOnLevel l)) = no_answer x _ refl
view x (kind.Command (command.SetDefaultMoveRate r)) = no_answer x _ refl
view x (kind.Command (command.SetStartUpCurrentLevel l)) = no_answer x _ refl
view x (kind.Command command.FactoryReset) = no_answer x _ refl

module _ (s : LevelControlState) (at : Micros) (on : Bool) where
  -- where none is named
  none_starts : (k : EventKind) → number_of s (event at on k) ≡ 0 → NoneNamed s (event at on k)
      → Covered s (event at on k) (event_of s (event at on k)).state
  none_starts k z n = by (options_stop_in s (event at on k)) refl
    where
      by : (b : Bool) → options_stop_in s (event at on k) ≡ b → Covered s (event at on k) (event_of s (event at on k)).state
      by true q =
          covers (Reacts s at on k) s (event at on k) _ n
          (stays (ap (λ (o : Outcome). o.state.task) (event_options_stop s (event at on k) z q)))
      by false q =
          covers (Reacts s at on k) s (event at on k) _ n
          (subst (λ (o : Outcome). Becomes (Reacts s at on k) s.task (is_onward k) o.state.task) (sym (event_runs s (event at on k) z q)) (runs_none s at on k q n))

  -- the answer to the on reaction's request
  on_covered : (r : OnReaction) (v : ℕ) (k : EventKind) → s.task ≡ task.OnReaction r → k ≡ kind.Answer (device.Level v)
      → number_of s (event at on k) ≡ 0 → start_of s on k ≡ NoFade
      → Covered s (event at on k) (event_of s (event at on k)).state
  on_covered r v k p q z direct = by (on_start_at s.attributes.on_level r.before s v) refl
    where
      by : (x : Start) → on_start_at s.attributes.on_level r.before s v ≡ x → Covered s (event at on k) (event_of s (event at on k)).state
      by (Fades c t T) e =
          let answers : event_of s (event at on k) ≡ event_of s (event at on (kind.Answer (device.Level v))) =
          ap (λ (y : EventKind). event_of s (event at on y)) q in
          let zero : number_of s (event at on (kind.Answer (device.Level v))) ≡ 0 = ap (λ (y : EventKind). number_of s (event at on y)) (sym q) ∙ z in
          starts_on r v c t T p q e
          (begins (event_of s (event at on k)) at c t T
          (subst (λ (o : Outcome). Starting o at c t T) (sym (answers ∙ on_answered_is s r at on v p zero)) (on_starts s r.before at on v c t T e)))
      by NoFade e =
          none_starts k z
          (record {
            direct = direct;
            on = λ r' v' p' q'.
                let reactions : task.OnReaction r ≡ task.OnReaction r' = sym p ∙ p' in
                let same : r ≡ r' = cc in
                let answers : kind.Answer (device.Level v) ≡ kind.Answer (device.Level v') = sym q ∙ q' in
                let level : v ≡ v' = cc in
                subst (λ (x : OnReaction). on_start_at s.attributes.on_level x.before s v' ≡ NoFade) same
                (subst (λ (w : ℕ). on_start_at s.attributes.on_level r.before s w ≡ NoFade) level e);
          })

  covered : (k : EventKind) → number_of s (event at on k) ≡ 0 → Covered s (event at on k) (event_of s (event at on k)).state
  covered k z = by (start_of s on k) refl
    where
      seen : start_of s on k ≡ NoFade → View s.task k → Covered s (event at on k) (event_of s (event at on k)).state
      seen e (reaction r v p q) = on_covered r v k p q z e
      seen e (other h) = none_starts k z (record { direct = e; on = λ r v p q. absurd (h r v p q) })

      by : (x : Start) → start_of s on k ≡ x → Covered s (event at on k) (event_of s (event at on k)).state
      by (Fades c t T) e = starts c t T e (begins (event_of s (event at on k)) at c t T (direct_starts s at on c t T k z e))
      by NoFade e = seen e (view s.task k)

pub every_fade_covered : EveryFadeCovered
every_fade_covered s e ok = covered s e.moment.at e.moment.on_off e.kind (accepted_zero s e ok)
