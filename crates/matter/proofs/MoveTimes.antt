-- When the events of a move come: no wait is longer than a second. Assumes nothing.
use Rattle.std.specs.Prelude.{Some, None, ℕ}
use Prim.Native.Nat.{ℕ, zero, suc, ◌+◌, ◌*◌, ◌/◌, ◌≤◌, ◌<◌, max}
use mathlib.Core.Bool.{Bool, true, false, cond}
use mathlib.Core.Path.{◌≡◌, refl, sym, ap, subst}
use mathlib.Core.List.{List, [], ◌∷◌, ◌++◌}
use native.Mathlib.Omega.{arith}
use borrow.Author.Tests.{eqb-true, eqb-false, le-leb}
use lib.Dec.{eqb}
use lib.ListN.{length}
use Rattle.std.proofs.lemmas.Bool.{and_from}
use Rattle.std.proofs.lemmas.Nat.{div_below}
use Rattle.units.specs.Units.{micros, at_most, later, elapsed}
use Rattle.units.specs.declared.Micros.{Micros}
use Rattle.transitions.specs.Actions.{reports_of}
use Rattle.transitions.specs.Events.{event}
use Rattle.transitions.specs.Actions.{act_coupled}
use Rattle.transitions.specs.Fade.{wait_or_ask}
use Rattle.transitions.specs.MovePeriod.{move_period}
use Rattle.transitions.specs.Tasks.{next_move}
use Rattle.transitions.specs.declared.events.DeviceAnswer.TheVariants as device
use Rattle.transitions.specs.declared.events.Event.{Event}
use Rattle.transitions.specs.declared.events.EventKind.TheVariants as kind
use Rattle.transitions.specs.declared.tasks.Move.{Move}
use Rattle.transitions.specs.declared.tasks.Motion.{Motion}
use Rattle.transitions.specs.declared.tasks.MoveStep.{MoveStep}
use Rattle.transitions.specs.declared.tasks.MoveStep.TheVariants as step
use Rattle.transitions.specs.declared.tasks.Phase.{Phase}
use Rattle.transitions.specs.declared.tasks.Phase.TheVariants.{Asked, Waiting}
use Rattle.transitions.specs.declared.tasks.Task.{Task}
use Rattle.transitions.specs.declared.tasks.Task.TheVariants as task
use Rattle.level_control.specs.Answer.{Outcome, done}
use Rattle.level_control.specs.Judge.{latest}
use Rattle.level_control.specs.Handle.{move_answered_in, answered_in, woken_in, number_of, event_of}
use Rattle.level_control.specs.Moves.{move_ends, move_by, move_goes_on, move_next, move_then, move_transition, move_answered}
use Rattle.level_control.specs.Reports.{Told, set_level, told_level}
use Rattle.level_control.specs.Coupling.{coupled_by}
use Rattle.level_control.specs.Run.{Run, next as next_run, play}
use Rattle.level_control.specs.State.{accept, with_task}
use Rattle.level_control.specs.Targets.{quiet}
use Rattle.level_control.specs.declared.state.LevelControlState.{LevelControlState}
use Rattle.level_control.proofs.EventLaws.{event_refused}
use Rattle.level_control.proofs.FadeInvariant.{answer_is, wake_is}
use Rattle.level_theorems.specs.Replies.{Reply, wake_in, wake_of, replies, answers_from, in_time, delays}
use Rattle.level_theorems.proofs.Progress.{next_state_is, answered}

-- a rate is at least one level a second
pub at_most_a_second : (rate : ℕ) → (move_period rate).0 ≤ 1000000
unfolding move_period
at_most_a_second zero = omega arith
at_most_a_second (suc rate) =
    let below : (1000000 + suc rate / 2) / suc rate < 1000001 = div_below (1000000 + suc rate / 2) (suc rate) 1000001 (omega arith) (omega arith) in
    omega arith

-- a request that is open was made by the last accepted time; a wait ends within a second of it

abbrev TimedIn : Phase → ℕ → Type 0
TimedIn (Asked since) last = since.0 ≤ last
TimedIn (Waiting until) last = until.0 ≤ last + 1000000

abbrev pub Timed : Task → ℕ → Type 0
Timed task.Rest last = Unit {0}
Timed task.StartUp last = ⊥
Timed (task.Fade f) last = ⊥
Timed (task.Move m) last = (m.motion.period.0 ≤ 1000000) × TimedIn m.phase last
Timed (task.OnReaction r) last = ⊥

-- the state after an event at a time
abbrev pub Comes : Micros → LevelControlState → Type 0
Comes at s = (s.last_accepted ≡ at) × Timed s.task at.0

pub goes_on_comes : (t : Told) (m : Motion) (at : Micros) (on : Bool) → m.period.0 ≤ 1000000 → t.state.last_accepted ≡ at → Comes at (move_goes_on t m at on).state
unfolding move_goes_on
goes_on_comes t m at on slow q = by (next_move t.state.current_level m.mode)
  where
    by : (x : MoveStep) → Comes at (move_by x t m at on).state
    by step.Lost = (q, tt)
    by step.Ends = (q, tt)
    by (step.Asks a) = (q, (slow, omega arith))

then_comes : (t : Told) (m : Move) (since at : Micros) (on : Bool) → m.motion.period.0 ≤ 1000000 → since.0 ≤ at.0 → t.state.last_accepted ≡ at
    → Comes at (move_then t m since at on).state
unfolding move_then wait_or_ask
then_comes t m since at on slow le q = by (at_most (elapsed since at) m.motion.period)
  where
    by : (b : Bool) → Comes at (move_next (cond b (Some (later since m.motion.period)) None) t m at on).state
    by true = (q, (slow, omega arith))
    by false = goes_on_comes t m.motion at on slow q

transition_comes : (s : LevelControlState) (m : Move) (since at : Micros) (on : Bool) (v : ℕ) → m.motion.period.0 ≤ 1000000 → since.0 ≤ at.0
    → Comes at (move_transition (accept s at) m since at on v).state
unfolding move_transition told_level set_level
transition_comes s m since at on v slow le = by (move_ends (accept s at) m.asked)
  where
    by : (b : Bool)
        → Comes at
        (cond b
        (done (with_task (told_level (accept s at) (Some v) at b).state task.Rest)
        (reports_of (told_level (accept s at) (Some v) at b).reports ++ act_coupled (coupled_by (accept s at) v m.motion.with_on_off on)))
        (move_then (told_level (accept s at) (Some v) at b) m since at on)).state
    by true = (refl, tt)
    by false = then_comes (told_level (accept s at) (Some v) at false) m since at on slow le refl

answer_comes : (s : LevelControlState) (at : Micros) (on : Bool) (v : ℕ) (x : Task) → s.task ≡ x → Timed x s.last_accepted.0 → s.last_accepted.0 ≤ at.0
    → Comes at (answered_in x (accept s at) (device.Level v) at on).state
unfolding move_answered
answer_comes s at on v task.Rest q h le = (refl, subst (λ (x : Task). Timed x at.0) (sym q) tt)
answer_comes s at on v task.StartUp q h le = absurd h
answer_comes s at on v (task.Fade f) q h le = absurd h
answer_comes s at on v (task.Move m) q h le = by m.phase refl h.1
  where
    by : (p : Phase) → m.phase ≡ p → TimedIn p s.last_accepted.0 → Comes at (move_answered_in p (accept s at) m (device.Level v) at on).state
    by (Asked since) e w = transition_comes s m since at on v h.0 (omega arith)
    by (Waiting until) e w = (
      refl,
      subst (λ (x : Task). Timed x at.0) (sym q) (h.0, subst (λ (p : Phase). TimedIn p at.0) (sym e) (let z : until.0 ≤ at.0 + 1000000 = omega arith in z)),
    )
answer_comes s at on v (task.OnReaction r) q h le = absurd h

wake_comes : (s : LevelControlState) (at : Micros) (on : Bool) (x : Task) → s.task ≡ x → Timed x s.last_accepted.0 → Comes at (woken_in x (accept s at) at on).state
wake_comes s at on task.Rest q h = (refl, subst (λ (x : Task). Timed x at.0) (sym q) tt)
wake_comes s at on task.StartUp q h = absurd h
wake_comes s at on (task.Fade f) q h = absurd h
wake_comes s at on (task.Move m) q h = goes_on_comes (quiet (accept s at)) m.motion at on h.0 refl
wake_comes s at on (task.OnReaction r) q h = absurd h

-- after an event at a time, refused or not
abbrev By : ℕ → LevelControlState → Type 0
By at s = (s.last_accepted.0 ≤ at) × Timed s.task s.last_accepted.0

comes_by : (at : Micros) (s : LevelControlState) → Comes at s → By at.0 s
comes_by at s h =
    let clock : s.last_accepted.0 ≡ at.0 = ap (λ (x : Micros). x.0) h.0 in
    (omega arith, subst (λ (x : ℕ). Timed s.task x) (sym clock) h.1)

event_by : (s : LevelControlState) (e : Event) → Timed s.task s.last_accepted.0 → s.last_accepted.0 ≤ e.moment.at.0
    → (number_of s e ≡ 0 → Comes e.moment.at (event_of s e).state) → By e.moment.at.0 (event_of s e).state
event_by s e h le runs = by (eqb (number_of s e) 0) refl
  where
    by : (b : Bool) → eqb (number_of s e) 0 ≡ b → By e.moment.at.0 (event_of s e).state
    by true q = comes_by e.moment.at (event_of s e).state (runs (eqb-true _ _ q))
    by false q =
        subst (λ (o : Outcome). By e.moment.at.0 o.state) (sym (event_refused s e (eqb-false _ _ q))) (le, h)

answer_by : (s : LevelControlState) (at : Micros) (on : Bool) (v : ℕ) → Timed s.task s.last_accepted.0 → s.last_accepted.0 ≤ at.0
    → By at.0 (event_of s (event at on (kind.Answer (device.Level v)))).state
answer_by s at on v h le =
    event_by s (event at on (kind.Answer (device.Level v))) h le
    (λ z.
    subst (λ (o : Outcome). Comes at o.state) (sym (answer_is 0 0 1 (omega arith) (omega arith) s at on v z)) (answer_comes s at on v s.task refl h le))

wake_by : (s : LevelControlState) (at : Micros) (on : Bool) → Timed s.task s.last_accepted.0 → s.last_accepted.0 ≤ at.0
    → By at.0 (event_of s (event at on kind.Wake)).state
wake_by s at on h le =
    event_by s (event at on kind.Wake) h le
    (λ z. subst (λ (o : Outcome). Comes at o.state) (sym (wake_is 0 0 1 (omega arith) (omega arith) s at on z)) (wake_comes s at on s.task refl h))

-- The run.

-- what is to be shown of the replies ps, from every run
abbrev Goal : List Reply → Type 0
Goal ps = (r : Run) → Timed r.state.task r.state.last_accepted.0 → r.state.last_accepted.0 + delays ps + 1000000 * length ps ≤ latest.0
    → in_time (answers_from r ps) ≡ true

answer_soon : (p : Reply) (ps : List Reply) → Goal ps → (r : Run) → Timed r.state.task r.state.last_accepted.0
    → r.state.last_accepted.0 + (p.after + delays ps) + 1000000 * length ps ≤ latest.0 → in_time (answered r p ps) ≡ true
answer_soon p ps goal r h room =
    let e : Event = replies r.state p in
    let comes : By e.moment.at.0 (next_run r e).state =
    subst (λ (s : LevelControlState). By e.moment.at.0 s) (sym (next_state_is r e)) (answer_by r.state e.moment.at p.on p.level h (omega arith)) in
    let clock : (next_run r e).state.last_accepted.0 ≤ e.moment.at.0 = comes.0 in
    and_from _ _ (le-leb e.moment.at.0 latest.0 (omega arith)) (goal (next_run r e) comes.1 (omega arith))

task_soon : (p : Reply) (ps : List Reply) → Goal ps → (r : Run) → Timed r.state.task r.state.last_accepted.0
    → r.state.last_accepted.0 + (p.after + delays ps) + (1000000 + 1000000 * length ps) ≤ latest.0 → (x : Task) → Timed x r.state.last_accepted.0
    → in_time (wake_of x r.state p.on ++ answered (play r (wake_of x r.state p.on)) p ps) ≡ true
task_soon p ps goal r h room task.Rest w = answer_soon p ps goal r h (omega arith)
task_soon p ps goal r h room task.StartUp w = absurd w
task_soon p ps goal r h room (task.Fade f) w = absurd w
task_soon p ps goal r h room (task.Move m) w = by m.phase w.1
  where
    by : (q : Phase) → TimedIn q r.state.last_accepted.0
        → in_time (wake_in q r.state p.on ++ answered (play r (wake_in q r.state p.on)) p ps) ≡ true
    by (Asked since) w = answer_soon p ps goal r h (omega arith)
    by (Waiting until) w =
        let at : Micros = micros (max until.0 r.state.last_accepted.0) in
        let e : Event = event at p.on kind.Wake in
        let comes : By at.0 (next_run r e).state =
        subst (λ (s : LevelControlState). By at.0 s) (sym (next_state_is r e)) (wake_by r.state at p.on h (omega arith)) in
        let clock : (next_run r e).state.last_accepted.0 ≤ at.0 = comes.0 in
        and_from _ _ (le-leb at.0 latest.0 (omega arith)) (answer_soon p ps goal (next_run r e) comes.1 (omega arith))
task_soon p ps goal r h room (task.OnReaction o) w = absurd w

pub all_in_time : (ps : List Reply) → Goal ps
all_in_time [] r h room = refl
all_in_time (p ∷ ps) r h room = task_soon p ps (all_in_time ps) r h (omega arith) r.state.task h
