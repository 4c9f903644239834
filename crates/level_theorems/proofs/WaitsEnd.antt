-- When the events of a fade come: no wait is longer than the period. Assumes nothing.
use Rattle.std.specs.Prelude.{Option, Some, None, ℕ}
use Prim.Native.Nat.{ℕ, suc, ◌+◌, ◌*◌, ◌/◌, ◌≤◌, max}
use mathlib.Core.Bool.{Bool, true, false, cond, not, ◌||◌, false≢true}
use mathlib.Core.Path.{◌≡◌, refl, sym, ap, subst, ◌∙◌}
use mathlib.Core.List.{List, [], ◌∷◌, ◌++◌}
use native.Mathlib.Omega.{arith}
use native.Mathlib.Nat.{div-mul-le_self}
use borrow.Author.Tests.{le-leb}
use lib.ListN.{length}
use Rattle.std.proofs.lemmas.Bool.{and_from, or_right}
use Rattle.units.specs.Units.{micros, millis_to_micros, at_most, later, elapsed}
use Rattle.units.specs.declared.Micros.{Micros}
use Rattle.transitions.specs.Events.{event}
use Rattle.transitions.specs.Fade.{wait_or_ask}
use Rattle.transitions.specs.Tasks.{task_open, phase_open, fade_last, fade_from, fade_asking, fade_waiting, level_to_put_back}
use Rattle.transitions.specs.declared.events.DeviceAnswer.TheVariants as device
use Rattle.transitions.specs.declared.events.Event.{Event}
use Rattle.transitions.specs.declared.events.EventKind.TheVariants as kind
use Rattle.transitions.specs.declared.tasks.Fade.{Fade}
use Rattle.transitions.specs.declared.tasks.Phase.{Phase}
use Rattle.transitions.specs.declared.tasks.Phase.TheVariants.{Asked, Waiting}
use Rattle.transitions.specs.declared.tasks.Task.{Task}
use Rattle.transitions.specs.declared.tasks.Task.TheVariants as task
use Rattle.transitions.specs.Types.{Level}
use Rattle.level_control.specs.State.{accept}
use Rattle.level_control.specs.Answer.{Outcome}
use Rattle.level_control.specs.Reports.{write_remaining_time, set_level}
use Rattle.level_control.specs.Fades.{fade_stored, fade_told, ended_put_back, fade_ended_by, fade_ended, fade_then, fade_goes_on, move_to_level_transition, fade_answered, fade_woken}
use Rattle.level_control.specs.Judge.{latest}
use Rattle.level_control.specs.Handle.{fade_answered_in, answered_in, woken_in}
use Rattle.level_control.specs.Run.{Run, accepted, is_onward, started, next as next_run, play}
use Rattle.level_control.specs.Starts.{distance}
use Rattle.level_theorems.specs.Replies.{Reply, wake_in, wake_of, replies, answers_from, in_time, delays}
use Rattle.level_theorems.specs.FadeTheorems.{WaitsEnd}
use Rattle.level_control.specs.Reports.{Told}
use Rattle.level_control.specs.declared.state.LevelControlState.{LevelControlState}
use Rattle.level_control.proofs.FadeInvariant.{Inv, Kept, answer_is, wake_is, keep}
use Rattle.level_control.proofs.StartLaws.{Starting, go_to_starts}
use Rattle.level_control.proofs.EveryFade.{accepted_zero, starts, kept}
use Rattle.level_theorems.proofs.Acceptance.{answers_accepted, fade_wakes_accepted}
use Rattle.level_theorems.proofs.Progress.{next_state_is, next_answers, wake_opens, answered}

-- a request that is open was made by the last accepted time; a wait ends within a period of it
abbrev TimedIn : Phase → ℕ → ℕ → Type 0
TimedIn (Asked since) period last = since.0 ≤ last
TimedIn (Waiting until) period last = until.0 ≤ last + period * 1000

abbrev pub Timed : Task → ℕ → Type 0
Timed task.Rest last = Unit {0}
Timed task.StartUp last = Unit {0}
Timed (task.Fade f) last = TimedIn f.phase f.period.0 last
Timed (task.Move m) last = Unit {0}
Timed (task.OnReaction r) last = Unit {0}

-- the state after an event at a time
abbrev pub Comes : Micros → LevelControlState → Type 0
Comes at s = (s.last_accepted ≡ at) × Timed s.task at.0

ended_comes : (t : Told) (put_back : Option ℕ) (at : Micros) → t.state.last_accepted ≡ at → Comes at (fade_ended t put_back).state
unfolding fade_ended ended_put_back
ended_comes t put_back at q = by (level_to_put_back put_back t.state.attributes.on_level)
  where
    by : (l : Level) → Comes at (fade_ended_by l t).state
    by (Some before) = (q, tt)
    by None = (q, tt)

goes_on_comes : (t : Told) (f : Fade) (since at : Micros) → since.0 ≤ at.0 → t.state.last_accepted ≡ at → Comes at (fade_goes_on t f since at).state
unfolding fade_goes_on wait_or_ask fade_waiting fade_asking
goes_on_comes t f since at le q = by (at_most (elapsed since at) (millis_to_micros f.period))
  where
    by : (b : Bool) → Comes at (fade_then (cond b (Some (later since (millis_to_micros f.period))) None) t f at).state
    by true = (q, omega arith)
    by false = (q, omega arith)

told_last : (s : LevelControlState) (f : Fade) (at : Micros) (on : Bool) (v : ℕ) → (fade_told s f at on v).state.last_accepted ≡ s.last_accepted
unfolding fade_told fade_stored write_remaining_time set_level
told_last s f at on v = refl

answer_comes : (s : LevelControlState) (f : Fade) (since at : Micros) (on : Bool) (v : ℕ) → since.0 ≤ at.0
    → Comes at (move_to_level_transition (accept s at) f since at on v).state
unfolding move_to_level_transition
answer_comes s f since at on v le = by (fade_last f)
  where
    told : Told
    told = fade_told (accept s at) f at on v

    by : (b : Bool) → Comes at (cond b (fade_ended told f.put_back) (fade_goes_on told f since at)).state
    by true = ended_comes told f.put_back at (told_last (accept s at) f at on v)
    by false = goes_on_comes told f since at le (told_last (accept s at) f at on v)

wake_comes : (s : LevelControlState) (f : Fade) (at : Micros) → Comes at (fade_woken (accept s at) f at).state
unfolding fade_woken fade_asking
wake_comes s f at = (refl, omega arith)

-- one event of a run

wake_run : (r : Run) (f : Fade) (at : Micros) (on : Bool) → r.state.task ≡ task.Fade f → accepted r.state (event at on kind.Wake) ≡ true
    → Comes at (next_run r (event at on kind.Wake)).state
wake_run r f at on q ok =
    let s : LevelControlState = r.state in
    let w : Event = event at on kind.Wake in
    let is : (next_run r w).state ≡ (fade_woken (accept s at) f at).state =
    next_state_is r w
    ∙ ap (λ (o : Outcome). o.state) (wake_is 0 0 1 (omega arith) (omega arith) s at on (accepted_zero s w ok))
    ∙ ap (λ (x : Task). (woken_in x (accept s at) at on).state) q in
    subst (λ (x : LevelControlState). Comes at x) (sym is) (wake_comes s f at)

answer_run : (r : Run) (f : Fade) (since at : Micros) (on : Bool) (v : ℕ) → r.state.task ≡ task.Fade f → f.phase ≡ Asked since → since.0 ≤ at.0
    → accepted r.state (event at on (kind.Answer (device.Level v))) ≡ true
    → Comes at (next_run r (event at on (kind.Answer (device.Level v)))).state
unfolding fade_answered
answer_run r f since at on v q p le ok =
    let s : LevelControlState = r.state in
    let e : Event = event at on (kind.Answer (device.Level v)) in
    let is : (next_run r e).state ≡ (move_to_level_transition (accept s at) f since at on v).state =
    next_state_is r e
    ∙ ap (λ (o : Outcome). o.state) (answer_is 0 0 1 (omega arith) (omega arith) s at on v (accepted_zero s e ok))
    ∙ ap (λ (x : Task). (answered_in x (accept s at) (device.Level v) at on).state) q
    ∙ ap (λ (x : Phase). (fade_answered_in x (accept s at) f (device.Level v) at on).state) p in
    subst (λ (x : LevelControlState). Comes at x) (sym is) (answer_comes s f since at on v le)

module _ (c t T : ℕ) (pos : 1 ≤ T) (small : T ≤ 65535) where
  -- a period in microseconds
  abbrev each : ℕ
  each = T * 100 / distance t c * 1000

  -- what is to be shown of the replies ps, from every run
  abbrev Goal : List Reply → Type 0
  Goal ps = (r : Run) → Kept c t T pos small r → Timed r.state.task r.state.last_accepted.0 → r.answers + length ps ≡ distance t c
      → r.state.last_accepted.0 + delays ps + length ps * each ≤ latest.0 → in_time (answers_from r ps) ≡ true

  -- the answer to a request that is open
  answer_soon : (p : Reply) (ps : List Reply) → Goal ps → (r : Run) → Kept c t T pos small r → (x : Task) → r.state.task ≡ x → task_open x ≡ true
      → Inv c t T r.asked r.answers r.state.remaining_time.0 r.pending x → Timed x r.state.last_accepted.0
      → r.answers + suc (length ps) ≡ distance t c
      → r.state.last_accepted.0 + (p.after + delays ps) + length ps * each ≤ latest.0 → in_time (answered r p ps) ≡ true
  answer_soon p ps goal r h task.Rest q o i w left room = absurd (omega (arith, i.0))
  answer_soon p ps goal r h task.StartUp q o i w left room = absurd i
  answer_soon p ps goal r h (task.Fade f) q o i w left room = by f.phase refl o w
    where
      by : (y : Phase) → f.phase ≡ y → phase_open y ≡ true → TimedIn y f.period.0 r.state.last_accepted.0 → in_time (answered r p ps) ≡ true
      by (Asked since) z o w =
          let e : Event = replies r.state p in
          let soon : e.moment.at.0 ≤ latest.0 = omega arith in
          let low : r.state.last_accepted.0 ≤ e.moment.at.0 = omega arith in
          let ok : accepted r.state e ≡ true = answers_accepted r.state (device.Level p.level) e.moment.at p.on (ap task_open q ∙ ap phase_open z) low soon in
          let count : (next_run r e).answers ≡ r.answers + 1 = next_answers r e ok in
          let on : (not (accepted r.state e) || is_onward e.kind) ≡ true = or_right (not (accepted r.state e)) true refl in
          let comes : Comes e.moment.at (next_run r e).state = answer_run r f since e.moment.at p.on p.level q z (omega arith) ok in
          let clock : (next_run r e).state.last_accepted.0 ≡ e.moment.at.0 = ap (λ (x : Micros). x.0) comes.0 in
          and_from _ _ (le-leb e.moment.at.0 latest.0 soon)
          (goal (next_run r e) (keep c t T pos small r e on h)
          (subst (λ (x : ℕ). Timed (next_run r e).state.task x) (sym clock) comes.1) (omega arith) (omega arith))
      by (Waiting until) z o w = absurd (false≢true o)
  answer_soon p ps goal r h (task.Move m) q o i w left room = absurd i
  answer_soon p ps goal r h (task.OnReaction x) q o i w left room = absurd i

  -- a wake before it, where the fade waits

  abbrev Soon : Run → Reply → List Reply → List Event → Type 0
  Soon r p ps ws = in_time (ws ++ answered (play r ws) p ps) ≡ true

  wake_soon : (p : Reply) (ps : List Reply) → Goal ps → (r : Run) → Kept c t T pos small r → (f : Fade) → r.state.task ≡ task.Fade f
      → f.period.0 ≡ T * 100 / distance t c
      → r.answers + suc (length ps) ≡ distance t c
      → r.state.last_accepted.0 + (p.after + delays ps) + (each + length ps * each) ≤ latest.0
      → (y : Phase) → f.phase ≡ y → TimedIn y f.period.0 r.state.last_accepted.0 → Soon r p ps (wake_in y r.state p.on)
  wake_soon p ps goal r h f q period left room (Asked since) z w =
      answer_soon p ps goal r h r.state.task refl (ap task_open q ∙ ap phase_open z) h
      (subst (λ (x : Task). Timed x r.state.last_accepted.0) (sym q) (subst (λ (y : Phase). TimedIn y f.period.0 r.state.last_accepted.0) (sym z) w))
      left (omega arith)
  wake_soon p ps goal r h f q period left room (Waiting until) z w =
      let at : Micros = micros (max until.0 r.state.last_accepted.0) in
      let e : Event = event at p.on kind.Wake in
      let wait : until.0 ≤ r.state.last_accepted.0 + each = rw period at w in
      let soon : at.0 ≤ latest.0 = omega arith in
      let ok : accepted r.state e ≡ true = fade_wakes_accepted r.state f until at p.on q z (omega arith) (omega arith) soon in
      let on : (not (accepted r.state e) || is_onward e.kind) ≡ true = or_right (not (accepted r.state e)) true refl in
      let is_open : task_open (next_run r e).state.task ≡ true =
      ap (λ (s : LevelControlState). task_open s.task) (next_state_is r e) ∙ wake_opens r.state f at p.on q (accepted_zero r.state e ok) in
      let count : (next_run r e).answers ≡ r.answers + 0 = next_answers r e ok in
      let comes : Comes at (next_run r e).state = wake_run r f at p.on q ok in
      let clock : (next_run r e).state.last_accepted.0 ≡ at.0 = ap (λ (x : Micros). x.0) comes.0 in
      let holds : Kept c t T pos small (next_run r e) = keep c t T pos small r e on h in
      and_from _ _ (le-leb at.0 latest.0 soon)
      (answer_soon p ps goal (next_run r e) holds (next_run r e).state.task refl is_open holds
      (subst (λ (x : ℕ). Timed (next_run r e).state.task x) (sym clock) comes.1) (omega arith) (omega arith))

  task_soon : (p : Reply) (ps : List Reply) → Goal ps → (r : Run) → Kept c t T pos small r
      → r.answers + suc (length ps) ≡ distance t c
      → r.state.last_accepted.0 + (p.after + delays ps) + (each + length ps * each) ≤ latest.0
      → (x : Task) → r.state.task ≡ x → Inv c t T r.asked r.answers r.state.remaining_time.0 r.pending x
      → Timed x r.state.last_accepted.0 → Soon r p ps (wake_of x r.state p.on)
  task_soon p ps goal r h left room task.Rest q i w = absurd (omega (arith, i.0))
  task_soon p ps goal r h left room task.StartUp q i w = absurd i
  task_soon p ps goal r h left room (task.Fade f) q i w = wake_soon p ps goal r h f q i.0.each left room f.phase refl w
  task_soon p ps goal r h left room (task.Move m) q i w = absurd i
  task_soon p ps goal r h left room (task.OnReaction o) q i w = absurd i

  all_soon : (ps : List Reply) → Goal ps
  all_soon [] r h w left room = refl
  all_soon (p ∷ ps) r h w left room = task_soon p ps (all_soon ps) r h left (omega arith) r.state.task refl h w

-- a fade that starts
start_timed : (o : Outcome) (at : Micros) (c t T : ℕ) → Starting o at c t T → Timed o.state.task o.state.last_accepted.0
unfolding fade_from
start_timed o at c t T w =
    subst (λ (x : Outcome). Timed x.state.task x.state.last_accepted.0)
    (sym (w.outcome ∙ go_to_starts w.told w.request at w.on c w.level w.apart))
    (let same : w.told.state.last_accepted.0 ≡ at.0 = ap (λ (x : Micros). x.0) w.last in omega arith)

pub waits_end : WaitsEnd
waits_end o c t T ps w ne pos small n room =
    let begun = starts o c t T w in
    let whole : T * 100 / distance t c * distance t c ≤ T * 100 = div-mul-le_self (T * 100) (distance t c) in
    let waits : length ps * each c t T pos small ≤ 100000 * T = rw n (omega arith) in
    all_soon c t T pos small ps (started o) (kept o c t T [] w pos small refl) (start_timed o begun.0 c t T begun.1) (omega arith) (omega arith)
