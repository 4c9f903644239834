-- Every fade comes to rest, if the device answers and its waits end in time. Assumes nothing.
use Prim.Native.Nat.{ℕ, suc, ◌+◌, ◌≤◌, max}
use mathlib.Core.Bool.{Bool, true, false, not, ◌||◌}
use mathlib.Core.Path.{◌≡◌, refl, ap, ◌∙◌}
use mathlib.Core.List.{List, [], ◌∷◌, ◌++◌}
use native.Mathlib.Omega.{arith}
use borrow.Author.Tests.{leb-true}
use lib.Dec.{leb}
use lib.ListN.{length}
use Rattle.std.proofs.lemmas.Bool.{and_from, and_parts, or_right}
use Rattle.units.specs.Units.{micros}
use Rattle.units.specs.declared.Micros.{Micros}
use Rattle.transitions.specs.Events.{event}
use Rattle.transitions.specs.Tasks.{task_open, phase_open, fade_asking}
use Rattle.transitions.specs.declared.events.DeviceAnswer.TheVariants as device
use Rattle.transitions.specs.declared.events.Event.{Event}
use Rattle.transitions.specs.declared.events.EventKind.TheVariants as kind
use Rattle.transitions.specs.declared.tasks.Fade.{Fade}
use Rattle.transitions.specs.declared.tasks.Phase.{Phase}
use Rattle.transitions.specs.declared.tasks.Phase.TheVariants.{Asked, Waiting}
use Rattle.transitions.specs.declared.tasks.Task.{Task}
use Rattle.transitions.specs.declared.tasks.Task.TheVariants as task
use Rattle.level_control.specs.State.{accept}
use Rattle.level_control.specs.Answer.{Outcome}
use Rattle.level_control.specs.Judge.{latest}
use Rattle.level_control.specs.Fades.{fade_woken}
use Rattle.level_control.specs.Handle.{woken_in, number_of, event_of}
use Rattle.level_control.specs.Run.{Run, accepted, count_answer, is_onward, started, next_by, next, play, only_onward}
use Rattle.level_control.specs.Starts.{distance}
use Rattle.level_control.specs.EveryFade.{Shown}
use Rattle.level_theorems.specs.Replies.{Reply, wake_in, wake_of, replies, answers_from, in_time}
use Rattle.level_theorems.specs.FadeTheorems.{ComesToRest}
use Rattle.level_control.specs.declared.state.LevelControlState.{LevelControlState}
use Rattle.level_control.proofs.FadeInvariant.{Inv, Kept, wake_is, keep}
use Rattle.level_control.proofs.EveryFade.{accepted_zero, kept, every_fade}
use Rattle.level_theorems.proofs.Acceptance.{answers_accepted, fade_wakes_accepted}

-- One event.

pub next_state_is : (r : Run) (e : Event) → (next r e).state ≡ (event_of r.state e).state
unfolding next
next_state_is r e = by (accepted r.state e)
  where
    by : (b : Bool) → (next_by b (event_of r.state e) e.kind r).state ≡ (event_of r.state e).state
    by true = refl
    by false = refl

pub next_answers : (r : Run) (e : Event) → accepted r.state e ≡ true → (next r e).answers ≡ r.answers + count_answer e.kind
unfolding next
next_answers r e h = rw h refl

-- after the wake that ends a wait, a request is open
pub wake_opens : (s : LevelControlState) (f : Fade) (at : Micros) (on : Bool) → s.task ≡ task.Fade f → number_of s (event at on kind.Wake) ≡ 0
    → task_open (event_of s (event at on kind.Wake)).state.task ≡ true
unfolding fade_woken fade_asking
wake_opens s f at on q z =
    ap (λ (o : Outcome). task_open o.state.task) (wake_is 0 0 1 (omega arith) (omega arith) s at on z)
    ∙ ap (λ (x : Task). task_open (woken_in x (accept s at) at on).state.task) q

-- the answer to an open request, and what follows it
abbrev pub answered : Run → Reply → List Reply → List Event
answered r p ps = replies r.state p ∷ answers_from (next r (replies r.state p)) ps

module _ (c t T : ℕ) (pos : 1 ≤ T) (small : T ≤ 65535) where
  -- what a list of events leads to
  abbrev Leads : Run → List Event → ℕ → Type 0
  Leads r es k = (only_onward r es ≡ true) × ((play r es).answers ≡ k)

  -- what is to be shown of the replies ps, from every run
  abbrev Goal : List Reply → Type 0
  Goal ps = (r : Run) → Kept c t T pos small r → r.answers + length ps ≡ distance t c → in_time (answers_from r ps) ≡ true
      → Leads r (answers_from r ps) (distance t c)

  answer_leads : (p : Reply) (ps : List Reply) → Goal ps → (r : Run) → Kept c t T pos small r → task_open r.state.task ≡ true
      → r.answers + suc (length ps) ≡ distance t c → in_time (answered r p ps) ≡ true → Leads r (answered r p ps) (distance t c)
  answer_leads p ps goal r h is_open left time =
      let e : Event = replies r.state p in
      let others : Bool = in_time (answers_from (next r e) ps) in
      let soon : e.moment.at.0 ≤ latest.0 = leb-true e.moment.at.0 latest.0 (and_parts (leb e.moment.at.0 latest.0) others time).0 in
      let ok : accepted r.state e ≡ true = answers_accepted r.state (device.Level p.level) e.moment.at p.on is_open (omega arith) soon in
      let count : (next r e).answers ≡ r.answers + 1 = next_answers r e ok in
      let on : (not (accepted r.state e) || is_onward e.kind) ≡ true = or_right (not (accepted r.state e)) true refl in
      let rest = goal (next r e) (keep c t T pos small r e on h) (omega arith) (and_parts (leb e.moment.at.0 latest.0) others time).1 in
      (and_from _ _ on rest.0, rest.1)

  -- a wake before it, where the fade waits
  abbrev Led : Run → Reply → List Reply → List Event → Type 0
  Led r p ps ws = in_time (ws ++ answered (play r ws) p ps) ≡ true → Leads r (ws ++ answered (play r ws) p ps) (distance t c)

  wake_leads : (p : Reply) (ps : List Reply) → Goal ps → (r : Run) → Kept c t T pos small r → (f : Fade) → r.state.task ≡ task.Fade f
      → r.answers + suc (length ps) ≡ distance t c → (q : Phase) → f.phase ≡ q → Led r p ps (wake_in q r.state p.on)
  wake_leads p ps goal r h f x left (Asked since) e time = answer_leads p ps goal r h (ap task_open x ∙ ap phase_open e) left time
  wake_leads p ps goal r h f x left (Waiting until) e time =
      let at : Micros = micros (max until.0 r.state.last_accepted.0) in
      let w : Event = event at p.on kind.Wake in
      let others : Bool = in_time (answered (next r w) p ps) in
      let soon : at.0 ≤ latest.0 = leb-true at.0 latest.0 (and_parts (leb at.0 latest.0) others time).0 in
      let ok : accepted r.state w ≡ true = fade_wakes_accepted r.state f until at p.on x e (omega arith) (omega arith) soon in
      let on : (not (accepted r.state w) || is_onward w.kind) ≡ true = or_right (not (accepted r.state w)) true refl in
      let is_open : task_open (next r w).state.task ≡ true =
      ap (λ (s : LevelControlState). task_open s.task) (next_state_is r w) ∙ wake_opens r.state f at p.on x (accepted_zero r.state w ok) in
      let count : (next r w).answers ≡ r.answers + 0 = next_answers r w ok in
      let rest = answer_leads p ps goal (next r w) (keep c t T pos small r w on h) is_open (omega arith)
      (and_parts (leb at.0 latest.0) others time).1 in
      (and_from _ _ on rest.0, rest.1)

  -- before the end a fade runs
  task_leads : (p : Reply) (ps : List Reply) → Goal ps → (r : Run) → Kept c t T pos small r → r.answers + suc (length ps) ≡ distance t c
      → (x : Task) → r.state.task ≡ x → Inv c t T r.asked r.answers r.state.remaining_time.0 r.pending x
      → Led r p ps (wake_of x r.state p.on)
  task_leads p ps goal r h left task.Rest q i = absurd (omega (arith, i.0))
  task_leads p ps goal r h left task.StartUp q i = absurd i
  task_leads p ps goal r h left (task.Fade f) q i = wake_leads p ps goal r h f q left f.phase refl
  task_leads p ps goal r h left (task.Move m) q i = absurd i
  task_leads p ps goal r h left (task.OnReaction o) q i = absurd i

  leads : (ps : List Reply) → Goal ps
  leads [] r h left time = (refl, omega arith)
  leads (p ∷ ps) r h left time = task_leads p ps (leads ps) r h left r.state.task refl h time

pub comes_to_rest : ComesToRest
comes_to_rest o c t T ps w ne pos small n time =
    let es : List Event = answers_from (started o) ps in
    let led = leads c t T pos small ps (started o) (kept o c t T [] w pos small refl) (omega arith) time in
    let shown : Shown c t T (play (started o) es) = every_fade o c t T es w ne pos small led.0 in
    record { onward = led.0; all_answered = led.1; rest = shown.rest.1 led.1 }
