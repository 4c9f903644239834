-- What goes with Every fade: the path is what its name says, no fade is left out, every fade can come to its end, the remaining time is exact.
use Rattle.std.specs.Prelude.{ℕ, ◌+◌, ◌-◌, ◌*◌, ◌/◌, ◌≤◌, ◌<◌, Bool, true, ◌≡◌, ◌↔◌, List, length, get_or}
use Rattle.units.specs.declared.Micros.{Micros}
use Rattle.transitions.specs.Events.{event}
use Rattle.transitions.specs.Tasks.{task_open}
use Rattle.transitions.specs.declared.events.DeviceAnswer.{DeviceAnswer}
use Rattle.transitions.specs.declared.events.Event.{Event}
use Rattle.transitions.specs.declared.events.EventKind.TheVariants as kind
use Rattle.transitions.specs.declared.settings.Settings.{Settings}
use Rattle.transitions.specs.declared.tasks.Fade.{Fade}
use Rattle.transitions.specs.declared.tasks.OnReaction.{OnReaction}
use Rattle.transitions.specs.declared.tasks.Phase.TheVariants.{Waiting}
use Rattle.transitions.specs.declared.tasks.Task.TheVariants as task
use Rattle.level_control.specs.Answer.{Outcome}
use Rattle.level_control.specs.Judge.{latest}
use Rattle.level_control.specs.Handle.{event_of}
use Rattle.level_control.specs.Path.{path}
use Rattle.level_control.specs.Reached.{ReachedFrom}
use Rattle.level_control.specs.Run.{Run, accepted, started, play, only_onward, all_refused}
use Rattle.level_control.specs.Starts.{distance}
use Rattle.level_control.specs.State.{new_state}
use Rattle.level_control.specs.EveryFade.{Starts, Shown}
use Rattle.level_theorems.specs.EveryEvent.{InPhase}
use Rattle.level_theorems.specs.Covered.{Covered}
use Rattle.level_theorems.specs.Runs.{given_in, leaves_task, none_leaves, FadeRuns}
use Rattle.level_theorems.specs.Replies.{Reply, answers_from, in_time, delays, Ends}
use Rattle.level_theorems.specs.Uninterrupted.{uninterrupted, up_to_end, after_end, all_levels, open_of}
use Rattle.level_control.specs.declared.state.LevelControlState.{LevelControlState}
use Rattle.transitions.specs.declared.events.Command.TheVariants as command

-- The path.

pub record Leads (c t : ℕ) : Type 0 where
  pub entries : length (path c t) ≡ distance t c
  pub up : (i : ℕ) → c < t → i < distance t c → get_or (path c t) i 0 ≡ c + (i + 1)
  pub down : (i : ℕ) → t < c → i < distance t c → get_or (path c t) i 0 ≡ c - (i + 1)
  pub last : (c ≡ t → ⊥) → get_or (path c t) (distance t c - 1) 0 ≡ t

-- From c to t lead n = |t − c| levels; the i-th is i above c, or below it, and the last is t.
abbrev pub PathIs : Type 0
PathIs = (c t : ℕ) → Leads c t

-- No fade is left out.

-- Every accepted event starts the fade that the table of starts names; where it names none, no fade runs after the event but the one that ran before,
-- gone on by an answer with a level or a wake, or left as it was.
abbrev pub EveryFadeCovered : Type 0
EveryFadeCovered = (s : LevelControlState) (e : Event) → accepted s e ≡ true → Covered s e (event_of s e).state

-- An on reaction comes only from on, and keeps the level that it found: so after refused events, which leave the state as it was, the fade that its
-- answer starts is the one that `on_start` names in the state of on.
abbrev pub ReactionsCovered : Type 0
ReactionsCovered =
    (s : LevelControlState) (e : Event) (r : OnReaction) → accepted s e ≡ true → (event_of s e).state.task ≡ task.OnReaction r
    → (e.kind ≡ kind.Command (command.OnOffChanged true)) × (r.before ≡ s.current_level)

-- In every reached state in which a fade runs, one of the five starts stands in the list of events that led to it, with this fade's c, t and T; and each event
-- accepted since is an answer with a level to it, a wake of it, or one that leaves it as it was: a setter, a command that the options stop, or one that asks for
-- nothing.
abbrev pub NoFadeLeftOut : Type 0
NoFadeLeftOut = (x : Settings) (s : LevelControlState) (w : ReachedFrom x s) (f : Fade) → s.task ≡ task.Fade f → FadeRuns (new_state x) w.events f

-- What is said to leave a task as it was does, whatever the task.
abbrev pub LeavesTask : Type 0
LeavesTask = (s : LevelControlState) (e : Event) → accepted s e ≡ true → leaves_task s e ≡ true → (event_of s e).state.task ≡ s.task

-- Where there is none of the last, the list since the start is one that Every fade speaks of.
abbrev pub OnwardSince : Type 0
OnwardSince =
    (first : LevelControlState) (es : List Event) (f : Fade) (w : FadeRuns first es f) → none_leaves w.outcome.state w.since ≡ true
    → (only_onward (started w.outcome) w.since ≡ true)
    × (1 ≤ w.T → w.T ≤ 65535 → Shown w.c w.t w.T (play (started w.outcome) w.since))

-- Progress.

-- With a request open, an answer at any time from the last accepted to 2^62 − 1 is accepted.
abbrev pub AnswersAccepted : Type 0
AnswersAccepted =
    (s : LevelControlState) (a : DeviceAnswer) (at : Micros) (on : Bool)
    → task_open s.task ≡ true → s.last_accepted.0 ≤ at.0 → at.0 ≤ latest.0
    → accepted s (event at on (kind.Answer a)) ≡ true

-- While a fade or a move waits, a wake at any time from the end of the wait, or the last accepted time if that is later, to 2^62 − 1 is accepted.
abbrev pub WakesAccepted : Type 0
WakesAccepted =
    (s : LevelControlState) (until at : Micros) (on : Bool)
    → InPhase s.task (Waiting until) → until.0 ≤ at.0 → s.last_accepted.0 ≤ at.0 → at.0 ≤ latest.0
    → accepted s (event at on kind.Wake) ≡ true

-- Every fade of at least 1 tenth comes to rest after n answers, whatever levels the device answers and however late, if its waits end and its answers come by 2^62 − 1.
abbrev pub ComesToRest : Type 0
ComesToRest =
    (o : Outcome) (c t T : ℕ) (ps : List Reply)
    → Starts o c t T → (c ≡ t → ⊥) → 1 ≤ T → T ≤ 65535 → length ps ≡ distance t c → in_time (answers_from (started o) ps) ≡ true
    → Ends c t (started o) (answers_from (started o) ps)

-- Its waits end and its answers come by 2^62 − 1 if the time of the start, the device's delays and the fade's T tenths add up to at most 2^62 − 1.
abbrev pub WaitsEnd : Type 0
WaitsEnd =
    (o : Outcome) (c t T : ℕ) (ps : List Reply)
    → Starts o c t T → (c ≡ t → ⊥) → 1 ≤ T → T ≤ 65535 → length ps ≡ distance t c
    → o.state.last_accepted.0 + delays ps + 100000 * T ≤ latest.0
    → in_time (answers_from (started o) ps) ≡ true

-- The exact key.

pub record Key (s : LevelControlState) (c t T : ℕ) (r : Run) : Type 0 where
  pub before : r.answers ≡ 0 → r.state.remaining_time ≡ s.remaining_time
  pub exact : 1 ≤ r.answers → r.answers < distance t c
      → r.state.remaining_time.0 ≡ (100 * T - r.answers * (100 * T / distance t c) + 99) / 100

-- Of a fade of at least 1 tenth: with k answers accepted, 1 ≤ k < n, the remaining time shown is ⌈(100·T − k·⌊100·T ÷ n⌋) ÷ 100⌉; before the first
-- answer it is what was shown before the fade.
abbrev pub ExactKey : Type 0
ExactKey =
    (o : Outcome) (c t T : ℕ) (es : List Event)
    → (w : Starts o c t T) → (c ≡ t → ⊥) → 1 ≤ T → T ≤ 65535 → only_onward (started o) es ≡ true
    → Key (given_in w) c t T (play (started o) es)

-- What is seen, and the task.

-- Of a fade of at least 1 tenth: after the list, the request or the wait that is seen to be open is the one that the task keeps.
abbrev pub TaskAgrees : Type 0
TaskAgrees =
    (o : Outcome) (c t T : ℕ) (es : List Event)
    → Starts o c t T → (c ≡ t → ⊥) → 1 ≤ T → T ≤ 65535 → only_onward (started o) es ≡ true
    → (play (started o) es).pending ≡ open_of (play (started o) es).state.task

-- Uninterrupted.

-- A list of events of which only answers with a level and wakes are accepted leaves a fade uninterrupted.
abbrev pub Uninterrupted : Type 0
Uninterrupted = (r : Run) (es : List Event) → only_onward r es ≡ true → uninterrupted r es ≡ true

-- And the other way round, up to the fade's end.
pub record UninterruptedLists : Type 0 where
  -- Up to the end a list is one of the claim exactly if it leaves the fade uninterrupted and every accepted answer has a level.
  pub to_end : (r : Run) (es : List Event)
      → (only_onward r (up_to_end r es) ≡ true) ↔ ((uninterrupted r es ≡ true) × (all_levels r (up_to_end r es) ≡ true))
  -- After the end of a fade of at least 1 tenth a list of the claim has refused events alone; so the lists of the claim are exactly these.
  pub whole : (o : Outcome) (c t T : ℕ) (es : List Event)
      → Starts o c t T → 1 ≤ T → T ≤ 65535
      → (only_onward (started o) es ≡ true)
      ↔ ((uninterrupted (started o) es ≡ true)
      × (all_levels (started o) (up_to_end (started o) es) ≡ true)
      × (all_refused (play (started o) (up_to_end (started o) es)).state (after_end (started o) es) ≡ true))
