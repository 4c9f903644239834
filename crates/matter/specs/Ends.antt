-- The Matter document's commands to their end: what a lamp that gives back each level that it is asked for (Run.antt) is asked for, and where CurrentLevel
-- comes to rest. Each is said of every list of events after the command, refused ones included, of which only such answers and wakes are accepted, and from
-- the definitions of Matter.antt alone.
use Rattle.std.specs.Prelude.{ℕ, suc, ◌+◌, ◌*◌, ◌≤◌, true, false, cond, ◌||◌, ◌≡◌, ◌↔◌, List, [], ◌∷◌, eqb, length, take, Some, None}
use Rattle.units.specs.Units.{tenths_down}
use Rattle.units.specs.declared.Tenths.{Tenths}
use Rattle.transitions.specs.declared.events.Command.TheVariants as command
use Rattle.transitions.specs.declared.events.Event.{Event}
use Rattle.transitions.specs.declared.events.EventKind.TheVariants as kind
use Rattle.transitions.specs.declared.events.MoveRequest.{MoveRequest}
use Rattle.transitions.specs.declared.events.MoveToLevelRequest.{MoveToLevelRequest}
use Rattle.transitions.specs.declared.events.SceneRequest.{SceneRequest}
use Rattle.transitions.specs.declared.events.StepRequest.{StepRequest}
use Rattle.transitions.specs.declared.tasks.Task.TheVariants as task
use Rattle.transitions.specs.declared.types.Mode.{Mode}
use Rattle.transitions.specs.declared.types.Mode.TheVariants.{Up, Down}
use Rattle.level_control.specs.Answer.{Outcome}
use Rattle.level_control.specs.Judge.{latest}
use Rattle.level_control.specs.Handle.{event_of}
use Rattle.level_control.specs.Path.{path}
use Rattle.level_control.specs.Run.{Run, Nothing, accepted, waits, started, play, only_echo}
use Rattle.level_control.specs.declared.state.LevelControlState.{LevelControlState}
use Rattle.level_theorems.specs.Replies.{Reply, answers_from, in_time, delays}
use Rattle.matter.specs.Matter.{Effect, Goes, goes, within, move_to_level, step, move_to, after_on, off, after_off}
use Rattle.matter.specs.Agreement.{IsLevel, passes}

-- The levels on the way.

-- Move: from a level each next one is what the document's move gives for the one before, and for the last it gives none
abbrev pub OneByOne : Mode → ℕ → ℕ → ℕ → List ℕ → Type 0
OneByOne mode min max level [] = move_to mode min max level ≡ None
OneByOne mode min max level (next ∷ others) = (move_to mode min max level ≡ Some next) × OneByOne mode min max next others

abbrev pub limit : Mode → ℕ → ℕ → ℕ
limit Up min max = max
limit Down min max = min

-- a change that takes time leads over the levels one by one, one that takes none asks for its end at once: ours (Fades), the document does not say it
abbrev pub way : ℕ → ℕ → ℕ → List ℕ
way from to tenths = cond (eqb tenths 0) (to ∷ []) (path from to)

abbrev pub way_of : Effect → List ℕ
way_of (Goes from to tenths) = way from to tenths
way_of _ = []

-- CurrentLevel after it, from a level
abbrev pub level_reached : Effect → ℕ → ℕ
level_reached (Goes from to tenths) level = to
level_reached _ level = level

-- what holds after the list, with k answers accepted, of a command whose way has n levels, and after which CurrentLevel is `last`
pub record Arrives (way : List ℕ) (last : ℕ) (r : Run) : Type 0 where
  pub at_most : r.answers ≤ length way
  -- the levels asked for from the command on are the first k + 1 of the way, but only the first k exactly when it waits for a wake or k = n
  pub levels : r.asked ≡ take (cond (waits r.pending || eqb r.answers (length way)) r.answers (suc r.answers)) way
  -- it is at rest exactly when k = n, and then CurrentLevel has arrived
  pub rest : (r.pending ≡ Nothing) ↔ (r.answers ≡ length way)
  pub end : r.answers ≡ length way → (r.state.task ≡ task.Rest) × (r.state.current_level ≡ Some last)

-- the device's replies, in order
abbrev pub levels_of : List Reply → List ℕ
levels_of [] = []
levels_of (p ∷ ps) = p.level ∷ levels_of ps

-- such a lamp's answers, and the wakes that end the waits between them, are a list of that kind, and after it every request is answered
pub record Reaches (way : List ℕ) (r : Run) (es : List Event) : Type 0 where
  pub only : only_echo r es ≡ true
  pub answered : (play r es).answers ≡ length way

-- a command that gave this outcome comes to its end
pub record Completes (way : List ℕ) (last : ℕ) (o : Outcome) : Type 0 where
  -- whatever the list
  pub arrives : (es : List Event) → only_echo (started o) es ≡ true → Arrives way last (play (started o) es)
  -- and it does get there, if the lamp's answers, however late, and the wakes come by 2^62 − 1
  pub reaches : (ps : List Reply) → levels_of ps ≡ way → in_time (answers_from (started o) ps) ≡ true
      → Reaches way (started o) (answers_from (started o) ps)

-- an accepted Move, past the Options processing, from a level within MIN..MAX that is not the limit, MAX at most 254
pub record MovesFrom (s : LevelControlState) (e : Event) (r : MoveRequest) (c : ℕ) : Type 0 where
  pub is_move : e.kind ≡ kind.Command (command.Move r)
  pub is_accepted : accepted s e ≡ true
  pub is_executed : passes s e r.options.with_on_off r.options.options_mask r.options.options_override ≡ true
  pub level : s.current_level ≡ Some c
  pub low : s.settings.range.min ≤ c
  pub high : c ≤ s.settings.range.max
  pub small : s.settings.range.max ≤ 254
  pub short : c ≡ limit r.mode s.settings.range.min s.settings.range.max → ⊥

pub record CommandsEnd : Type 0 where
  -- Move: the path to the limit is the document's way, one unit after the other
  pub move_leads : (mode : Mode) (min max c : ℕ) → min ≤ c → c ≤ max → OneByOne mode min max c (path c (limit mode min max))
  -- Move: one by one to the limit
  pub move_ends : (s : LevelControlState) (e : Event) (r : MoveRequest) (c : ℕ) → MovesFrom s e r c
      → Completes (path c (limit r.mode s.settings.range.min s.settings.range.max)) (limit r.mode s.settings.range.min s.settings.range.max) (event_of s e)
  -- Move: the answers and the wakes come by 2^62 − 1 if the time of the command, the lamp's delays and a second for each answer add up to at most that: no
  -- rate is lower than one level a second
  pub move_in_time : (s : LevelControlState) (e : Event) (r : MoveRequest) (c : ℕ) (ps : List Reply) → MovesFrom s e r c
      → e.moment.at.0 + delays ps + 1000000 * length ps ≤ latest.0 → in_time (answers_from (started (event_of s e)) ps) ≡ true
  -- MoveToLevel, with a time that is given; MIN at most MAX
  pub move_to_level_ends : (s : LevelControlState) (e : Event) (r : MoveToLevelRequest) (c : ℕ) (T : Tenths) (from to tenths : ℕ)
      → e.kind ≡ kind.Command (command.MoveToLevel r) → accepted s e ≡ true → s.current_level ≡ Some c → s.settings.range.min ≤ s.settings.range.max
      → r.transition_time ≡ Some T
      → move_to_level (passes s e r.options.with_on_off r.options.options_mask r.options.options_override) s.settings.range.min s.settings.range.max c r.level
      r.transition_time s.attributes.on_off_transition_time.0 ≡ Goes from to tenths
      → Completes (way from to tenths) to (event_of s e)
  -- Step, from a level within MIN..MAX, MAX at most 254, where it is not refused
  pub step_ends : (s : LevelControlState) (e : Event) (r : StepRequest) (c : ℕ) (from to tenths : ℕ)
      → e.kind ≡ kind.Command (command.Step r) → accepted s e ≡ true → s.current_level ≡ Some c → s.settings.range.min ≤ c → c ≤ s.settings.range.max
      → s.settings.range.max ≤ 254
      → step (passes s e r.options.with_on_off r.options.options_mask r.options.options_override) r.mode s.settings.range.min s.settings.range.max c
      r.step_size r.transition_time ≡ Goes from to tenths
      → Completes (way from to tenths) to (event_of s e)
  -- Scenes: CurrentLevel goes to a level of at most 254, brought within the range, in the scene's time [general]; in whole tenths, which is ours. MIN at
  -- most MAX; and the Options processing lets a command without on/off pass, which is ours too
  pub scene_ends : (s : LevelControlState) (e : Event) (r : SceneRequest) (c level from to tenths : ℕ)
      → e.kind ≡ kind.Command (command.Scene r) → accepted s e ≡ true → passes s e false (record { 0 = 0 }) (record { 0 = 0 }) ≡ true
      → s.current_level ≡ Some c → s.settings.range.min ≤ s.settings.range.max → r.level ≡ Some level → level ≤ 254
      → goes c (within s.settings.range.min s.settings.range.max level) (tenths_down r.transition_time).0 ≡ Goes from to tenths
      → Completes (way from to tenths) to (event_of s e)
  -- Off, from a known level; MIN at most MAX, MAX at most 254: the device goes to the minimum, and CurrentLevel is what the document says after it
  pub off_goes : (s : LevelControlState) (e : Event) (c : ℕ) (from to tenths : ℕ)
      → e.kind ≡ kind.Command (command.OnOffChanged false) → accepted s e ≡ true → s.current_level ≡ Some c
      → s.settings.range.min ≤ s.settings.range.max → s.settings.range.max ≤ 254
      → off c s.settings.range.min s.attributes.off_transition_time s.attributes.on_off_transition_time.0 ≡ Goes from to tenths
      → Completes (way from to tenths) (after_off s.attributes.on_level c to) (event_of s e)
  -- On: to the minimum, then as the document says after it; levels of at most 254. With nothing to return to CurrentLevel stays at the minimum
  pub on_ends : (s : LevelControlState) (e : Event) (then : Effect)
      → e.kind ≡ kind.Command (command.OnOffChanged true) → accepted s e ≡ true
      → s.settings.range.min ≤ s.settings.range.max → IsLevel s.attributes.on_level → IsLevel s.current_level
      → after_on s.attributes.on_level s.current_level s.settings.range.min s.settings.range.max s.attributes.on_transition_time
      s.attributes.on_off_transition_time.0 ≡ then
      → Completes (s.settings.range.min ∷ way_of then) (level_reached then s.settings.range.min) (event_of s e)
