-- Every event: when each letter stands among the actions of an accepted one that no options stop. The machine uses nothing of this page.
use Rattle.std.specs.Prelude.{ℕ, ◌+◌, ◌-◌, ◌*◌, Bool, true, false, cond, not, ◌&&◌, ◌||◌, List, [], ◌++◌, eqb, leb, ltb, Option, Some, None}
use Rattle.units.specs.declared.Micros.{Micros}
use Rattle.transitions.specs.Coupling.{coupled_on_off}
use Rattle.transitions.specs.Actions.{act, act_if, act_coupled}
use Rattle.transitions.specs.Matter.{changed}
use Rattle.transitions.specs.RemainingTime.{remaining_time_due}
use Rattle.transitions.specs.Types.{is_missing}
use Rattle.transitions.specs.declared.actions.Action.{Action}
use Rattle.transitions.specs.declared.actions.ActionKind.TheVariants.{P, S, L, R, K, X}
use Rattle.transitions.specs.declared.events.DeviceAnswer.{DeviceAnswer}
use Rattle.transitions.specs.declared.events.DeviceAnswer.TheVariants as device
use Rattle.transitions.specs.declared.settings.Settings.{Settings}
use Rattle.transitions.specs.declared.tasks.Fade.{Fade}
use Rattle.transitions.specs.declared.tasks.Move.{Move}
use Rattle.transitions.specs.declared.tasks.Motion.{Motion}
use Rattle.transitions.specs.declared.tasks.Phase.{Phase}
use Rattle.transitions.specs.declared.tasks.Phase.TheVariants.{Asked, Waiting}
use Rattle.transitions.specs.declared.tasks.Task.{Task}
use Rattle.transitions.specs.declared.tasks.Task.TheVariants as task
use Rattle.transitions.specs.Types.{Level}
use Rattle.transitions.specs.declared.types.Mode.{Mode}
use Rattle.transitions.specs.declared.types.Mode.TheVariants.{Up, Down}
use Rattle.level_control.specs.Starts.{target}
use Rattle.level_control.specs.declared.state.LevelControlState.{LevelControlState}
use Rattle.event_theorems.specs.Brings.{Brings, TaskEvent, Tells, Nothing, Told, Failure, AtStartUp, is_end, tells, put_back_by}
use Rattle.event_theorems.specs.Brings as bring
use Rattle.event_theorems.specs.TaskAfter.{at_limit, motion_of, task_after, task_letter}
use Rattle.event_theorems.specs.Fields.{level_told, report_due, time_after}

-- P: only if the level changed

abbrev pub changes : Tells → Level → Bool
changes Nothing before = false
changes (Told level end) before = changed before level
changes Failure before = false
changes (AtStartUp level) before = changed before level

-- S: with a level that is told, but not in the fade of a scene

abbrev pub of_scene : Task → Bool
of_scene task.Rest = false
of_scene task.StartUp = false
of_scene (task.Fade f) = f.scene_apply
of_scene (task.Move m) = false
of_scene (task.OnReaction r) = false

abbrev pub is_told : Tells → Bool
is_told Nothing = false
is_told (Told level end) = true
is_told Failure = false
is_told (AtStartUp level) = false

abbrev pub notices : LevelControlState → Brings → Bool
notices s (bring.Runs c) = false
notices s bring.Stops = false
notices s (bring.Answers a) = is_told (tells s (bring.Answers a)) && not (of_scene s.task)
notices s (bring.Updates level) = true
notices s (bring.Sets a) = false
notices s bring.Resets = false

-- C: Coupling.

abbrev pub couples : Settings → Bool → Bool → ℕ → Option Bool
couples settings with_on_off on level = coupled_on_off with_on_off settings.coupled on settings.range.min level

-- a target equal to the current level couples at once, by the target
abbrev pub reached : Level → ℕ → Bool
reached (Some c) t = eqb c t
reached None t = false

abbrev pub couples_reached : Level → ℕ → Bool → Settings → Bool → Option Bool
couples_reached level t with_on_off settings on = cond (reached level t) (couples settings with_on_off on t) None

-- a fade couples at its start and at its end, by the answered level. Start holds while the unrounded remaining time equals 100·T
abbrev pub fade_couples : DeviceAnswer → Fade → LevelControlState → Bool → Option Bool
fade_couples (device.Level v) f s on =
    cond (eqb f.remaining.0 (f.transition_time.0 * 100) || eqb f.counter f.target) (couples s.settings f.with_on_off on v) None
fade_couples device.Missing f s on = None
fade_couples device.Failed f s on = None

-- a move couples before each request that leaves MIN upwards, by the asked level
abbrev pub leaves_min : Mode → Level → Motion → Settings → Bool → Option Bool
leaves_min Up (Some c) m settings on = cond (eqb c settings.range.min && ltb c 255) (couples settings m.with_on_off on (c + 1)) None
leaves_min Up None m settings on = None
leaves_min Down level m settings on = None

abbrev pub move_on_couples : Move → Phase → ℕ → Settings → Bool → Micros → Option Bool
move_on_couples m (Asked since) v settings on now =
    cond (leb (now.0 - since.0) m.motion.period.0) None (leaves_min m.motion.mode (Some v) m.motion settings on)
move_on_couples m (Waiting until) v settings on now = None

-- and at its end, by the answered level
abbrev pub move_couples : DeviceAnswer → Move → Settings → Bool → Micros → Option Bool
move_couples (device.Level v) m settings on now =
    cond (is_end m.asked settings) (couples settings m.motion.with_on_off on v) (move_on_couples m m.phase v settings on now)
move_couples device.Missing m settings on now = None
move_couples device.Failed m settings on now = None

-- after on's request, where the target is already reached
abbrev pub on_reached : Level → Level → ℕ → LevelControlState → Bool → Option Bool
on_reached (Some level) before v s on = couples_reached (Some v) (target s level) true s.settings on
on_reached None (Some level) v s on = couples_reached (Some v) (target s level) true s.settings on
on_reached None None v s on = None

abbrev pub on_couples : DeviceAnswer → Level → LevelControlState → Bool → Option Bool
on_couples (device.Level v) before s on = on_reached s.attributes.on_level before v s on
on_couples device.Missing before s on = None
on_couples device.Failed before s on = None

abbrev pub wake_couples : Task → LevelControlState → Bool → Option Bool
wake_couples task.Rest s on = None
wake_couples task.StartUp s on = None
wake_couples (task.Fade f) s on = None
wake_couples (task.Move m) s on = leaves_min m.motion.mode s.current_level m.motion s.settings on
wake_couples (task.OnReaction r) s on = None

-- before L and R: a fade's answer, and a command whose target is reached

abbrev pub task_couples_first : Task → DeviceAnswer → LevelControlState → Bool → Option Bool
task_couples_first task.Rest a s on = None
task_couples_first task.StartUp a s on = None
task_couples_first (task.Fade f) a s on = fade_couples a f s on
task_couples_first (task.Move m) a s on = None
task_couples_first (task.OnReaction r) a s on = None

abbrev pub command_couples_first : TaskEvent → LevelControlState → Bool → Option Bool
command_couples_first bring.StartUp s on = None
command_couples_first (bring.Target t T with_on_off scene puts_back) s on = couples_reached s.current_level t with_on_off s.settings on
command_couples_first bring.NoTarget s on = None
command_couples_first (bring.Move r) s on = None
command_couples_first bring.On s on = None
command_couples_first bring.Wake s on = None

abbrev pub couples_first : LevelControlState → Brings → Bool → Option Bool
couples_first s (bring.Runs c) on = command_couples_first c s on
couples_first s bring.Stops on = None
couples_first s (bring.Answers a) on = task_couples_first s.task a s on
couples_first s (bring.Updates level) on = None
couples_first s (bring.Sets a) on = None
couples_first s bring.Resets on = None

-- after them: a move, and the on reaction's answer

abbrev pub task_couples_last : Task → DeviceAnswer → LevelControlState → Bool → Micros → Option Bool
task_couples_last task.Rest a s on now = None
task_couples_last task.StartUp a s on now = None
task_couples_last (task.Fade f) a s on now = None
task_couples_last (task.Move m) a s on now = move_couples a m s.settings on now
task_couples_last (task.OnReaction r) a s on now = on_couples a r.before s on

abbrev pub command_couples_last : TaskEvent → LevelControlState → Bool → Option Bool
command_couples_last bring.StartUp s on = None
command_couples_last (bring.Target t T with_on_off scene puts_back) s on = None
command_couples_last bring.NoTarget s on = None
command_couples_last (bring.Move r) s on =
    cond (at_limit r.mode s.current_level s.settings) None (leaves_min r.mode s.current_level (motion_of s r) s.settings on)
command_couples_last bring.On s on = None
command_couples_last bring.Wake s on = wake_couples s.task s on

abbrev pub couples_last : LevelControlState → Brings → Bool → Micros → Option Bool
couples_last s (bring.Runs c) on now = command_couples_last c s on
couples_last s bring.Stops on now = None
couples_last s (bring.Answers a) on now = task_couples_last s.task a s on now
couples_last s (bring.Updates level) on now = None
couples_last s (bring.Sets a) on now = None
couples_last s bring.Resets on now = None

-- L: Level reports. A missing answer in a fade tells none. An off with no on level and its target already reached tells it

abbrev pub may_report : Task → DeviceAnswer → Bool
may_report task.Rest a = false
may_report task.StartUp a = false
may_report (task.Fade f) (device.Level v) = true
may_report (task.Fade f) device.Missing = false
may_report (task.Fade f) device.Failed = false
may_report (task.Move m) a = true
may_report (task.OnReaction r) a = true

abbrev pub command_reports : TaskEvent → LevelControlState → Bool
command_reports bring.StartUp s = false
command_reports (bring.Target t T with_on_off scene puts_back) s = reached s.current_level t && (puts_back && is_missing s.attributes.on_level)
command_reports bring.NoTarget s = false
command_reports (bring.Move r) s = false
command_reports bring.On s = false
command_reports bring.Wake s = false

abbrev pub reports_level : LevelControlState → Brings → Micros → Bool
reports_level s (bring.Runs c) now = command_reports c s
reports_level s bring.Stops now = false
reports_level s (bring.Answers a) now = may_report s.task a && report_due (tells s (bring.Answers a)) s now
reports_level s (bring.Updates level) now = true
reports_level s (bring.Sets a) now = false
reports_level s bring.Resets now = false

-- R: Remaining time, of the time before and the time after. Start holds while the unrounded remaining time equals 100·T

abbrev pub fade_reports : DeviceAnswer → Fade → LevelControlState → Brings → Bool
fade_reports (device.Level v) f s b = remaining_time_due s.remaining_time (time_after s b) (eqb f.remaining.0 (f.transition_time.0 * 100))
fade_reports device.Missing f s b = false
fade_reports device.Failed f s b = false

abbrev pub task_reports : Task → DeviceAnswer → LevelControlState → Bool
task_reports task.Rest a s = false
task_reports task.StartUp a s = false
task_reports (task.Fade f) a s = fade_reports a f s (bring.Answers a)
task_reports (task.Move m) a s = false
task_reports (task.OnReaction r) a s = false

abbrev pub reports_time : LevelControlState → Brings → Bool
reports_time s (bring.Runs c) = false
reports_time s bring.Stops = remaining_time_due s.remaining_time (time_after s bring.Stops) false
reports_time s (bring.Answers a) = task_reports s.task a s
reports_time s (bring.Updates level) = remaining_time_due s.remaining_time (time_after s (bring.Updates level)) false
reports_time s (bring.Sets a) = false
reports_time s bring.Resets = false

-- P L, of a level that an off fade puts back
abbrev pub put_back_letters : Level → Level → List Action
put_back_letters (Some before) told = act_if (changed told (Some before)) P ++ act L 0
put_back_letters None told = []

-- K: a setting is to be stored; X: the cluster is reported, its record removed
abbrev pub setting_letter : Brings → List Action
setting_letter (bring.Runs c) = []
setting_letter bring.Stops = []
setting_letter (bring.Answers a) = []
setting_letter (bring.Updates level) = []
setting_letter (bring.Sets a) = act K 0
setting_letter bring.Resets = act X 0

unfoldable pub letters : LevelControlState → Brings → Micros → Bool → List Action
letters s b now on =
    setting_letter b
    ++ (act_if (changes (tells s b) s.current_level) P
    ++ (act_if (notices s b) S
    ++ (act_coupled (couples_first s b on)
    ++ (act_if (reports_level s b now) L
    ++ (act_if (reports_time s b) R
    ++ (put_back_letters (put_back_by s b) (level_told (tells s b) s.current_level)
    ++ (act_coupled (couples_last s b on now)
    ++ task_letter (task_after s b now))))))))
