-- Causes, from 5 on: 5 to 9 cause by cause, 10 to 14 and the options by the kinds that they may meet. The machine uses nothing of this page.
use Rattle.std.specs.Prelude.{ℕ, ◌*◌, Bool, true, false, not, ◌&&◌, ◌||◌, List, [], ◌∷◌, eqb, leb, ltb, Some, None}
use Rattle.units.specs.declared.Micros.{Micros}
use Rattle.transitions.specs.Causes.{Row, row}
use Rattle.transitions.specs.Matter.{move_rate}
use Rattle.transitions.specs.Search.{first_where}
use Rattle.transitions.specs.Types.{is_missing}
use Rattle.transitions.specs.declared.events.Event.{Event}
use Rattle.transitions.specs.declared.events.EventKind.{EventKind}
use Rattle.transitions.specs.declared.events.EventKind.TheVariants as kind
use Rattle.transitions.specs.declared.events.StepRequest.{StepRequest}
use Rattle.transitions.specs.declared.tasks.Phase.{Phase}
use Rattle.transitions.specs.declared.tasks.Phase.TheVariants.{Asked, Waiting}
use Rattle.transitions.specs.declared.tasks.Task.{Task}
use Rattle.transitions.specs.declared.tasks.Task.TheVariants as task
use Rattle.transitions.specs.Types.{Level}
use Rattle.transitions.specs.Types.{Rate}
use Rattle.transitions.specs.Types.{Time}
use Rattle.level_control.specs.Starts.{distance, passes, step_to}
use Rattle.level_control.specs.declared.state.LevelControlState.{LevelControlState}
use Rattle.transitions.specs.declared.events.Command.TheVariants as command

-- the three kinds that have a turn of their own

abbrev pub is_start_up : EventKind → Bool
is_start_up kind.StartUp = true
is_start_up (kind.Answer a) = false
is_start_up kind.Wake = false
is_start_up (kind.Command c) = false

abbrev pub is_answer : EventKind → Bool
is_answer kind.StartUp = false
is_answer (kind.Answer a) = true
is_answer kind.Wake = false
is_answer (kind.Command c) = false

abbrev pub is_wake : EventKind → Bool
is_wake kind.StartUp = false
is_wake (kind.Answer a) = false
is_wake kind.Wake = true
is_wake (kind.Command c) = false

-- a request to the device is open

abbrev pub phase_asked : Phase → Bool
phase_asked (Asked since) = true
phase_asked (Waiting until) = false

abbrev pub request_open : Task → Bool
request_open task.Rest = false
request_open task.StartUp = true
request_open (task.Fade f) = phase_asked f.phase
request_open (task.Move m) = phase_asked m.phase
request_open (task.OnReaction r) = true

-- a wake is waited for, and its time has come

abbrev pub ended : Phase → Micros → Bool
ended (Asked since) now = false
ended (Waiting until) now = leb until.0 now.0

abbrev pub wait_over : Task → Micros → Bool
wait_over task.Rest now = false
wait_over task.StartUp now = false
wait_over (task.Fade f) now = ended f.phase now
wait_over (task.Move m) now = ended m.phase now
wait_over (task.OnReaction r) now = false

-- a step with a known time whose size came out different, and its time times its actual size is above 65,535
abbrev pub product_too_large : Level → Time → LevelControlState → StepRequest → Bool
product_too_large (Some c) (Some t) s r =
    let actual = distance (step_to r.mode s c r.step_size) c in
    not (eqb actual r.step_size) && ltb 65535 (t.0 * actual)
product_too_large (Some c) None s r = false
product_too_large None t s r = false

abbrev pub outside : Level → LevelControlState → Bool
outside (Some level) s = ltb level s.settings.range.min || ltb s.settings.range.max level
outside None s = false

abbrev pub is_rate0 : Rate → Bool
is_rate0 (Some r) = eqb r 0
is_rate0 None = false

abbrev pub scene_rows : Level → LevelControlState → Bool → List Row
scene_rows (Some level) s on = row 0 (leb level 254 && not (passes s false on (record { 0 = 0 }) (record { 0 = 0 }))) ∷ []
scene_rows None s on = []

-- 10 to 14, and the options, by the kinds that they meet. Of a target of 255 the options are not consulted
abbrev pub command_rows : LevelControlState → Bool → EventKind → List Row
command_rows s on kind.StartUp = []
command_rows s on (kind.Command (command.MoveToLevel r)) =
    row 0 (leb r.level 254 && not (passes s r.options.with_on_off on r.options.options_mask r.options.options_override)) ∷ []
command_rows s on (kind.Command (command.Move r)) =
    row 10 (eqb (move_rate r.rate s.attributes.default_move_rate s.settings.fastest_rate) 0)
    ∷ row 0 (not (passes s r.options.with_on_off on r.options.options_mask r.options.options_override))
    ∷ []
command_rows s on (kind.Command (command.Step r)) =
    row 10 (eqb r.step_size 0)
    ∷ row 0 (not (passes s r.options.with_on_off on r.options.options_mask r.options.options_override))
    ∷ row 11 (is_missing s.current_level)
    ∷ row 12 (product_too_large s.current_level r.transition_time s r)
    ∷ []
command_rows s on (kind.Command (command.Stop r)) = row 0 (not (passes s r.with_on_off on r.options_mask r.options_override)) ∷ []
command_rows s on (kind.Answer a) = []
command_rows s on kind.Wake = []
command_rows s on (kind.Command (command.OnOffChanged value)) = []
command_rows s on (kind.Command (command.Scene r)) = scene_rows r.level s on
command_rows s on (kind.Command (command.DeviceUpdate level)) = []
command_rows s on (kind.Command command.DeviceStop) = []
command_rows s on (kind.Command (command.SetOnLevel level)) = row 13 (outside level s) ∷ []
command_rows s on (kind.Command (command.SetDefaultMoveRate r)) = row 14 (is_rate0 r) ∷ []
command_rows s on (kind.Command (command.SetStartUpCurrentLevel level)) = row 13 (outside level s) ∷ []
command_rows s on (kind.Command command.FactoryReset) = []

-- in this order, the options between 10 and 11. 5: below the last accepted time, or above 2^62 − 1; 6: a request is open, and the event is no answer;
-- 7: an answer, and none is open; 8: a wake, and nothing waits or it is early; 9: start-up, and an event was accepted before
abbrev pub causes : LevelControlState → Event → List Row
causes s e =
    row 5 (ltb e.moment.at.0 s.last_accepted.0 || ltb 4611686018427387903 e.moment.at.0)
    ∷ row 6 (not (is_answer e.kind) && request_open s.task)
    ∷ row 7 (is_answer e.kind && not (request_open s.task))
    ∷ row 8 (is_wake e.kind && not (wait_over s.task e.moment.at))
    ∷ row 9 (is_start_up e.kind && s.started)
    ∷ command_rows s e.moment.on_off e.kind

-- the number of the first cause that meets the event, or 0
unfoldable pub number_by : LevelControlState → Event → ℕ
number_by s e = first_where (λ r. r.applies) (λ r. r.number) 0 (causes s e)
