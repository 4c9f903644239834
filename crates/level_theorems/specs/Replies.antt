-- Every fade, progress: a device that answers every request of a fade, and the wakes that end its waits.
use Rattle.std.specs.Prelude.{ℕ, ◌+◌, max, Bool, true, ◌&&◌, ◌≡◌, List, [], ◌∷◌, ◌++◌, leb}
use Rattle.units.specs.Units.{micros}
use Rattle.transitions.specs.Events.{event}
use Rattle.transitions.specs.declared.events.DeviceAnswer.TheVariants as device
use Rattle.transitions.specs.declared.events.Event.{Event}
use Rattle.transitions.specs.declared.events.EventKind.TheVariants as kind
use Rattle.transitions.specs.declared.tasks.Phase.{Phase}
use Rattle.transitions.specs.declared.tasks.Phase.TheVariants.{Asked, Waiting}
use Rattle.transitions.specs.declared.tasks.Task.{Task}
use Rattle.transitions.specs.declared.tasks.Task.TheVariants as task
use Rattle.level_control.specs.Judge.{latest}
use Rattle.level_control.specs.Run.{Run, Nothing, next, play, only_onward}
use Rattle.level_control.specs.Starts.{distance}
use Rattle.level_control.specs.declared.state.LevelControlState.{LevelControlState}

-- what the device does with a request: the level that it answers, and how many microseconds after the last accepted event; and the on/off value then
pub record Reply : Type 0 where
  pub level : ℕ
  pub after : ℕ
  pub on : Bool

-- the wake that ends a wait: at its time, or at the last accepted time, if that is later

abbrev pub wake_in : Phase → LevelControlState → Bool → List Event
wake_in (Asked since) s on = []
wake_in (Waiting until) s on = event (micros (max until.0 s.last_accepted.0)) on kind.Wake ∷ []

abbrev pub wake_of : Task → LevelControlState → Bool → List Event
wake_of task.Rest s on = []
wake_of task.StartUp s on = []
wake_of (task.Fade f) s on = wake_in f.phase s on
wake_of (task.Move m) s on = wake_in m.phase s on
wake_of (task.OnReaction r) s on = []

abbrev pub wakes : LevelControlState → Reply → List Event
wakes s p = wake_of s.task s p.on

abbrev pub replies : LevelControlState → Reply → Event
replies s p = event (micros (s.last_accepted.0 + p.after)) p.on (kind.Answer (device.Level p.level))

-- the events by which a run goes on with the device's replies: each wait is ended by its wake, each request gets the next reply

abbrev pub answers_from : Run → List Reply → List Event
answers_from r [] = []
answers_from r (p ∷ ps) =
    wakes r.state p
    ++ (replies (play r (wakes r.state p)).state p
    ∷ answers_from (next (play r (wakes r.state p)) (replies (play r (wakes r.state p)).state p)) ps)

-- every wake and every answer comes by 2^62 − 1
abbrev pub in_time : List Event → Bool
in_time [] = true
in_time (e ∷ es) = leb e.moment.at.0 latest.0 && in_time es

-- a list of events after which a run from c to t is at rest, all its n requests answered
pub record Ends (c t : ℕ) (r : Run) (es : List Event) : Type 0 where
  pub onward : only_onward r es ≡ true
  pub all_answered : (play r es).answers ≡ distance t c
  pub rest : (play r es).pending ≡ Nothing

-- how many microseconds the device takes in all
abbrev pub delays : List Reply → ℕ
delays [] = 0
delays (p ∷ ps) = p.after + delays ps
