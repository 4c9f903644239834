-- Where the level and the attributes after an event come from, read off what becomes of these fields. Assumes nothing.
use Rattle.std.specs.Prelude.{Option, Some, None, ℕ}
use mathlib.Core.Bool.{Bool, true, false}
use mathlib.Core.Path.{◌≡◌, refl, ap}
use lib.Dec.{eqb}
use Rattle.transitions.specs.Types.{is_missing, level_or}
use Rattle.transitions.specs.declared.events.DeviceAnswer.{DeviceAnswer}
use Rattle.transitions.specs.declared.events.DeviceAnswer.TheVariants as device
use Rattle.transitions.specs.declared.events.EventKind.{EventKind}
use Rattle.transitions.specs.declared.events.EventKind.TheVariants as kind
use Rattle.transitions.specs.declared.tasks.Fade.{Fade}
use Rattle.transitions.specs.declared.tasks.Task.{Task}
use Rattle.transitions.specs.declared.tasks.Task.TheVariants as task
use Rattle.transitions.specs.Types.{Level}
use Rattle.event_theorems.specs.Brings.{brings, answer_tells, start_up_tells, fade_puts_back, task_tells, task_puts_back}
use Rattle.event_theorems.specs.Fields.{level_told, level_after, attributes_after}
use Rattle.level_theorems.specs.EveryEvent as claim
use Rattle.level_theorems.specs.EveryEvent.{LevelFrom, AttributesFrom, unchanged, by_set_on_level, by_set_default_move_rate, by_set_start_up, by_factory_reset}
use Rattle.level_control.specs.declared.state.LevelControlState.{LevelControlState}
use Rattle.transitions.specs.declared.events.Command.TheVariants as command

module _ (s : LevelControlState) where
  -- an answer that is stored as it is, or fails
  answered_from : (a : DeviceAnswer) (end : Bool) → LevelFrom s (kind.Answer a) (level_told (answer_tells a end) s.current_level)
  answered_from (device.Level v) end = claim.answered refl
  answered_from device.Missing end = claim.missing refl
  answered_from device.Failed end = claim.kept

  start_up_from : (a : DeviceAnswer) → LevelFrom s (kind.Answer a) (level_told (start_up_tells a) s.current_level)
  start_up_from (device.Level v) = claim.answered refl
  start_up_from device.Missing = claim.missing refl
  start_up_from device.Failed = claim.kept

  -- a fade may store the level before it back
  level_from_fade : (f : Fade) (a : DeviceAnswer) (last : Bool) (on : Level) (put_back : Option ℕ)
      → s.task ≡ task.Fade f → eqb f.counter f.target ≡ last → s.attributes.on_level ≡ on → f.put_back ≡ put_back
      → LevelFrom s (kind.Answer a) (level_or (fade_puts_back a last on put_back) (level_told (answer_tells a last) s.current_level))
  unfolding level_or
  level_from_fade f (device.Level v) true None (Some before) runs ends none back = claim.put_back runs ends back (ap is_missing none) refl
  level_from_fade f (device.Level v) true None None runs ends none back = claim.answered refl
  level_from_fade f (device.Level v) true (Some on) put_back runs ends none back = claim.answered refl
  level_from_fade f (device.Level v) false on put_back runs ends none back = claim.answered refl
  level_from_fade f device.Missing last on put_back runs ends none back = claim.missing refl
  level_from_fade f device.Failed last on put_back runs ends none back = claim.kept

  answer_from : (a : DeviceAnswer) (x : Task) → s.task ≡ x
      → LevelFrom s (kind.Answer a) (level_or (task_puts_back x s a) (level_told (task_tells x s a) s.current_level))
  unfolding level_or
  answer_from a task.Rest e = claim.kept
  answer_from a task.StartUp e = start_up_from a
  answer_from a (task.Fade f) e = level_from_fade f a (eqb f.counter f.target) s.attributes.on_level f.put_back e refl refl refl
  answer_from a (task.Move m) e = answered_from a _
  answer_from a (task.OnReaction r) e = answered_from a false

  pub level_from : (k : EventKind) → LevelFrom s k (level_after s (brings s k))
  unfolding level_or
  level_from kind.StartUp = claim.kept
  level_from (kind.Command (command.MoveToLevel r)) = claim.kept
  level_from (kind.Command (command.Move r)) = claim.kept
  level_from (kind.Command (command.Step r)) = claim.kept
  level_from (kind.Command (command.Stop r)) = claim.kept
  level_from (kind.Answer a) = answer_from a s.task refl
  level_from kind.Wake = claim.kept
  level_from (kind.Command (command.OnOffChanged value)) = claim.kept
  level_from (kind.Command (command.Scene r)) = claim.kept
  level_from (kind.Command (command.DeviceUpdate level)) = claim.updated refl
  level_from (kind.Command command.DeviceStop) = claim.kept
  level_from (kind.Command (command.SetOnLevel level)) = claim.kept
  level_from (kind.Command (command.SetDefaultMoveRate rate)) = claim.kept
  level_from (kind.Command (command.SetStartUpCurrentLevel level)) = claim.kept
  level_from (kind.Command command.FactoryReset) = claim.kept

  pub attributes_from : (k : EventKind) → AttributesFrom s k (attributes_after s (brings s k))
  attributes_from kind.StartUp = unchanged
  attributes_from (kind.Command (command.MoveToLevel r)) = unchanged
  attributes_from (kind.Command (command.Move r)) = unchanged
  attributes_from (kind.Command (command.Step r)) = unchanged
  attributes_from (kind.Command (command.Stop r)) = unchanged
  attributes_from (kind.Answer a) = unchanged
  attributes_from kind.Wake = unchanged
  attributes_from (kind.Command (command.OnOffChanged value)) = unchanged
  attributes_from (kind.Command (command.Scene r)) = unchanged
  attributes_from (kind.Command (command.DeviceUpdate level)) = unchanged
  attributes_from (kind.Command command.DeviceStop) = unchanged
  attributes_from (kind.Command (command.SetOnLevel level)) = by_set_on_level refl
  attributes_from (kind.Command (command.SetDefaultMoveRate rate)) = by_set_default_move_rate refl
  attributes_from (kind.Command (command.SetStartUpCurrentLevel level)) = by_set_start_up refl
  attributes_from (kind.Command command.FactoryReset) = by_factory_reset refl
