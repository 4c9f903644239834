-- Every event has a pattern, and no pattern has more than seven entries. Assumes nothing.
use mathlib.Core.Bool.{true, false}
use mathlib.Core.Path.{◌≡◌, refl}
use mathlib.Core.List.{List, [], ◌∷◌}
use Rattle.transitions.specs.declared.actions.ActionKind.{ActionKind}
use Rattle.transitions.specs.declared.events.DeviceAnswer.{DeviceAnswer}
use Rattle.transitions.specs.declared.events.DeviceAnswer.TheVariants as device
use Rattle.transitions.specs.declared.events.EventKind.{EventKind}
use Rattle.transitions.specs.declared.events.EventKind.TheVariants as kind
use Rattle.transitions.specs.declared.tasks.Task.{Task}
use Rattle.transitions.specs.declared.tasks.Task.TheVariants as task
use Rattle.level_theorems.specs.Orders.{OneOf, this, orders, answer_orders, start_up_orders, fade_orders, move_orders, on_orders, wake_orders}
use Rattle.level_theorems.proofs.PatternLaws.{none, short}
use Rattle.transitions.specs.declared.events.Command.TheVariants as command

pub record Shape (ps : List (List ActionKind)) : Type 0 where
  pub silent : OneOf ps []
  pub few : short ps ≡ true

shape : (p : List ActionKind) (ps : List (List ActionKind)) → short (p ∷ ps) ≡ true → Shape (p ∷ ps)
shape p ps h = record { silent = this (none p); few = h }

pub fade_shape : (a : DeviceAnswer) → Shape (fade_orders a)
fade_shape (device.Level v) = shape _ _ refl
fade_shape device.Missing = shape _ _ refl
fade_shape device.Failed = shape _ _ refl

pub move_shape : (a : DeviceAnswer) → Shape (move_orders a)
move_shape (device.Level v) = shape _ _ refl
move_shape device.Missing = shape _ _ refl
move_shape device.Failed = shape _ _ refl

on_shape : (a : DeviceAnswer) → Shape (on_orders a)
on_shape (device.Level v) = shape _ _ refl
on_shape device.Missing = shape _ _ refl
on_shape device.Failed = shape _ _ refl

start_up_shape : (a : DeviceAnswer) → Shape (start_up_orders a)
start_up_shape (device.Level v) = shape _ _ refl
start_up_shape device.Missing = shape _ _ refl
start_up_shape device.Failed = shape _ _ refl

answer_shape : (t : Task) (a : DeviceAnswer) → Shape (answer_orders t a)
answer_shape task.Rest a = shape _ _ refl
answer_shape task.StartUp a = start_up_shape a
answer_shape (task.Fade f) a = fade_shape a
answer_shape (task.Move m) a = move_shape a
answer_shape (task.OnReaction r) a = on_shape a

wake_shape : (t : Task) → Shape (wake_orders t)
wake_shape task.Rest = shape _ _ refl
wake_shape task.StartUp = shape _ _ refl
wake_shape (task.Fade f) = shape _ _ refl
wake_shape (task.Move m) = shape _ _ refl
wake_shape (task.OnReaction r) = shape _ _ refl

pub orders_shape : (t : Task) (k : EventKind) → Shape (orders t k)
unfolding orders
orders_shape t kind.StartUp = shape _ _ refl
orders_shape t (kind.Command (command.MoveToLevel r)) = shape _ _ refl
orders_shape t (kind.Command (command.Move r)) = shape _ _ refl
orders_shape t (kind.Command (command.Step r)) = shape _ _ refl
orders_shape t (kind.Command (command.Stop r)) = shape _ _ refl
orders_shape t (kind.Answer a) = answer_shape t a
orders_shape t kind.Wake = wake_shape t
orders_shape t (kind.Command (command.OnOffChanged true)) = shape _ _ refl
orders_shape t (kind.Command (command.OnOffChanged false)) = shape _ _ refl
orders_shape t (kind.Command (command.Scene r)) = shape _ _ refl
orders_shape t (kind.Command (command.DeviceUpdate level)) = shape _ _ refl
orders_shape t (kind.Command command.DeviceStop) = shape _ _ refl
orders_shape t (kind.Command (command.SetOnLevel level)) = shape _ _ refl
orders_shape t (kind.Command (command.SetDefaultMoveRate rate)) = shape _ _ refl
orders_shape t (kind.Command (command.SetStartUpCurrentLevel level)) = shape _ _ refl
orders_shape t (kind.Command command.FactoryReset) = shape _ _ refl
