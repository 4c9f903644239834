-- Events and answers: what a method gives, by the kind of its event; Settings and reset: what a setter sets.
use Rattle.std.specs.Prelude.{◌≡◌, None}
use Rattle.transitions.specs.Types.{Level, Rate}
use Rattle.transitions.specs.declared.events.Command.{Command}
use Rattle.transitions.specs.declared.events.EventKind.{EventKind}
use Rattle.transitions.specs.declared.events.EventKind.TheVariants as kind
use Rattle.transitions.specs.declared.types.Moment.{Moment}
use Rattle.level_control.specs.Answer.{packed}
use Rattle.level_control.specs.Handle.{event_of}
use Rattle.level_control.specs.declared.answer.Answer.{Answer}
use Rattle.level_control.specs.declared.state.LevelControlState.{LevelControlState}

-- the answer of a state to an event
abbrev pub event_answer : LevelControlState → Moment → EventKind → Answer
event_answer s moment k = packed (event_of s (record { moment = moment; kind = k }))

-- and to a command
abbrev pub command_answer : LevelControlState → Moment → Command → Answer
command_answer s moment c = event_answer s moment (kind.Command c)

-- What is said of a setter's answer beside that: where it is not refused, the attribute is the given one, and each other one stays as it was.

abbrev pub OnLevelSet : LevelControlState → Level → Answer → Type 0
OnLevelSet s level a = a.refusal ≡ None → a.state.attributes ≡ record s.attributes { on_level = level }

abbrev pub DefaultMoveRateSet : LevelControlState → Rate → Answer → Type 0
DefaultMoveRateSet s rate a = a.refusal ≡ None → a.state.attributes ≡ record s.attributes { default_move_rate = rate }

abbrev pub StartUpCurrentLevelSet : LevelControlState → Level → Answer → Type 0
StartUpCurrentLevelSet s level a = a.refusal ≡ None → a.state.attributes ≡ record s.attributes { start_up_current_level = level }
