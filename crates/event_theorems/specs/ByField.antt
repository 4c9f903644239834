-- Every event: its number cause by cause, the state field by field, the actions letter by letter.
use Rattle.std.specs.Prelude.{Bool, true, false, ◌&&◌, ◌||◌, ◌≡◌, List, [], ◌∷◌, eqb}
use Rattle.units.specs.declared.Micros.{Micros}
use Rattle.transitions.specs.Causes.{Row}
use Rattle.transitions.specs.declared.events.Event.{Event}
use Rattle.level_control.specs.Answer.{done, refused}
use Rattle.level_control.specs.Handle.{event_of}
use Rattle.level_control.specs.declared.state.LevelControlState.{LevelControlState}
use Rattle.event_theorems.specs.Table.{command_rows, number_by}
use Rattle.event_theorems.specs.Brings.{brings}
use Rattle.event_theorems.specs.Fields.{next_state}
use Rattle.event_theorems.specs.Letters.{letters}

-- the options, whose row has number 0, meet the event
abbrev pub options_meet : List Row → Bool
options_meet [] = false
options_meet (r ∷ rs) = (eqb r.number 0 && r.applies) || options_meet rs

abbrev pub options_stop : LevelControlState → Event → Bool
options_stop s e = options_meet (command_rows s e.moment.on_off e.kind)

-- all as it was but the last accepted time, and that an event was accepted
abbrev pub only_accepted : LevelControlState → Micros → LevelControlState
only_accepted s at = record s { last_accepted = at; started = true }

pub record ByField : Type 0 where
  -- a refused event changes nothing: its number is that of the first cause that meets it
  pub refuses : (s : LevelControlState) (e : Event) → (number_by s e ≡ 0 → ⊥) → event_of s e ≡ refused s (number_by s e)
  -- an event that the options stop is accepted with number 0 and no action, and the running task goes on
  pub stops : (s : LevelControlState) (e : Event) → number_by s e ≡ 0 → options_stop s e ≡ true → event_of s e ≡ done (only_accepted s e.moment.at) []
  -- any other event is accepted, and gives what its kind brings
  pub runs : (s : LevelControlState) (e : Event) → number_by s e ≡ 0 → options_stop s e ≡ false
      → event_of s e ≡ done (next_state s (brings s e.kind) e.moment.at) (letters s (brings s e.kind) e.moment.at e.moment.on_off)
