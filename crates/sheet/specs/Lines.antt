-- Sheet: the text of a play, a line for each 20 bytes after the settings.
use Rattle.std.specs.Prelude.{ℕ, zero, suc, ◌+◌, ◌/◌, List, [], ◌∷◌, ◌++◌, length, take, drop, Option, Some, None, Result, Ok, Err}
use Rattle.text.specs.Line.{line_of}
use Rattle.records.specs.EventRecord.{event_read}
use Rattle.sheet.specs.declared.refusal.EventRefusal.{EventRefusal}
use Rattle.sheet.specs.declared.refusal.EventRefusal.TheVariants as event
use Rattle.transitions.specs.Causes.{refusal_number}
use Rattle.transitions.specs.declared.actions.Action.{Action}
use Rattle.transitions.specs.declared.events.Event.{Event}
use Rattle.level_control.specs.Answer.{Outcome, refused}
use Rattle.level_control.specs.Handle.{event_of}
use Rattle.level_control.specs.declared.state.LevelControlState.{LevelControlState}

-- what a record's event gives, by its parts
abbrev pub outcome : ℕ → LevelControlState → List Action → Outcome
outcome number s actions = record { number = number; state = s; actions = actions }

-- the number of a refused event, that of its record where that is wrong
abbrev pub event_number : EventRefusal → ℕ
event_number event.RecordWrong = 1
event_number (event.Event why) = refusal_number why

-- 0 where it is accepted
abbrev pub record_number : {A : Type 0} → Result A EventRefusal → ℕ
record_number (Ok nothing) = 0
record_number (Err why) = event_number why

-- a wrong event record is one refused line, with number 1
abbrev pub read_outcome : LevelControlState → Option Event → Outcome
read_outcome s (Some e) = event_of s e
read_outcome s None = refused s 1

unfoldable pub record_outcome : LevelControlState → List ℕ → Outcome
record_outcome s bytes = read_outcome s (event_read bytes)

-- the first k records
unfoldable pub records_of : ℕ → List ℕ → List (List ℕ)
records_of zero bytes = []
records_of (suc k) bytes = take 20 bytes ∷ records_of k (drop 20 bytes)

-- what the records give, each in the state that the one before it left
unfoldable pub outcomes_of : LevelControlState → List (List ℕ) → List Outcome
outcomes_of s [] = []
outcomes_of s (bytes ∷ more) = record_outcome s bytes ∷ outcomes_of (record_outcome s bytes).state more

abbrev pub outcome_line : ℕ → Outcome → List ℕ
outcome_line index o = line_of index o.number o.state.current_level o.state.remaining_time o.actions

-- their lines, the first of which has this index
unfoldable pub lines_from : ℕ → List Outcome → List ℕ
lines_from index [] = []
lines_from index (o ∷ more) = outcome_line index o ++ lines_from (index + 1) more

-- the index counts from 1
unfoldable pub text_of : LevelControlState → List ℕ → List ℕ
text_of start events = lines_from 1 (outcomes_of start (records_of (length events / 20) events))
