-- Every fade over records: what the records are read as, and the answers that the lines of the sheet are made from.
use Rattle.std.specs.Prelude.{ℕ, Bool, true, false, not, ◌&&◌, ◌||◌, ◌≡◌, List, [], ◌∷◌, ◌++◌, eqb, Option, Some, None}
use Rattle.transitions.specs.declared.events.DeviceAnswer.TheVariants as device
use Rattle.transitions.specs.declared.events.Event.{Event}
use Rattle.transitions.specs.declared.events.EventKind.{EventKind}
use Rattle.transitions.specs.declared.events.EventKind.TheVariants as kind
use Rattle.records.specs.EventRecord.{event_read}
use Rattle.records.specs.Laws.{AllBytes}
use Rattle.level_control.specs.Answer.{Outcome}
use Rattle.level_control.specs.Run.{Run, next_by, is_onward}
use Rattle.level_control.specs.Starts.{Fades, start_of, on_start}
use Rattle.level_control.specs.declared.state.LevelControlState.{LevelControlState}
use Rattle.sheet.specs.Lines.{record_outcome, outcomes_of}
use Rattle.transitions.specs.declared.events.Command.TheVariants as command

-- a record as a lent slice holds it: bytes, right or damaged
pub record Record : Type 0 where
  pub bytes : List ℕ
  pub small : AllBytes bytes

abbrev pub all_bytes : List Record → List (List ℕ)
all_bytes [] = []
all_bytes (b ∷ bs) = b.bytes ∷ all_bytes bs

-- the answers to records from a state on: the lines of the sheet are made from them
abbrev pub answers_of : LevelControlState → List Record → List Outcome
answers_of s bs = outcomes_of s (all_bytes bs)

abbrev pub answer_to : LevelControlState → Record → Outcome
answer_to s b = record_outcome s b.bytes

-- the state after records
abbrev pub state_after : LevelControlState → List Record → LevelControlState
state_after s [] = s
state_after s (b ∷ bs) = state_after (answer_to s b).state bs

-- an answer accepts its record exactly if its number is 0
abbrev pub accepts : Outcome → Bool
accepts o = eqb o.number 0

-- whose request or wait it closes; a damaged record closes none, as a start-up
abbrev pub kind_seen : Option Event → EventKind
kind_seen (Some e) = e.kind
kind_seen None = kind.StartUp

abbrev pub onward_read : Option Event → Bool
onward_read (Some e) = is_onward e.kind
onward_read None = false

-- a run goes on with records and the answers to them
abbrev pub seen : Run → List Record → List Outcome → Run
seen r [] os = r
seen r (b ∷ bs) [] = r
seen r (b ∷ bs) (o ∷ os) = seen (next_by (accepts o) o (kind_seen (event_read b.bytes)) r) bs os

-- of the records only answers with a level and wakes are accepted
abbrev pub only_onward : List Record → List Outcome → Bool
only_onward [] os = true
only_onward (b ∷ bs) [] = true
only_onward (b ∷ bs) (o ∷ os) = (not (accepts o) || onward_read (event_read b.bytes)) && only_onward bs os

abbrev pub all_refused : List Outcome → Bool
all_refused [] = true
all_refused (o ∷ os) = not (accepts o) && all_refused os

-- the last of these records starts a fade from c to t in T tenths, with this answer: directly, as a move to level, a step, an off or a scene; or as the
-- answer v to the request for MIN, after on and any refused records
pub data StartsAt (start : LevelControlState) : List Record → Outcome → ℕ → ℕ → ℕ → Type 0 where
  directly : (earlier : List Record) (b : Record) (e : Event) (c t T : ℕ)
      → event_read b.bytes ≡ Some e → accepts (answer_to (state_after start earlier) b) ≡ true
      → start_of (state_after start earlier) e.moment.on_off e.kind ≡ Fades c t T
      → StartsAt start (earlier ++ (b ∷ [])) (answer_to (state_after start earlier) b) c t T
  after_on : (earlier : List Record) (b : Record) (e : Event) (others : List Record) (b' : Record) (a : Event) (v c t T : ℕ)
      → event_read b.bytes ≡ Some e → accepts (answer_to (state_after start earlier) b) ≡ true → e.kind ≡ kind.Command (command.OnOffChanged true)
      → all_refused (answers_of (answer_to (state_after start earlier) b).state others) ≡ true
      → event_read b'.bytes ≡ Some a → accepts (answer_to (state_after start (earlier ++ (b ∷ others))) b') ≡ true
      → a.kind ≡ kind.Answer (device.Level v)
      → on_start (state_after start earlier) v ≡ Fades c t T
      → StartsAt start ((earlier ++ (b ∷ others)) ++ (b' ∷ [])) (answer_to (state_after start (earlier ++ (b ∷ others))) b') c t T
