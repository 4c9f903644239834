-- Every event and Every fade over records of bytes, damaged ones included, and over the answers that the text is made from.
use Rattle.std.specs.Prelude.{ℕ, ◌+◌, ◌*◌, ◌^◌, ◌/◌, ◌≤◌, ◌<◌, Bool, true, ◌≡◌, List, [], ◌∷◌, ◌++◌, length, drop, None, Ok, Err}
use Rattle.units.specs.declared.Micros.{Micros}
use Rattle.transitions.specs.Events.{event}
use Rattle.transitions.specs.Tasks.{task_open}
use Rattle.transitions.specs.declared.events.DeviceAnswer.{DeviceAnswer}
use Rattle.transitions.specs.declared.events.Event.{Event}
use Rattle.transitions.specs.declared.events.EventKind.TheVariants as kind
use Rattle.transitions.specs.declared.settings.Settings.{Settings}
use Rattle.transitions.specs.declared.tasks.Phase.TheVariants.{Waiting}
use Rattle.records.specs.EventRecord.{event_read}
use Rattle.records.specs.SettingsRecord.{settings_read}
use Rattle.records.specs.Written.{AnswerFits, event_record}
use Rattle.level_control.specs.Answer.{Outcome, refused}
use Rattle.level_control.specs.Judge.{latest}
use Rattle.level_control.specs.EveryFade.{Shown}
use Rattle.level_control.specs.Run.{Nothing, started}
use Rattle.level_control.specs.Starts.{distance}
use Rattle.level_control.specs.State.{new_state}
use Rattle.level_control.specs.declared.state.LevelControlState.{LevelControlState}
use Rattle.level_theorems.specs.EveryEvent.{InPhase}
use Rattle.level_theorems.specs.Replies.{Reply, answers_from, in_time, delays}
use Rattle.sheet.specs.Lines as lines
use Rattle.sheet.specs.Lines.{lines_from, text_of}
use Rattle.sheet.specs.Play.{play_of}
use Rattle.sheet.specs.declared.refusal.PlayRefusal.{PlayRefusal}
use Rattle.record_theorems.specs.RecordPlays.{Record, all_bytes, answers_of, answer_to, accepts, seen, only_onward, StartsAt}

-- settings that are read from a record
pub record Configured (x : Settings) : Type 0 where
  pub head : Record
  pub read : settings_read head.bytes ≡ Ok x

-- the records of a call, 20 bytes after the other, and the text, which is made from the answers to them
pub record RecordsOf (start : LevelControlState) (text : Record) : Type 0 where
  pub records : List Record
  pub in_order : all_bytes records ≡ lines.records_of (length text.bytes / 20) text.bytes
  pub each : length records ≡ length text.bytes / 20
  pub made : text_of start text.bytes ≡ lines_from 1 (answers_of start records)

-- Every event over records.
pub record EveryEventRecorded : Type 0 where
  -- The text of a play is made from the answers to its records, one for each 20 bytes.
  pub text_of_answers : (start : LevelControlState) (text : Record) → RecordsOf start text
  -- A record whose number is not 0, a damaged one or a refused event, leaves the state as it was and has no action.
  pub refused_keeps : (s : LevelControlState) (b : Record) → ((answer_to s b).number ≡ 0 → ⊥) → ((answer_to s b).state ≡ s) × ((answer_to s b).actions ≡ [])
  -- A damaged record is refused with number 1.
  pub damaged : (s : LevelControlState) (b : Record) → event_read b.bytes ≡ None → answer_to s b ≡ refused s 1
  -- An answer has at most seven actions.
  pub at_most_seven : (s : LevelControlState) (b : Record) → length (answer_to s b).actions ≤ 7
  -- No refused call changes the lent output.
  pub refused_call : (records out : List ℕ) (why : PlayRefusal) → (play_of records out).0 ≡ Err why → (play_of records out).1 ≡ out

-- the answers to the records after the start of a fade, as they stand in the list of all answers
abbrev pub answers_after : Settings → List Record → List Record → List Outcome
answers_after x up after = drop (length up) (answers_of (new_state x) (up ++ after))

-- Every fade over records: settings, records up to the start of a fade, and every list of records after it.
abbrev pub EveryFadeRecorded : Type 0
EveryFadeRecorded =
    (x : Settings) (up after : List Record) (o : Outcome) (c t T : ℕ)
    → Configured x → StartsAt (new_state x) up o c t T → (c ≡ t → ⊥) → 1 ≤ T → only_onward after (answers_after x up after) ≡ true
    → Shown c t T (seen (started o) after (answers_after x up after))

-- Progress over records: the record of an event is the one that Records gives it.

-- With a request open, the record of an answer at any time from the last accepted to 2^62 − 1 is accepted.
abbrev pub AnswerRecordsAccepted : Type 0
AnswerRecordsAccepted =
    (s : LevelControlState) (b : Record) (a : DeviceAnswer) (at : Micros) (on : Bool)
    → b.bytes ≡ event_record (event at on (kind.Answer a)) → AnswerFits a
    → task_open s.task ≡ true → s.last_accepted.0 ≤ at.0 → at.0 ≤ latest.0
    → accepts (answer_to s b) ≡ true

-- While a fade or a move waits, the record of a wake from the end of the wait on, and not before the last accepted time, to 2^62 − 1 is accepted.
abbrev pub WakeRecordsAccepted : Type 0
WakeRecordsAccepted =
    (s : LevelControlState) (b : Record) (until at : Micros) (on : Bool)
    → b.bytes ≡ event_record (event at on kind.Wake)
    → InPhase s.task (Waiting until) → until.0 ≤ at.0 → s.last_accepted.0 ≤ at.0 → at.0 ≤ latest.0
    → accepts (answer_to s b) ≡ true

abbrev pub written_records : List Event → List (List ℕ)
written_records [] = []
written_records (e ∷ es) = event_record e ∷ written_records es

-- the device answers bytes
abbrev pub ByteReplies : List Reply → Type 0
ByteReplies [] = Unit {0}
ByteReplies (p ∷ ps) = (p.level < 2 ^ 8) × ByteReplies ps

-- records of some events, after which a fade from c to t is at rest, all its n requests answered
pub record EndsRecorded (x : Settings) (up : List Record) (o : Outcome) (c t : ℕ) (es : List Event) : Type 0 where
  pub after : List Record
  pub written : all_bytes after ≡ written_records es
  pub onward : only_onward after (answers_after x up after) ≡ true
  pub all_answered : (seen (started o) after (answers_after x up after)).answers ≡ distance t c
  pub rest : (seen (started o) after (answers_after x up after)).pending ≡ Nothing

-- Every fade of at least 1 tenth that records start comes to rest after the records of n answers and of the wakes between them, whatever bytes the device answers and however late,
-- if its waits end and its answers come by 2^62 − 1.
abbrev pub RecordsComeToRest : Type 0
RecordsComeToRest =
    (x : Settings) (up : List Record) (o : Outcome) (c t T : ℕ) (ps : List Reply)
    → Configured x → StartsAt (new_state x) up o c t T → (c ≡ t → ⊥) → 1 ≤ T → length ps ≡ distance t c → ByteReplies ps
    → in_time (answers_from (started o) ps) ≡ true
    → EndsRecorded x up o c t (answers_from (started o) ps)

-- Its waits end and its answers come by 2^62 − 1 if the time of the start, the device's delays and the fade's T tenths add up to at most 2^62 − 1.
abbrev pub RecordedWaitsEnd : Type 0
RecordedWaitsEnd =
    (x : Settings) (up : List Record) (o : Outcome) (c t T : ℕ) (ps : List Reply)
    → Configured x → StartsAt (new_state x) up o c t T → (c ≡ t → ⊥) → 1 ≤ T → length ps ≡ distance t c
    → o.state.last_accepted.0 + delays ps + 100000 * T ≤ latest.0
    → in_time (answers_from (started o) ps) ≡ true
