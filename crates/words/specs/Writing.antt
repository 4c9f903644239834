-- Records to their text.
use Rattle.std.specs.Prelude.{ℕ, zero, suc, ◌+◌, ◌/◌, ◌%◌, Bool, ◌&&◌, if◌then◌else◌, List, [], ◌∷◌, ◌++◌, nat_eq, nat_le, take, drop, length, Option, Some, None, is_some, Result, Ok, Err}
use Rattle.std.specs.List.{prefix_len}
use Rattle.transitions.specs.Causes.{first_cause}
use Rattle.transitions.specs.declared.events.Event.{Event}
use Rattle.transitions.specs.declared.settings.Settings.{Settings}
use Rattle.records.specs.EventRecord.{event_read}
use Rattle.records.specs.Laws.{settings_tests}
use Rattle.records.specs.SettingsRecord.{refusal_number, settings_read}
use Rattle.records.specs.declared.refusal.RecordRefusal.{RecordRefusal}
use Rattle.text.specs.Text.{digits}
use Rattle.words.specs.Names.{name_text}
use Rattle.words.specs.Spelling.{byte_words, event_text, flag_words, positive_byte_words, positive_time_words, setting_text, settings_text, time_words}
use Rattle.words.specs.declared.names.Name.TheVariants as name
use Rattle.words.specs.declared.writing.WrongRecord.{WrongRecord}
use Rattle.words.specs.declared.writing.WrongRecord.TheVariants as wrong

-- The parts of the settings' line, in its order.

abbrev pub range_text : Settings → List ℕ
range_text x =
    setting_text (name_text name.Min ∷ digits x.range.min ∷ []) ++ (setting_text (name_text name.Max ∷ digits x.range.max ∷ [])
    ++ setting_text (name_text name.FastestRate ∷ digits x.fastest_rate ∷ []))

abbrev pub levels_text : Settings → List ℕ
levels_text x =
    let a = x.attributes in
    setting_text (byte_words name.Level x.current_level) ++ (setting_text (byte_words name.OnLevel a.on_level)
    ++ (setting_text (byte_words name.StartUpCurrentLevel a.start_up_current_level) ++ setting_text (byte_words name.DefaultMoveRate a.default_move_rate)))

abbrev pub times_text : Settings → List ℕ
times_text x =
    let a = x.attributes in
    setting_text (positive_time_words name.OnOffTransitionTime a.on_off_transition_time)
    ++ (setting_text (time_words name.OnTransitionTime a.on_transition_time) ++ setting_text (time_words name.OffTransitionTime a.off_transition_time))

abbrev pub flags_text : Settings → List ℕ
flags_text x =
    setting_text (positive_byte_words name.Options x.attributes.options.0)
    ++ (setting_text (flag_words name.Coupled x.coupled) ++ setting_text (flag_words name.Lighting x.lighting))

-- All lines.

-- 20 to 5,120 bytes in twenties
abbrev pub length_ok : ℕ → Bool
length_ok n = nat_le 20 n && nat_le n 5120 && nat_eq (n % 20) 0

-- the first k records
unfoldable pub records_of : ℕ → List ℕ → List (List ℕ)
records_of zero s = []
records_of (suc k) s = take 20 s ∷ records_of k (drop 20 s)

abbrev pub event_records : List ℕ → List (List ℕ)
event_records events = records_of (length events / 20) events

-- a line and its line feed, behind those before it
abbrev pub with_line : List ℕ → List ℕ → List ℕ
with_line before line = before ++ (line ++ (10 ∷ []))

-- the settings' line stands first
abbrev pub with_settings : Result Settings RecordRefusal → Result (List ℕ) WrongRecord
with_settings (Ok x) = Ok (with_line [] (settings_text x))
with_settings (Err why) = Err (wrong.Settings why)

-- then that of event n, if there is one
abbrev pub with_event : List ℕ → ℕ → Option Event → Result (List ℕ) WrongRecord
with_event before n (Some e) = Ok (with_line before (event_text e))
with_event before n None = Err (wrong.Event n)

abbrev pub text_then : Result (List ℕ) WrongRecord → (List ℕ → Result (List ℕ) WrongRecord) → Result (List ℕ) WrongRecord
text_then (Ok text) f = f text
text_then (Err why) f = Err why

-- and those of all events, from event n on; or the first that is wrong
unfoldable pub with_events : List ℕ → ℕ → List (List ℕ) → Result (List ℕ) WrongRecord
with_events before n [] = Ok before
with_events before n (r ∷ rs) = text_then (with_event before n (event_read r)) (λ text. with_events text (suc n) rs)

-- the text of records, or what is wrong with them, the first from the left
unfoldable pub play_text : List ℕ → Result (List ℕ) WrongRecord
play_text records =
    if length_ok (length records) then text_then (with_settings (settings_read (take 20 records))) (λ text. with_events text 1 (event_records (drop 20 records)))
    else Err wrong.Length

-- what a call gives, and the lent room after it: records that are wrong leave it as it was
abbrev pub put_text : Result (List ℕ) WrongRecord → List ℕ → Result ℕ WrongRecord × List ℕ
put_text (Ok text) out = (Ok (length text), text ++ drop (length text) out)
put_text (Err why) out = (Err why, out)

abbrev pub write_into : List ℕ → List ℕ → Result ℕ WrongRecord × List ℕ
write_into records out = put_text (play_text records) out

-- the rules' number of an answer, 0 for a text: a length and an event are wrong by 1, settings by 1 to 4
abbrev pub write_number : Result ℕ WrongRecord → ℕ
write_number (Ok n) = 0
write_number (Err wrong.Length) = 1
write_number (Err (wrong.Settings why)) = refusal_number why
write_number (Err (wrong.Event n)) = 1

-- the bytes of the text; or which record is wrong, 0 for that of the settings
abbrev pub write_values : Result ℕ WrongRecord → List ℕ
write_values (Ok n) = n ∷ []
write_values (Err wrong.Length) = []
write_values (Err (wrong.Settings why)) = 0 ∷ []
write_values (Err (wrong.Event n)) = n ∷ []

-- The same, from the records.

-- the cause that refuses the settings, 0 where they are right
abbrev pub settings_cause : List ℕ → ℕ
settings_cause records = first_cause (settings_tests (take 20 records))

abbrev pub is_right : List ℕ → Bool
is_right r = is_some (event_read r)

-- how many events are right before the first that is not
abbrev pub right_events : List (List ℕ) → ℕ
right_events rs = prefix_len is_right rs

abbrev pub all_right : List (List ℕ) → Bool
all_right rs = nat_eq (right_events rs) (length rs)

abbrev pub number_of : List ℕ → ℕ
number_of records =
    if length_ok (length records) then (
    if nat_eq (settings_cause records) 0 then (if all_right (event_records (drop 20 records)) then 0 else 1)
    else settings_cause records)
    else 1

abbrev pub text_length : Result (List ℕ) WrongRecord → ℕ
text_length (Ok text) = length text
text_length (Err why) = 0

abbrev pub values_of : List ℕ → List ℕ
values_of records =
    if length_ok (length records) then (
    if nat_eq (settings_cause records) 0 then (
    if all_right (event_records (drop 20 records)) then text_length (play_text records) ∷ []
    else (1 + right_events (event_records (drop 20 records))) ∷ [])
    else 0 ∷ [])
    else []
