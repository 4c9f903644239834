-- Sheet: what a call gives, and every byte of the lent output after it.
use Rattle.std.specs.Prelude.{ℕ, ◌-◌, ◌%◌, min, Bool, false, cond, not, ◌&&◌, ◌||◌, List, [], ◌∷◌, ◌++◌, ltb, leb, eqb, ℤ, pos, negsuc, length, take, drop, Result, Ok, Err}
use Rattle.std.proofs.lemmas.List.Edits.{sets}
use Rattle.text.specs.Text.{ascii, digits, most}
use Rattle.records.specs.Bytes.{byte_at, is_set}
use Rattle.records.specs.SettingsRecord.{settings_read, settings_wrong}
use Rattle.records.specs.SettingsRecord.{refusal_number}
use Rattle.records.specs.declared.refusal.RecordRefusal.{RecordRefusal}
use Rattle.records.specs.declared.refusal.RecordRefusal.TheVariants.{RecordWrong}
use Rattle.transitions.specs.Causes.{no_command_tests, no_turn_tests}
use Rattle.transitions.specs.declared.causes.Tests.{Tests}
use Rattle.transitions.specs.declared.settings.Settings.{Settings}
use Rattle.level_control.specs.State.{new_state}
use Rattle.sheet.specs.declared.refusal.PlayRefusal.{PlayRefusal}
use Rattle.sheet.specs.declared.refusal.PlayRefusal.TheVariants as refusal
use Rattle.sheet.specs.Lines.{text_of}

-- the length of a play is 20 to 5,120 in twenties
unfoldable pub length_ok : ℕ → Bool
length_ok n = cond (ltb n 20) false (cond (ltb 5120 n) false (eqb (n % 20) 0))

-- the text at the front of out, all past it as it was; or, where it is too long, out as it was
unfoldable pub fitted : List ℕ → List ℕ → Result ℕ PlayRefusal × List ℕ
fitted text out = cond (leb (length text) (length out)) (Ok (length text), text ++ drop (length text) out) (Err refusal.TextTooLong, out)

-- the settings stand first
unfoldable pub play_with : Result Settings RecordRefusal → List ℕ → List ℕ → Result ℕ PlayRefusal × List ℕ
play_with (Ok settings) events out = fitted (text_of (new_state settings) events) out
play_with (Err why) events out = (Err (refusal.Record why), out)

unfoldable pub play_of : List ℕ → List ℕ → Result ℕ PlayRefusal × List ℕ
play_of records out =
    cond (length_ok (length records)) (play_with (settings_read (take 20 records)) (drop 20 records) out) (Err (refusal.Record RecordWrong), out)

abbrev pub written : Result ℕ PlayRefusal → ℕ
written (Ok n) = n
written (Err why) = 0

abbrev pub number_of : PlayRefusal → ℕ
number_of (refusal.Record why) = refusal_number why
number_of refusal.TextTooLong = 16

-- its number: 0 where a text is written
abbrev pub play_number : Result ℕ PlayRefusal → ℕ
play_number (Ok n) = 0
play_number (Err why) = number_of why

-- the bytes written
abbrev pub play_values : Result ℕ PlayRefusal → List ℕ
play_values (Ok n) = n ∷ []
play_values (Err why) = []

-- the text that a call asks for, where its settings are accepted
abbrev pub text_with : Result Settings RecordRefusal → List ℕ → List ℕ
text_with (Ok settings) events = text_of (new_state settings) events
text_with (Err why) events = []

abbrev pub text_asked : List ℕ → List ℕ
text_asked records = text_with (settings_read (take 20 records)) (drop 20 records)

-- Causes: the tests of a call, which are 1 to 4 and 16
abbrev pub call_tests : List ℕ → List ℕ → Tests
call_tests records out =
    let first = take 20 records in
    record {
      call = record {
        record_wrong = not (length_ok (length records)) || settings_wrong first;
        max_above_254 = ltb 254 (byte_at first 3);
        min_above_max = ltb (byte_at first 3) (byte_at first 2);
        lighting_min_0 = is_set first 18 && eqb (byte_at first 2) 0;
        output_short = ltb (length out) (length (text_asked records));
      };
      turn = no_turn_tests;
      command = no_command_tests;
    }

-- the bytes written, or minus the number of the refusal: negsuc n is minus n + 1
abbrev pub result : Result ℕ PlayRefusal → ℤ
result (Ok n) = pos n
result (Err why) = negsuc (number_of why - 1)

abbrev pub returned : Result ℕ PlayRefusal × List ℕ → ℤ × List ℕ
returned p = (result p.0, p.1)

-- what keysheet prints of a refused call: `0 `, the number and a line feed
unfoldable pub refusal_text : PlayRefusal → List ℕ
refusal_text why = ascii "0" ++ ascii " " ++ digits (number_of why) ++ ascii "\n"

-- what keysheet prints, as far as out reaches, and its length
unfoldable pub shown : Result ℕ PlayRefusal × List ℕ → ℕ × List ℕ
shown (Ok n, out) = (n, out)
shown (Err why, out) = (min (length (refusal_text why)) most, sets out 0 (refusal_text why))

unfoldable pub key_of : List ℕ → List ℕ → ℕ × List ℕ
key_of records out = shown (play_of records out)

-- the bytes that keysheet prints, cut from out
abbrev pub printed : ℕ × List ℕ → List ℕ
printed k = take (min k.0 (length k.1)) k.1
