-- The theorems over records are not empty: the small play of docs/RULES.md, as bytes, with a damaged record added; and a play for each of the five starts.
use Rattle.std.specs.Prelude.{ℕ, ◌/◌, ◌%◌, true, ◌≡◌, List, [], ◌∷◌, ◌++◌, replicate, take}
use Rattle.transitions.specs.declared.settings.Settings.{Settings}
use Rattle.level_control.specs.Answer.{Outcome}
use Rattle.level_control.specs.EveryFade.{Shown}
use Rattle.level_control.specs.Run.{Request, started}
use Rattle.level_control.specs.State.{new_state}
use Rattle.level_theorems.specs.Instances.{device3}
use Rattle.level_theorems.specs.Replies.{answers_from}
use Rattle.record_theorems.specs.RecordPlays.{Record, all_bytes, answers_of, seen, only_onward, StartsAt}
use Rattle.record_theorems.specs.RecordTheorems.{Configured, EndsRecorded, answers_after}

-- settings: MIN 1, MAX 254, uncoupled, level 10
abbrev pub settings_bytes : List ℕ
settings_bytes = 0x4C ∷ 0x47 ∷ 1 ∷ 254 ∷ 0 ∷ 0 ∷ 50 ∷ 10 ∷ 0 ∷ 0 ∷ 0 ∷ 1 ∷ 0 ∷ 0 ∷ 0 ∷ 0 ∷ 0 ∷ 0 ∷ 0 ∷ 0 ∷ []

-- a record of a kind at a time, its low three bytes given, with two bytes from 12 on
abbrev pub at : ℕ → ℕ → ℕ → ℕ → ℕ → ℕ → List ℕ
at kind low mid high a b = 0x4C ∷ 0x45 ∷ kind ∷ 0 ∷ low ∷ mid ∷ high ∷ 0 ∷ 0 ∷ 0 ∷ 0 ∷ 0 ∷ a ∷ b ∷ 0 ∷ 0 ∷ 0 ∷ 0 ∷ 0 ∷ 0 ∷ []

-- 1 move to 13 in 3 tenths at 2,000,000
abbrev pub start_bytes : List ℕ
start_bytes = 0x4C ∷ 0x45 ∷ 1 ∷ 0 ∷ 0x80 ∷ 0x84 ∷ 0x1E ∷ 0 ∷ 0 ∷ 0 ∷ 0 ∷ 0 ∷ 0 ∷ 13 ∷ 1 ∷ 3 ∷ 0 ∷ 0 ∷ 0 ∷ 0 ∷ []

-- a record of kind 99, which is damaged; answer 11; wake at 2,100,000; answer 12 at 2,150,000; wakes at 2,190,000 and 2,200,000; answer 13
abbrev pub after_bytes : List (List ℕ)
after_bytes =
    at 99 0x80 0x84 0x1E 0 0
    ∷ at 5 0x80 0x84 0x1E 0 11
    ∷ at 6 0x20 0x0B 0x20 0 0
    ∷ at 5 0x70 0xCE 0x20 0 12
    ∷ at 6 0xB0 0x6A 0x21 0 0
    ∷ at 6 0xC0 0x91 0x21 0 0
    ∷ at 5 0xC0 0x91 0x21 0 13
    ∷ []

abbrev pub numbers : List Outcome → List ℕ
numbers [] = []
numbers (o ∷ os) = o.number ∷ numbers os

pub record Instance : Type 0 where
  pub settings : Settings
  pub configured : Configured settings
  pub settings_have_bytes : configured.head.bytes ≡ settings_bytes
  pub up : List Record
  pub up_bytes : all_bytes up ≡ start_bytes ∷ []
  pub after : List Record
  pub after_has_bytes : all_bytes after ≡ after_bytes
  pub first : Outcome
  pub starts : StartsAt (new_state settings) up first 10 13 3
  -- 1: damaged; 8: a wake is early
  pub answered : numbers (answers_after settings up after) ≡ 1 ∷ 0 ∷ 0 ∷ 0 ∷ 8 ∷ 0 ∷ 0 ∷ []
  pub onward : only_onward after (answers_after settings up after) ≡ true
  pub shown : Shown 10 13 3 (seen (started first) after (answers_after settings up after))
  pub all_answered : (seen (started first) after (answers_after settings up after)).answers ≡ 3

-- The five starts: a fade over 3 levels in 3 tenths, so of period 100,000 µs, whose first request is made at 2,000,000.

-- settings: MIN 1, MAX 254, uncoupled, a level, on level 5; on and off in 3 tenths
abbrev pub lamp_bytes : ℕ → List ℕ
lamp_bytes level = 0x4C ∷ 0x47 ∷ 1 ∷ 254 ∷ 0 ∷ 0 ∷ 50 ∷ level ∷ 5 ∷ 0 ∷ 0 ∷ 0x33 ∷ 0 ∷ 0 ∷ 3 ∷ 0 ∷ 3 ∷ 0 ∷ 0 ∷ 0 ∷ []

-- a record of a kind at a time below 2^24, on/off 0, with these bytes from 12 on; those after them are 0
abbrev pub event_bytes : ℕ → ℕ → List ℕ → List ℕ
event_bytes kind now values =
    0x4C ∷ 0x45 ∷ kind ∷ 0 ∷ now % 256 ∷ now / 256 % 256 ∷ now / 65536 ∷ 0 ∷ 0 ∷ 0 ∷ 0 ∷ 0 ∷ take 8 (values ++ replicate 8 0)

-- without on/off, level 13, a known time of 3 tenths
abbrev pub move_to13 : List ℕ
move_to13 = event_bytes 1 2000000 (0 ∷ 13 ∷ 1 ∷ 3 ∷ 0 ∷ [])

-- without on/off, up, by 3, a known time of 3 tenths
abbrev pub step_by3 : List ℕ
step_by3 = event_bytes 3 2000000 (0 ∷ 0 ∷ 3 ∷ 1 ∷ 3 ∷ 0 ∷ [])

abbrev pub off : List ℕ
off = event_bytes 7 2000000 (0 ∷ [])

-- level 13, in 399 ms
abbrev pub scene_of13 : List ℕ
scene_of13 = event_bytes 8 2000000 (1 ∷ 13 ∷ 0x8F ∷ 0x01 ∷ [])

-- on asks for MIN; a wake is refused, and so is a record of kind 99, which is damaged; the device answers 2
abbrev pub min_answered : List (List ℕ)
min_answered =
    event_bytes 7 1000000 (1 ∷ [])
    ∷ event_bytes 6 1500000 []
    ∷ event_bytes 99 1500000 []
    ∷ event_bytes 5 2000000 (0 ∷ 2 ∷ [])
    ∷ []

-- What follows: the on level is set, which is refused, and a record is damaged; answer 40, which is late, and answer 7; an early wake and one that is due;
-- answer 200. The device never answers what it was asked for.
abbrev pub follows : List (List ℕ)
follows =
    event_bytes 11 2050000 (0 ∷ [])
    ∷ event_bytes 99 2100000 []
    ∷ event_bytes 5 2150000 (0 ∷ 40 ∷ [])
    ∷ event_bytes 5 2200000 (0 ∷ 7 ∷ [])
    ∷ event_bytes 6 2200001 []
    ∷ event_bytes 6 2250000 []
    ∷ event_bytes 5 2260000 (0 ∷ 200 ∷ [])
    ∷ []

-- a row: settings; the records up to the start of a fade from c to t, and the numbers that they get; and what is asked for
pub record StartInstance (settings_are : List ℕ) (up_are : List (List ℕ)) (up_numbers : List ℕ) (c t : ℕ) (asked : List ℕ) : Type 0 where
  pub settings : Settings
  pub configured : Configured settings
  pub settings_have_bytes : configured.head.bytes ≡ settings_are
  pub up : List Record
  pub up_has_bytes : all_bytes up ≡ up_are
  pub up_answered : numbers (answers_of (new_state settings) up) ≡ up_numbers
  pub first : Outcome
  pub starts : StartsAt (new_state settings) up first c t 3
  pub after : List Record
  pub after_has_bytes : all_bytes after ≡ follows
  -- 6: an answer is open; 1: damaged; 8: a wake is early
  pub answered : numbers (answers_after settings up after) ≡ 6 ∷ 1 ∷ 0 ∷ 0 ∷ 8 ∷ 0 ∷ 0 ∷ []
  pub onward : only_onward after (answers_after settings up after) ≡ true
  pub shown : Shown c t 3 (seen (started first) after (answers_after settings up after))
  pub asks : (seen (started first) after (answers_after settings up after)).asked ≡ asked
  -- after the late answer the next request is made at once
  pub late : (seen (started first) (take 3 after) (answers_after settings up after)).pending ≡ Request
  -- and a device that comes to the end with every fade
  pub ends : EndsRecorded settings up first c t (answers_from (started first) device3)

-- Each of the five starts has a play of records with a damaged one, refused events, a late answer and a device that answers other levels.
pub record StartInstances : Type 0 where
  pub by_move_to_level : StartInstance (lamp_bytes 10) (move_to13 ∷ []) (0 ∷ []) 10 13 (11 ∷ 12 ∷ 13 ∷ [])
  pub by_step : StartInstance (lamp_bytes 10) (step_by3 ∷ []) (0 ∷ []) 10 13 (11 ∷ 12 ∷ 13 ∷ [])
  pub by_off : StartInstance (lamp_bytes 4) (off ∷ []) (0 ∷ []) 4 1 (3 ∷ 2 ∷ 1 ∷ [])
  pub by_on : StartInstance (lamp_bytes 10) min_answered (0 ∷ 6 ∷ 1 ∷ 0 ∷ []) 2 5 (3 ∷ 4 ∷ 5 ∷ [])
  pub by_scene : StartInstance (lamp_bytes 10) (scene_of13 ∷ []) (0 ∷ []) 10 13 (11 ∷ 12 ∷ 13 ∷ [])
