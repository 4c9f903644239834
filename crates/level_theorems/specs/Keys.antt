-- Keys: the twelve questions in one table: a question, put to the definitions that the contracts cite, and its key.
use Rattle.std.specs.Prelude.{ℕ, zero, suc, ◌+◌, Bool, true, false, ◌≡◌, List, [], ◌∷◌, ◌++◌, eqb, length, map, filter, Some, None, Result, Ok, Err}
use Rattle.units.specs.Numbers.{apart}
use Rattle.units.specs.Units.{tenths, millis, micros, tenths_up, tenths_down}
use Rattle.transitions.specs.RemainingTime.{remaining_time_due}
use Rattle.transitions.specs.CurrentLevel.{second, current_level_due}
use Rattle.transitions.specs.Causes.{refusal_number}
use Rattle.transitions.specs.Commands.{step_level, step_time}
use Rattle.transitions.specs.Fade.{fade_period}
use Rattle.transitions.specs.MovePeriod.{move_period}
use Rattle.transitions.specs.Events.{event}
use Rattle.transitions.specs.Actions.{action, act}
use Rattle.transitions.specs.declared.actions.Action.{Action}
use Rattle.transitions.specs.declared.actions.ActionKind.TheVariants.{D, P, S, L, E}
use Rattle.transitions.specs.declared.events.DeviceAnswer.TheVariants as device
use Rattle.transitions.specs.declared.events.Event.{Event}
use Rattle.transitions.specs.declared.events.EventKind.{EventKind}
use Rattle.transitions.specs.declared.events.EventKind.TheVariants as kind
use Rattle.transitions.specs.declared.settings.Settings.{Settings}
use Rattle.transitions.specs.Types.{Level}
use Rattle.transitions.specs.declared.types.Mode.TheVariants.{Up}
use Rattle.level_control.specs.State.{new_state}
use Rattle.level_control.specs.Handle.{event_of}
use Rattle.level_control.specs.Answer.{Outcome}
use Rattle.level_control.specs.EveryFade.{Starts}
use Rattle.level_control.specs.Run.{Nothing, asks, started, play, only_onward}
use Rattle.level_control.specs.declared.state.LevelControlState.{LevelControlState}
use Rattle.units.specs.declared.Tenths.{Tenths}
use Rattle.transitions.specs.declared.causes.Refusal.{Refusal}
use Rattle.transitions.specs.declared.events.Command.TheVariants as command

pub data Question : Type 0 where
  -- how many tenths some milliseconds are
  TenthsOf : ℕ → Question
  -- whether a remaining time is reported that goes from one to another, at the start of a fade or not
  RemainingTimeReport : ℕ → ℕ → Bool → Question
  -- the period of a fade of some tenths over some levels
  FadePeriod : ℕ → ℕ → Question
  -- the time of a step up from a level, by a size, with a MAX, in some tenths
  StepUp : ℕ → ℕ → ℕ → ℕ → Question
  -- the period of a move at a rate
  MovePeriod : ℕ → Question
  -- whether a level is reported some µs after the last-report time
  LevelReport : ℕ → Question
  -- the tenths of a scene's milliseconds
  SceneTime : ℕ → Question
  -- how many requests some events make, after these settings
  Requests : Settings → List Event → Question
  -- the actions of each of some events, after these settings
  Actions : Settings → List Event → Question

pub data Key : Type 0 where
  Count : ℕ → Key
  Report : Bool → Key
  Number : ℕ → Key
  Given : List (List Action) → Key

abbrev pub step_key : Result Tenths Refusal → Key
step_key (Ok t) = Count t.0
step_key (Err cause) = Number (refusal_number cause)

-- the actions of each event of a list, from a state on
abbrev pub actions_from : LevelControlState → List Event → List (List Action)
actions_from s [] = []
actions_from s (e ∷ es) = (event_of s e).actions ∷ actions_from (event_of s e).state es

-- the levels that they ask for
abbrev pub asks_of : List (List Action) → List ℕ
asks_of [] = []
asks_of (l ∷ ls) = asks l ++ asks_of ls

-- what the definitions answer
unfoldable pub answer_to : Question → Key
answer_to (TenthsOf ms) = Count (tenths_up (millis ms)).0
answer_to (RemainingTimeReport old new start) = Report (remaining_time_due (tenths old) (tenths new) start)
answer_to (FadePeriod time n) = Count (fade_period (tenths time) n).0
answer_to (StepUp level size hi given) =
    step_key (step_time (Some (tenths given)) (apart (step_level Up level size 1 hi) level) size)
answer_to (MovePeriod rate) = Count (move_period rate).0
answer_to (LevelReport passed) = Report (current_level_due second (micros 0) (micros passed) false (Some 10) (Some 11))
answer_to (SceneTime ms) = Count (tenths_down (millis ms)).0
answer_to (Requests settings es) = Count (length (asks_of (actions_from (new_state settings) es)))
answer_to (Actions settings es) = Given (actions_from (new_state settings) es)

-- MIN 1, MAX 254, uncoupled, nothing known but the level
abbrev pub plain : Level → Settings
plain level = record {
  range = record { min = 1; max = 254 };
  coupled = false;
  fastest_rate = 50;
  lighting = false;
  current_level = level;
  attributes = record {
    on_level = None;
    options = record { 0 = 0 };
    on_off_transition_time = tenths 0;
    on_transition_time = None;
    off_transition_time = None;
    default_move_rate = None;
    start_up_current_level = None;
  };
}

abbrev pub at : ℕ → EventKind → Event
at now kind = event (micros now) false kind

abbrev pub answers : ℕ → ℕ → Event
answers now level = at now (kind.Answer (device.Level level))

abbrev pub move_to : ℕ → ℕ → EventKind
move_to level given = kind.Command (command.MoveToLevel (record {
  options = record { with_on_off = false; options_mask = record { 0 = 0 }; options_override = record { 0 = 0 } };
  level = level;
  transition_time = Some (tenths given);
}))

-- a row: the question's number in Keys, the question, its key
pub record KeyRow : Type 0 where
  pub number : ℕ
  pub question : Question
  pub key : Key

abbrev pub key_row : ℕ → Question → Key → KeyRow
key_row number question key = record { number = number; question = question; key = key }

abbrev pub table : List KeyRow
table =
    key_row 1 (TenthsOf 100) (Count 1)
    ∷ key_row 1 (TenthsOf 101) (Count 2)
    ∷ key_row 2 (RemainingTimeReport 0 10 true) (Report false)
    ∷ key_row 2 (RemainingTimeReport 0 10 false) (Report false)
    ∷ key_row 2 (RemainingTimeReport 0 11 true) (Report true)
    ∷ key_row 2 (RemainingTimeReport 0 11 false) (Report true)
    ∷ key_row 3 (RemainingTimeReport 20 9 true) (Report true)
    ∷ key_row 3 (RemainingTimeReport 20 9 false) (Report false)
    ∷ key_row 3 (RemainingTimeReport 20 10 true) (Report false)
    ∷ key_row 3 (RemainingTimeReport 20 10 false) (Report false)
    ∷ key_row 4 (FadePeriod 1 100) (Count 1)
    ∷ key_row 4 (FadePeriod 1 101) (Count 0)
    ∷ key_row 5 (FadePeriod 65535 254) (Count 25801)
    ∷ key_row 6 (StepUp 250 10 254 100) (Count 40)
    ∷ key_row 7 (StepUp 250 10 254 16383) (Count 6553)
    ∷ key_row 7 (StepUp 250 10 254 16384) (Number 12)
    ∷ key_row 8 (MovePeriod 3) (Count 333333)
    ∷ key_row 8 (MovePeriod 255) (Count 3922)
    ∷ key_row 9
    (Requests (plain (Some 250))
    (at 0 (move_to 255 1) ∷ answers 1000000 251 ∷ answers 2000000 252 ∷ answers 3000000 253 ∷ answers 4000000 254 ∷ answers 5000000 255 ∷ []))
    (Count 5)
    ∷ key_row 10 (LevelReport 1000000) (Report true)
    ∷ key_row 10 (LevelReport 999999) (Report false)
    ∷ key_row 11 (SceneTime 99) (Count 0)
    ∷ key_row 11 (SceneTime 6553600) (Count 65535)
    ∷ key_row 12
    (Actions (plain None) (at 0 (kind.Command (command.OnOffChanged true)) ∷ answers 0 1 ∷ []))
    (Given (act D 1 ∷ (action P 0 ∷ action S 0 ∷ action L 0 ∷ action E 15 ∷ []) ∷ []))
    ∷ []

abbrev pub Holds : KeyRow → Type 0
Holds r = answer_to r.question ≡ r.key

-- every row holds
abbrev pub AllHold : List KeyRow → Type 0
AllHold [] = Unit {0}
AllHold (r ∷ rs) = Holds r × AllHold rs

-- the rows of a number, and those of the numbers up to n
abbrev pub rows_of : ℕ → List KeyRow → List KeyRow
rows_of number rs = filter (λ r. eqb r.number number) rs

abbrev pub rows_up_to : ℕ → List KeyRow → List KeyRow
rows_up_to zero rs = []
rows_up_to (suc n) rs = rows_up_to n rs ++ rows_of (suc n) rs

-- The rows that a number is to have: a question about each of some values, with the key that the definitions themselves give.

abbrev pub about : {A : Type 0} → ℕ → List A → (A → Question) → (A → Key) → List KeyRow
about number values question key = map (λ x. key_row number (question x) (key x)) values

-- a remaining time that goes from one to another, at the start of a fade and not
abbrev pub at_start_or_not : ℕ → ℕ → ℕ → List KeyRow
at_start_or_not number old new =
    about number (true ∷ false ∷ []) (RemainingTimeReport old new) (λ start. Report (remaining_time_due (tenths old) (tenths new) start))

-- the time of a step from 250 up by 10, MAX 254
abbrev pub up_by10 : ℕ → Result Tenths Refusal
up_by10 given = step_time (Some (tenths given)) (apart (step_level Up 250 10 1 254) 250) 10

-- a fade from 250 to 255 starts, and the device answers the next n levels, a second after the other
abbrev pub from250 : Outcome
from250 = event_of (new_state (plain (Some 250))) (at 0 (move_to 255 1))

abbrev pub next_levels : ℕ → ℕ → ℕ → List Event
next_levels zero now level = []
next_levels (suc n) now level = answers (now + 1000000) (level + 1) ∷ next_levels n (now + 1000000) (level + 1)

-- on, with both levels missing
abbrev pub on_with_no_level : Outcome
on_with_no_level = event_of (new_state (plain None)) (at 0 (kind.Command (command.OnOffChanged true)))

-- The twelve questions. The table has these rows under each number, and no others; and each key, as the rules have it.
pub record Keys : Type 0 where
  -- Every row holds.
  pub hold : AllHold table
  -- There are the rows of twelve numbers, in their order, and no other.
  pub no_other : table ≡ rows_up_to 12 table
  -- 1. How many tenths are 100 ms of remaining time, and 101? 1 and 2.
  pub rows_1 : rows_of 1 table ≡ about 1 (100 ∷ 101 ∷ []) TenthsOf (λ ms. Count (tenths_up (millis ms)).0)
  pub key_1 : ((tenths_up (millis 100)).0 ≡ 1) × ((tenths_up (millis 101)).0 ≡ 2)
  -- 2. Is a remaining time reported that goes from 0 to 10, or to 11? 10 no, 11 yes.
  pub rows_2 : rows_of 2 table ≡ at_start_or_not 2 0 10 ++ at_start_or_not 2 0 11
  pub key_2 : (start : Bool) → (remaining_time_due (tenths 0) (tenths 10) start ≡ false) × (remaining_time_due (tenths 0) (tenths 11) start ≡ true)
  -- 3. From 20 to 9, or to 10? 9 only at the start of a fade, 10 never.
  pub rows_3 : rows_of 3 table ≡ at_start_or_not 3 20 9 ++ at_start_or_not 3 20 10
  pub key_3 : (start : Bool) → (remaining_time_due (tenths 20) (tenths 9) start ≡ start) × (remaining_time_due (tenths 20) (tenths 10) start ≡ false)
  -- 4. The period of 1 tenth over 100 levels, and over 101? 1 ms and 0.
  pub rows_4 : rows_of 4 table ≡ about 4 (100 ∷ 101 ∷ []) (FadePeriod 1) (λ n. Count (fade_period (tenths 1) n).0)
  pub key_4 : ((fade_period (tenths 1) 100).0 ≡ 1) × ((fade_period (tenths 1) 101).0 ≡ 0)
  -- 5. Of 65,535 tenths over 254 levels? 25,801 ms.
  pub rows_5 : rows_of 5 table ≡ about 5 (254 ∷ []) (FadePeriod 65535) (λ n. Count (fade_period (tenths 65535) n).0)
  pub key_5 : (fade_period (tenths 65535) 254).0 ≡ 25801
  -- 6. The time of a step from 250 up by 10, MAX 254, in 100 tenths? 40 tenths.
  pub rows_6 : rows_of 6 table ≡ about 6 (100 ∷ []) (StepUp 250 10 254) (λ given. step_key (up_by10 given))
  pub key_6 : up_by10 100 ≡ Ok (tenths 40)
  -- 7. The same in 16,383 tenths, and in 16,384? 6,553 tenths; refused with 12.
  pub rows_7 : rows_of 7 table ≡ about 7 (16383 ∷ 16384 ∷ []) (StepUp 250 10 254) (λ given. step_key (up_by10 given))
  pub key_7 : (up_by10 16383 ≡ Ok (tenths 6553)) × ((cause : Refusal) × (up_by10 16384 ≡ Err cause) × (refusal_number cause ≡ 12))
  -- 8. The period of a move at rate 3, and 255? 333,333 µs and 3,922 µs.
  pub rows_8 : rows_of 8 table ≡ about 8 (3 ∷ 255 ∷ []) MovePeriod (λ rate. Count (move_period rate).0)
  pub key_8 : ((move_period 3).0 ≡ 333333) × ((move_period 255).0 ≡ 3922)
  -- 9. How many requests has a fade from 250 to 255 in 1 tenth? Five, when it has come to rest, however it starts and whatever the device answers.
  pub rows_9 : rows_of 9 table
      ≡ about 9 (next_levels 5 0 250 ∷ []) (λ es. Requests (plain (Some 250)) (at 0 (move_to 255 1) ∷ es))
      (λ es. Count (length (play (started from250) es).asked))
  pub key_9 : (o : Outcome) (es : List Event) → Starts o 250 255 1 → only_onward (started o) es ≡ true
      → (play (started o) es).pending ≡ Nothing → length (play (started o) es).asked ≡ 5
  -- 10. Is a level reported 1,000,000 µs after the last report, and 999,999? Yes; no.
  pub rows_10 : rows_of 10 table
      ≡ about 10 (1000000 ∷ 999999 ∷ []) LevelReport (λ passed. Report (current_level_due second (micros 0) (micros passed) false (Some 10) (Some 11)))
  pub key_10 : (last old new : ℕ)
      → (current_level_due second (micros last) (micros (last + 1000000)) false (Some old) (Some new) ≡ true)
      × (current_level_due second (micros last) (micros (last + 999999)) false (Some old) (Some new) ≡ false)
  -- 11. The tenths of a scene of 99 ms, and of 6,553,600 ms? 0 and 65,535.
  pub rows_11 : rows_of 11 table ≡ about 11 (99 ∷ 6553600 ∷ []) SceneTime (λ ms. Count (tenths_down (millis ms)).0)
  pub key_11 : ((tenths_down (millis 99)).0 ≡ 0) × ((tenths_down (millis 6553600)).0 ≡ 65535)
  -- 12. On, with the level and the on level missing? D and MIN; after the answer P S L E15, in every state and whatever level is answered.
  pub rows_12 : rows_of 12 table
      ≡ about 12 (answers 0 1 ∷ []) (λ a. Actions (plain None) (at 0 (kind.Command (command.OnOffChanged true)) ∷ a ∷ []))
      (λ a. Given (on_with_no_level.actions ∷ (event_of on_with_no_level.state a).actions ∷ []))
  pub key_12 : (s : LevelControlState) (e a : Event) (v : ℕ) → s.current_level ≡ None → s.attributes.on_level ≡ None
      → e.kind ≡ kind.Command (command.OnOffChanged true) → (event_of s e).number ≡ 0
      → a.kind ≡ kind.Answer (device.Level v) → (event_of (event_of s e).state a).number ≡ 0
      → ((event_of s e).actions ≡ act D s.settings.range.min)
      × ((event_of (event_of s e).state a).actions ≡ action P 0 ∷ action S 0 ∷ action L 0 ∷ action E 15 ∷ [])
