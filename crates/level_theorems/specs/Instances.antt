-- The claim of Every fade is not empty: a played fade for each of the five starts, each with refused events, a late answer and a device that answers other levels.
use Rattle.std.specs.Prelude.{ℕ, true, false, ◌≡◌, List, [], ◌∷◌, take, Some, None}
use Rattle.units.specs.Units.{tenths, millis, micros}
use Rattle.transitions.specs.Events.{event}
use Rattle.transitions.specs.declared.events.DeviceAnswer.TheVariants as device
use Rattle.transitions.specs.declared.events.Event.{Event}
use Rattle.transitions.specs.declared.events.EventKind.{EventKind}
use Rattle.transitions.specs.declared.events.EventKind.TheVariants as kind
use Rattle.transitions.specs.declared.settings.Settings.{Settings}
use Rattle.transitions.specs.declared.types.Mode.TheVariants.{Up}
use Rattle.level_control.specs.State.{new_state}
use Rattle.level_control.specs.Answer.{Outcome}
use Rattle.level_control.specs.Handle.{event_of}
use Rattle.level_control.specs.Run.{Request, started, play, only_onward, state_after}
use Rattle.level_control.specs.EveryFade.{Starts, Shown}
use Rattle.level_theorems.specs.Replies.{Reply, answers_from, Ends}
use Rattle.level_control.specs.declared.state.LevelControlState.{LevelControlState}
use Rattle.transitions.specs.declared.events.Command.TheVariants as command

-- MIN 1, MAX 254, uncoupled; on level 5; on and off in 3 tenths
abbrev pub lamp : ℕ → Settings
lamp level = record {
  range = record { min = 1; max = 254 };
  coupled = false;
  fastest_rate = 50;
  lighting = false;
  current_level = Some level;
  attributes = record {
    on_level = Some 5;
    options = record { 0 = 0 };
    on_off_transition_time = tenths 0;
    on_transition_time = Some (tenths 3);
    off_transition_time = Some (tenths 3);
    default_move_rate = None;
    start_up_current_level = None;
  };
}

abbrev pub at : ℕ → EventKind → Event
at t k = event (micros t) false k

abbrev pub answers : ℕ → EventKind
answers v = kind.Answer (device.Level v)

-- The five starts: a fade over 3 levels in 3 tenths, so of period 100,000 µs, whose first request is made at 2,000,000.

abbrev pub move_to13 : Event
move_to13 =
    at 2000000
    (kind.Command (command.MoveToLevel (record {
      options = record { with_on_off = false; options_mask = record { 0 = 0 }; options_override = record { 0 = 0 } };
      level = 13;
      transition_time = Some (tenths 3);
    })))

abbrev pub step_by3 : Event
step_by3 =
    at 2000000
    (kind.Command (command.Step (record {
      options = record { with_on_off = false; options_mask = record { 0 = 0 }; options_override = record { 0 = 0 } };
      mode = Up;
      step_size = 3;
      transition_time = Some (tenths 3);
    })))

abbrev pub off : Event
off = at 2000000 (kind.Command (command.OnOffChanged false))

abbrev pub scene_of13 : Event
scene_of13 = at 2000000 (kind.Command (command.Scene (record { level = Some 13; transition_time = millis 399 })))

-- on asks for MIN; a wake is refused; the device answers 2

abbrev pub on : Event
on = at 1000000 (kind.Command (command.OnOffChanged true))

abbrev pub between : List Event
between = at 1500000 kind.Wake ∷ []

abbrev pub answer2 : Event
answer2 = at 2000000 (answers 2)

-- What follows: of the six events the first and the fourth are refused, the second is late, and the device never answers what it was asked for.

abbrev pub follows : List Event
follows =
    at 2050000 (kind.Command (command.SetOnLevel None))
    ∷ at 2150000 (answers 40)
    ∷ at 2200000 (answers 7)
    ∷ at 2200001 kind.Wake
    ∷ at 2250000 kind.Wake
    ∷ at 2260000 (answers 200)
    ∷ []

-- and a device that comes to the end with every fade: its replies, with their levels and delays
abbrev pub device3 : List Reply
device3 =
    record { level = 40; after = 150000; on = false }
    ∷ record { level = 7; after = 50000; on = false }
    ∷ record { level = 200; after = 10000; on = false }
    ∷ []

-- the numbers that a list of events gets
abbrev pub numbers_of : LevelControlState → List Event → List ℕ
numbers_of s [] = []
numbers_of s (e ∷ es) = (event_of s e).number ∷ numbers_of (event_of s e).state es

-- a row: a fade from c to t that starts in an outcome, what follows it, and what is asked for
pub record Instance (o : Outcome) (c t : ℕ) (asked : List ℕ) : Type 0 where
  pub starts : Starts o c t 3
  pub onward : only_onward (started o) follows ≡ true
  pub shown : Shown c t 3 (play (started o) follows)
  pub asks : (play (started o) follows).asked ≡ asked
  -- 6: an answer is open; 8: a wake is early
  pub numbers : numbers_of o.state follows ≡ 6 ∷ 0 ∷ 0 ∷ 8 ∷ 0 ∷ 0 ∷ []
  -- after the late answer the next request is made at once
  pub late : (play (started o) (take 2 follows)).pending ≡ Request
  pub ends : Ends c t (started o) (answers_from (started o) device3)

-- Each of the five starts has a played fade with refused events, a late answer and a device that answers other levels.
pub record Instances : Type 0 where
  pub by_move_to_level : Instance (event_of (new_state (lamp 10)) move_to13) 10 13 (11 ∷ 12 ∷ 13 ∷ [])
  pub by_step : Instance (event_of (new_state (lamp 10)) step_by3) 10 13 (11 ∷ 12 ∷ 13 ∷ [])
  pub by_off : Instance (event_of (new_state (lamp 4)) off) 4 1 (3 ∷ 2 ∷ 1 ∷ [])
  pub by_on : Instance (event_of (state_after (event_of (new_state (lamp 10)) on).state between) answer2) 2 5 (3 ∷ 4 ∷ 5 ∷ [])
  pub by_scene : Instance (event_of (new_state (lamp 10)) scene_of13) 10 13 (11 ∷ 12 ∷ 13 ∷ [])
