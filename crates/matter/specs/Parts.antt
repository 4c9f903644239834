-- Where the machine, as the Rust does, parts from the Matter document in whole commands, or does what the document does not speak of: each with a play
-- that shows it. Marks as in Matter.antt, where the document's side is said here alone.
use Rattle.std.specs.Prelude.{ℕ, Bool, true, false, ◌≡◌, List, [], ◌∷◌, Some, None}
use Rattle.units.specs.Units.{tenths, micros, millis}
use Rattle.transitions.specs.Events.{event}
use Rattle.transitions.specs.Actions.{action}
use Rattle.transitions.specs.declared.actions.Action.{Action}
use Rattle.transitions.specs.declared.actions.ActionKind.TheVariants.{D, P, S, C, L, E}
use Rattle.transitions.specs.declared.events.DeviceAnswer.TheVariants as device
use Rattle.transitions.specs.declared.events.Event.{Event}
use Rattle.transitions.specs.declared.events.EventKind.{EventKind}
use Rattle.transitions.specs.declared.events.EventKind.TheVariants as kind
use Rattle.transitions.specs.declared.settings.Settings.{Settings}
use Rattle.transitions.specs.Types.{Level}
use Rattle.transitions.specs.declared.types.Mode.{Mode}
use Rattle.transitions.specs.declared.types.Mode.TheVariants.{Up, Down}
use Rattle.transitions.specs.Types.{Rate}
use Rattle.transitions.specs.Types.{Time}
use Rattle.level_control.specs.Handle.{event_of}
use Rattle.level_control.specs.Run.{state_after}
use Rattle.level_control.specs.State.{new_state}
use Rattle.level_control.specs.declared.state.LevelControlState.{LevelControlState}
use Rattle.matter.specs.Matter.{Invalid, Goes, move_to_level, step, after_on, part_of_time, start_up, remaining_at_start}
use Rattle.transitions.specs.declared.events.Command.TheVariants as command

-- The plays: settings, with times missing and options 0, and events.

-- MIN, MAX, coupled, level, on level, the common time
abbrev pub lamp : ℕ → ℕ → Bool → Level → Level → ℕ → Settings
lamp min max coupled level on_level common = record {
  range = record { min = min; max = max };
  coupled = coupled;
  fastest_rate = 50;
  lighting = false;
  current_level = level;
  attributes = record {
    on_level = on_level;
    options = record { 0 = 0 };
    on_off_transition_time = tenths common;
    on_transition_time = None;
    off_transition_time = None;
    default_move_rate = None;
    start_up_current_level = None;
  };
}

-- the same lamp with a start-up level and an off time
abbrev pub configured : Settings → Level → Time → Settings
configured s start_up off_time =
    record s { attributes = record s.attributes { off_transition_time = off_time; start_up_current_level = start_up } }

-- level 10 of 1 to 254, uncoupled
abbrev pub lamp10 : LevelControlState
lamp10 = new_state (lamp 1 254 false (Some 10) None 0)

abbrev pub at : ℕ → EventKind → Event
at t k = event (micros t) false k

abbrev pub to : Bool → ℕ → Time → EventKind
to with_on_off level given = kind.Command (command.MoveToLevel (record {
  options = record { with_on_off = with_on_off; options_mask = record { 0 = 0 }; options_override = record { 0 = 0 } };
  level = level;
  transition_time = given;
}))

abbrev pub up : ℕ → Time → EventKind
up size given = kind.Command (command.Step (record {
  options = record { with_on_off = false; options_mask = record { 0 = 0 }; options_override = record { 0 = 0 } };
  mode = Up;
  step_size = size;
  transition_time = given;
}))

abbrev pub moves : Mode → Rate → EventKind
moves m r = kind.Command (command.Move (record { options = record { with_on_off = false; options_mask = record { 0 = 0 }; options_override = record { 0 = 0 } }; mode = m; rate = r }))

abbrev pub answers : ℕ → EventKind
answers v = kind.Answer (device.Level v)

abbrev pub actions_after : LevelControlState → List Event → Event → List Action
actions_after s es e = (event_of (state_after s es) e).actions

abbrev pub remaining_time_after : LevelControlState → List Event → ℕ
remaining_time_after s es = (state_after s es).remaining_time.0

pub record Parts : Type 0 where
  -- A level of 255 is INVALID_COMMAND; the machine asks for it.
  pub level_255 : ((event_of lamp10 (at 0 (to false 255 None))).actions ≡ action D 255 ∷ []) × (move_to_level true 1 254 10 255 None 0 ≡ Invalid)
  -- A missing time is the common one, here 2 tenths; the machine takes 0 and asks for the target at once.
  pub missing_time : ((event_of (new_state (lamp 1 254 false (Some 3) None 2)) (at 0 (to false 13 None))).actions ≡ action D 13 ∷ [])
      × (move_to_level true 1 254 3 13 None 2 ≡ Goes 3 13 2)
  -- Of a fade in 3 tenths 3 remain when it is received; the machine shows what it showed before, until the first answer.
  pub remaining_at_start_parts : (remaining_time_after lamp10 (at 0 (to false 13 (Some (tenths 3))) ∷ []) ≡ 0)
      × (remaining_at_start (move_to_level true 1 254 10 13 (Some (tenths 3)) 0) 0 ≡ 3)
  -- Of a command whose target is reached already no time remains; the machine shows what it showed before.
  pub remaining_at_target : (remaining_time_after lamp10
      (at 0 (to false 13 (Some (tenths 3))) ∷ at 0 (answers 11) ∷ at 0 (to false 11 (Some (tenths 3))) ∷ []) ≡ 2)
      × (remaining_at_start (move_to_level true 1 254 11 11 (Some (tenths 3)) 0) 2 ≡ 0)
  -- After a move has replaced the fade the time that the fade showed stays, and the move itself writes none.
  pub remaining_in_move : remaining_time_after lamp10
      (at 0 (to false 13 (Some (tenths 3))) ∷ at 0 (answers 11) ∷ at 0 (moves Up (Some 10)) ∷ at 0 (answers 12) ∷ []) ≡ 2
  -- A with-on/off command sets OnOff before the level leaves the minimum [told]; the machine couples after the first answer.
  pub coupled_late : ((event_of (new_state (lamp 1 254 true (Some 1) None 0)) (at 0 (to true 13 None))).actions ≡ action D 13 ∷ [])
      × (actions_after (new_state (lamp 1 254 true (Some 1) None 0)) (at 0 (to true 13 None) ∷ []) (at 0 (answers 13))
      ≡ action P 0 ∷ action S 0 ∷ action C 1 ∷ action L 0 ∷ [])
  -- Below MIN, of which the document does not speak, the machine couples to off; here the lamp is on.
  pub coupled_below_min : actions_after (new_state (lamp 10 20 true (Some 9) None 11)) (at 0 (to true 10 None) ∷ [])
      (event (micros 0) true (answers 9))
      ≡ action S 0 ∷ action C 0 ∷ action L 0 ∷ []
  -- Off from a null level has nothing to store or to move from, of which the document does not speak; the machine fails with E11.
  pub off_from_missing : (event_of (new_state (lamp 1 254 false None None 0)) (at 0 (kind.Command (command.OnOffChanged false)))).actions ≡ action E 11 ∷ []
  -- The off time is that from the maximum level to the minimum level; the machine takes it for the whole way, here of 9 of 253 levels in 11 tenths,
  -- of which 10 are shown after the first answer.
  pub off_time_parts : (remaining_time_after (new_state (configured (lamp 1 254 true (Some 10) None 1) None (Some (tenths 11))))
      (event (micros 0) true (kind.Command (command.OnOffChanged false)) ∷ event (micros 0) true (answers 9) ∷ []) ≡ 10)
      × (part_of_time 1 254 9 11 ≡ 0)
  -- A step whose time has too large a product is refused; the document reduces the time.
  pub step_product : ((event_of (new_state (lamp 1 254 false (Some 250) None 0)) (at 0 (up 10 (Some (tenths 16384))))).number ≡ 12)
      × (step true Up 1 254 250 10 (Some (tenths 16384)) ≡ Goes 250 254 6553)
  -- From a level above MAX a step up goes down to MAX.
  pub step_from_outside : (event_of (new_state (lamp 10 20 false (Some 255) None 0)) (at 0 (up 1 None))).actions ≡ action D 20 ∷ []
  -- From a level below MIN, of which the document does not speak, a move down goes on away from it.
  pub move_from_outside : (event_of (new_state (lamp 10 20 false (Some 9) None 0)) (at 0 (moves Down (Some 10)))).actions ≡ action D 8 ∷ []
  -- An on level of 255, which is no level, is a target, unclamped.
  pub on_level_255 : (actions_after (new_state (lamp 10 20 false (Some 15) (Some 255) 0)) (at 0 (kind.Command (command.OnOffChanged true)) ∷ []) (at 0 (answers 10))
      ≡ action P 0 ∷ action S 0 ∷ action D 255 ∷ [])
      × (after_on (Some 255) (Some 15) 10 20 None 0 ≡ Goes 10 20 0)
  -- At start-up a stored level outside MIN..MAX is asked for as it is, and a start-up level outside it is brought within.
  pub start_up_outside : ((event_of (new_state (lamp 10 20 false (Some 255) None 0)) (at 0 kind.StartUp)).actions ≡ action D 255 ∷ [])
      × ((event_of (new_state (configured (lamp 50 90 false (Some 60) None 0) (Some 254) None)) (at 0 kind.StartUp)).actions ≡ action D 90 ∷ [])
  -- A start-up level of 0 stands for the minimum, and may be set [source]; the machine refuses to set it, as any level outside MIN..MAX.
  pub set_start_up_0 : ((event_of lamp10 (at 0 (kind.Command (command.SetStartUpCurrentLevel (Some 0))))).number ≡ 13) × (start_up (Some 0) 1 (Some 10) ≡ Some 1)
  -- Of setting a default rate of 0 the document is not explicit [source]; the machine refuses it.
  pub set_rate_0 : (event_of lamp10 (at 0 (kind.Command (command.SetDefaultMoveRate (Some 0))))).number ≡ 14
  -- A scene is no command with Options [general]; the machine lets the stored options stop it while the lamp is off, but not for 255.
  pub scene_while_off : ((event_of (new_state (lamp 1 254 true (Some 250) None 0)) (at 0 (kind.Command (command.Scene (record { level = Some 20; transition_time = millis 0 }))))).actions ≡ [])
      × ((event_of (new_state (lamp 1 254 true (Some 250) None 0)) (at 0 (kind.Command (command.Scene (record { level = Some 255; transition_time = millis 0 }))))).actions
      ≡ action D 255 ∷ [])
