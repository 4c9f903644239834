-- Causes: the table, and the first of its rows that applies.
use Rattle.std.specs.Prelude.{ℕ, Bool, false, List, [], ◌∷◌}
use Rattle.transitions.specs.Search.{first_where}
use Rattle.transitions.specs.declared.causes.CommandTests.{CommandTests}
use Rattle.transitions.specs.declared.causes.Refusal.{Refusal}
use Rattle.transitions.specs.declared.causes.Refusal.TheVariants.{TimeRefused, AnswerOpen, NoAnswerOpen, WakeRefused, StartUpLate, InvalidCommand, InvalidInState, ProductTooLarge, LevelOutside, RateZero}
use Rattle.transitions.specs.declared.causes.Tests.{Tests}
use Rattle.transitions.specs.declared.causes.TurnTests.{TurnTests}

-- a row: its number, and what its test says
pub record Row : Type 0 where
  pub number : ℕ
  pub applies : Bool

abbrev pub row : ℕ → Bool → Row
row n b = record { number = n; applies = b }

-- they are tested in this order; the options stand between 10 and 11, and an event that they stop has number 0
abbrev pub rows : Tests → List Row
rows t =
    row 1 t.call.record_wrong
    ∷ row 2 t.call.max_above_254
    ∷ row 3 t.call.min_above_max
    ∷ row 4 t.call.lighting_min_0
    ∷ row 5 t.turn.time_refused
    ∷ row 6 t.turn.answer_open
    ∷ row 7 t.turn.no_answer_open
    ∷ row 8 t.turn.wake_refused
    ∷ row 9 t.turn.start_up_late
    ∷ row 10 t.command.invalid_command
    ∷ row 0 t.command.stopped_by_options
    ∷ row 11 t.command.invalid_in_state
    ∷ row 12 t.command.product_too_large
    ∷ row 13 t.command.level_outside
    ∷ row 14 t.command.rate_0
    ∷ row 16 t.call.output_short
    ∷ []

-- the number of the first row that applies, or 0
unfoldable pub first_cause : Tests → ℕ
first_cause t = first_where (λ r. r.applies) (λ r. r.number) 0 (rows t)

-- the tests of an event whose record is right, within settings that were accepted
abbrev pub event_tests : TurnTests → CommandTests → Tests
event_tests turn command = record {
  call = record { record_wrong = false; max_above_254 = false; min_above_max = false; lighting_min_0 = false; output_short = false };
  turn = turn;
  command = command;
}

-- the tests 10 to 14 and the options, in the table's order
abbrev pub command_tests : Bool → Bool → Bool → Bool → Bool → Bool → CommandTests
command_tests invalid stopped state product outside rate = record {
  invalid_command = invalid;
  stopped_by_options = stopped;
  invalid_in_state = state;
  product_too_large = product;
  level_outside = outside;
  rate_0 = rate;
}

abbrev pub no_command_tests : CommandTests
no_command_tests = command_tests false false false false false false

abbrev pub no_turn_tests : TurnTests
no_turn_tests = record { time_refused = false; answer_open = false; no_answer_open = false; wake_refused = false; start_up_late = false }

-- the number of a refusal
abbrev pub refusal_number : Refusal → ℕ
refusal_number TimeRefused = 5
refusal_number AnswerOpen = 6
refusal_number NoAnswerOpen = 7
refusal_number WakeRefused = 8
refusal_number StartUpLate = 9
refusal_number InvalidCommand = 10
refusal_number InvalidInState = 11
refusal_number ProductTooLarge = 12
refusal_number LevelOutside = 13
refusal_number RateZero = 14
