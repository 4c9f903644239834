-- The rules in the words of docs/RULES.md: laws for every value, by which the definitions of this folder can be believed. Where a law
-- speaks of a part of a definition by its name (a bit, a row of the table, a pair that decides), that part is to be read beside that page.
use Rattle.std.specs.Prelude.{ℕ, ◌/◌, ◌+◌, ◌-◌, ◌*◌, ◌≤◌, ◌<◌, Bool, true, false, ◌≡◌, ◌↔◌, ◌⊎◌, List, [], ◌∷◌, ◌++◌, length, slice_get, Option, Some, None, Ok, is_some}
use Rattle.units.specs.Numbers.{apart}
use Rattle.units.specs.Units.{tenths, millis, micros}
use Rattle.units.specs.declared.Tenths.{Tenths}
use Rattle.units.specs.declared.Millis.{Millis}
use Rattle.units.specs.declared.Micros.{Micros}
use Rattle.transitions.specs.Search.{NoneOf, First}
use Rattle.transitions.specs.Types.{executes_if_off, rate_or, same_level, is_within, is_outside, is_zero_rate}
use Rattle.transitions.specs.Actions.{act, act_coupled}
use Rattle.transitions.specs.RemainingTime.{remaining_time_due}
use Rattle.transitions.specs.Options.{should_continue}
use Rattle.transitions.specs.CurrentLevel.{current_level_due}
use Rattle.transitions.specs.Coupling.{coupled_on_off, coupled_values}
use Rattle.transitions.specs.Commands.{target_level, consults_options, step_level, step_time, step_time_number, rate_in_force, move_rate_number}
use Rattle.transitions.specs.Fade.{fade_period, is_transition_start, remaining_after, next_level, wait_or_ask}
use Rattle.transitions.specs.Fade as fade
use Rattle.transitions.specs.Tasks.{task_open, task_due, open_request, due_wait, begin_fade, begin_number, begin_requests, level_to_put_back, next_move, move_step_number, move_step_requests, is_move_end, at_limit}
use Rattle.transitions.specs.MovePeriod.{move_period}
use Rattle.transitions.specs.Scene.{Pair, pairs, decides, scene_level}
use Rattle.transitions.specs.Causes.{Row, rows, first_cause}
use Rattle.transitions.specs.Types.{Level}
use Rattle.transitions.specs.declared.types.LevelRange.{LevelRange}
use Rattle.transitions.specs.declared.types.Mode.{Mode}
use Rattle.transitions.specs.declared.types.Mode.TheVariants.{Up, Down}
use Rattle.transitions.specs.Types.{Rate}
use Rattle.transitions.specs.declared.types.OptionsBitmap.{OptionsBitmap}
use Rattle.transitions.specs.Actions.{held}
use Rattle.transitions.specs.declared.actions.Action.{Action}
use Rattle.transitions.specs.declared.causes.Tests.{Tests}
use Rattle.transitions.specs.declared.actions.ActionKind.TheVariants.{C}
use Rattle.transitions.specs.declared.tasks.Begin.TheVariants.{Reached, Starts}
use Rattle.transitions.specs.declared.tasks.Fade.{Fade}
use Rattle.transitions.specs.declared.tasks.FadeRequest.{FadeRequest}
use Rattle.transitions.specs.declared.tasks.MoveStep.TheVariants.{Ends}
use Rattle.transitions.specs.declared.tasks.Task.{Task}
use Rattle.transitions.specs.declared.tasks.Phase.TheVariants.{Asked}

-- Fades: one that begins at a level c, as a request asks
pub record BeginsAt (c : ℕ) (r : FadeRequest) (now : Micros) (f : Fade) : Type 0 where
  -- with or without on/off, a scene's or not, t and T: the request's
  pub its_on_off : f.with_on_off ≡ r.with_on_off
  pub its_scene : f.scene_apply ≡ r.scene_apply
  pub its_target : f.target ≡ r.target
  pub its_time : f.transition_time ≡ r.transition_time
  -- the remaining time is 100·T; with n = |t − c| the period is 100·T ÷ n milliseconds, rounded down
  pub remains : f.remaining.0 ≡ 100 * r.transition_time.0
  pub rounds_down : let n = apart r.target c in
      (n * f.period.0 ≤ 100 * r.transition_time.0) × (100 * r.transition_time.0 < n * (f.period.0 + 1))
  -- what it puts back afterwards is c, exactly if it is to put a level back
  pub puts_back : (before : ℕ) → (f.put_back ≡ Some before) ↔ ((r.puts_back ≡ true) × (before ≡ c))
  -- its request is open since now
  pub asked_now : f.phase ≡ Asked now

-- Scenes: a place below both lengths where the id is 0 and the value is v, at most 255
pub record DecidesAt (ids values : List ℕ) (i v : ℕ) : Type 0 where
  pub id_0 : slice_get ids i ≡ Some 0
  pub its_value : slice_get values i ≡ Some v
  pub known : v ≤ 255

pub record Laws : Type 0 where
  -- Remaining time: it is reported exactly if a non-zero time becomes 0, or 0 becomes more than 10, or it changes by more than 10 at the start of a fade
  pub remaining_report : (old new : Tenths) (start : Bool)
      → (remaining_time_due old new start ≡ true)
      ↔ (((1 ≤ old.0) × (new.0 ≡ 0)) ⊎ ((old.0 ≡ 0) × (10 < new.0)) ⊎ ((10 < apart new.0 old.0) × (start ≡ true)))
  -- Options: they stop a command exactly if it is one without on/off, the lamp is coupled and off, and the bit that decides is not set
  pub options_stop : (with_on_off coupled on : Bool) (options mask override : OptionsBitmap)
      → (should_continue with_on_off coupled on options mask override ≡ false)
      ↔ ((with_on_off ≡ false) × (coupled ≡ true) × (on ≡ false)
      × (((executes_if_off mask ≡ true) × (executes_if_off override ≡ false)) ⊎ ((executes_if_off mask ≡ false) × (executes_if_off options ≡ false))))
  -- Level reports: one that is no end and has no missing level is due exactly when the gap, which is not 0, or more has passed since the last-report time
  pub level_report : (gap last now : Micros) (old new : ℕ) → 1 ≤ gap.0
      → (current_level_due gap last now false (Some old) (Some new) ≡ true) ↔ (last.0 + gap.0 ≤ now.0)
  -- with a gap of 0, which is not the program's, every one is due
  pub report_without_gap : (last now : Micros) (end : Bool) (old new : Level) → current_level_due (micros 0) last now end old new ≡ true
  -- an end, an old level that is missing and a new one that is missing are each ground enough
  pub end_report : (gap last now : Micros) (old new : Level) → current_level_due gap last now true old new ≡ true
  pub missing_report : (gap last now : Micros) (end : Bool) (l : Level)
      → (current_level_due gap last now end None l ≡ true) × (current_level_due gap last now end l None ≡ true)
  -- Coupling: C v exactly if with on/off and coupled, and v is 1 where the level is above MIN and the lamp off, 0 where it is not above and the lamp on
  pub coupling : (with_on_off coupled on : Bool) (min level v : ℕ)
      → (coupled_values (coupled_on_off with_on_off coupled on min level) ≡ v ∷ [])
      ↔ ((with_on_off ≡ true) × (coupled ≡ true)
      × (((v ≡ 1) × (min < level) × (on ≡ false)) ⊎ ((v ≡ 0) × (level ≤ min) × (on ≡ true))))
  -- and the action is that C v, or none
  pub coupling_action : (c : Option Bool) (v : ℕ) → (coupled_values c ≡ v ∷ [] → act_coupled c ≡ act C v) × (coupled_values c ≡ [] → act_coupled c ≡ [])
  -- Targets: 255 stays 255 and the options are not looked at; a lower target lies within MIN..MAX, MIN being no more than MAX, and is as it was if it lay there
  pub target_255 : (lo hi : ℕ) → (target_level 255 lo hi ≡ 255) × (consults_options 255 ≡ false)
  pub target_held : (level lo hi : ℕ) → level ≤ 254 → lo ≤ hi → (lo ≤ target_level level lo hi) × (target_level level lo hi ≤ hi)
  pub target_stays : (level lo hi : ℕ) → level ≤ 254 → lo ≤ level → level ≤ hi → target_level level lo hi ≡ level
  -- one that lay outside becomes the nearer end
  pub target_clamped : (level lo hi : ℕ) → level ≤ 254 → lo ≤ hi
      → (level ≤ lo → target_level level lo hi ≡ lo) × (hi ≤ level → target_level level lo hi ≡ hi)
  -- where MIN is above MAX, which no play reaches, it becomes MAX
  pub target_crossed : (level lo hi : ℕ) → level ≤ 254 → hi ≤ lo → target_level level lo hi ≡ hi
  -- the options are looked at exactly for a target of at most 254
  pub target_options : (level : ℕ) → (consults_options level ≡ true) ↔ (level ≤ 254)
  -- Steps: to the sum, capped at MAX, or to the difference, raised to MIN
  pub step_up : (level size lo hi : ℕ) → hi ≤ 255
      → (level + size ≤ hi → step_level Up level size lo hi ≡ level + size) × (hi ≤ level + size → step_level Up level size lo hi ≡ hi)
  pub step_down : (level size lo hi : ℕ)
      → (lo + size ≤ level → step_level Down level size lo hi + size ≡ level) × (level ≤ lo + size → step_level Down level size lo hi ≡ lo)
  -- the time T' of a step that is not refused: size·T' ≤ given·actual < size·(T' + 1)
  pub step_time_rounds : (given actual size : ℕ) (t : Tenths) → 1 ≤ size → step_time (Some (tenths given)) actual size ≡ Ok t
      → (size * t.0 ≤ given * actual) × (given * actual < size * (t.0 + 1))
  -- 12 exactly if the size came out different and the product is above 65,535; a missing time is 0, and never 12
  pub step_12 : (given actual size : ℕ)
      → (step_time_number (step_time (Some (tenths given)) actual size) ≡ 12) ↔ ((actual ≡ size → ⊥) × (65535 < given * actual))
  pub step_no_time : (actual size : ℕ) → step_time None actual size ≡ Ok (tenths 0)
  -- Moves: 10 exactly if the rate in force is 0; else that rate is taken
  pub rate_10 : (given default : Rate) (fastest : ℕ)
      → (move_rate_number (rate_in_force given default fastest) ≡ 10) ↔ (rate_or given default fastest ≡ 0)
  pub rate_taken : (given default : Rate) (fastest : ℕ) → 1 ≤ rate_or given default fastest
      → rate_in_force given default fastest ≡ Ok (rate_or given default fastest)
  -- Fades: the period p is 100·T ÷ n rounded down: n·p ≤ 100·T < n·(p + 1)
  pub fade_period_rounds : (time : Tenths) (n : ℕ) → 1 ≤ n
      → (n * (fade_period time n).0 ≤ 100 * time.0) × (100 * time.0 < n * ((fade_period time n).0 + 1))
  -- over 0 levels, which no fade goes, it is 0
  pub fade_period_0 : (time : Tenths) → fade_period time 0 ≡ millis 0
  -- the remaining time falls by the period, where it is as long, else to 0, and is 0 at the end
  pub remaining_falls : (remaining period : Millis) → period.0 ≤ remaining.0 → (remaining_after remaining period false).0 + period.0 ≡ remaining.0
  pub remaining_stops : (remaining period : Millis) → remaining.0 ≤ period.0 → (remaining_after remaining period false).0 ≡ 0
  pub remaining_ends : (remaining period : Millis) → (remaining_after remaining period true).0 ≡ 0
  -- a counter that is not at its target moves by one, and comes nearer; with time 0 it is there at once
  pub counter_moves : (counter target : ℕ) (time : Tenths) → 1 ≤ time.0 → (counter ≡ target → ⊥)
      → (apart counter (next_level counter target time) ≡ 1) × (apart (next_level counter target time) target + 1 ≡ apart counter target)
  pub counter_jumps : (counter target : ℕ) → next_level counter target (tenths 0) ≡ target
  -- one that is at its target stays there, with any time
  pub counter_stays : (target : ℕ) (time : Tenths) → next_level target target time ≡ target
  -- a wait: until the request's time + the period, whose sum 64 bits hold, exactly if the period is at least the answer's time less the request's; else no W
  pub waits : (asked answered period : Micros) (until : ℕ) → asked.0 + period.0 ≤ 18446744073709551615
      → (fade.waits (wait_or_ask asked answered period) ≡ until ∷ []) ↔ ((answered.0 - asked.0 ≤ period.0) × (until ≡ asked.0 + period.0))
  pub asks : (asked answered period : Micros)
      → (fade.waits (wait_or_ask asked answered period) ≡ []) ↔ (period.0 < answered.0 - asked.0)
  -- start holds exactly while the unrounded remaining time equals 100·T
  pub start : (remaining : Millis) (time : Tenths) → (is_transition_start remaining time ≡ true) ↔ (remaining.0 ≡ 100 * time.0)
  -- Targets: E11 exactly from a missing level; a target equal to the current level is reached, and no other
  pub begin_11 : (level : Level) (r : FadeRequest) (now : Micros) → (begin_number (begin_fade level r now) ≡ 11) ↔ (level ≡ None)
  pub begin_reached : (level : Level) (r : FadeRequest) (now : Micros) → (begin_fade level r now ≡ Reached) ↔ (level ≡ Some r.target)
  -- from any other level a fade begins, and asks first for the level that its counter moves to
  pub begin_asks : (level : Level) (r : FadeRequest) (now : Micros) (asked : ℕ)
      → (begin_requests (begin_fade level r now) ≡ asked ∷ [])
      ↔ ((c : ℕ) × (level ≡ Some c) × (c ≡ r.target → ⊥) × (asked ≡ next_level c r.target r.transition_time))
  pub begin_fade_begins : (c : ℕ) (r : FadeRequest) (now : Micros) (f : Fade) → begin_fade (Some c) r now ≡ Starts f → BeginsAt c r now f
  -- Moves: no whole number of µs, times the rate, is nearer to 1,000,000 than the period is
  pub move_nearest : (rate q : ℕ) → 1 ≤ rate → apart (rate * (move_period rate).0) 1000000 ≤ apart (rate * q) 1000000
  -- the period is (1,000,000 + rate ÷ 2) ÷ rate, both rounded down, so of two that are as near the larger
  pub move_period_rounds : (rate : ℕ) → 1 ≤ rate
      → (rate * (move_period rate).0 ≤ 1000000 + rate / 2) × (1000000 + rate / 2 < rate * ((move_period rate).0 + 1))
  -- at rate 0, which is refused before, it is 0
  pub move_period_0 : move_period 0 ≡ micros 0
  -- E11 exactly from a missing level
  pub move_11 : (level : Level) (mode : Mode) → (move_step_number (next_move level mode) ≡ 11) ↔ (level ≡ None)
  -- it asks from the stored level, by one, up or down; without a request it ends, exactly if it would pass 255 or 0
  pub move_up : (c asked : ℕ) → (move_step_requests (next_move (Some c) Up) ≡ asked ∷ []) ↔ ((asked ≡ c + 1) × (asked ≤ 255))
  pub move_down : (c asked : ℕ) → (move_step_requests (next_move (Some c) Down) ≡ asked ∷ []) ↔ (asked + 1 ≡ c)
  pub move_passes : (c : ℕ) → ((next_move (Some c) Up ≡ Ends) ↔ (255 < c + 1)) × ((next_move (Some c) Down ≡ Ends) ↔ (c < 1))
  -- after a request it ends exactly if the asked level is MIN or MAX
  pub move_end : (asked lo hi : ℕ) → (is_move_end asked lo hi ≡ true) ↔ ((asked ≡ lo) ⊎ (asked ≡ hi))
  -- nothing happens exactly at MIN going down or at MAX going up
  pub at_limit_means : (level : Level) (mode : Mode) (lo hi : ℕ)
      → (at_limit level mode lo hi ≡ true) ↔ (((mode ≡ Down) × (level ≡ Some lo)) ⊎ ((mode ≡ Up) × (level ≡ Some hi)))
  -- Reactions: the level before is put back exactly if the fade keeps one to put back and the on level is missing
  pub put_back_means : (put_back : Option ℕ) (on_level : Level) (before : ℕ)
      → (level_to_put_back put_back on_level ≡ Some before) ↔ ((put_back ≡ Some before) × (on_level ≡ None))
  -- Scenes: the value of the first pair that decides, exactly; missing exactly if none does
  pub scene_known : (ids values : List ℕ) (v : ℕ)
      → (scene_level ids values ≡ Some v) ↔ ((p : Pair) × First decides (pairs ids values) p × (p.value ≡ v))
  pub scene_missing : (ids values : List ℕ) → (scene_level ids values ≡ None) ↔ NoneOf decides (pairs ids values)
  -- the same by places: the value of the first place that decides, exactly; missing exactly if no place does
  pub scene_at : (ids values : List ℕ) (v : ℕ)
      → (scene_level ids values ≡ Some v)
      ↔ ((i : ℕ) × DecidesAt ids values i v × ((j w : ℕ) → j < i → DecidesAt ids values j w → ⊥))
  pub scene_nowhere : (ids values : List ℕ) → (scene_level ids values ≡ None) ↔ ((i v : ℕ) → DecidesAt ids values i v → ⊥)
  -- Words: a level has changed exactly if it is another; one lies within MIN..MAX exactly if it is neither below MIN nor above MAX; only a known level lies
  -- outside, and only a known rate is 0
  pub same_level_means : (a b : Level) → (same_level a b ≡ true) ↔ (a ≡ b)
  pub within : (range : LevelRange) (level : ℕ) → (is_within range level ≡ true) ↔ ((range.min ≤ level) × (level ≤ range.max))
  pub outside : (level : Level) (lo hi : ℕ) → (is_outside level lo hi ≡ true) ↔ ((c : ℕ) × (level ≡ Some c) × ((c < lo) ⊎ (hi < c)))
  pub rate_0 : (r : Rate) → (is_zero_rate r ≡ true) ↔ (r ≡ Some 0)
  -- Events and answers: a list of actions holds at most seven, and those that are no more as they are
  pub seven_held : (l : List Action) → length (held l) ≤ 7
  pub held_stays : (l : List Action) → length l ≤ 7 → held l ≡ l
  -- what would come behind the seventh is dropped
  pub eighth_dropped : (l more : List Action) → length l ≡ 7 → held (l ++ more) ≡ l
  -- the request that is open is given exactly where one is, and the wait that is over exactly where one is
  pub request_given : (t : Task) → is_some (open_request t) ≡ task_open t
  pub wait_given : (t : Task) (now : Micros) → is_some (due_wait t now) ≡ task_due t now
  -- Causes: a number is that of the first row that applies, exactly; 0 without such a row exactly if none applies
  pub cause : (t : Tests) (n : ℕ)
      → (first_cause t ≡ n)
      ↔ (((r : Row) × First (λ r. r.applies) (rows t) r × (r.number ≡ n)) ⊎ (NoneOf (λ r. r.applies) (rows t) × (n ≡ 0)))
