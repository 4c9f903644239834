-- The end of off, start-up, Stop and Move, and the Matter document. Assumes nothing.
use Rattle.std.specs.Prelude.{Option, Some, None, Result, Ok, Err, ℕ}
use Prim.Native.Nat.{ℕ, ◌+◌, ◌-◌, ◌≤◌}
use mathlib.Core.Bool.{Bool, true, false, cond, not, true≢false, false≢true}
use mathlib.Core.Path.{◌≡◌, refl, sym, ap, subst, ◌∙◌}
use mathlib.Core.Logic.{◌⊎◌, inl, inr}
use mathlib.Core.List.{List, [], ◌∷◌, ◌++◌}
use native.Mathlib.Omega.{arith}
use borrow.Author.Tests.{lt-ltb, eqb-true, eqb-false, ne_eqb}
use lib.Dec.{eqb}
use Rattle.std.proofs.lemmas.Bool.{and_parts}
use Rattle.units.specs.Numbers.{held_to}
use Rattle.units.specs.Units.{millis}
use Rattle.units.specs.declared.Micros.{Micros}
use Rattle.transitions.specs.Commands.{is_invalid}
use Rattle.transitions.specs.Events.{event}
use Rattle.transitions.specs.Actions.{act, act_coupled}
use Rattle.transitions.specs.Tasks.{task_open, task_due, phase_open, fade_last, level_to_put_back, next_move, at_limit}
use Rattle.transitions.specs.declared.actions.ActionKind.TheVariants.{D, R}
use Rattle.transitions.specs.declared.events.DeviceAnswer.TheVariants as device
use Rattle.transitions.specs.declared.events.Event.{Event}
use Rattle.transitions.specs.declared.events.EventKind.{EventKind}
use Rattle.transitions.specs.declared.events.EventKind.TheVariants as kind
use Rattle.transitions.specs.declared.events.MoveRequest.{MoveRequest}
use Rattle.transitions.specs.declared.options.CommandOptions.{CommandOptions}
use Rattle.transitions.specs.declared.tasks.Fade.{Fade}
use Rattle.transitions.specs.declared.tasks.Motion.{Motion}
use Rattle.transitions.specs.declared.tasks.MoveStep.{MoveStep}
use Rattle.transitions.specs.declared.tasks.MoveStep.TheVariants as next
use Rattle.transitions.specs.declared.tasks.Phase.{Phase}
use Rattle.transitions.specs.declared.tasks.Phase.TheVariants.{Asked, Waiting}
use Rattle.transitions.specs.declared.tasks.Task.{Task}
use Rattle.transitions.specs.declared.tasks.Task.TheVariants as task
use Rattle.transitions.specs.Types.{Level}
use Rattle.transitions.specs.declared.types.Mode.{Mode}
use Rattle.transitions.specs.declared.types.Mode.TheVariants.{Up, Down}
use Rattle.transitions.specs.declared.types.OptionsBitmap.{OptionsBitmap}
use Rattle.level_control.specs.State.{accept}
use Rattle.transitions.specs.Actions.{reports_of}
use Rattle.level_control.specs.Answer.{Outcome, done}
use Rattle.level_control.specs.Judge.{turn_tests, move_tests, stop_tests, command_tests_of}
use Rattle.level_control.specs.Handle.{fade_answered_in, answered_in, answered, run, number_of, event_of}
use Rattle.level_control.specs.Fades.{ended_put_back, fade_ended_by, fade_ended, fade_goes_on, fade_stored, fade_told, move_to_level_transition, fade_answered}
use Rattle.level_control.specs.Moves.{leaves_min, rate_by, move_by, move_goes_on, move_at, begin_move}
use Rattle.level_control.specs.Judge.{continues}
use Rattle.level_control.specs.Reports.{set_level, write_remaining_time}
use Rattle.level_control.specs.StartUp.{start_up_or, start_up_level, start_up_at, started_up}
use Rattle.level_control.specs.Run.{Nothing, accepted, asks, all_refused, state_after}
use Rattle.level_control.specs.Targets.{quiet, stopped}
use Rattle.level_control.specs.Reports.{Told}
use Rattle.level_control.specs.declared.state.LevelControlState.{LevelControlState}
use Rattle.level_control.proofs.EveryFade.{accepted_zero}
use Rattle.level_control.proofs.EventLaws.{event_refused, event_runs, event_options_stop, command_passes}
use Rattle.level_control.proofs.SeenLaws.{Silent, silent_if, asks_append, asks_after, silent_coupled, silent_reports}
use Rattle.level_control.proofs.StartLaws.{continues_is, refused_stays}
use Rattle.matter.specs.Matter.{NotExecuted, move_to, after_off, start_up}
use Rattle.matter.specs.Agreement.{Unchanged, AtRest, Does, passes, InRange, levels, is_reply, only_replies}
use Rattle.matter.proofs.Changes.{is_command, command_keeps_level, is_open, is_due, unchanged}
use Rattle.transitions.specs.declared.causes.Refusal.{Refusal}
use Rattle.transitions.specs.declared.events.Command.TheVariants as command

-- an accepted event of a kind, as it runs
pub runs_as : (s : LevelControlState) (e : Event) (k : EventKind) → e.kind ≡ k → accepted s e ≡ true
    → (command_tests_of s e.moment.on_off k).stopped_by_options ≡ false → event_of s e ≡ run (accept s e.moment.at) k e.moment.at e.moment.on_off
runs_as s e k q ok free =
    let at : Micros = e.moment.at in
    let on : Bool = e.moment.on_off in
    let zero : number_of s (event at on k) ≡ 0 =
    accepted_zero s (event at on k) (subst (λ (x : EventKind). accepted s (event at on x) ≡ true) q ok) in
    ap (λ (x : EventKind). event_of s (event at on x)) q ∙ event_runs s (event at on k) zero free

pub zero_as : (s : LevelControlState) (e : Event) (k : EventKind) → e.kind ≡ k → accepted s e ≡ true → number_of s (event e.moment.at e.moment.on_off k) ≡ 0
zero_as s e k q ok =
    accepted_zero s (event e.moment.at e.moment.on_off k)
    (subst (λ (x : EventKind). accepted s (event e.moment.at e.moment.on_off x) ≡ true) q ok)

-- and one that the options stop
pub stopped_as : (s : LevelControlState) (e : Event) (k : EventKind) → e.kind ≡ k → accepted s e ≡ true
    → (command_tests_of s e.moment.on_off k).stopped_by_options ≡ true → event_of s e ≡ done (accept s e.moment.at) []
stopped_as s e k q ok stopped =
    ap (λ (x : EventKind). event_of s (event e.moment.at e.moment.on_off x)) q
    ∙ event_options_stop s (event e.moment.at e.moment.on_off k) (zero_as s e k q ok) stopped

-- what the document's options say, the machine's say
pub options_say : (s : LevelControlState) (e : Event) (with_on_off : Bool) (mask override : OptionsBitmap) (b : Bool) → passes s e with_on_off mask override ≡ b
    → not (continues s with_on_off e.moment.on_off mask override) ≡ not b
options_say s e with_on_off mask override b p = ap not (continues_is s with_on_off e.moment.on_off mask override ∙ p)

-- The end of off.

off_level : (s : LevelControlState) (f : Fade) (since at : Micros) (on : Bool) (v stored : ℕ) → f.put_back ≡ Some stored → fade_last f ≡ true
    → (fade_answered (accept s at) f since at on (device.Level v)).state.current_level ≡ Some (after_off s.attributes.on_level stored v)
unfolding fade_answered move_to_level_transition fade_ended fade_told fade_stored set_level write_remaining_time ended_put_back level_to_put_back
off_level s f since at on v stored after last =
    ap (λ (b : Bool). (cond b (fade_ended told f.put_back) others).state.current_level) last
    ∙ ap (λ (a : Option ℕ). (fade_ended told a).state.current_level) after
    ∙ ended s.attributes.on_level
  where
    told : Told
    told = fade_told (accept s at) f at on v

    others : Outcome
    others = fade_goes_on told f since at

    ended : (l : Level) → (fade_ended_by (level_to_put_back (Some stored) l) told).state.current_level ≡ Some (after_off l stored v)
    ended (Some x) = refl
    ended None = refl

pub off_ends : (s : LevelControlState) (e : Event) (f : Fade) (stored v : ℕ)
    → s.task ≡ task.Fade f → f.put_back ≡ Some stored → fade_last f ≡ true → e.kind ≡ kind.Answer (device.Level v) → accepted s e ≡ true
    → (event_of s e).state.current_level ≡ Some (after_off s.attributes.on_level stored v)
unfolding run answered command_tests_of number_of turn_tests
off_ends s e f stored v runs after last k ok =
    ap (λ (o : Outcome). o.state.current_level) (runs_as s e (kind.Answer (device.Level v)) k ok refl)
    ∙ ap (λ (x : Task). (answered_in x (accept s e.moment.at) (device.Level v) e.moment.at e.moment.on_off).state.current_level) runs
    ∙ by f.phase refl
  where
    zero : number_of s (event e.moment.at e.moment.on_off (kind.Answer (device.Level v))) ≡ 0
    zero = zero_as s e (kind.Answer (device.Level v)) k ok

    by : (p : Phase) → f.phase ≡ p
        → (fade_answered_in p (accept s e.moment.at) f (device.Level v) e.moment.at e.moment.on_off).state.current_level
        ≡ Some (after_off s.attributes.on_level stored v)
    by (Asked since) q = off_level s f since e.moment.at e.moment.on_off v stored after last
    by (Waiting until) q =
        absurd (false≢true (sym (ap task_open runs ∙ ap phase_open q) ∙ is_open s e.moment.at e.moment.on_off (device.Level v) zero))

-- Start-up.

pub held : (lo hi v level : ℕ) → lo ≤ hi → (v ≡ 0) ⊎ ((lo ≤ v) × (v ≤ hi)) → cond (eqb v 0) (Some lo) (Some v) ≡ Some level → held_to lo hi v ≡ level
held lo hi v level order range says = by (eqb v 0) refl says range
  where
    by : (b : Bool) → eqb v 0 ≡ b → cond b (Some lo) (Some v) ≡ Some level → (v ≡ 0) ⊎ ((lo ≤ v) × (v ≤ hi)) → held_to lo hi v ≡ level
    by true q p r = let z = eqb-true v 0 q in let same : lo ≡ level = cc in omega arith
    by false q p (inl z) = absurd (eqb-false v 0 q z)
    by false q p (inr (low, high)) = let same : v ≡ level = cc in omega arith

pub start_up_agrees : (s : LevelControlState) (e : Event) (level : ℕ)
    → e.kind ≡ kind.StartUp → accepted s e ≡ true → s.settings.range.min ≤ s.settings.range.max
    → InRange s.attributes.start_up_current_level s.settings.range.min s.settings.range.max
    → start_up s.attributes.start_up_current_level s.settings.range.min s.current_level ≡ Some level
    → asks (event_of s e).actions ≡ level ∷ []
unfolding run started_up start_up_level command_tests_of
start_up_agrees s e level k ok order range says =
    ap (λ (o : Outcome). asks o.actions) (runs_as s e kind.StartUp k ok refl) ∙ by s.attributes.start_up_current_level range says
  where
    by : (l : Level) → InRange l s.settings.range.min s.settings.range.max → start_up l s.settings.range.min s.current_level ≡ Some level
        → asks (start_up_at (start_up_or l (accept s e.moment.at)) (accept s e.moment.at)).actions ≡ level ∷ []
    by (Some v) r p = ap (λ (x : ℕ). x ∷ []) (held s.settings.range.min s.settings.range.max v level order r p)
    by None r p = ap (λ (l : Level). asks (start_up_at l (accept s e.moment.at)).actions) p

-- Stop.

pub passed : (s : LevelControlState) (e : Event) (with_on_off : Bool) (mask override : OptionsBitmap) → passes s e with_on_off mask override ≡ true
    → not (continues s with_on_off e.moment.on_off mask override) ≡ false
passed s e with_on_off mask override p = ap not (continues_is s with_on_off e.moment.on_off mask override ∙ p)

pub stop : (s : LevelControlState) (e : Event) (r : CommandOptions)
    → e.kind ≡ kind.Command (command.Stop r) → accepted s e ≡ true → passes s e r.with_on_off r.options_mask r.options_override ≡ true
    → ((event_of s e).state.task ≡ task.Rest) × ((event_of s e).state.remaining_time.0 ≡ 0) × ((event_of s e).state.current_level ≡ s.current_level)
unfolding run stopped write_remaining_time command_tests_of stop_tests
stop s e r k ok p =
    let same = runs_as s e (kind.Command (command.Stop r)) k ok (passed s e r.with_on_off r.options_mask r.options_override p) in
    (ap (λ (o : Outcome). o.state.task) same, ap (λ (o : Outcome). o.state.remaining_time.0) same, command_keeps_level s e (ap is_command k))

-- at rest every answer and every wake is refused
rest_refuses : (s : LevelControlState) (es : List Event) → s.task ≡ task.Rest → only_replies es ≡ true → all_refused s es ≡ true
rest_refuses s [] q w = refl
rest_refuses s (e ∷ es) q w =
    let parts = and_parts (is_reply e.kind) (only_replies es) w in
    let ne : number_of s e ≡ 0 → ⊥ = not_zero e.kind parts.0 in
    rw (event_refused s e ne, ne_eqb (number_of s e) 0 ne) (rest_refuses s es q parts.1)
  where
    not_zero : (k : EventKind) → is_reply k ≡ true → number_of s (event e.moment.at e.moment.on_off k) ≡ 0 → ⊥
    not_zero kind.StartUp w z = false≢true w
    not_zero (kind.Answer a) w z = false≢true (sym (ap task_open q) ∙ is_open s e.moment.at e.moment.on_off a z)
    not_zero kind.Wake w z = false≢true (sym (ap (λ (x : Task). task_due x e.moment.at) q) ∙ is_due s e.moment.at e.moment.on_off z)
    not_zero (kind.Command c) w z = false≢true w

pub stop_at_rest : (s : LevelControlState) (e : Event) (r : CommandOptions) (es : List Event)
    → e.kind ≡ kind.Command (command.Stop r) → accepted s e ≡ true → passes s e r.with_on_off r.options_mask r.options_override ≡ true
    → only_replies es ≡ true
    → AtRest s (event_of s e) × (all_refused (event_of s e).state es ≡ true)
    × ((state_after (event_of s e).state es).current_level ≡ s.current_level) × ((state_after (event_of s e).state es).remaining_time.0 ≡ 0)
unfolding run stopped command_tests_of stop_tests
stop_at_rest s e r es k ok p w =
    let (rests, time, level) = stop s e r k ok p in
    let same = runs_as s e (kind.Command (command.Stop r)) k ok (passed s e r.with_on_off r.options_mask r.options_override p) in
    let refuses : all_refused (event_of s e).state es ≡ true = rest_refuses (event_of s e).state es rests w in
    let stays : state_after (event_of s e).state es ≡ (event_of s e).state = refused_stays (event_of s e).state es refuses in
    let quietly : Silent (event_of s e).actions =
    rw same (silent_if R (write_remaining_time (accept s e.moment.at) (millis 0) false).due (record { no_ask = refl; no_open = λ p. refl })) in (
      record { level = level; rests = rests; asks_nothing = quietly.no_ask; awaits_nothing = quietly.no_open Nothing },
      refuses,
      ap (λ (x : LevelControlState). x.current_level) stays ∙ level,
      ap (λ (x : LevelControlState). x.remaining_time.0) stays ∙ time,
    )

pub stop_not_executed : (s : LevelControlState) (e : Event) (r : CommandOptions)
    → e.kind ≡ kind.Command (command.Stop r) → accepted s e ≡ true → passes s e r.with_on_off r.options_mask r.options_override ≡ false
    → Does s e NotExecuted
unfolding command_tests_of stop_tests
stop_not_executed s e r k ok p =
    unchanged s (event_of s e) e.moment.at
    (stopped_as s e (kind.Command (command.Stop r)) k ok (options_say s e r.with_on_off r.options_mask r.options_override false p))

-- Move.

abbrev asked : MoveStep → List ℕ
asked next.Lost = []
asked next.Ends = []
asked (next.Asks level) = level ∷ []

move_by_asks : (x : MoveStep) (t : Told) (m : Motion) (at : Micros) (on : Bool) → asks (move_by x t m at on).actions ≡ asked x
move_by_asks next.Lost t m at on = asks_after t.reports _
move_by_asks next.Ends t m at on = (silent_reports t.reports).no_ask
move_by_asks (next.Asks level) t m at on =
    let coupled = act_coupled (leaves_min t.state level m.with_on_off on) in
    asks_append (reports_of t.reports ++ coupled) (act D level)
    ∙ ap (λ (l : List ℕ). l ++ (level ∷ []))
    (asks_after t.reports coupled ∙ (silent_coupled (leaves_min t.state level m.with_on_off on)).no_ask)

move_at_asks : (x : Result ℕ Refusal) (s : LevelControlState) (r : MoveRequest) (at : Micros) (on : Bool) → is_invalid x ≡ false
    → asks (move_at x s r at on).actions ≡ asked (next_move s.current_level r.mode)
unfolding move_goes_on
move_at_asks (Ok n) s r at on h = move_by_asks (next_move s.current_level r.mode) (quiet s) _ at on
move_at_asks (Err cause) s r at on h = absurd (true≢false h)

next_up : (lo hi c : ℕ) → c ≤ hi → hi ≤ 254 → (l : List ℕ) → l ≡ asked (next_move (Some c) Up) → cond (eqb c hi) [] l ≡ levels (move_to Up lo hi c)
unfolding next_move
next_up lo hi c high small l e = by (eqb c hi) refl
  where
    by : (b : Bool) → eqb c hi ≡ b → cond b [] l ≡ levels (cond b None (Some (cond b c (c + 1))))
    by true q = refl
    by false q = e ∙ ap (λ (b : Bool). asked (cond b (next.Asks (c + 1)) next.Ends)) (lt-ltb c 255 (omega arith))

next_down : (lo hi c : ℕ) → lo ≤ c → (l : List ℕ) → l ≡ asked (next_move (Some c) Down) → cond (eqb c lo) [] l ≡ levels (move_to Down lo hi c)
unfolding next_move
next_down lo hi c low l e = by (eqb c lo) refl
  where
    by : (b : Bool) → eqb c lo ≡ b → cond b [] l ≡ levels (cond b None (Some (cond b c (c - 1))))
    by true q = refl
    by false q = e ∙ ap (λ (b : Bool). asked (cond b (next.Asks (c - 1)) next.Ends)) (lt-ltb 0 c (let ne = eqb-false c lo q in omega arith))

pub move_asks : (s : LevelControlState) (e : Event) (r : MoveRequest) (c : ℕ)
    → e.kind ≡ kind.Command (command.Move r) → accepted s e ≡ true → passes s e r.options.with_on_off r.options.options_mask r.options.options_override ≡ true
    → s.current_level ≡ Some c → s.settings.range.min ≤ c → c ≤ s.settings.range.max → s.settings.range.max ≤ 254
    → asks (event_of s e).actions ≡ levels (move_to r.mode s.settings.range.min s.settings.range.max c)
unfolding run begin_move command_tests_of move_tests number_of at_limit rate_by
move_asks s e r c k ok p level low high small =
    ap (λ (o : Outcome). asks o.actions) (runs_as s e (kind.Command (command.Move r)) k ok free)
    ∙ split (at_limit s.current_level r.mode lo hi)
    ∙ ap (λ (l : Level). cond (at_limit l r.mode lo hi) [] (asks (move_at (rate_by s' r) s' r at on).actions)) level
    ∙ by r.mode (move_at_asks (rate_by s' r) s' r at on valid ∙ ap (λ (l : Level). asked (next_move l r.mode)) level)
  where
    at : Micros
    at = e.moment.at

    on : Bool
    on = e.moment.on_off

    s' : LevelControlState
    s' = accept s e.moment.at

    lo : ℕ
    lo = s.settings.range.min

    hi : ℕ
    hi = s.settings.range.max

    free : not (continues s r.options.with_on_off e.moment.on_off r.options.options_mask r.options.options_override) ≡ false
    free = passed s e r.options.with_on_off r.options.options_mask r.options.options_override p

    zero : number_of s (event e.moment.at e.moment.on_off (kind.Command (command.Move r))) ≡ 0
    zero = zero_as s e (kind.Command (command.Move r)) k ok

    valid : is_invalid (rate_by s r) ≡ false
    valid = (command_passes _ _ zero free).valid

    split : (b : Bool) → asks (cond b (done s' []) (move_at (rate_by s' r) s' r at on)).actions ≡ cond b [] (asks (move_at (rate_by s' r) s' r at on).actions)
    split true = refl
    split false = refl

    by : (m : Mode) → asks (move_at (rate_by s' r) s' r at on).actions ≡ asked (next_move (Some c) m)
        → cond (at_limit (Some c) m lo hi) [] (asks (move_at (rate_by s' r) s' r at on).actions) ≡ levels (move_to m lo hi c)
    by Up h = next_up lo hi c high small _ h
    by Down h = next_down lo hi c low _ h

pub move_at_limit : (s : LevelControlState) (e : Event) (r : MoveRequest) (c : ℕ)
    → e.kind ≡ kind.Command (command.Move r) → accepted s e ≡ true → passes s e r.options.with_on_off r.options.options_mask r.options.options_override ≡ true
    → s.current_level ≡ Some c → move_to r.mode s.settings.range.min s.settings.range.max c ≡ None
    → Unchanged s (event_of s e)
unfolding run begin_move command_tests_of move_tests at_limit
move_at_limit s e r c k ok p level at_end =
    unchanged s (event_of s e) e.moment.at
    (runs_as s e (kind.Command (command.Move r)) k ok (passed s e r.options.with_on_off r.options.options_mask r.options.options_override p)
    ∙ ap (λ (l : Level). cond (at_limit l r.mode lo hi) (done s' []) further) level
    ∙ ap (λ (b : Bool). cond b (done s' []) further) (by r.mode at_end))
  where
    s' : LevelControlState
    s' = accept s e.moment.at

    further : Outcome
    further = move_at (rate_by s' r) s' r e.moment.at e.moment.on_off

    lo : ℕ
    lo = s.settings.range.min

    hi : ℕ
    hi = s.settings.range.max

    limit : (b : Bool) (to : ℕ) → cond b None (Some to) ≡ None → b ≡ true
    limit true to q = refl
    limit false to q = absurd (let z : ◌≡◌ {A = ℕ} 0 1 = cc in omega arith)

    by : (m : Mode) → move_to m lo hi c ≡ None → at_limit (Some c) m lo hi ≡ true
    by Up q = limit (eqb c hi) _ q
    by Down q = limit (eqb c lo) _ q

pub move_not_executed : (s : LevelControlState) (e : Event) (r : MoveRequest)
    → e.kind ≡ kind.Command (command.Move r) → accepted s e ≡ true → passes s e r.options.with_on_off r.options.options_mask r.options.options_override ≡ false
    → Does s e NotExecuted
unfolding command_tests_of move_tests
move_not_executed s e r k ok p =
    unchanged s (event_of s e) e.moment.at
    (stopped_as s e (kind.Command (command.Move r)) k ok
    (options_say s e r.options.with_on_off r.options.options_mask r.options.options_override false p))
