-- The Matter document's commands, to their end. Assumes nothing.
use Rattle.std.specs.Prelude.{Some, None, Result, Ok, Err, ℕ}
use Prim.Native.Nat.{ℕ, zero, suc, ◌+◌, ◌-◌, ◌*◌, ◌≤◌}
use mathlib.Core.Bool.{Bool, true, false, cond, not, true≢false, and-false}
use mathlib.Core.Path.{◌≡◌, refl, sym, ap, subst, ◌∙◌}
use mathlib.Core.List.{List, [], ◌∷◌}
use native.Mathlib.Omega.{arith}
use borrow.Author.Tests.{eqb-false, eq-eqb, ne_eqb, ltb-false}
use lib.Dec.{eqb, ltb}
use lib.ListN.{length}
use Rattle.units.specs.Numbers.{apart}
use Rattle.units.specs.Units.{tenths as of_tenths, tenths_down}
use Rattle.units.specs.declared.Micros.{Micros}
use Rattle.units.specs.declared.Tenths.{Tenths}
use Rattle.transitions.specs.Commands.{is_invalid}
use Rattle.transitions.specs.Events.{event}
use Rattle.transitions.specs.MovePeriod.{move_period}
use Rattle.transitions.specs.Tasks.{kept_to_put_back, level_to_put_back, at_limit}
use Rattle.transitions.specs.Types.{Level, Time, time_or}
use Rattle.transitions.specs.declared.causes.Refusal.{Refusal}
use Rattle.transitions.specs.declared.events.Command.TheVariants as command
use Rattle.transitions.specs.declared.events.Event.{Event}
use Rattle.transitions.specs.declared.events.EventKind.{EventKind}
use Rattle.transitions.specs.declared.events.EventKind.TheVariants as kind
use Rattle.transitions.specs.declared.events.MoveRequest.{MoveRequest}
use Rattle.transitions.specs.declared.events.MoveToLevelRequest.{MoveToLevelRequest}
use Rattle.transitions.specs.declared.events.SceneRequest.{SceneRequest}
use Rattle.transitions.specs.declared.events.StepRequest.{StepRequest}
use Rattle.transitions.specs.declared.tasks.FadeRequest.{FadeRequest}
use Rattle.transitions.specs.declared.types.Mode.{Mode}
use Rattle.transitions.specs.declared.types.Mode.TheVariants.{Up, Down}
use Rattle.level_control.specs.Answer.{Outcome, done}
use Rattle.level_control.specs.Judge.{latest, move_to_level_tests, move_tests, step_tests, step_overflows, overflows_from, scene_tests_at, scene_tests, command_tests_of}
use Rattle.level_control.specs.Handle.{run, number_of, event_of}
use Rattle.level_control.specs.Moves.{rate_by, move_at, begin_move}
use Rattle.level_control.specs.Path.{path}
use Rattle.level_control.specs.Reactions.{off_time, turned_off, switched}
use Rattle.level_control.specs.Reports.{Told}
use Rattle.level_control.specs.Judge.{continues}
use Rattle.level_control.specs.Run.{accepted, started}
use Rattle.level_control.specs.Starts.{target, step_in}
use Rattle.level_control.specs.State.{accept}
use Rattle.level_control.specs.Targets.{quiet, request_to, go_to, moved_to_level, stepped_level, stepped_time, stepped_by, stepped_from, stepped, recalled_at, recalled}
use Rattle.level_control.specs.declared.state.LevelControlState.{LevelControlState}
use Rattle.level_control.proofs.EventLaws.{command_passes}
use Rattle.level_control.proofs.EveryFade.{accepted_zero}
use Rattle.level_control.proofs.PathLaws.{path_end}
use Rattle.level_control.proofs.StartLaws.{target_is, given_is, step_is, takes, on_is}
use Rattle.level_theorems.specs.Replies.{Reply, answers_from, in_time, delays}
use Rattle.matter.specs.Matter.{Effect, Invalid, NoEffect, Goes, goes, within, or_else, move_to_level, step_to, reduced, step, after_on, off, after_off}
use Rattle.matter.specs.Agreement.{IsLevel, passes}
use Rattle.matter.specs.Ends.{OneByOne, limit, way, way_of, level_reached, MovesFrom, CommandsEnd}
use Rattle.matter.proofs.Changes.{within_is, in_range, given_same, reduced_is, step_same, step_inside}
use Rattle.matter.proofs.CommandRules.{runs_as, passed}
use Rattle.matter.proofs.EchoInvariant.{path_rises, path_falls, left_at, Short, After, move_follows, go_to_holds}
use Rattle.matter.proofs.EchoProgress.{completes}
use Rattle.matter.proofs.MoveTimes.{at_most_a_second, Timed, Comes, goes_on_comes, all_in_time}

-- What the document says of a change.

no_change : {A : Type 0} (from to tenths : ℕ) → NoEffect ≡ Goes from to tenths → A
no_change from to tenths e = absurd (let z : ◌≡◌ {A = ℕ} 0 1 = cc in omega arith)

not_invalid : {A : Type 0} (from to tenths : ℕ) → Invalid ≡ Goes from to tenths → A
not_invalid from to tenths e = absurd (let z : ◌≡◌ {A = ℕ} 0 1 = cc in omega arith)

-- it leads to another level
leads_to : (c t T from to tenths : ℕ) → goes c t T ≡ Goes from to tenths → (t ≡ to) × (c ≡ t → ⊥)
leads_to c t T from to tenths e = by (eqb c t) refl e
  where
    by : (b : Bool) → eqb c t ≡ b → cond b NoEffect (Goes c t T) ≡ Goes from to tenths → (t ≡ to) × (c ≡ t → ⊥)
    by true q e = no_change from to tenths e
    by false q e = (cc, eqb-false c t q)

-- and past the Options processing, where it is not INVALID_COMMAND
lets_pass : (bad executed : Bool) (x none : Effect) (from to tenths : ℕ) → cond bad Invalid (cond executed x none) ≡ Goes from to tenths
    → (none ≡ Goes from to tenths → ⊥) → (bad ≡ false) × (executed ≡ true) × (x ≡ Goes from to tenths)
lets_pass true executed x none from to tenths e other = not_invalid from to tenths e
lets_pass false true x none from to tenths e other = (refl, refl, e)
lets_pass false false x none from to tenths e other = absurd (other e)

-- the fade that the machine starts where the document says that the level goes on
go_to_starts : (o : Outcome) (told : Told) (r : FadeRequest) (at : Micros) (on : Bool) (c from to tenths last : ℕ) → o ≡ go_to told r at on
    → told.state.current_level ≡ Some c → goes c r.target r.transition_time.0 ≡ Goes from to tenths
    → left_at (level_to_put_back (kept_to_put_back r.puts_back c) told.state.attributes.on_level) r.target ≡ last → After (way from to tenths) last [] 0 o
go_to_starts o told r at on c from to tenths last same level says ends =
    subst (λ (x : Outcome). After (way from to tenths) last [] 0 x) (sym same)
    (go_to_holds (way from to tenths) last told r at on [] 0 c level ends (ap way_of says)
    (λ here. absurd ((leads_to c r.target r.transition_time.0 from to tenths says).1 here)) refl)

-- Move to a level, step, scene, off.

move_to_level_starts : (s : LevelControlState) (e : Event) (r : MoveToLevelRequest) (c : ℕ) (T : Tenths) (from to tenths : ℕ)
    → e.kind ≡ kind.Command (command.MoveToLevel r) → accepted s e ≡ true → s.current_level ≡ Some c → s.settings.range.min ≤ s.settings.range.max
    → r.transition_time ≡ Some T
    → move_to_level (passes s e r.options.with_on_off r.options.options_mask r.options.options_override) s.settings.range.min s.settings.range.max c r.level
    r.transition_time s.attributes.on_off_transition_time.0 ≡ Goes from to tenths
    → After (way from to tenths) to [] 0 (event_of s e)
unfolding run moved_to_level command_tests_of move_to_level_tests level_to_put_back time_or
move_to_level_starts s e r c T from to tenths k ok level order given says =
    go_to_starts (event_of s e) (quiet (accept s e.moment.at)) request e.moment.at e.moment.on_off c from to tenths to
    (runs_as s e (kind.Command (command.MoveToLevel r)) k ok free) level named (leads_to c request.target request.transition_time.0 from to tenths named).0
  where
    parts : (ltb 254 r.level ≡ false)
        × (passes s e r.options.with_on_off r.options.options_mask r.options.options_override ≡ true)
        × (goes c (within s.settings.range.min s.settings.range.max r.level) (or_else r.transition_time s.attributes.on_off_transition_time.0) ≡ Goes from to tenths)
    parts = lets_pass _ _ _ _ from to tenths says (λ e. let z : ◌≡◌ {A = ℕ} 0 1 = cc in omega arith)

    request : FadeRequest
    request = request_to (accept s e.moment.at) r.level (time_or r.transition_time (of_tenths 0)) r.options.with_on_off false false

    free : (command_tests_of s e.moment.on_off (kind.Command (command.MoveToLevel r))).stopped_by_options ≡ false
    free = rw (passed s e r.options.with_on_off r.options.options_mask r.options.options_override parts.1) (and-false _)

    time : request.transition_time.0 ≡ or_else r.transition_time s.attributes.on_off_transition_time.0
    time =
        ap (λ (t : Time). (time_or t (of_tenths 0)).0) given ∙ sym (ap (λ (t : Time). or_else t s.attributes.on_off_transition_time.0) given)

    named : goes c request.target request.transition_time.0 ≡ Goes from to tenths
    named = rw (target_is s r.level ∙ within_is s r.level order (ltb-false 254 r.level parts.0), time) parts.2

step_starts : (s : LevelControlState) (e : Event) (r : StepRequest) (c from to tenths : ℕ)
    → e.kind ≡ kind.Command (command.Step r) → accepted s e ≡ true → s.current_level ≡ Some c → s.settings.range.min ≤ c → c ≤ s.settings.range.max
    → s.settings.range.max ≤ 254
    → step (passes s e r.options.with_on_off r.options.options_mask r.options.options_override) r.mode s.settings.range.min s.settings.range.max c
    r.step_size r.transition_time ≡ Goes from to tenths
    → After (way from to tenths) to [] 0 (event_of s e)
unfolding run stepped command_tests_of step_tests number_of step_overflows stepped_time stepped_level level_to_put_back
step_starts s e r c from to tenths k ok level low high small says =
    go_to_starts (event_of s e) (quiet s') request at on c from to tenths to
    (runs_as s e (kind.Command (command.Step r)) k ok free
    ∙ ap (λ (l : Level). stepped_from l s' r at on) level
    ∙ ap (λ (x : Result Tenths Refusal). stepped_by x s' c r at on) took.1)
    level named (leads_to c request.target request.transition_time.0 from to tenths named).0
  where
    s' : LevelControlState
    s' = accept s e.moment.at

    at : Micros
    at = e.moment.at

    on : Bool
    on = e.moment.on_off

    there : ℕ
    there = step_to r.mode s.settings.range.min s.settings.range.max c r.step_size

    parts : (eqb r.step_size 0 ≡ false)
        × (passes s e r.options.with_on_off r.options.options_mask r.options.options_override ≡ true)
        × (goes c there (reduced r.transition_time (apart there c) r.step_size) ≡ Goes from to tenths)
    parts = lets_pass _ _ _ _ from to tenths says (λ e. let z : ◌≡◌ {A = ℕ} 0 1 = cc in omega arith)

    free : not (continues s r.options.with_on_off on r.options.options_mask r.options.options_override) ≡ false
    free = passed s e r.options.with_on_off r.options.options_mask r.options.options_override parts.1

    fits : overflows_from (Some c) s r ≡ false
    fits =
        ap (λ (l : Level). overflows_from l s r) (sym level)
        ∙ (command_passes _ _
        (accepted_zero s (event at on (kind.Command (command.Step r))) (subst (λ (x : EventKind). accepted s (event at on x) ≡ true) k ok)) free).fits

    took : (x : Tenths) × (stepped_time s c r ≡ Ok x) × (x.0 ≡ step_in r.transition_time (apart (stepped_level s c r) c) r.step_size)
    took = takes r.transition_time (apart (stepped_level s c r) c) r.step_size fits

    request : FadeRequest
    request = request_to s' (stepped_level s c r) took.0 r.options.with_on_off false false

    same : stepped_level s c r ≡ there
    same = step_is s c r ∙ step_same s r c low high small

    target_there : request.target ≡ there
    target_there =
        target_is s (stepped_level s c r) ∙ ap (target s) (step_is s c r) ∙ step_inside s r.mode c r.step_size low high small ∙ step_same s r c low high small

    time : request.transition_time.0 ≡ reduced r.transition_time (apart there c) r.step_size
    time =
        took.2
        ∙ ap (λ (x : ℕ). step_in r.transition_time (apart x c) r.step_size) same
        ∙ reduced_is r.transition_time (apart there c) r.step_size (let z = eqb-false r.step_size 0 parts.0 in omega arith)

    named : goes c request.target request.transition_time.0 ≡ Goes from to tenths
    named = rw (target_there, time) parts.2

scene_starts : (s : LevelControlState) (e : Event) (r : SceneRequest) (c level from to tenths : ℕ)
    → e.kind ≡ kind.Command (command.Scene r) → accepted s e ≡ true → passes s e false (record { 0 = 0 }) (record { 0 = 0 }) ≡ true
    → s.current_level ≡ Some c → s.settings.range.min ≤ s.settings.range.max → r.level ≡ Some level → level ≤ 254
    → goes c (within s.settings.range.min s.settings.range.max level) (tenths_down r.transition_time).0 ≡ Goes from to tenths
    → After (way from to tenths) to [] 0 (event_of s e)
unfolding run recalled command_tests_of scene_tests level_to_put_back
scene_starts s e r c level from to tenths k ok p known order given small says =
    go_to_starts (event_of s e) (quiet (accept s e.moment.at)) request e.moment.at e.moment.on_off c from to tenths to
    (runs_as s e (kind.Command (command.Scene r)) k ok free
    ∙ ap (λ (l : Level). recalled_at l (accept s e.moment.at) r e.moment.at e.moment.on_off) given)
    known named (leads_to c request.target request.transition_time.0 from to tenths named).0
  where
    request : FadeRequest
    request = request_to (accept s e.moment.at) level (tenths_down r.transition_time) false true false

    free : (command_tests_of s e.moment.on_off (kind.Command (command.Scene r))).stopped_by_options ≡ false
    free =
        ap (λ (l : Level). (scene_tests_at l s e.moment.on_off).stopped_by_options) given
        ∙ rw (passed s e false (record { 0 = 0 }) (record { 0 = 0 }) p) (and-false _)

    named : goes c request.target request.transition_time.0 ≡ Goes from to tenths
    named = rw (target_is s level ∙ within_is s level order small) says

off_starts : (s : LevelControlState) (e : Event) (c from to tenths : ℕ)
    → e.kind ≡ kind.Command (command.OnOffChanged false) → accepted s e ≡ true → s.current_level ≡ Some c
    → s.settings.range.min ≤ s.settings.range.max → s.settings.range.max ≤ 254
    → off c s.settings.range.min s.attributes.off_transition_time s.attributes.on_off_transition_time.0 ≡ Goes from to tenths
    → After (way from to tenths) (after_off s.attributes.on_level c to) [] 0 (event_of s e)
unfolding run switched turned_off off_time command_tests_of level_to_put_back
off_starts s e c from to tenths k ok level order small says =
    go_to_starts (event_of s e) (quiet s') request at on c from to tenths (after_off s.attributes.on_level c to)
    (runs_as s e (kind.Command (command.OnOffChanged false)) k ok refl) level named (ends s.attributes.on_level)
  where
    s' : LevelControlState
    s' = accept s e.moment.at

    at : Micros
    at = e.moment.at

    on : Bool
    on = e.moment.on_off

    request : FadeRequest
    request = request_to s' s.settings.range.min (off_time s') true false true

    minimum : request.target ≡ s.settings.range.min
    minimum = target_is s s.settings.range.min ∙ in_range s s.settings.range.min (omega arith) order small

    time : request.transition_time.0 ≡ or_else s.attributes.off_transition_time s.attributes.on_off_transition_time.0
    time =
        given_is s.attributes.off_transition_time s.attributes.on_off_transition_time
        ∙ given_same s.attributes.off_transition_time s.attributes.on_off_transition_time.0

    named : goes c request.target request.transition_time.0 ≡ Goes from to tenths
    named = rw (minimum, time) says

    ends : (l : Level) → left_at (level_to_put_back (Some c) l) request.target ≡ after_off l c to
    ends (Some level) = (leads_to c request.target request.transition_time.0 from to tenths named).0
    ends None = refl

-- On.

on_begins : (s : LevelControlState) (e : Event) → e.kind ≡ kind.Command (command.OnOffChanged true) → accepted s e ≡ true
    → s.settings.range.min ≤ s.settings.range.max → IsLevel s.attributes.on_level → IsLevel s.current_level → (then : Effect)
    → after_on s.attributes.on_level s.current_level s.settings.range.min s.settings.range.max s.attributes.on_transition_time
    s.attributes.on_off_transition_time.0 ≡ then
    → After (s.settings.range.min ∷ way_of then) (level_reached then s.settings.range.min) [] 0 (event_of s e)
on_begins s e k ok order level_on level then says =
    subst (λ (x : Outcome). After (s.settings.range.min ∷ way_of then) (level_reached then s.settings.range.min) [] 0 x)
    (sym
    (ap (λ (x : EventKind). event_of s (event e.moment.at e.moment.on_off x)) k
    ∙ on_is s e.moment.at e.moment.on_off
    (accepted_zero s (event e.moment.at e.moment.on_off (kind.Command (command.OnOffChanged true)))
    (subst (λ (x : EventKind). accepted s (event e.moment.at e.moment.on_off x) ≡ true) k ok))))
    (record {
      way_is = ap (λ (x : Effect). s.settings.range.min ∷ way_of x) says;
      ends = ap (λ (x : Effect). level_reached x s.settings.range.min) says;
      order = order;
      level_on = level_on;
      level_before = level;
      first = refl;
      count = refl;
      seen = refl;
    })

-- Move.

leads_up : (k min max c : ℕ) → c + k ≡ max → OneByOne Up min max c (path c max)
leads_up zero min max c e =
    let here : c ≡ max = omega arith in
    subst (λ (l : List ℕ). OneByOne Up min max c l) (sym (ap (λ (x : ℕ). path x max) here ∙ path_end max)) (rw (eq-eqb c max here) refl)
leads_up (suc k) min max c e =
    subst (λ (l : List ℕ). OneByOne Up min max c l) (sym (path_rises c max (omega arith)))
    (rw (ne_eqb c max (λ z. omega arith)) refl, leads_up k min max (c + 1) (omega arith))

leads_down : (k min max c : ℕ) → min + k ≡ c → OneByOne Down min max c (path c min)
leads_down zero min max c e =
    let here : c ≡ min = omega arith in
    subst (λ (l : List ℕ). OneByOne Down min max c l) (sym (ap (λ (x : ℕ). path x min) here ∙ path_end min)) (rw (eq-eqb c min here) refl)
leads_down (suc k) min max c e =
    subst (λ (l : List ℕ). OneByOne Down min max c l) (sym (path_falls c min (omega arith)))
    (rw (ne_eqb c min (λ z. omega arith)) refl, leads_down k min max (c - 1) (omega arith))

move_leads : (mode : Mode) (min max c : ℕ) → min ≤ c → c ≤ max → OneByOne mode min max c (path c (limit mode min max))
move_leads Up min max c low high = leads_up (max - c) min max c (omega arith)
move_leads Down min max c low high = leads_down (c - min) min max c (omega arith)

module _ (s : LevelControlState) (e : Event) (r : MoveRequest) (c : ℕ) where
  abbrev to : ℕ
  to = limit r.mode s.settings.range.min s.settings.range.max

  -- it goes on from the level, at the rate in force
  move_is : MovesFrom s e r c → (rate : ℕ) × (event_of s e ≡ move_at (Ok rate) (accept s e.moment.at) r e.moment.at e.moment.on_off)
  unfolding run begin_move command_tests_of move_tests number_of at_limit rate_by
  move_is h = (found.0, begins ∙ found.1)
    where
      s' : LevelControlState
      s' = accept s e.moment.at

      at : Micros
      at = e.moment.at

      on : Bool
      on = e.moment.on_off

      free : not (continues s r.options.with_on_off on r.options.options_mask r.options.options_override) ≡ false
      free = passed s e r.options.with_on_off r.options.options_mask r.options.options_override h.is_executed

      valid : is_invalid (rate_by s r) ≡ false
      valid =
          (command_passes _ _
          (accepted_zero s (event at on (kind.Command (command.Move r)))
          (subst (λ (x : EventKind). accepted s (event at on x) ≡ true) h.is_move h.is_accepted))
          free).valid

      before : (m : Mode) → (c ≡ limit m s.settings.range.min s.settings.range.max → ⊥) → at_limit (Some c) m s.settings.range.min s.settings.range.max ≡ false
      before Up ne = ne_eqb c s.settings.range.max ne
      before Down ne = ne_eqb c s.settings.range.min ne

      begins : event_of s e ≡ move_at (rate_by s' r) s' r at on
      begins =
          runs_as s e (kind.Command (command.Move r)) h.is_move h.is_accepted free
          ∙ ap (λ (b : Bool). cond b (done s' []) (move_at (rate_by s' r) s' r at on))
          (ap (λ (l : Level). at_limit l r.mode s.settings.range.min s.settings.range.max) h.level ∙ before r.mode h.short)

      by : (x : Result ℕ Refusal) → rate_by s' r ≡ x → is_invalid x ≡ false
          → (rate : ℕ) × (move_at (rate_by s' r) s' r at on ≡ move_at (Ok rate) s' r at on)
      by (Ok rate) q v = (rate, ap (λ (x : Result ℕ Refusal). move_at x s' r at on) q)
      by (Err cause) q v = absurd (true≢false v)

      found : (rate : ℕ) × (move_at (rate_by s' r) s' r at on ≡ move_at (Ok rate) s' r at on)
      found = by (rate_by s' r) refl valid

  move_starts : MovesFrom s e r c → After (path c to) to [] 0 (event_of s e)
  move_starts h =
      let begun = move_is h in
      subst (λ (o : Outcome). After (path c to) to [] 0 o) (sym begun.1)
      (move_follows (path c to) to (quiet (accept s e.moment.at))
      (record { with_on_off = r.options.with_on_off; mode = r.mode; period = move_period begun.0 }) e.moment.at e.moment.on_off [] 0 c h.level
      (short r.mode h.short) refl refl h.small refl)
    where
      short : (m : Mode) → (c ≡ limit m s.settings.range.min s.settings.range.max → ⊥) → Short m s.settings.range.min s.settings.range.max c
      short Up ne = let high = h.high in (h.low, omega arith)
      short Down ne = let low = h.low in (omega arith, h.high)

  move_in_time : (ps : List Reply) → MovesFrom s e r c → e.moment.at.0 + delays ps + 1000000 * length ps ≤ latest.0
      → in_time (answers_from (started (event_of s e)) ps) ≡ true
  move_in_time ps h room =
      let begun = move_is h in
      let comes : Comes e.moment.at (event_of s e).state =
      subst (λ (o : Outcome). Comes e.moment.at o.state) (sym begun.1)
      (goes_on_comes (quiet (accept s e.moment.at))
      (record { with_on_off = r.options.with_on_off; mode = r.mode; period = move_period begun.0 }) e.moment.at e.moment.on_off
      (at_most_a_second begun.0) refl) in
      let clock : (event_of s e).state.last_accepted.0 ≡ e.moment.at.0 = ap (λ (x : Micros). x.0) comes.0 in
      all_in_time ps (started (event_of s e)) (subst (λ (x : ℕ). Timed (event_of s e).state.task x) (sym clock) comes.1) (omega arith)

pub commands_end : CommandsEnd
commands_end = record {
  move_leads = move_leads;
  move_ends = λ s e r c h. completes (path c (to s e r c)) (to s e r c) (event_of s e) (move_starts s e r c h);
  move_in_time = λ s e r c ps h room. move_in_time s e r c ps h room;
  move_to_level_ends = λ s e r c T from to tenths k ok level order given says.
      completes (way from to tenths) to (event_of s e) (move_to_level_starts s e r c T from to tenths k ok level order given says);
  step_ends = λ s e r c from to tenths k ok level low high small says.
      completes (way from to tenths) to (event_of s e) (step_starts s e r c from to tenths k ok level low high small says);
  scene_ends = λ s e r c level from to tenths k ok p known order given small says.
      completes (way from to tenths) to (event_of s e) (scene_starts s e r c level from to tenths k ok p known order given small says);
  off_goes = λ s e c from to tenths k ok level order small says.
      completes (way from to tenths) (after_off s.attributes.on_level c to) (event_of s e)
      (off_starts s e c from to tenths k ok level order small says);
  on_ends = λ s e then k ok order level_on level says.
      completes (s.settings.range.min ∷ way_of then) (level_reached then s.settings.range.min) (event_of s e)
      (on_begins s e k ok order level_on level then says);
}
