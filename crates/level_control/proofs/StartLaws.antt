-- Where `start_of` and `on_start` name a fade, the machine starts it. Assumes nothing.
use Rattle.std.specs.Prelude.{Some, None, Result, Ok}
use Prim.Native.Nat.{ℕ, ◌+◌, ◌-◌, ◌*◌, ◌/◌, min, max}
use mathlib.Core.Bool.{Bool, true, false, cond, not, ◌&&◌, ◌||◌, true≢false, false≢true, and-false}
use mathlib.Core.Path.{◌≡◌, refl, sym, ap, ◌∙◌}
use mathlib.Core.List.{List, [], ◌∷◌, ◌++◌}
use mathlib.Core.Logic.{◌⊎◌, inl, inr}
use native.Mathlib.Omega.{arith}
use borrow.Author.Tests.{eqb-false, eq-eqb, ne_eqb, leb-true, lt-leb, not-true}
use lib.Dec.{eqb, leb, ltb}
use Rattle.std.proofs.lemmas.Bool.{and_parts}
use Rattle.units.specs.Numbers.{apart}
use Rattle.units.specs.Units.{tenths, tenths_down, scaled_floor}
use Rattle.units.specs.declared.Micros.{Micros}
use Rattle.units.specs.declared.Tenths.{Tenths}
use Rattle.transitions.specs.Commands.{target_level, step_level, step_time, is_overflow, consults_options}
use Rattle.transitions.specs.Actions.{act}
use Rattle.transitions.specs.Events.{event}
use Rattle.transitions.specs.Tasks.{begin_fade, fade_from}
use Rattle.transitions.specs.Types.{level_or, time_or}
use Rattle.transitions.specs.declared.actions.ActionKind.TheVariants.{D}
use Rattle.transitions.specs.declared.events.DeviceAnswer.TheVariants as device
use Rattle.transitions.specs.declared.events.Event.{Event}
use Rattle.transitions.specs.declared.events.EventKind.{EventKind}
use Rattle.transitions.specs.declared.events.EventKind.TheVariants as kind
use Rattle.transitions.specs.declared.events.MoveToLevelRequest.{MoveToLevelRequest}
use Rattle.transitions.specs.declared.events.SceneRequest.{SceneRequest}
use Rattle.transitions.specs.declared.events.StepRequest.{StepRequest}
use Rattle.transitions.specs.declared.tasks.FadeRequest.{FadeRequest}
use Rattle.transitions.specs.declared.tasks.OnReaction.{OnReaction}
use Rattle.transitions.specs.declared.tasks.Begin.TheVariants as begin
use Rattle.transitions.specs.declared.tasks.Task.{Task}
use Rattle.transitions.specs.declared.tasks.Task.TheVariants as task
use Rattle.transitions.specs.Types.{Level}
use Rattle.transitions.specs.declared.types.Mode.{Mode}
use Rattle.transitions.specs.declared.types.Mode.TheVariants.{Up, Down}
use Rattle.transitions.specs.declared.types.OptionsBitmap.{OptionsBitmap}
use Rattle.transitions.specs.Types.{Time}
use Rattle.transitions.proofs.MatterLaws.{matter_agrees}
use Rattle.level_control.specs.State.{accept, with_task}
use Rattle.transitions.specs.Actions.{reports_of}
use Rattle.level_control.specs.Answer.{Outcome, done}
use Rattle.level_control.specs.Judge.{continues}
use Rattle.level_control.specs.Reports.{set_level, told_level}
use Rattle.level_control.specs.Targets.{quiet, request_to, go_to_by, go_to, moved_to_level, stepped_level, stepped_time, stepped_by, stepped_from, stepped, recalled_at, recalled}
use Rattle.level_control.specs.Reactions.{off_time, on_time, turned_on, turned_off, switched, on_to, on_goes_on, on_answered}
use Rattle.level_control.specs.Judge.{move_to_level_tests, step_tests, overflows_from, step_overflows, scene_tests_at, scene_tests, command_tests_of}
use Rattle.level_control.specs.Handle.{answered_in, answered, run, number_of, event_of}
use Rattle.level_control.specs.Run.{accepted, all_refused, state_after}
use Rattle.level_control.specs.Starts.{Start, NoFade, Fades, start_from, target, passes, when, given_or, step_to, distance, step_in, step_start, scene_start, start_of, on_start_at}
use Rattle.level_control.specs.Reports.{Told}
use Rattle.level_control.specs.declared.state.LevelControlState.{LevelControlState}
use Rattle.level_control.proofs.EventLaws.{event_refused, event_runs, event_number, command_passes}
use Rattle.transitions.specs.declared.causes.Refusal.{Refusal}
use Rattle.transitions.specs.declared.events.Command.TheVariants as command

-- Taking a named fade apart.

pub no_fade : {A : Type 0} (c t T : ℕ) → NoFade ≡ Fades c t T → A
no_fade c t T e = absurd (let z : ◌≡◌ {A = ℕ} 0 1 = cc in omega arith)

pub when_fades : (b : Bool) (x : Start) (c t T : ℕ) → when b x ≡ Fades c t T → (b ≡ true) × (x ≡ Fades c t T)
when_fades true x c t T e = (refl, e)
when_fades false x c t T e = no_fade c t T e

pub record From (l : Level) (to within : ℕ) (c t T : ℕ) : Type 0 where
  pub level : l ≡ Some c
  pub target : to ≡ t
  pub time : within ≡ T
  pub apart : c ≡ to → ⊥

pub from_fades : (l : Level) (to within c t T : ℕ) → start_from l to within ≡ Fades c t T → From l to within c t T
from_fades (Some from) to within c t T e = go (eqb from to) refl
  where
    go : (b : Bool) → eqb from to ≡ b → From (Some from) to within c t T
    go true q = no_fade c t T (rw q at e)
    go false q =
        let same : Fades from to within ≡ Fades c t T = rw q at e in
        let first : from ≡ c = cc in
        record { level = ap Some first; target = cc; time = cc; apart = λ z. eqb-false from to q (first ∙ z) }
from_fades None to within c t T e = no_fade c t T e

up : (c size lo hi : ℕ) → step_level Up c size lo hi ≡ min hi (min 255 (c + size))
unfolding step_level
up c size lo hi = omega arith

down : (c size lo hi : ℕ) → step_level Down c size lo hi ≡ max lo (c - size)
unfolding step_level
down c size lo hi = omega arith

-- What the two ways of writing a target, a time and the options have in common.

pub target_is : (s : LevelControlState) (level : ℕ) → target_level level s.settings.range.min s.settings.range.max ≡ target s level
unfolding target_level
target_is s level = refl

pub given_is : (x : Time) (other : Tenths) → (time_or x other).0 ≡ given_or x other.0
unfolding time_or
given_is (Some t) other = refl
given_is None other = refl

pub continues_is : (s : LevelControlState) (with_on_off on : Bool) (mask override : OptionsBitmap)
    → continues s with_on_off on mask override ≡ passes s with_on_off on mask override
unfolding continues
continues_is s with_on_off on mask override =
    matter_agrees.options with_on_off s.settings.coupled on s.attributes.options mask override

-- 255 is above 254: the options are not looked at, or let it pass
options_pass : (level : ℕ) (x : Bool) → (leb 255 level || x) ≡ true → (consults_options level && not x) ≡ false
options_pass level x e = go (leb 255 level) refl x e
  where
    go : (b : Bool) → leb 255 level ≡ b → (x : Bool) → (leb 255 level || x) ≡ true → (consults_options level && not x) ≡ false
    go true q x e = rw (lt-leb level 254 (leb-true 255 level q)) refl
    go false q true e = and-false (leb level 254)
    go false q false e = absurd (false≢true (rw q at e))

-- a step's level and its time, the time where it is not refused

pub step_is : (s : LevelControlState) (c : ℕ) (r : StepRequest) → stepped_level s c r ≡ step_to r.mode s c r.step_size
unfolding stepped_level
step_is s c r = by r.mode
  where
    by : (m : Mode) → step_level m c r.step_size s.settings.range.min s.settings.range.max ≡ step_to m s c r.step_size
    by Up = up c r.step_size s.settings.range.min s.settings.range.max
    by Down = down c r.step_size s.settings.range.min s.settings.range.max

pub takes : (given : Time) (actual size : ℕ) → is_overflow (step_time given actual size) ≡ false
    → (x : Tenths) × (step_time given actual size ≡ Ok x) × (x.0 ≡ step_in given actual size)
unfolding step_time scaled_floor
takes None actual size h = (tenths 0, refl, refl)
takes (Some t) actual size h = go (eqb actual size) refl (ltb 65535 (t.0 * actual)) refl
  where
    go : (b : Bool) → eqb actual size ≡ b → (l : Bool) → ltb 65535 (t.0 * actual) ≡ l
        → (x : Tenths) × (step_time (Some t) actual size ≡ Ok x) × (x.0 ≡ step_in (Some t) actual size)
    go true e l f = (t, simp e, simp e)
    go false e true f = absurd (true≢false (simp (e, f) at h))
    go false e false f = (tenths (t.0 * actual / size), simp (e, f), simp e)

-- The start of a fade.

pub go_to_starts : (told : Told) (r : FadeRequest) (at : Micros) (on : Bool) (c : ℕ) → told.state.current_level ≡ Some c → (c ≡ r.target → ⊥)
    → go_to told r at on
    ≡ done (with_task told.state (task.Fade (fade_from c r at))) (reports_of told.reports ++ act D (fade_from c r at).counter)
unfolding go_to begin_fade
go_to_starts told r at on c e ne = rw (e, ne_eqb c r.target ne) refl

-- and where none is named there is none: the task ends
pub go_to_rests : (told : Told) (r : FadeRequest) (at : Micros) (on : Bool) (T : ℕ) → start_from told.state.current_level r.target T ≡ NoFade
    → (go_to told r at on).state.task ≡ task.Rest
unfolding go_to begin_fade
go_to_rests told r at on T e = by told.state.current_level e
  where
    go : (c : ℕ) (b : Bool) → cond b NoFade (Fades c r.target T) ≡ NoFade
        → (go_to_by (cond b begin.Reached (begin.Starts (fade_from c r at))) told r on).state.task ≡ task.Rest
    go c true e = refl
    go c false e = no_fade c r.target T (sym e)

    by : (l : Level) → start_from l r.target T ≡ NoFade → (go_to_by (begin_fade l r at) told r on).state.task ≡ task.Rest
    by (Some c) e = go c (eqb c r.target) e
    by None e = refl

-- an outcome in which a fade from c to t in T tenths starts at a time
pub record Starting (o : Outcome) (at : Micros) (c t T : ℕ) : Type 0 where
  pub told : Told
  pub request : FadeRequest
  pub on : Bool
  pub outcome : o ≡ go_to told request at on
  pub level : told.state.current_level ≡ Some c
  pub target : request.target ≡ t
  pub time : request.transition_time.0 ≡ T
  pub apart : c ≡ request.target → ⊥
  pub last : told.state.last_accepted ≡ at

module _ (s : LevelControlState) (at : Micros) (on : Bool) (c t T : ℕ) where
  move_to_level_starts : (r : MoveToLevelRequest) → number_of s (event at on (kind.Command (command.MoveToLevel r))) ≡ 0
      → start_of s on (kind.Command (command.MoveToLevel r)) ≡ Fades c t T → Starting (event_of s (event at on (kind.Command (command.MoveToLevel r)))) at c t T
  unfolding start_of run moved_to_level command_tests_of move_to_level_tests
  move_to_level_starts r z e =
      let lets = when_fades (leb 255 r.level || passes s r.options.with_on_off on r.options.options_mask r.options.options_override)
      (start_from s.current_level (target s r.level) (given_or r.transition_time 0)) c t T e in
      let from = from_fades _ _ _ c t T lets.1 in
      let pass = rw (← continues_is s r.options.with_on_off on r.options.options_mask r.options.options_override) at lets.0 in
      record {
        told = quiet (accept s at);
        request = request_to (accept s at) r.level (time_or r.transition_time (tenths 0)) r.options.with_on_off false false;
        on = on;
        outcome = event_runs s (event at on (kind.Command (command.MoveToLevel r))) z (options_pass r.level _ pass);
        level = from.level;
        target = target_is s r.level ∙ from.target;
        time = given_is r.transition_time (tenths 0) ∙ from.time;
        apart = λ q. from.apart (q ∙ target_is s r.level);
        last = refl;
      }

  off_starts : number_of s (event at on (kind.Command (command.OnOffChanged false))) ≡ 0
      → start_of s on (kind.Command (command.OnOffChanged false)) ≡ Fades c t T → Starting (event_of s (event at on (kind.Command (command.OnOffChanged false)))) at c t T
  unfolding start_of run switched turned_off off_time command_tests_of
  off_starts z e =
      let from = from_fades _ _ _ c t T e in
      record {
        told = quiet (accept s at);
        request = request_to (accept s at) s.settings.range.min (off_time (accept s at)) true false true;
        on = on;
        outcome = event_runs s (event at on (kind.Command (command.OnOffChanged false))) z refl;
        level = from.level;
        target = target_is s s.settings.range.min ∙ from.target;
        time = given_is s.attributes.off_transition_time s.attributes.on_off_transition_time ∙ from.time;
        apart = λ q. from.apart (q ∙ target_is s s.settings.range.min);
        last = refl;
      }

  scene_starts : (r : SceneRequest) → number_of s (event at on (kind.Command (command.Scene r))) ≡ 0
      → start_of s on (kind.Command (command.Scene r)) ≡ Fades c t T → Starting (event_of s (event at on (kind.Command (command.Scene r)))) at c t T
  unfolding start_of run recalled command_tests_of scene_tests
  scene_starts r z e = by r.level refl
    where
      none : OptionsBitmap
      none = record { 0 = 0 }

      by : (l : Level) → r.level ≡ l → Starting (event_of s (event at on (kind.Command (command.Scene r)))) at c t T
      by (Some level) q =
          let named : scene_start (Some level) s on r.transition_time.0 ≡ Fades c t T = rw q at e in
          let lets = when_fades (leb 255 level || passes s false on none none)
          (start_from s.current_level (target s level) (tenths_down r.transition_time).0) c t T named in
          let from = from_fades _ _ _ c t T lets.1 in
          let pass = rw (← continues_is s false on none none) at lets.0 in
          let free : (scene_tests_at r.level s on).stopped_by_options ≡ false = rw q (options_pass level _ pass) in
          record {
            told = quiet (accept s at);
            request = request_to (accept s at) level (tenths_down r.transition_time) false true false;
            on = on;
            outcome = event_runs s (event at on (kind.Command (command.Scene r))) z free ∙ ap (λ (l : Level). recalled_at l (accept s at) r at on) q;
            level = from.level;
            target = target_is s level ∙ from.target;
            time = from.time;
            apart = λ x. from.apart (x ∙ target_is s level);
            last = refl;
          }
      by None q = no_fade c t T (rw q at e)

  step_starts : (r : StepRequest) → number_of s (event at on (kind.Command (command.Step r))) ≡ 0
      → start_of s on (kind.Command (command.Step r)) ≡ Fades c t T → Starting (event_of s (event at on (kind.Command (command.Step r)))) at c t T
  unfolding start_of run stepped command_tests_of step_tests number_of step_overflows stepped_time stepped_level
  step_starts r z e = by s.current_level refl
    where
      pass : Bool
      pass = passes s r.options.with_on_off on r.options.options_mask r.options.options_override

      by : (l : Level) → s.current_level ≡ l → Starting (event_of s (event at on (kind.Command (command.Step r)))) at c t T
      by (Some level) q =
          let lets = when_fades pass (step_start s.current_level s r) c t T e in
          let named : step_start (Some level) s r ≡ Fades c t T = ap (λ (l : Level). step_start l s r) (sym q) ∙ lets.1 in
          let from = from_fades _ _ _ c t T named in
          let free : not (continues s r.options.with_on_off on r.options.options_mask r.options.options_override) ≡ false =
          freed lets.0 in
          let fits : overflows_from (Some level) s r ≡ false = ap (λ (l : Level). overflows_from l s r) (sym q) ∙ (command_passes _ _ z free).fits in
          let took = takes r.transition_time (apart (stepped_level s level r) level) r.step_size fits in
          record {
            told = quiet (accept s at);
            request = request_to (accept s at) (stepped_level s level r) took.0 r.options.with_on_off false false;
            on = on;
            outcome =
                event_runs s (event at on (kind.Command (command.Step r))) z free
                ∙ ap (λ (l : Level). stepped_from l (accept s at) r at on) q
                ∙ ap (λ (x : Result Tenths Refusal). stepped_by x (accept s at) level r at on) took.1;
            level = q ∙ from.level;
            target = target_is s (stepped_level s level r) ∙ ap (target s) (step_is s level r) ∙ from.target;
            time = took.2 ∙ ap (λ (x : ℕ). step_in r.transition_time (distance x level) r.step_size) (step_is s level r) ∙ from.time;
            apart = λ x. from.apart (x ∙ target_is s (stepped_level s level r) ∙ ap (target s) (step_is s level r));
            last = refl;
          }
        where
          freed : pass ≡ true → not (continues s r.options.with_on_off on r.options.options_mask r.options.options_override) ≡ false
          freed h = rw (continues_is s r.options.with_on_off on r.options.options_mask r.options.options_override, h) refl
      by None q = no_fade c t T (ap (λ (l : Level). step_start l s r) (sym q) ∙ (when_fades pass (step_start s.current_level s r) c t T e).1)

  pub direct_starts : (k : EventKind) → number_of s (event at on k) ≡ 0 → start_of s on k ≡ Fades c t T → Starting (event_of s (event at on k)) at c t T
  unfolding start_of
  direct_starts kind.StartUp z e = no_fade c t T e
  direct_starts (kind.Command (command.MoveToLevel r)) z e = move_to_level_starts r z e
  direct_starts (kind.Command (command.Move r)) z e = no_fade c t T e
  direct_starts (kind.Command (command.Step r)) z e = step_starts r z e
  direct_starts (kind.Command (command.Stop r)) z e = no_fade c t T e
  direct_starts (kind.Answer a) z e = no_fade c t T e
  direct_starts kind.Wake z e = no_fade c t T e
  direct_starts (kind.Command (command.OnOffChanged true)) z e = no_fade c t T e
  direct_starts (kind.Command (command.OnOffChanged false)) z e = off_starts z e
  direct_starts (kind.Command (command.Scene r)) z e = scene_starts r z e
  direct_starts (kind.Command (command.DeviceUpdate level)) z e = no_fade c t T e
  direct_starts (kind.Command command.DeviceStop) z e = no_fade c t T e
  direct_starts (kind.Command (command.SetOnLevel level)) z e = no_fade c t T e
  direct_starts (kind.Command (command.SetDefaultMoveRate rate)) z e = no_fade c t T e
  direct_starts (kind.Command (command.SetStartUpCurrentLevel level)) z e = no_fade c t T e
  direct_starts (kind.Command command.FactoryReset) z e = no_fade c t T e

-- After on.

-- the state in which its request for MIN is open
abbrev pub reacting : LevelControlState → Micros → LevelControlState
reacting s at = with_task (accept s at) (task.OnReaction (record { before = s.current_level }))

pub on_is : (s : LevelControlState) (at : Micros) (on : Bool) → number_of s (event at on (kind.Command (command.OnOffChanged true))) ≡ 0
    → event_of s (event at on (kind.Command (command.OnOffChanged true))) ≡ done (reacting s at) (act D s.settings.range.min)
unfolding run switched turned_on command_tests_of
on_is s at on z = event_runs s (event at on (kind.Command (command.OnOffChanged true))) z refl

-- a list of refused events leaves the state as it was
pub refused_stays : (s : LevelControlState) (es : List Event) → all_refused s es ≡ true → state_after s es ≡ s
refused_stays s [] h = refl
refused_stays s (e ∷ es) h =
    let first : not (accepted s e) ≡ true = (and_parts (not (accepted s e)) (all_refused (event_of s e).state es) h).0 in
    let others : all_refused (event_of s e).state es ≡ true = (and_parts (not (accepted s e)) (all_refused (event_of s e).state es) h).1 in
    let ne : number_of s e ≡ 0 → ⊥ = λ z. true≢false (sym (eq-eqb (event_of s e).number 0 (event_number s e ∙ z)) ∙ not-true (accepted s e) first) in
    let same : (event_of s e).state ≡ s = ap (λ (o : Outcome). o.state) (event_refused s e ne) in
    refused_stays (event_of s e).state es others ∙ same

-- the answer v in any state in which the on reaction's request is open, with the level before
module _ (s : LevelControlState) (before : Level) (at : Micros) (on : Bool) (v : ℕ) where
  abbrev pub told : Told
  told = told_level (accept s at) (Some v) at false

  abbrev pub on_answer : Outcome
  on_answer = on_goes_on told (record { before = before }) at on

  abbrev on_request : ℕ → FadeRequest
  on_request l = request_to told.state l (on_time told.state) true false false

  -- what is named when it leads to a level
  abbrev on_given : ℕ
  on_given = given_or s.attributes.on_transition_time s.attributes.on_off_transition_time.0

  abbrev to_level : ℕ → Start
  to_level l = start_from (Some v) (target s l) on_given

  -- the on level, else the level before, or there is nothing to return to
  returns : (o b : Level) → ((l : ℕ) × (level_or o b ≡ Some l) × (on_start_at o b s v ≡ to_level l)) ⊎ ((level_or o b ≡ None) × (on_start_at o b s v ≡ NoFade))
  unfolding level_or
  returns (Some l) b = inl (l, refl, refl)
  returns None (Some l) = inl (l, refl, refl)
  returns None None = inr (refl, refl)

  goes_to : (l : Level) → level_or s.attributes.on_level before ≡ l → on_answer ≡ on_to l told at on
  unfolding on_goes_on told_level set_level
  goes_to l q = ap (λ (x : Level). on_to x told at on) q

  told_level_known : told.state.current_level ≡ Some v
  unfolding told_level set_level
  told_level_known = refl

  told_last : told.state.last_accepted ≡ at
  unfolding told_level set_level
  told_last = refl

  on_target : (l : ℕ) → (on_request l).target ≡ target s l
  unfolding told_level set_level
  on_target l = target_is s l

  on_time_given : (on_time told.state).0 ≡ on_given
  unfolding on_time told_level set_level
  on_time_given = given_is s.attributes.on_transition_time s.attributes.on_off_transition_time

  pub on_starts : (c t T : ℕ) → on_start_at s.attributes.on_level before s v ≡ Fades c t T → Starting on_answer at c t T
  on_starts c t T e = by (returns s.attributes.on_level before)
    where
      by : ((l : ℕ) × (level_or s.attributes.on_level before ≡ Some l) × (on_start_at s.attributes.on_level before s v ≡ to_level l))
          ⊎ ((level_or s.attributes.on_level before ≡ None) × (on_start_at s.attributes.on_level before s v ≡ NoFade))
          → Starting on_answer at c t T
      by (inl (l, q, n)) =
          let from = from_fades _ _ _ c t T (sym n ∙ e) in
          record {
            told = told;
            request = on_request l;
            on = on;
            outcome = goes_to (Some l) q;
            level = told_level_known ∙ from.level;
            target = on_target l ∙ from.target;
            time = on_time_given ∙ from.time;
            apart = λ x. from.apart (x ∙ on_target l);
            last = told_last;
          }
      by (inr (q, n)) = no_fade c t T (sym n ∙ e)

  -- and where no fade is named, the task ends
  pub on_rests : on_start_at s.attributes.on_level before s v ≡ NoFade → on_answer.state.task ≡ task.Rest
  on_rests e = by (returns s.attributes.on_level before)
    where
      by : ((l : ℕ) × (level_or s.attributes.on_level before ≡ Some l) × (on_start_at s.attributes.on_level before s v ≡ to_level l))
          ⊎ ((level_or s.attributes.on_level before ≡ None) × (on_start_at s.attributes.on_level before s v ≡ NoFade))
          → on_answer.state.task ≡ task.Rest
      by (inl (l, q, n)) =
          ap (λ (o : Outcome). o.state.task) (goes_to (Some l) q)
          ∙ go_to_rests told (on_request l) at on on_given
          (ap (λ (x : ℕ). start_from told.state.current_level x on_given) (on_target l)
          ∙ ap (λ (x : Level). start_from x (target s l) on_given) told_level_known
          ∙ sym n
          ∙ e)
      by (inr (q, n)) = ap (λ (o : Outcome). o.state.task) (goes_to None q)

pub on_answered_is : (s : LevelControlState) (r : OnReaction) (at : Micros) (on : Bool) (v : ℕ) → s.task ≡ task.OnReaction r
    → number_of s (event at on (kind.Answer (device.Level v))) ≡ 0
    → event_of s (event at on (kind.Answer (device.Level v))) ≡ on_answer s r.before at on v
unfolding run answered on_answered command_tests_of
on_answered_is s r at on v q z =
    event_runs s (event at on (kind.Answer (device.Level v))) z refl
    ∙ ap (λ (x : Task). answered_in x (accept s at) (device.Level v) at on) q
