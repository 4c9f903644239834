-- The agreement with the Matter document in whole commands. Assumes nothing.
use Rattle.std.specs.Prelude.{Some, None, Result}
use Prim.Native.Nat.{ℕ, ◌≤◌}
use mathlib.Core.Bool.{Bool, true, false, cond, not, true≢false}
use mathlib.Core.Path.{◌≡◌, refl, sym, ap, subst, ◌∙◌}
use mathlib.Core.List.{List, [], ◌∷◌}
use native.Mathlib.Omega.{arith}
use borrow.Author.Tests.{le-leb, le-ltb, ne_eqb}
use lib.Dec.{eqb}
use Rattle.units.specs.Numbers.{apart}
use Rattle.units.specs.Units.{tenths}
use Rattle.units.specs.declared.Tenths.{Tenths}
use Rattle.transitions.specs.Events.{event}
use Rattle.transitions.specs.Types.{time_or}
use Rattle.transitions.specs.declared.causes.Refusal.{Refusal}
use Rattle.transitions.specs.declared.events.DeviceAnswer.TheVariants as device
use Rattle.transitions.specs.declared.events.Event.{Event}
use Rattle.transitions.specs.declared.events.EventKind.{EventKind}
use Rattle.transitions.specs.declared.events.EventKind.TheVariants as kind
use Rattle.transitions.specs.declared.events.MoveToLevelRequest.{MoveToLevelRequest}
use Rattle.transitions.specs.declared.events.StepRequest.{StepRequest}
use Rattle.transitions.specs.declared.tasks.FadeRequest.{FadeRequest}
use Rattle.transitions.specs.Types.{Level}
use Rattle.transitions.specs.Types.{Time}
use Rattle.level_control.specs.State.{accept}
use Rattle.level_control.specs.Answer.{Outcome}
use Rattle.level_control.specs.Judge.{move_to_level_tests, overflows_from, step_overflows, step_tests, command_tests_of}
use Rattle.level_control.specs.Handle.{run, number_of, event_of}
use Rattle.level_control.specs.Reactions.{off_time, turned_off, switched}
use Rattle.level_control.specs.Judge.{continues}
use Rattle.level_control.specs.Run.{accepted, asks, all_refused, state_after}
use Rattle.level_control.specs.Starts as starts
use Rattle.level_control.specs.Starts.{Start, NoFade, Fades, start_from, target, given_or, step_in, on_start_at, on_start}
use Rattle.level_control.specs.Targets.{quiet, request_to, go_to, moved_to_level, stepped, stepped_from, stepped_by, stepped_level, stepped_time}
use Rattle.level_control.specs.declared.state.LevelControlState.{LevelControlState}
use Rattle.level_control.proofs.EventLaws.{command_passes}
use Rattle.level_control.proofs.EveryFade.{accepted_zero, after_on_starts}
use Rattle.level_control.proofs.StartLaws.{on_is, target_is, given_is, step_is, takes}
use Rattle.level_theorems.specs.Covered.{Begins}
use Rattle.level_theorems.proofs.EveryFadeCovered.{begins}
use Rattle.matter.specs.Matter.{Effect, Invalid, NotExecuted, NoEffect, Goes, goes, within, or_else, move_to_level, reduced, step, after_on, off}
use Rattle.matter.specs.Matter as matter
use Rattle.matter.specs.Agreement.{Does, passes, IsLevel, Agreement}
use Rattle.matter.proofs.OffRun.{off_at_rest}
use Rattle.matter.proofs.CommandRules.{zero_as, runs_as, stopped_as, options_say, off_ends, start_up_agrees, stop, stop_at_rest, stop_not_executed, move_asks, move_at_limit, move_not_executed}
use Rattle.matter.proofs.Invalid.{step_invalid, move_invalid}
use Rattle.matter.proofs.StartUpRun.{start_up_at_rest}
use Rattle.matter.proofs.Changes.{MakesFor, does, within_is, in_range, given_same, reduced_is, step_same, step_inside}
use Rattle.transitions.specs.declared.events.Command.TheVariants as command

-- Move to a level.

module _ (s : LevelControlState) (e : Event) (r : MoveToLevelRequest) (c : ℕ) where
  abbrev executed_to : Bool
  executed_to = passes s e r.options.with_on_off r.options.options_mask r.options.options_override

  abbrev within_range : ℕ
  within_range = within s.settings.range.min s.settings.range.max r.level

  -- a missing time is 0
  makes_for_level : e.kind ≡ kind.Command (command.MoveToLevel r) → accepted s e ≡ true → s.current_level ≡ Some c
      → s.settings.range.min ≤ s.settings.range.max → r.level ≤ 254 → MakesFor s e executed_to c within_range (or_else r.transition_time 0)
  unfolding run moved_to_level command_tests_of move_to_level_tests
  makes_for_level k ok level order small = record {
    level = level;
    stopped = λ p. stopped_as s e (kind.Command (command.MoveToLevel r)) k ok (says false p);
    goes = λ p. (
      request_to (accept s e.moment.at) r.level (time_or r.transition_time (tenths 0)) r.options.with_on_off false false,
      runs_as s e (kind.Command (command.MoveToLevel r)) k ok (says true p),
      target_is s r.level ∙ within_is s r.level order small,
      given_is r.transition_time (tenths 0) ∙ given_same r.transition_time 0,
    );
  }
    where
      says : (b : Bool) → executed_to ≡ b → (move_to_level_tests s e.moment.on_off r).stopped_by_options ≡ not b
      says b p = rw (le-leb r.level 254 small) (options_say s e r.options.with_on_off r.options.options_mask r.options.options_override b p)

  -- what the document says, at a time of its own
  abbrev said : ℕ → Effect
  said tenths = cond executed_to (goes c within_range tenths) NotExecuted

  said_is : r.level ≤ 254
      → move_to_level executed_to s.settings.range.min s.settings.range.max c r.level r.transition_time s.attributes.on_off_transition_time.0
      ≡ said (or_else r.transition_time s.attributes.on_off_transition_time.0)
  said_is small = ap (λ (b : Bool). cond b Invalid (said (or_else r.transition_time s.attributes.on_off_transition_time.0))) (le-ltb 254 r.level small)

  -- where CurrentLevel goes nowhere no time counts
  nowhere : (a b : ℕ) → ((from to tenths : ℕ) → said a ≡ Goes from to tenths → ⊥) → said b ≡ said a
  nowhere a b none = by executed_to (eqb c within_range) none
    where
      by : (x y : Bool)
          → ((from to tenths : ℕ) → cond x (cond y NoEffect (Goes c within_range a)) NotExecuted ≡ Goes from to tenths → ⊥)
          → cond x (cond y NoEffect (Goes c within_range b)) NotExecuted ≡ cond x (cond y NoEffect (Goes c within_range a)) NotExecuted
      by false y none = refl
      by true true none = refl
      by true false none = absurd (none c within_range a refl)

pub move_to_level_agrees : (s : LevelControlState) (e : Event) (r : MoveToLevelRequest) (c : ℕ) (T : Tenths)
    → e.kind ≡ kind.Command (command.MoveToLevel r) → accepted s e ≡ true → s.current_level ≡ Some c → s.settings.range.min ≤ s.settings.range.max
    → r.level ≤ 254 → r.transition_time ≡ Some T
    → Does s e
    (move_to_level (passes s e r.options.with_on_off r.options.options_mask r.options.options_override) s.settings.range.min s.settings.range.max c r.level
    r.transition_time s.attributes.on_off_transition_time.0)
move_to_level_agrees s e r c T k ok level order small given =
    subst (λ (x : Effect). Does s e x)
    (ap (λ (x : ℕ). said s e r c x)
    (ap (λ (t : Time). or_else t 0) given ∙ sym (ap (λ (t : Time). or_else t s.attributes.on_off_transition_time.0) given))
    ∙ sym (said_is s e r c small))
    (does s e (executed_to s e r c) c (within_range s e r c) (or_else r.transition_time 0) (makes_for_level s e r c k ok level order small))

pub move_to_level_stays : (s : LevelControlState) (e : Event) (r : MoveToLevelRequest) (c : ℕ)
    → e.kind ≡ kind.Command (command.MoveToLevel r) → accepted s e ≡ true → s.current_level ≡ Some c → s.settings.range.min ≤ s.settings.range.max
    → r.level ≤ 254 → r.transition_time ≡ None → (effect : Effect)
    → move_to_level (passes s e r.options.with_on_off r.options.options_mask r.options.options_override) s.settings.range.min s.settings.range.max c r.level
    r.transition_time s.attributes.on_off_transition_time.0 ≡ effect
    → ((from to tenths : ℕ) → effect ≡ Goes from to tenths → ⊥) → Does s e effect
move_to_level_stays s e r c k ok level order small given effect says none =
    let common : ℕ = or_else r.transition_time s.attributes.on_off_transition_time.0 in
    let same : said s e r c common ≡ effect = sym (said_is s e r c small) ∙ says in
    subst (λ (x : Effect). Does s e x)
    (nowhere s e r c common (or_else r.transition_time 0) (λ from to tenths q. none from to tenths (sym same ∙ q)) ∙ same)
    (does s e (executed_to s e r c) c (within_range s e r c) (or_else r.transition_time 0) (makes_for_level s e r c k ok level order small))

-- Step.

pub step_agrees : (s : LevelControlState) (e : Event) (r : StepRequest) (c : ℕ)
    → e.kind ≡ kind.Command (command.Step r) → accepted s e ≡ true → s.current_level ≡ Some c → s.settings.range.min ≤ c → c ≤ s.settings.range.max
    → s.settings.range.max ≤ 254 → 1 ≤ r.step_size
    → Does s e
    (step (passes s e r.options.with_on_off r.options.options_mask r.options.options_override) r.mode s.settings.range.min s.settings.range.max c
    r.step_size r.transition_time)
unfolding run stepped command_tests_of step_tests number_of step_overflows stepped_time stepped_level
step_agrees s e r c k ok level low high small some =
    subst (λ (b : Bool). Does s e (cond b Invalid (cond executed (goes c to (reduced r.transition_time (apart to c) r.step_size)) NotExecuted)))
    (sym (ne_eqb r.step_size 0 (λ z. omega arith)))
    (does s e executed c to (reduced r.transition_time (apart to c) r.step_size) (record {
      level = level;
      stopped = λ p. stopped_as s e (kind.Command (command.Step r)) k ok (says false p);
      goes = λ p. goes_to (says true p);
    }))
  where
    executed : Bool
    executed = passes s e r.options.with_on_off r.options.options_mask r.options.options_override

    to : ℕ
    to = matter.step_to r.mode s.settings.range.min s.settings.range.max c r.step_size

    stepped_to : ℕ
    stepped_to = stepped_level s c r

    same : stepped_to ≡ to
    same = step_is s c r ∙ step_same s r c low high small

    says : (b : Bool) → executed ≡ b → not (continues s r.options.with_on_off e.moment.on_off r.options.options_mask r.options.options_override) ≡ not b
    says b p = options_say s e r.options.with_on_off r.options.options_mask r.options.options_override b p

    goes_to : not (continues s r.options.with_on_off e.moment.on_off r.options.options_mask r.options.options_override) ≡ false
        → (x : FadeRequest) × (event_of s e ≡ go_to (quiet (accept s e.moment.at)) x e.moment.at e.moment.on_off) × (x.target ≡ to)
        × (x.transition_time.0 ≡ reduced r.transition_time (apart to c) r.step_size)
    goes_to free =
        let fits : overflows_from (Some c) s r ≡ false =
        ap (λ (l : Level). overflows_from l s r) (sym level) ∙ (command_passes _ _ (zero_as s e (kind.Command (command.Step r)) k ok) free).fits in
        let took = takes r.transition_time (apart stepped_to c) r.step_size fits in (
          request_to (accept s e.moment.at) stepped_to took.0 r.options.with_on_off false false,
          runs_as s e (kind.Command (command.Step r)) k ok free
              ∙ ap (λ (l : Level). stepped_from l (accept s e.moment.at) r e.moment.at e.moment.on_off) level
              ∙ ap (λ (x : Result Tenths Refusal). stepped_by x (accept s e.moment.at) c r e.moment.at e.moment.on_off) took.1,
          target_is s stepped_to ∙ ap (λ (x : ℕ). starts.target s x) (step_is s c r) ∙ step_inside s r.mode c r.step_size low high small
              ∙ step_same s r c low high small,
          took.2 ∙ ap (λ (x : ℕ). step_in r.transition_time (apart x c) r.step_size) same ∙ reduced_is r.transition_time (apart to c) r.step_size some,
        )

-- Off.

pub off_agrees : (s : LevelControlState) (e : Event) (c : ℕ)
    → e.kind ≡ kind.Command (command.OnOffChanged false) → accepted s e ≡ true → s.current_level ≡ Some c
    → s.settings.range.min ≤ s.settings.range.max → s.settings.range.max ≤ 254
    → Does s e (off c s.settings.range.min s.attributes.off_transition_time s.attributes.on_off_transition_time.0)
unfolding run switched turned_off off_time command_tests_of
off_agrees s e c k ok level order small =
    does s e true c lo (or_else s.attributes.off_transition_time s.attributes.on_off_transition_time.0) (record {
      level = level;
      stopped = λ p. absurd (true≢false p);
      goes = λ p. (
        request_to (accept s e.moment.at) lo (off_time (accept s e.moment.at)) true false true,
        runs_as s e (kind.Command (command.OnOffChanged false)) k ok refl,
        target_is s lo ∙ in_range s lo (omega arith) order small,
        given_is s.attributes.off_transition_time s.attributes.on_off_transition_time
            ∙ given_same s.attributes.off_transition_time s.attributes.on_off_transition_time.0,
      );
    })
  where
    lo : ℕ
    lo = s.settings.range.min

-- On.

pub on_asks : (s : LevelControlState) (e : Event) → e.kind ≡ kind.Command (command.OnOffChanged true) → accepted s e ≡ true
    → asks (event_of s e).actions ≡ s.settings.range.min ∷ []
on_asks s e k ok =
    ap (λ (x : EventKind). asks (event_of s (event e.moment.at e.moment.on_off x)).actions) k
    ∙ ap (λ (o : Outcome). asks o.actions)
    (on_is s e.moment.at e.moment.on_off
    (accepted_zero s (event e.moment.at e.moment.on_off (kind.Command (command.OnOffChanged true)))
    (subst (λ (x : EventKind). accepted s (event e.moment.at e.moment.on_off x) ≡ true) k ok)))

abbrev as_start : Effect → Start
as_start Invalid = NoFade
as_start NotExecuted = NoFade
as_start NoEffect = NoFade
as_start (Goes from to tenths) = Fades from to tenths

-- what the document says after on, and what is named when the device answers the minimum
on_same : (s : LevelControlState) → s.settings.range.min ≤ s.settings.range.max → (on before : Level) → IsLevel on → IsLevel before
    → on_start_at on before s s.settings.range.min
    ≡ as_start (after_on on before s.settings.range.min s.settings.range.max s.attributes.on_transition_time s.attributes.on_off_transition_time.0)
on_same s order on before a b = by on before a b
  where
    lo : ℕ
    lo = s.settings.range.min

    hi : ℕ
    hi = s.settings.range.max

    common : ℕ
    common = s.attributes.on_off_transition_time.0

    to : (level : ℕ) → level ≤ 254 → start_from (Some lo) (target s level) (given_or s.attributes.on_transition_time common)
        ≡ as_start (goes lo (within lo hi level) (or_else s.attributes.on_transition_time common))
    to level small =
        ap (λ (x : ℕ). start_from (Some lo) x (given_or s.attributes.on_transition_time common)) (within_is s level order small)
        ∙ ap (λ (x : ℕ). start_from (Some lo) (within lo hi level) x) (given_same s.attributes.on_transition_time common)
        ∙ same (eqb lo (within lo hi level))
      where
        same : (b : Bool)
            → cond b NoFade (Fades lo (within lo hi level) (or_else s.attributes.on_transition_time common))
            ≡ as_start (cond b NoEffect (Goes lo (within lo hi level) (or_else s.attributes.on_transition_time common)))
        same true = refl
        same false = refl

    by : (on before : Level) → IsLevel on → IsLevel before → on_start_at on before s lo ≡ as_start (after_on on before lo hi s.attributes.on_transition_time common)
    by (Some level) before a b = to level a
    by None (Some level) a b = to level b
    by None None a b = refl

pub on_agrees : (s : LevelControlState) (e a : Event) (es : List Event)
    → e.kind ≡ kind.Command (command.OnOffChanged true) → accepted s e ≡ true → all_refused (event_of s e).state es ≡ true
    → a.kind ≡ kind.Answer (device.Level s.settings.range.min) → accepted (state_after (event_of s e).state es) a ≡ true
    → s.settings.range.min ≤ s.settings.range.max → IsLevel s.attributes.on_level → IsLevel s.current_level
    → (from to tenths : ℕ)
    → after_on s.attributes.on_level s.current_level s.settings.range.min s.settings.range.max s.attributes.on_transition_time
    s.attributes.on_off_transition_time.0 ≡ Goes from to tenths
    → Begins from to tenths a.moment.at (event_of (state_after (event_of s e).state es) a).state
unfolding on_start
on_agrees s e a es k ok refusals q answered order small-on small from to tenths says =
    begins (event_of (state_after (event_of s e).state es) a) a.moment.at from to tenths
    (after_on_starts s e.moment.at a.moment.at e.moment.on_off a.moment.on_off es s.settings.range.min from to tenths e.kind a.kind k q
    (on_same s order s.attributes.on_level s.current_level small-on small ∙ ap as_start says) ok refusals answered)

pub agreement : Agreement
agreement = record {
  move_to_level_agrees = move_to_level_agrees;
  move_to_level_stays = move_to_level_stays;
  step_agrees = step_agrees;
  step_invalid = step_invalid;
  off_agrees = off_agrees;
  on_asks = on_asks;
  on_agrees = on_agrees;
  off_ends = off_ends;
  off_at_rest = off_at_rest;
  start_up_agrees = start_up_agrees;
  start_up_at_rest = start_up_at_rest;
  stop = stop;
  stop_at_rest = stop_at_rest;
  stop_not_executed = stop_not_executed;
  move_asks = move_asks;
  move_at_limit = move_at_limit;
  move_not_executed = move_not_executed;
  move_invalid = move_invalid;
}
