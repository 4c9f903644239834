-- A fade that runs after a list of events: the start that stands in it, and what was accepted since. By induction on the list. Assumes nothing.
use Rattle.std.specs.Prelude.{Some, None}
use Prim.Native.Nat.{ℕ, ◌/◌}
use mathlib.Core.Bool.{Bool, true, false, not, ◌||◌, true≢false}
use mathlib.Core.Path.{◌≡◌, refl, sym, ap, subst, ◌∙◌}
use mathlib.Core.List.{List, [], ◌∷◌, ◌++◌, append-nil, append_assoc}
use native.Mathlib.Omega.{arith}
use borrow.Author.Tests.{not-true}
use Rattle.std.proofs.Math.Nat.{mul_comm}
use Rattle.std.proofs.lemmas.Bool.{and_from, and_parts}
use Rattle.units.specs.declared.Micros.{Micros}
use Rattle.units.specs.declared.Tenths.{Tenths}
use Rattle.transitions.specs.Events.{event}
use Rattle.transitions.specs.Fade.{fade_period}
use Rattle.transitions.specs.Tasks.{kept_to_put_back, fade_from}
use Rattle.transitions.specs.Types.{Level}
use Rattle.transitions.specs.declared.events.Command.{Command}
use Rattle.transitions.specs.declared.events.Command.TheVariants as command
use Rattle.transitions.specs.declared.events.DeviceAnswer.TheVariants as device
use Rattle.transitions.specs.declared.events.Event.{Event}
use Rattle.transitions.specs.declared.events.EventKind.{EventKind}
use Rattle.transitions.specs.declared.events.EventKind.TheVariants as kind
use Rattle.transitions.specs.declared.settings.Settings.{Settings}
use Rattle.transitions.specs.declared.tasks.Fade.{Fade}
use Rattle.transitions.specs.declared.tasks.FadeRequest.{FadeRequest}
use Rattle.transitions.specs.declared.tasks.OnReaction.{OnReaction}
use Rattle.transitions.specs.declared.tasks.Task.TheVariants as task
use Rattle.level_control.specs.Answer.{Outcome}
use Rattle.level_control.specs.EveryFade.{Starts, directly, after_on}
use Rattle.level_control.specs.Handle.{event_of}
use Rattle.level_control.specs.Reached.{ReachedFrom}
use Rattle.level_control.specs.Run.{Run, accepted, is_onward, started, next, only_onward, all_refused, state_after}
use Rattle.level_control.specs.Starts.{Fades, distance, step_start, scene_start, start_of, on_start_at, on_start}
use Rattle.level_control.specs.State.{new_state}
use Rattle.level_control.specs.declared.state.LevelControlState.{LevelControlState}
use Rattle.level_control.proofs.EveryFade.{accepted_zero, starts, every_fade}
use Rattle.level_control.proofs.ReachedLaws.{refused_state, state_after_append, lists_induction, reached_induction}
use Rattle.level_control.proofs.StartLaws.{no_fade, when_fades, from_fades, reacting, on_is, refused_stays}
use Rattle.event_theorems.specs.Fields.{next_state}
use Rattle.level_theorems.specs.Covered as covers
use Rattle.level_theorems.specs.Covered.{Begins, NoneNamed, SameFade, Covered}
use Rattle.level_theorems.specs.FadeTheorems.{NoFadeLeftOut, OnwardSince}
use Rattle.level_theorems.specs.Runs.{events_of, given_in, level_from, leaves_task, none_leaves, Follows, answers, wakes, leaves, AllFollow, FadesFrom, FadeRuns, InReached}
use Rattle.level_theorems.proofs.EveryEventLaws.{every_event, three_ways}
use Rattle.level_theorems.proofs.EveryFadeCovered.{every_fade_covered}
use Rattle.level_theorems.proofs.Progress.{next_state_is}
use Rattle.level_theorems.proofs.ReactionsCovered.{reactions_covered}
use Rattle.level_theorems.proofs.RunSteps.{moves_on, goes}

-- What holds in every reached state.

accepted_starts : (s : LevelControlState) (e : Event) → accepted s e ≡ true → (event_of s e).state.started ≡ true
unfolding next_state
accepted_starts s e h =
    three_ways s e (λ (o : Outcome). o.state.started ≡ true) (λ ne. absurd (ne (accepted_zero s e h))) (λ z. refl) refl

in_settings : (x : Settings) (s : LevelControlState) → ReachedFrom x s → s.settings ≡ x
unfolding new_state
in_settings x = reached_induction (λ (s : LevelControlState). s.settings ≡ x) x refl (λ s e w h. every_event.settings_stay s e ∙ h)

abbrev Untouched : Settings → LevelControlState → Type 0
Untouched x s = s.started ≡ false → s ≡ new_state x

untouched_next : (x : Settings) (s : LevelControlState) (e : Event) → Untouched x s → Untouched x (event_of s e).state
untouched_next x s e h = by (accepted s e) refl
  where
    by : (b : Bool) → accepted s e ≡ b → Untouched x (event_of s e).state
    by true q first = absurd (true≢false (sym (accepted_starts s e q) ∙ first))
    by false q first =
        let same : (event_of s e).state ≡ s = refused_state s e q in
        same ∙ h (ap (λ (s : LevelControlState). s.started) (sym same) ∙ first)

untouched : (x : Settings) (s : LevelControlState) → ReachedFrom x s → Untouched x s
untouched x = reached_induction (Untouched x) x (λ first. refl) (λ s e w h. untouched_next x s e h)

pub in_reached : InReached
in_reached = record { settings = in_settings; untouched = untouched }

-- A start: where the fade comes from.

-- a command's fade starts from the level, and is no reached target
module _ (s : LevelControlState) (on : Bool) (c t T : ℕ) where
  command_level : (x : Command) → start_of s on (kind.Command x) ≡ Fades c t T → s.current_level ≡ Some c
  unfolding start_of
  command_level (command.MoveToLevel r) e = (from_fades s.current_level _ _ c t T (when_fades _ _ c t T e).1).level
  command_level (command.Move r) e = no_fade c t T e
  command_level (command.Step r) e = by s.current_level refl (when_fades _ (step_start s.current_level s r) c t T e).1
    where
      by : (l : Level) → s.current_level ≡ l → step_start l s r ≡ Fades c t T → s.current_level ≡ Some c
      by (Some level) q e = q ∙ (from_fades (Some level) _ _ c t T e).level
      by None q e = no_fade c t T e
  command_level (command.Stop r) e = no_fade c t T e
  command_level (command.OnOffChanged true) e = no_fade c t T e
  command_level (command.OnOffChanged false) e = (from_fades s.current_level _ _ c t T e).level
  command_level (command.Scene r) e = by r.level e
    where
      by : (l : Level) → scene_start l s on r.transition_time.0 ≡ Fades c t T → s.current_level ≡ Some c
      by (Some level) e = (from_fades s.current_level _ _ c t T (when_fades _ _ c t T e).1).level
      by None e = no_fade c t T e
  command_level (command.DeviceUpdate level) e = no_fade c t T e
  command_level command.DeviceStop e = no_fade c t T e
  command_level (command.SetOnLevel level) e = no_fade c t T e
  command_level (command.SetDefaultMoveRate rate) e = no_fade c t T e
  command_level (command.SetStartUpCurrentLevel level) e = no_fade c t T e
  command_level command.FactoryReset e = no_fade c t T e

  direct_level : (k : EventKind) → start_of s on k ≡ Fades c t T → s.current_level ≡ Some c
  unfolding start_of
  direct_level kind.StartUp e = no_fade c t T e
  direct_level (kind.Answer a) e = no_fade c t T e
  direct_level kind.Wake e = no_fade c t T e
  direct_level (kind.Command x) e = command_level x e

on_level : (o before : Level) (s : LevelControlState) (v c t T : ℕ) → on_start_at o before s v ≡ Fades c t T → Some v ≡ Some c
on_level (Some level) before s v c t T e = (from_fades (Some v) _ _ c t T e).level
on_level None (Some level) s v c t T e = (from_fades (Some v) _ _ c t T e).level
on_level None None s v c t T e = no_fade c t T e

-- the answer to on's request, as the state of on names it
on_named : (s : LevelControlState) (at : Micros) (on : Bool) (k : EventKind) (s' : LevelControlState) (r : OnReaction) (v c t T : ℕ)
    → accepted s (event at on k) ≡ true → k ≡ kind.Command (command.OnOffChanged true) → (event_of s (event at on k)).state ≡ s'
    → r.before ≡ s.current_level → on_start_at s'.attributes.on_level r.before s' v ≡ Fades c t T → on_start s v ≡ Fades c t T
unfolding on_start
on_named s at on k s' r v c t T ok q leads before named =
    let on_ok : accepted s (event at on (kind.Command (command.OnOffChanged true))) ≡ true =
    subst (λ (x : EventKind). accepted s (event at on x) ≡ true) q ok in
    let reacts : (event_of s (event at on k)).state ≡ reacting s at =
    ap (λ (x : EventKind). (event_of s (event at on x)).state) q
    ∙ ap (λ (o : Outcome). o.state) (on_is s at on (accepted_zero s (event at on (kind.Command (command.OnOffChanged true))) on_ok)) in
    let there : on_start_at s.attributes.on_level r.before (reacting s at) v ≡ Fades c t T =
    subst (λ (x : LevelControlState). on_start_at x.attributes.on_level r.before x v ≡ Fades c t T) (sym leads ∙ reacts) named in
    same s.attributes.on_level s.current_level
    ∙ ap (λ (l : Level). on_start_at s.attributes.on_level l (reacting s at) v) (sym before)
    ∙ there
  where
    same : (o b : Level) → on_start_at o b s v ≡ on_start_at o b (reacting s at) v
    same (Some l) b = refl
    same None (Some l) = refl
    same None None = refl

-- a fade that begins is one from c
begins_from : (c : ℕ) (r : FadeRequest) (at : Micros) → (c ≡ r.target → ⊥) → FadesFrom c (fade_from c r at)
unfolding fade_from fade_period
begins_from c r at ne =
    let moved = moves_on c c r.target r.transition_time (omega arith) ne in
    record {
      period = ap (λ (x : ℕ). x / distance r.target c) (mul_comm r.transition_time.0 100);
      between = moved.0;
      left = moved.1;
      more = λ until q. let z : ◌≡◌ {A = ℕ} 0 1 = cc in omega arith;
      back = λ before q. put_back_is r.puts_back before q;
    }
  where
    put_back_is : (b : Bool) (before : ℕ) → kept_to_put_back b c ≡ Some before → before ≡ c
    put_back_is true before q = cc
    put_back_is false before q = let z : ◌≡◌ {A = ℕ} 0 1 = cc in omega arith

to : (c : ℕ) (r : FadeRequest) (at : Micros) → (fade_from c r at).target ≡ r.target
unfolding fade_from
to c r at = refl

within : (c : ℕ) (r : FadeRequest) (at : Micros) → (fade_from c r at).transition_time.0 ≡ r.transition_time.0
unfolding fade_from
within c r at = refl

apart : {o : Outcome} (c t T : ℕ) → Starts o c t T → c ≡ t → ⊥
apart c t T w e =
    let s = (starts _ c t T w).1 in
    s.apart (e ∙ sym s.target)

-- What follows a start, one event more.

follow_more : (s : LevelControlState) (es : List Event) (e : Event) → AllFollow s es
    → (accepted (state_after s es) e ≡ true → Follows (state_after s es) e (event_of (state_after s es) e).state) → AllFollow s (es ++ (e ∷ []))
follow_more s [] e h one = (one, tt)
follow_more s (x ∷ es) e h one = (h.0, follow_more (event_of s x).state es e h.1 one)

refuse_more : (s : LevelControlState) (es : List Event) (e : Event) → all_refused s es ≡ true → accepted (state_after s es) e ≡ false
    → all_refused s (es ++ (e ∷ [])) ≡ true
refuse_more s [] e h q = rw q refl
refuse_more s (x ∷ es) e h q =
    let parts = and_parts (not (accepted s x)) (all_refused (event_of s x).state es) h in
    and_from _ _ parts.0 (refuse_more (event_of s x).state es e parts.1 q)

-- The invariant.

module _ (x : Settings) where
  abbrev First : LevelControlState
  First = new_state x

  -- while the reaction to on runs, on stands in the list, and what came since was refused
  record Reacting (es : List Event) (s : LevelControlState) (r : OnReaction) : Type 0 where
    earlier : List Event
    on : Event
    others : List Event
    stands : es ≡ earlier ++ (on ∷ others)
    ok : accepted (state_after First earlier) on ≡ true
    is_on : on.kind ≡ kind.Command (command.OnOffChanged true)
    refusals : all_refused (event_of (state_after First earlier) on).state others ≡ true
    leads : state_after (event_of (state_after First earlier) on).state others ≡ s
    before : r.before ≡ (state_after First earlier).current_level

  -- a fade that runs, and where the events since its start lead
  record Led (es : List Event) (s : LevelControlState) (f : Fade) : Type 0 where
    run : FadeRuns First es f
    leads : state_after run.outcome.state run.since ≡ s

  record Known (es : List Event) (s : LevelControlState) : Type 0 where
    reacts : (r : OnReaction) → s.task ≡ task.OnReaction r → Reacting es s r
    fades : (f : Fade) → s.task ≡ task.Fade f → Led es s f

  -- an event more, in the state after a list

  more_after : (es : List Event) (e : Event) (a d f : List Event) → es ≡ a ++ d ++ f → es ++ (e ∷ []) ≡ a ++ d ++ (f ++ (e ∷ []))
  more_after es e a d f q = ap (λ (l : List Event). l ++ (e ∷ [])) q ∙ append_assoc (a ++ d) f (e ∷ [])

  -- where a fade goes on
  led_more : (es : List Event) (s : LevelControlState) (f g : Fade) (e : Event) → (w : Led es s f) → FadesFrom w.run.c g
      → g.target ≡ f.target → g.transition_time ≡ f.transition_time
      → (accepted s e ≡ true → Follows s e (event_of s e).state) → Led (es ++ (e ∷ [])) (event_of s e).state g
  led_more es s f g e w from to within one =
      let run : FadeRuns First es f = w.run in
      record {
        run = record {
          outcome = run.outcome;
          c = run.c;
          t = run.t;
          T = run.T;
          start = run.start;
          level = run.level;
          target = to ∙ run.target;
          time = ap (λ (y : Tenths). y.0) within ∙ run.time;
          fade = from;
          earlier = run.earlier;
          since = run.since ++ (e ∷ []);
          stands = more_after es e run.earlier (events_of run.start) run.since run.stands;
          given = run.given;
          followed =
              follow_more run.outcome.state run.since e run.followed
              (subst (λ (y : LevelControlState). accepted y e ≡ true → Follows y e (event_of y e).state) (sym w.leads) one);
        };
        leads = state_after_append run.outcome.state run.since (e ∷ []) ∙ ap (λ (y : LevelControlState). (event_of y e).state) w.leads;
      }

  -- where one starts
  led_first : (es : List Event) (o : Outcome) (c t T : ℕ) (at : Micros) (w : Starts o c t T) (f : Fade) → Begins c t T at o.state → o.state.task ≡ task.Fade f
      → level_from w ≡ Some c → (earlier : List Event) → es ≡ earlier ++ events_of w → given_in w ≡ state_after First earlier → Led es o.state f
  led_first es o c t T at w f b q level earlier stands given =
      let begun : task.Fade (fade_from c b.request at) ≡ task.Fade f = sym b.begins ∙ q in
      let same : fade_from c b.request at ≡ f = cc in
      record {
        run = record {
          outcome = o;
          c = c;
          t = t;
          T = T;
          start = w;
          level = level;
          target = ap (λ (y : Fade). y.target) (sym same) ∙ to c b.request at ∙ b.target;
          time = ap (λ (y : Fade). y.transition_time.0) (sym same) ∙ within c b.request at ∙ b.time;
          fade = subst (FadesFrom c) same (begins_from c b.request at (λ z. apart c t T w (z ∙ b.target)));
          earlier = earlier;
          since = [];
          stands = stands ∙ sym (append-nil (earlier ++ events_of w));
          given = given;
          followed = tt;
        };
        leads = refl;
      }

  direct_led : (es : List Event) (e : Event) (c t T : ℕ) (f : Fade) → accepted (state_after First es) e ≡ true
      → start_of (state_after First es) e.moment.on_off e.kind ≡ Fades c t T → Begins c t T e.moment.at (event_of (state_after First es) e).state
      → (event_of (state_after First es) e).state.task ≡ task.Fade f → Led (es ++ (e ∷ [])) (event_of (state_after First es) e).state f
  direct_led es e c t T f ok named b q =
      let s : LevelControlState = state_after First es in
      led_first (es ++ (e ∷ [])) (event_of s e) c t T e.moment.at (directly s e c t T ok named) f b q
      (direct_level s e.moment.on_off c t T e.kind named) es refl refl

  on_led : (es : List Event) (s : LevelControlState) (e : Event) (r : OnReaction) (v c t T : ℕ) (f : Fade) → Reacting es s r → accepted s e ≡ true
      → e.kind ≡ kind.Answer (device.Level v) → on_start_at s.attributes.on_level r.before s v ≡ Fades c t T
      → Begins c t T e.moment.at (event_of s e).state → (event_of s e).state.task ≡ task.Fade f → Led (es ++ (e ∷ [])) (event_of s e).state f
  on_led es s e r v c t T f w ok answered named b q =
      let s₁ : LevelControlState = state_after First w.earlier in
      let left : LevelControlState = state_after (event_of s₁ w.on).state w.others in
      let first : (event_of s₁ w.on).state ≡ s = sym (refused_stays (event_of s₁ w.on).state w.others w.refusals) ∙ w.leads in
      let named₁ : on_start s₁ v ≡ Fades c t T = on_named s₁ w.on.moment.at w.on.moment.on_off w.on.kind s r v c t T w.ok w.is_on first w.before named in
      let level : Some v ≡ Some c = on_level s.attributes.on_level r.before s v c t T named in
      let here : accepted left e ≡ true = subst (λ (y : LevelControlState). accepted y e ≡ true) (sym w.leads) ok in
      let start : Starts (event_of left e) c t T = after_on s₁ w.on e w.others v c t T w.ok w.is_on w.refusals here answered named₁ in
      subst (λ (y : LevelControlState). Led (es ++ (e ∷ [])) (event_of y e).state f) w.leads
      (led_first (es ++ (e ∷ [])) (event_of left e) c t T e.moment.at start f
      (subst (λ (y : LevelControlState). Begins c t T e.moment.at (event_of y e).state) (sym w.leads) b)
      (ap (λ (y : LevelControlState). (event_of y e).state.task) w.leads ∙ q) level w.earlier
      (ap (λ (l : List Event). l ++ (e ∷ [])) w.stands ∙ append_assoc w.earlier (w.on ∷ w.others) (e ∷ [])) refl)

  -- a fade runs after an accepted event
  fade_next : (es : List Event) (e : Event) (g : Fade) → Known es (state_after First es) → accepted (state_after First es) e ≡ true
      → (event_of (state_after First es) e).state.task ≡ task.Fade g → Led (es ++ (e ∷ [])) (event_of (state_after First es) e).state g
  unfolding new_state
  fade_next es e g h ok q = by (every_fade_covered s e ok)
    where
      s : LevelControlState
      s = state_after First es

      -- before it a fade ran: it is accepted only after the first event
      begun : (f : Fade) → s.task ≡ task.Fade f → s.started ≡ true
      begun f p = go s.started refl
        where
          go : (b : Bool) → s.started ≡ b → s.started ≡ true
          go true z = z
          go false z =
              let rest : task.Rest ≡ task.Fade f = sym (ap (λ (y : LevelControlState). y.task) (untouched x s (record { events = es; leads = refl }) z)) ∙ p in
              absurd (let u : ◌≡◌ {A = ℕ} 0 1 = cc in omega arith)

      on : (f : Fade) → s.task ≡ task.Fade f → NoneNamed s e → SameFade f g → (is_onward e.kind ≡ false → f ≡ g)
          → Led (es ++ (e ∷ [])) (event_of s e).state g
      on f p n same kept =
          let w : Led es s f = h.fades f p in
          let went = goes s e.moment.at e.moment.on_off w.run.c f g w.run.fade p same e.kind (accepted_zero s e ok) (begun f p) n.direct kept q in
          led_more es s f g e w went.1 same.target same.time (λ z. went.0)

      by : Covered s e (event_of s e).state → Led (es ++ (e ∷ [])) (event_of s e).state g
      by (covers.starts c t T named b) = direct_led es e c t T g ok named b q
      by (covers.starts_on r v c t T p a named b) = on_led es s e r v c t T g (h.reacts r p) ok a named b q
      by (covers.no_fade n none) = absurd (none g q)
      by (covers.goes_on n f g' p q' same onward) =
          let tasks : task.Fade g' ≡ task.Fade g = sym q' ∙ q in
          let is : g' ≡ g = cc in
          on f p n (subst (SameFade f) is same) (λ z. absurd (true≢false (sym onward ∙ z)))
      by (covers.as_it_was n f p q') =
          let tasks : task.Fade f ≡ task.Fade g = sym q' ∙ q in
          let is : f ≡ g = cc in
          on f p n
          (subst (SameFade f) is (record { with_on_off = refl; scene = refl; target = refl; time = refl; period = refl; put_back = refl }))
          (λ z. is)

  known_next : (es : List Event) (e : Event) → Known es (state_after First es) → Known (es ++ (e ∷ [])) (event_of (state_after First es) e).state
  known_next es e h = by (accepted s e) refl
    where
      s : LevelControlState
      s = state_after First es

      by : (b : Bool) → accepted s e ≡ b → Known (es ++ (e ∷ [])) (event_of s e).state
      by true ok = record {
        reacts = λ r q.
            let on = reactions_covered s e r ok q in
            record {
              earlier = es;
              on = e;
              others = [];
              stands = refl;
              ok = ok;
              is_on = on.0;
              refusals = refl;
              leads = refl;
              before = on.1;
            };
        fades = λ g q. fade_next es e g h ok q;
      }
      by false bars = record {
        reacts = λ r q.
            let w : Reacting es s r = h.reacts r (ap (λ (y : LevelControlState). y.task) (sym same) ∙ q) in
            let on : LevelControlState = (event_of (state_after First w.earlier) w.on).state in
            record {
              earlier = w.earlier;
              on = w.on;
              others = w.others ++ (e ∷ []);
              stands = ap (λ (l : List Event). l ++ (e ∷ [])) w.stands ∙ append_assoc w.earlier (w.on ∷ w.others) (e ∷ []);
              ok = w.ok;
              is_on = w.is_on;
              refusals = refuse_more on w.others e w.refusals (ap (λ (y : LevelControlState). accepted y e) w.leads ∙ bars);
              leads = state_after_append on w.others (e ∷ []) ∙ ap (λ (y : LevelControlState). (event_of y e).state) w.leads;
              before = w.before;
            };
        fades = λ f q.
            let w : Led es s f = h.fades f (ap (λ (y : LevelControlState). y.task) (sym same) ∙ q) in
            led_more es s f f e w w.run.fade refl refl (λ z. absurd (true≢false (sym z ∙ bars)));
      }
        where
          same : (event_of s e).state ≡ s
          same = refused_state s e bars

  known_first : Known [] First
  unfolding new_state
  known_first = record {
    reacts = λ r q. absurd (let u : ◌≡◌ {A = ℕ} 0 1 = cc in omega arith);
    fades = λ f q. absurd (let u : ◌≡◌ {A = ℕ} 0 1 = cc in omega arith);
  }

  known : (es : List Event) → Known es (state_after First es)
  known = lists_induction First Known known_first known_next

pub no_fade_left_out : NoFadeLeftOut
no_fade_left_out x s w f q = ((known x w.events).fades f (ap (λ (y : LevelControlState). y.task) w.leads ∙ q)).run

-- Where nothing left the fade as it was.

onward_kind : (s : LevelControlState) (e : Event) (s' : LevelControlState) → Follows s e s' → leaves_task s e ≡ false → is_onward e.kind ≡ true
onward_kind s e s' (answers f g since v p phase k q same) h = ap is_onward k
onward_kind s e s' (wakes f g until p phase due k q same) h = ap is_onward k
onward_kind s e s' (leaves f p left q) h = absurd (true≢false (sym left ∙ h))

onward_of : (r : Run) (es : List Event) → AllFollow r.state es → none_leaves r.state es ≡ true → only_onward r es ≡ true
onward_of r [] h n = refl
onward_of r (e ∷ es) h n =
    let parts = and_parts (not (accepted r.state e) || not (leaves_task r.state e)) (none_leaves (event_of r.state e).state es) n in
    let next_is : (event_of r.state e).state ≡ (next r e).state = sym (next_state_is r e) in
    and_from _ _ (one (accepted r.state e) refl parts.0)
    (onward_of (next r e) es (subst (λ (y : LevelControlState). AllFollow y es) next_is h.1)
    (subst (λ (y : LevelControlState). none_leaves y es ≡ true) next_is parts.1))
  where
    one : (b : Bool) → accepted r.state e ≡ b → (not b || not (leaves_task r.state e)) ≡ true → (not b || is_onward e.kind) ≡ true
    one true ok n = onward_kind r.state e (event_of r.state e).state (h.0 ok) (not-true (leaves_task r.state e) n)
    one false bars n = refl

pub onward_since : OnwardSince
onward_since first es f w n =
    let onward : only_onward (started w.outcome) w.since ≡ true = onward_of (started w.outcome) w.since w.followed n in
    (onward, λ pos small. every_fade w.outcome w.c w.t w.T w.since w.start (apart w.c w.t w.T w.start) pos small onward)
