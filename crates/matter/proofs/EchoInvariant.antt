-- What holds between two events of a command, of a lamp that gives back each asked level, and that each accepted answer and each accepted wake keeps it.
-- Assumes nothing.
use Rattle.std.specs.Prelude.{Option, Some, None, ℕ}
use Prim.Native.Nat.{ℕ, suc, ◌+◌, ◌-◌, ◌≤◌, ◌<◌}
use mathlib.Core.Bool.{Bool, true, false, cond, not, ◌&&◌, ◌||◌, true≢false, false≢true, or-true}
use mathlib.Core.Path.{◌≡◌, refl, sym, ap, subst, ◌∙◌}
use mathlib.Core.List.{List, [], ◌∷◌, ◌++◌, append-nil}
use native.Mathlib.Omega.{arith}
use native.Mathlib.Nat.{add-zero}
use borrow.Author.Tests.{eqb-true, eqb-false, eq-eqb, ne_eqb, lt-ltb}
use lib.Dec.{eqb}
use lib.ListN.{length, take, length-append}
use lib.Seq.{append_snoc, take_all, take_at}
use Rattle.std.proofs.lemmas.Bool.{and_parts}
use Rattle.units.specs.Units.{tenths}
use Rattle.units.specs.declared.Micros.{Micros}
use Rattle.units.specs.declared.Millis.{Millis}
use Rattle.units.specs.declared.Tenths.{Tenths}
use Rattle.transitions.specs.Actions.{Reports, reports_of}
use Rattle.transitions.specs.Events.{event}
use Rattle.transitions.specs.Actions.{act, act_coupled}
use Rattle.transitions.specs.Fade.{next_level, wait_or_ask}
use Rattle.transitions.specs.Tasks.{fade_last, fade_left, fade_next, fade_asking, fade_waiting, fade_from, kept_to_put_back, begin_fade, level_to_put_back, is_move_end, next_move, task_open, task_due, phase_open, phase_due}
use Rattle.transitions.specs.Types.{Level, Time, is_level, is_missing, level_or}
use Rattle.transitions.specs.declared.actions.ActionKind.TheVariants.{D, P, L, E}
use Rattle.transitions.specs.declared.events.DeviceAnswer.{DeviceAnswer}
use Rattle.transitions.specs.declared.events.DeviceAnswer.TheVariants as device
use Rattle.transitions.specs.declared.events.Event.{Event}
use Rattle.transitions.specs.declared.events.EventKind.{EventKind}
use Rattle.transitions.specs.declared.events.EventKind.TheVariants as kind
use Rattle.transitions.specs.declared.tasks.Begin.TheVariants as begin
use Rattle.transitions.specs.declared.tasks.Fade.{Fade}
use Rattle.transitions.specs.declared.tasks.FadeRequest.{FadeRequest}
use Rattle.transitions.specs.declared.tasks.Move.{Move}
use Rattle.transitions.specs.declared.tasks.Motion.{Motion}
use Rattle.transitions.specs.declared.tasks.MoveStep.{MoveStep}
use Rattle.transitions.specs.declared.tasks.MoveStep.TheVariants as next
use Rattle.transitions.specs.declared.tasks.OnReaction.{OnReaction}
use Rattle.transitions.specs.declared.tasks.Phase.{Phase}
use Rattle.transitions.specs.declared.tasks.Phase.TheVariants.{Asked, Waiting}
use Rattle.transitions.specs.declared.tasks.Task.{Task}
use Rattle.transitions.specs.declared.tasks.Task.TheVariants as task
use Rattle.transitions.specs.declared.types.Mode.{Mode}
use Rattle.transitions.specs.declared.types.Mode.TheVariants.{Up, Down}
use Rattle.transitions.proofs.RuleLaws.{moves_up, moves_down}
use Rattle.level_control.specs.Answer.{Outcome, done}
use Rattle.level_control.specs.Handle.{fade_answered_in, move_answered_in, answered_in, woken_in, number_of, event_of}
use Rattle.level_control.specs.Fades.{fade_stored, fade_told, ended_put_back, fade_ended_by, fade_ended, fade_then, fade_goes_on, move_to_level_transition, fade_answered, fade_woken}
use Rattle.level_control.specs.Moves.{leaves_min, move_ends, move_by, move_goes_on, move_next, move_then, move_transition, move_answered}
use Rattle.level_control.specs.Path.{path}
use Rattle.level_control.specs.Reports.{Told, set_level, told_level, write_remaining_time}
use Rattle.level_control.specs.Coupling.{coupled_by}
use Rattle.level_control.specs.Run.{Run, Pending, Nothing, Request, Wait, asks, opened, closed_by, accepted, started, play, next as next_run, last_of, is_echo, only_echo}
use Rattle.level_control.specs.Starts.{distance}
use Rattle.level_control.specs.State.{accept, with_task}
use Rattle.level_control.specs.Reactions.{on_time, on_to, on_goes_on, on_answered}
use Rattle.level_control.specs.Targets.{quiet, request_to, go_to_by, go_to}
use Rattle.level_control.specs.declared.state.LevelControlState.{LevelControlState}
use Rattle.level_control.proofs.EventLaws.{event_number}
use Rattle.level_control.proofs.FadeInvariant as fade
use Rattle.level_control.proofs.StartLaws.{target_is, given_is}
use Rattle.level_control.proofs.PathLaws.{path_step, path_end, length_path}
use Rattle.level_control.proofs.SeenLaws.{Silent, silent_append, silent_if, silent_reports, silent_coupled, asks_append, opened_append, asks_after, opened_after}
use Rattle.matter.specs.Matter.{Effect, NoEffect, Goes, goes, within, or_else, after_on}
use Rattle.matter.specs.Agreement.{IsLevel}
use Rattle.matter.proofs.Changes.{within_is, given_same}
use Rattle.matter.specs.Ends.{limit, way as way_in, way_of, level_reached, Arrives}

pub last_snoc : (l : List ℕ) (x : ℕ) → last_of (l ++ x ∷ []) ≡ x
last_snoc [] x = refl
last_snoc (a ∷ []) x = refl
last_snoc (a ∷ b ∷ l) x = last_snoc (b ∷ l) x

-- what is seen of a task at a level, on the way to another: the request for it is open, or it was answered and the task waits

abbrev pub seen_in : Phase → ℕ → ℕ → List ℕ → ℕ → Pending → Type 0
seen_in (Asked since) at to asked k p = (last_of asked ≡ at) × (length asked ≡ k + 1) × (p ≡ Request)
seen_in (Waiting until) at to asked k p = (at ≡ to → ⊥) × (length asked ≡ k) × (p ≡ Wait)

answered_phase : (a : DeviceAnswer) (q : Phase) (at to : ℕ) (asked : List ℕ) (k : ℕ) (p : Pending) → phase_open q ≡ true → seen_in q at to asked k p
    → closed_by (kind.Answer a) p ≡ Nothing
answered_phase a (Asked since) at to asked k p o seen = rw seen.2 refl
answered_phase a (Waiting until) at to asked k p o seen = absurd (false≢true o)

woken_phase : (now : Micros) (q : Phase) (at to : ℕ) (asked : List ℕ) (k : ℕ) (p : Pending) → phase_due q now ≡ true → seen_in q at to asked k p
    → closed_by kind.Wake p ≡ Nothing
woken_phase now (Asked since) at to asked k p o seen = absurd (false≢true o)
woken_phase now (Waiting until) at to asked k p o seen = rw seen.2 refl

no_request : Request ≡ Nothing → ⊥
no_request e = let z : ◌≡◌ {A = ℕ} 0 1 = cc in omega arith

no_wait : Wait ≡ Nothing → ⊥
no_wait e = let z : ◌≡◌ {A = ℕ} 0 1 = cc in omega arith

-- a move that waits goes on from the stored level
abbrev pub stands : Phase → Level → ℕ → Type 0
stands (Asked since) level at = Unit {0}
stands (Waiting until) level at = level ≡ Some at

-- a level past the end from which a move comes
abbrev pub Inside : Mode → ℕ → ℕ → ℕ → Type 0
Inside Up lo hi level = (lo < level) × (level ≤ hi)
Inside Down lo hi level = (lo ≤ level) × (level < hi)

-- the level that stands when the fade has ended
abbrev pub left_at : Level → ℕ → ℕ
left_at (Some before) to = before
left_at None to = to

-- a level at which a move has not arrived
abbrev pub Short : Mode → ℕ → ℕ → ℕ → Type 0
Short Up lo hi level = (lo ≤ level) × (level < hi)
Short Down lo hi level = (lo < level) × (level ≤ hi)

-- and the next one
pub record Onward (mode : Mode) (lo hi level further : ℕ) : Type 0 where
  pub asks : next_move (Some level) mode ≡ next.Asks further
  pub leads : path level (limit mode lo hi) ≡ further ∷ path further (limit mode lo hi)
  pub inside : Inside mode lo hi further

pub path_rises : (c t : ℕ) → c < t → path c t ≡ (c + 1) ∷ path (c + 1) t
path_rises c t h =
    path_step c t (tenths 1) (omega arith) (λ z. omega arith) ∙ ap (λ (x : ℕ). x ∷ path x t) (moves_up c t (tenths 1) (omega arith) h)

pub path_falls : (c t : ℕ) → t < c → path c t ≡ (c - 1) ∷ path (c - 1) t
path_falls c t h =
    path_step c t (tenths 1) (omega arith) (λ z. omega arith) ∙ ap (λ (x : ℕ). x ∷ path x t) (moves_down c t (tenths 1) (omega arith) h)

pub onward : (mode : Mode) (lo hi level : ℕ) → Short mode lo hi level → hi ≤ 254 → (further : ℕ) × Onward mode lo hi level further
unfolding next_move
onward Up lo hi level (low, high) small =
    (level + 1, record { asks = rw (lt-ltb level 255 (omega arith)) refl; leads = path_rises level hi high; inside = (omega arith, omega arith) })
onward Down lo hi level (low, high) small =
    (level - 1, record { asks = rw (lt-ltb 0 level (omega arith)) refl; leads = path_falls level lo low; inside = (omega arith, omega arith) })

pub short : (mode : Mode) (lo hi level : ℕ) → Inside mode lo hi level → (level ≡ limit mode lo hi → ⊥) → Short mode lo hi level
short Up lo hi level (low, high) far = (omega arith, omega arith)
short Down lo hi level (low, high) far = (omega arith, omega arith)

-- the end of a move is its limit

ends_at : (mode : Mode) (lo hi level : ℕ) → Inside mode lo hi level → is_move_end level lo hi ≡ true → level ≡ limit mode lo hi
ends_at mode lo hi level inside e = by mode inside (eqb level hi) refl (eqb level lo) refl e
  where
    by : (mode : Mode) → Inside mode lo hi level → (a : Bool) → eqb level hi ≡ a → (b : Bool) → eqb level lo ≡ b → (a || b) ≡ true → level ≡ limit mode lo hi
    by Up inside true p b q e = eqb-true level hi p
    by Up inside false p true q e = let z = eqb-true level lo q in let h = inside.0 in absurd (omega arith)
    by Up inside false p false q e = absurd (false≢true e)
    by Down inside a p true q e = eqb-true level lo q
    by Down inside true p false q e = let z = eqb-true level hi p in let h = inside.1 in absurd (omega arith)
    by Down inside false p false q e = absurd (false≢true e)

goes_on_at : (mode : Mode) (lo hi level : ℕ) → is_move_end level lo hi ≡ false → level ≡ limit mode lo hi → ⊥
goes_on_at Up lo hi level e same = true≢false (sym (ap (λ (b : Bool). b || eqb level lo) (eq-eqb level hi same)) ∙ e)
goes_on_at Down lo hi level e same = true≢false (sym (ap (λ (b : Bool). eqb level hi || b) (eq-eqb level lo same) ∙ or-true (eqb level hi)) ∙ e)

-- the way of a fade begins with its counter

way_starts : (c t : ℕ) (T : Tenths) → (c ≡ t → ⊥) → way_in c t T.0 ≡ next_level c t T ∷ path (next_level c t T) t
unfolding next_level
way_starts c t T ne = by (eqb T.0 0) refl
  where
    by : (b : Bool) → eqb T.0 0 ≡ b → cond b (t ∷ []) (path c t) ≡ next_level c t T ∷ path (next_level c t T) t
    by true e = rw (e, path_end t) refl
    by false e = path_step c t T (let z = eqb-false T.0 0 e in omega arith) ne

way_timed : (c t : ℕ) (T : Tenths) → (next_level c t T ≡ t → ⊥) → 1 ≤ T.0
unfolding next_level
way_timed c t T far = by (eqb T.0 0) refl
  where
    by : (b : Bool) → eqb T.0 0 ≡ b → 1 ≤ T.0
    by true e = absurd (far (rw e refl))
    by false e = let z = eqb-false T.0 0 e in omega arith

-- what the document says after on, in a state, from the level before
abbrev pub on_goes : LevelControlState → Level → Effect
on_goes s before =
    after_on s.attributes.on_level before s.settings.range.min s.settings.range.max s.attributes.on_transition_time s.attributes.on_off_transition_time.0

-- a change that is none leaves the level, which is its end
goes_to : (c to T : ℕ) → level_reached (goes c to T) c ≡ to
goes_to c to T = by (eqb c to) refl
  where
    by : (b : Bool) → eqb c to ≡ b → level_reached (cond b NoEffect (Goes c to T)) c ≡ to
    by true e = eqb-true c to e
    by false e = refl

module _ (way : List ℕ) (last : ℕ) where
  -- a running fade: what was asked for, with what is left to ask for, is the way
  pub record Fading (on_level : Level) (asked : List ℕ) (k : ℕ) (p : Pending) (f : Fade) : Type 0 where
    pub split : asked ++ path f.counter f.target ≡ way
    pub ends : left_at (level_to_put_back f.put_back on_level) f.target ≡ last
    pub timed : (f.counter ≡ f.target → ⊥) → 1 ≤ f.transition_time.0
    pub seen : seen_in f.phase f.counter f.target asked k p

  -- a running move
  pub record Moving (lo hi : ℕ) (level : Level) (asked : List ℕ) (k : ℕ) (p : Pending) (m : Move) : Type 0 where
    pub split : asked ++ path m.asked (limit m.motion.mode lo hi) ≡ way
    pub ends : limit m.motion.mode lo hi ≡ last
    pub small : hi ≤ 254
    pub inside : Inside m.motion.mode lo hi m.asked
    pub stored : stands m.phase level m.asked
    pub seen : seen_in m.phase m.asked (limit m.motion.mode lo hi) asked k p

  -- on's request for the minimum is open
  pub record Reacting (lo hi : ℕ) (on_level : Level) (given : Time) (common : ℕ) (asked : List ℕ) (k : ℕ) (p : Pending) (before : Level) : Type 0 where
    pub way_is : lo ∷ way_of (after_on on_level before lo hi given common) ≡ way
    pub ends : level_reached (after_on on_level before lo hi given common) lo ≡ last
    pub order : lo ≤ hi
    pub level_on : IsLevel on_level
    pub level_before : IsLevel before
    pub first : asked ≡ lo ∷ []
    pub count : k ≡ 0
    pub seen : p ≡ Request

  abbrev pub Held : LevelControlState → List ℕ → ℕ → Pending → Task → Type 0
  Held s asked k p task.Rest = (k ≡ length way) × (asked ≡ way) × (s.current_level ≡ Some last) × (p ≡ Nothing)
  Held s asked k p task.StartUp = ⊥
  Held s asked k p (task.Fade f) = Fading s.attributes.on_level asked k p f
  Held s asked k p (task.Move m) = Moving s.settings.range.min s.settings.range.max s.current_level asked k p m
  Held s asked k p (task.OnReaction r) =
      Reacting s.settings.range.min s.settings.range.max s.attributes.on_level s.attributes.on_transition_time s.attributes.on_off_transition_time.0 asked k p
      r.before

  -- after an outcome that closed what was open
  abbrev pub After : List ℕ → ℕ → Outcome → Type 0
  After asked k o = Held o.state (asked ++ asks o.actions) k (opened o.actions Nothing) o.state.task

  -- at the end of the way all is asked for
  all_asked : (asked : List ℕ) (at to : ℕ) → asked ++ path at to ≡ way → at ≡ to → asked ≡ way
  all_asked asked at to e same =
      sym (append-nil asked) ∙ ap (λ (l : List ℕ). asked ++ l) (sym (ap (λ (x : ℕ). path x to) same ∙ path_end to)) ∙ e

  -- Fades.

  -- the next request
  fade_asks : (f : Fade) (remaining : Millis) (at : Micros) (asked : List ℕ) (k : ℕ) (on_level : Level) → asked ++ path f.counter f.target ≡ way
      → left_at (level_to_put_back f.put_back on_level) f.target ≡ last → ((f.counter ≡ f.target → ⊥) → 1 ≤ f.transition_time.0) → (f.counter ≡ f.target → ⊥)
      → length asked ≡ k
      → Fading on_level (asked ++ ((fade_asking f remaining at).counter ∷ [])) k Request (fade_asking f remaining at)
  unfolding fade_asking
  fade_asks f remaining at asked k on_level split ends timed far count = record {
    split =
        append_snoc asked (next_level f.counter f.target f.transition_time) _
        ∙ ap (λ (l : List ℕ). asked ++ l) (sym (path_step f.counter f.target f.transition_time (timed far) far))
        ∙ split;
    ends = ends;
    timed = λ _. timed far;
    seen = (last_snoc asked _, length-append asked _ ∙ omega (arith, count), refl);
  }

  -- an end: the task rests, and nothing is asked
  rests : (asked : List ℕ) (k : ℕ) (o : Outcome) → o.state.task ≡ task.Rest → Silent o.actions → o.state.current_level ≡ Some last → asked ≡ way
      → k ≡ length way → After asked k o
  rests asked k o rest silent level all count = rw (rest, silent.no_ask, silent.no_open Nothing, append-nil) (count, all, level, refl)

  fade_rests : (told : Told) (f : Fade) (asked : List ℕ) (k : ℕ) → told.state.current_level ≡ Some f.target
      → left_at (level_to_put_back f.put_back told.state.attributes.on_level) f.target ≡ last → asked ≡ way → k ≡ length way
      → After asked k (fade_ended told f.put_back)
  unfolding fade_ended ended_put_back
  fade_rests told f asked k level ends all count = by (level_to_put_back f.put_back told.state.attributes.on_level) ends
    where
      by : (l : Level) → left_at l f.target ≡ last → After asked k (fade_ended_by l told)
      by None e =
          rests asked k (done (with_task told.state task.Rest) (reports_of told.reports)) refl (silent_reports told.reports) (level ∙ ap (λ (x : ℕ). Some x) e) all count
      by (Some before) e =
          rests asked k (ended_put_back told before) refl
          (silent_append _ _
          (silent_append _ _ (silent_reports told.reports)
          (silent_if P (not (is_level told.state.current_level before)) (record { no_ask = refl; no_open = λ p. refl })))
          (record { no_ask = refl; no_open = λ p. refl }))
          (ap (λ (x : ℕ). Some x) e) all count

  fade_continues : (told : Told) (f : Fade) (since at : Micros) (asked : List ℕ) (k : ℕ) → asked ++ path f.counter f.target ≡ way
      → left_at (level_to_put_back f.put_back told.state.attributes.on_level) f.target ≡ last → ((f.counter ≡ f.target → ⊥) → 1 ≤ f.transition_time.0)
      → (f.counter ≡ f.target → ⊥) → length asked ≡ k → After asked k (fade_goes_on told f since at)
  unfolding fade_goes_on fade_waiting fade_asking
  fade_continues told f since at asked k split ends timed far count = by (fade_next f since at)
    where
      by : (n : Option Micros) → After asked k (fade_then n told f at)
      by (Some until) =
          rw (asks_after, opened_after, append-nil asked) (record { split = split; ends = ends; timed = timed; seen = (far, count, refl) })
      by None = rw (asks_after, opened_after) (fade_asks f (fade_left f) at asked k told.state.attributes.on_level split ends timed far count)

  told_attributes : (s : LevelControlState) (f : Fade) (at : Micros) (on : Bool) (v : ℕ) → (fade_told s f at on v).state.attributes ≡ s.attributes
  unfolding fade_told fade_stored set_level write_remaining_time
  told_attributes s f at on v = refl

  told_stored : (s : LevelControlState) (f : Fade) (at : Micros) (on : Bool) (v : ℕ) → (fade_told s f at on v).state.current_level ≡ Some v
  unfolding fade_told fade_stored set_level write_remaining_time
  told_stored s f at on v = refl

  fade_answer : (s : LevelControlState) (f : Fade) (since at : Micros) (on : Bool) (v : ℕ) (asked : List ℕ) (k : ℕ) (p : Pending)
      → Fading s.attributes.on_level asked k p f → f.phase ≡ Asked since → v ≡ last_of asked → After asked (k + 1) (move_to_level_transition s f since at on v)
  unfolding move_to_level_transition
  fade_answer s f since at on v asked k p h phase echo = by (fade_last f) refl
    where
      told : Told
      told = fade_told s f at on v

      seen : seen_in (Asked since) f.counter f.target asked k p
      seen = subst (λ (q : Phase). seen_in q f.counter f.target asked k p) phase h.seen

      ends : left_at (level_to_put_back f.put_back told.state.attributes.on_level) f.target ≡ last
      ends = rw (told_attributes s f at on v) h.ends

      by : (b : Bool) → fade_last f ≡ b → After asked (k + 1) (cond b (fade_ended told f.put_back) (fade_goes_on told f since at))
      by true e =
          let here : f.counter ≡ f.target = eqb-true _ _ e in
          let all : asked ≡ way = all_asked asked f.counter f.target h.split here in
          fade_rests told f asked (k + 1) (told_stored s f at on v ∙ ap (λ (x : ℕ). Some x) (echo ∙ seen.0 ∙ here)) ends all
          (sym seen.1 ∙ ap length all)
      by false e = fade_continues told f since at asked (k + 1) h.split ends h.timed (eqb-false _ _ e) seen.1

  fade_wake : (s : LevelControlState) (f : Fade) (at until : Micros) (asked : List ℕ) (k : ℕ) (p : Pending)
      → Fading s.attributes.on_level asked k p f → f.phase ≡ Waiting until → After asked k (fade_woken s f at)
  unfolding fade_woken fade_asking
  fade_wake s f at until asked k p h phase =
      let seen : seen_in (Waiting until) f.counter f.target asked k p = subst (λ (q : Phase). seen_in q f.counter f.target asked k p) phase h.seen in
      fade_asks f f.remaining at asked k s.attributes.on_level h.split h.ends h.timed seen.0 seen.1

  -- Moves.

  -- the actions of a move's next request
  request_asks : (r : Reports) (c : Option Bool) (a : ℕ) → asks (reports_of r ++ act_coupled c ++ act D a) ≡ a ∷ []
  request_asks r c a =
      asks_append (reports_of r ++ act_coupled c) (act D a)
      ∙ ap (λ (l : List ℕ). l ++ (a ∷ [])) (asks_after r (act_coupled c) ∙ (silent_coupled c).no_ask)

  request_opens : (r : Reports) (c : Option Bool) (a : ℕ) (p : Pending) → opened (reports_of r ++ act_coupled c ++ act D a) p ≡ Request
  request_opens r c a p = opened_append (reports_of r ++ act_coupled c) (act D a) p

  move_asks : (told : Told) (m : Motion) (at : Micros) (on : Bool) (asked : List ℕ) (k v a : ℕ) → told.state.current_level ≡ Some v
      → Onward m.mode told.state.settings.range.min told.state.settings.range.max v a
      → asked ++ path v (limit m.mode told.state.settings.range.min told.state.settings.range.max) ≡ way
      → limit m.mode told.state.settings.range.min told.state.settings.range.max ≡ last → told.state.settings.range.max ≤ 254 → length asked ≡ k
      → After asked k (move_goes_on told m at on)
  unfolding move_goes_on
  move_asks told m at on asked k v a level further split ends small count =
      subst (λ (x : MoveStep). After asked k (move_by x told m at on)) (sym (ap (λ (l : Level). next_move l m.mode) level ∙ further.asks))
      (rw (request_asks told.reports coupling a, request_opens told.reports coupling a Nothing)
      (record {
        split = append_snoc asked a _ ∙ ap (λ (l : List ℕ). asked ++ l) (sym further.leads) ∙ split;
        ends = ends;
        small = small;
        inside = further.inside;
        stored = tt;
        seen = (last_snoc asked a, length-append asked _ ∙ omega (arith, count), refl);
      }))
    where
      coupling : Option Bool
      coupling = leaves_min told.state a m.with_on_off on

  pub move_follows : (told : Told) (m : Motion) (at : Micros) (on : Bool) (asked : List ℕ) (k v : ℕ) → told.state.current_level ≡ Some v
      → Short m.mode told.state.settings.range.min told.state.settings.range.max v
      → asked ++ path v (limit m.mode told.state.settings.range.min told.state.settings.range.max) ≡ way
      → limit m.mode told.state.settings.range.min told.state.settings.range.max ≡ last → told.state.settings.range.max ≤ 254 → length asked ≡ k
      → After asked k (move_goes_on told m at on)
  move_follows told m at on asked k v level short split ends small count =
      let further = onward m.mode told.state.settings.range.min told.state.settings.range.max v short small in
      move_asks told m at on asked k v further.0 level further.1 split ends small count

  move_answer : (s : LevelControlState) (m : Move) (since at : Micros) (on : Bool) (v : ℕ) (asked : List ℕ) (k : ℕ) (p : Pending)
      → Moving s.settings.range.min s.settings.range.max s.current_level asked k p m → m.phase ≡ Asked since → v ≡ last_of asked
      → After asked (k + 1) (move_transition s m since at on v)
  unfolding move_transition move_ends move_then told_level set_level
  move_answer s m since at on v asked k p h phase echo = by (is_move_end m.asked lo hi) refl
    where
      lo : ℕ
      lo = s.settings.range.min

      hi : ℕ
      hi = s.settings.range.max

      to : ℕ
      to = limit m.motion.mode lo hi

      seen : seen_in (Asked since) m.asked to asked k p
      seen = subst (λ (q : Phase). seen_in q m.asked to asked k p) phase h.seen

      stored : v ≡ m.asked
      stored = echo ∙ seen.0

      told : Bool → Told
      told b = told_level s (Some v) at b

      waits_or_asks : (b : Bool) → (m.asked ≡ to → ⊥) → (n : Option Micros) → After asked (k + 1) (move_next n (told b) m at on)
      waits_or_asks b far (Some until) =
          rw (asks_after, opened_after, append-nil asked)
          (record {
            split = h.split;
            ends = h.ends;
            small = h.small;
            inside = h.inside;
            stored = ap (λ (x : ℕ). Some x) stored;
            seen = (far, seen.1, refl);
          })
      waits_or_asks b far None =
          move_follows (told b) m.motion at on asked (k + 1) m.asked (ap (λ (x : ℕ). Some x) stored) (short m.motion.mode lo hi m.asked h.inside far) h.split h.ends
          h.small seen.1

      by : (b : Bool) → is_move_end m.asked lo hi ≡ b
          → After asked (k + 1)
          (cond b
          (done (with_task (told b).state task.Rest) (reports_of (told b).reports ++ act_coupled (coupled_by s v m.motion.with_on_off on)))
          (move_next (wait_or_ask since at m.motion.period) (told b) m at on))
      by true e =
          let here : m.asked ≡ to = ends_at m.motion.mode lo hi m.asked h.inside e in
          let all : asked ≡ way = all_asked asked m.asked to h.split here in
          rests asked (k + 1) (done (with_task (told true).state task.Rest) (reports_of (told true).reports ++ act_coupled (coupled_by s v m.motion.with_on_off on)))
          refl
          (silent_append _ _ (silent_reports (told true).reports) (silent_coupled (coupled_by s v m.motion.with_on_off on)))
          (ap (λ (x : ℕ). Some x) (stored ∙ here ∙ h.ends)) all (sym seen.1 ∙ ap length all)
      by false e = waits_or_asks false (goes_on_at m.motion.mode lo hi m.asked e) (wait_or_ask since at m.motion.period)

  move_wake : (s : LevelControlState) (m : Move) (at until : Micros) (on : Bool) (asked : List ℕ) (k : ℕ) (p : Pending)
      → Moving s.settings.range.min s.settings.range.max s.current_level asked k p m → m.phase ≡ Waiting until → After asked k (move_goes_on (quiet s) m.motion at on)
  move_wake s m at until on asked k p h phase =
      let to = limit m.motion.mode s.settings.range.min s.settings.range.max in
      let seen : seen_in (Waiting until) m.asked to asked k p = subst (λ (q : Phase). seen_in q m.asked to asked k p) phase h.seen in
      let stored : s.current_level ≡ Some m.asked = subst (λ (q : Phase). stands q s.current_level m.asked) phase h.stored in
      move_follows (quiet s) m.motion at on asked k m.asked stored (short m.motion.mode s.settings.range.min s.settings.range.max m.asked h.inside seen.0) h.split h.ends
      h.small seen.1

  -- A target, and the reaction to on.

  -- a fade to a target begins, or it is reached
  pub go_to_holds : (told : Told) (r : FadeRequest) (at : Micros) (on : Bool) (asked : List ℕ) (k c : ℕ) → told.state.current_level ≡ Some c
      → left_at (level_to_put_back (kept_to_put_back r.puts_back c) told.state.attributes.on_level) r.target ≡ last
      → asked ++ way_of (goes c r.target r.transition_time.0) ≡ way → (c ≡ r.target → c ≡ last) → length asked ≡ k → After asked k (go_to told r at on)
  unfolding go_to begin_fade fade_from
  go_to_holds told r at on asked k c level ends split reached count =
      subst (λ (y : Level). After asked k (go_to_by (begin_fade y r at) told r on)) (sym level) (by (eqb c r.target) refl split)
    where
      by : (b : Bool) → eqb c r.target ≡ b → asked ++ way_of (cond b NoEffect (Goes c r.target r.transition_time.0)) ≡ way
          → After asked k (go_to_by (cond b begin.Reached (begin.Starts (fade_from c r at))) told r on)
      by true e w =
          let all : asked ≡ way = sym (append-nil asked) ∙ w in
          rests asked k (go_to_by begin.Reached told r on) refl
          (silent_append _ _
          (silent_append _ _ (silent_reports told.reports) (silent_coupled (coupled_by told.state r.target r.with_on_off on)))
          (silent_if L (r.puts_back && is_missing told.state.attributes.on_level) (record { no_ask = refl; no_open = λ p. refl })))
          (level ∙ ap (λ (x : ℕ). Some x) (reached (eqb-true _ _ e))) all (sym count ∙ ap length all)
      by false e w =
          rw (asks_after, opened_after)
          (record {
            split = append_snoc asked _ _ ∙ ap (λ (l : List ℕ). asked ++ l) (sym (way_starts c r.target r.transition_time (eqb-false _ _ e))) ∙ w;
            ends = ends;
            timed = way_timed c r.target r.transition_time;
            seen = (last_snoc asked _, length-append asked _ ∙ omega (arith, count), refl);
          })

  -- the answer to on's request gives back the minimum: then the level goes on as the document says
  on_answer : (s : LevelControlState) (r : OnReaction) (at : Micros) (on : Bool) (v : ℕ) (asked : List ℕ) (k : ℕ) (p : Pending)
      → Held s asked k p (task.OnReaction r) → v ≡ last_of asked → After asked (k + 1) (on_answered s r at on (device.Level v))
  unfolding on_answered on_goes_on level_or told_level set_level on_time level_to_put_back
  on_answer s r at on v asked k p h echo = by s.attributes.on_level r.before h.level_on h.level_before h.way_is h.ends
    where
      lo : ℕ
      lo = s.settings.range.min

      hi : ℕ
      hi = s.settings.range.max

      given : Time
      given = s.attributes.on_transition_time

      common : ℕ
      common = s.attributes.on_off_transition_time.0

      told : Told
      told = told_level s (Some v) at false

      minimum : v ≡ lo
      minimum = echo ∙ ap last_of h.first

      count : length asked ≡ k + 1
      count = ap length h.first ∙ omega (arith, h.count)

      to_level : (level : ℕ) → level ≤ 254 → lo ∷ way_of (goes lo (within lo hi level) (or_else given common)) ≡ way
          → level_reached (goes lo (within lo hi level) (or_else given common)) lo ≡ last
          → After asked (k + 1) (go_to told (request_to told.state level (on_time told.state) true false false) at on)
      to_level level small w e =
          let request : FadeRequest = request_to told.state level (on_time told.state) true false false in
          let to : request.target ≡ within lo hi level = target_is s level ∙ within_is s level h.order small in
          let time : request.transition_time.0 ≡ or_else given common = given_is given s.attributes.on_off_transition_time ∙ given_same given common in
          let same : goes v request.target request.transition_time.0 ≡ goes lo (within lo hi level) (or_else given common) = rw (minimum, to, time) refl in
          go_to_holds told request at on asked (k + 1) v refl (to ∙ sym (goes_to lo (within lo hi level) (or_else given common)) ∙ e)
          (ap (λ (x : Effect). asked ++ way_of x) same ∙ ap (λ (l : List ℕ). l ++ way_of (goes lo (within lo hi level) (or_else given common))) h.first ∙ w)
          (λ here. here ∙ to ∙ sym (goes_to lo (within lo hi level) (or_else given common)) ∙ e) count

      by : (o b : Level) → IsLevel o → IsLevel b → lo ∷ way_of (after_on o b lo hi given common) ≡ way → level_reached (after_on o b lo hi given common) lo ≡ last
          → After asked (k + 1) (on_to (level_or o b) told at on)
      by (Some level) b x y w e = to_level level x w e
      by None (Some level) x y w e = to_level level y w e
      by None None x y w e =
          let all : asked ≡ way = h.first ∙ w in
          rests asked (k + 1) (done (with_task told.state task.Rest) (reports_of told.reports ++ act E 15)) refl
          (silent_append _ _ (silent_reports told.reports) (record { no_ask = refl; no_open = λ p. refl })) (ap (λ (x : ℕ). Some x) (minimum ∙ e)) all
          (sym count ∙ ap length all)

  -- One event.

  after_answer : (s : LevelControlState) (v : ℕ) (at : Micros) (on : Bool) (asked : List ℕ) (k : ℕ) (p : Pending) (x : Task)
      → task_open x ≡ true → Held s asked k p x → v ≡ last_of asked → After asked (k + 1) (answered_in x s (device.Level v) at on)
  unfolding fade_answered move_answered
  after_answer s v at on asked k p task.Rest o h e = absurd (false≢true o)
  after_answer s v at on asked k p task.StartUp o h e = absurd h
  after_answer s v at on asked k p (task.Fade f) o h e = by f.phase refl o
    where
      by : (q : Phase) → f.phase ≡ q → phase_open q ≡ true → After asked (k + 1) (fade_answered_in q s f (device.Level v) at on)
      by (Asked since) q o = fade_answer s f since at on v asked k p h q e
      by (Waiting until) q o = absurd (false≢true o)
  after_answer s v at on asked k p (task.Move m) o h e = by m.phase refl o
    where
      by : (q : Phase) → m.phase ≡ q → phase_open q ≡ true → After asked (k + 1) (move_answered_in q s m (device.Level v) at on)
      by (Asked since) q o = move_answer s m since at on v asked k p h q e
      by (Waiting until) q o = absurd (false≢true o)
  after_answer s v at on asked k p (task.OnReaction r) o h e = on_answer s r at on v asked k p h e

  after_wake : (s : LevelControlState) (at : Micros) (on : Bool) (asked : List ℕ) (k : ℕ) (p : Pending) (x : Task)
      → task_due x at ≡ true → Held s asked k p x → After asked k (woken_in x s at on)
  after_wake s at on asked k p task.Rest o h = absurd (false≢true o)
  after_wake s at on asked k p task.StartUp o h = absurd h
  after_wake s at on asked k p (task.Fade f) o h = by f.phase refl o
    where
      by : (q : Phase) → f.phase ≡ q → phase_due q at ≡ true → After asked k (fade_woken s f at)
      by (Asked since) q o = absurd (false≢true o)
      by (Waiting until) q o = fade_wake s f at until asked k p h q
  after_wake s at on asked k p (task.Move m) o h = by m.phase refl o
    where
      by : (q : Phase) → m.phase ≡ q → phase_due q at ≡ true → After asked k (move_goes_on (quiet s) m.motion at on)
      by (Asked since) q o = absurd (false≢true o)
      by (Waiting until) q o = move_wake s m at until on asked k p h q
  after_wake s at on asked k p (task.OnReaction r) o h = absurd (false≢true o)

  -- what was open is closed by the event

  answer_closes : (a : DeviceAnswer) (s : LevelControlState) (asked : List ℕ) (k : ℕ) (p : Pending) (x : Task) → task_open x ≡ true → Held s asked k p x
      → closed_by (kind.Answer a) p ≡ Nothing
  answer_closes a s asked k p task.Rest o h = absurd (false≢true o)
  answer_closes a s asked k p task.StartUp o h = absurd h
  answer_closes a s asked k p (task.Fade f) o h = answered_phase a f.phase _ _ asked k p o h.seen
  answer_closes a s asked k p (task.Move m) o h = answered_phase a m.phase _ _ asked k p o h.seen
  answer_closes a s asked k p (task.OnReaction r) o h = rw h.seen refl

  wake_closes : (at : Micros) (s : LevelControlState) (asked : List ℕ) (k : ℕ) (p : Pending) (x : Task) → task_due x at ≡ true → Held s asked k p x
      → closed_by kind.Wake p ≡ Nothing
  wake_closes at s asked k p task.Rest o h = absurd (false≢true o)
  wake_closes at s asked k p task.StartUp o h = absurd h
  wake_closes at s asked k p (task.Fade f) o h = woken_phase at f.phase _ _ asked k p o h.seen
  wake_closes at s asked k p (task.Move m) o h = woken_phase at m.phase _ _ asked k p o h.seen
  wake_closes at s asked k p (task.OnReaction r) o h = absurd (false≢true o)

  abbrev pub Kept : Run → Type 0
  Kept r = Held r.state r.asked r.answers r.pending r.state.task

  keep_answer : (r : Run) (at : Micros) (on : Bool) (v : ℕ) → number_of r.state (event at on (kind.Answer (device.Level v))) ≡ 0
      → Kept r → v ≡ last_of r.asked → Kept (next_run r (event at on (kind.Answer (device.Level v))))
  keep_answer r at on v z h echo =
      let s : LevelControlState = r.state in
      let e : Event = event at on (kind.Answer (device.Level v)) in
      let o : Outcome = answered_in s.task (accept s at) (device.Level v) at on in
      let opens : task_open s.task ≡ true = fade.is_open 0 0 1 (omega arith) (omega arith) s at on (device.Level v) z in
      let same : event_of s e ≡ o = fade.answer_is 0 0 1 (omega arith) (omega arith) s at on v z in
      let zero : o.number ≡ 0 = ap (λ (y : Outcome). y.number) (sym same) ∙ event_number s e ∙ z in
      rw (fade.next_is 0 0 1 (omega arith) (omega arith) r e o same zero, answer_closes (device.Level v) s r.asked r.answers r.pending s.task opens h)
      (after_answer (accept s at) v at on r.asked r.answers r.pending s.task opens h echo)

  keep_wake : (r : Run) (at : Micros) (on : Bool) → number_of r.state (event at on kind.Wake) ≡ 0 → Kept r → Kept (next_run r (event at on kind.Wake))
  keep_wake r at on z h =
      let s : LevelControlState = r.state in
      let e : Event = event at on kind.Wake in
      let o : Outcome = woken_in s.task (accept s at) at on in
      let due : task_due s.task at ≡ true = fade.is_due 0 0 1 (omega arith) (omega arith) s at on z in
      let same : event_of s e ≡ o = fade.wake_is 0 0 1 (omega arith) (omega arith) s at on z in
      let zero : o.number ≡ 0 = ap (λ (y : Outcome). y.number) (sym same) ∙ event_number s e ∙ z in
      rw (fade.next_is 0 0 1 (omega arith) (omega arith) r e o same zero, wake_closes at s r.asked r.answers r.pending s.task due h, add-zero)
      (after_wake (accept s at) at on r.asked r.answers r.pending s.task due h)

  keep_echo : (r : Run) (at : Micros) (on : Bool) (k : EventKind) → is_echo k (last_of r.asked) ≡ true → number_of r.state (event at on k) ≡ 0
      → Kept r → Kept (next_run r (event at on k))
  keep_echo r at on kind.StartUp w z h = absurd (false≢true w)
  keep_echo r at on (kind.Answer (device.Level v)) w z h = keep_answer r at on v z h (eqb-true _ _ w)
  keep_echo r at on (kind.Answer device.Missing) w z h = absurd (false≢true w)
  keep_echo r at on (kind.Answer device.Failed) w z h = absurd (false≢true w)
  keep_echo r at on kind.Wake w z h = keep_wake r at on z h
  keep_echo r at on (kind.Command c) w z h = absurd (false≢true w)

  -- every event that the list may hold keeps it, a refused one too
  pub keep : (r : Run) (e : Event) → (not (accepted r.state e) || is_echo e.kind (last_of r.asked)) ≡ true → Kept r → Kept (next_run r e)
  keep r e w h = go (eqb (number_of r.state e) 0) refl
    where
      go : (b : Bool) → eqb (number_of r.state e) 0 ≡ b → Kept (next_run r e)
      go true q =
          let z = eqb-true (number_of r.state e) 0 q in
          let echo : is_echo e.kind (last_of r.asked) ≡ true = rw (event_number r.state e, q) at w in
          keep_echo r e.moment.at e.moment.on_off e.kind echo z h
      go false q = rw (fade.refused_is 0 0 1 (omega arith) (omega arith) r e (eqb-false (number_of r.state e) 0 q)) h

  pub plays : (es : List Event) (r : Run) → only_echo r es ≡ true → Kept r → Kept (play r es)
  plays [] r w h = h
  plays (e ∷ es) r w h =
      let one = not (accepted r.state e) || is_echo e.kind (last_of r.asked) in
      let parts = and_parts one (only_echo (next_run r e) es) w in
      plays es (next_run r e) parts.1 (keep r e parts.0 h)

  -- What holds between two events is what the claim says.

  underway : (q : Phase) (at to : ℕ) (s : LevelControlState) (asked : List ℕ) (k : ℕ) (p : Pending) → asked ++ path at to ≡ way → seen_in q at to asked k p
      → Arrives way last (record { state = s; asked = asked; answers = k; pending = p })
  underway q at to s asked k p split seen = by q seen
    where
      whole : length asked + distance to at ≡ length way
      whole = simp (length-append, length_path) at (ap length split)

      -- what was asked for is as much of the way as it is long
      asked_is : (j : ℕ) → length asked ≡ j → asked ≡ take j way
      asked_is j n = sym (take_at asked (path at to) j n) ∙ ap (λ (l : List ℕ). take j l) split

      by : (q : Phase) → seen_in q at to asked k p → Arrives way last (record { state = s; asked = asked; answers = k; pending = p })
      by (Asked since) (last_is, count, asks_it) = record {
        at_most = omega (arith, whole);
        levels = rw asks_it (simp (ne_eqb k (length way) (λ z. omega (arith, whole))) (asked_is (suc k) (omega (arith, whole))));
        rest = (λ z. absurd (no_request (sym asks_it ∙ z)), λ z. absurd (omega (arith, whole)));
        end = λ z. absurd (omega (arith, whole));
      }
      by (Waiting until) (far, count, waits_now) = record {
        at_most = omega (arith, whole);
        levels = rw waits_now (asked_is k count);
        rest = (λ z. absurd (no_wait (sym waits_now ∙ z)), λ z. absurd (omega (arith, whole)));
        end = λ z. absurd (omega (arith, whole));
      }

  shown : (s : LevelControlState) (asked : List ℕ) (k : ℕ) (p : Pending) (x : Task) → s.task ≡ x → Held s asked k p x
      → Arrives way last (record { state = s; asked = asked; answers = k; pending = p })
  shown s asked k p task.Rest q (count, all, level, shut) = record {
    at_most = omega arith;
    levels = rw (shut, eq-eqb k (length way) count) (all ∙ sym (take_all k way (omega arith)));
    rest = (λ _. omega arith, λ _. shut);
    end = λ _. (q, level);
  }
  shown s asked k p task.StartUp q h = absurd h
  shown s asked k p (task.Fade f) q h = underway f.phase f.counter f.target s asked k p h.split h.seen
  shown s asked k p (task.Move m) q h = underway m.phase m.asked (limit m.motion.mode s.settings.range.min s.settings.range.max) s asked k p h.split h.seen
  shown s asked k p (task.OnReaction r) q h =
      let n : length way ≡ suc (length (way_of (on_goes s r.before))) = ap length (sym h.way_is) in
      record {
        at_most = omega (arith, h.count);
        levels = rw (h.seen, h.count, h.first, ne_eqb 0 (length way) (λ z. omega arith), sym h.way_is) refl;
        rest = (λ z. absurd (no_request (sym h.seen ∙ z)), λ z. absurd (omega (arith, h.count)));
        end = λ z. absurd (omega (arith, h.count));
      }

  pub arrives : (o : Outcome) (es : List Event) → only_echo (started o) es ≡ true → After [] 0 o → Arrives way last (play (started o) es)
  arrives o es w h =
      let r : Run = play (started o) es in
      shown r.state r.asked r.answers r.pending r.state.task refl (plays es (started o) w h)
