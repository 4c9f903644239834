-- What becomes of a command, and what the document says: a change of CurrentLevel, or none. Assumes nothing.
use Rattle.std.specs.Prelude.{Some, None}
use Prim.Native.Nat.{ℕ, ◌*◌, ◌/◌, ◌≤◌, min, max}
use mathlib.Core.Bool.{Bool, true, false, cond, true≢false}
use mathlib.Core.Path.{◌≡◌, refl, sym, ap, subst, ◌∙◌}
use mathlib.Core.List.{[]}
use native.Mathlib.Nat.{mul-div_cancel}
use native.Mathlib.Omega.{arith}
use borrow.Author.Tests.{lt-leb, ltb-true, ltb-false, eqb-true, eqb-false, eq-eqb, not-false}
use lib.Dec.{ltb, eqb}
use Rattle.units.specs.declared.Micros.{Micros}
use Rattle.transitions.specs.Actions.{no_reports}
use Rattle.transitions.specs.Commands.{step_level}
use Rattle.transitions.specs.Events.{event}
use Rattle.transitions.specs.Tasks.{begin_fade, task_open, task_due}
use Rattle.transitions.specs.declared.actions.ActionKind.TheVariants.{L}
use Rattle.transitions.specs.declared.events.DeviceAnswer.{DeviceAnswer}
use Rattle.transitions.specs.declared.events.Event.{Event}
use Rattle.transitions.specs.declared.events.EventKind.{EventKind}
use Rattle.transitions.specs.declared.events.EventKind.TheVariants as kind
use Rattle.transitions.specs.declared.events.StepRequest.{StepRequest}
use Rattle.transitions.specs.declared.tasks.Begin.TheVariants as begin
use Rattle.transitions.specs.declared.tasks.FadeRequest.{FadeRequest}
use Rattle.transitions.specs.Types.{Level}
use Rattle.transitions.specs.declared.types.Mode.{Mode}
use Rattle.transitions.specs.declared.types.Mode.TheVariants.{Up, Down}
use Rattle.transitions.specs.Types.{Time}
use Rattle.transitions.proofs.MatterLaws.{matter_agrees}
use Rattle.level_control.specs.State.{accept}
use Rattle.level_control.specs.Answer.{Outcome, done}
use Rattle.level_control.specs.Judge.{turn_tests}
use Rattle.level_control.specs.Handle.{number_of, event_of}
use Rattle.level_control.specs.Coupling.{coupled_by}
use Rattle.level_control.specs.Run.{Nothing, Request, Wait}
use Rattle.level_control.specs.Starts as starts
use Rattle.level_control.specs.Starts.{target, given_or, step_in}
use Rattle.level_control.specs.Targets.{quiet, go_to_by, go_to, stepped_level}
use Rattle.level_control.specs.declared.state.LevelControlState.{LevelControlState}
use Rattle.level_control.proofs.EventLaws.{turn_passes}
use Rattle.level_control.proofs.SeenLaws.{Silent, silent_append, silent_if, silent_reports, silent_coupled}
use Rattle.level_control.proofs.StartLaws.{step_is}
use Rattle.level_theorems.specs.EveryEvent as claim
use Rattle.level_theorems.specs.EveryEvent.{LevelFrom}
use Rattle.level_theorems.proofs.EveryEventLaws.{every_event}
use Rattle.level_theorems.proofs.EveryFadeCovered.{begins}
use Rattle.matter.specs.Matter.{NotExecuted, NoEffect, Goes, goes, within, or_else, step_to, reduced}
use Rattle.matter.specs.Agreement.{Unchanged, AtRest, Does}
use Rattle.transitions.specs.declared.events.Command.TheVariants as command

-- A command leaves the level as it is, in its own event.

abbrev pub is_command : EventKind → Bool
is_command kind.StartUp = false
is_command (kind.Command (command.MoveToLevel r)) = true
is_command (kind.Command (command.Move r)) = true
is_command (kind.Command (command.Step r)) = true
is_command (kind.Command (command.Stop r)) = true
is_command (kind.Answer a) = false
is_command kind.Wake = false
is_command (kind.Command (command.OnOffChanged value)) = true
is_command (kind.Command (command.Scene r)) = true
is_command (kind.Command (command.DeviceUpdate level)) = false
is_command (kind.Command command.DeviceStop) = false
is_command (kind.Command (command.SetOnLevel level)) = false
is_command (kind.Command (command.SetDefaultMoveRate rate)) = false
is_command (kind.Command (command.SetStartUpCurrentLevel level)) = false
is_command (kind.Command command.FactoryReset) = false

level_stays : (s : LevelControlState) (k : EventKind) (l : Level) → is_command k ≡ true → LevelFrom s k l → l ≡ s.current_level
level_stays s k _ c claim.kept = refl
level_stays s k _ c (claim.answered e) = absurd (true≢false (sym c ∙ ap is_command e))
level_stays s k _ c (claim.missing e) = absurd (true≢false (sym c ∙ ap is_command e))
level_stays s k _ c (claim.updated e) = absurd (true≢false (sym c ∙ ap is_command e))
level_stays s k _ c (claim.put_back runs last after none e) = absurd (true≢false (sym c ∙ ap is_command e))

pub command_keeps_level : (s : LevelControlState) (e : Event) → is_command e.kind ≡ true → (event_of s e).state.current_level ≡ s.current_level
command_keeps_level s e c = level_stays s e.kind _ c (every_event.level_comes_from s e)

-- What is accepted, and what is open.

pub is_open : (s : LevelControlState) (at : Micros) (on : Bool) (a : DeviceAnswer) → number_of s (event at on (kind.Answer a)) ≡ 0 → task_open s.task ≡ true
unfolding number_of turn_tests
is_open s at on a z = not-false (task_open s.task) (turn_passes _ _ z).opened

pub is_due : (s : LevelControlState) (at : Micros) (on : Bool) → number_of s (event at on kind.Wake) ≡ 0 → task_due s.task at ≡ true
unfolding number_of turn_tests
is_due s at on z = not-false (task_due s.task at) (turn_passes _ _ z).due

pub no_request : Request ≡ Nothing → ⊥
no_request e = let z : ◌≡◌ {A = ℕ} 0 1 = cc in omega arith

pub no_wait : Wait ≡ Nothing → ⊥
no_wait e = let z : ◌≡◌ {A = ℕ} 0 1 = cc in omega arith

-- What the document says of a command, and what becomes of it.

pub unchanged : (s : LevelControlState) (o : Outcome) (at : Micros) → o ≡ done (accept s at) [] → Unchanged s o
unchanged s o at q = rw q (record { level = refl; remaining_time = refl; runs = refl; quiet = refl })

-- a target that is reached already
reached : (s : LevelControlState) (o : Outcome) (r : FadeRequest) (at : Micros) (on : Bool) (c : ℕ)
    → o ≡ go_to (quiet (accept s at)) r at on → s.current_level ≡ Some c → c ≡ r.target → AtRest s o
unfolding go_to begin_fade
reached s o r at on c q level same =
    rw q (subst (λ (l : Level). AtRest s (go_to_by (begin_fade l r at) (quiet (accept s at)) r on)) (sym level) (rw (eq-eqb c r.target same) ends))
  where
    ended : Outcome
    ended = go_to_by begin.Reached (quiet (accept s at)) r on

    quietly : Silent ended.actions
    quietly =
        silent_append _ _
        (silent_append _ _ (silent_reports no_reports) (silent_coupled (coupled_by (accept s at) r.target r.with_on_off on)))
        (silent_if L _ (record { no_ask = refl; no_open = λ p. refl }))

    ends : AtRest s ended
    ends = record { level = refl; rests = refl; asks_nothing = quietly.no_ask; awaits_nothing = quietly.no_open Nothing }

-- an accepted command that goes from c to a level in T tenths where the options let it pass, and does nothing where they stop it
pub record MakesFor (s : LevelControlState) (e : Event) (executed : Bool) (c to T : ℕ) : Type 0 where
  pub level : s.current_level ≡ Some c
  pub stopped : executed ≡ false → event_of s e ≡ done (accept s e.moment.at) []
  pub goes : executed ≡ true
      → (r : FadeRequest) × (event_of s e ≡ go_to (quiet (accept s e.moment.at)) r e.moment.at e.moment.on_off) × (r.target ≡ to) × (r.transition_time.0 ≡ T)

-- is what the document says of such a change
pub does : (s : LevelControlState) (e : Event) (executed : Bool) (c to T : ℕ) → MakesFor s e executed c to T
    → Does s e (cond executed (goes c to T) NotExecuted)
does s e executed c to T m = by executed refl (eqb c to) refl
  where
    by : (x : Bool) → executed ≡ x → (b : Bool) → eqb c to ≡ b → Does s e (cond x (cond b NoEffect (Goes c to T)) NotExecuted)
    by false p b q = unchanged s (event_of s e) e.moment.at (m.stopped p)
    by true p true q =
        let (r, outcome, target, time) = m.goes p in
        reached s (event_of s e) r e.moment.at e.moment.on_off c outcome m.level (eqb-true c to q ∙ sym target)
    by true p false q =
        let (r, outcome, target, time) = m.goes p in
        begins (event_of s e) e.moment.at c to T (record {
          told = quiet (accept s e.moment.at);
          request = r;
          on = e.moment.on_off;
          outcome = outcome;
          level = m.level;
          target = target;
          time = time;
          apart = λ z. eqb-false c to q (z ∙ target);
          last = refl;
        })

-- Targets and times.

pub within_is : (s : LevelControlState) (level : ℕ) → s.settings.range.min ≤ s.settings.range.max → level ≤ 254
    → target s level ≡ within s.settings.range.min s.settings.range.max level
within_is s level order small = rw (lt-leb 255 level (omega arith)) (by (ltb level lo) refl (ltb hi level) refl)
  where
    lo : ℕ
    lo = s.settings.range.min

    hi : ℕ
    hi = s.settings.range.max

    by : (a : Bool) → ltb level lo ≡ a → (b : Bool) → ltb hi level ≡ b → min hi (max lo level) ≡ cond a lo (cond b hi level)
    by true p b q = let h = ltb-true level lo p in omega arith
    by false p true q = let h = ltb-true hi level q in omega arith
    by false p false q = let h = ltb-false level lo p in let g = ltb-false hi level q in omega arith

pub in_range : (s : LevelControlState) (level : ℕ) → s.settings.range.min ≤ level → level ≤ s.settings.range.max → s.settings.range.max ≤ 254
    → target s level ≡ level
in_range s level low high small = rw (lt-leb 255 level (omega arith)) (omega arith)

pub given_same : (t : Time) (other : ℕ) → given_or t other ≡ or_else t other
given_same (Some t) other = refl
given_same None other = refl

pub reduced_is : (t : Time) (actual size : ℕ) → 1 ≤ size → step_in t actual size ≡ reduced t actual size
reduced_is None actual size some = refl
reduced_is (Some t) actual size some = by (eqb actual size) refl
  where
    by : (b : Bool) → eqb actual size ≡ b → cond b t.0 (t.0 * actual / size) ≡ t.0 * actual / size
    by true q = sym (ap (λ (x : ℕ). t.0 * x / size) (eqb-true actual size q) ∙ mul-div_cancel t.0 (omega arith))
    by false q = refl

-- a step's level, from a level within the range
pub step_same : (s : LevelControlState) (r : StepRequest) (c : ℕ) → s.settings.range.min ≤ c → c ≤ s.settings.range.max → s.settings.range.max ≤ 254
    → starts.step_to r.mode s c r.step_size ≡ step_to r.mode s.settings.range.min s.settings.range.max c r.step_size
unfolding stepped_level
step_same s r c low high small = sym (step_is s c r) ∙ by r.mode
  where
    lo : ℕ
    lo = s.settings.range.min

    hi : ℕ
    hi = s.settings.range.max

    by : (m : Mode) → step_level m c r.step_size lo hi ≡ step_to m lo hi c r.step_size
    by Up = matter_agrees.step_up c r.step_size lo hi high small
    by Down = matter_agrees.step_down c r.step_size lo hi low

pub step_inside : (s : LevelControlState) (m : Mode) (c size : ℕ) → s.settings.range.min ≤ c → c ≤ s.settings.range.max → s.settings.range.max ≤ 254
    → target s (starts.step_to m s c size) ≡ starts.step_to m s c size
step_inside s Up c size low high small = in_range s _ (omega arith) (omega arith) small
step_inside s Down c size low high small = in_range s _ (omega arith) (omega arith) small
