-- What a device's answer gives, by field and by letter. Assumes nothing.
use Rattle.std.specs.Prelude.{Option, Some, None, ℕ, Bool}
use Prim.Native.Nat.{ℕ, ◌-◌, ◌*◌}
use mathlib.Core.Bool.{Bool, true, false, cond, not, ◌&&◌, ◌||◌, false≢true, and-false}
use mathlib.Core.Path.{◌≡◌, refl, sym, ap, ◌∙◌}
use mathlib.Core.List.{List, [], ◌++◌, append-nil, append_assoc}
use lib.Dec.{eqb, leb}
use Rattle.units.specs.Units.{tenths, millis, micros, tenths_up, millis_to_micros, later}
use Rattle.units.specs.declared.Micros.{Micros}
use Rattle.transitions.specs.CurrentLevel.{current_level_due}
use Rattle.transitions.specs.Actions.{act, act_if, act_coupled}
use Rattle.transitions.specs.Fade.{is_transition_start, remaining_after, wait_or_ask}
use Rattle.transitions.specs.Matter.{changed}
use Rattle.transitions.specs.RemainingTime.{remaining_time_due}
use Rattle.transitions.specs.Tasks.{phase_open, task_open, fade_asking, fade_waiting, level_to_put_back}
use Rattle.transitions.specs.Types.{is_missing, is_level, level_or}
use Rattle.transitions.specs.declared.actions.Action.{Action}
use Rattle.transitions.specs.declared.actions.ActionKind.TheVariants.{E, P, S, L}
use Rattle.transitions.specs.declared.events.DeviceAnswer.{DeviceAnswer}
use Rattle.transitions.specs.declared.events.DeviceAnswer.TheVariants as device
use Rattle.transitions.specs.declared.tasks.Fade.{Fade}
use Rattle.transitions.specs.declared.tasks.Move.{Move}
use Rattle.transitions.specs.declared.tasks.OnReaction.{OnReaction}
use Rattle.transitions.specs.declared.tasks.Phase.{Phase}
use Rattle.transitions.specs.declared.tasks.Phase.TheVariants.{Asked, Waiting}
use Rattle.transitions.specs.declared.tasks.Task.{Task}
use Rattle.transitions.specs.declared.tasks.Task.TheVariants as task
use Rattle.transitions.specs.Types.{Level}
use Rattle.transitions.specs.Actions.{reports_of}
use Rattle.level_control.specs.Answer.{Outcome, done}
use Rattle.level_control.specs.Handle.{fade_answered_in, move_answered_in, answered_in, answered}
use Rattle.level_control.specs.Fades.{fade_coupling, fade_stored, fade_told, ended_put_back, fade_ended_by, fade_ended, fade_then, fade_goes_on, move_to_level_transition, fade_missing, device_failed, fade_answered}
use Rattle.level_control.specs.Moves.{move_ends, move_next, move_then, move_transition, move_missing, move_answered}
use Rattle.level_control.specs.Reactions.{on_time, on_to, on_goes_on, on_answered}
use Rattle.level_control.specs.Coupling.{coupled_by}
use Rattle.level_control.specs.Reports.{level_due, set_level, told_level, write_remaining_time}
use Rattle.level_control.specs.StartUp.{stored_start_up, start_up_answered}
use Rattle.level_control.specs.Starts.{given_or, target}
use Rattle.level_control.specs.State.{accept, with_task}
use Rattle.level_control.specs.Targets.{request_to, go_to}
use Rattle.transitions.specs.Actions.{Reports}
use Rattle.level_control.specs.Reports.{Told}
use Rattle.level_control.specs.declared.state.LevelControlState.{LevelControlState}
use Rattle.level_control.proofs.StartLaws.{target_is, given_is}
use Rattle.event_theorems.specs.Brings.{Answers, fade_puts_back, is_end}
use Rattle.event_theorems.specs.TaskAfter as becomes
use Rattle.event_theorems.specs.TaskAfter.{TaskAfter, task_letter, task_on, towards}
use Rattle.event_theorems.specs.Fields.{next_state}
use Rattle.event_theorems.specs.Letters.{put_back_letters, couples, couples_reached, leaves_min, move_on_couples, on_reached, letters}
use Rattle.event_theorems.proofs.CommandLaws.{goes, go_to_is, move_is, changed_to, changed_away, changed_is, told_letters}
use Rattle.event_theorems.proofs.RunLaws.{gives}

-- the state with a task of its own: for the task that it has, the state itself
abbrev pub at_task : LevelControlState → Task → LevelControlState
at_task s x = record {
  settings = s.settings;
  attributes = s.attributes;
  current_level = s.current_level;
  remaining_time = s.remaining_time;
  previous_current_level = s.previous_current_level;
  last_current_level_notification = s.last_current_level_notification;
  last_accepted = s.last_accepted;
  started = s.started;
  task = x;
}

-- a task whose answers fall under Level reports
abbrev reports_level : Task → Bool
reports_level task.Rest = false
reports_level task.StartUp = false
reports_level (task.Fade f) = true
reports_level (task.Move m) = true
reports_level (task.OnReaction r) = true

module _ (s : LevelControlState) (at : Micros) (on : Bool) where
  -- an answer to start-up
  start_up_gives : (a : DeviceAnswer) → start_up_answered (accept (at_task s task.StartUp) at) a ≡ gives (at_task s task.StartUp) (Answers a) at on
  unfolding start_up_answered stored_start_up next_state letters becomes.task_after level_or
  start_up_gives (device.Level v) =
      ap (λ (l : List Action). done (next_state (at_task s task.StartUp) (Answers (device.Level v)) at) l)
      (ap (λ (b : Bool). act_if b P) (changed_is s.current_level (Some v)) ∙ sym (append-nil _))
  start_up_gives device.Missing =
      ap (λ (l : List Action). done (next_state (at_task s task.StartUp) (Answers device.Missing) at) l)
      (ap (λ (b : Bool). act_if b P) (changed_is s.current_level None) ∙ sym (append-nil _))
  start_up_gives device.Failed = refl

  -- a failed device
  failed_gives : (x : Task) → reports_level x ≡ true → device_failed (accept (at_task s x) at) ≡ gives (at_task s x) (Answers device.Failed) at on
  unfolding device_failed next_state letters becomes.task_after level_or
  failed_gives task.Rest e = absurd (false≢true e)
  failed_gives task.StartUp e = absurd (false≢true e)
  failed_gives (task.Fade f) e = refl
  failed_gives (task.Move m) e = refl
  failed_gives (task.OnReaction r) e = refl

-- A level that a fade is answered.
module _ (s : LevelControlState) (f : Fade) (at : Micros) (on : Bool) (v : ℕ) where
  -- the state after it, whether the fade ends, with what is put back and what becomes of the task
  abbrev faded : Bool → Level → TaskAfter → LevelControlState
  faded end back c = record {
    settings = s.settings;
    attributes = s.attributes;
    current_level = level_or back (Some v);
    remaining_time = cond end (tenths 0) (tenths_up (millis (f.remaining.0 - f.period.0)));
    previous_current_level = s.current_level;
    last_current_level_notification =
        cond (leb 1000000 (at.0 - s.last_current_level_notification.0) || end || is_missing s.current_level || false) at
        s.last_current_level_notification;
    last_accepted = at;
    started = true;
    task = task_on c (task.Fade f);
  }

  abbrev is_start : Bool
  is_start = eqb f.remaining.0 (f.transition_time.0 * 100)

  -- what it tells
  abbrev reports : Bool → Bool → Reports
  reports changes end = record {
    stored = changes;
    scene = not f.scene_apply;
    coupling = cond (is_start || end) (couples s.settings f.with_on_off on v) None;
    level = leb 1000000 (at.0 - s.last_current_level_notification.0) || end || is_missing s.current_level || false;
    time = remaining_time_due s.remaining_time (cond end (tenths 0) (tenths_up (millis (f.remaining.0 - f.period.0)))) is_start;
  }

  abbrev tells_of : Bool → Level → TaskAfter → List Action
  tells_of end back c = reports_of (reports (changed s.current_level (Some v)) end) ++ (put_back_letters back (Some v) ++ task_letter c)

  told_as : (end : Bool) (back : Level) (c : TaskAfter) (l : List Action) → l ≡ put_back_letters back (Some v) ++ task_letter c
      → done (faded end back c) (reports_of (reports (not (is_level s.current_level v)) end) ++ l) ≡ done (faded end back c) (tells_of end back c)
  told_as end back c l e =
      ap (λ (b : Bool). done (faded end back c) (reports_of (reports b end) ++ l)) (changed_to s.current_level v)
      ∙ ap (λ (x : List Action). done (faded end back c) (reports_of (reports (changed s.current_level (Some v)) end) ++ x)) e

  put_back_is : (put_back : Option ℕ) (l : Level) → level_to_put_back put_back l ≡ fade_puts_back (device.Level v) true l put_back
  unfolding level_to_put_back
  put_back_is None (Some l) = refl
  put_back_is None None = refl
  put_back_is (Some before) (Some l) = refl
  put_back_is (Some before) None = refl

  abbrev told : Told
  told = fade_told (accept (at_task s (task.Fade f)) at) f at on v

  ended : (back : Level) → eqb f.counter f.target ≡ true → fade_ended_by back told ≡ done (faded true back becomes.AtRest) (tells_of true back becomes.AtRest)
  unfolding ended_put_back fade_told fade_stored fade_coupling coupled_by set_level level_due current_level_due write_remaining_time is_transition_start remaining_after level_or
  ended (Some before) q =
      let letters-of = reports_of (reports (not (is_level s.current_level v)) true) in
      rw q
      (ap (λ (l : List Action). done (faded true (Some before) becomes.AtRest) l) (append_assoc letters-of (act_if (not (eqb v before)) P) (act L 0))
      ∙ told_as true (Some before) becomes.AtRest (act_if (not (eqb v before)) P ++ act L 0) (sym (append-nil (act_if (not (eqb v before)) P ++ act L 0))))
  ended None q =
      let letters-of = reports_of (reports (not (is_level s.current_level v)) true) in
      rw q
      (ap (λ (l : List Action). done (faded true None becomes.AtRest) l) (sym (append-nil letters-of)) ∙ told_as true None becomes.AtRest [] refl)

  goes_on : (since : Micros) → eqb f.counter f.target ≡ false
      → fade_goes_on told f since at ≡ done (faded false None (becomes.fade_on f (Asked since) at)) (tells_of false None (becomes.fade_on f (Asked since) at))
  unfolding fade_goes_on wait_or_ask fade_asking fade_waiting fade_told fade_stored fade_coupling coupled_by set_level level_due current_level_due write_remaining_time is_transition_start remaining_after level_or
  goes_on since q = by (leb (at.0 - since.0) (f.period.0 * 1000))
    where
      span : ℕ
      span = f.period.0 * 1000

      waits : TaskAfter
      waits =
          becomes.Waits (becomes.until since span)
          (task.Fade (becomes.fade_at f (f.remaining.0 - f.period.0) f.counter (Waiting (micros (becomes.until since span)))))

      asks : TaskAfter
      asks = becomes.fade_asks f (f.remaining.0 - f.period.0) at

      by : (b : Bool) → fade_then (cond b (Some (later since (millis_to_micros f.period))) None) told f at
          ≡ done (faded false None (cond b waits asks)) (tells_of false None (cond b waits asks))
      by true = rw q (told_as false None waits (task_letter waits) refl)
      by false = rw q (told_as false None asks (task_letter asks) refl)

  -- the pages say the same
  level_gives : (since : Micros) → f.phase ≡ Asked since
      → move_to_level_transition (accept (at_task s (task.Fade f)) at) f since at on v ≡ gives (at_task s (task.Fade f)) (Answers (device.Level v)) at on
  unfolding move_to_level_transition fade_ended fade_told fade_stored set_level write_remaining_time next_state letters becomes.task_after level_or
  level_gives since e = by (eqb f.counter f.target) refl ∙ pages
    where
      last : Bool
      last = eqb f.counter f.target

      back : Bool → Level
      back b = fade_puts_back (device.Level v) b s.attributes.on_level f.put_back

      becoming : Bool → TaskAfter
      becoming b = cond b becomes.AtRest (becomes.fade_on f f.phase at)

      by : (b : Bool) → eqb f.counter f.target ≡ b
          → cond b (fade_ended told f.put_back) (fade_goes_on told f since at) ≡ done (faded b (back b) (becoming b)) (tells_of b (back b) (becoming b))
      by true q = ap (λ (x : Level). fade_ended_by x told) (put_back_is f.put_back s.attributes.on_level) ∙ ended (back true) q
      by false q =
          goes_on since q
          ∙ ap (λ (p : Phase). done (faded false None (becomes.fade_on f p at)) (tells_of false None (becomes.fade_on f p at))) (sym e)

      pages : done (faded last (back last) (becoming last)) (tells_of last (back last) (becoming last)) ≡ gives (at_task s (task.Fade f)) (Answers (device.Level v)) at on
      pages =
          ap (λ (l : List Action). done (faded last (back last) (becoming last)) l)
          (told_letters (reports (changed s.current_level (Some v)) last) (put_back_letters (back last) (Some v) ++ task_letter (becoming last)))

  -- the device has no level
  missing_gives : fade_missing (accept (at_task s (task.Fade f)) at) f at ≡ gives (at_task s (task.Fade f)) (Answers device.Missing) at on
  unfolding fade_missing set_level level_due current_level_due next_state letters becomes.task_after level_or
  missing_gives =
      ap (λ (l : List Action). done (next_state (at_task s (task.Fade f)) (Answers device.Missing) at) l)
      (ap (λ (b : Bool). act_if b P ++ act_if (not f.scene_apply) S ++ act E 15) (changed_away s.current_level)
      ∙ append_assoc (act_if (changed s.current_level None) P) (act_if (not f.scene_apply) S) (act E 15))

-- A level, or that it is missing, that a move or the on reaction is answered.
module _ (s : LevelControlState) (x : Task) (at : Micros) (on : Bool) (l : Level) (end : Bool) where
  abbrev pub told_within : Told
  told_within = told_level (accept (at_task s x) at) l at end

  abbrev due : Bool
  due = leb 1000000 (at.0 - s.last_current_level_notification.0) || end || is_missing s.current_level || is_missing l

  abbrev pub stored_within : Task → LevelControlState
  stored_within y = record {
    settings = s.settings;
    attributes = s.attributes;
    current_level = l;
    remaining_time = s.remaining_time;
    previous_current_level = s.current_level;
    last_current_level_notification = cond due at s.last_current_level_notification;
    last_accepted = at;
    started = true;
    task = y;
  }

  -- P, S, L, and what follows
  abbrev pub tells_within : List Action → List Action
  tells_within more = act_if (changed s.current_level l) P ++ (act S 0 ++ (act_if due L ++ more))

  pub told_in : (y : Task) (more : List Action) → done (with_task told_within.state y) (reports_of told_within.reports ++ more) ≡ done (stored_within y) (tells_within more)
  unfolding told_level set_level level_due current_level_due
  told_in y more =
      ap (λ (z : List Action). done (stored_within y) z)
      (told_letters told_within.reports more ∙ ap (λ (b : Bool). act_if b P ++ (act S 0 ++ (act_if due L ++ more))) (changed_is s.current_level l))

module _ (s : LevelControlState) (at : Micros) (on : Bool) where
  -- a move
  module _ (m : Move) where
    move_level_gives : (since : Micros) (v : ℕ) → m.phase ≡ Asked since
        → move_transition (accept (at_task s (task.Move m)) at) m since at on v ≡ gives (at_task s (task.Move m)) (Answers (device.Level v)) at on
    unfolding move_transition move_then move_ends wait_or_ask coupled_by told_level set_level next_state letters becomes.task_after level_or
    move_level_gives since v e = by (is_end m.asked s.settings) ∙ ap (λ (p : Phase). shown (is_end m.asked s.settings) p) (sym e)
      where
        becoming : Bool → Phase → TaskAfter
        becoming b p = cond b becomes.AtRest (becomes.move_on m p (Some v) at)

        cpl : Bool → Phase → Option Bool
        cpl b p = cond b (couples s.settings m.motion.with_on_off on v) (move_on_couples m p v s.settings on at)

        shown : Bool → Phase → Outcome
        shown b p =
            done (stored_within s (task.Move m) at on (Some v) b (task_on (becoming b p) (task.Move m)))
            (tells_within s (task.Move m) at on (Some v) b (act_coupled (cpl b p) ++ task_letter (becoming b p)))

        t : Bool → Told
        t b = told_within s (task.Move m) at on (Some v) b

        on_by : (w : Bool) → move_next (cond w (Some (later since m.motion.period)) None) (t false) m at on
            ≡ done
            (stored_within s (task.Move m) at on (Some v) false
            (task_on (cond w (becomes.Waits (becomes.until since m.motion.period.0) (task.Move (record { motion = m.motion; asked = m.asked; phase = Waiting (micros (becomes.until since m.motion.period.0)) })))
            (becomes.step m.motion m.motion.mode (Some v) at)) (task.Move m)))
            (tells_within s (task.Move m) at on (Some v) false
            (act_coupled (cond w None (leaves_min m.motion.mode (Some v) m.motion s.settings on))
            ++ task_letter (cond w (becomes.Waits (becomes.until since m.motion.period.0) (task.Move (record { motion = m.motion; asked = m.asked; phase = Waiting (micros (becomes.until since m.motion.period.0)) })))
            (becomes.step m.motion m.motion.mode (Some v) at))))
        on_by true = told_in s (task.Move m) at on (Some v) false _ _
        on_by false =
            move_is (t false) m.motion at on (Some v) refl
            ∙ ap (λ (z : List Action). done (with_task (t false).state (task_on (becomes.step m.motion m.motion.mode (Some v) at) (task.Move m))) z)
            (append_assoc (reports_of (t false).reports) (act_coupled (leaves_min m.motion.mode (Some v) m.motion s.settings on)) (task_letter (becomes.step m.motion m.motion.mode (Some v) at)))
            ∙ told_in s (task.Move m) at on (Some v) false _ _

        by : (b : Bool)
            → cond b (done (with_task (t b).state task.Rest) (reports_of (t b).reports ++ act_coupled (couples s.settings m.motion.with_on_off on v)))
            (move_next (wait_or_ask since at m.motion.period) (t b) m at on)
            ≡ shown b (Asked since)
        by true =
            told_in s (task.Move m) at on (Some v) true task.Rest (act_coupled (couples s.settings m.motion.with_on_off on v))
            ∙ ap (λ (z : List Action). done (stored_within s (task.Move m) at on (Some v) true task.Rest) (tells_within s (task.Move m) at on (Some v) true z)) (sym (append-nil _))
        by false = on_by (leb (at.0 - since.0) m.motion.period.0)

    move_missing_gives : move_missing (accept (at_task s (task.Move m)) at) (move_ends (accept (at_task s (task.Move m)) at) m.asked) at
        ≡ gives (at_task s (task.Move m)) (Answers device.Missing) at on
    unfolding move_missing move_ends next_state letters becomes.task_after level_or
    move_missing_gives = told_in s (task.Move m) at on None (is_end m.asked s.settings) task.Rest (act E 15)

  -- the on reaction
  module _ (r : OnReaction) where
    on_level_gives : (v : ℕ) → on_answered (accept (at_task s (task.OnReaction r)) at) r at on (device.Level v)
        ≡ gives (at_task s (task.OnReaction r)) (Answers (device.Level v)) at on
    unfolding on_answered on_goes_on on_time told_level set_level next_state letters becomes.task_after level_or
    on_level_gives v = from s.attributes.on_level r.before
      where
        t : Told
        t = told_within s (task.OnReaction r) at on (Some v) false

        time : ℕ
        time = given_or s.attributes.on_transition_time s.attributes.on_off_transition_time.0

        coupling : ℕ → List Action
        coupling x = act_coupled (couples_reached (Some v) x true s.settings on)

        first : ℕ → List Action
        first x = reports_of t.reports ++ coupling x ++ act_if (eqb v x && false) L

        onward : ℕ → TaskAfter
        onward level = towards (Some v) (target s level) time true false false at

        letters_are : (level : ℕ) → first (target s level) ++ task_letter (onward level)
            ≡ reports_of t.reports ++ (coupling (target s level) ++ task_letter (onward level))
        letters_are level =
            ap (λ (b : Bool). reports_of t.reports ++ coupling (target s level) ++ act_if b L ++ task_letter (onward level)) (and-false (eqb v (target s level)))
            ∙ ap (λ (z : List Action). z ++ task_letter (onward level)) (append-nil (reports_of t.reports ++ coupling (target s level)))
            ∙ append_assoc (reports_of t.reports) (coupling (target s level)) (task_letter (onward level))

        to : (level : ℕ) → go_to t (request_to t.state level (on_time t.state) true false false) at on
            ≡ done (stored_within s (task.OnReaction r) at on (Some v) false (task_on (towards (Some v) (target s level) time true false false at) (task.OnReaction r)))
            (tells_within s (task.OnReaction r) at on (Some v) false
            (act_coupled (couples_reached (Some v) (target s level) true s.settings on) ++ task_letter (towards (Some v) (target s level) time true false false at)))
        to level =
            go_to_is t (request_to t.state level (on_time t.state) true false false) at on (Some v) refl
            ∙ ap (λ (x : ℕ). goes t.state (towards (Some v) x (on_time t.state).0 true false false at) (first x)) (target_is s level)
            ∙ ap (λ (y : ℕ). goes t.state (towards (Some v) (target s level) y true false false at) (first (target s level)))
            (given_is s.attributes.on_transition_time s.attributes.on_off_transition_time)
            ∙ ap (λ (z : List Action). done (with_task t.state (task_on (onward level) (task.OnReaction r))) z) (letters_are level)
            ∙ told_in s (task.OnReaction r) at on (Some v) false _ _

        from : (l before : Level) → on_to (level_or l before) t at on
            ≡ done (stored_within s (task.OnReaction r) at on (Some v) false (task_on (becomes.on_towards l before v (at_task s (task.OnReaction r)) at) (task.OnReaction r)))
            (tells_within s (task.OnReaction r) at on (Some v) false (act_coupled (on_reached l before v (at_task s (task.OnReaction r)) on) ++ task_letter (becomes.on_towards l before v (at_task s (task.OnReaction r)) at)))
        from (Some level) before = to level
        from None (Some level) = to level
        from None None = told_in s (task.OnReaction r) at on (Some v) false task.Rest (act E 15)

    on_missing_gives : move_missing (accept (at_task s (task.OnReaction r)) at) false at ≡ gives (at_task s (task.OnReaction r)) (Answers device.Missing) at on
    unfolding move_missing next_state letters becomes.task_after level_or
    on_missing_gives = told_in s (task.OnReaction r) at on None false task.Rest (act E 15)

-- an answer goes to the task whose request is open
pub answer_gives : (s : LevelControlState) (a : DeviceAnswer) (at : Micros) (on : Bool) → task_open s.task ≡ true
    → answered (accept s at) a at on ≡ gives s (Answers a) at on
unfolding answered fade_answered move_answered on_answered
answer_gives s a at on h = by s.task a h
  where
    fade : (f : Fade) (p : Phase) (a : DeviceAnswer) → f.phase ≡ p → phase_open p ≡ true
        → fade_answered_in p (accept (at_task s (task.Fade f)) at) f a at on ≡ gives (at_task s (task.Fade f)) (Answers a) at on
    fade f (Asked since) (device.Level v) e h = level_gives s f at on v since e
    fade f (Asked since) device.Missing e h = missing_gives s f at on 0
    fade f (Asked since) device.Failed e h = failed_gives s at on (task.Fade f) refl
    fade f (Waiting until) a e h = absurd (false≢true h)

    move : (m : Move) (p : Phase) (a : DeviceAnswer) → m.phase ≡ p → phase_open p ≡ true
        → move_answered_in p (accept (at_task s (task.Move m)) at) m a at on ≡ gives (at_task s (task.Move m)) (Answers a) at on
    move m (Asked since) (device.Level v) e h = move_level_gives s at on m since v e
    move m (Asked since) device.Missing e h = move_missing_gives s at on m
    move m (Asked since) device.Failed e h = failed_gives s at on (task.Move m) refl
    move m (Waiting until) a e h = absurd (false≢true h)

    by : (x : Task) (a : DeviceAnswer) → task_open x ≡ true → answered_in x (accept (at_task s x) at) a at on ≡ gives (at_task s x) (Answers a) at on
    by task.Rest a h = absurd (false≢true h)
    by task.StartUp a h = start_up_gives s at on a
    by (task.Fade f) a h = fade f f.phase a refl h
    by (task.Move m) a h = move m m.phase a refl h
    by (task.OnReaction r) (device.Level v) h = on_level_gives s at on r v
    by (task.OnReaction r) device.Missing h = on_missing_gives s at on r
    by (task.OnReaction r) device.Failed h = failed_gives s at on (task.OnReaction r) refl
