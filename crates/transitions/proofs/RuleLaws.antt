-- The rules in the words of docs/RULES.md: proofs of specs/Laws.antt. Assumes nothing.
use Rattle.std.specs.Prelude.{Option, Some, None, Result, Ok, Err}
use Prim.Native.Nat.{ℕ, ◌+◌, ◌-◌, ◌*◌, ◌/◌, ◌≤◌, ◌<◌}
use mathlib.Core.Bool.{Bool, true, false, cond, ◌&&◌, ◌||◌, not, beq, true≢false, false≢true, or-false, or-true}
use mathlib.Core.Path.{◌≡◌, refl, sym, ap, ◌∙◌}
use mathlib.Core.List.{List, [], ◌∷◌}
use mathlib.Core.Logic.{◌↔◌, ◌⊎◌, inl, inr, ⊎_elim}
use native.Mathlib.Nat.{mul-div-le, lt-mul-div-succ, mul-le-mul_left}
use native.Mathlib.Omega.{arith}
use borrow.Author.Tests.{ltb-true, ltb-false, leb-true, leb-false, eqb-true, eqb-false, not-true, lt-ltb, le-ltb, le-leb, lt-leb, eq-eqb, ne_eqb}
use lib.Dec.{ltb, leb, eqb}
use Rattle.std.proofs.lemmas.Bool.{and_from, and_parts, or_cases, or_left, or_right}
use Rattle.std.proofs.lemmas.Option.{same_Some}
use Rattle.units.specs.Numbers.{apart, held_to}
use Rattle.units.specs.Units.{tenths, is_zero, exceeds, tenths_apart, scaled_floor, later, micros}
use Rattle.units.specs.declared.Tenths.{Tenths}
use Rattle.units.specs.declared.Millis.{Millis}
use Rattle.units.specs.declared.Micros.{Micros}
use Rattle.transitions.specs.Search.{NoneOf, First}
use Rattle.transitions.specs.Types.{executes_if_off, rate_or}
use Rattle.transitions.specs.RemainingTime.{remaining_time_due}
use Rattle.transitions.specs.Options.{should_continue}
use Rattle.transitions.specs.CurrentLevel.{current_level_due}
use Rattle.transitions.specs.Coupling.{coupled_on_off, coupled_values}
use Rattle.transitions.specs.Actions.{act, act_coupled}
use Rattle.transitions.specs.Commands.{target_level, step_time, step_time_number, rate_in_force, move_rate_number}
use Rattle.transitions.specs.Fade.{remaining_after, next_level, wait_or_ask}
use Rattle.transitions.specs.Fade as fade
use Rattle.transitions.specs.MovePeriod.{move_period}
use Rattle.transitions.specs.Scene.{Pair, pairs, decides, scene_level}
use Rattle.transitions.specs.Causes.{Row, rows, first_cause}
use Rattle.transitions.specs.Laws.{Laws}
use Rattle.transitions.specs.Types.{Level}
use Rattle.transitions.specs.Types.{Rate}
use Rattle.transitions.specs.declared.types.OptionsBitmap.{OptionsBitmap}
use Rattle.transitions.specs.declared.causes.Tests.{Tests}
use Rattle.transitions.specs.declared.actions.ActionKind.TheVariants.{C}
use Rattle.transitions.proofs.ActionLaws.{full}
use Rattle.transitions.proofs.SearchLaws.{found, missed, either}
use Rattle.transitions.proofs.TaskLaws as task
use Rattle.transitions.proofs.TaskLaws.{none_is_not_one, one_is, one}
use Rattle.std.proofs.lemmas.List.{length-take, take_all}
use Rattle.transitions.proofs.SceneLaws as scene
use Rattle.transitions.proofs.ValueLaws as value
use Rattle.transitions.specs.declared.causes.Refusal.{Refusal}
use Rattle.transitions.specs.declared.causes.Refusal.TheVariants.{InvalidCommand, ProductTooLarge}

-- Remaining time

abbrev Reported : Tenths → Tenths → Bool → Type 0
Reported old new start =
    ((1 ≤ old.0) × (new.0 ≡ 0)) ⊎ ((old.0 ≡ 0) × (10 < new.0)) ⊎ ((10 < apart new.0 old.0) × (start ≡ true))

module _ (old new : Tenths) (start : Bool) where
  abbrev ends : Bool
  ends = is_zero new && not (is_zero old)

  abbrev begins : Bool
  begins = is_zero old && exceeds new (tenths 10)

  abbrev jumps : Bool
  jumps = exceeds (tenths_apart new old) (tenths 10) && start

  at_end : ends ≡ true → Reported old new start
  at_end e =
      let old-not-0 : old.0 ≡ 0 → ⊥ = eqb-false old.0 0 (not-true (is_zero old) (and_parts (is_zero new) (not (is_zero old)) e).1) in
      inl (omega arith, eqb-true new.0 0 (and_parts (is_zero new) (not (is_zero old)) e).0)

  at_begin : begins ≡ true → Reported old new start
  at_begin e = inr (inl (eqb-true old.0 0 (and_parts (is_zero old) (exceeds new (tenths 10)) e).0, ltb-true 10 new.0 (and_parts (is_zero old) (exceeds new (tenths 10)) e).1))

  at_jump : jumps ≡ true → Reported old new start
  at_jump e = inr (inr (ltb-true 10 (apart new.0 old.0) (and_parts (exceeds (tenths_apart new old) (tenths 10)) start e).0, (and_parts (exceeds (tenths_apart new old) (tenths 10)) start e).1))

  reported : (ends || begins || jumps) ≡ true → Reported old new start
  reported e = ⊎_elim (λ f. ⊎_elim at_end at_begin (or_cases ends begins f)) at_jump (or_cases (ends || begins) jumps e)

  due : Reported old new start → (ends || begins || jumps) ≡ true
  due = ⊎_elim
      (λ h. or_left (ends || begins) jumps (or_left ends begins (and_from (is_zero new) (not (is_zero old)) (eq-eqb new.0 0 h.1) (rw (ne_eqb old.0 0 (λ z. omega arith)) refl))))
      (⊎_elim
      (λ h. or_left (ends || begins) jumps (or_right ends begins (and_from (is_zero old) (exceeds new (tenths 10)) (eq-eqb old.0 0 h.0) (lt-ltb 10 new.0 h.1))))
      (λ h. or_right (ends || begins) jumps (and_from (exceeds (tenths_apart new old) (tenths 10)) start (lt-ltb 10 (apart new.0 old.0) h.0) h.1)))

remaining_report : (old new : Tenths) (start : Bool) → (remaining_time_due old new start ≡ true) ↔ Reported old new start
unfolding remaining_time_due
remaining_report old new start = (reported old new start, due old new start)

-- Options

stop : (w c on m v o : Bool)
    → (cond w true (cond c (cond on true (cond m v o)) true) ≡ false)
    ↔ ((w ≡ false) × (c ≡ true) × (on ≡ false) × (((m ≡ true) × (v ≡ false)) ⊎ ((m ≡ false) × (o ≡ false))))
stop true c on m v o = (λ e. absurd (true≢false e), λ h. absurd (true≢false h.0))
stop false false on m v o = (λ e. absurd (true≢false e), λ h. absurd (false≢true h.1))
stop false true true m v o = (λ e. absurd (true≢false e), λ h. absurd (true≢false h.2))
stop false true false true v o = (λ e. (refl, refl, refl, inl (refl, e)), λ h. ⊎_elim (λ x. x.1) (λ x. absurd (true≢false x.0)) h.3)
stop false true false false v o = (λ e. (refl, refl, refl, inr (refl, e)), λ h. ⊎_elim (λ x. absurd (false≢true x.0)) (λ x. x.1) h.3)

options_stop : (w c on : Bool) (o m v : OptionsBitmap)
    → (should_continue w c on o m v ≡ false)
    ↔ ((w ≡ false) × (c ≡ true) × (on ≡ false)
    × (((executes_if_off m ≡ true) × (executes_if_off v ≡ false)) ⊎ ((executes_if_off m ≡ false) × (executes_if_off o ≡ false))))
unfolding should_continue
options_stop w c on o m v = stop w c on (executes_if_off m) (executes_if_off v) (executes_if_off o)

-- Level reports

level_report : (gap last now : Micros) (old new : ℕ) → 1 ≤ gap.0
    → (current_level_due gap last now false (Some old) (Some new) ≡ true) ↔ (last.0 + gap.0 ≤ now.0)
unfolding current_level_due
level_report gap last now old new h =
    (λ e. let g : gap.0 ≤ now.0 - last.0 = leb-true _ _ (simp or-false at e) in omega arith, λ g. simp (le-leb gap.0 (now.0 - last.0) (omega arith)))

report_without_gap : (last now : Micros) (end : Bool) (old new : Level) → current_level_due (micros 0) last now end old new ≡ true
unfolding current_level_due
report_without_gap last now end old new = simp (le-leb 0 (now.0 - last.0) (omega arith))

end_report : (gap last now : Micros) (old new : Level) → current_level_due gap last now true old new ≡ true
unfolding current_level_due
end_report gap last now old new =
    or_left _ _ (or_left _ _ (or_right (leb gap.0 (now.0 - last.0)) true refl))

missing_report : (gap last now : Micros) (end : Bool) (l : Level)
    → (current_level_due gap last now end None l ≡ true) × (current_level_due gap last now end l None ≡ true)
unfolding current_level_due
missing_report gap last now end l = (simp or-true, simp or-true)

-- Coupling

abbrev Differs : Bool → ℕ → ℕ → ℕ → Type 0
Differs on min level v = ((v ≡ 1) × (min < level) × (on ≡ false)) ⊎ ((v ≡ 0) × (level ≤ min) × (on ≡ true))

sent : (w c x on : Bool) (min level v : ℕ) → ltb min level ≡ x
    → (coupled_values (cond (w && c && not (beq x on)) (Some x) None) ≡ v ∷ []) ↔ ((w ≡ true) × (c ≡ true) × Differs on min level v)
sent false c x on min level v e = (λ h. absurd (none_is_not_one v h), λ h. absurd (false≢true h.0))
sent true false x on min level v e = (λ h. absurd (none_is_not_one v h), λ h. absurd (false≢true h.1))
sent true true true true min level v e = (
  λ h. absurd (none_is_not_one v h),
  λ h. ⊎_elim (λ t. absurd (true≢false t.2)) (λ t. absurd (omega (arith, ltb-true min level e, t.1))) h.2,
)
sent true true true false min level v e = (
  λ h. (refl, refl, inl (sym (one_is 1 v h), ltb-true min level e, refl)),
  λ h. ⊎_elim (λ t. one 1 v (sym t.0)) (λ t. absurd (false≢true t.2)) h.2,
)
sent true true false true min level v e = (
  λ h. (refl, refl, inr (sym (one_is 0 v h), ltb-false min level e, refl)),
  λ h. ⊎_elim (λ t. absurd (true≢false t.2)) (λ t. one 0 v (sym t.0)) h.2,
)
sent true true false false min level v e = (
  λ h. absurd (none_is_not_one v h),
  λ h. ⊎_elim (λ t. absurd (omega (arith, ltb-false min level e, t.1))) (λ t. absurd (false≢true t.2)) h.2,
)

coupling : (w c on : Bool) (min level v : ℕ)
    → (coupled_values (coupled_on_off w c on min level) ≡ v ∷ []) ↔ ((w ≡ true) × (c ≡ true) × Differs on min level v)
unfolding coupled_on_off
coupling w c on min level v = sent w c (ltb min level) on min level v refl

coupling_action : (c : Option Bool) (v : ℕ) → (coupled_values c ≡ v ∷ [] → act_coupled c ≡ act C v) × (coupled_values c ≡ [] → act_coupled c ≡ [])
coupling_action (Some wanted) v = (λ h. ap (act C) (one_is (cond wanted 1 0) v h), λ h. absurd (none_is_not_one (cond wanted 1 0) (sym h)))
coupling_action None v = (λ h. absurd (none_is_not_one v h), λ h. refl)

-- Targets, Steps and the rate of Moves

-- the two ways of a target
pub target_kept : (level lo hi : ℕ) → 254 < level → target_level level lo hi ≡ level
unfolding target_level
target_kept level lo hi h = simp (lt-ltb 254 level h)

pub target_clamped : (level lo hi : ℕ) → level ≤ 254 → target_level level lo hi ≡ held_to lo hi level
unfolding target_level
target_clamped level lo hi h = simp (le-ltb 254 level h)

-- the three ways of a step's time
same_size : (given actual size : ℕ) → actual ≡ size → step_time (Some (tenths given)) actual size ≡ Ok (tenths given)
unfolding step_time
same_size given actual size e = simp (eq-eqb actual size e)

too_large : (given actual size : ℕ) → (actual ≡ size → ⊥) → 65535 < given * actual → step_time (Some (tenths given)) actual size ≡ (Err ProductTooLarge)
unfolding step_time scaled_floor
too_large given actual size e h = simp (ne_eqb actual size e, lt-ltb 65535 (given * actual) h)

in_proportion : (given actual size : ℕ) → (actual ≡ size → ⊥) → given * actual ≤ 65535
    → step_time (Some (tenths given)) actual size ≡ Ok (tenths (given * actual / size))
unfolding step_time scaled_floor
in_proportion given actual size e h = simp (ne_eqb actual size e, le-ltb 65535 (given * actual) h)

takes_is : (s t : Tenths) → ◌≡◌ {A = Result Tenths Refusal} (Ok s) (Ok t) → s.0 ≡ t.0
takes_is s t e = ap (λ (x : Tenths). x.0) (cc)

module _ (given actual size : ℕ) (t : Tenths) (pos : 1 ≤ size) (h : step_time (Some (tenths given)) actual size ≡ Ok t) where
  step_time_rounds : (size * t.0 ≤ given * actual) × (given * actual < size * (t.0 + 1))
  step_time_rounds = go (eqb actual size) refl (ltb 65535 (given * actual)) refl
    where
      go : (b : Bool) → eqb actual size ≡ b → (c : Bool) → ltb 65535 (given * actual) ≡ c → (size * t.0 ≤ given * actual) × (given * actual < size * (t.0 + 1))
      go true e c f =
          let same : actual ≡ size = eqb-true actual size e in
          let time : given ≡ t.0 = takes_is (tenths given) t (sym (same_size given actual size same) ∙ h) in
          rw (← time, same) (omega arith, omega arith)
      go false e true f = absurd (let p = sym h ∙ too_large given actual size (eqb-false actual size e) (ltb-true 65535 (given * actual) f) in let z : ◌≡◌ {A = ℕ} 0 1 = cc in omega arith)
      go false e false f =
          let time : given * actual / size ≡ t.0 = takes_is (tenths (given * actual / size)) t (sym (in_proportion given actual size (eqb-false actual size e) (ltb-false 65535 (given * actual) f)) ∙ h) in
          rw (← time) (mul-div-le (given * actual) size, lt-mul-div-succ (given * actual) pos)

step_12 : (given actual size : ℕ)
    → (step_time_number (step_time (Some (tenths given)) actual size) ≡ 12) ↔ ((actual ≡ size → ⊥) × (65535 < given * actual))
step_12 given actual size = (go (eqb actual size) refl (ltb 65535 (given * actual)) refl, λ h. ap step_time_number (too_large given actual size h.0 h.1))
  where
    go : (b : Bool) → eqb actual size ≡ b → (c : Bool) → ltb 65535 (given * actual) ≡ c → step_time_number (step_time (Some (tenths given)) actual size) ≡ 12 → (actual ≡ size → ⊥) × (65535 < given * actual)
    go true e c f h = absurd (let z : ◌≡◌ {A = ℕ} 0 12 = sym (ap step_time_number (same_size given actual size (eqb-true actual size e))) ∙ h in omega arith)
    go false e true f h = (eqb-false actual size e, ltb-true 65535 (given * actual) f)
    go false e false f h = absurd (let z : ◌≡◌ {A = ℕ} 0 12 = sym (ap step_time_number (in_proportion given actual size (eqb-false actual size e) (ltb-false 65535 (given * actual) f))) ∙ h in omega arith)

step_no_time : (actual size : ℕ) → step_time None actual size ≡ Ok (tenths 0)
unfolding step_time
step_no_time actual size = refl

rate_10 : (given default : Rate) (fastest : ℕ)
    → (move_rate_number (rate_in_force given default fastest) ≡ 10) ↔ (rate_or given default fastest ≡ 0)
unfolding rate_in_force
rate_10 given default fastest = go (eqb (rate_or given default fastest) 0) refl
  where
    go : (b : Bool) → eqb (rate_or given default fastest) 0 ≡ b
        → (move_rate_number (cond (eqb (rate_or given default fastest) 0) (Err InvalidCommand) (Ok (rate_or given default fastest))) ≡ 10) ↔ (rate_or given default fastest ≡ 0)
    go true e = (λ h. eqb-true (rate_or given default fastest) 0 e, λ z. rw e refl)
    go false e = (λ h. absurd (let z : ◌≡◌ {A = ℕ} 0 10 = rw e at h in omega arith), λ z. absurd (eqb-false (rate_or given default fastest) 0 e z))

rate_taken : (given default : Rate) (fastest : ℕ) → 1 ≤ rate_or given default fastest
    → rate_in_force given default fastest ≡ Ok (rate_or given default fastest)
unfolding rate_in_force
rate_taken given default fastest h = simp (ne_eqb (rate_or given default fastest) 0 (λ z. omega arith))

-- Fades

pub moves_up : (counter target : ℕ) (time : Tenths) → 1 ≤ (time).0 → counter < target → next_level counter target time ≡ counter + 1
unfolding next_level
moves_up counter target time h up = simp (ne_eqb (time).0 0 (λ z. omega arith), lt-ltb counter target up)

pub moves_down : (counter target : ℕ) (time : Tenths) → 1 ≤ (time).0 → target < counter → next_level counter target time ≡ counter - 1
unfolding next_level
moves_down counter target time h down =
    simp (ne_eqb (time).0 0 (λ z. omega arith), le-ltb counter target (omega arith), lt-ltb target counter down)

counter_moves : (counter target : ℕ) (time : Tenths) → 1 ≤ (time).0 → (counter ≡ target → ⊥)
    → (apart counter (next_level counter target time) ≡ 1) × (apart (next_level counter target time) target + 1 ≡ apart counter target)
counter_moves counter target time h ne = go (ltb counter target) refl
  where
    go : (up : Bool) → ltb counter target ≡ up
        → (apart counter (next_level counter target time) ≡ 1) × (apart (next_level counter target time) target + 1 ≡ apart counter target)
    go true e =
        let up : counter < target = ltb-true counter target e in
        rw (moves_up counter target time h up) (omega arith, omega arith)
    go false e =
        let down : target < counter = omega (arith, ltb-false counter target e) in
        rw (moves_down counter target time h down) (omega arith, omega arith)

counter_jumps : (counter target : ℕ) → next_level counter target (tenths 0) ≡ target
unfolding next_level
counter_jumps counter target = refl

counter_stays : (target : ℕ) (time : Tenths) → next_level target target time ≡ target
unfolding next_level
counter_stays target time = go (is_zero time) refl
  where
    go : (b : Bool) → is_zero time ≡ b → next_level target target time ≡ target
    go true e = simp e
    go false e = simp (e, le-ltb target target (omega arith))

remaining_falls : (remaining period : Millis) → period.0 ≤ remaining.0 → (remaining_after remaining period false).0 + period.0 ≡ remaining.0
unfolding remaining_after
remaining_falls remaining period h = omega arith

remaining_stops : (remaining period : Millis) → remaining.0 ≤ period.0 → (remaining_after remaining period false).0 ≡ 0
unfolding remaining_after
remaining_stops remaining period h = omega arith

remaining_ends : (remaining period : Millis) → (remaining_after remaining period true).0 ≡ 0
unfolding remaining_after
remaining_ends remaining period = refl

-- the two ways after an answer
is_in_time : (asked answered period : Micros) → answered.0 - asked.0 ≤ period.0 → wait_or_ask asked answered period ≡ Some (later asked period)
unfolding wait_or_ask
is_in_time asked answered period h = simp (le-leb (answered.0 - asked.0) period.0 h)

late : (asked answered period : Micros) → period.0 < answered.0 - asked.0 → wait_or_ask asked answered period ≡ None
unfolding wait_or_ask
late asked answered period h = simp (lt-leb (answered.0 - asked.0) period.0 h)

waits : (asked answered period : Micros) (until : ℕ) → asked.0 + period.0 ≤ 18446744073709551615
    → (fade.waits (wait_or_ask asked answered period) ≡ until ∷ []) ↔ ((answered.0 - asked.0 ≤ period.0) × (until ≡ asked.0 + period.0))
waits asked answered period until fits = (go (leb (answered.0 - asked.0) period.0) refl, back)
  where
    go : (b : Bool) → leb (answered.0 - asked.0) period.0 ≡ b → fade.waits (wait_or_ask asked answered period) ≡ until ∷ []
        → (answered.0 - asked.0 ≤ period.0) × (until ≡ asked.0 + period.0)
    go true e h =
        let room = leb-true (answered.0 - asked.0) period.0 e in
        let same : (later asked period).0 ≡ until = one_is (later asked period).0 until (sym (ap fade.waits (is_in_time asked answered period room)) ∙ h) in
        (room, omega arith)
    go false e h =
        absurd (none_is_not_one until (sym (ap fade.waits (late asked answered period (leb-false (answered.0 - asked.0) period.0 e))) ∙ h))

    back : (answered.0 - asked.0 ≤ period.0) × (until ≡ asked.0 + period.0) → fade.waits (wait_or_ask asked answered period) ≡ until ∷ []
    back h = ap fade.waits (is_in_time asked answered period h.0) ∙ one (later asked period).0 until (omega (arith, h.1))

asks : (asked answered period : Micros) → (fade.waits (wait_or_ask asked answered period) ≡ []) ↔ (period.0 < answered.0 - asked.0)
asks asked answered period = (go (leb (answered.0 - asked.0) period.0) refl, λ h. ap fade.waits (late asked answered period h))
  where
    go : (b : Bool) → leb (answered.0 - asked.0) period.0 ≡ b → fade.waits (wait_or_ask asked answered period) ≡ [] → period.0 < answered.0 - asked.0
    go true e h =
        absurd (none_is_not_one (later asked period).0 (sym h ∙ ap fade.waits (is_in_time asked answered period (leb-true (answered.0 - asked.0) period.0 e))))
    go false e h = leb-false (answered.0 - asked.0) period.0 e

-- Moves

module _ (rate q : ℕ) (pos : 1 ≤ rate) where
  abbrev period : ℕ
  period = (1000000 + rate / 2) / rate

  below_it : rate * period ≤ 1000000 + rate / 2
  below_it = mul-div-le (1000000 + rate / 2) rate

  above_it : 1000000 + rate / 2 < rate * (period + 1)
  above_it = lt-mul-div-succ (1000000 + rate / 2) pos

  nearest : apart (rate * period) 1000000 ≤ apart (rate * q) 1000000
  nearest = go (ltb q period) refl (ltb period q) refl
    where
      go : (b : Bool) → ltb q period ≡ b → (c : Bool) → ltb period q ≡ c → apart (rate * period) 1000000 ≤ apart (rate * q) 1000000
      go true e c f = omega (arith, below_it, above_it, mul-le-mul_left {m = q + 1} {n = period} rate (omega (arith, ltb-true q period e)))
      go false e true f = omega (arith, below_it, above_it, mul-le-mul_left {m = period + 1} {n = q} rate (omega (arith, ltb-true period q f)))
      go false e false f = let same : q ≡ period = omega (arith, ltb-false q period e, ltb-false period q f) in rw same (omega arith)

move_nearest : (rate q : ℕ) → 1 ≤ rate → apart (rate * (move_period rate).0) 1000000 ≤ apart (rate * q) 1000000
unfolding move_period
move_nearest rate q pos = nearest rate q pos

move_period_0 : move_period 0 ≡ micros 0
unfolding move_period
move_period_0 = refl

move_period_rounds : (rate : ℕ) → 1 ≤ rate → (rate * (move_period rate).0 ≤ 1000000 + rate / 2) × (1000000 + rate / 2 < rate * ((move_period rate).0 + 1))
unfolding move_period
move_period_rounds rate pos = (below_it rate 0 pos, above_it rate 0 pos)

-- Scenes

module _ (ids values : List ℕ) where
  abbrev first_pair : (p : Pair) → First decides (pairs ids values) p → scene_level ids values ≡ Some p.value
  unfolding scene_level
  first_pair p f = found decides (λ p. Some p.value) None (pairs ids values) p f

  abbrev no_pair : NoneOf decides (pairs ids values) → scene_level ids values ≡ None
  unfolding scene_level
  no_pair n = missed decides (λ p. Some p.value) None (pairs ids values) n

  scene_known : (v : ℕ) → (scene_level ids values ≡ Some v) ↔ ((p : Pair) × First decides (pairs ids values) p × (p.value ≡ v))
  scene_known v = (
    λ e. ⊎_elim
        (λ f. (f.0, f.1, same_Some f.0.value v (sym (first_pair f.0 f.1) ∙ e)))
        (λ n. absurd (let p = sym (no_pair n) ∙ e in let z : ◌≡◌ {A = ℕ} 0 1 = cc in omega arith))
        (either decides (pairs ids values)),
    λ h. first_pair h.0 h.1 ∙ ap Some h.2,
  )

  scene_missing : (scene_level ids values ≡ None) ↔ NoneOf decides (pairs ids values)
  scene_missing = (
    λ e. ⊎_elim
        (λ f. absurd (let p = sym (first_pair f.0 f.1) ∙ e in let z : ◌≡◌ {A = ℕ} 0 1 = cc in omega arith))
        (λ n. n)
        (either decides (pairs ids values)),
    no_pair,
  )

-- Causes

cause : (t : Tests) (n : ℕ)
    → (first_cause t ≡ n)
    ↔ (((r : Row) × First (λ r. r.applies) (rows t) r × (r.number ≡ n)) ⊎ (NoneOf (λ r. r.applies) (rows t) × (n ≡ 0)))
unfolding first_cause
cause t n = (
  λ e. ⊎_elim
      (λ f. inl (f.0, f.1, sym (found (λ r. r.applies) (λ r. r.number) 0 (rows t) f.0 f.1) ∙ e))
      (λ z. inr (z, sym e ∙ missed (λ r. r.applies) (λ r. r.number) 0 (rows t) z))
      (either (λ r. r.applies) (rows t)),
  ⊎_elim
      (λ h. found (λ r. r.applies) (λ r. r.number) 0 (rows t) h.0 h.1 ∙ h.2)
      (λ h. missed (λ r. r.applies) (λ r. r.number) 0 (rows t) h.0 ∙ sym h.1),
)

pub rule_laws : Laws
rule_laws = record {
  remaining_report = remaining_report;
  options_stop = options_stop;
  level_report = level_report;
  report_without_gap = report_without_gap;
  end_report = end_report;
  missing_report = missing_report;
  coupling = coupling;
  coupling_action = coupling_action;
  target_255 = λ lo hi. (target_kept 255 lo hi (omega arith), refl);
  target_held = λ level lo hi h g. rw (target_clamped level lo hi h) (omega arith, omega arith);
  target_stays = λ level lo hi h g k. rw (target_clamped level lo hi h) (omega arith);
  target_clamped = λ level lo hi h g. rw (target_clamped level lo hi h) (λ k. omega arith, λ k. omega arith);
  target_crossed = λ level lo hi h g. rw (target_clamped level lo hi h) (omega arith);
  target_options = λ level. (leb-true level 254, le-leb level 254);
  step_up = value.step_up;
  step_down = value.step_down;
  step_time_rounds = step_time_rounds;
  step_12 = step_12;
  step_no_time = step_no_time;
  rate_10 = rate_10;
  rate_taken = rate_taken;
  fade_period_rounds = task.fade_period_rounds;
  fade_period_0 = task.fade_period_0;
  remaining_falls = remaining_falls;
  remaining_stops = remaining_stops;
  remaining_ends = remaining_ends;
  counter_moves = counter_moves;
  counter_jumps = counter_jumps;
  counter_stays = counter_stays;
  waits = waits;
  asks = asks;
  start = task.start;
  begin_11 = λ level r now. task.begin_11 r now level;
  begin_reached = λ level r now. task.begin_reached r now level;
  begin_asks = λ level r now asked. task.begin_asks r now level asked;
  begin_fade_begins = λ c r now f h. task.begin_fade_begins r now c f h;
  move_nearest = move_nearest;
  move_period_rounds = move_period_rounds;
  move_period_0 = move_period_0;
  move_11 = task.move_11;
  move_up = task.move_up;
  move_down = task.move_down;
  move_passes = task.move_passes;
  move_end = task.move_end;
  at_limit_means = task.at_limit_means;
  put_back_means = task.put_back_means;
  scene_known = scene_known;
  scene_missing = scene_missing;
  scene_at = scene.scene_at;
  scene_nowhere = scene.scene_nowhere;
  same_level_means = value.same_level_means;
  within = value.within;
  outside = value.outside;
  rate_0 = value.rate_0;
  seven_held = λ l. omega (arith, length-take 7 l);
  held_stays = λ l h. take_all 7 l h;
  eighth_dropped = full;
  request_given = task.request_given;
  wait_given = task.wait_given;
  cause = cause;
}
