-- Where the rules are what the Matter document says: proofs of specs/Matter.antt. Assumes nothing.
use Rattle.std.specs.Prelude.{Some, None, Ok, Err}
use Prim.Native.Nat.{ℕ, zero, suc, ◌+◌, ◌-◌, ◌%◌, ◌≤◌, min, max}
use mathlib.Core.Bool.{Bool, true, false, cond, ◌&&◌, ◌||◌, not, beq, or-true, or-false, and_comm}
use mathlib.Core.Path.{◌≡◌, refl, sym, ap, ◌∙◌}
use native.Mathlib.Nat.{div-one}
use native.Mathlib.Omega.{arith}
use borrow.Author.Tests.{ltb-true, ltb-false, eqb-true, eqb-false, lt-ltb, le-ltb, eq-eqb, ne_eqb}
use lib.Dec.{ltb, eqb}
use Rattle.units.specs.Numbers.{apart}
use Rattle.units.specs.declared.Tenths.{Tenths}
use Rattle.units.specs.declared.Micros.{Micros}
use Rattle.units.specs.Units.{tenths, micros, scaled_floor}
use Rattle.transitions.specs.Types.{rate_or}
use Rattle.transitions.specs.Options.{should_continue}
use Rattle.transitions.specs.RemainingTime.{remaining_time_due}
use Rattle.transitions.specs.CurrentLevel.{second, current_level_due}
use Rattle.transitions.specs.Coupling.{coupled_on_off}
use Rattle.transitions.specs.Commands.{step_level, step_time, rate_in_force}
use Rattle.transitions.specs.Matter.{executes, changed, level_reportable, time_reportable, increased, decreased, move_rate, on_off_after, after_sent, ProportionallyReduced, Agreement}
use Rattle.transitions.specs.Types.{Level}
use Rattle.transitions.specs.declared.types.Mode.TheVariants.{Up, Down}
use Rattle.transitions.specs.Types.{Rate}
use Rattle.transitions.specs.declared.types.OptionsBitmap.{OptionsBitmap}
use Rattle.transitions.proofs.RuleLaws.{rule_laws}
use Rattle.transitions.specs.declared.causes.Refusal.TheVariants.{InvalidCommand, ProductTooLarge}

-- options

all_criteria : (w c on m v o : Bool)
    → cond w true (cond c (cond on true (cond m v o)) true) ≡ not (not w && c && not on && not (cond m v o))
all_criteria true c on m v o = refl
all_criteria false false on m v o = refl
all_criteria false true true m v o = refl
all_criteria false true false true true o = refl
all_criteria false true false true false o = refl
all_criteria false true false false v true = refl
all_criteria false true false false v false = refl

options : (w c on : Bool) (o m v : OptionsBitmap) → should_continue w c on o m v ≡ executes w c on o.0 m.0 v.0
unfolding should_continue executes
options w c on o m v =
    simp div-one (all_criteria w c on (eqb (m.0 % 2) 1) (eqb (v.0 % 2) 1) (eqb (o.0 % 2) 1))

-- reports

level_report : (last now : Micros) (end : Bool) (old new : Level) → changed old new ≡ true
    → current_level_due second last now end old new ≡ level_reportable (now.0 - last.0) end old new
unfolding current_level_due level_reportable
level_report last now end (Some a) (Some b) e = simp (e, or-false)
level_report last now end (Some a) None e = simp (or-true)
level_report last now end None (Some b) e = simp (or-true, or-false)
level_report last now end None None e = absurd (let z : ◌≡◌ {A = ℕ} 0 1 = cc in omega arith)

level_report_parts : (current_level_due second (micros 0) (micros 0) true (Some 10) (Some 10) ≡ true) × (level_reportable 0 true (Some 10) (Some 10) ≡ false)
unfolding current_level_due level_reportable
level_report_parts = (refl, refl)

nonzero : (a : ℕ) → not (eqb a 0) ≡ ltb 0 a
nonzero a = go (ltb 0 a) refl
  where
    go : (b : Bool) → ltb 0 a ≡ b → not (eqb a 0) ≡ ltb 0 a
    go true e = simp (e, ne_eqb a 0 (λ z. omega (arith, ltb-true 0 a e)))
    go false e = simp (e, eq-eqb a 0 (omega (arith, ltb-false 0 a e)))

far : (a b : ℕ) → ltb 10 (apart b a) ≡ (ltb (a + 10) b || ltb (b + 10) a)
far a b = go (ltb (a + 10) b) refl (ltb (b + 10) a) refl
  where
    go : (x : Bool) → ltb (a + 10) b ≡ x → (y : Bool) → ltb (b + 10) a ≡ y → ltb 10 (apart b a) ≡ (ltb (a + 10) b || ltb (b + 10) a)
    go true e y f = simp (e, lt-ltb 10 (apart b a) (omega (arith, ltb-true (a + 10) b e)))
    go false e true f = simp (e, f, lt-ltb 10 (apart b a) (omega (arith, ltb-true (b + 10) a f)))
    go false e false f = simp (e, f, le-ltb 10 (apart b a) (omega (arith, ltb-false (a + 10) b e, ltb-false (b + 10) a f)))

time_report : (old new : Tenths) (start : Bool) → remaining_time_due old new start ≡ time_reportable old.0 new.0 start
unfolding remaining_time_due time_reportable
time_report old new start =
    simp (nonzero old.0, far old.0 new.0, and_comm (eqb new.0 0) (ltb 0 old.0), and_comm (ltb (old.0 + 10) new.0 || ltb (new.0 + 10) old.0) start)

-- steps

up : (size level hi : ℕ) → level ≤ hi → min (level + size) hi ≡ increased size level hi
up zero level hi h = omega arith
up (suc k) level hi h = go (eqb level hi) refl (λ g. up k (level + 1) hi g)
  where
    go : (b : Bool) → eqb level hi ≡ b → (level + 1 ≤ hi → min (level + 1 + k) hi ≡ increased k (level + 1) hi)
        → min (level + suc k) hi ≡ cond (eqb level hi) level (increased k (level + 1) hi)
    go true e ih = let top : level ≡ hi = eqb-true level hi e in rw e (omega arith)
    go false e ih =
        let room : level + 1 ≤ hi = let n = eqb-false level hi e in omega arith in
        let sum : level + suc k ≡ level + 1 + k = omega arith in
        rw (e, sum) (ih room)

step_up : (level size lo hi : ℕ) → level ≤ hi → hi ≤ 254 → step_level Up level size lo hi ≡ increased size level hi
unfolding step_level
step_up level size lo hi h g = let held : min (min 255 (level + size)) hi ≡ min (level + size) hi = omega arith in held ∙ up size level hi h

down : (size level lo : ℕ) → lo ≤ level → max (level - size) lo ≡ decreased size level lo
down zero level lo h = omega arith
down (suc k) level lo h = go (eqb level lo) refl (λ g. down k (level - 1) lo g)
  where
    go : (b : Bool) → eqb level lo ≡ b → (lo ≤ level - 1 → max (level - 1 - k) lo ≡ decreased k (level - 1) lo)
        → max (level - suc k) lo ≡ cond (eqb level lo) level (decreased k (level - 1) lo)
    go true e ih = let bottom : level ≡ lo = eqb-true level lo e in rw e (omega arith)
    go false e ih =
        let room : lo ≤ level - 1 = let n = eqb-false level lo e in omega arith in
        let rest : level - suc k ≡ level - 1 - k = omega arith in
        rw (e, rest) (ih room)

step_down : (level size lo hi : ℕ) → lo ≤ level → step_level Down level size lo hi ≡ decreased size level lo
unfolding step_level
step_down level size lo hi h = down size level lo h

-- the product of 40,000 tenths and 2 levels is too large, though a third of it would not be
step_time_parts : (step_time (Some (tenths 40000)) 2 3 ≡ (Err ProductTooLarge)) × ProportionallyReduced 40000 2 3 26666
unfolding step_time scaled_floor
step_time_parts = (refl, (omega arith, omega arith))

-- rates

rate_is : (given default : Rate) (fastest : ℕ) → rate_or given default fastest ≡ move_rate given default fastest
rate_is (Some r) default fastest = refl
rate_is None (Some r) fastest = refl
rate_is None None fastest = refl

rates : (given default : Rate) (fastest : ℕ) → 1 ≤ move_rate given default fastest
    → rate_in_force given default fastest ≡ Ok (move_rate given default fastest)
unfolding rate_in_force
rates given default fastest h =
    simp (rate_is given default fastest, ne_eqb (move_rate given default fastest) 0 (λ z. omega arith))

rate_parts : (given default : Rate) (fastest : ℕ) → move_rate given default fastest ≡ 0 → rate_in_force given default fastest ≡ (Err InvalidCommand)
unfolding rate_in_force
rate_parts given default fastest h = simp (rate_is given default fastest, eq-eqb (move_rate given default fastest) 0 h)

-- the coupling

after : (w c x on : Bool) → after_sent on (cond (w && c && not (beq x on)) (Some x) None) ≡ cond (w && c) x on
after false c x on = refl
after true false x on = refl
after true true true true = refl
after true true true false = refl
after true true false true = refl
after true true false false = refl

-- from MIN on, the level is at MIN or above it
at_or_above : (on : Bool) (min level : ℕ) → min ≤ level → cond (eqb level min) false (cond (ltb min level) true on) ≡ ltb min level
at_or_above on min level h = go (ltb min level) refl
  where
    go : (b : Bool) → ltb min level ≡ b → cond (eqb level min) false (cond (ltb min level) true on) ≡ ltb min level
    go true e = simp (e, ne_eqb level min (λ z. omega (arith, ltb-true min level e)))
    go false e = simp (e, eq-eqb level min (omega (arith, ltb-false min level e)))

coupling : (w c on : Bool) (min level : ℕ) → min ≤ level
    → after_sent on (coupled_on_off w c on min level) ≡ on_off_after w c on min level
unfolding coupled_on_off on_off_after
coupling w c on min level h = after w c (ltb min level) on ∙ sym (ap (λ (x : Bool). cond (w && c) x on) (at_or_above on min level h))

pub matter_agrees : Agreement
matter_agrees = record {
  options = options;
  level_report = level_report;
  level_report_parts = level_report_parts;
  time_report = time_report;
  step_up = step_up;
  step_down = step_down;
  step_time_rounds = rule_laws.step_time_rounds;
  step_time_parts = step_time_parts;
  rate = rates;
  rate_parts = rate_parts;
  range = rule_laws.target_held;
  range_parts = (λ h. omega arith, (rule_laws.target_255 1 254).0);
  coupling = coupling;
}
