-- The values that a record is read as, as they stand in its bytes. Assumes nothing.
use Rattle.std.specs.Prelude.{if◌then◌else◌, Some, Ok, Err}
use Rattle.std.specs.Bool.{then_some}
use Prim.Native.Nat.{ℕ, zero, suc, ◌/◌, ◌%◌, ◌^◌, ◌≤◌}
use mathlib.Core.Bool.{Bool, true, false, cond, ◌&&◌}
use mathlib.Core.Path.{◌≡◌, refl, ap, ◌∙◌}
use mathlib.Core.List.{List, [], ◌∷◌}
use native.Mathlib.Nat.{zero-add}
use native.Mathlib.Omega.{arith}
use borrow.Author.Tests.{eqb-true, eqb-false}
use lib.Dec.{eqb, ltb}
use lib.ListN.{get_or}
use Rattle.units.specs.declared.Tenths.{Tenths}
use Rattle.transitions.specs.Causes.{first_cause}
use Rattle.transitions.specs.Tasks.{mode_number}
use Rattle.transitions.specs.Types.{level_values, time_values}
use Rattle.transitions.specs.declared.events.DeviceAnswer.TheVariants as device
use Rattle.transitions.specs.declared.events.Event.{Event}
use Rattle.transitions.specs.declared.events.EventKind.{EventKind}
use Rattle.transitions.specs.declared.events.EventKind.TheVariants as kind
use Rattle.transitions.specs.declared.settings.Settings.{Settings}
use Rattle.records.specs.Bytes.{byte_at, is_set}
use Rattle.records.specs.EventRecord.{mode_of, kinds, event_read, event_read_number, event_read_values, kind_values, kind_values_at, event_values_at}
use Rattle.records.specs.Laws.{settings_causes, settings_tests}
use Rattle.records.specs.Layout.{layout, event_layouts, Keeps}
use Rattle.records.specs.SettingsRecord.{known_bit, settings_at, settings_read, settings_read_values, settings_values_at, settings_wrong}
use Rattle.records.specs.Written.{bit, known}
use Rattle.records.specs.declared.refusal.RecordRefusal.TheVariants.{RecordWrong, MaxAbove254, MinAboveMax, LightingMin0}
use Rattle.records.proofs.HeadLaws.{Each, each_at, then_gives, map_gives, parts, event_head}
use Rattle.records.proofs.LayoutLaws.{◌also◌, event_right, settings_right}

-- a flag's byte
flag_byte : (b : ℕ) → b ≤ 1 → bit (eqb b 1) ≡ b
flag_byte b h = go (eqb b 1) refl
  where
    go : (t : Bool) → eqb b 1 ≡ t → bit t ≡ b
    go true e = omega (arith, eqb-true b 1 e)
    go false e = omega (arith, eqb-false b 1 e)

-- whether a value is known, and the value
known_level : (b : Bool) (v : ℕ) → level_values (then_some b v) ≡ cond b (v ∷ []) []
known_level true v = refl
known_level false v = refl

known_time : (b : Bool) (t : Tenths) → time_values (then_some b t) ≡ cond b (t.0 ∷ []) []
known_time true t = refl
known_time false t = refl

known_if : {A : Type 0} (b : Bool) (v : A) → known (then_some b v) ≡ bit b
known_if true v = refl
known_if false v = refl

-- Settings

first : (wrong above under dark : Bool) (x : Settings) (values : List ℕ) → (wrong ≡ false → settings_read_values (Ok x) ≡ values)
    → settings_read_values (if wrong then Err RecordWrong else if above then Err MaxAbove254 else if under then Err MinAboveMax else if dark then Err LightingMin0 else Ok x)
    ≡ cond (eqb (first_cause (settings_causes wrong above under dark)) 0) values []
unfolding first_cause
first true above under dark x values h = refl
first false true under dark x values h = refl
first false false true dark x values h = refl
first false false false true x values h = refl
first false false false false x values h = h refl

module _ (s : List ℕ) where
  -- a known bit
  bit_of : (n : ℕ) → bit (known_bit s n) ≡ byte_at s 11 / 2 ^ n % 2
  bit_of n = flag_byte (byte_at s 11 / 2 ^ n % 2) (omega arith)

  read : settings_wrong s ≡ false → settings_read_values (Ok (settings_at s)) ≡ settings_values_at s
  read w =
      let k = (settings_right s).0 w in
      let coupled : bit (is_set s 4) ≡ byte_at s 4 = flag_byte (byte_at s 4) k.1.within.0 in
      let lighting : bit (is_set s 18) ≡ byte_at s 18 = flag_byte (byte_at s 18) k.1.within.1.1.0 in
      simp (coupled, lighting, bit_of, known_if, known_level, known_time)

  pub settings_values : settings_read_values (settings_read s) ≡ cond (eqb (first_cause (settings_tests s)) 0) (settings_values_at s) []
  unfolding settings_read
  settings_values =
      first (settings_wrong s) (ltb 254 (byte_at s 3)) (ltb (byte_at s 3) (byte_at s 2)) (eqb (byte_at s 18) 1 && eqb (byte_at s 2) 0) (settings_at s) (settings_values_at s) read

-- Events

mode_as_byte : (b : ℕ) → b ≤ 1 → mode_number (mode_of (eqb b 1)) ≡ b
mode_as_byte b h = go (eqb b 1) refl
  where
    go : (t : Bool) → eqb b 1 ≡ t → mode_number (mode_of t) ≡ b
    go true e = omega (arith, eqb-true b 1 e)
    go false e = omega (arith, eqb-false b 1 e)

-- an answer's code
answered : (c l : ℕ) → c ≤ 2 → kind_values (kind.Answer (if eqb c 0 then device.Level l else if eqb c 1 then device.Missing else device.Failed)) ≡ c ∷ cond (eqb c 0) (l ∷ []) []
answered zero l h = refl
answered (suc zero) l h = refl
answered (suc (suc zero)) l h = refl
answered (suc (suc (suc c))) l h = absurd (omega arith)

-- what each kind says is what stands in the bytes, where they keep its layout
module _ (s : List ℕ) where
  abbrev Says : ℕ → EventKind → Type 0
  Says n k = Keeps s (get_or event_layouts n (layout [] 0)) → kind_values k ≡ get_or (kind_values_at s) n []

  kept : Each Says 0 (kinds s)
  kept =
      then_gives _ _ (λ k. refl)
      also map_gives _ _ (then_gives _ _ (λ k. simp (flag_byte (byte_at s 12) k.within.0, flag_byte (byte_at s 14) k.within.1.0, known_if, known_time)))
      also map_gives _ _ (then_gives _ _ (λ k. simp (flag_byte (byte_at s 12) k.within.0, mode_as_byte (byte_at s 13) k.within.1.0, flag_byte (byte_at s 14) k.within.1.1.0, known_if, known_level)))
      also map_gives _ _ (then_gives _ _ (λ k. simp (flag_byte (byte_at s 12) k.within.0, mode_as_byte (byte_at s 13) k.within.1.0, flag_byte (byte_at s 15) k.within.1.1.0, known_if, known_time)))
      also map_gives _ _ (then_gives _ _ (λ k. simp (flag_byte (byte_at s 12) k.within.0)))
      also map_gives _ _ (then_gives _ _ (λ k. answered (byte_at s 12) (byte_at s 13) k.within.0))
      also then_gives _ _ (λ k. refl)
      also map_gives _ _ (then_gives _ _ (λ k. simp (flag_byte (byte_at s 12) k.within.0)))
      also map_gives _ _ (then_gives _ _ (λ k. simp (flag_byte (byte_at s 12) k.within.0, known_if, known_level)))
      also map_gives _ _ (then_gives _ _ (λ k. refl))
      also map_gives _ _ (then_gives _ _ (λ k. refl))
      also map_gives _ _ (map_gives _ _ (then_gives _ _ (λ k. simp (flag_byte (byte_at s 12) k.within.0, known_if, known_level))))
      also map_gives _ _ (map_gives _ _ (then_gives _ _ (λ k. simp (flag_byte (byte_at s 12) k.within.0, known_if, known_level))))
      also map_gives _ _ (map_gives _ _ (then_gives _ _ (λ k. simp (flag_byte (byte_at s 12) k.within.0, known_if, known_level))))
      also map_gives _ _ (then_gives _ _ (λ k. refl))
      also tt

  pub event_values : (e : Event) → event_read s ≡ Some e → event_read_values (Some e) ≡ event_values_at s
  event_values e p =
      let head = event_head s e p in
      let right = (event_right s).0 (ap event_read_number p) in
      let flag : bit e.moment.on_off ≡ byte_at s 3 = ap bit head.2 ∙ flag_byte (byte_at s 3) right.1 in
      let says : Says (byte_at s 2) e.kind = rw zero-add at (each_at Says 0 (kinds s) kept (byte_at s 2) e.kind (parts s e p).0) in
      rw (head.0, head.1, flag, says right.3)
