-- What is read from bytes fits its bytes, and settings that are read are allowed. Assumes nothing.
use Prim.Native.Nat.{ℕ, ◌<◌, ◌^◌}
use mathlib.Core.Bool.{Bool, true, false, ◌&&◌, false≢true}
use mathlib.Core.Path.{◌≡◌, refl}
use mathlib.Core.List.{List}
use native.Mathlib.Omega.{arith}
use borrow.Author.Tests.{ltb-false, eqb-false}
use lib.Dec.{ltb, eqb}
use Rattle.std.specs.Prelude.{Some, if◌then◌else◌, Ok, Err}
use Rattle.std.specs.Bool.{then_some}
use Rattle.units.specs.declared.Tenths.{Tenths}
use Rattle.transitions.specs.declared.events.DeviceAnswer.TheVariants as device
use Rattle.transitions.specs.declared.events.Event.{Event}
use Rattle.transitions.specs.declared.settings.Settings.{Settings}
use Rattle.records.specs.Bytes.{byte_at, tenths_at, is_set}
use Rattle.records.specs.SettingsRecord.{settings_wrong, settings_at, settings_read}
use Rattle.records.specs.EventRecord.{kinds, event_read}
use Rattle.records.specs.Written.{ByteFits, TimeFits, AnswerFits, KindFits, EventFits, SettingsFit, Allowed}
use Rattle.records.specs.Laws.{AllBytes}
use Rattle.records.specs.declared.refusal.RecordRefusal.TheVariants.{RecordWrong, MaxAbove254, MinAboveMax, LightingMin0}
use Rattle.records.proofs.ByteLaws.{small, below}
use Rattle.records.proofs.LayoutLaws.{◌also◌}
use Rattle.records.proofs.HeadLaws.{then_gives, map_gives, Each, each_at, parts}

byte_fits : (known : Bool) (b : ℕ) → b < 2 ^ 8 → ByteFits (then_some known b)
byte_fits true b h = h
byte_fits false b h = tt

time_fits : (known : Bool) (t : Tenths) → t.0 < 2 ^ 16 → TimeFits (then_some known t)
time_fits true t h = h
time_fits false t h = tt

-- Events.

answer_fits : (level missing : Bool) (l : ℕ) → l < 2 ^ 8 → AnswerFits (if level then device.Level l else if missing then device.Missing else device.Failed)
answer_fits true missing l h = h
answer_fits false true l h = tt
answer_fits false false l h = tt

module _ (s : List ℕ) (a : AllBytes s) where
  value_fits : ByteFits (then_some (is_set s 12) (byte_at s 13))
  value_fits = byte_fits (is_set s 12) (byte_at s 13) (small s 13 a)

  all_fit : Each (λ n k. KindFits k) 0 (kinds s)
  all_fit =
      then_gives _ _ tt
      also map_gives _ _ (then_gives _ _ (small s 13 a, time_fits (is_set s 14) (tenths_at s 15) (below 2 s 15 a), (small s 17 a, small s 18 a)))
      also map_gives _ _ (then_gives _ _ (byte_fits (is_set s 14) (byte_at s 15) (small s 15 a), (small s 16 a, small s 17 a)))
      also map_gives _ _ (then_gives _ _ (small s 14 a, time_fits (is_set s 15) (tenths_at s 16) (below 2 s 16 a), (small s 18 a, small s 19 a)))
      also map_gives _ _ (then_gives _ _ (small s 13 a, small s 14 a))
      also map_gives _ _ (then_gives _ _ (answer_fits (eqb (byte_at s 12) 0) (eqb (byte_at s 12) 1) (byte_at s 13) (small s 13 a)))
      also then_gives _ _ tt
      also map_gives _ _ (then_gives _ _ tt)
      also map_gives _ _ (then_gives _ _ (value_fits, below 4 s 14 a))
      also map_gives _ _ (then_gives _ _ (small s 12 a))
      also map_gives _ _ (then_gives _ _ tt)
      also map_gives _ _ (map_gives _ _ (then_gives _ _ value_fits))
      also map_gives _ _ (map_gives _ _ (then_gives _ _ value_fits))
      also map_gives _ _ (map_gives _ _ (then_gives _ _ value_fits))
      also map_gives _ _ (then_gives _ _ tt)
      also tt

pub event_fits : (s : List ℕ) (e : Event) → AllBytes s → event_read s ≡ Some e → EventFits e
event_fits s e a p =
    let q = parts s e p in
    record { time = rw q.1 (below 8 s 4 a); kind = each_at (λ n k. KindFits k) 0 (kinds s) (all_fit s a) (byte_at s 2) e.kind q.0 }

-- Settings.

not_both : (a b : Bool) → (a && b) ≡ false → a ≡ true → b ≡ false
not_both true b e p = e
not_both false b e p = absurd (false≢true p)

-- settings that are read passed the four tests
passed : (wrong above under dark : Bool) (y x : Settings)
    → (if wrong then Err RecordWrong else if above then Err MaxAbove254 else if under then Err MinAboveMax else if dark then Err LightingMin0 else Ok y) ≡ Ok x
    → (above ≡ false) × (under ≡ false) × (dark ≡ false) × (x ≡ y)
passed false false false false y x p = (refl, refl, refl, cc)
passed true above under dark y x p = cc
passed false true under dark y x p = cc
passed false false true dark y x p = cc
passed false false false true y x p = cc

at_fit : (s : List ℕ) → AllBytes s → SettingsFit (settings_at s)
at_fit s a = record {
  min_level_fits = small s 2 a;
  max_level_fits = small s 3 a;
  fastest_rate = small s 6 a;
  level = byte_fits _ (byte_at s 7) (small s 7 a);
  on_level = byte_fits _ (byte_at s 8) (small s 8 a);
  options = small s 5 a;
  common_time = below 2 s 12 a;
  on_time_fits = time_fits _ (tenths_at s 14) (below 2 s 14 a);
  off_time_fits = time_fits _ (tenths_at s 16) (below 2 s 16 a);
  default_rate = byte_fits _ (byte_at s 10) (small s 10 a);
  start_up_level_fits = byte_fits _ (byte_at s 9) (small s 9 a);
}

at_allowed : (s : List ℕ) → ltb 254 (byte_at s 3) ≡ false → ltb (byte_at s 3) (byte_at s 2) ≡ false → (is_set s 18 && eqb (byte_at s 2) 0) ≡ false → Allowed (settings_at s)
at_allowed s above under dark = record {
  max_at_most_254 = ltb-false 254 (byte_at s 3) above;
  min_at_most_max = ltb-false (byte_at s 3) (byte_at s 2) under;
  lighting_not_0 = λ l. let some = eqb-false (byte_at s 2) 0 (not_both (is_set s 18) (eqb (byte_at s 2) 0) dark l) in omega arith;
}

pub settings_fit : (s : List ℕ) (x : Settings) → AllBytes s → settings_read s ≡ Ok x → SettingsFit x × Allowed x
unfolding settings_read
settings_fit s x a p =
    let t = passed (settings_wrong s) (ltb 254 (byte_at s 3)) (ltb (byte_at s 3) (byte_at s 2)) (is_set s 18 && eqb (byte_at s 2) 0) (settings_at s) x p in
    rw t.3 (at_fit s a, at_allowed s t.0 t.1 t.2)
