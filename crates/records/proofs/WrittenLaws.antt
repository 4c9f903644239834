-- What is written as Written.antt says is read again. Assumes nothing.
use Rattle.std.specs.Prelude.{Option, Some, None, is_some, Ok}
use Rattle.std.specs.Bool.{then_some}
use Rattle.units.specs.Units.{tenths}
use Rattle.transitions.specs.declared.events.Command.TheVariants as command
use Prim.Native.Nat.{ℕ, zero, suc, ◌+◌, ◌*◌, ◌/◌, ◌%◌, ◌^◌, ◌≤◌, ◌<◌}
use mathlib.Core.Bool.{Bool, true, false, ◌&&◌}
use mathlib.Core.Path.{◌≡◌, refl}
use mathlib.Core.List.{List, [], ◌∷◌}
use native.Mathlib.Nat.{pow-succ'}
use native.Mathlib.Omega.{arith}
use borrow.Author.Tests.{le-leb, le-ltb, ne_eqb}
use lib.Dec.{leb, eqb}
use Rattle.units.specs.declared.Micros.{Micros}
use Rattle.transitions.specs.Events.{event}
use Rattle.transitions.specs.declared.events.DeviceAnswer.{DeviceAnswer}
use Rattle.transitions.specs.declared.events.DeviceAnswer.TheVariants as device
use Rattle.transitions.specs.declared.events.Event.{Event}
use Rattle.transitions.specs.declared.events.EventKind.{EventKind}
use Rattle.transitions.specs.declared.events.EventKind.TheVariants as kind
use Rattle.transitions.specs.declared.settings.Settings.{Settings}
use Rattle.transitions.specs.declared.types.Mode.{Mode}
use Rattle.transitions.specs.declared.types.Mode.TheVariants.{Up, Down}
use Rattle.transitions.specs.Types.{Time}
use Rattle.records.specs.SettingsRecord.{settings_read}
use Rattle.records.specs.EventRecord.{mode_of, kind_read, event_read}
use Rattle.records.specs.Written.{bytes_of, bit, value_byte, time_tenths, mode_byte, TimeFits, KindFits, EventFits, SettingsFit, Allowed, event_record, settings_record}

-- the number of some bytes
abbrev value : List ℕ → ℕ
value [] = 0
value (b ∷ s) = b + 256 * value s

back : (n x : ℕ) → x < 256 ^ n → value (bytes_of n x) ≡ x
back zero x h = omega arith
back (suc n) x h = omega (arith, back n (x / 256) (omega (arith, pow-succ' 256 n)))

bit_flag : (b : Bool) → leb (bit b) 1 ≡ true
bit_flag true = refl
bit_flag false = refl

bit_set : (b : Bool) → eqb (bit b) 1 ≡ b
bit_set true = refl
bit_set false = refl

value_back : (v : Option ℕ) → then_some (is_some v) (value_byte v) ≡ v
value_back (Some b) = refl
value_back None = refl

time_back : (t : Time) → TimeFits t → then_some (is_some t) (tenths (value (bytes_of 2 (time_tenths t)))) ≡ t
time_back (Some t) h = rw (back 2 t.0 h)
time_back None h = refl

mode_flag : (m : Mode) → leb (mode_byte m) 1 ≡ true
mode_flag Up = refl
mode_flag Down = refl

mode_back : (m : Mode) → mode_of (eqb (mode_byte m) 1) ≡ m
mode_back Up = refl
mode_back Down = refl

module _ (at : Micros) (on : Bool) (h : at.0 < 2 ^ 64) where
  abbrev Back : EventKind → Type 0
  Back k = event_read (event_record (event at on k)) ≡ Some (event at on k)

  answer_read : (a : DeviceAnswer) → Back (kind.Answer a)
  unfolding event_read kind_read
  answer_read (device.Level l) = rw (bit_flag on, bit_set on, back 8 at.0 h)
  answer_read device.Missing = rw (bit_flag on, bit_set on, back 8 at.0 h)
  answer_read device.Failed = rw (bit_flag on, bit_set on, back 8 at.0 h)

  pub written : (k : EventKind) → KindFits k → Back k
  unfolding event_read kind_read
  written kind.StartUp f = rw (bit_flag on, bit_set on, back 8 at.0 h)
  written (kind.Command (command.MoveToLevel r)) f =
      rw (bit_flag on, bit_set on, back 8 at.0 h, bit_flag r.options.with_on_off, bit_set r.options.with_on_off, bit_flag (is_some r.transition_time), bit_set (is_some r.transition_time), time_back r.transition_time f.1)
  written (kind.Command (command.Move r)) f =
      rw (bit_flag on, bit_set on, back 8 at.0 h, bit_flag r.options.with_on_off, bit_set r.options.with_on_off, mode_flag r.mode, mode_back r.mode, bit_flag (is_some r.rate), bit_set (is_some r.rate), value_back r.rate)
  written (kind.Command (command.Step r)) f =
      rw (bit_flag on, bit_set on, back 8 at.0 h, bit_flag r.options.with_on_off, bit_set r.options.with_on_off, mode_flag r.mode, mode_back r.mode, bit_flag (is_some r.transition_time), bit_set (is_some r.transition_time), time_back r.transition_time f.1)
  written (kind.Command (command.Stop o)) f = rw (bit_flag on, bit_set on, back 8 at.0 h, bit_flag o.with_on_off, bit_set o.with_on_off)
  written (kind.Answer a) f = answer_read a
  written kind.Wake f = rw (bit_flag on, bit_set on, back 8 at.0 h)
  written (kind.Command (command.OnOffChanged v)) f = rw (bit_flag on, bit_set on, back 8 at.0 h, bit_flag v, bit_set v)
  written (kind.Command (command.Scene r)) f = rw (bit_flag on, bit_set on, back 8 at.0 h, bit_flag (is_some r.level), bit_set (is_some r.level), value_back r.level, back 4 r.transition_time.0 f.1)
  written (kind.Command (command.DeviceUpdate l)) f = rw (bit_flag on, bit_set on, back 8 at.0 h)
  written (kind.Command command.DeviceStop) f = rw (bit_flag on, bit_set on, back 8 at.0 h)
  written (kind.Command (command.SetOnLevel l)) f = rw (bit_flag on, bit_set on, back 8 at.0 h, bit_flag (is_some l), bit_set (is_some l), value_back l)
  written (kind.Command (command.SetDefaultMoveRate r)) f = rw (bit_flag on, bit_set on, back 8 at.0 h, bit_flag (is_some r), bit_set (is_some r), value_back r)
  written (kind.Command (command.SetStartUpCurrentLevel l)) f = rw (bit_flag on, bit_set on, back 8 at.0 h, bit_flag (is_some l), bit_set (is_some l), value_back l)
  written (kind.Command command.FactoryReset) f = rw (bit_flag on, bit_set on, back 8 at.0 h)

pub event_written : (e : Event) → EventFits e → event_read (event_record e) ≡ Some e
event_written e f = written e.moment.at e.moment.on_off f.time e.kind f.kind

-- Settings.

bit_most : (b : Bool) → bit b ≤ 1
bit_most true = omega arith
bit_most false = omega arith

-- six bits are found again
module _ (a b c d e f : ℕ) (ha : a ≤ 1) (hb : b ≤ 1) (hc : c ≤ 1) (hd : d ≤ 1) (he : e ≤ 1) (hf : f ≤ 1) where
  abbrev sum : ℕ
  sum = a + 2 * b + 4 * c + 8 * d + 16 * e + 32 * f

  sum_most : leb sum 63 ≡ true
  sum_most = le-leb sum 63 (omega arith)

  bit_0 : sum / 1 % 2 ≡ a
  bit_0 = omega arith

  bit_1 : sum / 2 % 2 ≡ b
  bit_1 = omega arith

  bit_2 : sum / 4 % 2 ≡ c
  bit_2 = omega arith

  bit_3 : sum / 8 % 2 ≡ d
  bit_3 = omega arith

  bit_4 : sum / 16 % 2 ≡ e
  bit_4 = omega arith

  bit_5 : sum / 32 % 2 ≡ f
  bit_5 = omega arith

not_dark : (lighting : Bool) (least : ℕ) → (lighting ≡ true → 1 ≤ least) → (lighting && eqb least 0) ≡ false
not_dark true least h = let some : 1 ≤ least = h refl in ne_eqb least 0 (λ e. omega arith)
not_dark false least h = refl

pub settings_written : (x : Settings) → SettingsFit x → Allowed x → settings_read (settings_record x) ≡ Ok x
unfolding settings_read
settings_written x fit allowed =
    let a = x.attributes in
    let k0 = bit_most (is_some x.current_level) in
    let k1 = bit_most (is_some a.on_level) in
    let k2 = bit_most (is_some a.start_up_current_level) in
    let k3 = bit_most (is_some a.default_move_rate) in
    let k4 = bit_most (is_some a.on_transition_time) in
    let k5 = bit_most (is_some a.off_transition_time) in
    rw (
      bit_flag x.coupled,
      bit_set x.coupled,
      bit_flag x.lighting,
      bit_set x.lighting,
      sum_most _ _ _ _ _ _ k0 k1 k2 k3 k4 k5,
      le-ltb 254 x.range.max allowed.max_at_most_254,
      le-ltb x.range.max x.range.min allowed.min_at_most_max,
      not_dark x.lighting x.range.min allowed.lighting_not_0,
      bit_0 _ _ _ _ _ _ k0 k1 k2 k3 k4 k5,
      bit_1 _ _ _ _ _ _ k0 k1 k2 k3 k4 k5,
      bit_2 _ _ _ _ _ _ k0 k1 k2 k3 k4 k5,
      bit_3 _ _ _ _ _ _ k0 k1 k2 k3 k4 k5,
      bit_4 _ _ _ _ _ _ k0 k1 k2 k3 k4 k5,
      bit_5 _ _ _ _ _ _ k0 k1 k2 k3 k4 k5,
      bit_set (is_some x.current_level),
      value_back x.current_level,
      bit_set (is_some a.on_level),
      value_back a.on_level,
      bit_set (is_some a.start_up_current_level),
      value_back a.start_up_current_level,
      bit_set (is_some a.default_move_rate),
      value_back a.default_move_rate,
      back 2 a.on_off_transition_time.0 fit.common_time,
      bit_set (is_some a.on_transition_time),
      time_back a.on_transition_time fit.on_time_fits,
      bit_set (is_some a.off_transition_time),
      time_back a.off_transition_time fit.off_time_fits,
    )
