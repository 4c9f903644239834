-- The laws of the units' definitions. Assumes nothing.
use Rattle.std.specs.Prelude.{Some, None, ◌&&◌, if◌then◌else◌}
use Rattle.std.proofs.Common.{nat_eq, nat_le}
use Rattle.std.proofs.lemmas.Bool.Decides.{nat_tests}
use Rattle.std.proofs.lemmas.Nat.{from_le_bytes-to_le_bytes_2, from_le_bytes-to_le_bytes_4, from_le_bytes-to_le_bytes_8}
use Prim.Native.Nat.{ℕ, ◌+◌, ◌-◌, ◌*◌, ◌/◌, ◌%◌, ◌≤◌, ◌<◌}
use mathlib.Core.Bool.{Bool, true, false, false≢true}
use mathlib.Core.Path.{◌≡◌, refl, sym, ap, ◌∙◌}
use mathlib.Core.Logic.{◌↔◌}
use native.Mathlib.Nat.{mul-div-le, lt-mul-div-succ}
use native.Mathlib.Omega.{arith}
use borrow.Author.Tests.{lt-ltb, le-ltb, le-leb, ltb-true, ltb-false}
use lib.Dec.{ltb}
use Rattle.units.specs.Numbers.{div_ceil}
use Rattle.units.specs.Units.{tenths, millis, micros, tenths_to_millis, millis_to_micros, micros_to_tenths, micros_to_millis, scaled_floor, scaled_number}
use Rattle.units.specs.declared.Tenths.{Tenths}
use Rattle.units.specs.declared.Millis.{Millis}
use Rattle.units.specs.declared.Micros.{Micros}
use Rattle.units.specs.Laws.{Laws}

-- the two ways of a scaled count of tenths
pub scaled_overflows : (t : Tenths) (factor divisor : ℕ) → 65535 < t.0 * factor → None ≡ scaled_floor t factor divisor
unfolding scaled_floor
scaled_overflows t factor divisor h = simp (lt-ltb 65535 (t.0 * factor) h)

pub scaled_fits : (t : Tenths) (factor divisor : ℕ) {q : ℕ} → t.0 * factor ≤ 65535 → q ≡ t.0 * factor / divisor
    → Some (tenths q) ≡ scaled_floor t factor divisor
unfolding scaled_floor
scaled_fits t factor divisor h e = simp (le-ltb 65535 (t.0 * factor) h, e)

scaled_12 : (t : Tenths) (factor divisor : ℕ) → (scaled_number (scaled_floor t factor divisor) ≡ 12) ↔ (65535 < t.0 * factor)
scaled_12 t factor divisor = (go (ltb 65535 (t.0 * factor)) refl, λ h. sym (ap scaled_number (scaled_overflows t factor divisor h)))
  where
    go : (b : Bool) → ltb 65535 (t.0 * factor) ≡ b → scaled_number (scaled_floor t factor divisor) ≡ 12 → 65535 < t.0 * factor
    go true e h = ltb-true 65535 (t.0 * factor) e
    go false e h =
        absurd (let z : ◌≡◌ {A = ℕ} 0 12 = ap scaled_number (scaled_fits t factor divisor (ltb-false 65535 (t.0 * factor) e) refl) ∙ h in omega arith)

fits_is : (s t : Tenths) → Some s ≡ Some t → s.0 ≡ t.0
fits_is s t e = ap (λ (x : Tenths). x.0) (cc)

scaled_rounds_down : (t q : Tenths) (factor divisor : ℕ) → 1 ≤ divisor → scaled_floor t factor divisor ≡ Some q
    → (divisor * q.0 ≤ t.0 * factor) × (t.0 * factor < divisor * (q.0 + 1))
scaled_rounds_down t q factor divisor pos h = go (ltb 65535 (t.0 * factor)) refl
  where
    go : (b : Bool) → ltb 65535 (t.0 * factor) ≡ b → (divisor * q.0 ≤ t.0 * factor) × (t.0 * factor < divisor * (q.0 + 1))
    go true e =
        absurd (let p = scaled_overflows t factor divisor (ltb-true 65535 (t.0 * factor) e) ∙ h in let z : ◌≡◌ {A = ℕ} 0 1 = cc in omega arith)
    go false e =
        let same : t.0 * factor / divisor ≡ q.0 = fits_is (tenths (t.0 * factor / divisor)) q (scaled_fits t factor divisor (ltb-false 65535 (t.0 * factor) e) refl ∙ h) in
        rw (← same) (mul-div-le (t.0 * factor) divisor, lt-mul-div-succ (t.0 * factor) pos)

-- rounded up

ceil_covers : (a b : ℕ) → 1 ≤ b → a ≤ b * div_ceil a b
ceil_covers a b h = let up = lt-mul-div-succ (a + (b - 1)) h in omega (arith, up, h)

ceil_is_least : (a b : ℕ) → 1 ≤ b → b * div_ceil a b < a + b
ceil_is_least a b h = let down = mul-div-le (a + (b - 1)) b in omega (arith, down, h)

-- whole units of a time

given_is : {A : Type 0} (test : Bool) (x y : A) → (if test then Some x else None) ≡ Some y → (test ≡ true) × (x ≡ y)
given_is true x y e = (refl, cc)
given_is false x y e = absurd cc

and_is : (a b : Bool) → (a && b) ≡ true → (a ≡ true) × (b ≡ true)
and_is true true e = (refl, refl)
and_is true false e = absurd (false≢true e)
and_is false b e = absurd (false≢true e)

whole : (u : Micros) (k : ℕ) → k ≡ u.0 → micros k ≡ u
whole u k e = rw (e) refl

tenths_of : (u : Micros) (t : Tenths) → micros_to_tenths u ≡ Some t → (t.0 ≤ 65535) × (millis_to_micros (tenths_to_millis t) ≡ u)
tenths_of u t e =
    let g = given_is (nat_eq (u.0 % 100000) 0 && nat_le (u.0 / 100000) 65535) (tenths (u.0 / 100000)) t e in
    let a = and_is (nat_eq (u.0 % 100000) 0) (nat_le (u.0 / 100000) 65535) g.0 in
    let rest : u.0 % 100000 ≡ 0 = grind (arith, nat_tests, a.0) in
    let below : u.0 / 100000 ≤ 65535 = grind (arith, nat_tests, a.1) in
    rw (← g.1) (below, whole u (millis_to_micros (tenths_to_millis (tenths (u.0 / 100000)))).0 (omega (arith, rest)))

tenths_again : (t : Tenths) → t.0 ≤ 65535 → micros_to_tenths (millis_to_micros (tenths_to_millis t)) ≡ Some t
tenths_again t h =
    let rest : (millis_to_micros (tenths_to_millis t)).0 % 100000 ≡ 0 = omega arith in
    let all : (millis_to_micros (tenths_to_millis t)).0 / 100000 ≡ t.0 = omega arith in
    rw (rest, all, le-leb t.0 65535 h) refl

millis_of : (u : Micros) (m : Millis) → micros_to_millis u ≡ Some m → (m.0 ≤ 4294967295) × (millis_to_micros m ≡ u)
millis_of u m e =
    let g = given_is (nat_eq (u.0 % 1000) 0 && nat_le (u.0 / 1000) 4294967295) (millis (u.0 / 1000)) m e in
    let a = and_is (nat_eq (u.0 % 1000) 0) (nat_le (u.0 / 1000) 4294967295) g.0 in
    let rest : u.0 % 1000 ≡ 0 = grind (arith, nat_tests, a.0) in
    let below : u.0 / 1000 ≤ 4294967295 = grind (arith, nat_tests, a.1) in
    rw (← g.1) (below, whole u (millis_to_micros (millis (u.0 / 1000))).0 (omega (arith, rest)))

millis_again : (m : Millis) → m.0 ≤ 4294967295 → micros_to_millis (millis_to_micros m) ≡ Some m
millis_again m h =
    let rest : (millis_to_micros m).0 % 1000 ≡ 0 = omega arith in
    let all : (millis_to_micros m).0 / 1000 ≡ m.0 = omega arith in
    rw (rest, all, le-leb m.0 4294967295 h) refl

pub unit_laws : Laws
unit_laws = record {
  tenth_in_millis = λ t. omega arith;
  milli_in_micros = λ ms. omega arith;
  second_in_micros = λ t. omega arith;
  up_covers = λ ms h. omega arith;
  up_is_least = λ ms. omega arith;
  up_low_bits = λ ms n h g. omega arith;
  down_is_covered = λ ms. omega arith;
  down_is_most = λ ms h. omega arith;
  down_ends = λ ms h. omega arith;
  up_returns = λ t h. ap tenths (omega arith);
  down_returns = λ t h. ap tenths (omega arith);
  whole_tenths = λ u t. (tenths_of u t, λ h. rw (← h.1) (tenths_again t h.0));
  whole_millis = λ u m. (millis_of u m, λ h. rw (← h.1) (millis_again m h.0));
  tenths_of_bytes = λ t h. from_le_bytes-to_le_bytes_2 t.0 (omega (arith, h));
  millis_of_bytes = λ m h. from_le_bytes-to_le_bytes_4 m.0 (omega (arith, h));
  micros_of_bytes = λ u h. from_le_bytes-to_le_bytes_8 u.0 (omega (arith, h));
  less_makes = λ a b h. omega arith;
  less_ends = λ a b h. omega arith;
  divided_by_0 = λ ms. omega arith;
  later_elapsed = λ at span h. ap micros (omega arith);
  later_is_later = λ at span h. omega arith;
  later_ends = λ at span h. omega arith;
  elapsed_ends = λ from to h. omega arith;
  scaled_12 = scaled_12;
  scaled_rounds_down = scaled_rounds_down;
  ceil_covers = ceil_covers;
  ceil_is_least = ceil_is_least;
  ceil_over_0 = λ a. omega arith;
  apart_between = λ a b h. (omega arith, omega arith);
}
