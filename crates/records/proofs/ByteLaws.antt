-- Numbers of several bytes: low byte first. Assumes nothing.
use Prim.Native.Nat.{ℕ, zero, suc, ◌+◌, ◌*◌, ◌/◌, ◌^◌, ◌<◌}
use mathlib.Core.Path.{◌≡◌, ap, ◌∙◌}
use mathlib.Core.List.{List, [], ◌∷◌}
use native.Mathlib.Nat.{add-zero, pow-succ', div-div-eq-div-mul}
use native.Mathlib.Omega.{arith}
use Rattle.records.specs.Bytes.{byte_at, low_first}
use Rattle.records.specs.Laws.{AllBytes, byte_of}

pub small : (s : List ℕ) (i : ℕ) → AllBytes s → byte_at s i < 256
small [] i a = omega arith
small (b ∷ s) zero a = a.0
small (b ∷ s) (suc i) a = small s i a.1

pub below : (n : ℕ) (s : List ℕ) (at : ℕ) → AllBytes s → low_first n s at < 256 ^ n
below zero s at a = omega arith
below (suc n) s at a = omega (arith, small s at a, below n s (at + 1) a, pow-succ' 256 n)

-- byte k + 1 of a number is byte k of what stands above its low byte
higher : (b rest k : ℕ) → b < 256 → byte_of (b + 256 * rest) (suc k) ≡ byte_of rest k
higher b rest k h =
    let up : (b + 256 * rest) / 256 ≡ rest = omega arith in
    rw (pow-succ', ← div-div-eq-div-mul, up)

pub low_first_bytes : (n : ℕ) (s : List ℕ) (at k : ℕ) → AllBytes s → k < n → byte_of (low_first n s at) k ≡ byte_at s (at + k)
low_first_bytes zero s at k a h = absurd (omega arith)
low_first_bytes (suc n) s at zero a h = rw (add-zero) (omega (arith, small s at a))
low_first_bytes (suc n) s at (suc k) a h =
    let place : at + 1 + k ≡ at + suc k = omega arith in
    higher (byte_at s at) (low_first n s (at + 1)) k (small s at a) ∙ low_first_bytes n s (at + 1) k a (omega arith) ∙ ap (byte_at s) place
