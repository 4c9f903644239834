-- The event that a record is read as has the record's kind, time and on/off value. Assumes nothing.
use Prim.Native.Nat.{ℕ, zero, suc, ◌+◌}
use mathlib.Core.Bool.{Bool, true, false, ◌&&◌}
use mathlib.Core.Path.{◌≡◌, refl}
use mathlib.Core.List.{List, [], ◌∷◌}
use native.Mathlib.Nat.{zero-add, add-zero, add-suc, suc-add}
use lib.ListN.{get_or}
use Rattle.std.specs.Prelude.{Option, Some, None, if◌then◌else◌}
use Rattle.std.specs.Bool.{then_some}
use Rattle.std.specs.Option.{option_map}
use Rattle.units.specs.declared.Micros.{Micros}
use Rattle.transitions.specs.Events.{event}
use Rattle.transitions.specs.declared.events.Event.{Event}
use Rattle.transitions.specs.declared.events.EventKind.{EventKind}
use Rattle.records.specs.Bytes.{byte_at, clock_time, is_set, is_flag, has_marks}
use Rattle.records.specs.EventRecord.{kinds, kind_read, event_read}
use Rattle.records.specs.Written.{kind_number}
use Rattle.records.proofs.LayoutLaws.{◌also◌}

-- what is true of the value, if there is one
pub record Gives {A : Type 0} (o : Option A) (P : A → Type 0) : Type 0 where
  pub value : (x : A) → o ≡ Some x → P x

pub then_gives : {A : Type 0} {P : A → Type 0} (right : Bool) (x : A) → P x → Gives (then_some right x) P
then_gives true x p = record { value = λ y e. let same : x ≡ y = cc in rw (← same) p }
then_gives false x p = record { value = λ y e. cc }

pub map_gives : {A B : Type 0} {P : B → Type 0} (f : A → B) (o : Option A) → Gives o (λ x. P (f x)) → Gives (option_map f o) P
map_gives f (Some x) p = record { value = λ y e. let same : f x ≡ y = cc in rw (← same) (p.value x refl) }
map_gives f None p = record { value = λ y e. cc }

-- what is true of each kind of a list, with its number, is true of the one that is read
module _ (P : ℕ → EventKind → Type 0) where
  abbrev pub Each : ℕ → List (Option EventKind) → Type 0
  Each n [] = Unit {0}
  Each n (r ∷ rs) = Gives r (P n) × Each (suc n) rs

  pub each_at : (n : ℕ) (rs : List (Option EventKind)) → Each n rs → (k : ℕ) (x : EventKind) → get_or rs k None ≡ Some x → P (n + k) x
  each_at n [] a k x e = cc
  each_at n (r ∷ rs) a zero x e = rw add-zero (a.0.value x e)
  each_at n (r ∷ rs) a (suc k) x e = rw (add-suc, ← suc-add) (each_at (suc n) rs a.1 k x e)

-- the parts of an event that is read
read_by : (b : Bool) (at : Micros) (on : Bool) (o : Option EventKind) (e : Event) → (if b then option_map (event at on) o else None) ≡ Some e
    → (o ≡ Some e.kind) × (e.moment.at ≡ at) × (e.moment.on_off ≡ on)
read_by true at on (Some k) e p = let same : event at on k ≡ e = cc in rw (← same) (refl, refl, refl)
read_by true at on None e p = cc
read_by false at on o e p = cc

pub parts : (s : List ℕ) (e : Event) → event_read s ≡ Some e → (get_or (kinds s) (byte_at s 2) None ≡ Some e.kind) × (e.moment.at ≡ clock_time s) × (e.moment.on_off ≡ is_set s 3)
unfolding event_read kind_read
parts s e p = read_by (has_marks s 0x45 && is_flag s 3) (clock_time s) (is_set s 3) (get_or (kinds s) (byte_at s 2) None) e p

numbered : (s : List ℕ) → Each (λ n k. kind_number k ≡ n) 0 (kinds s)
numbered s =
    then_gives _ _ refl
    also map_gives _ _ (then_gives _ _ refl)
    also map_gives _ _ (then_gives _ _ refl)
    also map_gives _ _ (then_gives _ _ refl)
    also map_gives _ _ (then_gives _ _ refl)
    also map_gives _ _ (then_gives _ _ refl)
    also then_gives _ _ refl
    also map_gives _ _ (then_gives _ _ refl)
    also map_gives _ _ (then_gives _ _ refl)
    also map_gives _ _ (then_gives _ _ refl)
    also map_gives _ _ (then_gives _ _ refl)
    also map_gives _ _ (map_gives _ _ (then_gives _ _ refl))
    also map_gives _ _ (map_gives _ _ (then_gives _ _ refl))
    also map_gives _ _ (map_gives _ _ (then_gives _ _ refl))
    also map_gives _ _ (then_gives _ _ refl)
    also tt

pub event_head : (s : List ℕ) (e : Event) → event_read s ≡ Some e
    → (kind_number e.kind ≡ byte_at s 2) × (e.moment.at ≡ clock_time s) × (e.moment.on_off ≡ is_set s 3)
event_head s e p =
    let q = parts s e p in
    (rw zero-add at (each_at (λ n k. kind_number k ≡ n) 0 (kinds s) (numbered s) (byte_at s 2) e.kind q.0), q.1, q.2)
