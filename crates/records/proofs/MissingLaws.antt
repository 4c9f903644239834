-- The bytes of a missing value do not matter. Assumes nothing.
use Prim.Native.Nat.{ℕ, zero, suc, ◌+◌, ◌/◌, ◌%◌, ◌≤◌, ◌<◌}
use mathlib.Core.Bool.{Bool, true, false}
use mathlib.Core.Path.{◌≡◌, refl, sym, ap, ◌∙◌}
use mathlib.Core.List.{List, [], ◌∷◌, ◌++◌}
use native.Mathlib.Nat.{zero-add, add-zero, add-suc, suc-add}
use native.Mathlib.Omega.{arith}
use borrow.Author.Tests.{eqb-true, eqb-false, ne_eqb}
use lib.Dec.{eqb}
use lib.ListN.{length, drop, drop_of_length-le}
use lib.Seq.{drop-cons}
use Rattle.std.specs.Prelude.{None, Err}
use Rattle.records.specs.Bytes.{byte_at}
use Rattle.records.specs.SettingsRecord.{settings_read}
use Rattle.records.specs.EventRecord.{kind_read, event_read}
use Rattle.records.specs.Layout.{MissingInEvent, TimeOfMoveToLevel, RateOfMove, TimeOfStep, LevelOfAnswer, LevelOfScene, OnLevelSet, DefaultRateSet, StartUpLevelSet, MissingInSettings, LevelUnknown, OnLevelUnknown, StartUpLevelUnknown, DefaultRateUnknown, OnTimeUnknown, OffTimeUnknown, SameBut}
use Rattle.records.specs.declared.refusal.RecordRefusal.TheVariants.{RecordWrong}

-- the values of f at n places from i on
abbrev table : (ℕ → ℕ) → ℕ → ℕ → List ℕ
table f i zero = []
table f i (suc n) = f i ∷ table f (suc i) n

-- f, but g at n places
abbrev mixed : (ℕ → ℕ) → (ℕ → ℕ) → ℕ → ℕ → ℕ → List ℕ
mixed f g from n rest = table f 0 from ++ (table g from n ++ table f (from + n) rest)

whole : (s : List ℕ) (n i : ℕ) → length s ≡ i + n → drop i s ≡ table (byte_at s) i n
whole s zero i h = drop_of_length-le s {i = i} (omega arith)
whole s (suc n) i h = drop-cons s i 0 (omega arith) ∙ ap (λ (l : List ℕ). byte_at s i ∷ l) (whole s n (suc i) (omega arith))

table_same : (f g : ℕ → ℕ) (n i : ℕ) → ((k : ℕ) → i ≤ k → k < i + n → f k ≡ g k) → table f i n ≡ table g i n
table_same f g zero i e = refl
table_same f g (suc n) i e = rw (e i (omega arith) (omega arith), table_same f g n (suc i) (λ k l h. e k (omega arith) (omega arith)))

table_append : (f : ℕ → ℕ) (n m i : ℕ) → table f i (n + m) ≡ table f i n ++ table f (i + n) m
table_append f zero m i = rw (zero-add, add-zero)
table_append f (suc n) m i = rw (suc-add, add-suc, ← suc-add, table_append f n m (suc i))

module _ {A : Type 0} (read : List ℕ → A) (s t : List ℕ) (from n rest : ℕ) (sum : from + (n + rest) ≡ 20) (w : length s ≡ 20) where
  cut : (u : List ℕ) → length u ≡ 20 → u ≡ mixed (byte_at u) (byte_at u) from n rest
  cut u h = whole u (from + (n + rest)) 0 (omega arith) ∙ rw (table_append (byte_at u) from (n + rest) 0, zero-add, table_append (byte_at u) n rest from)

  -- who does not look at the n places reads both the same
  pub ignores : SameBut from (from + n) s t
      → read (mixed (byte_at s) (byte_at s) from n rest) ≡ read (mixed (byte_at s) (byte_at t) from n rest) → read s ≡ read t
  ignores b e =
      let same_first = table_same (byte_at s) (byte_at t) from 0 (λ k l h. b.earlier k (omega arith)) in
      let same-last = table_same (byte_at s) (byte_at t) rest (from + n) (λ k l h. b.later k l) in
      ap read (cut s w) ∙ e ∙ ap read (rw (same_first, same-last) (sym (cut t (omega (arith, b.lengths)))))

-- Events.

module _ (f g : ℕ → ℕ) where
  move_to_level_time : f 2 ≡ 1 → f 14 ≡ 0 → event_read (mixed f f 15 2 3) ≡ event_read (mixed f g 15 2 3)
  unfolding event_read kind_read
  move_to_level_time k m = rw (k, m)

  move_rate_ignored : f 2 ≡ 2 → f 14 ≡ 0 → event_read (mixed f f 15 1 4) ≡ event_read (mixed f g 15 1 4)
  unfolding event_read kind_read
  move_rate_ignored k m = rw (k, m)

  step_time_ignored : f 2 ≡ 3 → f 15 ≡ 0 → event_read (mixed f f 16 2 2) ≡ event_read (mixed f g 16 2 2)
  unfolding event_read kind_read
  step_time_ignored k m = rw (k, m)

  answer_level : f 2 ≡ 5 → (f 12 ≡ 0 → ⊥) → event_read (mixed f f 13 1 6) ≡ event_read (mixed f g 13 1 6)
  unfolding event_read kind_read
  answer_level k m = rw (k, ne_eqb (f 12) 0 m)

  scene_level_ignored : f 2 ≡ 8 → f 12 ≡ 0 → event_read (mixed f f 13 1 6) ≡ event_read (mixed f g 13 1 6)
  unfolding event_read kind_read
  scene_level_ignored k m = rw (k, m)

  on_level : f 2 ≡ 11 → f 12 ≡ 0 → event_read (mixed f f 13 1 6) ≡ event_read (mixed f g 13 1 6)
  unfolding event_read kind_read
  on_level k m = rw (k, m)

  default_rate : f 2 ≡ 12 → f 12 ≡ 0 → event_read (mixed f f 13 1 6) ≡ event_read (mixed f g 13 1 6)
  unfolding event_read kind_read
  default_rate k m = rw (k, m)

  start_up_level_ignored : f 2 ≡ 13 → f 12 ≡ 0 → event_read (mixed f f 13 1 6) ≡ event_read (mixed f g 13 1 6)
  unfolding event_read kind_read
  start_up_level_ignored k m = rw (k, m)

event_20 : {from to : ℕ} (s t : List ℕ) → length s ≡ 20 → MissingInEvent s from to → SameBut from to s t → event_read s ≡ event_read t
event_20 s t w (TimeOfMoveToLevel k m) b = ignores event_read s t 15 2 3 refl w b (move_to_level_time (byte_at s) (byte_at t) k m)
event_20 s t w (RateOfMove k m) b = ignores event_read s t 15 1 4 refl w b (move_rate_ignored (byte_at s) (byte_at t) k m)
event_20 s t w (TimeOfStep k m) b = ignores event_read s t 16 2 2 refl w b (step_time_ignored (byte_at s) (byte_at t) k m)
event_20 s t w (LevelOfAnswer k m) b = ignores event_read s t 13 1 6 refl w b (answer_level (byte_at s) (byte_at t) k m)
event_20 s t w (LevelOfScene k m) b = ignores event_read s t 13 1 6 refl w b (scene_level_ignored (byte_at s) (byte_at t) k m)
event_20 s t w (OnLevelSet k m) b = ignores event_read s t 13 1 6 refl w b (on_level (byte_at s) (byte_at t) k m)
event_20 s t w (DefaultRateSet k m) b = ignores event_read s t 13 1 6 refl w b (default_rate (byte_at s) (byte_at t) k m)
event_20 s t w (StartUpLevelSet k m) b = ignores event_read s t 13 1 6 refl w b (start_up_level_ignored (byte_at s) (byte_at t) k m)

by_length : {G : Type 0} (s : List ℕ) (b : Bool) → eqb (length s) 20 ≡ b → (length s ≡ 20 → G) → ((length s ≡ 20 → ⊥) → G) → G
by_length s true e f g = f (eqb-true (length s) 20 e)
by_length s false e f g = g (eqb-false (length s) 20 e)

event_other : (s : List ℕ) → (length s ≡ 20 → ⊥) → event_read s ≡ None
unfolding event_read kind_read
event_other s n = rw (ne_eqb (length s) 20 n)

pub event_ignores : (s t : List ℕ) (from to : ℕ) → MissingInEvent s from to → SameBut from to s t → event_read s ≡ event_read t
event_ignores s t from to m b = by_length s (eqb (length s) 20) refl
    (λ w. event_20 s t w m b)
    (λ w. event_other s w ∙ sym (event_other t (λ e. w (b.lengths ∙ e))))

-- Settings.

module _ (f g : ℕ → ℕ) where
  settings_level : f 11 % 2 ≡ 0 → settings_read (mixed f f 7 1 12) ≡ settings_read (mixed f g 7 1 12)
  unfolding settings_read
  settings_level m = let first : f 11 / 1 % 2 ≡ 0 = omega (arith, m) in rw first

  settings_on_level : f 11 / 2 % 2 ≡ 0 → settings_read (mixed f f 8 1 11) ≡ settings_read (mixed f g 8 1 11)
  unfolding settings_read
  settings_on_level m = rw m

  settings_start_up : f 11 / 4 % 2 ≡ 0 → settings_read (mixed f f 9 1 10) ≡ settings_read (mixed f g 9 1 10)
  unfolding settings_read
  settings_start_up m = rw m

  settings_rate : f 11 / 8 % 2 ≡ 0 → settings_read (mixed f f 10 1 9) ≡ settings_read (mixed f g 10 1 9)
  unfolding settings_read
  settings_rate m = rw m

  settings_on_time : f 11 / 16 % 2 ≡ 0 → settings_read (mixed f f 14 2 4) ≡ settings_read (mixed f g 14 2 4)
  unfolding settings_read
  settings_on_time m = rw m

  settings_off_time : f 11 / 32 % 2 ≡ 0 → settings_read (mixed f f 16 2 2) ≡ settings_read (mixed f g 16 2 2)
  unfolding settings_read
  settings_off_time m = rw m

settings_20 : {from to : ℕ} (s t : List ℕ) → length s ≡ 20 → MissingInSettings s from to → SameBut from to s t → settings_read s ≡ settings_read t
settings_20 s t w (LevelUnknown m) b = ignores settings_read s t 7 1 12 refl w b (settings_level (byte_at s) (byte_at t) m)
settings_20 s t w (OnLevelUnknown m) b = ignores settings_read s t 8 1 11 refl w b (settings_on_level (byte_at s) (byte_at t) m)
settings_20 s t w (StartUpLevelUnknown m) b = ignores settings_read s t 9 1 10 refl w b (settings_start_up (byte_at s) (byte_at t) m)
settings_20 s t w (DefaultRateUnknown m) b = ignores settings_read s t 10 1 9 refl w b (settings_rate (byte_at s) (byte_at t) m)
settings_20 s t w (OnTimeUnknown m) b = ignores settings_read s t 14 2 4 refl w b (settings_on_time (byte_at s) (byte_at t) m)
settings_20 s t w (OffTimeUnknown m) b = ignores settings_read s t 16 2 2 refl w b (settings_off_time (byte_at s) (byte_at t) m)

settings_other : (s : List ℕ) → (length s ≡ 20 → ⊥) → settings_read s ≡ Err RecordWrong
unfolding settings_read
settings_other s n = rw (ne_eqb (length s) 20 n)

pub settings_ignores : (s t : List ℕ) (from to : ℕ) → MissingInSettings s from to → SameBut from to s t → settings_read s ≡ settings_read t
settings_ignores s t from to m b = by_length s (eqb (length s) 20) refl
    (λ w. settings_20 s t w m b)
    (λ w. settings_other s w ∙ sym (settings_other t (λ e. w (b.lengths ∙ e))))
