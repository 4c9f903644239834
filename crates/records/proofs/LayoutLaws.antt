-- The definitions ask of a record exactly what the table of layouts says. Assumes nothing.
use Prim.Native.Nat.{ℕ, zero, suc, ◌+◌, ◌-◌, ◌≤◌, ◌<◌}
use mathlib.Core.Bool.{Bool, true, false, ◌&&◌, and-true}
use mathlib.Core.Path.{◌≡◌, refl, sym, ap, ◌∙◌}
use mathlib.Core.Logic.{◌↔◌}
use mathlib.Core.List.{List, [], ◌∷◌}
use native.Mathlib.Omega.{arith}
use borrow.Author.Tests.{leb-true, le-leb, eqb-true, eq-eqb, not-false}
use lib.Dec.{leb, ltb, eqb}
use lib.ListN.{length, get_or, drop, drop_of_length-le}
use lib.Seq.{get_or-drop}
use Rattle.std.specs.Prelude.{Option, Some, None, is_some, if◌then◌else◌, Ok, Err}
use Rattle.std.specs.Bool.{then_some}
use Rattle.std.specs.List.{list_all}
use Rattle.std.specs.Option.{option_map}
use Rattle.std.proofs.lemmas.Bool.{and_from, and_parts}
use Rattle.transitions.specs.declared.events.Event.{Event}
use Rattle.transitions.specs.declared.events.EventKind.{EventKind}
use Rattle.transitions.specs.declared.settings.Settings.{Settings}
use Rattle.transitions.specs.Causes.{first_cause}
use Rattle.records.specs.Bytes.{byte_at, is_flag, zeros_from, has_marks}
use Rattle.records.specs.SettingsRecord.{settings_wrong, settings_at, settings_read, settings_read_number}
use Rattle.records.specs.EventRecord.{kinds, kind_read, event_read, event_read_number}
use Rattle.records.specs.Layout.{Limit, Layout, layout, settings_layout, event_layouts, Within, Keeps, Marked}
use Rattle.records.specs.Laws.{settings_causes, settings_tests}
use Rattle.records.specs.declared.refusal.RecordRefusal.TheVariants.{RecordWrong, MaxAbove254, MinAboveMax, LightingMin0}

-- the unnamed bytes

abbrev all_zero : List ℕ → Bool
all_zero s = list_all (λ byte. eqb byte 0) s

all_zero_at : (s : List ℕ) → all_zero s ≡ true → (i : ℕ) → byte_at s i ≡ 0
all_zero_at [] e i = refl
all_zero_at (b ∷ s) e zero = eqb-true b 0 (and_parts (eqb b 0) (all_zero s) e).0
all_zero_at (b ∷ s) e (suc i) = all_zero_at s (and_parts (eqb b 0) (all_zero s) e).1 i

zero_all : (s : List ℕ) → ((i : ℕ) → byte_at s i ≡ 0) → all_zero s ≡ true
zero_all [] z = refl
zero_all (b ∷ s) z = and_from (eqb b 0) (all_zero s) (eq-eqb b 0 (z 0)) (zero_all s (λ i. z (suc i)))

module _ (s : List ℕ) where
  zeros : (n : ℕ) → zeros_from s n ≡ true → (i : ℕ) → n ≤ i → byte_at s i ≡ 0
  zeros n e i h =
      let place : n + (i - n) ≡ i = omega arith in
      sym (ap (byte_at s) place) ∙ sym (get_or-drop n s (i - n) 0) ∙ all_zero_at (drop n s) e (i - n)

  from_zeros : (n : ℕ) → ((i : ℕ) → n ≤ i → byte_at s i ≡ 0) → zeros_from s n ≡ true
  from_zeros n z = zero_all (drop n s) (λ i. get_or-drop n s i 0 ∙ z (n + i) (omega arith))

  abbrev under : Limit → Bool
  under l = leb (byte_at s l.place) l.most

  -- the limits, one after another
  abbrev limits : Bool → List Limit → Bool
  limits b [] = b
  limits b (l ∷ ls) = limits (b && under l) ls

  abbrev keeps : Layout → Bool
  keeps l = limits true l.limits && zeros_from s l.unnamed

  limits_first : (b : Bool) (ls : List Limit) → limits b ls ≡ true → b ≡ true
  limits_first b [] e = e
  limits_first b (l ∷ ls) e = (and_parts b (under l) (limits_first (b && under l) ls e)).0

  within : (b : Bool) (ls : List Limit) → limits b ls ≡ true → Within s ls
  within b [] e = tt
  within b (l ∷ ls) e =
      let here = limits_first (b && under l) ls e in
      (leb-true (byte_at s l.place) l.most (and_parts b (under l) here).1, within (b && under l) ls e)

  from_within : (b : Bool) (ls : List Limit) → b ≡ true → Within s ls → limits b ls ≡ true
  from_within b [] e w = e
  from_within b (l ∷ ls) e w =
      from_within (b && under l) ls (and_from b (under l) e (le-leb (byte_at s l.place) l.most w.0)) w.1

  pub kept : (l : Layout) → (keeps l ≡ true) ↔ Keeps s l
  kept l = (
    (λ e. record { within = within true l.limits (and_parts (limits true l.limits) (zeros_from s l.unnamed) e).0; zeros = zeros l.unnamed (and_parts (limits true l.limits) (zeros_from s l.unnamed) e).1 }),
    (λ k. and_from (limits true l.limits) (zeros_from s l.unnamed) (from_within true l.limits refl k.within) (from_zeros l.unnamed k.zeros)),
  )

  pub marked : (mark : ℕ) → (has_marks s mark ≡ true) ↔ Marked s mark
  marked mark = (
    (λ e. let two = (and_parts (eqb (length s) 20 && eqb (byte_at s 0) 0x4C) (eqb (byte_at s 1) mark) e).0 in record {
      whole = eqb-true (length s) 20 (and_parts (eqb (length s) 20) (eqb (byte_at s 0) 0x4C) two).0;
      first = eqb-true (byte_at s 0) 0x4C (and_parts (eqb (length s) 20) (eqb (byte_at s 0) 0x4C) two).1;
      second = eqb-true (byte_at s 1) mark (and_parts (eqb (length s) 20 && eqb (byte_at s 0) 0x4C) (eqb (byte_at s 1) mark) e).1;
    }),
    (λ m. and_from (eqb (length s) 20 && eqb (byte_at s 0) 0x4C) (eqb (byte_at s 1) mark)
        (and_from (eqb (length s) 20) (eqb (byte_at s 0) 0x4C) (eq-eqb (length s) 20 m.whole) (eq-eqb (byte_at s 0) 0x4C m.first))
        (eq-eqb (byte_at s 1) mark m.second)),
  )

flagged : (s : List ℕ) (i : ℕ) → (is_flag s i ≡ true) ↔ (byte_at s i ≤ 1)
flagged s i = (leb-true (byte_at s i) 1, le-leb (byte_at s i) 1)

-- Settings.

pub settings_right : (s : List ℕ) → (settings_wrong s ≡ false) ↔ (Marked s 0x47 × Keeps s settings_layout)
settings_right s = (
  (λ e. let right = not-false (has_marks s 0x47 && keeps s settings_layout) e in
      ((marked s 0x47).0 (and_parts (has_marks s 0x47) (keeps s settings_layout) right).0, (kept s settings_layout).0 (and_parts (has_marks s 0x47) (keeps s settings_layout) right).1)),
  (λ k. rw ((marked s 0x47).1 k.0, (kept s settings_layout).1 k.1)),
)

first : (wrong above under dark : Bool) (x : Settings)
    → settings_read_number (if wrong then Err RecordWrong else if above then Err MaxAbove254 else if under then Err MinAboveMax else if dark then Err LightingMin0 else Ok x)
    ≡ first_cause (settings_causes wrong above under dark)
unfolding first_cause
first true above under dark x = refl
first false true under dark x = refl
first false false true dark x = refl
first false false false true x = refl
first false false false false x = refl

pub settings_number : (s : List ℕ) → settings_read_number (settings_read s) ≡ first_cause (settings_tests s)
unfolding settings_read
settings_number s = first (settings_wrong s) (ltb 254 (byte_at s 3)) (ltb (byte_at s 3) (byte_at s 2)) (eqb (byte_at s 18) 1 && eqb (byte_at s 2) 0) (settings_at s)

-- Events.

infixr 20 ◌also◌
pub ◌also◌ : {A B : Type 0} → A → B → A × B
a also b = (a, b)

some_then : {A : Type 0} (right : Bool) (x : A) → is_some (then_some right x) ≡ right
some_then true x = refl
some_then false x = refl

some_map : {A B : Type 0} (f : A → B) (o : Option A) → is_some (option_map f o) ≡ is_some o
some_map f (Some x) = refl
some_map f None = refl

-- the two lists say the same, place by place
abbrev Agree : List ℕ → List (Option EventKind) → List Layout → Type 0
Agree s [] [] = Unit {0}
Agree s [] (l ∷ ls) = ⊥
Agree s (r ∷ rs) [] = ⊥
Agree s (r ∷ rs) (l ∷ ls) = (is_some r ≡ keeps s l) × Agree s rs ls

agree_at : (s : List ℕ) (rs : List (Option EventKind)) (ls : List Layout) → Agree s rs ls → (k : ℕ) → k < length rs
    → is_some (get_or rs k None) ≡ keeps s (get_or ls k (layout [] 0))
agree_at s [] ls a k h = absurd (omega arith)
agree_at s (r ∷ rs) [] a k h = absurd a
agree_at s (r ∷ rs) (l ∷ ls) a zero h = a.0
agree_at s (r ∷ rs) (l ∷ ls) a (suc k) h = agree_at s rs ls a.1 k (omega arith)

agree : (s : List ℕ) → length s ≡ 20 → Agree s (kinds s) event_layouts
agree s h = rw (drop_of_length-le s {i = 20} (omega arith), and-true) (
    some_then _ _
    also (some_map _ _ ∙ some_then _ _)
    also (some_map _ _ ∙ some_then _ _)
    also (some_map _ _ ∙ some_then _ _)
    also (some_map _ _ ∙ some_then _ _)
    also (some_map _ _ ∙ some_then _ _)
    also some_then _ _
    also (some_map _ _ ∙ some_then _ _)
    also (some_map _ _ ∙ some_then _ _)
    also (some_map _ _ ∙ some_then _ _)
    also (some_map _ _ ∙ some_then _ _)
    also (some_map _ _ ∙ some_map _ _ ∙ some_then _ _)
    also (some_map _ _ ∙ some_map _ _ ∙ some_then _ _)
    also (some_map _ _ ∙ some_map _ _ ∙ some_then _ _)
    also (some_map _ _ ∙ some_then _ _)
    also tt)

-- what is read as an event is one of the kinds
a_kind : (rs : List (Option EventKind)) (k : ℕ) → is_some (get_or rs k None) ≡ true → k < length rs
a_kind [] k e = cc
a_kind (r ∷ rs) zero e = omega arith
a_kind (r ∷ rs) (suc k) e = omega (arith, a_kind rs k e)

-- a record that is read as an event has its marks, and byte 3 is a flag
headed : (f : EventKind → Event) (b : Bool) (o : Option EventKind)
    → (event_read_number (if b then option_map f o else None) ≡ 0) ↔ ((b ≡ true) × (is_some o ≡ true))
headed f true (Some k) = (λ e. (refl, refl), λ e. refl)
headed f true None = (λ e. absurd (omega arith), λ e. cc)
headed f false o = (λ e. absurd (omega arith), λ e. cc)

module _ (s : List ℕ) where
  pub event_right : (event_read_number (event_read s) ≡ 0)
      ↔ (Marked s 0x45 × (byte_at s 3 ≤ 1) × (byte_at s 2 < 15) × Keeps s (get_or event_layouts (byte_at s 2) (layout [] 0)))
  unfolding event_read kind_read
  event_right = (
    (λ e.
        let h = (headed _ (has_marks s 0x45 && is_flag s 3) (get_or (kinds s) (byte_at s 2) None)).0 e in
        let m = (marked s 0x45).0 (and_parts (has_marks s 0x45) (is_flag s 3) h.0).0 in
        let known = a_kind (kinds s) (byte_at s 2) h.1 in
        (m, (flagged s 3).0 (and_parts (has_marks s 0x45) (is_flag s 3) h.0).1, known, (kept s _).0 (sym (agree_at s (kinds s) event_layouts (agree s m.whole) (byte_at s 2) known) ∙ h.1))),
    (λ k. (headed _ (has_marks s 0x45 && is_flag s 3) (get_or (kinds s) (byte_at s 2) None)).1 (
      and_from (has_marks s 0x45) (is_flag s 3) ((marked s 0x45).1 k.0) ((flagged s 3).1 k.1),
      agree_at s (kinds s) event_layouts (agree s k.0.whole) (byte_at s 2) k.2 ∙ (kept s _).1 k.3,
    )),
  )
