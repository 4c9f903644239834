-- Records as a table: which bytes have a limit, which are unnamed, and which belong to a missing value.
-- It is written beside the definitions of Settings.antt and Events.antt; Laws.antt says that they agree.
use Rattle.std.specs.Prelude.{ℕ, ◌≤◌, ◌<◌, ◌/◌, ◌%◌, ◌≡◌, List, [], ◌∷◌, length}
use Rattle.records.specs.Bytes.{byte_at}

-- a byte that is at most some number
pub record Limit : Type 0 where
  pub place : ℕ
  pub most : ℕ

-- the bytes that have a limit, and the first of the unnamed ones, which are 0
pub record Layout : Type 0 where
  pub limits : List Limit
  pub unnamed : ℕ

abbrev limit : ℕ → ℕ → Limit
limit place most = record { place = place; most = most }

-- flags are 0 or 1
abbrev flag : ℕ → Limit
flag place = limit place 1

abbrev pub layout : List Limit → ℕ → Layout
layout limits unnamed = record { limits = limits; unnamed = unnamed }

abbrev pub settings_layout : Layout
settings_layout = layout (flag 4 ∷ limit 11 63 ∷ flag 18 ∷ []) 19

-- of each kind of event, from byte 12 on
abbrev pub event_layouts : List Layout
event_layouts =
    -- 0 start-up
    layout [] 12
    -- 1 move to level: with-on-off, level, known, time 2, mask, override
    ∷ layout (flag 12 ∷ flag 14 ∷ []) 19
    -- 2 move: with-on-off, mode, known, rate, mask, override
    ∷ layout (flag 12 ∷ flag 13 ∷ flag 14 ∷ []) 18
    -- 3 step: with-on-off, mode, size, known, time 2, mask, override
    ∷ layout (flag 12 ∷ flag 13 ∷ flag 15 ∷ []) 20
    -- 4 stop: with-on-off, mask, override
    ∷ layout (flag 12 ∷ []) 15
    -- 5 answer: code, level
    ∷ layout (limit 12 2 ∷ []) 14
    -- 6 wake
    ∷ layout [] 12
    -- 7 on/off changed: value
    ∷ layout (flag 12 ∷ []) 13
    -- 8 scene: present, level, milliseconds 4
    ∷ layout (flag 12 ∷ []) 18
    -- 9 device update: level
    ∷ layout [] 13
    -- 10 device stop
    ∷ layout [] 12
    -- 11, 12, 13 set on level, default rate, start-up level: known, value
    ∷ layout (flag 12 ∷ []) 14
    ∷ layout (flag 12 ∷ []) 14
    ∷ layout (flag 12 ∷ []) 14
    -- 14 reset
    ∷ layout [] 12
    ∷ []

abbrev pub Within : List ℕ → List Limit → Type 0
Within s [] = Unit {0}
Within s (l ∷ ls) = (byte_at s l.place ≤ l.most) × Within s ls

pub record Keeps (s : List ℕ) (l : Layout) : Type 0 where
  pub within : Within s l.limits
  pub zeros : (i : ℕ) → l.unnamed ≤ i → byte_at s i ≡ 0

pub record Marked (s : List ℕ) (mark : ℕ) : Type 0 where
  pub whole : length s ≡ 20
  pub first : byte_at s 0 ≡ 0x4C
  pub second : byte_at s 1 ≡ mark

-- An event's value that is marked missing, and the bytes it has: from a place up to another.
pub data MissingInEvent (s : List ℕ) : ℕ → ℕ → Type 0 where
  TimeOfMoveToLevel : byte_at s 2 ≡ 1 → byte_at s 14 ≡ 0 → MissingInEvent s 15 17
  RateOfMove : byte_at s 2 ≡ 2 → byte_at s 14 ≡ 0 → MissingInEvent s 15 16
  TimeOfStep : byte_at s 2 ≡ 3 → byte_at s 15 ≡ 0 → MissingInEvent s 16 18
  LevelOfAnswer : byte_at s 2 ≡ 5 → (byte_at s 12 ≡ 0 → ⊥) → MissingInEvent s 13 14
  LevelOfScene : byte_at s 2 ≡ 8 → byte_at s 12 ≡ 0 → MissingInEvent s 13 14
  OnLevelSet : byte_at s 2 ≡ 11 → byte_at s 12 ≡ 0 → MissingInEvent s 13 14
  DefaultRateSet : byte_at s 2 ≡ 12 → byte_at s 12 ≡ 0 → MissingInEvent s 13 14
  StartUpLevelSet : byte_at s 2 ≡ 13 → byte_at s 12 ≡ 0 → MissingInEvent s 13 14

-- a setting that its known bit marks as missing
pub data MissingInSettings (s : List ℕ) : ℕ → ℕ → Type 0 where
  LevelUnknown : byte_at s 11 % 2 ≡ 0 → MissingInSettings s 7 8
  OnLevelUnknown : byte_at s 11 / 2 % 2 ≡ 0 → MissingInSettings s 8 9
  StartUpLevelUnknown : byte_at s 11 / 4 % 2 ≡ 0 → MissingInSettings s 9 10
  DefaultRateUnknown : byte_at s 11 / 8 % 2 ≡ 0 → MissingInSettings s 10 11
  OnTimeUnknown : byte_at s 11 / 16 % 2 ≡ 0 → MissingInSettings s 14 16
  OffTimeUnknown : byte_at s 11 / 32 % 2 ≡ 0 → MissingInSettings s 16 18

-- two records that are the same but for the bytes from a place up to another
pub record SameBut (from to : ℕ) (s t : List ℕ) : Type 0 where
  pub lengths : length s ≡ length t
  pub earlier : (i : ℕ) → i < from → byte_at s i ≡ byte_at t i
  pub later : (i : ℕ) → to ≤ i → byte_at s i ≡ byte_at t i
