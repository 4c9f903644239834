-- Words: a level, a time and a rate, and what is asked of them. A missing one is None.
use Rattle.std.specs.Prelude.{ℕ, ◌%◌, Bool, false, ◌&&◌, ◌||◌, eqb, leb, ltb, List, [], ◌∷◌, Option, Some, None, is_none}
use Rattle.units.specs.declared.Tenths.{Tenths}
use Rattle.transitions.specs.declared.types.LevelRange.{LevelRange}
use Rattle.transitions.specs.declared.types.OptionsBitmap.{OptionsBitmap}

abbrev pub Level : Type 0
Level = Option ℕ

abbrev pub Time : Type 0
Time = Option Tenths

abbrev pub Rate : Type 0
Rate = Option ℕ

abbrev pub is_missing : Level → Bool
is_missing l = is_none l

-- the level, where it is known
abbrev pub level_values : Level → List ℕ
level_values (Some l) = l ∷ []
level_values None = []

-- the tenths of a time, where it is known
abbrev pub time_values : Time → List ℕ
time_values (Some t) = t.0 ∷ []
time_values None = []

-- whether a level is known and is that one
abbrev pub is_level : Level → ℕ → Bool
is_level (Some l) other = eqb l other
is_level None other = false

unfoldable pub same_level : Level → Level → Bool
same_level l (Some other) = is_level l other
same_level l None = is_missing l

unfoldable pub level_or : Level → Level → Level
level_or (Some l) other = Some l
level_or None other = other

abbrev pub is_within : LevelRange → ℕ → Bool
is_within range level = leb range.min level && leb level range.max

-- a known level outside a range
abbrev pub is_outside : Level → ℕ → ℕ → Bool
is_outside (Some l) lo hi = ltb l lo || ltb hi l
is_outside None lo hi = false

unfoldable pub time_or : Time → Tenths → Tenths
time_or (Some t) other = t
time_or None other = other

abbrev pub is_zero_rate : Rate → Bool
is_zero_rate (Some r) = eqb r 0
is_zero_rate None = false

-- the first rate, else the second, else the number
abbrev pub rate_or : Rate → Rate → ℕ → ℕ
rate_or (Some r) other last = r
rate_or None (Some r) last = r
rate_or None None last = last

-- bit 0, EXECUTE_IF_OFF
abbrev pub executes_if_off : OptionsBitmap → Bool
executes_if_off o = eqb (o.0 % 2) 1
