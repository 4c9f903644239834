-- The grammar: the line of the settings.
use Rattle.std.specs.Prelude.{ℕ, Bool, ◌&&◌, if◌then◌else◌, List, nat_eq, nat_lt, Option, Some, None, is_some, Result, Ok}
use Rattle.std.specs.List.{slice_get}
use Rattle.units.specs.declared.Tenths.{Tenths}
use Rattle.transitions.specs.Types.{Time}
use Rattle.transitions.specs.declared.settings.Settings.{Settings}
use Rattle.transitions.specs.declared.types.LevelRange.{LevelRange}
use Rattle.words.specs.Values.{Reader, both, made, fault, ended, is_name, ◌>>=◌, byte, flag, keyword, named_byte, named_time, optional_byte, optional_time}
use Rattle.words.specs.declared.fault.Expected.{Expected}
use Rattle.words.specs.declared.fault.Expected.TheVariants as expected
use Rattle.words.specs.declared.fault.WordFault.{WordFault}
use Rattle.words.specs.declared.names.Name.TheVariants as name
use Rattle.words.specs.declared.tokens.Token.{Token}

-- a byte that passes a test, or what is expected in its place
abbrev pub passed : Option Expected → ℕ × ℕ → ℕ → Result (ℕ × ℕ) WordFault
passed None x at = Ok x
passed (Some what) x at = fault at what

abbrev pub tested : (ℕ → Option Expected) → Reader ℕ
tested test ts at = byte ts at >>= λ x. passed (test x.0) x at

-- at most 254, as every max
abbrev pub min_test : ℕ → Option Expected
min_test min = if nat_lt 254 min then Some expected.MinAtMost254 else None

-- at most 254, and no lower than min
abbrev pub max_test : ℕ → ℕ → Option Expected
max_test min max = if nat_lt 254 max then Some expected.MaxAtMost254 else if nat_lt max min then Some expected.MaxNotBelowMin else None

unfoldable pub min_at : Reader ℕ
min_at ts at = tested min_test ts at

unfoldable pub max_at : ℕ → Reader ℕ
max_at min ts at = tested (max_test min) ts at

abbrev pub range_from : Unit {0} × (ℕ × (Unit {0} × ℕ)) → LevelRange
range_from x = record { min = x.1.0; max = x.1.1.1 }

unfoldable pub range : Reader LevelRange
range ts at = made range_from (both (keyword name.Min expected.Min) (λ u. both min_at (λ min. both (keyword name.Max expected.Max) (λ u. max_at min)))) ts at

-- level, on-level, start-up-current-level, default-move-rate
unfoldable pub levels : Reader (Option ℕ × (Option ℕ × (Option ℕ × Option ℕ)))
levels ts at =
    both (optional_byte name.Level) (λ level. both (optional_byte name.OnLevel)
    (λ on. both (optional_byte name.StartUpCurrentLevel) (λ start. optional_byte name.DefaultMoveRate))) ts at

-- on-off-, on- and off-transition-time
unfoldable pub times : Reader (Tenths × (Time × Time))
times ts at =
    both (named_time name.OnOffTransitionTime) (λ common. both (optional_time name.OnTransitionTime) (λ on. optional_time name.OffTransitionTime)) ts at

-- a lamp for lighting has a min of at least 1
unfoldable pub lighting : ℕ → Reader Bool
lighting min ts at =
    if nat_eq min 0 && is_name name.Lighting (slice_get ts at) then fault at expected.NoLighting else flag name.Lighting ts at

-- options, coupled, lighting
unfoldable pub flags : ℕ → Reader (ℕ × (Bool × Bool))
flags min ts at = both (named_byte name.Options) (λ options. both (flag name.Coupled) (λ coupled. lighting min)) ts at

abbrev pub settings_from : Unit {0} × (LevelRange × (Unit {0} × (ℕ × ((Option ℕ × (Option ℕ × (Option ℕ × Option ℕ))) × ((Tenths × (Time × Time)) × (ℕ × (Bool × Bool))))))) → Settings
settings_from x =
    let levels = x.1.1.1.1.0 in let times = x.1.1.1.1.1.0 in let flags = x.1.1.1.1.1.1 in
    record {
      range = x.1.0;
      coupled = flags.1.0;
      fastest_rate = x.1.1.1.0;
      lighting = flags.1.1;
      current_level = levels.0;
      attributes = record {
        on_level = levels.1.0;
        options = record { 0 = flags.0 };
        on_off_transition_time = times.0;
        on_transition_time = times.1.0;
        off_transition_time = times.1.1;
        default_move_rate = levels.1.1.1;
        start_up_current_level = levels.1.1.0;
      };
    }

unfoldable pub settings : Reader Settings
settings ts at =
    made settings_from (both (keyword name.Settings expected.Settings) (λ u. both range (λ r. both (keyword name.FastestRate expected.FastestRate)
    (λ u. both byte (λ rate. both levels (λ levels. both times (λ times. flags r.min))))))) ts at

-- What may still come behind whole settings: the names behind the last that is there.

abbrev pub further_flags : Settings → Expected → Expected
further_flags x what =
    if x.lighting then expected.End
    else if x.coupled then expected.NameOrEnd name.Lighting
    else if nat_eq x.attributes.options.0 0 then what else expected.NameOrEnd name.Coupled

abbrev pub further_times : Settings → Expected → Expected
further_times x what =
    if is_some x.attributes.off_transition_time then expected.NameOrEnd name.Options
    else if is_some x.attributes.on_transition_time then expected.NameOrEnd name.OffTransitionTime
    else if nat_eq x.attributes.on_off_transition_time.0 0 then what else expected.NameOrEnd name.OnTransitionTime

abbrev pub further_levels : Settings → Expected
further_levels x =
    if is_some x.attributes.default_move_rate then expected.NameOrEnd name.OnOffTransitionTime
    else if is_some x.attributes.start_up_current_level then expected.NameOrEnd name.DefaultMoveRate
    else if is_some x.attributes.on_level then expected.NameOrEnd name.StartUpCurrentLevel
    else if is_some x.current_level then expected.NameOrEnd name.OnLevel
    else expected.NameOrEnd name.Level

abbrev pub further : Settings → Expected
further x = further_flags x (further_times x (further_levels x))

-- all of a line
unfoldable pub settings_line : List Token → Result Settings WordFault
settings_line ts = settings ts 0 >>= λ x. ended (further x.0) x.0 ts x.1
