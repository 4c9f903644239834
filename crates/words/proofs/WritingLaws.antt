-- How long words are, words one after the other, and steps from event to event.
use Rattle.std.proofs.Common.{ℕ, suc, ◌≡◌, ◌+◌, ◌/◌, ◌^◌, ◌≤◌, ◌<◌, ◌%◌, List, [], ◌∷◌, ◌++◌, length, refl, ap, ◌∙◌, sym, arith, append_assoc, length-drop}
use Rattle.std.specs.Prelude.{zero, ◌-◌, take, drop, Ok, Err}
use native.Mathlib.Nat.{one-le-pow}
use lib.Dec.{lit≤}
use Rattle.text.specs.Text.{digits}
use Rattle.text.proofs.DigitLaws.{digits_below}
use Rattle.words.specs.Names.{command_text, name_text}
use Rattle.records.specs.EventRecord.{event_read}
use Rattle.words.specs.Spelling.{byte_words, flag_words, fraction, positive_byte_words, positive_time_words, setting_text, settings_text, spaced, time_words}
use Rattle.words.specs.Writing.{event_records, flags_text, levels_text, range_text, records_of, with_event, with_events, text_then, times_text}
use Rattle.words.specs.declared.names.CommandVerb.{CommandVerb}
use Rattle.words.specs.declared.names.CommandVerb.TheVariants as command
use Rattle.words.specs.declared.names.Name.TheVariants as name
use Rattle.transitions.specs.declared.settings.Settings.{Settings}
use Rattle.words.specs.declared.writing.WrongRecord.{WrongRecord}

pub ten_power_positive : (k : ℕ) → 0 < 10 ^ k
ten_power_positive k = one-le-pow k 10 (lit≤ tt)

pub byte_digits : (x : ℕ) → x < 2 ^ 8 → length (digits x) ≤ 3
byte_digits x h = digits_below 2 x (omega (arith, h))

pub tenths_digits : (x : ℕ) → x < 2 ^ 16 → length (digits (x / 10 ^ 1)) ≤ 4
tenths_digits x h = digits_below 3 (x / 10 ^ 1) (omega (arith, h))

pub millis_digits : (x : ℕ) → x < 2 ^ 32 → length (digits (x / 10 ^ 3)) ≤ 7
millis_digits x h = digits_below 6 (x / 10 ^ 3) (omega (arith, h))

pub micros_digits : (x : ℕ) → x < 2 ^ 64 → length (digits (x / 10 ^ 6)) ≤ 14
micros_digits x h = digits_below 13 (x / 10 ^ 6) (omega (arith, h))

pub verb_length : (v : CommandVerb) → length (command_text v) ≤ 25
verb_length command.MoveToLevel = omega arith
verb_length command.MoveToLevelWithOnOff = omega arith
verb_length command.Move = omega arith
verb_length command.MoveWithOnOff = omega arith
verb_length command.Step = omega arith
verb_length command.StepWithOnOff = omega arith
verb_length command.Stop = omega arith
verb_length command.StopWithOnOff = omega arith
verb_length command.OnOff = omega arith
verb_length command.RecallScene = omega arith
verb_length command.DeviceUpdate = omega arith
verb_length command.DeviceStop = omega arith
verb_length command.Write = omega arith
verb_length command.FactoryReset = omega arith

pub spaced_append : (v w : List (List ℕ)) → spaced (v ++ w) ≡ spaced v ++ spaced w
spaced_append [] w = refl
spaced_append (x ∷ v) w = ap (λ (s : List ℕ). (32 ∷ x) ++ s) (spaced_append v w) ∙ sym (append_assoc (32 ∷ x) (spaced v) (spaced w))

-- the first of k digits, and the others
pub fraction_step : (k n : ℕ) → 0 < k → fraction k n ≡ (48 + n / 10 ^ (k - 1) % 10) ∷ fraction (k - 1) n
fraction_step zero n h = absurd (omega (arith, h))
fraction_step (suc k) n h = let e : suc k - 1 ≡ k = omega arith in rw e refl

-- a record, and those behind it
first_record : (s : List ℕ) → 20 ≤ length s → event_records s ≡ take 20 s ∷ event_records (drop 20 s)
unfolding records_of
first_record s h = let e : length s / 20 ≡ suc (length (drop 20 s) / 20) = rw length-drop (omega (arith, h)) in rw e refl

no_record : (s : List ℕ) → length s < 20 → event_records s ≡ []
unfolding records_of
no_record s h = let e : length s / 20 ≡ 0 = omega (arith, h) in rw e refl

with_first : (before : List ℕ) (n : ℕ) (r : List ℕ) (rs : List (List ℕ))
    → with_events before n (r ∷ rs) ≡ text_then (with_event before n (event_read r)) (λ text. with_events text (suc n) rs)
unfolding with_events
with_first before n r rs = refl

pub goes_on : (before next : List ℕ) (n : ℕ) (s : List ℕ) → 20 ≤ length s → with_event before n (event_read (take 20 s)) ≡ Ok next
    → with_events before n (event_records s) ≡ with_events next (n + 1) (event_records (drop 20 s))
goes_on before next n s l h =
    let number : suc n ≡ n + 1 = omega arith in
    rw (first_record s l, with_first before n (take 20 s) (event_records (drop 20 s)), h, number) refl

pub fails : (before : List ℕ) (n : ℕ) (s : List ℕ) (why : WrongRecord) → 20 ≤ length s → with_event before n (event_read (take 20 s)) ≡ Err why
    → with_events before n (event_records s) ≡ Err why
fails before n s why l h = rw (first_record s l, with_first before n (take 20 s) (event_records (drop 20 s)), h) refl

pub ends : (before : List ℕ) (n : ℕ) (s : List ℕ) → length s < 20 → with_events before n (event_records s) ≡ Ok before
unfolding with_events
ends before n s h = rw (no_record s h) refl

-- The settings' line, by its parts.

flat : (t a b c d e f g h i j k l : List ℕ)
    → (((t ++ (a ++ (b ++ c))) ++ (d ++ (e ++ (f ++ g)))) ++ (h ++ (i ++ j))) ++ (k ++ l)
    ≡ t ++ (a ++ (b ++ (c ++ (d ++ (e ++ (f ++ (g ++ (h ++ (i ++ (j ++ (k ++ l)))))))))))
flat t a b c d e f g h i j k l = simp append_assoc refl

pub settings_parts : (x : Settings) → (((name_text name.Settings ++ range_text x) ++ levels_text x) ++ times_text x) ++ flags_text x ≡ settings_text x
settings_parts x =
    let a = x.attributes in
    flat (name_text name.Settings) (setting_text (name_text name.Min ∷ digits x.range.min ∷ [])) (setting_text (name_text name.Max ∷ digits x.range.max ∷ []))
    (setting_text (name_text name.FastestRate ∷ digits x.fastest_rate ∷ [])) (setting_text (byte_words name.Level x.current_level))
    (setting_text (byte_words name.OnLevel a.on_level)) (setting_text (byte_words name.StartUpCurrentLevel a.start_up_current_level))
    (setting_text (byte_words name.DefaultMoveRate a.default_move_rate)) (setting_text (positive_time_words name.OnOffTransitionTime a.on_off_transition_time))
    (setting_text (time_words name.OnTransitionTime a.on_transition_time)) (setting_text (time_words name.OffTransitionTime a.off_transition_time))
    (setting_text (positive_byte_words name.Options a.options.0)) (setting_text (flag_words name.Coupled x.coupled) ++ setting_text (flag_words name.Lighting x.lighting))
