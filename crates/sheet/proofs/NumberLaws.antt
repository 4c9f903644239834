-- The number of a call is that of the first cause in the table, and its bytes are those of the text. Assumes nothing.
use Rattle.std.specs.Prelude.{Result, Ok, Err}
use Prim.Native.Nat.{ℕ}
use mathlib.Core.Bool.{Bool, true, false, cond, ◌&&◌, ◌||◌, not}
use mathlib.Core.Path.{◌≡◌, refl, sym, ap, subst, ◌∙◌}
use mathlib.Core.List.{List, [], ◌∷◌, ◌++◌}
use borrow.Author.Tests.{leb-true, leb-false, lt-ltb, le-ltb}
use lib.Dec.{eqb, ltb, leb}
use lib.ListN.{length, take, drop}
use Rattle.transitions.specs.Causes.{first_cause, no_command_tests, no_turn_tests}
use Rattle.transitions.specs.declared.causes.Tests.{Tests}
use Rattle.transitions.specs.declared.settings.Settings.{Settings}
use Rattle.records.specs.Bytes.{byte_at}
use Rattle.records.specs.SettingsRecord.{settings_read, settings_read_number, settings_wrong, refusal_number}
use Rattle.records.specs.declared.refusal.RecordRefusal.{RecordRefusal}
use Rattle.records.specs.declared.refusal.RecordRefusal.TheVariants.{RecordWrong, MaxAbove254, MinAboveMax, LightingMin0}
use Rattle.records.specs.Laws.{settings_causes}
use Rattle.records.proofs.LayoutLaws.{settings_number}
use Rattle.level_control.specs.State.{new_state}
use Rattle.sheet.specs.Lines.{text_of}
use Rattle.sheet.specs.Play.{call_tests, fitted, length_ok, play_number, play_of, play_values, play_with, text_asked, text_with}
use Rattle.sheet.specs.declared.refusal.PlayRefusal.{PlayRefusal}
use Rattle.sheet.specs.declared.refusal.PlayRefusal.TheVariants.{Record as RecordRefused, TextTooLong}

abbrev Given : Type 0
Given = Result ℕ PlayRefusal × List ℕ

abbrev number : Given → ℕ
number p = play_number p.0

abbrev values : Given → List ℕ
values p = play_values p.0

abbrev causes : Bool → Bool → Bool → Bool → Bool → Tests
causes wrong above under dark short = record {
  call = record { record_wrong = wrong; max_above_254 = above; min_above_max = under; lighting_min_0 = dark; output_short = short };
  turn = no_turn_tests;
  command = no_command_tests;
}

-- 16 comes last
short_last : (wrong above under dark short : Bool)
    → first_cause (causes wrong above under dark short)
    ≡ cond (eqb (first_cause (settings_causes wrong above under dark)) 0) (cond short 16 0) (first_cause (settings_causes wrong above under dark))
unfolding first_cause
short_last true above under dark short = refl
short_last false true under dark short = refl
short_last false false true dark short = refl
short_last false false false true short = refl
short_last false false false false true = refl
short_last false false false false false = refl

refusal_not_0 : (why : RecordRefusal) → eqb (refusal_number why) 0 ≡ false
refusal_not_0 RecordWrong = refl
refusal_not_0 MaxAbove254 = refl
refusal_not_0 MinAboveMax = refl
refusal_not_0 LightingMin0 = refl

fitted_number : (text out : List ℕ) → play_number (fitted text out).0 ≡ cond (ltb (length out) (length text)) 16 0
unfolding fitted
fitted_number text out = go (leb (length text) (length out)) refl
  where
    go : (b : Bool) → leb (length text) (length out) ≡ b
        → number (cond b (Ok (length text), text ++ drop (length text) out) (Err TextTooLong, out)) ≡ cond (ltb (length out) (length text)) 16 0
    go true e = rw (le-ltb (length out) (length text) (leb-true (length text) (length out) e))
    go false e = rw (lt-ltb (length out) (length text) (leb-false (length text) (length out) e))

fitted_values : (text out : List ℕ) → play_values (fitted text out).0 ≡ cond (eqb (play_number (fitted text out).0) 0) (length text ∷ []) []
unfolding fitted
fitted_values text out = go (leb (length text) (length out))
  where
    go : (b : Bool)
        → values (cond b (Ok (length text), text ++ drop (length text) out) (Err TextTooLong, out))
        ≡ cond (eqb (number (cond b (Ok (length text), text ++ drop (length text) out) (Err TextTooLong, out))) 0) (length text ∷ []) []
    go true = refl
    go false = refl

-- with settings that were read: their number, or 16
with_number : (r : Result Settings RecordRefusal) (events out : List ℕ)
    → play_number (play_with r events out).0
    ≡ cond (eqb (settings_read_number r) 0) (cond (ltb (length out) (length (text_with r events))) 16 0) (settings_read_number r)
unfolding play_with
with_number (Ok settings) events out = fitted_number (text_of (new_state settings) events) out
with_number (Err why) events out = rw (refusal_not_0 why)

with_values : (r : Result Settings RecordRefusal) (events out : List ℕ)
    → play_values (play_with r events out).0 ≡ cond (eqb (play_number (play_with r events out).0) 0) (length (text_with r events) ∷ []) []
unfolding play_with
with_values (Ok settings) events out = fitted_values (text_of (new_state settings) events) out
with_values (Err why) events out = rw (refusal_not_0 why)

module _ (records out : List ℕ) where
  abbrev first : List ℕ
  first = take 20 records

  abbrev short : Bool
  short = ltb (length out) (length (text_asked records))

  abbrev above : Bool
  above = ltb 254 (byte_at first 3)

  abbrev under : Bool
  under = ltb (byte_at first 3) (byte_at first 2)

  abbrev dark : Bool
  dark = eqb (byte_at first 18) 1 && eqb (byte_at first 2) 0

  call_number : number (play_of records out) ≡ first_cause (call_tests records out)
  unfolding play_of first_cause
  call_number = go (length_ok (length records))
    where
      go : (right : Bool)
          → number (cond right (play_with (settings_read first) (drop 20 records) out) (Err (RecordRefused RecordWrong), out))
          ≡ first_cause (causes (not right || settings_wrong first) above under dark short)
      go true =
          with_number (settings_read first) (drop 20 records) out
          ∙ ap (λ (n : ℕ). cond (eqb n 0) (cond short 16 0) n) (settings_number first)
          ∙ sym (short_last (settings_wrong first) above under dark short)
      go false = sym (short_last true above under dark short)

  call_values : values (play_of records out) ≡ cond (eqb (number (play_of records out)) 0) (length (text_asked records) ∷ []) []
  unfolding play_of
  call_values = go (length_ok (length records))
    where
      go : (right : Bool)
          → values (cond right (play_with (settings_read first) (drop 20 records) out) (Err (RecordRefused RecordWrong), out))
          ≡ cond (eqb (number (cond right (play_with (settings_read first) (drop 20 records) out) (Err (RecordRefused RecordWrong), out))) 0) (length (text_asked records) ∷ []) []
      go true = with_values (settings_read first) (drop 20 records) out
      go false = refl

  -- of what a call gives

  pub number_given : {result : Result ℕ PlayRefusal} {new : List ℕ} → (result, new) ≡ play_of records out
      → play_number result ≡ first_cause (call_tests records out)
  number_given same = ap number same ∙ call_number

  pub values_given : {result : Result ℕ PlayRefusal} {new : List ℕ} → (result, new) ≡ play_of records out
      → play_values result ≡ cond (eqb (play_number result) 0) (length (text_asked records) ∷ []) []
  values_given same =
      subst (λ (p : Given). values p ≡ cond (eqb (number p) 0) (length (text_asked records) ∷ []) []) (sym same) call_values
