-- The number of what is wrong with records, and which record it is.
use Rattle.std.proofs.Common.{ℕ, suc, ◌≡◌, ◌+◌, Bool, true, false, if◌then◌else◌, nat_eq, List, [], ◌∷◌, length, take, drop, refl, sym, ap, ◌∙◌, arith}
use Rattle.std.proofs.Math.Dec.{eqb-zero-suc}
use Rattle.std.specs.Prelude.{Option, Some, None, is_some, Result, Ok, Err}
use Rattle.transitions.specs.declared.events.Event.{Event}
use Rattle.transitions.specs.declared.settings.Settings.{Settings}
use Rattle.records.specs.EventRecord.{event_read}
use Rattle.records.specs.SettingsRecord.{settings_read, settings_read_number}
use Rattle.records.specs.declared.refusal.RecordRefusal.TheVariants as refusal
use Rattle.records.specs.declared.refusal.RecordRefusal.{RecordRefusal}
use Rattle.records.proofs.LayoutLaws.{settings_number}
use Rattle.words.specs.Spelling.{settings_text}
use Rattle.words.specs.Writing.{all_right, event_records, length_ok, number_of, play_text, put_text, right_events, settings_cause, text_length, text_then, values_of, with_event, with_events, with_line, with_settings, write_into, write_number, write_values}
use Rattle.words.specs.declared.writing.WrongRecord.{WrongRecord}
use Rattle.words.specs.declared.writing.WrongRecord.TheVariants as wrong

abbrev Text : Type 0
Text = Result (List ℕ) WrongRecord

abbrev counted : Text → Result ℕ WrongRecord
counted (Ok text) = Ok (length text)
counted (Err why) = Err why

abbrev number : Text → ℕ
number t = write_number (counted t)

abbrev values : Text → List ℕ
values t = write_values (counted t)

one_more : (a b : ℕ) → nat_eq (1 + a) (suc b) ≡ nat_eq a b
one_more a b = grind arith

-- of events

first_number : (before : List ℕ) (n : ℕ) (e : Option Event) (k : ℕ) (rs : List (List ℕ))
    → ((text : List ℕ) → number (with_events text (suc n) rs) ≡ if nat_eq k (length rs) then 0 else 1)
    → number (text_then (with_event before n e) (λ text. with_events text (suc n) rs)) ≡ if nat_eq (if is_some e then 1 + k else 0) (suc (length rs)) then 0 else 1
first_number before n (Some e) k rs h = rw one_more (h _)
first_number before n None k rs h = rw (eqb-zero-suc (length rs)) refl

events_number : (before : List ℕ) (n : ℕ) (rs : List (List ℕ)) → number (with_events before n rs) ≡ if all_right rs then 0 else 1
unfolding with_events
events_number before n [] = refl
events_number before n (r ∷ rs) = first_number before n (event_read r) (right_events rs) rs (λ text. events_number text (suc n) rs)

first_values : (before : List ℕ) (n : ℕ) (e : Option Event) (k : ℕ) (rs : List (List ℕ))
    → ((text : List ℕ) → values (with_events text (suc n) rs) ≡ if nat_eq k (length rs) then text_length (with_events text (suc n) rs) ∷ [] else (suc n + k) ∷ [])
    → values (text_then (with_event before n e) (λ text. with_events text (suc n) rs))
    ≡ if nat_eq (if is_some e then 1 + k else 0) (suc (length rs)) then text_length (text_then (with_event before n e) (λ text. with_events text (suc n) rs)) ∷ []
    else (n + (if is_some e then 1 + k else 0)) ∷ []
first_values before n (Some e) k rs h = let m : suc n + k ≡ n + (1 + k) = omega arith in rw (one_more, ← m) (h _)
first_values before n None k rs h = let m : n + 0 ≡ n = omega arith in rw (m, eqb-zero-suc (length rs)) refl

events_values : (before : List ℕ) (n : ℕ) (rs : List (List ℕ))
    → values (with_events before n rs) ≡ if all_right rs then text_length (with_events before n rs) ∷ [] else (n + right_events rs) ∷ []
unfolding with_events
events_values before n [] = refl
events_values before n (r ∷ rs) = first_values before n (event_read r) (right_events rs) rs (λ text. events_values text (suc n) rs)

-- of settings, and then of events

with_number : (r : Result Settings RecordRefusal) (rs : List (List ℕ))
    → number (text_then (with_settings r) (λ text. with_events text 1 rs))
    ≡ if nat_eq (settings_read_number r) 0 then (if all_right rs then 0 else 1) else settings_read_number r
with_number (Ok x) rs = events_number (with_line [] (settings_text x)) 1 rs
with_number (Err refusal.RecordWrong) rs = refl
with_number (Err refusal.MaxAbove254) rs = refl
with_number (Err refusal.MinAboveMax) rs = refl
with_number (Err refusal.LightingMin0) rs = refl

with_values : (r : Result Settings RecordRefusal) (rs : List (List ℕ))
    → values (text_then (with_settings r) (λ text. with_events text 1 rs))
    ≡ if nat_eq (settings_read_number r) 0 then (
    if all_right rs then text_length (text_then (with_settings r) (λ text. with_events text 1 rs)) ∷ [] else (1 + right_events rs) ∷ [])
    else 0 ∷ []
with_values (Ok x) rs = events_values (with_line [] (settings_text x)) 1 rs
with_values (Err refusal.RecordWrong) rs = refl
with_values (Err refusal.MaxAbove254) rs = refl
with_values (Err refusal.MinAboveMax) rs = refl
with_values (Err refusal.LightingMin0) rs = refl

by_length : (b : Bool) (t : Text) (m : ℕ) → number t ≡ m → number (if b then t else Err wrong.Length) ≡ if b then m else 1
by_length true t m h = h
by_length false t m h = refl

play_number : (s : List ℕ) → number (play_text s) ≡ number_of s
unfolding play_text
play_number s =
    by_length (length_ok (length s)) _ _ (rw (← settings_number (take 20 s)) (with_number (settings_read (take 20 s)) (event_records (drop 20 s))))

values_by_length : (b : Bool) (t : Text) (right : Bool) (cause k : ℕ)
    → values t ≡ (if nat_eq cause 0 then (if right then text_length t ∷ [] else k ∷ []) else 0 ∷ [])
    → values (if b then t else Err wrong.Length)
    ≡ if b then (if nat_eq cause 0 then (if right then text_length (if b then t else Err wrong.Length) ∷ [] else k ∷ []) else 0 ∷ []) else []
values_by_length true t right cause k h = h
values_by_length false t right cause k h = refl

play_values : (s : List ℕ) → values (play_text s) ≡ values_of s
unfolding play_text
play_values s =
    values_by_length (length_ok (length s)) _ (all_right (event_records (drop 20 s))) (settings_cause s) _
    (rw (← settings_number (take 20 s)) (with_values (settings_read (take 20 s)) (event_records (drop 20 s))))

-- what a call gives

put_counted : (t : Text) (out : List ℕ) → (put_text t out).0 ≡ counted t
put_counted (Ok text) out = refl
put_counted (Err why) out = refl

pub number_given : (s out : List ℕ) {p : Result ℕ WrongRecord × List ℕ} → p ≡ write_into s out → write_number p.0 ≡ number_of s
number_given s out h = ap (λ (p : Result ℕ WrongRecord × List ℕ). write_number p.0) h ∙ ap write_number (put_counted (play_text s) out) ∙ play_number s

pub values_given : (s out : List ℕ) {p : Result ℕ WrongRecord × List ℕ} → p ≡ write_into s out → write_values p.0 ≡ values_of s
values_given s out h = ap (λ (p : Result ℕ WrongRecord × List ℕ). write_values p.0) h ∙ ap write_values (put_counted (play_text s) out) ∙ play_values s

pub number_ok : (s text : List ℕ) → play_text s ≡ Ok text → 0 ≡ number_of s
number_ok s text h = sym (ap number h) ∙ play_number s

pub values_ok : (s text : List ℕ) → play_text s ≡ Ok text → length text ∷ [] ≡ values_of s
values_ok s text h = sym (ap values h) ∙ play_values s
