-- The theorems over records. Assumes nothing.
use Rattle.std.specs.Prelude.{Option, Some, None}
use Prim.Native.Nat.{ℕ, zero, suc, ◌/◌, ◌≤◌, zero-le}
use mathlib.Core.Bool.{true}
use mathlib.Core.Path.{◌≡◌, refl, sym, ap, subst, ◌∙◌}
use mathlib.Core.List.{List, [], ◌∷◌}
use native.Mathlib.Omega.{arith}
use lib.ListN.{length, take, drop}
use Rattle.transitions.specs.Events.{event}
use Rattle.transitions.specs.declared.events.Event.{Event}
use Rattle.transitions.specs.declared.events.EventKind.TheVariants as kind
use Rattle.transitions.specs.declared.settings.Settings.{Settings}
use Rattle.records.specs.EventRecord.{event_read}
use Rattle.records.specs.Laws.{AllBytes}
use Rattle.records.specs.Written.{event_record, EventFits}
use Rattle.records.proofs.WrittenLaws.{event_written}
use Rattle.level_control.specs.Answer.{Outcome}
use Rattle.level_control.specs.EveryFade.{Shown}
use Rattle.level_control.specs.Run as run
use Rattle.level_control.specs.Run.{Run, started, accepted, play}
use Rattle.level_control.specs.State.{new_state}
use Rattle.level_control.specs.declared.state.LevelControlState.{LevelControlState}
use Rattle.level_control.proofs.EveryFade.{every_fade}
use Rattle.level_theorems.specs.Replies.{Ends, answers_from}
use Rattle.level_theorems.proofs.Acceptance.{answers_accepted, wakes_accepted}
use Rattle.level_theorems.proofs.EveryEventLaws.{every_event}
use Rattle.level_theorems.proofs.Progress.{comes_to_rest}
use Rattle.level_theorems.proofs.WaitsEnd.{waits_end}
use Rattle.sheet.specs.Lines as lines
use Rattle.sheet.specs.Lines.{read_outcome, record_outcome, outcomes_of, lines_from, text_of}
use Rattle.sheet.proofs.LawsHold.{sheet_laws}
use Rattle.record_theorems.specs.RecordPlays.{Record, all_bytes, answers_of, answer_to, accepts, seen, only_onward, StartsAt}
use Rattle.record_theorems.specs.RecordTheorems.{RecordsOf, EveryEventRecorded, answers_after, EveryFadeRecorded, AnswerRecordsAccepted, WakeRecordsAccepted, RecordsComeToRest, RecordedWaitsEnd}
use Rattle.record_theorems.proofs.RecordRuns.{events_of, seen_is_play, onward_is, later_is, answer_is, start_state, starts_is}
use Rattle.record_theorems.proofs.StartFits.{recorded_fits}
use Rattle.record_theorems.proofs.WrittenRecords.{all_take, all_drop, Written, write_answers}

-- Every event.

-- bytes cut into records
abbrev cut : (k : ℕ) (s : List ℕ) → AllBytes s → List Record
cut zero s a = []
cut (suc k) s a = record { bytes = take 20 s; small = all_take 20 s a } ∷ cut k (drop 20 s) (all_drop 20 s a)

cut_bytes : (k : ℕ) (s : List ℕ) (a : AllBytes s) → all_bytes (cut k s a) ≡ lines.records_of k s
unfolding lines.records_of
cut_bytes zero s a = refl
cut_bytes (suc k) s a = ap (λ (l : List (List ℕ)). take 20 s ∷ l) (cut_bytes k (drop 20 s) (all_drop 20 s a))

cut_length : (k : ℕ) (s : List ℕ) (a : AllBytes s) → length (cut k s a) ≡ k
cut_length zero s a = refl
cut_length (suc k) s a = ap suc (cut_length k (drop 20 s) (all_drop 20 s a))

text_of_answers : (start : LevelControlState) (text : Record) → RecordsOf start text
unfolding text_of
text_of_answers start text =
    let k : ℕ = length text.bytes / 20 in
    record {
      records = cut k text.bytes text.small;
      in_order = cut_bytes k text.bytes text.small;
      each = cut_length k text.bytes text.small;
      made = ap (λ (l : List (List ℕ)). lines_from 1 (outcomes_of start l)) (sym (cut_bytes k text.bytes text.small));
    }

refused_keeps : (s : LevelControlState) (b : Record) → ((answer_to s b).number ≡ 0 → ⊥) → ((answer_to s b).state ≡ s) × ((answer_to s b).actions ≡ [])
unfolding record_outcome
refused_keeps s b h = by (event_read b.bytes) h
  where
    by : (x : Option Event) → ((read_outcome s x).number ≡ 0 → ⊥) → ((read_outcome s x).state ≡ s) × ((read_outcome s x).actions ≡ [])
    by (Some e) h = every_event.refused_keeps s e h
    by None h = (refl, refl)

at_most_seven : (s : LevelControlState) (b : Record) → length (answer_to s b).actions ≤ 7
unfolding record_outcome
at_most_seven s b = by (event_read b.bytes)
  where
    by : (x : Option Event) → length (read_outcome s x).actions ≤ 7
    by (Some e) = every_event.at_most_seven s e
    by None = zero-le

pub every_event_recorded : EveryEventRecorded
unfolding record_outcome
every_event_recorded = record {
  text_of_answers = text_of_answers;
  refused_keeps = refused_keeps;
  damaged = λ s b p. ap (read_outcome s) p;
  at_most_seven = at_most_seven;
  refused_call = sheet_laws.refused_keeps;
}

-- Every fade.

-- the answers after the start are those in the state that it left
after_start : (x : Settings) (up after : List Record) (o : Outcome) (c t T : ℕ) → StartsAt (new_state x) up o c t T
    → answers_after x up after ≡ answers_of o.state after
after_start x up after o c t T w =
    later_is up after (new_state x) ∙ ap (λ (s : LevelControlState). answers_of s after) (start_state (new_state x) up o c t T w)

pub every_fade_recorded : EveryFadeRecorded
every_fade_recorded x up after o c t T conf w ne pos on =
    let same = after_start x up after o c t T w in
    let on' : run.only_onward (started o) (events_of after) ≡ true =
    sym (onward_is after (started o)) ∙ subst (λ (os : List Outcome). only_onward after os ≡ true) same on in
    subst (λ (os : List Outcome). Shown c t T (seen (started o) after os)) (sym same)
    (subst (λ (r : Run). Shown c t T r) (sym (seen_is_play after (started o)))
    (every_fade o c t T (events_of after) (starts_is (new_state x) up o c t T w) ne pos (recorded_fits x up o c t T conf w) on'))

-- Progress.

accepts_event : (s : LevelControlState) (b : Record) (e : Event) → b.bytes ≡ event_record e → EventFits e → accepted s e ≡ true → accepts (answer_to s b) ≡ true
accepts_event s b e p fits ok =
    subst (λ (o : Outcome). accepts o ≡ true) (sym (answer_is s b e (ap event_read p ∙ event_written e fits))) ok

pub answer_records_accepted : AnswerRecordsAccepted
answer_records_accepted s b a at on p fits is_open past soon =
    accepts_event s b (event at on (kind.Answer a)) p (record { time = omega arith; kind = fits }) (answers_accepted s a at on is_open past soon)

pub wake_records_accepted : WakeRecordsAccepted
wake_records_accepted s b until at on p waits due past soon =
    accepts_event s b (event at on kind.Wake) p (record { time = omega arith; kind = tt }) (wakes_accepted s until at on waits due past soon)

pub records_come_to_rest : RecordsComeToRest
records_come_to_rest x up o c t T ps conf w ne pos n bytes time =
    let ends : Ends c t (started o) (answers_from (started o) ps) =
    comes_to_rest o c t T ps (starts_is (new_state x) up o c t T w) ne pos (recorded_fits x up o c t T conf w) n time in
    let made : Written (answers_from (started o) ps) = write_answers ps (started o) bytes time in
    let same = after_start x up made.records o c t T w in
    let played : seen (started o) made.records (answers_after x up made.records) ≡ play (started o) (answers_from (started o) ps) =
    ap (λ (os : List Outcome). seen (started o) made.records os) same ∙ seen_is_play made.records (started o)
    ∙ ap (λ (es : List Event). play (started o) es) made.read in
    record {
      after = made.records;
      written = made.bytes;
      onward =
          ap (λ (os : List Outcome). only_onward made.records os) same ∙ onward_is made.records (started o)
          ∙ ap (λ (es : List Event). run.only_onward (started o) es) made.read ∙ ends.onward;
      all_answered = ap (λ (r : Run). r.answers) played ∙ ends.all_answered;
      rest = ap (λ (r : Run). r.pending) played ∙ ends.rest;
    }

pub recorded_waits_end : RecordedWaitsEnd
recorded_waits_end x up o c t T ps conf w ne pos n room =
    waits_end o c t T ps (starts_is (new_state x) up o c t T w) ne pos (recorded_fits x up o c t T conf w) n room
