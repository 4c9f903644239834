-- The wakes and answers by which a fade goes on, written as records. Assumes nothing.
use Prim.Native.Nat.{ℕ, zero, suc, ◌/◌, ◌^◌, ◌≤◌, ◌<◌}
use mathlib.Core.Bool.{Bool, true, false}
use mathlib.Core.Path.{◌≡◌, refl, ap, ◌∙◌}
use mathlib.Core.List.{List, [], ◌∷◌, ◌++◌}
use native.Mathlib.Omega.{arith}
use borrow.Author.Tests.{leb-true}
use lib.Dec.{leb}
use lib.ListN.{take, drop, replicate}
use Rattle.std.proofs.lemmas.Bool.{and_parts}
use Rattle.transitions.specs.declared.events.DeviceAnswer.TheVariants as device
use Rattle.transitions.specs.declared.events.Event.{Event}
use Rattle.transitions.specs.declared.events.EventKind.{EventKind}
use Rattle.transitions.specs.declared.events.EventKind.TheVariants as kind
use Rattle.transitions.specs.declared.tasks.Phase.{Phase}
use Rattle.transitions.specs.declared.tasks.Phase.TheVariants.{Asked, Waiting}
use Rattle.transitions.specs.declared.tasks.Task.{Task}
use Rattle.transitions.specs.declared.tasks.Task.TheVariants as task
use Rattle.records.specs.Laws.{AllBytes}
use Rattle.records.specs.Written.{bit, kind_number, named, event_record, KindFits, EventFits}
use Rattle.records.specs.Written as written
use Rattle.records.proofs.LayoutLaws.{◌also◌}
use Rattle.records.proofs.WrittenLaws.{event_written}
use Rattle.level_control.specs.Judge.{latest}
use Rattle.level_control.specs.Run.{Run, next, play}
use Rattle.level_control.specs.declared.state.LevelControlState.{LevelControlState}
use Rattle.level_theorems.specs.Replies.{Reply, wake_in, wake_of, wakes, replies, answers_from, in_time}
use Rattle.record_theorems.specs.RecordPlays.{Record, all_bytes}
use Rattle.record_theorems.specs.RecordTheorems.{written_records, ByteReplies}
use Rattle.record_theorems.proofs.RecordRuns.{event_in, events_of}

-- Lists of bytes.

pub all_take : (k : ℕ) (s : List ℕ) → AllBytes s → AllBytes (take k s)
all_take zero s a = tt
all_take (suc k) [] a = tt
all_take (suc k) (b ∷ s) a = (a.0, all_take k s a.1)

pub all_drop : (k : ℕ) (s : List ℕ) → AllBytes s → AllBytes (drop k s)
all_drop zero s a = a
all_drop (suc k) [] a = tt
all_drop (suc k) (b ∷ s) a = all_drop k s a.1

all_both : (s t : List ℕ) → AllBytes s → AllBytes t → AllBytes (s ++ t)
all_both [] t a b = b
all_both (x ∷ s) t a b = (a.0, all_both s t a.1 b)

number_bytes : (n x : ℕ) → AllBytes (written.bytes_of n x)
number_bytes zero x = tt
number_bytes (suc n) x = (omega arith, number_bytes n (x / 256))

zero_bytes : (n : ℕ) → AllBytes (replicate n 0)
zero_bytes zero = tt
zero_bytes (suc n) = (omega arith, zero_bytes n)

small : (n : ℕ) → n < 256 → n < 256
small n h = h

bit_byte : (b : Bool) → bit b < 256
bit_byte true = omega arith
bit_byte false = omega arith

-- a wake, or an answer with a level that is a byte
data Plain : EventKind → Type 0 where
  wake : Plain kind.Wake
  level : {v : ℕ} → v < 2 ^ 8 → Plain (kind.Answer (device.Level v))

abbrev AllPlain : List Event → Type 0
AllPlain [] = Unit {0}
AllPlain (e ∷ es) = Plain e.kind × AllPlain es

plain_fits : (k : EventKind) → Plain k → KindFits k
plain_fits _ wake = tt
plain_fits _ (level h) = h

kind_byte : (k : EventKind) → Plain k → kind_number k < 256
kind_byte _ wake = omega arith
kind_byte _ (level h) = omega arith

named_bytes : (k : EventKind) → Plain k → AllBytes (named k)
named_bytes _ wake = tt
named_bytes _ (level h) = (omega arith, (omega arith, tt))

record_bytes : (e : Event) → Plain e.kind → AllBytes (event_record e)
record_bytes e p =
    all_take 20 (0x4C ∷ 0x45 ∷ kind_number e.kind ∷ bit e.moment.on_off ∷ written.bytes_of 8 e.moment.at.0 ++ named e.kind ++ replicate 8 0)
    (small 0x4C (omega arith) also small 0x45 (omega arith) also kind_byte e.kind p also bit_byte e.moment.on_off
    also all_both (written.bytes_of 8 e.moment.at.0) (named e.kind ++ replicate 8 0) (number_bytes 8 e.moment.at.0)
    (all_both (named e.kind) (replicate 8 0) (named_bytes e.kind p) (zero_bytes 8)))

-- events as records, from which they are read again
pub record Written (es : List Event) : Type 0 where
  pub records : List Record
  pub bytes : all_bytes records ≡ written_records es
  pub read : events_of records ≡ es

write : (es : List Event) → AllPlain es → in_time es ≡ true → Written es
write [] p h = record { records = []; bytes = refl; read = refl }
write (e ∷ es) p h =
    let soon : e.moment.at.0 ≤ latest.0 = leb-true e.moment.at.0 latest.0 (and_parts (leb e.moment.at.0 latest.0) (in_time es) h).0 in
    let fits : EventFits e = record { time = omega arith; kind = plain_fits e.kind p.0 } in
    let rest : Written es = write es p.1 (and_parts (leb e.moment.at.0 latest.0) (in_time es) h).1 in
    record {
      records = record { bytes = event_record e; small = record_bytes e p.0 } ∷ rest.records;
      bytes = ap (λ (l : List (List ℕ)). event_record e ∷ l) rest.bytes;
      read = ap (λ x. event_in x (events_of rest.records)) (event_written e fits) ∙ ap (λ (l : List Event). e ∷ l) rest.read;
    }

-- The wakes and answers of a fade.

plain_both : (es ds : List Event) → AllPlain es → AllPlain ds → AllPlain (es ++ ds)
plain_both [] ds p q = q
plain_both (e ∷ es) ds p q = (p.0, plain_both es ds p.1 q)

wakes_plain : (s : LevelControlState) (p : Reply) → AllPlain (wakes s p)
wakes_plain s p = by s.task
  where
    phase : (q : Phase) → AllPlain (wake_in q s p.on)
    phase (Asked since) = tt
    phase (Waiting until) = (wake, tt)

    by : (x : Task) → AllPlain (wake_of x s p.on)
    by task.Rest = tt
    by task.StartUp = tt
    by (task.Fade f) = phase f.phase
    by (task.Move m) = phase m.phase
    by (task.OnReaction r) = tt

answers_plain : (ps : List Reply) (r : Run) → ByteReplies ps → AllPlain (answers_from r ps)
answers_plain [] r h = tt
answers_plain (p ∷ ps) r h =
    plain_both (wakes r.state p) _ (wakes_plain r.state p) (level h.0, answers_plain ps (next (play r (wakes r.state p)) (replies (play r (wakes r.state p)).state p)) h.1)

pub write_answers : (ps : List Reply) (r : Run) → ByteReplies ps → in_time (answers_from r ps) ≡ true → Written (answers_from r ps)
write_answers ps r h time = write (answers_from r ps) (answers_plain ps r h) time
