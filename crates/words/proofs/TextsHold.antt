-- Proofs of specs/TextLaws.antt. Assumes nothing.
use Rattle.std.proofs.Common.{ℕ, zero, suc, ◌≡◌, ◌+◌, ◌-◌, ◌*◌, ◌≤◌, ◌<◌, Bool, true, false, List, [], ◌∷◌, ◌++◌, length, refl, sym, ap, ◌∙◌, drop, take, arith, nat_eq, nat_lt, replicate, All, ◌≢◌, eqb-true, length-drop, drop-drop, length-append, length-take-le, append-nil, append_assoc}
use Rattle.std.specs.Prelude.{Some, None, Result, Ok, Err, ◌↔◌}
use Rattle.std.proofs.lemmas.Bool.{eqb-false}
use Rattle.std.specs.List.{prefix_len, slice_get}
use Rattle.std.specs.Char.{is_ascii_whitespace}
use Rattle.std.proofs.lemmas.List.Sums.{prefix_len-le-length}
use Rattle.std.proofs.lemmas.List.Elements.{All-append, All-cons, All-head, All-nil, All-tail}
use Rattle.std.proofs.lemmas.Bool.Decides.{nat_tests}
use Rattle.transitions.specs.declared.events.Event.{Event}
use Rattle.transitions.specs.declared.settings.Settings.{Settings}
use Rattle.records.specs.Written.{EventFits, bit, bytes_of, event_record, kind_number, named, settings_record}
use Rattle.words.specs.EventLine.{event_line}
use Rattle.words.specs.Laws.{Right}
use Rattle.words.specs.Lexis.{after_line, after_word, column_of, first_line, from_word, is_inner, trimmed, word}
use Rattle.words.specs.Reading.{behind, line_read, line_record, line_then, lines_of, lines_read, placed, play_read, put_before, record_of, unmarked, whole}
use Rattle.words.specs.SettingsLine.{settings_line}
use Rattle.words.specs.Spelling.{event_text, settings_text}
use Rattle.words.specs.TextLaws.{Cause, Says, TextLaws, Wrong, events_records, events_said, play_records, play_said, said, joined}
use Rattle.words.specs.Tokens.{line_tokens, token_of, tokens_in}
use Rattle.words.specs.declared.fault.Expected.TheVariants as expected
use Rattle.words.specs.declared.fault.Fault.{Fault}
use Rattle.words.specs.declared.fault.WordFault.{WordFault}
use Rattle.words.specs.declared.tokens.Token.{Token}
use Rattle.words.proofs.LawsHold.{laws}
use Rattle.words.proofs.LineLaws.{lines_step, more_lines}

-- Lengths.

long_record : (a b c d t : ℕ) (m : List ℕ) → 20 ≤ length (a ∷ b ∷ c ∷ d ∷ bytes_of 8 t ++ m ++ replicate 8 0)
long_record a b c d t m = let more : length (m ++ replicate 8 0) ≡ length m + 8 = length-append m (replicate 8 0) in omega (arith, more)

pub length_event : (e : Event) → length (event_record e) ≡ 20
length_event e =
    length-take-le 20 (0x4C ∷ 0x45 ∷ kind_number e.kind ∷ bit e.moment.on_off ∷ bytes_of 8 e.moment.at.0 ++ named e.kind ++ replicate 8 0)
    (long_record 0x4C 0x45 (kind_number e.kind) (bit e.moment.on_off) e.moment.at.0 (named e.kind))

pub length_settings : (x : Settings) → length (settings_record x) ≡ 20
length_settings x = refl

length_events : (es : List Event) → length (events_records es) ≡ 20 * length es
length_events [] = omega arith
length_events (e ∷ es) = rw (length-append, length_event, length_events es) (omega arith)

pub length_play : (x : Settings) (es : List Event) → length (play_records x es) ≡ 20 * (1 + length es)
length_play x es = rw (length-append, length_settings, length_events es) (omega arith)

-- Lines said.

said_nil : said [] ≡ []
unfolding said
said_nil = refl

said_none : (l : List ℕ) (ls : List (List ℕ)) → nat_eq (length (line_tokens l)) 0 ≡ true → said (l ∷ ls) ≡ said ls
unfolding said
said_none l ls e = rw e refl

pub said_some : (l : List ℕ) (ls : List (List ℕ)) → nat_eq (length (line_tokens l)) 0 ≡ false → said (l ∷ ls) ≡ line_tokens l ∷ said ls
unfolding said
said_some l ls e = rw e refl

said_by : (l : List ℕ) (front ls : List (List ℕ)) (test : Bool) → nat_eq (length (line_tokens l)) 0 ≡ test → said (front ++ ls) ≡ said front ++ said ls
    → said (l ∷ (front ++ ls)) ≡ said (l ∷ front) ++ said ls
said_by l front ls true e h = rw (said_none l (front ++ ls) e, said_none l front e) h
said_by l front ls false e h = rw (said_some l (front ++ ls) e, said_some l front e) (ap (λ r. line_tokens l ∷ r) h)

said_append : (front ls : List (List ℕ)) → said (front ++ ls) ≡ said front ++ said ls
unfolding said
said_append [] ls = refl
said_append (l ∷ front) ls = said_by l front ls (nat_eq (length (line_tokens l)) 0) refl (said_append front ls)

-- From line to line.

read_none : (before : List ℕ) (n : ℕ) (l : List ℕ) → nat_eq (length (line_tokens l)) 0 ≡ true → line_read before n l ≡ Ok before
unfolding line_read
read_none before n l e = rw e refl

read_some : (before : List ℕ) (n : ℕ) (l : List ℕ) → nat_eq (length (line_tokens l)) 0 ≡ false → line_read before n l ≡ behind before n l (line_record (line_tokens l) (length before))
unfolding line_read
read_some before n l e = rw e refl

-- the reading of what stands behind a line
more_read : ℕ → List ℕ → List (List ℕ) → List ℕ → Result (List ℕ) Fault
more_read n l [] s = whole n l s
more_read n l (m ∷ ls) s = lines_read s (suc n) (m ∷ ls)

read_more : (before : List ℕ) (n : ℕ) (l : List ℕ) (ls : List (List ℕ)) → lines_read before n (l ∷ ls) ≡ line_then (line_read before n l) (more_read n l ls)
unfolding more_read lines_read
read_more before n l [] = refl
read_more before n l (m ∷ ls) = refl

more_same : (n : ℕ) (l m : List ℕ) (ls : List (List ℕ)) (s : List ℕ) → more_read n l (m ∷ ls) s ≡ lines_read s (suc n) (m ∷ ls)
unfolding more_read
more_same n l m ls s = refl

more_behind : (n : ℕ) (l : List ℕ) (ls : List (List ℕ)) (s : List ℕ) → 0 < length s → more_read n l ls s ≡ lines_read s (suc n) ls
unfolding more_read lines_read
more_behind n l [] [] h = absurd (omega (arith, h))
more_behind n l [] (b ∷ s) h = refl
more_behind n l (m ∷ ls) s h = refl

-- a line without a word, or of a record, behind records
steps_on : (before next : List ℕ) (n : ℕ) (l : List ℕ) (ls : List (List ℕ)) → 0 < length next → line_read before n l ≡ Ok next
    → lines_read before n (l ∷ ls) ≡ lines_read next (suc n) ls
steps_on before next n l ls h e = read_more before n l ls ∙ (ap (λ r. line_then r (more_read n l ls)) e ∙ more_behind n l ls next h)

stops : (before : List ℕ) (n : ℕ) (l : List ℕ) (ls : List (List ℕ)) (f : Fault) → line_read before n l ≡ Err f → lines_read before n (l ∷ ls) ≡ Err f
stops before n l ls f e = read_more before n l ls ∙ ap (λ r. line_then r (more_read n l ls)) e

-- The right lines are read as their records.

abbrev told : List ℕ → Result (List ℕ) Fault
told s = Ok s

nil_no_cons : {t : List Token} {ts : List (List Token)} → [] ≡ t ∷ ts → ⊥
nil_no_cons e = absurd cc

cons_no_nil : {t : List Token} {ts : List (List Token)} → t ∷ ts ≡ [] → ⊥
cons_no_nil e = absurd cc

first_said : (t u : List Token) (ts us : List (List Token)) → t ∷ ts ≡ u ∷ us → (t ≡ u) × (ts ≡ us)
first_said t u ts us e = (cc, cc)

room : (before more : ℕ) → before ≡ 20 * (1 + more) → more ≤ 254 → (nat_eq before 0 ≡ false) × (nat_lt 5100 before ≡ false)
room before more e l = (grind (arith, nat_tests, e), grind (arith, nat_tests, e))

event_record_of : (ts : List Token) (before : ℕ) → nat_eq before 0 ≡ false → nat_lt 5100 before ≡ false → line_record ts before ≡ record_of event_record (event_line ts)
event_record_of ts before e f = rw (e, f) refl

event_read : (before : List ℕ) (n : ℕ) (l : List ℕ) (e : Event) (k : ℕ) → length before ≡ 20 * (1 + k) → k ≤ 254 → EventFits e → nat_eq (length (line_tokens l)) 0 ≡ false
    → line_tokens l ≡ line_tokens (event_text e) → line_read before n l ≡ Ok (before ++ event_record e)
event_read before n l e k long few fits some same =
    let r = room (length before) k long few in
    read_some before n l some
    ∙ ap (behind before n l) (event_record_of (line_tokens l) (length before) r.0 r.1 ∙ ap (record_of event_record) ((laws.event_exact l e).1 (fits, same)))

abbrev EventsRead : List (List ℕ) → Type 0
EventsRead ls = (es : List Event) (before : List ℕ) (n k : ℕ) → length before ≡ 20 * (1 + k) → k + length es ≤ 255 → All EventFits es → said ls ≡ events_said es
    → lines_read before n ls ≡ told (before ++ events_records es)

one_event : (l : List ℕ) (ls : List (List ℕ)) → EventsRead ls → nat_eq (length (line_tokens l)) 0 ≡ false → (es : List Event) (before : List ℕ) (n k : ℕ) → length before ≡ 20 * (1 + k)
    → k + length es ≤ 255 → All EventFits es → line_tokens l ∷ said ls ≡ events_said es → lines_read before n (l ∷ ls) ≡ told (before ++ events_records es)
one_event l ls more some [] before n k long few fit same = absurd (cons_no_nil same)
one_event l ls more some (e ∷ es) before n k long few fit same =
    let parts = first_said (line_tokens l) (line_tokens (event_text e)) (said ls) (events_said es) same in
    let longer : length (before ++ event_record e) ≡ 20 * (1 + (k + 1)) = rw (length-append, length_event, long) (omega arith) in
    steps_on before (before ++ event_record e) n l ls (omega (arith, longer)) (event_read before n l e k long (omega (arith, few)) (All-head EventFits e es fit) some parts.0)
    ∙ (more es (before ++ event_record e) (suc n) (k + 1) longer (omega (arith, few)) (All-tail EventFits e es fit) parts.1
    ∙ ap (λ s. told s) (append_assoc before (event_record e) (events_records es)))

events_by : (l : List ℕ) (ls : List (List ℕ)) → EventsRead ls → (test : Bool) → nat_eq (length (line_tokens l)) 0 ≡ test → EventsRead (l ∷ ls)
events_by l ls more true none es before n k long few fit same =
    steps_on before before n l ls (omega (arith, long)) (read_none before n l none) ∙ more es before (suc n) k long few fit (sym (said_none l ls none) ∙ same)
events_by l ls more false some es before n k long few fit same = one_event l ls more some es before n k long few fit (sym (said_some l ls some) ∙ same)

no_events : (es : List Event) (before : List ℕ) → [] ≡ events_said es → told before ≡ told (before ++ events_records es)
no_events [] before e = ap (λ s. told s) (sym (append-nil before))
no_events (e ∷ es) before h = absurd (nil_no_cons h)

events_again : (ls : List (List ℕ)) → EventsRead ls
unfolding said lines_read
events_again [] es before n k long few fit same = no_events es before same
events_again (l ∷ ls) es before n k long few fit same = events_by l ls (events_again ls) (nat_eq (length (line_tokens l)) 0) refl es before n k long few fit same

settings_read : (n : ℕ) (l : List ℕ) (x : Settings) → Right x → nat_eq (length (line_tokens l)) 0 ≡ false → line_tokens l ≡ line_tokens (settings_text x)
    → line_read [] n l ≡ Ok (settings_record x)
settings_read n l x right some same =
    read_some [] n l some ∙ ap (λ r. behind [] n l (record_of settings_record r)) ((laws.settings_exact l x).1 (right, same))

abbrev PlayRead : List (List ℕ) → Type 0
PlayRead ls = (n : ℕ) (x : Settings) (es : List Event) → Right x → All EventFits es → length es ≤ 255 → said ls ≡ play_said x es → lines_read [] n ls ≡ told (play_records x es)

play_by : (l : List ℕ) (ls : List (List ℕ)) → PlayRead ls → (test : Bool) → nat_eq (length (line_tokens l)) 0 ≡ test → PlayRead (l ∷ ls)
play_by l [] more true none n x es right fit few same = absurd (nil_no_cons (sym said_nil ∙ (sym (said_none l [] none) ∙ same)))
play_by l (m ∷ ls) more true none n x es right fit few same =
    read_more [] n l (m ∷ ls) ∙ (ap (λ r. line_then r (more_read n l (m ∷ ls))) (read_none [] n l none)
    ∙ (more_same n l m ls [] ∙ more (suc n) x es right fit few (sym (said_none l (m ∷ ls) none) ∙ same)))
play_by l ls more false some n x es right fit few same =
    let parts = first_said (line_tokens l) (line_tokens (settings_text x)) (said ls) (events_said es) (sym (said_some l ls some) ∙ same) in
    steps_on [] (settings_record x) n l ls (omega (arith, length_settings x)) (settings_read n l x right some parts.0)
    ∙ events_again ls es (settings_record x) (suc n) 0 (length_settings x ∙ omega arith) (omega (arith, few)) fit parts.1

play_again : (ls : List (List ℕ)) → PlayRead ls
unfolding said
play_again [] n x es right fit few same = absurd (nil_no_cons same)
play_again (l ∷ ls) n x es right fit few same = play_by l ls (play_again ls) (nat_eq (length (line_tokens l)) 0) refl n x es right fit few same

-- What comes of lines: they say what is right and are read so, or there is a fault.

data Outcome (lines : List (List ℕ)) (r : Result (List ℕ) Fault) : Type 0 where
  Read : (s : List ℕ) → r ≡ told s → Says lines s → Outcome lines r
  Failed : (f : Fault) → r ≡ Err f → Wrong lines f → Outcome lines r

same_outcome : (lines others : List (List ℕ)) (r q : Result (List ℕ) Fault) → lines ≡ others → q ≡ r → Outcome lines r → Outcome others q
same_outcome lines others r q a b h = rw (← a, b) h

take_front : (front ls : List (List ℕ)) → take (length front) (front ++ ls) ≡ front
take_front [] ls = refl
take_front (l ∷ front) ls = ap (λ r. l ∷ r) (take_front front ls)

line_there : (front : List (List ℕ)) (l : List ℕ) (ls : List (List ℕ)) → slice_get (front ++ l ∷ ls) (length front) ≡ Some l
line_there [] l ls = refl
line_there (m ∷ front) l ls = line_there front l ls

has_word : (l : List ℕ) → nat_eq (length (line_tokens l)) 0 ≡ false → 0 < length (line_tokens l)
has_word l e = grind (arith, nat_tests, e)

said_front : (front : List (List ℕ)) (l : List ℕ) (ls : List (List ℕ)) (ts : List (List Token)) → said front ≡ ts → said (take (length front) (front ++ l ∷ ls)) ≡ ts
said_front front l ls ts h = ap said (take_front front (l ∷ ls)) ∙ h

wrong_here : (front : List (List ℕ)) (l : List ℕ) (ls : List (List ℕ)) (n : ℕ) (f : WordFault) → n ≡ length front + 1
    → Cause (front ++ l ∷ ls) (length front) l f.word f.expected → Wrong (front ++ l ∷ ls) (placed n l f)
wrong_here front l ls n f h cause = record { index = length front; line = l; there = line_there front l ls; number = h; at = f.word; column = refl; cause = cause }

one_more : (front : List (List ℕ)) (l : List ℕ) (n : ℕ) → n ≡ length front + 1 → suc n ≡ length (front ++ l ∷ []) + 1
one_more front l n h = rw (length-append, h) (omega arith)

said_further : (front : List (List ℕ)) (l : List ℕ) → nat_eq (length (line_tokens l)) 0 ≡ true → said (front ++ l ∷ []) ≡ said front
said_further front l none = said_append front (l ∷ []) ∙ (ap (λ r. said front ++ r) (said_none l [] none ∙ said_nil) ∙ append-nil (said front))

said_one : (front : List (List ℕ)) (l : List ℕ) → nat_eq (length (line_tokens l)) 0 ≡ false → said (front ++ l ∷ []) ≡ said front ++ line_tokens l ∷ []
said_one front l some = said_append front (l ∷ []) ∙ ap (λ r. said front ++ r) (said_some l [] some ∙ ap (λ r. line_tokens l ∷ r) said_nil)

-- Events, one more behind others.

events_said_more : (es : List Event) (e : Event) → events_said es ++ line_tokens (event_text e) ∷ [] ≡ events_said (es ++ e ∷ [])
events_said_more [] e = refl
events_said_more (d ∷ es) e = ap (λ r. line_tokens (event_text d) ∷ r) (events_said_more es e)

events_records_more : (es : List Event) (e : Event) → events_records es ++ event_record e ≡ events_records (es ++ e ∷ [])
events_records_more [] e = sym (append-nil (event_record e))
events_records_more (d ∷ es) e = append_assoc (event_record d) (events_records es) (event_record e) ∙ ap (λ r. event_record d ++ r) (events_records_more es e)

play_records_more : (x : Settings) (es : List Event) (e : Event) → play_records x es ++ event_record e ≡ play_records x (es ++ e ∷ [])
play_records_more x es e = append_assoc (settings_record x) (events_records es) (event_record e) ∙ ap (λ r. settings_record x ++ r) (events_records_more es e)

said_event : (front : List (List ℕ)) (l : List ℕ) (x : Settings) (es : List Event) (e : Event) → nat_eq (length (line_tokens l)) 0 ≡ false → said front ≡ play_said x es
    → line_tokens l ≡ line_tokens (event_text e) → said (front ++ l ∷ []) ≡ play_said x (es ++ e ∷ [])
said_event front l x es e some h same =
    said_one front l some ∙ (ap (λ r. r ++ line_tokens l ∷ []) h ∙ (ap (λ t. play_said x es ++ t ∷ []) same ∙ ap (λ r. line_tokens (settings_text x) ∷ r) (events_said_more es e)))

-- Behind settings.

abbrev EventsOutcome : List (List ℕ) → Type 0
EventsOutcome ls = (front : List (List ℕ)) (n : ℕ) (x : Settings) (es : List Event) → n ≡ length front + 1 → Right x → All EventFits es → length es ≤ 255
    → said front ≡ play_said x es → Outcome (front ++ ls) (lines_read (play_records x es) n ls)

full : (k : ℕ) → k ≤ 255 → nat_lt 5100 (20 * (1 + k)) ≡ true → k ≡ 255
full k l e = grind (arith, nat_tests, e)

not_full : (k : ℕ) → k ≤ 255 → nat_lt 5100 (20 * (1 + k)) ≡ false → k ≤ 254
not_full k l e = grind (arith, nat_tests, e)

not_first : (k : ℕ) → nat_eq (20 * (1 + k)) 0 ≡ false
not_first k = grind (arith, nat_tests)

module _ (l : List ℕ) (ls : List (List ℕ)) (some : nat_eq (length (line_tokens l)) 0 ≡ false) (more : EventsOutcome ls) (front : List (List ℕ)) (n : ℕ) (x : Settings) (es : List Event)
    (number : n ≡ length front + 1) (right : Right x) (fit : All EventFits es) (few : length es ≤ 255) (h : said front ≡ play_said x es) where
  failing : (f : WordFault) → line_record (line_tokens l) (length (play_records x es)) ≡ Err f → lines_read (play_records x es) n (l ∷ ls) ≡ Err (placed n l f)
  failing f e = stops (play_records x es) n l ls (placed n l f) (read_some (play_records x es) n l some ∙ ap (behind (play_records x es) n l) e)

  is_full : nat_lt 5100 (20 * (1 + length es)) ≡ true → Outcome (front ++ l ∷ ls) (lines_read (play_records x es) n (l ∷ ls))
  is_full e =
      let f : WordFault = record { word = 0; expected = expected.NoMoreEvents } in
      Failed (placed n l f) (failing f (rw (length_play x es, not_first (length es), e) refl))
      (wrong_here front l ls n f number (Cause.TooMany x es right fit (full (length es) few e) (has_word l some) (said_front front l ls (play_said x es) h) refl refl))

  has_room : nat_lt 5100 (20 * (1 + length es)) ≡ false → (r : Result Event WordFault) → event_line (line_tokens l) ≡ r → Outcome (front ++ l ∷ ls) (lines_read (play_records x es) n (l ∷ ls))
  has_room e (Err f) g =
      Failed (placed n l f) (failing f (rw (length_play x es, not_first (length es), e, g) refl))
      (wrong_here front l ls n f number (Cause.NoRightEvent x es right fit (not_full (length es) few e) (has_word l some) (said_front front l ls (play_said x es) h) g))
  has_room e (Ok d) g =
      let exact = (laws.event_exact l d).0 g in
      let least : length es ≤ 254 = not_full (length es) few e in
      let read = event_read (play_records x es) n l d (length es) (length_play x es) least exact.0 some exact.1 ∙ ap (λ s. told s) (play_records_more x es d) in
      let long : length (es ++ d ∷ []) ≤ 255 = rw length-append (omega (arith, least)) in
      same_outcome ((front ++ l ∷ []) ++ ls) (front ++ l ∷ ls) (lines_read (play_records x (es ++ d ∷ [])) (suc n) ls) (lines_read (play_records x es) n (l ∷ ls))
      (append_assoc front (l ∷ []) ls)
      (steps_on (play_records x es) (play_records x (es ++ d ∷ [])) n l ls (omega (arith, length_play x (es ++ d ∷ []))) read)
      (more (front ++ l ∷ []) (suc n) x (es ++ d ∷ []) (one_more front l n number) right (All-append EventFits es (d ∷ []) fit (All-cons EventFits d [] exact.0 (All-nil EventFits))) long
      (said_event front l x es d some h exact.1))

  by_room : (test : Bool) → nat_lt 5100 (20 * (1 + length es)) ≡ test → Outcome (front ++ l ∷ ls) (lines_read (play_records x es) n (l ∷ ls))
  by_room true e = is_full e
  by_room false e = has_room e (event_line (line_tokens l)) refl

events_outcome_by : (l : List ℕ) (ls : List (List ℕ)) → EventsOutcome ls → (test : Bool) → nat_eq (length (line_tokens l)) 0 ≡ test → EventsOutcome (l ∷ ls)
events_outcome_by l ls more true none front n x es number right fit few h =
    same_outcome ((front ++ l ∷ []) ++ ls) (front ++ l ∷ ls) (lines_read (play_records x es) (suc n) ls) (lines_read (play_records x es) n (l ∷ ls))
    (append_assoc front (l ∷ []) ls)
    (steps_on (play_records x es) (play_records x es) n l ls (omega (arith, length_play x es)) (read_none (play_records x es) n l none))
    (more (front ++ l ∷ []) (suc n) x es (one_more front l n number) right fit few (said_further front l none ∙ h))
events_outcome_by l ls more false some front n x es number right fit few h =
    by_room l ls some more front n x es number right fit few h (nat_lt 5100 (20 * (1 + length es))) refl

events_outcome : (ls : List (List ℕ)) → EventsOutcome ls
unfolding lines_read
events_outcome [] front n x es number right fit few h =
    Read (play_records x es) refl (record { settings = x; events = es; right = right; fit = fit; few = few; tokens = ap said (append-nil front) ∙ h; written = refl })
events_outcome (l ∷ ls) front n x es number right fit few h =
    events_outcome_by l ls (events_outcome ls) (nat_eq (length (line_tokens l)) 0) refl front n x es number right fit few h

-- From the first line on.

abbrev LinesOutcome : List (List ℕ) → Type 0
LinesOutcome ls = (l : List ℕ) (front : List (List ℕ)) (n : ℕ) → n ≡ length front + 1 → said front ≡ [] → Outcome (front ++ l ∷ ls) (lines_read [] n (l ∷ ls))

none_missing : (l : List ℕ) (front : List (List ℕ)) (n : ℕ) → n ≡ length front + 1 → said front ≡ [] → nat_eq (length (line_tokens l)) 0 ≡ true
    → Outcome (front ++ l ∷ []) (lines_read [] n (l ∷ []))
unfolding more_read
none_missing l front n number h none =
    let f : WordFault = record { word = 0; expected = expected.Settings } in
    Failed (placed n l f) (read_more [] n l [] ∙ ap (λ r. line_then r (more_read n l [])) (read_none [] n l none))
    (wrong_here front l [] n f number (Cause.NoSettings (said_further front l none ∙ h) (rw length-append (omega arith)) refl refl))

first_by : (l : List ℕ) (ls front : List (List ℕ)) (n : ℕ) → n ≡ length front + 1 → said front ≡ [] → nat_eq (length (line_tokens l)) 0 ≡ false
    → (r : Result Settings WordFault) → settings_line (line_tokens l) ≡ r → Outcome (front ++ l ∷ ls) (lines_read [] n (l ∷ ls))
first_by l ls front n number h some (Err f) g =
    Failed (placed n l f) (stops [] n l ls (placed n l f) (read_some [] n l some ∙ ap (λ r. behind [] n l (record_of settings_record r)) g))
    (wrong_here front l ls n f number (Cause.NoRightSettings (has_word l some) (said_front front l ls [] h) g))
first_by l ls front n number h some (Ok x) g =
    let exact = (laws.settings_exact l x).0 g in
    let said_all : said (front ++ l ∷ []) ≡ play_said x [] = said_one front l some ∙ (ap (λ r. r ++ line_tokens l ∷ []) h ∙ ap (λ t. t ∷ []) exact.1) in
    same_outcome ((front ++ l ∷ []) ++ ls) (front ++ l ∷ ls) (lines_read (play_records x []) (suc n) ls) (lines_read [] n (l ∷ ls))
    (append_assoc front (l ∷ []) ls)
    (steps_on [] (play_records x []) n l ls (omega (arith, length_play x [])) (settings_read n l x exact.0 some exact.1))
    (events_outcome ls (front ++ l ∷ []) (suc n) x [] (one_more front l n number) exact.0 (All-nil EventFits) (omega arith) said_all)

lines_by : (ls : List (List ℕ)) → LinesOutcome ls → (l m : List ℕ) (front : List (List ℕ)) (n : ℕ) → n ≡ length front + 1 → said front ≡ []
    → (test : Bool) → nat_eq (length (line_tokens l)) 0 ≡ test → Outcome (front ++ l ∷ (m ∷ ls)) (lines_read [] n (l ∷ (m ∷ ls)))
lines_by ls more l m front n number h true none =
    same_outcome ((front ++ l ∷ []) ++ m ∷ ls) (front ++ l ∷ (m ∷ ls)) (lines_read [] (suc n) (m ∷ ls)) (lines_read [] n (l ∷ (m ∷ ls)))
    (append_assoc front (l ∷ []) (m ∷ ls))
    (read_more [] n l (m ∷ ls) ∙ (ap (λ r. line_then r (more_read n l (m ∷ ls))) (read_none [] n l none) ∙ more_same n l m ls []))
    (more m (front ++ l ∷ []) (suc n) (one_more front l n number) (said_further front l none ∙ h))
lines_by ls more l m front n number h false some = first_by l (m ∷ ls) front n number h some (settings_line (line_tokens l)) refl

last_by : (l : List ℕ) (front : List (List ℕ)) (n : ℕ) → n ≡ length front + 1 → said front ≡ []
    → (test : Bool) → nat_eq (length (line_tokens l)) 0 ≡ test → Outcome (front ++ l ∷ []) (lines_read [] n (l ∷ []))
last_by l front n number h true none = none_missing l front n number h none
last_by l front n number h false some = first_by l [] front n number h some (settings_line (line_tokens l)) refl

lines_outcome : (ls : List (List ℕ)) → LinesOutcome ls
lines_outcome [] l front n number h = last_by l front n number h (nat_eq (length (line_tokens l)) 0) refl
lines_outcome (m ∷ ls) l front n number h = lines_by ls (lines_outcome ls) l m front n number h (nat_eq (length (line_tokens l)) 0) refl

-- Of whole texts.

text_outcome : (text : List ℕ) → Outcome (lines_of text) (lines_read [] 1 (lines_of text))
text_outcome text =
    let lines : List (List ℕ) = first_line text ∷ more_lines (after_line text) in
    same_outcome lines (lines_of text) (lines_read [] 1 lines) (lines_read [] 1 (lines_of text)) (sym (lines_step text)) (ap (lines_read [] 1) (lines_step text))
    (lines_outcome (more_lines (after_line text)) (first_line text) [] 1 (omega arith) said_nil)

told_is : (s t : List ℕ) → told s ≡ told t → s ≡ t
told_is s t e = cc

abbrev missed : Fault → Result (List ℕ) Fault
missed f = Err f

fault_is : (f g : Fault) → missed f ≡ missed g → f ≡ g
fault_is f g e = cc

told_no_fault : {s : List ℕ} {f : Fault} → told s ≡ Err f → ⊥
told_no_fault e = absurd cc

says_of : (lines : List (List ℕ)) (r : Result (List ℕ) Fault) (s : List ℕ) → Outcome lines r → r ≡ told s → Says lines s
says_of lines r s (Read t e says) h = let same : t ≡ s = told_is t s (sym e ∙ h) in rw (← same) says
says_of lines r s (Failed f e wrong) h = absurd (told_no_fault (sym h ∙ e))

wrong_of : (lines : List (List ℕ)) (r : Result (List ℕ) Fault) (f : Fault) → Outcome lines r → r ≡ Err f → Wrong lines f
wrong_of lines r f (Read t e says) h = absurd (told_no_fault (sym e ∙ h))
wrong_of lines r f (Failed g e wrong) h = let same : g ≡ f = fault_is g f (sym e ∙ h) in rw (← same) wrong

text_exact : (text s : List ℕ) → (play_read text ≡ Ok s) ↔ Says (lines_of (unmarked text)) s
unfolding play_read
text_exact text s =
    let lines : List (List ℕ) = lines_of (unmarked text) in (
      λ e. says_of lines (lines_read [] 1 lines) s (text_outcome (unmarked text)) e,
      λ h. play_again lines 1 h.settings h.events h.right h.fit h.few h.tokens ∙ ap (λ s. told s) (sym h.written),
    )

text_length : (text s : List ℕ) → play_read text ≡ Ok s → (n : ℕ) × (n ≤ 255) × (length s ≡ 20 * (1 + n))
text_length text s e = let h = (text_exact text s).0 e in (length h.events, h.few, ap length h.written ∙ length_play h.settings h.events)

text_fault : (text : List ℕ) (f : Fault) → play_read text ≡ Err f → Wrong (lines_of (unmarked text)) f
unfolding play_read
text_fault text f e = let lines : List (List ℕ) = lines_of (unmarked text) in wrong_of lines (lines_read [] 1 lines) f (text_outcome (unmarked text)) e

-- Columns.

trimmed_white : (b : ℕ) (s : List ℕ) → is_ascii_whitespace b ≡ true → trimmed (b ∷ s) ≡ trimmed s
trimmed_white b s e = let next : 1 + prefix_len is_ascii_whitespace s ≡ suc (prefix_len is_ascii_whitespace s) = omega arith in rw (e, next) refl

trimmed_other : (b : ℕ) (s : List ℕ) → is_ascii_whitespace b ≡ false → trimmed (b ∷ s) ≡ b ∷ s
trimmed_other b s e = rw e refl

trimmed_by : (b : ℕ) (s : List ℕ) (test : Bool) → is_ascii_whitespace b ≡ test → trimmed (trimmed s) ≡ trimmed s → trimmed (trimmed (b ∷ s)) ≡ trimmed (b ∷ s)
trimmed_by b s true e h = ap (λ r. trimmed r) (trimmed_white b s e) ∙ (h ∙ sym (trimmed_white b s e))
trimmed_by b s false e h = ap (λ r. trimmed r) (trimmed_other b s e)

trimmed_again : (s : List ℕ) → trimmed (trimmed s) ≡ trimmed s
trimmed_again [] = refl
trimmed_again (b ∷ s) = trimmed_by b s (is_ascii_whitespace b) refl (trimmed_again s)

column_bare : (line : List ℕ) (n : ℕ) → trimmed (from_word n line) ≡ from_word n line
unfolding from_word
column_bare line zero = trimmed_again line
column_bare line (suc n) = column_bare (after_word line) n

-- t stands at the end of s
abbrev EndOf : List ℕ → List ℕ → Type 0
EndOf s t = (k : ℕ) × (k ≤ length s) × (t ≡ drop k s)

end_of_end : (s t u : List ℕ) → EndOf s t → EndOf t u → EndOf s u
end_of_end s t u a b =
    let l : length t ≡ length s - a.0 = ap length a.2 ∙ length-drop a.0 s in
    let short = b.1 in
    (a.0 + b.0, omega (arith, a.1, l, short), b.2 ∙ (ap (drop b.0) a.2 ∙ drop-drop b.0 a.0 s))

past_some : (p : ℕ → Bool) (s : List ℕ) → EndOf s (drop (prefix_len p s) s)
past_some p s = (prefix_len p s, prefix_len-le-length p s, refl)

word_end : (n : ℕ) (s : List ℕ) → EndOf s (from_word n s)
unfolding from_word
word_end zero s = past_some is_ascii_whitespace s
word_end (suc n) s =
    end_of_end s (after_word s) (from_word n (after_word s)) (end_of_end s (trimmed s) (after_word s) (past_some is_ascii_whitespace s) (past_some is_inner (trimmed s)))
    (word_end n (after_word s))

column_place : (line : List ℕ) (n : ℕ) → drop (column_of line n - 1) line ≡ from_word n line
column_place line n =
    let e = word_end n line in
    let l : length (from_word n line) ≡ length line - e.0 = ap length e.2 ∙ length-drop e.0 line in
    let at : column_of line n - 1 ≡ e.0 = omega (arith, e.1, l) in
    ap (λ k. drop k line) at ∙ sym e.2

none_no_some : {t : Token} → None ≡ Some t → ⊥
none_no_some e = absurd cc

some_is : (t u : Token) → Some t ≡ Some u → t ≡ u
some_is t u e = cc

no_tokens : (n : ℕ) (t : Token) → slice_get [] n ≡ Some t → ⊥
no_tokens n t e = none_no_some e

abbrev TokenAt : ℕ → List ℕ → Type 0
TokenAt m s = (n : ℕ) (t : Token) → slice_get (tokens_in m s) n ≡ Some t → token_of (word (from_word n s)) ≡ t

token_by : (m : ℕ) (s : List ℕ) → TokenAt m (after_word s) → (test : Bool) → nat_eq (length (word s)) 0 ≡ test → TokenAt (suc m) s
unfolding tokens_in from_word
token_by m s more true e n t h = absurd (no_tokens n t (rw e at h))
token_by m s more false e zero t h = ap (λ r. token_of (take (prefix_len is_inner r) r)) (trimmed_again s) ∙ some_is (token_of (word s)) t (rw e at h)
token_by m s more false e (suc n) t h = more n t (rw e at h)

token_at : (m : ℕ) (s : List ℕ) → TokenAt m s
unfolding tokens_in
token_at zero s n t h = absurd (no_tokens n t h)
token_at (suc m) s n t h = token_by m s (token_at m (after_word s)) (nat_eq (length (word s)) 0) refl n t h

column_word : (line : List ℕ) (n : ℕ) (t : Token) → slice_get (line_tokens line) n ≡ Some t → token_of (word (drop (column_of line n - 1) line)) ≡ t
column_word line n t h = ap (λ r. token_of (word r)) (column_place line n) ∙ token_at 32 line n t h

-- Lines.

joined_before : (b : ℕ) (l : List ℕ) (ls : List (List ℕ)) → joined (put_before b (l ∷ ls)) ≡ b ∷ joined (l ∷ ls)
joined_before b l [] = refl
joined_before b l (m ∷ ls) = refl

joined_by : (b : ℕ) (s : List ℕ) (test : Bool) → nat_eq b 10 ≡ test → joined (lines_of s) ≡ s → joined (lines_of (b ∷ s)) ≡ b ∷ s
unfolding lines_of
joined_by b s true e h =
    let feed : b ≡ 10 = eqb-true b 10 e in
    rw (e, lines_step s) (ap (λ r. 10 ∷ r) (sym (ap (λ ls. joined ls) (lines_step s)) ∙ h) ∙ ap (λ c. c ∷ s) (sym feed))
joined_by b s false e h =
    rw (e, lines_step s) (joined_before b (first_line s) (more_lines (after_line s)) ∙ ap (λ r. b ∷ r) (sym (ap (λ ls. joined ls) (lines_step s)) ∙ h))

lines_joined : (text : List ℕ) → joined (lines_of text) ≡ text
unfolding lines_of
lines_joined [] = refl
lines_joined (b ∷ s) = joined_by b s (nat_eq b 10) refl (lines_joined s)

abbrev Bare : List ℕ → Type 0
Bare line = All (λ b. b ≢ 10) line

bare_before : (b : ℕ) → b ≢ 10 → (ls : List (List ℕ)) → All Bare ls → All Bare (put_before b ls)
bare_before b other [] h = All-cons Bare (b ∷ []) [] (All-cons (λ b. b ≢ 10) b [] other (All-nil (λ b. b ≢ 10))) h
bare_before b other (l ∷ ls) h = All-cons Bare (b ∷ l) ls (All-cons (λ b. b ≢ 10) b l other (All-head Bare l ls h)) (All-tail Bare l ls h)

bare_by : (b : ℕ) (s : List ℕ) (test : Bool) → nat_eq b 10 ≡ test → All Bare (lines_of s) → All Bare (lines_of (b ∷ s))
unfolding lines_of
bare_by b s true e h = rw e (All-cons Bare [] (lines_of s) (All-nil (λ b. b ≢ 10)) h)
bare_by b s false e h = rw e (bare_before b (eqb-false b 10 e) (lines_of s) h)

lines_bare : (text : List ℕ) → All Bare (lines_of text)
unfolding lines_of
lines_bare [] = All-cons Bare [] [] (All-nil (λ b. b ≢ 10)) (All-nil Bare)
lines_bare (b ∷ s) = bare_by b s (nat_eq b 10) refl (lines_bare s)

pub text_laws : TextLaws
text_laws = record {
  text_exact = text_exact;
  text_length = text_length;
  text_fault = text_fault;
  column_place = column_place;
  column_word = column_word;
  column_bare = column_bare;
  lines_joined = lines_joined;
  lines_bare = lines_bare;
}
