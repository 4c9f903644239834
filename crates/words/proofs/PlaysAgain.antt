-- The one text of right records is read, and what is read has the same text again. Assumes nothing.
use Rattle.std.proofs.Common.{ℕ, zero, suc, ◌≡◌, ◌+◌, ◌-◌, ◌*◌, ◌/◌, ◌≤◌, Bool, true, false, if◌then◌else◌, nat_eq, List, [], ◌∷◌, ◌++◌, length, take, drop, All, refl, sym, ap, ◌∙◌, arith, append_assoc, append-nil, take_at, drop_at, length-drop, length-append}
use Rattle.std.specs.Prelude.{Option, Some, None, Result, Ok, Err}
use Rattle.std.specs.List.{list_all}
use Rattle.std.proofs.Math.Dec.{eqb-suc-zero}
use Rattle.std.proofs.lemmas.Bool.Decides.{nat_tests}
use Rattle.std.proofs.lemmas.List.Elements.{All-cons, All-head, All-nil, All-tail}
use Rattle.transitions.specs.declared.events.Event.{Event}
use Rattle.transitions.specs.declared.settings.Settings.{Settings}
use Rattle.records.specs.EventRecord.{event_read}
use Rattle.records.specs.Laws.{AllBytes}
use Rattle.records.specs.SettingsRecord.{settings_read}
use Rattle.records.specs.Written.{EventFits, SettingsFit, event_record, settings_record}
use Rattle.records.specs.declared.refusal.RecordRefusal.{RecordRefusal}
use Rattle.records.proofs.FitLaws.{event_fits, settings_fit}
use Rattle.records.proofs.WrittenLaws.{event_written, settings_written}
use Rattle.words.specs.Laws.{Right}
use Rattle.words.specs.Lexis.{is_inner}
use Rattle.words.specs.Names.{name_text}
use Rattle.words.specs.Reading.{lines_of, play_read, put_before, unmarked}
use Rattle.words.specs.Spelling.{event_text, kind_words, micros_text, on_off_name, setting_text, settings_text, spaced}
use Rattle.words.specs.TextLaws.{events_records, events_said, play_records, play_said, said}
use Rattle.words.specs.Tokens.{line_tokens, tokens_in}
use Rattle.words.specs.Writing.{event_records, length_ok, play_text, records_of, text_then, with_event, with_events, with_line, with_settings}
use Rattle.words.specs.declared.names.Name.TheVariants as name
use Rattle.words.specs.declared.tokens.Token.{Token}
use Rattle.words.specs.declared.tokens.Token.TheVariants as token
use Rattle.words.specs.declared.writing.WrongRecord.{WrongRecord}
use Rattle.words.specs.declared.writing.WrongRecord.TheVariants as wrong
use Rattle.words.proofs.SpellingLaws.{byte_said, event_said, flag_said, kind_said, micros_give, named_said, positive_byte_said, positive_time_said, settings_said, time_said}
use Rattle.words.proofs.TextsHold.{length_event, length_play, length_settings, said_some, text_laws}
use Rattle.words.proofs.WordsRead.{Each, Gives, Say, both, is_word}
use Rattle.words.proofs.WordTokens.{name_gives}
use Rattle.words.proofs.WritingLaws.{ends, goes_on}

-- A line's text has no line feed.

abbrev Bare : List ℕ → Type 0
Bare [] = Unit {0}
Bare (b ∷ s) = (nat_eq b 10 ≡ false) × Bare s

record IsBare (s : List ℕ) : Type 0 where
  bare : Bare s

bare_append : (s t : List ℕ) → Bare s → Bare t → Bare (s ++ t)
bare_append [] t p q = q
bare_append (b ∷ s) t p q = (p.0, bare_append s t p.1 q)

inner_other : (b : ℕ) → is_inner b ≡ true → nat_eq b 10 ≡ false
inner_other b i = grind (arith, nat_tests, i)

bare_inner : (w : List ℕ) → list_all is_inner w ≡ true → Bare w
bare_inner [] i = tt
bare_inner (b ∷ w) i = let h = both (is_inner b) (list_all is_inner w) i in (inner_other b h.0, bare_inner w h.1)

bare_word : (w : List ℕ) → is_word w ≡ true → Bare w
bare_word [] h = tt
bare_word (b ∷ w) h = bare_inner (b ∷ w) h

bare_spaced : (ws : List (List ℕ)) (ts : List Token) → Each ws ts → Bare (spaced ws)
bare_spaced [] ts e = tt
bare_spaced (w ∷ ws) [] e = absurd e
bare_spaced (w ∷ ws) (t ∷ ts) e = (refl, bare_append w (spaced ws) (bare_word w e.0.word) (bare_spaced ws ts e.1))

bare_setting : (ws : List (List ℕ)) (ts : List Token) → Each ws ts → Bare (setting_text ws)
bare_setting [] ts e = tt
bare_setting (w ∷ ws) ts e = (refl, bare_spaced (w ∷ ws) ts e)

bare_first : {w : List ℕ} {t : Token} {rest : List ℕ} → Gives w t → IsBare rest → IsBare (w ++ rest)
bare_first {w = w} {rest = rest} g r = record { bare = bare_append w rest (bare_word w g.word) r.bare }

bare_more : {m : ℕ} {ws : List (List ℕ)} {ts : List Token} {rest : List ℕ} → Say m ws ts → IsBare rest → IsBare (setting_text ws ++ rest)
bare_more {ws = ws} {ts = ts} {rest = rest} p r = record { bare = bare_append (setting_text ws) rest (bare_setting ws ts p.each) r.bare }

bare_last : {m : ℕ} {ws : List (List ℕ)} {ts : List Token} → Say m ws ts → IsBare (setting_text ws)
bare_last {ws = ws} {ts = ts} p = record { bare = bare_setting ws ts p.each }

event_bare : (e : Event) → EventFits e → Bare (event_text e)
event_bare e h =
    let on_off : List (List ℕ) = name_text (on_off_name e.moment.on_off) ∷ [] in
    let kind : List (List ℕ) = kind_words e.kind in
    bare_append (micros_text e.moment.at) (32 ∷ (spaced on_off ++ (32 ∷ spaced kind))) (bare_word (micros_text e.moment.at) (micros_give e.moment.at h.time).word) (
      refl,
      bare_append (spaced on_off) (32 ∷ spaced kind) (bare_spaced on_off (token.Name (on_off_name e.moment.on_off) ∷ []) (name_gives (on_off_name e.moment.on_off), tt))
          (refl, bare_spaced kind _ (kind_said e.kind h.kind).each),
    )

settings_bare : (x : Settings) → SettingsFit x → IsBare (settings_text x)
settings_bare x h =
    let a = x.attributes in
    bare_first (name_gives name.Settings)
    (bare_more (named_said name.Min x.range.min h.min_level_fits)
    (bare_more (named_said name.Max x.range.max h.max_level_fits)
    (bare_more (named_said name.FastestRate x.fastest_rate h.fastest_rate)
    (bare_more (byte_said name.Level x.current_level h.level)
    (bare_more (byte_said name.OnLevel a.on_level h.on_level)
    (bare_more (byte_said name.StartUpCurrentLevel a.start_up_current_level h.start_up_level_fits)
    (bare_more (byte_said name.DefaultMoveRate a.default_move_rate h.default_rate)
    (bare_more (positive_time_said name.OnOffTransitionTime a.on_off_transition_time h.common_time)
    (bare_more (time_said name.OnTransitionTime a.on_transition_time h.on_time_fits)
    (bare_more (time_said name.OffTransitionTime a.off_transition_time h.off_time_fits)
    (bare_more (positive_byte_said name.Options a.options.0 h.options)
    (bare_more (flag_said name.Coupled x.coupled) (bare_last (flag_said name.Lighting x.lighting))))))))))))))

-- The lines of a text.

abbrev events_text : List Event → List ℕ
events_text [] = []
events_text (e ∷ es) = (event_text e ++ 10 ∷ []) ++ events_text es

-- the one text of settings and events
abbrev whole_text : Settings → List Event → List ℕ
whole_text x es = (settings_text x ++ 10 ∷ []) ++ events_text es

line_cut : (l t : List ℕ) → Bare l → lines_of (l ++ 10 ∷ t) ≡ l ∷ lines_of t
unfolding lines_of
line_cut [] t h = refl
line_cut (b ∷ l) t h = rw h.0 (ap (put_before b) (line_cut l t h.1))

line_said : (l t : List ℕ) → Bare l → nat_eq (length (line_tokens l)) 0 ≡ false → said (lines_of ((l ++ 10 ∷ []) ++ t)) ≡ line_tokens l ∷ said (lines_of t)
line_said l t h some = ap said (ap lines_of (append_assoc l (10 ∷ []) t) ∙ line_cut l t h) ∙ said_some l (lines_of t) some

has_token : (ts : List Token) (t : Token) (us : List Token) → ts ≡ t ∷ us → nat_eq (length ts) 0 ≡ false
has_token ts t us e = ap (λ ts. nat_eq (length ts) 0) e ∙ eqb-suc-zero (length us)

event_some : (e : Event) → EventFits e → nat_eq (length (line_tokens (event_text e))) 0 ≡ false
event_some e h = has_token (line_tokens (event_text e)) _ _ (event_said e h)

settings_some : (x : Settings) → SettingsFit x → nat_eq (length (line_tokens (settings_text x))) 0 ≡ false
settings_some x h = has_token (line_tokens (settings_text x)) _ _ (settings_said x h)

nothing_said : said (lines_of []) ≡ []
unfolding said lines_of tokens_in
nothing_said = refl

events_lines : (es : List Event) → All EventFits es → said (lines_of (events_text es)) ≡ events_said es
events_lines [] fit = nothing_said
events_lines (e ∷ es) fit =
    let first = All-head EventFits e es fit in
    line_said (event_text e) (events_text es) (event_bare e first) (event_some e first)
    ∙ ap (λ ts. line_tokens (event_text e) ∷ ts) (events_lines es (All-tail EventFits e es fit))

play_lines : (x : Settings) (es : List Event) → SettingsFit x → All EventFits es → said (lines_of (whole_text x es)) ≡ play_said x es
play_lines x es h fit =
    line_said (settings_text x) (events_text es) (settings_bare x h).bare (settings_some x h) ∙ ap (λ ts. line_tokens (settings_text x) ∷ ts) (events_lines es fit)

no_mark : (x : Settings) (es : List Event) → unmarked (whole_text x es) ≡ whole_text x es
no_mark x es = refl

text_read : (x : Settings) (es : List Event) → Right x → All EventFits es → length es ≤ 255 → play_read (whole_text x es) ≡ Ok (play_records x es)
text_read x es right fit few =
    (text_laws.text_exact (whole_text x es) (play_records x es)).1 (record {
      settings = x;
      events = es;
      right = right;
      fit = fit;
      few = few;
      tokens = ap (λ s. said (lines_of s)) (no_mark x es) ∙ play_lines x es right.0 fit;
      written = refl;
    })

-- The text of records.

abbrev Text : Type 0
Text = Result (List ℕ) WrongRecord

abbrev made : List ℕ → Text
made text = Ok text

made_is : (s t : List ℕ) → made s ≡ made t → s ≡ t
made_is s t e = cc

not_made : {why : WrongRecord} {s : List ℕ} → Err why ≡ made s → ⊥
not_made e = absurd cc

events_again : (es : List Event) (before : List ℕ) (n : ℕ) → All EventFits es → with_events before n (event_records (events_records es)) ≡ made (before ++ events_text es)
events_again [] before n fit = ends before n [] (omega arith) ∙ ap (λ s. made s) (sym (append-nil before))
events_again (e ∷ es) before n fit =
    let s : List ℕ = event_record e ++ events_records es in
    let next : List ℕ = with_line before (event_text e) in
    let long : 20 ≤ length s = rw (length-append, length_event) (omega arith) in
    let first : event_read (take 20 s) ≡ Some e = ap event_read (take_at (event_record e) (events_records es) 20 (length_event e)) ∙ event_written e (All-head EventFits e es fit) in
    goes_on before next n s long (ap (with_event before n) first)
    ∙ (ap (λ r. with_events next (n + 1) (event_records r)) (drop_at (event_record e) (events_records es) 20 (length_event e))
    ∙ (events_again es next (n + 1) (All-tail EventFits e es fit) ∙ ap (λ r. made r) (append_assoc before (event_text e ++ 10 ∷ []) (events_text es))))

right_length : (n k : ℕ) → n ≡ 20 * (1 + k) → k ≤ 255 → length_ok n ≡ true
right_length n k e h = grind (arith, nat_tests, e, h)

text_made : (x : Settings) (es : List Event) → Right x → All EventFits es → length es ≤ 255 → play_text (play_records x es) ≡ made (whole_text x es)
unfolding play_text
text_made x es right fit few =
    let s : List ℕ = play_records x es in
    let first : settings_read (take 20 s) ≡ Ok x =
    ap settings_read (take_at (settings_record x) (events_records es) 20 (length_settings x)) ∙ settings_written x right.0 right.1 in
    let others : drop 20 s ≡ events_records es = drop_at (settings_record x) (events_records es) 20 (length_settings x) in
    ap (λ (b : Bool). if b then text_then (with_settings (settings_read (take 20 s))) (λ text. with_events text 1 (event_records (drop 20 s))) else Err wrong.Length)
    (right_length (length s) (length es) (length_play x es) few)
    ∙ (ap (λ r. text_then (with_settings r) (λ text. with_events text 1 (event_records (drop 20 s)))) first
    ∙ (ap (λ r. with_events (with_line [] (settings_text x)) 1 (event_records r)) others ∙ events_again es (with_line [] (settings_text x)) 1 fit))

-- What records with a text are.

take_bytes : (n : ℕ) (s : List ℕ) → AllBytes s → AllBytes (take n s)
take_bytes zero s h = tt
take_bytes (suc n) [] h = tt
take_bytes (suc n) (b ∷ s) h = (h.0, take_bytes n s h.1)

drop_bytes : (n : ℕ) (s : List ℕ) → AllBytes s → AllBytes (drop n s)
drop_bytes zero s h = h
drop_bytes (suc n) [] h = tt
drop_bytes (suc n) (b ∷ s) h = drop_bytes n s h.1

-- k events, and their text behind what stands before
record Events (before text : List ℕ) (k : ℕ) : Type 0 where
  events : List Event
  fit : All EventFits events
  count : length events ≡ k
  whole : text ≡ before ++ events_text events

one_more : (before text : List ℕ) (k : ℕ) (e : Event) → EventFits e → Events (with_line before (event_text e)) text k → Events before text (suc k)
one_more before text k e h w = record {
  events = e ∷ w.events;
  fit = All-cons EventFits e w.events h w.fit;
  count = ap suc w.count;
  whole = w.whole ∙ append_assoc before (event_text e ++ 10 ∷ []) (events_text w.events);
}

one_event : (before text : List ℕ) (n k : ℕ) (r : List ℕ) (rs : List (List ℕ)) → AllBytes r
    → ((before : List ℕ) → with_events before (suc n) rs ≡ made text → Events before text k)
    → (o : Option Event) → event_read r ≡ o → text_then (with_event before n o) (λ text. with_events text (suc n) rs) ≡ made text → Events before text (suc k)
one_event before text n k r rs bytes more (Some e) is h = one_more before text k e (event_fits r e bytes is) (more (with_line before (event_text e)) h)
one_event before text n k r rs bytes more None is h = absurd (not_made h)

events_of : (k : ℕ) (s before text : List ℕ) (n : ℕ) → AllBytes s → with_events before n (records_of k s) ≡ made text → Events before text k
unfolding with_events records_of
events_of zero s before text n bytes h =
    record { events = []; fit = All-nil EventFits; count = refl; whole = sym (made_is before text h) ∙ sym (append-nil before) }
events_of (suc k) s before text n bytes h =
    one_event before text n k (take 20 s) (records_of k (drop 20 s)) (take_bytes 20 s bytes) (λ before h. events_of k (drop 20 s) before text (suc n) (drop_bytes 20 s bytes) h)
    (event_read (take 20 s)) refl h

by_length : (test : Bool) (t : Text) (text : List ℕ) → (if test then t else Err wrong.Length) ≡ made text → (test ≡ true) × (t ≡ made text)
by_length true t text h = (refl, h)
by_length false t text h = absurd (not_made h)

by_settings : (r : Result Settings RecordRefusal) (f : List ℕ → Text) (text : List ℕ) → text_then (with_settings r) f ≡ made text
    → (x : Settings) × (r ≡ Ok x) × (f (with_line [] (settings_text x)) ≡ made text)
by_settings (Ok x) f text h = (x, refl, h)
by_settings (Err why) f text h = absurd (not_made h)

few_records : (n k : ℕ) → length_ok n ≡ true → k ≡ n - 20 → k / 20 ≤ 255
few_records n k h e =
    let most : n ≤ 5120 = grind (arith, nat_tests, h) in
    omega (arith, e, most)

again_of : (records text : List ℕ) (x : Settings) → Right x → length (drop 20 records) / 20 ≤ 255
    → Events (with_line [] (settings_text x)) text (length (drop 20 records) / 20) → (s : List ℕ) × (play_read text ≡ Ok s) × (play_text s ≡ Ok text)
again_of records text x right few w =
    let least : length w.events ≤ 255 = rw w.count few in (
      play_records x w.events,
      ap play_read w.whole ∙ text_read x w.events right w.fit least,
      text_made x w.events right w.fit least ∙ ap (λ s. made s) (sym w.whole),
    )

pub play_again : (records text : List ℕ) → AllBytes records → play_text records ≡ Ok text → (s : List ℕ) × (play_read text ≡ Ok s) × (play_text s ≡ Ok text)
unfolding play_text
play_again records text bytes h =
    let a = by_length (length_ok (length records)) _ text h in
    let b = by_settings (settings_read (take 20 records)) (λ text. with_events text 1 (event_records (drop 20 records))) text a.1 in
    let x : Settings = b.0 in
    again_of records text x (settings_fit (take 20 records) x (take_bytes 20 records bytes) b.1) (few_records (length records) (length (drop 20 records)) a.0 (length-drop 20 records))
    (events_of (length (drop 20 records) / 20) (drop 20 records) (with_line [] (settings_text x)) text 1 (drop_bytes 20 records bytes) b.2)
