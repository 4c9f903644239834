-- Proofs of specs/Laws.antt. Assumes nothing.
use Rattle.std.proofs.Common.{ℕ, ◌≡◌, ◌<◌, ◌^◌, Bool, true, false, List, [], ◌∷◌, ◌++◌, length, refl, sym, ap, ◌∙◌, arith, nat_eq}
use Rattle.std.specs.Prelude.{Some, None}
use Rattle.std.specs.List.{slice_get}
use Rattle.units.specs.Units.{micros}
use Rattle.units.specs.declared.Micros.{Micros}
use Rattle.transitions.specs.declared.events.Event.{Event}
use Rattle.transitions.specs.declared.events.EventKind.TheVariants as kind
use Rattle.transitions.specs.declared.settings.Settings.{Settings}
use Rattle.records.specs.Written.{EventFits}
use Rattle.words.specs.EventLine as event_spec
use Rattle.words.specs.EventLine.{event, event_line}
use Rattle.words.specs.Laws.{Laws, Right}
use Rattle.words.specs.Lexis.{word}
use Rattle.words.specs.SettingsLine as settings_spec
use Rattle.words.specs.SettingsLine.{settings, settings_line}
use Rattle.words.specs.Spelling.{event_text, settings_text}
use Rattle.words.specs.Tokens.{line_tokens, token_of, tokens_in}
use Rattle.words.specs.declared.tokens.Token.{Token}
use Rattle.words.specs.declared.tokens.Token.TheVariants as token
use Rattle.words.proofs.EventLaws.{LineFits, event_piece}
use Rattle.words.proofs.Pieces.{Stands}
use Rattle.words.proofs.Said.{event_tokens, settings_tokens}
use Rattle.words.proofs.SettingsLaws.{settings_piece}
use Rattle.words.proofs.SpellingLaws.{event_said, settings_said}
use Rattle.words.proofs.WholeLines.{Begun, line_again, line_exact, line_fault}
use Rattle.words.proofs.WordLaws.{name_word, number_word, time_below, verb_word}

some_is : (t u : Token) → Some t ≡ Some u → t ≡ u
some_is t u e = cc

none_no_some : {u : Token} → None ≡ Some u → ⊥
none_no_some e = absurd cc

first_by : (line : List ℕ) (t : Token) (test : Bool) → nat_eq (length (word line)) 0 ≡ test → slice_get (line_tokens line) 0 ≡ Some t → token_of (word line) ≡ t
unfolding tokens_in
first_by line t true e h = absurd (none_no_some (rw e at h))
first_by line t false e h = some_is (token_of (word line)) t (rw e at h)

-- the first token of a line is that of a word
first_token : (line : List ℕ) (t : Token) → slice_get (line_tokens line) 0 ≡ Some t → token_of (word line) ≡ t
first_token line t h = first_by line t (nat_eq (length (word line)) 0) refl h

clock_fits : (line : List ℕ) (at : Micros) → slice_get (line_tokens line) 0 ≡ Some (token.Time at) → at.0 < 2 ^ 64
clock_fits line at h = time_below (word line) at (first_token line (token.Time at) h)

event_stronger : (line : List ℕ) (e : Event) → LineFits e → Stands (line_tokens line) 0 (event_tokens e) → EventFits e
event_stronger line e h s = record { time = clock_fits line e.moment.at s.0; kind = h }

start : Event
start = record { moment = record { at = micros 0; on_off = false }; kind = kind.StartUp }

start_fits : EventFits start
unfolding start
start_fits = record { time = omega arith; kind = tt }

head_or : Token → List Token → Token
head_or d [] = d
head_or d (t ∷ ts) = t

event_begun : (line : List ℕ) (e : Event) (front rest : List Token) → LineFits e → event_tokens e ≡ front ++ rest → Stands (line_tokens line) 0 front
    → Begun event_tokens EventFits front
unfolding head_or
event_begun line e [] rest h begins s = record { value = start; fits = start_fits; more = event_tokens start; begins = refl }
event_begun line e (t ∷ us) rest h begins s =
    let first : token.Time e.moment.at ≡ t = ap (head_or token.Other) begins in
    record {
      value = e;
      fits = record { time = clock_fits line e.moment.at (s.0 ∙ ap (λ t. Some t) (sym first)); kind = h };
      more = rest;
      begins = begins;
    }

settings_begun : (line : List ℕ) (x : Settings) (front rest : List Token) → Right x → settings_tokens x ≡ front ++ rest → Stands (line_tokens line) 0 front
    → Begun settings_tokens Right front
settings_begun line x front rest h begins s = record { value = x; fits = h; more = rest; begins = begins }

pub laws : Laws
unfolding event_line settings_line
laws = record {
  event_exact = line_exact event_piece (λ e. event_spec.further e.kind) event_text EventFits event_said (λ e h. h.kind) event_stronger event_begun;
  event_again = line_again event_piece (λ e. event_spec.further e.kind) event_text EventFits event_said (λ e h. h.kind) event_stronger event_begun;
  event_fault = line_fault event_piece (λ e. event_spec.further e.kind) event_text EventFits event_said (λ e h. h.kind) event_stronger event_begun;
  settings_exact = line_exact settings_piece settings_spec.further settings_text Right (λ x h. settings_said x h.0) (λ x h. h) (λ line x h s. h) settings_begun;
  settings_again = line_again settings_piece settings_spec.further settings_text Right (λ x h. settings_said x h.0) (λ x h. h) (λ line x h s. h) settings_begun;
  settings_fault = line_fault settings_piece settings_spec.further settings_text Right (λ x h. settings_said x h.0) (λ x h. h) (λ line x h s. h) settings_begun;
  number_word = number_word;
  name_word = name_word;
  verb_word = verb_word;
  time_word = time_below;
}
