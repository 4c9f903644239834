-- Every fade: one claim about every fade and every list of events after its start.
use Rattle.std.specs.Prelude.{ℕ, suc, ◌+◌, ◌*◌, ◌≤◌, true, cond, ◌||◌, ◌≡◌, ◌↔◌, List, eqb, take}
use Rattle.transitions.specs.declared.events.DeviceAnswer.TheVariants as device
use Rattle.transitions.specs.declared.events.Event.{Event}
use Rattle.transitions.specs.declared.events.EventKind.TheVariants as kind
use Rattle.level_control.specs.Answer.{Outcome}
use Rattle.level_control.specs.Handle.{event_of}
use Rattle.level_control.specs.Path.{path}
use Rattle.level_control.specs.Run.{Run, Nothing, accepted, waits, started, play, only_onward, all_refused, state_after}
use Rattle.level_control.specs.Starts.{Fades, start_of, on_start, distance}
use Rattle.level_control.specs.declared.state.LevelControlState.{LevelControlState}
use Rattle.transitions.specs.declared.events.Command.TheVariants as command

-- a fade from c to t in T tenths starts, and an event gave this outcome: directly, in a move to level, a step, an off or a scene; or, after on in s and
-- any refused events, in the answer v to the request for MIN
pub data Starts : Outcome → ℕ → ℕ → ℕ → Type 0 where
  directly : (s : LevelControlState) (e : Event) (c t T : ℕ)
      → accepted s e ≡ true → start_of s e.moment.on_off e.kind ≡ Fades c t T → Starts (event_of s e) c t T
  after_on : (s : LevelControlState) (e a : Event) (es : List Event) (v c t T : ℕ)
      → accepted s e ≡ true → e.kind ≡ kind.Command (command.OnOffChanged true) → all_refused (event_of s e).state es ≡ true
      → accepted (state_after (event_of s e).state es) a ≡ true → a.kind ≡ kind.Answer (device.Level v)
      → on_start s v ≡ Fades c t T → Starts (event_of (state_after (event_of s e).state es) a) c t T

-- what holds after the list, with k answers accepted, of a fade over n levels in T tenths. Nothing is subtracted, so no difference is cut off at 0
pub record Shown (c t T : ℕ) (r : Run) : Type 0 where
  pub at_most : r.answers ≤ distance t c
  -- the levels asked for are the first k + 1 of the n, but only the first k exactly when the fade waits for a wake or k = n
  pub levels : r.asked ≡ take (cond (waits r.pending || eqb r.answers (distance t c)) r.answers (suc r.answers)) (path c t)
  -- it is at rest exactly when k = n, and then with remaining time 0
  pub rest : (r.pending ≡ Nothing) ↔ (r.answers ≡ distance t c)
  pub end : r.answers ≡ distance t c → r.state.remaining_time.0 ≡ 0
  -- from k = 1 on it shows m tenths with 0 ≤ 100·n·m − 100·T·(n − k) ≤ k·(n − 1) + 99·n
  pub low : 1 ≤ r.answers
      → 100 * T * distance t c ≤ 100 * distance t c * r.state.remaining_time.0 + 100 * T * r.answers
  pub high : 1 ≤ r.answers
      → 100 * distance t c * r.state.remaining_time.0 + 100 * T * r.answers + r.answers
      ≤ 100 * T * distance t c + r.answers * distance t c + 99 * distance t c

abbrev pub EveryFade : Type 0
EveryFade =
    (o : Outcome) (c t T : ℕ) (es : List Event)
    → Starts o c t T → (c ≡ t → ⊥) → 1 ≤ T → T ≤ 65535 → only_onward (started o) es ≡ true
    → Shown c t T (play (started o) es)
