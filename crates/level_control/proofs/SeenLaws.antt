-- What is seen of a list of actions: reports ask for nothing and open nothing. Assumes nothing.
use Rattle.std.specs.Prelude.{Option, Some, None, Bool}
use Prim.Native.Nat.{ℕ}
use mathlib.Core.Bool.{Bool, true, false}
use mathlib.Core.Path.{◌≡◌, refl, ap, ◌∙◌}
use mathlib.Core.List.{List, [], ◌∷◌, ◌++◌, append_assoc}
use Rattle.transitions.specs.Actions.{act, act_if, act_coupled}
use Rattle.transitions.specs.declared.actions.Action.{Action}
use Rattle.transitions.specs.declared.actions.ActionKind.{ActionKind}
use Rattle.transitions.specs.declared.actions.ActionKind.TheVariants.{P, S, L, R}
use Rattle.transitions.specs.Actions.{reports_of}
use Rattle.level_control.specs.Run.{Pending, asked_by, asks, opened_by, opened}
use Rattle.transitions.specs.Actions.{Reports}

pub asks_append : (l r : List Action) → asks (l ++ r) ≡ asks l ++ asks r
asks_append [] r = refl
asks_append (a ∷ l) r = ap (λ (x : List ℕ). asked_by a.kind a.value ++ x) (asks_append l r) ∙ simp append_assoc

pub opened_append : (l r : List Action) (p : Pending) → opened (l ++ r) p ≡ opened r (opened l p)
opened_append [] r p = refl
opened_append (a ∷ l) r p = opened_append l r (opened_by a.kind p)

-- a list of actions that asks for nothing and opens nothing
pub record Silent (l : List Action) : Type 0 where
  pub no_ask : asks l ≡ []
  pub no_open : (p : Pending) → opened l p ≡ p

pub silent_append : (l r : List Action) → Silent l → Silent r → Silent (l ++ r)
silent_append l r g h = record {
  no_ask = asks_append l r ∙ rw (g.no_ask, h.no_ask) refl;
  no_open = λ p. opened_append l r p ∙ rw (g.no_open p) (h.no_open p);
}

silent_nil : Silent []
silent_nil = record { no_ask = refl; no_open = λ p. refl }

-- an action of a kind that is neither D nor W
pub silent_if : (k : ActionKind) (test : Bool) → Silent (act k 0) → Silent (act_if test k)
silent_if k true h = h
silent_if k false h = silent_nil

pub silent_coupled : (c : Option Bool) → Silent (act_coupled c)
silent_coupled (Some true) = record { no_ask = refl; no_open = λ p. refl }
silent_coupled (Some false) = record { no_ask = refl; no_open = λ p. refl }
silent_coupled None = silent_nil

pub silent_reports : (r : Reports) → Silent (reports_of r)
unfolding reports_of
silent_reports r =
    silent_append _ _
    (silent_append _ _
    (silent_append _ _
    (silent_append _ _
    (silent_if P r.stored (record { no_ask = refl; no_open = λ p. refl }))
    (silent_if S r.scene (record { no_ask = refl; no_open = λ p. refl })))
    (silent_coupled r.coupling))
    (silent_if L r.level (record { no_ask = refl; no_open = λ p. refl })))
    (silent_if R r.time (record { no_ask = refl; no_open = λ p. refl }))

-- after reports, what is asked for and opened is what the rest asks for and opens
pub asks_after : (r : Reports) (l : List Action) → asks (reports_of r ++ l) ≡ asks l
asks_after r l = asks_append (reports_of r) l ∙ rw (silent_reports r).no_ask refl

pub opened_after : (r : Reports) (l : List Action) (p : Pending) → opened (reports_of r ++ l) p ≡ opened l p
opened_after r l p = opened_append (reports_of r) l p ∙ rw ((silent_reports r).no_open p) refl
