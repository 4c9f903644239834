-- What is seen to be open in a fade is what the task keeps. Assumes nothing.
use Prim.Native.Nat.{ℕ}
use mathlib.Core.Path.{◌≡◌, refl, ◌∙◌}
use mathlib.Core.List.{List}
use Rattle.transitions.specs.declared.tasks.Phase.{Phase}
use Rattle.transitions.specs.declared.tasks.Phase.TheVariants.{Asked, Waiting}
use Rattle.transitions.specs.declared.tasks.Task.{Task}
use Rattle.transitions.specs.declared.tasks.Task.TheVariants as task
use Rattle.level_control.specs.Run.{Run, Pending, started, play}
use Rattle.level_theorems.specs.Uninterrupted.{phase_shows, open_of}
use Rattle.level_theorems.specs.FadeTheorems.{TaskAgrees}
use Rattle.level_control.proofs.FadeInvariant.{Inv, pending_in}
use Rattle.level_control.proofs.EveryFade.{kept}

in_phase : (q : Phase) → pending_in q ≡ phase_shows q
in_phase (Asked since) = refl
in_phase (Waiting until) = refl

in_task : (c t T : ℕ) (asked : List ℕ) (k shown : ℕ) (p : Pending) (x : Task) → Inv c t T asked k shown p x → p ≡ open_of x
in_task c t T asked k shown p task.Rest h = h.3
in_task c t T asked k shown p task.StartUp h = absurd h
in_task c t T asked k shown p (task.Fade f) h = h.1 ∙ in_phase f.phase
in_task c t T asked k shown p (task.Move m) h = absurd h
in_task c t T asked k shown p (task.OnReaction r) h = absurd h

pub task_agrees : TaskAgrees
task_agrees o c t T es w ne pos small h =
    let r : Run = play (started o) es in
    in_task c t T r.asked r.answers r.state.remaining_time.0 r.pending r.state.task (kept o c t T es w pos small h)
