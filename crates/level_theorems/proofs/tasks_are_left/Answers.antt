-- What the check of `tasks_are_left` does not find by itself.
use Rattle.level_theorems.proofs.RunSteps.{leaves_task_holds}
use Rattle.level_theorems.proofs.tasks_are_left.Goals as goal

pub returns : goal.returns
returns c = leaves_task_holds
