-- What the check of `go_to` does not find by itself.
use Rattle.std.proofs.Common.{arith, refl, sym, ◌∙◌}
use Rattle.transitions.specs.Actions.{reports_of}
use Rattle.level_control.specs.Coupling.{coupled_by}
use Rattle.level_control.specs.Targets.{go_to}
use Rattle.level_control.proofs.ActionLaws.{coupled_then_missing}
use Rattle.level_control.proofs.state.LevelControlState.go_to.Goals as goal

pub returns-in-Reached : goal.returns-in-Reached
unfolding go_to coupled_by reports_of
returns-in-Reached c =
    let few = c.requires in
    rw (
      c.push_if.ensures,
      c.push_coupling.ensures,
      c.update_coupled_on_off-coupling.ensures,
      coupled_then_missing c.args.actions.now _ c.args.request.puts_back _ c.args.self.now.attributes.on_level _ (omega arith) c.is_none.ensures,
      sym c.begin_fade.ensures.value ∙ c.in-Reached.is,
    )
    refl
