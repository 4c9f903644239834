-- Options: `should_continue`.
use Rattle.std.specs.Prelude.{Bool, true, cond}
use Rattle.transitions.specs.Types.{executes_if_off}
use Rattle.transitions.specs.declared.types.OptionsBitmap.{OptionsBitmap}

-- a command goes on if with on/off, or uncoupled, or on. Otherwise bit 0 decides: of the override if the mask has it, else of the stored options
unfoldable pub should_continue : Bool → Bool → Bool → OptionsBitmap → OptionsBitmap → OptionsBitmap → Bool
should_continue with_on_off coupled on options mask override =
    cond with_on_off true
    (cond coupled
    (cond on true (cond (executes_if_off mask) (executes_if_off override) (executes_if_off options)))
    true)
