-- Events and answers: an event, of its time, on/off value and kind.
use Rattle.std.specs.Prelude.{Bool}
use Rattle.units.specs.declared.Micros.{Micros}
use Rattle.transitions.specs.declared.events.Event.{Event}
use Rattle.transitions.specs.declared.events.EventKind.{EventKind}

abbrev pub event : Micros → Bool → EventKind → Event
event at on kind = record { moment = record { at = at; on_off = on }; kind = kind }
