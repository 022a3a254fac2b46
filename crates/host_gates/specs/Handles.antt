-- What a handle holds.
use Rattle.std.specs.Prelude.{Option, Some, None, if◌then◌else◌}
use Rattle.history.specs.Gates.{GateState}
use Rattle.site_turns.specs.declared.SiteTurns.{SiteTurns}
use Rattle.host_gates.specs.declared.handle.GateHandle.{GateHandle}

-- the gate that a handle holds, if there is one
abbrev pub gate_in : GateHandle → Option (GateState SiteTurns)
gate_in handle = if handle.full then Some handle.parked.gate else None
