-- Fresh: slot 0, no frame waiting, every finish 0.
use Rattle.std.specs.Prelude.{Bool, ◌&&◌, List, [], length, ◌==◌}
use Rattle.std.specs.List.{list_all}
use Rattle.draft.specs.declared.port.Port.{Port}
use Rattle.cabinet.specs.Model.{Model, PortModel}

-- nothing has been put into the port
abbrev pub idle : PortModel → Bool
idle q = q.finish == 0 && length q.line == 0

abbrev pub all_idle : List PortModel → Bool
all_idle qs = list_all idle qs

abbrev pub fresh_model : Model → Bool
fresh_model m = m.slot == 0 && all_idle m.ports

-- a port with these figures, into which nothing has been put
abbrev pub fresh_port : Port → PortModel
fresh_port q = record { figures = q; finish = 0; line = [] }
