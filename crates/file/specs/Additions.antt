-- A draft with one port, one flow or one row more.
use Rattle.std.specs.Prelude.{◌+◌, slice_set}
use Rattle.draft.specs.declared.draft.Draft.{Draft}
use Rattle.draft.specs.declared.flow.Flow.{Flow}
use Rattle.draft.specs.declared.port.Port.{Port}
use Rattle.draft.specs.declared.table.Row.{Row}
use Rattle.file.specs.Counts.{flows, ports, rows}

abbrev pub with_port : Draft → Port → Draft
with_port d q =
    record {
      parts = record { ports = slice_set d.parts.ports (ports d) q; flows = d.parts.flows; size = record { ports = ports d + 1; flows = flows d } };
      proposal = d.proposal;
    }

abbrev pub with_flow : Draft → Flow → Draft
with_flow d w =
    record {
      parts = record { ports = d.parts.ports; flows = slice_set d.parts.flows (flows d) w; size = record { ports = ports d; flows = flows d + 1 } };
      proposal = d.proposal;
    }

abbrev pub with_row : Draft → Row → Draft
with_row d r =
    record {
      parts = d.parts;
      proposal = record { table = record { rows = slice_set d.proposal.table.rows (rows d) r }; rows = rows d + 1 };
    }
