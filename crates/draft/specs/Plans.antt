-- Ports, flows and rows by their numbers; what does not exist is all 0.
use Rattle.std.specs.Prelude.{ℕ, List, [], min, replicate, slice_index, slice_index_or, take}
use Rattle.draft.specs.declared.draft.Draft.{Draft}
use Rattle.draft.specs.declared.flow.Flow.{Flow}
use Rattle.draft.specs.declared.parts.Parts.{Parts}
use Rattle.draft.specs.declared.path.Path.{Path}
use Rattle.draft.specs.declared.port.Port.{Port}
use Rattle.draft.specs.declared.table.Proposal.{Proposal}
use Rattle.draft.specs.declared.table.Row.{Row}
use Rattle.draft.specs.declared.table.Table.{Table}

abbrev pub no_port : Port
no_port = record { rate = 0; latency = 0; stay = 0; shortest = 0 }

abbrev pub no_flow : Flow
no_flow =
    record {
      rate = 0;
      burst = 0;
      shortest = 0;
      longest = 0;
      path = record { hops = 0; ports = [] };
      mask = record { bits = 0 };
    }

abbrev pub no_row : Row
no_row = record { cells = [] }

abbrev pub port_at : Parts → ℕ → Port
port_at P p = slice_index_or P.ports p no_port

abbrev pub flow_at : Parts → ℕ → Flow
flow_at P f = slice_index_or P.flows f no_flow

-- how many hops a flow has
abbrev pub hops : Flow → ℕ
hops w = w.path.hops

-- the byte of a path at hop k: the port's number
abbrev pub hop_port : Flow → ℕ → ℕ
hop_port w k = slice_index w.path.ports k

-- the ports that a path names, of the eight that there is room for
abbrev pub crossed : Path → List ℕ
crossed path = take (min path.hops 8) path.ports

-- the ports that there are, of the 32 that there is room for
abbrev pub ports_of : Parts → List Port
ports_of P = take (min P.size.ports 32) P.ports

-- the flows that there are, of the 64 that there is room for
abbrev pub flows_of : Parts → List Flow
flows_of P = take (min P.size.flows 64) P.flows

abbrev pub row_at : Table → ℕ → Row
row_at t f = slice_index_or t.rows f no_row

-- the cell of flow f at hop k
abbrev pub cell : Table → ℕ → ℕ → ℕ
cell t f k = slice_index (row_at t f).cells k

-- what stands past a plan's flows
abbrev pub blank_flow : Flow
blank_flow = record { rate = 0; burst = 0; shortest = 0; longest = 0; path = record { hops = 0; ports = replicate 8 0 }; mask = record { bits = 0 } }

-- what stands past a table's rows
abbrev pub blank_row : Row
blank_row = record { cells = replicate 8 0 }

abbrev pub empty_parts : Parts
empty_parts = record { ports = replicate 32 no_port; flows = replicate 64 blank_flow; size = record { ports = 0; flows = 0 } }

abbrev pub no_table : Table
no_table = record { rows = replicate 64 blank_row }

abbrev pub no_proposal : Proposal
no_proposal = record { table = no_table; rows = 0 }

abbrev pub empty_draft : Draft
empty_draft = record { parts = empty_parts; proposal = no_proposal }
