-- What comes back: a draft from its file, and a file from what it says.
use Rattle.std.specs.Prelude.{◌≡◌, ℕ, List, ◌++◌, take, drop, replicate, Ok}
use Rattle.draft.specs.Plans.{blank_flow, blank_row, no_port}
use Rattle.draft.specs.declared.draft.Draft.{Draft}
use Rattle.file.specs.Counts.{flows, ports, rows}
use Rattle.file.specs.Reads.{read}
use Rattle.file.specs.Writes.{encoded}

-- the first n of some things, and blanks past them
abbrev pub fronted : {X : Type 0} → ℕ → List X → List X → List X
fronted n xs blanks = take n xs ++ drop n blanks

-- a draft with its first i ports, j flows and k rows only
abbrev pub cut_to : ℕ → ℕ → ℕ → Draft → Draft
cut_to i j k d =
    record {
      parts =
          record {
            ports = fronted i d.parts.ports (replicate 32 no_port);
            flows = fronted j d.parts.flows (replicate 64 blank_flow);
            size = record { ports = i; flows = j };
          };
      proposal = record { table = record { rows = fronted k d.proposal.table.rows (replicate 64 blank_row) }; rows = k };
    }

-- a draft without what stands past its counts
abbrev pub tidied : Draft → Draft
tidied d = cut_to (ports d) (flows d) (rows d) d

-- a file that says a draft is the file of that draft, and no other
abbrev pub Sole : List ℕ → Type 0
Sole bytes = (d : Draft) → read bytes ≡ Ok d → bytes ≡ encoded d
