use Rattle.std.proofs.Common.{refl}
use Rattle.rounding.specs.Quotients.{up}
use Rattle.table.specs.Loads.{delays, gaps}
use Rattle.table.specs.Rounds.{row_by, table_by}
use Rattle.table.proofs.bench.worked.Goals as goal

pub returns : goal.returns
unfolding up delays gaps row_by table_by
returns c =
    record {
      joined_keeps = refl;
      joined_cells = refl;
      joined_delays = refl;
      two_keeps = refl;
      two_cells = refl;
      two_sheet = refl;
      two_low = refl;
      two_more = refl;
      four_climbs = refl;
      four_keeps = refl;
      four_cells = refl;
      four_figures = refl;
      three_keeps = refl;
      three_crowded = refl;
      three_found = refl;
      lone_passes = refl;
      lone_crowded = refl;
    }
