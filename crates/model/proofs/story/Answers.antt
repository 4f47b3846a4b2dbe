use Rattle.std.proofs.Common.{refl}
use Rattle.rounding.specs.Quotients.{up}
use Rattle.plan.proofs.Keeps.{kept_of}
use Rattle.plan.specs.Limits.{Kept}
use Rattle.table.proofs.Exact.{accepted_from}
use Rattle.table.specs.Accepts.{Accepted}
use Rattle.table.specs.Loads.{delays, gaps}
use Rattle.model.specs.Examples.{ring, story, table}
use Rattle.model.specs.Runs.{begun}
use Rattle.model.proofs.Examples.{Shown, endings_run, offering_run}
use Rattle.model.proofs.story.Goals as goal

ring_kept : Kept ring
unfolding up
ring_kept = kept_of ring refl

table_accepted : Accepted ring table
unfolding up delays gaps
table_accepted = accepted_from ring refl table refl

ran : Shown ring (story 32)
unfolding up
ran =
    endings_run ring ring_kept table table_accepted 32 _ refl (offering_run ring 0 1000 _
    (endings_run ring ring_kept table table_accepted 100 _ refl (offering_run ring 0 1000 _ (offering_run ring 0 1000 _
    (endings_run ring ring_kept table table_accepted 11 _ refl (offering_run ring 1 1000 _ begun))))))

pub returns : goal.returns
unfolding up delays gaps
returns c =
    record {
      keeps = refl;
      accepted = refl;
      figures = refl;
      held = refl;
      released = refl;
      sends = refl;
      delivers = refl;
      empty = refl;
      ran = ran;
    }
