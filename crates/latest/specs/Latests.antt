-- The latest kind: when it hands a frame over, which is in time.
use Rattle.std.specs.Prelude.{ℕ, ◌+◌, ◌≤◌, Bool, nat_le}
use Rattle.std.proofs.Common.{arith}
use Rattle.std.proofs.lemmas.Bool.{leb-false, leb-true}
use Rattle.service.specs.declared.frame.Frame.{Frame}
use Rattle.cabinet.specs.Model.{PortModel}
use Rattle.cabinet.specs.Takes.{InTime}

-- the frame is due
abbrev pub latest_ready : ℕ → Frame → Bool
latest_ready slot x = nat_le x.due slot

pub latest_in_time : (slot : ℕ) (q : PortModel) (x : Frame) → x.entry + q.figures.stay ≤ x.due → InTime slot q x (latest_ready slot x)
latest_in_time slot q x h =
    record {
      stayed = λ r. let d : x.due ≤ slot = leb-true x.due slot r in omega arith;
      later = λ r. leb-false x.due slot r;
    }
