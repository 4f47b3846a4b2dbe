-- Bytes printed at the end of a queue that began at the first place of its memory.
use Rattle.std.specs.Prelude.{◌≡◌, ℕ, ◌+◌, ◌≤◌, List, length}
use Rattle.std.proofs.Math.Seq.{paste}
use Rattle.line.specs.Queues.{memory, room}
use Rattle.line.specs.declared.queue.Queue.{Queue}

-- there is room for these bytes behind what is there
pub record HasRoom (q : Queue ℕ) (bs : List ℕ) : Type 0 where
  pub first : q.first ≡ 0
  pub fits : q.count + length bs ≤ room q

-- in the same memory, these bytes stand behind what was there, if there is room, and the rest is as it was
pub record Printed (q : Queue ℕ) (bs : List ℕ) (p : Queue ℕ) : Type 0 where
  pub owner : p.places.ghost_name ≡ q.places.ghost_name
  pub room : room p ≡ room q
  pub first : p.first ≡ q.first
  pub count : HasRoom q bs → p.count ≡ q.count + length bs
  pub memory : HasRoom q bs → memory p ≡ paste (memory q) q.count bs (length bs)
