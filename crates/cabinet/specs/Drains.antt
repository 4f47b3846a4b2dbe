-- Drained: what came out of a port until its cabinet said none, and where it was laid.
use Rattle.std.specs.Prelude.{◌≡◌, ℕ, ◌+◌, ◌<◌, ◌≤◌, false, List, [], ◌∷◌, ◌++◌, length, take, drop, Some, None, Option, slice_set}
use Rattle.std.specs.List.{AllByRecursion}
use Rattle.line.specs.Queues.{Same, contents, memory, room}
use Rattle.line.specs.Ring.{placed}
use Rattle.line.specs.declared.queue.Queue.{Queue}
use Rattle.service.specs.declared.frame.Frame.{Frame}
use Rattle.cabinet.specs.Advances.{has_due}
use Rattle.cabinet.specs.Model.{Model, cut, port_in, with_port}
use Rattle.cabinet.specs.Takes.{Stayed}

-- the first n frames of the port were handed over, each after its least stay, and nothing else changed
pub record Fetched (m : Model) (p n : ℕ) (x : Model) : Type 0 where
  pub within : n ≤ length (port_in m p).line
  pub stayed : AllByRecursion (Stayed m.slot (port_in m p)) (take n (port_in m p).line)
  pub after : x ≡ with_port m p (cut n (port_in m p))

-- and no frame that is left is due
pub record Drained (m : Model) (p n : ℕ) (x : Model) : Type 0 where
  pub fetched : Fetched m p n x
  pub none_due : has_due m.slot (drop n (port_in m p).line) ≡ false

-- the memory of a queue, whose first element stands at `first` and that holds `count`, once these are pushed
abbrev pub laid : {X : Type 0} → List X → ℕ → ℕ → List X → List X
laid places first count [] = places
laid places first count (x ∷ xs) = laid (slice_set places (placed (length places) first count) x) first (count + 1) xs

-- these stand behind what the queue held, in the next places; the other places are as they were
pub record Laid {X : Type 0} (t : Queue X) (xs : List X) (u : Queue X) : Type 0 where
  pub first : u.first ≡ t.first
  pub count : u.count ≡ t.count + length xs
  pub items : contents u ≡ contents t ++ xs
  pub memory : memory u ≡ laid (memory t) t.first t.count xs

-- drained into a tray; or, where it has fewer free places than frames wait, nothing is taken and nothing changes
abbrev pub DrainedInto : Model → ℕ → Queue Frame → Option ℕ → Model → Queue Frame → Type 0
DrainedInto m p t None x u = (room t < t.count + length (port_in m p).line) × (x ≡ m) × Same t u
DrainedInto m p t (Some n) x u =
    (t.count + length (port_in m p).line ≤ room t) × Drained m p n x × Laid t (take n (port_in m p).line) u
