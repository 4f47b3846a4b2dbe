-- A table of ports: what it means, what its kind keeps, and when that hands a frame over.
use Rattle.std.specs.Prelude.{◌≡◌, ℕ, ◌<◌, ◌≤◌, Bool, zero, suc, cond, List, [], ◌∷◌, ◌++◌, map, take, Some, None, Option, slice_get}
use Rattle.std.specs.Borrow.{Bor}
use Rattle.service.specs.declared.frame.Frame.{Frame}
use Rattle.cabinet.specs.Model.{Model, port_in, vacant}
use Rattle.cabinet.specs.Takes.{passes}
use Rattle.ports.specs.Kinds.{own_after, word}
use Rattle.ports.specs.Rows.{Whole, row_port}
use Rattle.ports.specs.declared.kind.Kind as Kind
use Rattle.ports.specs.declared.row.Row.{Row}
use Rattle.ports.specs.declared.table.Table.{Table}

-- the meaning of a table: its slot, and its rows in use
abbrev pub table_model : {K : Type 0} {g : Kind.Ghosts K} → Table K g → Model
table_model t = record { slot = t.slot; ports = map row_port (take t.count t.rows) }

-- what its kind keeps for each port, in the order of their numbers
abbrev pub owns : {K : Type 0} {g : Kind.Ghosts K} → Table K g → List K
owns t = map (λ w. w.own) (take t.count t.rows)

-- no port, in slot 0
abbrev pub empty_model : Model
empty_model = record { slot = 0; ports = [] }

-- one more, where the port may be added
abbrev pub owns_added : {K : Type 0} → Bool → List K → K → List K
owns_added may ks k = cond may (ks ++ k ∷ []) ks

-- the p-th element changed
abbrev pub changed_at : {X : Type 0} → (X → X) → ℕ → List X → List X
changed_at f p [] = []
changed_at f zero (x ∷ xs) = f x ∷ xs
changed_at f (suc p) (x ∷ xs) = x ∷ changed_at f p xs

-- once port p has given this answer: what is kept for it counts the frame
abbrev pub owns_after : {K : Type 0} → (K → Frame → K) → ℕ → Option Frame → List K → List K
owns_after handed p r ks = changed_at (own_after handed r) p ks

-- the kind's word on the first frame of port p; none, where there is no such port
abbrev pub word_at : {K : Type 0} → (K → ℕ → ℕ → Frame → Bool) → Model → List K → ℕ → Bool
word_at ready m ks p = passes (word ready m.slot (port_in m p)) (slice_get ks p)

-- the row of port p, and what it keeps; none, where there is no such port
abbrev pub RowAt : {K : Type 0} {g : Kind.Ghosts K} → Table K g → ℕ → Option (Bor (Row K)) → Type 0
RowAt t p None = (t.count ≤ p) × (port_in (table_model t) p ≡ vacant) × (slice_get (owns t) p ≡ None)
RowAt {g = g} t p (Some w) =
    (p < t.count) × (port_in (table_model t) p ≡ row_port w.now) × Whole g.keeps w.now × (slice_get (owns t) p ≡ Some w.now.own)
