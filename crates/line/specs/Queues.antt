-- What a queue holds, what the lent memory holds, and what each call does to both.
use Rattle.std.specs.Prelude.{◌≡◌, ℕ, ◌+◌, ◌<◌, ◌≤◌, List, [], ◌∷◌, ◌++◌, length, Some, None, Ok, Err, Option, Result, slice_index_or, slice_set}
use Rattle.line.specs.Ring.{turned, placed}
use Rattle.line.specs.declared.queue.Queue.{Queue}

-- what the lent memory holds, place by place
abbrev pub memory : {X : Type 0} → Queue X → List X
memory q = q.places.now

-- how many places were lent
abbrev pub room : {X : Type 0} → Queue X → ℕ
room q = length (memory q)

-- what the queue holds, the first to come out first
abbrev pub contents : {X : Type 0} → Queue X → List X
contents q = turned (memory q) q.first q.count

-- the queue stands where it stood, over the same memory
abbrev pub Same : {X : Type 0} → Queue X → Queue X → Type 0
Same q p = (p.first ≡ q.first) × (p.count ≡ q.count) × (memory p ≡ memory q)

-- one element more at the end, written into the next place; or, where every place is taken, the element handed back
abbrev pub Pushed : {X : Type 0} → Queue X → X → Result (Unit {0}) X → Queue X → Type 0
Pushed q v (Ok u) p =
    (q.count < room q) × (contents p ≡ contents q ++ v ∷ []) × (p.first ≡ q.first) × (p.count ≡ q.count + 1)
    × (memory p ≡ slice_set (memory q) (placed (room q) q.first q.count) v)
Pushed q v (Err w) p = (w ≡ v) × (q.count ≡ room q) × Same q p

-- the first element, taken out; or none, where there is none
abbrev pub Popped : {X : Type 0} → Queue X → Option X → Queue X → Type 0
Popped q None p = (contents q ≡ []) × (q.count ≡ 0) × Same q p
Popped q (Some v) p =
    (contents q ≡ v ∷ contents p) × (q.count ≡ p.count + 1) × (p.first ≡ placed (room q) q.first 0 + 1) × (memory p ≡ memory q)

-- the i-th element; or none, past the end
abbrev pub Looked : {X : Type 0} → Queue X → ℕ → Option X → Type 0
Looked q i None = q.count ≤ i
Looked q i (Some v) = (i < q.count) × (v ≡ slice_index_or (contents q) i v)
