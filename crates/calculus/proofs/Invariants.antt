-- What holds between any two steps.
use Rattle.std.proofs.Common.{◌≡◌, ℕ, ◌+◌, ◌*◌, ◌<◌, ◌≤◌, true, false, List, length, get_or}
use Rattle.std.specs.List.{AllByRecursion}
use Rattle.calculus.specs.Buckets.{Bucket}
use Rattle.calculus.specs.Laws.{Pairs}
use Rattle.calculus.specs.Ports.{Busy}
use Rattle.calculus.specs.Systems.{Everywhere, Port, System, Traced, World, arrived, base, came, idle, leg, line_at, reach, sum_of}
use Rattle.calculus.specs.Windows.{total}

-- no entry lies ahead
abbrev pub Seen : ℕ → List ℕ → Type 0
Seen now past = (k : ℕ) → k < length past → get_or past k 0 ≤ now

-- From hop k to the next one: at least the least stay; at most the greatest, unless the next hop is regulated;
-- and in any case no later after the last regulated hop than the greatest stays since allow.
pub record Way (S : System) (f k from at to : ℕ) : Type 0 where
  pub low : at + S.least (S.route f k) + 1 ≤ to
  pub high : S.regulated f (k + 1) ≡ false → to ≤ at + S.stay (S.route f k) + 1
  pub far : to ≤ from + reach S f k

abbrev pub Ways : System → ℕ → List ℕ → Type 0
Ways S f past = (k : ℕ) → k + 1 < length past → Way S f k (get_or past (base S f k) 0) (get_or past k 0) (get_or past (k + 1) 0)

-- a frame in the line of the port p
pub record Lined (S : System) (now p : ℕ) (x : Traced) : Type 0 where
  pub some : 0 < length x.past
  pub along : length x.past ≤ S.hops x.flow
  pub here : (k : ℕ) → k + 1 ≡ length x.past → S.route x.flow k ≡ p
  pub waits : now ≤ x.due + 1
  pub served : (k : ℕ) → k + 1 ≡ length x.past → x.due ≤ get_or x.past k 0 + S.stay p

-- a frame that has left a port
pub record Loose (S : System) (now : ℕ) (x : Traced) : Type 0 where
  pub some : 0 < length x.past
  pub along : length x.past ≤ S.hops x.flow
  pub ready : (k : ℕ) → k + 1 ≡ length x.past → k + 1 < S.hops x.flow
      → Way S x.flow k (get_or x.past (base S x.flow k) 0) (get_or x.past k 0) now

-- x came before y, wherever y has been
pub record Ahead (x y : Traced) : Type 0 where
  pub named : x.name < y.name
  pub there : (j : ℕ) → j < length y.past → j < length x.past
  pub sooner : (j : ℕ) → j < length y.past → get_or x.past j 0 ≤ get_or y.past j 0

-- x has gone farther than y, where s and t are 0 in a line and 1 for a loose frame
abbrev pub Cross : ℕ → ℕ → Traced → Traced → Type 0
Cross s t x y = x.flow ≡ y.flow → 2 * length y.past + t < 2 * length x.past + s → Ahead x y

abbrev pub Same : Traced → Traced → Type 0
Same x y = x.flow ≡ y.flow → length x.past ≡ length y.past → Ahead x y

abbrev pub Each : (ℕ → Traced → Type 0) → List Port → List Traced → Type 0
Each Q ports loose = AllByRecursion (Q 1) loose × ((p : ℕ) → AllByRecursion (Q 0) (line_at ports p))

pub record Ordered (ports : List Port) (loose : List Traced) : Type 0 where
  pub cross : Each (λ s x. Each (λ t y. Cross s t x y) ports loose) ports loose
  pub lined : (p : ℕ) → Pairs Same (line_at ports p)
  pub queued : Pairs Same loose

pub record Inv (S : System) (w : World) : Type 0 where
  pub size : length w.ports ≡ S.count
  pub ways : Everywhere (λ x. Ways S x.flow x.past) w.ports w.loose
  pub seen : Everywhere (λ x. Seen w.now x.past) w.ports w.loose
  pub lines : (p : ℕ) → AllByRecursion (Lined S w.now p) (line_at w.ports p)
  pub held : AllByRecursion (Loose S w.now) w.loose
  pub buckets : (f k : ℕ) → S.regulated f k ≡ true → Bucket (S.cap f) (S.pace f) w.now (w.level f k) (came w (leg f k))
  pub busy : (p : ℕ) → p < S.count → Busy (S.rate p) (get_or w.ports p idle).finish w.now (arrived S w p)
  pub order : Ordered w.ports w.loose
  pub kept : (g : ℕ → ℕ → ℕ → ℕ) → sum_of w.ports w.loose (λ x. g x.flow x.name x.len) ≡ total (λ x. g x.flow x.name x.len) w.taken
  pub known : (f n : ℕ) → AllByRecursion (λ x. x.flow ≡ f → x.name < n) w.taken → Everywhere (λ x. x.flow ≡ f → x.name < n) w.ports w.loose
