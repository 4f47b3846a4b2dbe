-- Frames on fixed routes through ports, regulated at some hops: an abstract system that takes one step at a time.
use Rattle.std.specs.Prelude.{◌≡◌, ℕ, zero, suc, ◌+◌, ◌-◌, ◌*◌, ◌<◌, ◌≤◌, min, Bool, true, false, cond, ◌&&◌, ◌⊎◌, List, [], ◌∷◌, ◌++◌, length, get_or, replicate, ◌==◌, ◌≢◌, nat_lt, slice_index, slice_index_or, slice_set}
use Rattle.std.specs.List.{AllByRecursion}
use Rattle.rounding.specs.Quotients.{up}
use Rattle.calculus.specs.Ports.{finish_of}
use Rattle.calculus.specs.Windows.{hit, total}

-- a frame that carries its history
pub record Traced : Type 0 where
  pub flow : ℕ
  -- frames of a flow are named in the order in which they were accepted
  pub name : ℕ
  pub len : ℕ
  -- the slots in which it entered its ports, the first one first
  pub past : List ℕ
  -- the slot with whose end it has left the port that it is in
  pub due : ℕ

pub record Port : Type 0 where
  pub finish : ℕ
  pub line : List Traced

-- a flow at one of its hops
pub record Leg : Type 0 where
  pub flow : ℕ
  pub hop : ℕ

abbrev pub leg : ℕ → ℕ → Leg
leg f k = record { flow = f; hop = k }

-- What is fixed: the routes; for each port its rate, latency, least and greatest stay, and the burst of all that comes in;
-- for each flow and hop its arrival curve, and whether a token bucket of the flow's burst and rate holds it back there.
pub record System : Type 0 where
  pub count : ℕ
  pub route : ℕ → ℕ → ℕ
  pub hops : ℕ → ℕ
  -- which flows cross a port, and at which of their hops
  pub users : ℕ → List Leg
  pub rate : ℕ → ℕ
  pub latency : ℕ → ℕ
  pub least : ℕ → ℕ
  pub stay : ℕ → ℕ
  pub burst : ℕ → ℕ
  pub curve : ℕ → ℕ → ℕ → ℕ
  pub regulated : ℕ → ℕ → Bool
  pub cap : ℕ → ℕ
  pub pace : ℕ → ℕ

abbrev pub In : Leg → List Leg → Type 0
In c [] = ⊥
In c (d ∷ ds) = (c ≡ d) ⊎ In c ds

-- The figures fit one another: from hop to hop a curve grows by what the stay varies, unless a regulator puts it back; the curves at a port
-- together stay below its burst and its rate; and the greatest stay covers that burst.
pub record Sound (S : System) : Type 0 where
  pub placed : (f k : ℕ) → k < S.hops f → S.route f k < S.count
  pub used : (f k : ℕ) → k < S.hops f → In (leg f k) (S.users (S.route f k))
  pub real : (p : ℕ) → AllByRecursion (λ c. c.hop < S.hops c.flow) (S.users p)
  pub fed : (p : ℕ) → p < S.count → 0 < S.rate p
  pub ordered : (p : ℕ) → p < S.count → S.least p ≤ S.stay p
  pub first : (f : ℕ) → S.regulated f 0 ≡ true
  pub shaped : (f k n : ℕ) → S.regulated f k ≡ true → S.curve f k n ≡ S.cap f + S.pace f * n
  pub grows : (f k n : ℕ) → k + 1 < S.hops f → S.regulated f (k + 1) ≡ false
      → S.curve f k (n + (S.stay (S.route f k) - S.least (S.route f k))) ≤ S.curve f (k + 1) n
  pub shared : (p n : ℕ) → p < S.count → total (λ c. S.curve c.flow c.hop n) (S.users p) ≤ S.burst p + S.rate p * n
  pub covers : (p : ℕ) → p < S.count → S.latency p + up (S.burst p) (S.rate p) ≤ S.stay p

-- the last regulated hop up to k, and the most slots from the entry there to the entry at k
abbrev pub base : System → ℕ → ℕ → ℕ
base S f zero = zero
base S f (suc k) = cond (S.regulated f (suc k)) (suc k) (base S f k)

abbrev pub span : System → ℕ → ℕ → ℕ
span S f zero = zero
span S f (suc k) = cond (S.regulated f (suc k)) 0 (span S f k + S.stay (S.route f k) + 1)

-- the most slots from the entry at the last regulated hop up to k to the entry at the hop after k
abbrev pub reach : System → ℕ → ℕ → ℕ
reach S f k = span S f k + S.stay (S.route f k) + 1

-- the greatest stays of a flow's first k hops, and a slot each for the way
abbrev pub path : System → ℕ → ℕ → ℕ
path S f zero = zero
path S f (suc k) = path S f k + S.stay (S.route f k) + 1

-- A moment: the slot, the ports, the level of each bucket, all frames accepted so far; and the loose frames, which have left a port
-- and wait before the next one, or have left the last.
pub record World : Type 0 where
  pub now : ℕ
  pub ports : List Port
  pub loose : List Traced
  pub level : ℕ → ℕ → ℕ
  pub taken : List Traced

abbrev pub idle : Port
idle = record { finish = 0; line = [] }

abbrev pub line_at : List Port → ℕ → List Traced
line_at ports p = (get_or ports p idle).line

-- the slot in which a frame entered its port
abbrev pub entry : Traced → ℕ
entry x = slice_index x.past (length x.past - 1)

-- the bits of a frame of length l that entered its hop k in the slots u..v
unfoldable pub visit : ℕ → ℕ → ℕ → List ℕ → ℕ → ℕ
visit k u v past l = cond (nat_lt k (length past)) (hit u v (slice_index past k) l) 0

-- n at the flow f, and 0 at another
unfoldable pub only : ℕ → ℕ → ℕ → ℕ
only f g n = cond (f == g) n 0

abbrev pub crossing : Leg → ℕ → ℕ → Traced → ℕ
crossing c u v x = only c.flow x.flow (visit c.hop u v x.past x.len)

-- a sum over all frames, wherever they are
abbrev pub sum_of : List Port → List Traced → (Traced → ℕ) → ℕ
sum_of ports loose g = total g loose + total (λ p. total g p.line) ports

-- what holds of all frames, wherever they are
abbrev pub Everywhere : (Traced → Type 0) → List Port → List Traced → Type 0
Everywhere Q ports loose = AllByRecursion Q loose × ((p : ℕ) → AllByRecursion Q (line_at ports p))

-- the bits of a flow that entered a hop in the slots u..v
abbrev pub came : World → Leg → ℕ → ℕ → ℕ
came w c u v = sum_of w.ports w.loose (crossing c u v)

-- the bits that entered a port in the slots u..v
abbrev pub arrived : System → World → ℕ → ℕ → ℕ → ℕ
arrived S w p u v = total (λ c. came w c u v) (S.users p)

-- a frame as it enters the port q, of this finish, in the slot s
abbrev pub with_entry : System → ℕ → ℕ → ℕ → Traced → Traced
with_entry S q s F x =
    record { flow = x.flow; name = x.name; len = x.len; past = x.past ++ s ∷ []; due = up (finish_of (S.rate q) F s x.len) (S.rate q) + S.latency q }

abbrev pub port_with : System → ℕ → ℕ → Traced → Port → Port
port_with S q s x port = record { finish = finish_of (S.rate q) port.finish s x.len; line = port.line ++ with_entry S q s port.finish x ∷ [] }

abbrev pub enter : System → ℕ → ℕ → Traced → List Port → List Port
enter S q s x ports = slice_set ports q (port_with S q s x (slice_index_or ports q idle))

-- the port p with the rest of its line
abbrev pub popped : ℕ → List Traced → List Port → List Port
popped p rest ports = slice_set ports p (record { finish = (get_or ports p idle).finish; line = rest })

-- a frame that has entered nothing yet
abbrev pub bare : ℕ → ℕ → ℕ → Traced
bare f name len = record { flow = f; name = name; len = len; past = []; due = 0 }

-- the levels once l bits have passed the bucket of the flow f at its hop k
abbrev pub spent : ℕ → ℕ → ℕ → (ℕ → ℕ → ℕ) → ℕ → ℕ → ℕ
spent f k l level g j = cond (f == g && k == j) (level g j - l) (level g j)

-- the levels once a frame has entered its next hop
abbrev pub paid : System → Traced → (ℕ → ℕ → ℕ) → ℕ → ℕ → ℕ
paid S x level = cond (S.regulated x.flow (length x.past)) (spent x.flow (length x.past) x.len level) level

-- the levels a slot later
abbrev pub filled : System → (ℕ → ℕ → ℕ) → ℕ → ℕ → ℕ
filled S level f k = min (S.cap f) (level f k + S.pace f)

-- x and y are not of one flow before one hop
abbrev pub Apart : Traced → Traced → Type 0
Apart x y = x.flow ≡ y.flow → length x.past ≢ length y.past

abbrev pub taken_in : System → World → Traced → World
taken_in S w x =
    record {
      now = w.now;
      ports = enter S (S.route x.flow (length x.past)) w.now x w.ports;
      loose = w.loose;
      level =
          paid S x w.level;
      taken = w.taken ++ x ∷ [];
    }

abbrev pub departed : World → ℕ → Traced → List Traced → World
departed w p x rest = record { now = w.now; ports = popped p rest w.ports; loose = w.loose ++ x ∷ []; level = w.level; taken = w.taken }

abbrev pub joined : System → World → List Traced → Traced → List Traced → World
joined S w us x vs =
    record {
      now = w.now;
      ports = enter S (S.route x.flow (length x.past)) w.now x w.ports;
      loose = us ++ vs;
      level =
          paid S x w.level;
      taken = w.taken;
    }

abbrev pub ticked : System → World → World
ticked S w = record { now = w.now + 1; ports = w.ports; loose = w.loose; level = filled S w.level; taken = w.taken }

-- every loose frame is out, or stands before a regulator whose level does not cover the first of its flow there
abbrev pub Blocked : System → World → Type 0
Blocked S w =
    (us : List Traced) (x : Traced) (vs : List Traced) → w.loose ≡ us ++ x ∷ vs → length x.past < S.hops x.flow
    → (S.regulated x.flow (length x.past) ≡ true) × (AllByRecursion (Apart x) us → w.level x.flow (length x.past) < x.len)

pub data Step (S : System) : World → World → Type 0 where
  -- a frame with a name past all of its flow's enters its first port, if the flow's bucket covers its bits
  accepts : {w : World} (f name len : ℕ) → 0 < S.hops f → len ≤ w.level f 0 → AllByRecursion (λ y. y.flow ≡ f → y.name < name) w.taken
      → Step S w (taken_in S w (bare f name len))
  -- the first of a line leaves it, after the least stay
  leaves : {w : World} (p : ℕ) (x : Traced) (rest : List Traced) → line_at w.ports p ≡ x ∷ rest → entry x + S.least p + 1 ≤ w.now
      → Step S w (departed w p x rest)
  -- the first of its flow that is loose before a hop enters it, if no regulator stands there or its level covers the bits
  joins : {w : World} (us : List Traced) (x : Traced) (vs : List Traced) → w.loose ≡ us ++ x ∷ vs → AllByRecursion (Apart x) us → length x.past < S.hops x.flow
      → (S.regulated x.flow (length x.past) ≡ true → x.len ≤ w.level x.flow (length x.past)) → Step S w (joined S w us x vs)
  -- a slot begins once no frame that was due by the end of the slot before last is in a line, and the loose frames are out or held back
  ticks : {w : World} → ((p : ℕ) → AllByRecursion (λ x. w.now ≤ x.due) (line_at w.ports p)) → Blocked S w → Step S w (ticked S w)

pub data Reaches (S : System) (start : World) : World → Type 0 where
  here : Reaches S start start
  then : {v w : World} → Reaches S start v → Step S v w → Reaches S start w

-- no frame yet, and every bucket full
abbrev pub empty : System → World
empty S = record { now = 0; ports = replicate S.count idle; loose = []; level = λ f k. S.cap f; taken = [] }
