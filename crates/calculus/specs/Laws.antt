-- What holds in every run of a sound system, circles of ports included.
use Rattle.std.specs.Prelude.{◌≡◌, ℕ, ◌+◌, ◌<◌, ◌≤◌, List, [], ◌∷◌, length, slice_index}
use Rattle.std.specs.List.{AllByRecursion}
use Rattle.calculus.specs.Systems.{Everywhere, Reaches, Sound, System, Traced, World, came, empty, entry, leg, line_at, path, sum_of}
use Rattle.calculus.specs.Windows.{Conforms, total}

-- of each two elements of a list, in their order
abbrev pub Pairs : (Traced → Traced → Type 0) → List Traced → Type 0
Pairs R [] = Unit {0}
Pairs R (x ∷ xs) = AllByRecursion (R x) xs × Pairs R xs

-- a frame that has left its last port
abbrev pub Out : System → Traced → Type 0
Out S x = length x.past ≡ S.hops x.flow

pub record Lawful (S : System) (w : World) : Type 0 where
  -- at each hop each flow conforms to its curve
  pub conforms : (f k : ℕ) → k < S.hops f → Conforms (came w (leg f k)) (S.curve f k)
  -- from its first entry each frame comes to each hop within the greatest stays of the ports before: regulators add nothing
  pub timely : Everywhere (λ x. (k : ℕ) → k < length x.past → slice_index x.past k ≤ slice_index x.past 0 + path S x.flow k) w.ports w.loose
  -- one in a line has not been there for longer than the greatest stay
  pub waiting : (p : ℕ) → AllByRecursion (λ x. w.now ≤ entry x + S.stay p + 1) (line_at w.ports p)
  -- one before a hop has been under way for no longer than the greatest stays
  pub held : AllByRecursion (λ x. length x.past < S.hops x.flow → w.now ≤ slice_index x.past 0 + path S x.flow (length x.past)) w.loose
  -- a line whose frames have been there for at most d slots holds no more than its flows' curves have at d
  pub holds : (p d : ℕ) → AllByRecursion (λ x. w.now ≤ entry x + d) (line_at w.ports p)
      → total (λ x. x.len) (line_at w.ports p) ≤ total (λ c. S.curve c.flow c.hop d) (S.users p)
  -- each frame that was accepted is in a line or loose, once, and nothing else is
  pub kept : (g : ℕ → ℕ → ℕ → ℕ) → sum_of w.ports w.loose (λ x. g x.flow x.name x.len) ≡ total (λ x. g x.flow x.name x.len) w.taken
  -- the frames of a flow that are out came out in the order in which they were accepted
  pub order : Pairs (λ x y. x.flow ≡ y.flow → Out S x → Out S y → x.name < y.name) w.loose

abbrev pub EveryRun : Type 0
EveryRun = (S : System) → Sound S → (w : World) → Reaches S (empty S) w → Lawful S w
