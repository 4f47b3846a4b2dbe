-- Sums and facts over all frames, as a line is changed.
use Rattle.std.proofs.Common.{◌≡◌, ℕ, zero, suc, ◌+◌, ◌<◌, ◌≤◌, List, [], ◌∷◌, length, get_or, set, replicate, sym, refl, ap, ◌∙◌, subst, inl, inr, arith}
use native.Mathlib.Decide.{dec_lt, ℕ_discrete}
use Rattle.std.proofs.ByRecursion.{All-from_get_or, All-push}
use Rattle.std.proofs.lemmas.List.{get_or_past, get_or-set_other, get_or-set_same}
use Rattle.std.specs.List.{AllByRecursion}
use Rattle.calculus.proofs.Sums.{total_add, total_at, total_below, total_le, total_push, total_set, total_zero}
use Rattle.calculus.specs.Systems.{Everywhere, In, Leg, Port, System, Traced, enter, idle, line_at, popped, port_with, sum_of, with_entry}
use Rattle.calculus.specs.Windows.{total}

pub total_in : (h : Leg → ℕ) (c : Leg) (cs : List Leg) → In c cs → h c ≤ total h cs
total_in h c [] m = absurd m
total_in h c (d ∷ cs) (inl e) = omega (arith, ap h e)
total_in h c (d ∷ cs) (inr m) = omega (arith, total_in h c cs m)

pub total_more : (h h' : Leg → ℕ) (c : Leg) (cs : List Leg) (l : ℕ) → ((d : Leg) → h d ≤ h' d) → h c + l ≤ h' c → In c cs → total h cs + l ≤ total h' cs
total_more h h' c [] l each more m = absurd m
total_more h h' c (d ∷ cs) l each more (inl e) = omega (arith, ap h e, ap h' e, total_below h h' cs each)
total_more h h' c (d ∷ cs) l each more (inr m) = omega (arith, each d, total_more h h' c cs l each more m)

-- a port with a line is one of the ports
pub at_port : (ports : List Port) (p : ℕ) (x : Traced) (rest : List Traced) → line_at ports p ≡ x ∷ rest → p < length ports
at_port ports p x rest e =
    elim (dec_lt p (length ports)) [ yes h ↦ h | no h ↦ absurd (never (ap Port.line (sym (get_or_past ports p idle (omega arith))) ∙ e)) ]
  where
    never : ◌≡◌ {A = List Traced} [] (x ∷ rest) → ⊥
    never q = let z : ◌≡◌ {A = ℕ} 0 1 = cc in omega arith

pub enter_sum : (S : System) (q s : ℕ) (x : Traced) (ports : List Port) (out : List Traced) (g : Traced → ℕ) → q < length ports →
    sum_of (enter S q s x ports) out g ≡ sum_of ports out g + g (with_entry S q s (get_or ports q idle).finish x)
enter_sum S q s x ports out g h =
    omega (
      arith,
      total_set (λ p. total g p.line) ports q (port_with S q s x (get_or ports q idle)) idle h,
      total_push g (line_at ports q) (with_entry S q s (get_or ports q idle).finish x),
    )

pub pop_sum : (p : ℕ) (x : Traced) (rest : List Traced) (ports : List Port) (out : List Traced) (g : Traced → ℕ) → line_at ports p ≡ x ∷ rest →
    sum_of (popped p rest ports) out g + g x ≡ sum_of ports out g
pop_sum p x rest ports out g e =
    omega (
      arith,
      total_set (λ p. total g p.line) ports p (record { finish = (get_or ports p idle).finish; line = rest }) idle
          (at_port ports p x rest e),
      ap (total g) e,
    )

pub every_sum : (f g : Traced → ℕ) (ports : List Port) (out : List Traced) → Everywhere (λ x. f x ≤ g x) ports out → sum_of ports out f ≤ sum_of ports out g
every_sum f g ports out (a, b) =
    omega (
      arith,
      total_le f g out a,
      total_le (λ p. total f p.line) (λ p. total g p.line) ports
          (All-from_get_or (λ p. total f p.line ≤ total g p.line) ports idle (λ i _. total_le f g (line_at ports i) (b i))),
    )

pub any_sum : (f g : Traced → ℕ) (ports : List Port) (out : List Traced) → ((x : Traced) → f x ≤ g x) → sum_of ports out f ≤ sum_of ports out g
any_sum f g ports out h = omega (
  arith,
  total_below f g out h,
  total_below (λ p. total f p.line) (λ p. total g p.line) ports (λ p. total_below f g p.line h),
)

pub line_sum : (g : Traced → ℕ) (ports : List Port) (out : List Traced) (p : ℕ) → total g (line_at ports p) ≤ sum_of ports out g
line_sum g ports out p =
    elim (dec_lt p (length ports)) [
      | yes h ↦ omega (arith, total_at (λ p. total g p.line) ports p idle h)
      | no h ↦ omega (arith, ap (λ (q : Port). total g q.line) (get_or_past ports p idle (omega arith)))
    ]

pub line_same : (ports : List Port) (q : ℕ) (y : Port) → q < length ports → line_at (set ports q y) q ≡ y.line
line_same ports q y h = ap Port.line (get_or-set_same ports q y idle h)

pub line_other : (ports : List Port) (q p : ℕ) (y : Port) → (p ≡ q → ⊥) → line_at (set ports q y) p ≡ line_at ports p
line_other ports q p y h = ap Port.line (get_or-set_other ports q p y idle h)

-- what holds of each line still holds where one line is replaced
pub all_set_line : (Q : ℕ → Traced → Type 0) (ports : List Port) (q : ℕ) (y : Port) → ((p : ℕ) → AllByRecursion (Q p) (line_at ports p)) → q < length ports
    → AllByRecursion (Q q) y.line → (p : ℕ) → AllByRecursion (Q p) (line_at (set ports q y) p)
all_set_line Q ports q y each h new p =
    elim (ℕ_discrete p q) [
      | yes e ↦ subst (λ r. AllByRecursion (Q r) (line_at (set ports q y) r)) (sym e) (subst (AllByRecursion (Q q)) (sym (line_same ports q y h)) new)
      | no e ↦ subst (AllByRecursion (Q p)) (sym (line_other ports q p y e)) (each p)
    ]

module _ (Q : ℕ → Traced → Type 0) (ports : List Port) (each : (p : ℕ) → AllByRecursion (Q p) (line_at ports p)) where
  pub all_enter : (S : System) (q s : ℕ) (x : Traced) → q < length ports → Q q (with_entry S q s (get_or ports q idle).finish x) → (p : ℕ)
      → AllByRecursion (Q p) (line_at (enter S q s x ports) p)
  all_enter S q s x h new = all_set_line Q ports q (port_with S q s x (get_or ports q idle)) each h (All-push (Q q) (line_at ports q) _ (each q) new)

  pub first_of : (r : ℕ) (x : Traced) (rest : List Traced) → line_at ports r ≡ x ∷ rest → Q r x × AllByRecursion (Q r) rest
  first_of r x rest e = subst (AllByRecursion (Q r)) e (each r)

  pub all_popped : (r : ℕ) (x : Traced) (rest : List Traced) → line_at ports r ≡ x ∷ rest → (p : ℕ) → AllByRecursion (Q p) (line_at (popped r rest ports) p)
  all_popped r x rest e = all_set_line Q ports r _ each (at_port ports r x rest e) (first_of r x rest e).1

sum_add : (f g : Traced → ℕ) (ports : List Port) (out : List Traced) → sum_of ports out (λ x. f x + g x) ≡ sum_of ports out f + sum_of ports out g
sum_add f g ports out = omega (arith, total_add f g out, lines ports)
  where
    lines : (ports : List Port) → total (λ p. total (λ x. f x + g x) p.line) ports ≡ total (λ p. total f p.line) ports + total (λ p. total g p.line) ports
    lines [] = refl
    lines (p ∷ ps) = omega (arith, lines ps, total_add f g p.line)

pub sum_zero : (ports : List Port) (out : List Traced) → sum_of ports out (λ x. 0) ≡ 0
sum_zero ports out = omega (arith, total_zero out, lines ports)
  where
    lines : (ports : List Port) → total (λ p. total (λ x. 0) p.line) ports ≡ 0
    lines [] = refl
    lines (p ∷ ps) = omega (arith, lines ps, total_zero p.line)

pub sum_swap : (f : Leg → Traced → ℕ) (ports : List Port) (out : List Traced) (cs : List Leg)
    → sum_of ports out (λ x. total (λ c. f c x) cs) ≡ total (λ c. sum_of ports out (f c)) cs
sum_swap f ports out [] = sum_zero ports out
sum_swap f ports out (c ∷ cs) = sum_add (f c) (λ x. total (λ c. f c x) cs) ports out ∙ ap (λ n. sum_of ports out (f c) + n) (sum_swap f ports out cs)

pub idle_at : (n p : ℕ) → get_or (replicate n idle) p idle ≡ idle
idle_at zero p = refl
idle_at (suc n) zero = refl
idle_at (suc n) (suc p) = idle_at n p

pub idle_sum : (g : Traced → ℕ) (n : ℕ) → total (λ (p : Port). total g p.line) (replicate n idle) ≡ 0
idle_sum g zero = refl
idle_sum g (suc n) = omega (arith, idle_sum g n)
