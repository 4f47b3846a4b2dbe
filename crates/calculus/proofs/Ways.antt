-- The way of a frame from hop to hop, and what entering one changes.
use Rattle.std.proofs.Common.{◌≡◌, ℕ, zero, suc, ◌+◌, ◌-◌, ◌<◌, ◌≤◌, Bool, true, false, cond, List, [], ◌∷◌, ◌++◌, length, get_or, sym, refl, ap, ◌∙◌, add-one, arith}
use native.Mathlib.Decide.{dec_lt, ℕ_discrete}
use Rattle.std.proofs.lemmas.List.{get_or_append_left, get_or_push, length_push}
use Rattle.std.proofs.lemmas.Bool.Decides.{nat_tests}
use Rattle.std.specs.List.{AllByRecursion}
use Rattle.calculus.proofs.Invariants.{Same, Way, Ways}
use Rattle.calculus.proofs.Sums.{total_append}
use Rattle.calculus.proofs.Visits.{only_other, visit_none, visit_old}
use Rattle.calculus.specs.Laws.{Pairs}
use Rattle.calculus.specs.Systems.{Apart, Leg, Port, System, Traced, base, crossing, only, paid, span, spent, sum_of, visit, with_entry}
use Rattle.calculus.specs.Windows.{total}

pub base_le : (S : System) (f k : ℕ) → base S f k ≤ k
base_le S f zero = omega arith
base_le S f (suc k) = go (base_le S f k) (S.regulated f (suc k))
  where
    go : base S f k ≤ k → (b : Bool) → cond b (suc k) (base S f k) ≤ suc k
    go ih true = omega arith
    go ih false = omega arith

pub base_regulated : (S : System) → ((f : ℕ) → S.regulated f 0 ≡ true) → (f k : ℕ) → S.regulated f (base S f k) ≡ true
base_regulated S first f zero = first f
base_regulated S first f (suc k) = go (base_regulated S first f k) (S.regulated f (suc k)) refl
  where
    go : S.regulated f (base S f k) ≡ true → (b : Bool) → S.regulated f (suc k) ≡ b → S.regulated f (cond b (suc k) (base S f k)) ≡ true
    go ih true e = e
    go ih false e = ih

pub spanned : (S : System) (f : ℕ) (past : List ℕ) → Ways S f past → (k : ℕ) → k < length past → get_or past k 0 ≤ get_or past (base S f k) 0 + span S f k
spanned S f past ways zero h = omega arith
spanned S f past ways (suc k) h = go (spanned S f past ways k (omega arith)) (S.regulated f (suc k)) refl
  where
    go : get_or past k 0 ≤ get_or past (base S f k) 0 + span S f k → (b : Bool) → S.regulated f (suc k) ≡ b
        → get_or past (suc k) 0 ≤ get_or past (cond b (suc k) (base S f k)) 0 + cond b 0 (span S f k + S.stay (S.route f k) + 1)
    go ih true e = omega arith
    go ih false e = omega (arith, ih, rw (add-one k) at ((ways k (omega arith)).high (rw (add-one k) e)))

pub ways_push : (S : System) (f s : ℕ) (past : List ℕ) → Ways S f past
    → ((k : ℕ) → k + 1 ≡ length past → Way S f k (get_or past (base S f k) 0) (get_or past k 0) s) → Ways S f (past ++ s ∷ [])
ways_push S f s past ways last k h =
    rw (
      get_or_append_left past (s ∷ []) 0 k (omega (arith, length_push past s)),
      get_or_append_left past (s ∷ []) 0 (base S f k) (omega (arith, length_push past s, base_le S f k)),
    ) (go (dec_lt (k + 1) (length past)))
  where
    go : Dec (k + 1 < length past) → Way S f k (get_or past (base S f k) 0) (get_or past k 0) (get_or (past ++ s ∷ []) (k + 1) 0)
    go (yes l) = rw (get_or_append_left past (s ∷ []) 0 (k + 1) l) (ways k l)
    go (no l) = rw (get_or_push past s 0 (k + 1) (omega (arith, length_push past s))) (last k (omega (arith, length_push past s)))

pub paid_here : (S : System) (x : Traced) (level : ℕ → ℕ → ℕ) → S.regulated x.flow (length x.past) ≡ true
    → paid S x level x.flow (length x.past) ≡ level x.flow (length x.past) - x.len
paid_here S x level g = ap (λ (b : Bool). cond b (spent x.flow (length x.past) x.len level) level x.flow (length x.past)) g ∙ grind (arith, nat_tests)

pub paid_other : (S : System) (x : Traced) (level : ℕ → ℕ → ℕ) (f k : ℕ) → (f ≡ x.flow → k ≡ length x.past → ⊥) → paid S x level f k ≡ level f k
paid_other S x level f k h = go (S.regulated x.flow (length x.past))
  where
    go : (b : Bool) → cond b (spent x.flow (length x.past) x.len level) level f k ≡ level f k
    go true = grind (arith, nat_tests)
    go false = refl

-- a frame that enters a hop changes the windows of that hop alone
pub crossing_other : (S : System) (q s F : ℕ) (x : Traced) (c : Leg) (u v : ℕ) → (c.flow ≡ x.flow → c.hop ≡ length x.past → ⊥)
    → crossing c u v (with_entry S q s F x) ≡ crossing c u v x
crossing_other S q s F x c u v away =
    elim (ℕ_discrete c.flow x.flow) [
      | no e ↦ only_other c.flow x.flow _ e ∙ sym (only_other c.flow x.flow _ e)
      | yes e ↦ ap (only c.flow x.flow) (go (dec_lt c.hop (length x.past)) (away e))
    ]
  where
    go : Dec (c.hop < length x.past) → (c.hop ≡ length x.past → ⊥) → visit c.hop u v (x.past ++ s ∷ []) x.len ≡ visit c.hop u v x.past x.len
    go (yes l) n = visit_old c.hop u v x.len s x.past l
    go (no l) n = visit_none c.hop u v x.len (x.past ++ s ∷ []) (omega (arith, length_push x.past s))
        ∙ sym (visit_none c.hop u v x.len x.past (omega arith))

-- sums over a list with a place picked out
pub mid_total : (g : Traced → ℕ) (us : List Traced) (x : Traced) (vs : List Traced) → total g (us ++ x ∷ vs) ≡ total g (us ++ vs) + g x
mid_total g us x vs = omega (arith, total_append g us (x ∷ vs), total_append g us vs)

pub mid_sum : (ports : List Port) (loose us : List Traced) (x : Traced) (vs : List Traced) (g : Traced → ℕ) → loose ≡ us ++ x ∷ vs
    → sum_of ports loose g ≡ sum_of ports (us ++ vs) g + g x
mid_sum ports loose us x vs g e = omega (arith, ap (total g) e, mid_total g us x vs)

pub all_from_splits : (A : Traced → Type 0) (xs : List Traced) → ((us : List Traced) (x : Traced) (vs : List Traced) → xs ≡ us ++ x ∷ vs → A x) → AllByRecursion A xs
all_from_splits A [] f = tt
all_from_splits A (x ∷ xs) f = (f [] x xs refl, all_from_splits A xs (λ us y vs e. f (x ∷ us) y vs (ap (λ zs. x ∷ zs) e)))

-- the first of a frame's flow at its hop
pub record First (xs : List Traced) (y : Traced) : Type 0 where
  pub us : List Traced
  pub e : Traced
  pub vs : List Traced
  pub split : xs ≡ us ++ e ∷ vs
  pub apart : AllByRecursion (Apart e) us
  pub flow : e.flow ≡ y.flow
  pub hop : length e.past ≡ length y.past
  pub sooner : (j : ℕ) → j < length y.past → get_or e.past j 0 ≤ get_or y.past j 0

pub find_first : (us : List Traced) (y : Traced) (vs : List Traced) → Pairs Same (us ++ y ∷ vs) → First (us ++ y ∷ vs) y
find_first [] y vs h = record { us = []; e = y; vs = vs; split = refl; apart = tt; flow = refl; hop = refl; sooner = λ j l. omega arith }
find_first (u ∷ us) y vs h = go (ℕ_discrete u.flow y.flow) (ℕ_discrete (length u.past) (length y.past)) (find_first us y vs h.1)
  where
    mid : (us : List Traced) → AllByRecursion (Same u) (us ++ y ∷ vs) → Same u y
    mid [] k = k.0
    mid (v ∷ us) k = mid us k.1

    later : (u.flow ≡ y.flow → length u.past ≡ length y.past → ⊥) → First (us ++ y ∷ vs) y → First (u ∷ us ++ y ∷ vs) y
    later n r = record {
      us = u ∷ r.us;
      e = r.e;
      vs = r.vs;
      split = ap (λ zs. u ∷ zs) r.split;
      apart =
          ((λ p q. n (sym p ∙ r.flow) (sym q ∙ r.hop)), r.apart);
      flow = r.flow;
      hop = r.hop;
      sooner = r.sooner;
    }

    go : Dec (u.flow ≡ y.flow) → Dec (length u.past ≡ length y.past) → First (us ++ y ∷ vs) y → First (u ∷ us ++ y ∷ vs) y
    go (yes p) (yes q) r = record { us = []; e = u; vs = us ++ y ∷ vs; split = refl; apart = tt; flow = p; hop = q; sooner = (mid us h.0 p q).sooner }
    go (yes p) (no q) r = later (λ _ k. q k) r
    go (no p) _ r = later (λ k _. p k) r
