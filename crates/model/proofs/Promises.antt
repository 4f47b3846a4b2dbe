-- What calm gives of every run: the promise.
use Rattle.std.proofs.Common.{◌≡◌, ℕ, zero, suc, ◌+◌, ◌<◌, ◌≤◌, Bool, cond, List, [], ◌∷◌, ◌++◌, map, sym, ap, ◌∙◌, subst, ap₂, arith}
use native.Mathlib.Decide.{ℕ_discrete}
use Rattle.std.proofs.ByRecursion.{All-append, All-map, All-weaker}
use Rattle.std.proofs.lemmas.Bool.{eq-eqb, ne_eqb}
use Rattle.std.specs.List.{AllByRecursion}
use Rattle.draft.specs.declared.parts.Parts.{Parts}
use Rattle.draft.specs.declared.table.Table.{Table}
use Rattle.plan.specs.Limits.{Kept}
use Rattle.table.specs.Accepts.{Accepted}
use Rattle.table.specs.Paths.{flow_delay}
use Rattle.service.specs.declared.frame.Frame.{Frame}
use Rattle.calculus.proofs.Orders.{all_mid}
use Rattle.calculus.specs.Systems.{line_at}
use Rattle.calculus.specs.Windows.{total}
use Rattle.model.proofs.Bounds.{line_bits}
use Rattle.model.proofs.Calm.{Calm, Fact, line_facts, run_calm, waiting_facts}
use Rattle.model.proofs.Chain.{chain_inside, flow_at_hop}
use Rattle.model.proofs.Picks.{same_head, same_tail, total_erase}
use Rattle.model.proofs.Plans.{fine}
use Rattle.model.proofs.Shows.{pend}
use Rattle.model.specs.Networks.{State, hops_of, route}
use Rattle.model.specs.Promises.{Promise, Promised}
use Rattle.model.specs.Runs.{Event, Sent, delivered, inside, inside_to, of_flow, sent, told}

-- what was accepted before the bound is not inside
cut : (b q : ℕ) (ds is before after : List Sent) (x : Sent) → before ++ x ∷ after ≡ ds ++ is → AllByRecursion (λ y. b ≤ y.origin + q) is → x.origin + q < b
    → (more : List Sent) × (ds ≡ before ++ x ∷ more)
cut b q [] is before after x e h late = absurd (omega (arith, all_mid (λ y. b ≤ y.origin + q) before x after (subst (AllByRecursion (λ y. b ≤ y.origin + q)) (sym e) h)))
cut b q (d ∷ ds) is [] after x e h late = (ds, ap (λ z. z ∷ ds) (sym (same_head x d after (ds ++ is) e)))
cut b q (d ∷ ds) is (y ∷ before) after x e h late = more (cut b q ds is before after x (same_tail y d (before ++ x ∷ after) (ds ++ is) e) h late)
  where
    more : (more : List Sent) × (ds ≡ before ++ x ∷ more) → (more : List Sent) × (d ∷ ds ≡ y ∷ before ++ x ∷ more)
    more (r, z) = (r, ap₂ (λ a l. a ∷ l) (sym (same_head y d (before ++ x ∷ after) (ds ++ is) e)) z)

all_of_flow : (A : Frame → Type 0) (f : ℕ) (xs : List Frame) → AllByRecursion (λ x. x.flow ≡ f → A x) xs → AllByRecursion A (of_flow f xs)
all_of_flow A f [] h = tt
all_of_flow A f (x ∷ xs) h = elim (ℕ_discrete x.flow f) [
  | yes e ↦ subst (AllByRecursion A) (ap (λ (b : Bool). cond b (x ∷ of_flow f xs) (of_flow f xs)) (sym (eq-eqb x.flow f e))) (h.0 e, all_of_flow A f xs h.1)
  | no e ↦ subst (AllByRecursion A) (ap (λ (b : Bool). cond b (x ∷ of_flow f xs) (of_flow f xs)) (sym (ne_eqb x.flow f e))) (all_of_flow A f xs h.1)
]

module _ (P : Parts) (t : Table) (kept : Kept P) (ok : Accepted P t) where
  calm_promise : (es : List Event) (st : State) → Calm P t es st → Promise P t es st
  calm_promise es st c = record {
    stays = λ p h. All-weaker _ _ (λ x a. a.stay) (st.line p) (facts p);
    stayed = c.timely;
    backlogs = λ p h. omega (
      arith,
      ap (total (λ (x : Frame). x.len)) (sym (c.shows.line p)),
      total_erase (line_at c.world.ports p),
      line_bits P t kept ok c.world c.shows.run c.shows.prompt p h,
    );
    delivers = λ f h before x after e late. cut st.slot (flow_delay P t f) (delivered P f es) (map told (inside P st f)) before after x
        (sym e ∙ order f h) (All-map (λ (y : Sent). st.slot ≤ y.origin + flow_delay P t f) told (inside P st f) (within f h)) late;
    order = order;
  }
    where
      facts : (p : ℕ) → AllByRecursion (Fact P t st p) (st.line p)
      facts = line_facts P t kept ok st (pend st.waiting []) c.world c.shows

      order : (f : ℕ) → f < P.size.flows → sent f es ≡ delivered P f es ++ map told (inside P st f)
      order f h = c.order f ∙ ap (λ l. delivered P f es ++ l)
          (sym (chain_inside P st f (hops_of P f)
          (λ k l. flow_at_hop P f k 0 (st.line (route P f k)) (All-weaker _ _ (one k l) (st.line (route P f k)) (facts (route P f k))))))
        where
          one : (k : ℕ) → k < hops_of P f → (x : Frame) → Fact P t st (route P f k) x → x.flow ≡ f → x.hop ≡ k
          one k l x a e = (fine P kept f h).apart x.hop k (subst (λ g. x.hop < hops_of P g) e a.along) l (ap (λ g. route P g x.hop) (sym e) ∙ a.here)

      within : (f : ℕ) → f < P.size.flows → AllByRecursion (λ x. st.slot ≤ x.origin + flow_delay P t f) (inside P st f)
      within f h = go (hops_of P f) (omega arith)
        where
          held : (k : ℕ) → k < hops_of P f → AllByRecursion (λ x. st.slot ≤ x.origin + flow_delay P t f) (st.waiting f k)
          held zero l = subst (AllByRecursion (λ x. st.slot ≤ x.origin + flow_delay P t f)) (sym (c.dry f 0 (fine P kept f h).first)) tt
          held (suc k) l = waiting_facts P t kept ok st c.world c.shows f k l

          go : (n : ℕ) → n ≤ hops_of P f → AllByRecursion (λ x. st.slot ≤ x.origin + flow_delay P t f) (inside_to P st f n)
          go zero l = tt
          go (suc k) l = All-append _ (of_flow f (st.line (route P f k))) (st.waiting f k ++ inside_to P st f k)
              (all_of_flow _ f (st.line (route P f k))
              (All-weaker _ _ (λ x a e. omega (arith, a.quote, ap (flow_delay P t) e)) (st.line (route P f k)) (facts (route P f k))))
              (All-append _ (st.waiting f k) (inside_to P st f k) (held k (omega arith)) (go k (omega arith)))

pub promised : Promised
promised P kept t ok es st r = calm_promise P t kept ok es st (run_calm P t kept ok es st r)
