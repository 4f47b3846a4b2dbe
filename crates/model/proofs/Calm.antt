-- Between calls every run is calm.
use Rattle.std.proofs.Common.{◌≡◌, ℕ, zero, suc, ◌+◌, ◌-◌, ◌<◌, ◌≤◌, true, false, List, [], ◌∷◌, ◌++◌, map, length, get_or, sym, refl, ap, ◌∙◌, subst, ap₂, append_assoc, append-nil, arith}
use Rattle.std.proofs.ByRecursion.{All-append, All-map, All-push, All-weaker}
use Rattle.std.specs.List.{AllByRecursion}
use Rattle.draft.specs.declared.parts.Parts.{Parts}
use Rattle.draft.specs.declared.table.Table.{Table}
use Rattle.plan.specs.Limits.{Kept}
use Rattle.table.specs.Accepts.{Accepted}
use Rattle.table.specs.Loads.{delay}
use Rattle.table.specs.Paths.{flow_delay}
use Rattle.service.specs.declared.frame.Frame.{Frame}
use Rattle.calculus.proofs.Invariants.{Inv, Lined}
use Rattle.calculus.proofs.Laws.{every_run}
use Rattle.calculus.proofs.Orders.{all_both}
use Rattle.calculus.specs.Laws.{Lawful}
use Rattle.calculus.specs.Systems.{Traced, World, empty, entry, line_at, path}
use Rattle.model.proofs.Bounds.{near}
use Rattle.model.proofs.Cells.{dec_both, with_cell_other}
use Rattle.model.proofs.Chain.{blocks, chain, chain_offer, chain_take, delivered_push, row, sent_push}
use Rattle.model.proofs.Moves.{Settled, Told, offer_shows, offer_tells, start_shows, turn}
use Rattle.model.proofs.Picks.{all_front, erase, loose_at, loose_no, loose_yes}
use Rattle.model.proofs.Plans.{fine, real_flow}
use Rattle.model.proofs.Releases.{Ended, end_all, stuck_same}
use Rattle.model.proofs.Shows.{Shows, inv_of, pend}
use Rattle.model.proofs.Slots.{Mid, lossless, passes_all}
use Rattle.model.proofs.Soundness.{path_le, path_lt, path_quoted, sound, system_of}
use Rattle.model.specs.Networks.{Ending, Handed, State, fresh, gated, gather, hops_of, offered, offers, passes, releases, risen, route, slot_end, tray}
use Rattle.model.specs.Promises.{Timely}
use Rattle.model.specs.Runs.{Event, Run, Sent, accepted, accepts, asked, asks, at_hop, begun, delivered, delivered_by, ended, ends, goes_on, refused, refuses, sent, sent_by, told, unended}

-- what holds of a frame in a line
pub record Fact (P : Parts) (t : Table) (st : State) (p : ℕ) (x : Frame) : Type 0 where
  pub along : suc x.hop ≤ hops_of P x.flow
  pub here : route P x.flow x.hop ≡ p
  pub stay : st.slot ≤ x.entry + delay P t p
  pub quote : st.slot ≤ x.origin + flow_delay P t x.flow

-- between calls: a world of the calculus is shown, no regulator could let out more, and each flow's frames are in order
pub record Calm (P : Parts) (t : Table) (es : List Event) (st : State) : Type 0 where
  pub world : World
  pub shows : Shows P t st (pend st.waiting []) world
  pub settled : Settled P st
  pub dry : (f k : ℕ) → gated P f k ≡ false → st.waiting f k ≡ []
  pub order : (f : ℕ) → sent f es ≡ delivered P f es ++ chain P st [] f
  pub timely : AllByRecursion (Timely P t) es

pub gather_all : (A : Frame → Type 0) (taken : ℕ → List Frame) → ((p : ℕ) → AllByRecursion A (taken p)) → (n : ℕ) → AllByRecursion A (gather n taken)
gather_all A taken h zero = tt
gather_all A taken h (suc n) = All-append A (gather n taken) (taken n) (gather_all A taken h n) (h n)

all_loose_at : (A : Traced → Type 0) (f n : ℕ) (xs : List Traced) → AllByRecursion (λ x. x.flow ≡ f → length x.past ≡ n → A x) xs → AllByRecursion A (loose_at f n xs)
all_loose_at A f n [] h = tt
all_loose_at A f n (x ∷ xs) h = elim (dec_both x.flow f (length x.past) n) [
  | yes e ↦ subst (AllByRecursion A) (sym (loose_yes f n x xs e.0 e.1)) (h.0 e.0 e.1, all_loose_at A f n xs h.1)
  | no e ↦ subst (AllByRecursion A) (sym (loose_no f n x xs (λ a b. e (a, b)))) (all_loose_at A f n xs h.1)
]

module _ (P : Parts) (t : Table) (kept : Kept P) (ok : Accepted P t) where
  pub line_facts : (st : State) (p : ℕ → ℕ → List Frame) (w : World) → Shows P t st p w → (q : ℕ) → AllByRecursion (Fact P t st q) (st.line q)
  line_facts st p w sh q = subst (AllByRecursion (Fact P t st q)) (sh.line q) (All-map (Fact P t st q) erase (line_at w.ports q)
      (all_both _ _ _ (λ x a b. b a) (line_at w.ports q) (good.timely.1 q)
      (all_both _ _ (λ x. ((k : ℕ) → k < length x.past → get_or x.past k 0 ≤ get_or x.past 0 0 + path (system_of P t) x.flow k)
      → Fact P t st q (erase x)) (λ x a b c. fact x a b c) (line_at w.ports q) (inv.lines q) (near P t kept ok w sh.run sh.prompt q))))
    where
      inv : Inv (system_of P t) w
      inv = inv_of P t kept ok st p w sh

      good : Lawful (system_of P t) w
      good = every_run (system_of P t) (sound P t kept ok) w sh.run

      fact : (x : Traced) → Lined (system_of P t) w.now q x → w.now ≤ entry x + delay P t q
          → ((k : ℕ) → k < length x.past → get_or x.past k 0 ≤ get_or x.past 0 0 + path (system_of P t) x.flow k) → Fact P t st q (erase x)
      fact x a b c = record {
        along = omega (arith, a.some, a.along);
        here = here;
        stay = omega (arith, b, sh.slot);
        quote = omega (
          arith,
          b,
          sh.slot,
          c k (omega (arith, a.some)),
          path_le (system_of P t) x.flow (suc k) (hops_of P x.flow) (omega (arith, a.some, a.along)),
          path_quoted P t kept ok x.flow (real_flow P x.flow k (omega (arith, a.some, a.along))),
          ap (delay P t) here,
        );
      }
        where
          k : ℕ
          k = length x.past - 1

          here : route P x.flow (length x.past - 1) ≡ q
          here = a.here (length x.past - 1) (omega (arith, a.some))

  pub waiting_facts : (st : State) (w : World) → Shows P t st (pend st.waiting []) w → (f k : ℕ) → suc k < hops_of P f
      → AllByRecursion (λ x. st.slot ≤ x.origin + flow_delay P t f) (st.waiting f (suc k))
  waiting_facts st w sh f k room = subst (AllByRecursion (λ x. st.slot ≤ x.origin + flow_delay P t f)) (sh.loose f k room ∙ append-nil (st.waiting f (suc k)))
      (All-map (λ x. st.slot ≤ x.origin + flow_delay P t f) erase (loose_at f (suc k) w.loose)
      (all_loose_at _ f (suc k) w.loose (All-weaker _ _ each w.loose (every_run (system_of P t) (sound P t kept ok) w sh.run).held)))
    where
      each : (x : Traced) → (length x.past < hops_of P x.flow → w.now ≤ get_or x.past 0 0 + path (system_of P t) x.flow (length x.past))
          → x.flow ≡ f → length x.past ≡ suc k → st.slot ≤ get_or x.past 0 0 + flow_delay P t f
      each x h e q = omega (
        arith,
        sh.slot,
        subst (λ g. w.now ≤ get_or x.past 0 0 + path (system_of P t) g (length x.past)) e
            (h (subst (λ g. length x.past < hops_of P g) (sym e) (omega arith))),
        path_lt (system_of P t) f (length x.past) (hops_of P f) (omega arith),
        path_quoted P t kept ok f (real_flow P f (suc k) room),
      )

  calm_start : Calm P t [] (fresh P)
  calm_start = record {
    world = empty (system_of P t);
    shows = start_shows P t kept ok;
    settled = λ f k h. tt;
    dry = λ f k e. refl;
    order =
        λ f. none (hops_of P f);
    timely = tt;
  }
    where
      none : (n : ℕ) → ◌≡◌ {A = List Sent} [] (blocks (row P (fresh P) [] 0) n)
      none zero = refl
      none (suc n) = none n

  calm_offer : (es : List Event) (st : State) (f n : ℕ) → Calm P t es st → offers P st f n ≡ true → Calm P t (es ++ accepted f n st.slot ∷ []) (offered P st f n)
  calm_offer es st f n c e = from (offer_shows P t kept ok st c.world c.shows f n told')
    where
      told' : Told P st f n
      told' = offer_tells P st f n e

      from : (w' : World) × Shows P t (offered P st f n) (pend st.waiting []) w' → Calm P t (es ++ accepted f n st.slot ∷ []) (offered P st f n)
      from (w', sh) = record {
        world = w';
        shows = sh;
        settled = λ g k h. stuck_same P st (offered P st f n) g (suc k) refl
            (with_cell_other f 0 (st.level f 0 - n) st.level g (suc k) (λ _ z. omega arith)) (c.settled g k h);
        dry = c.dry;
        order = λ g. sent_push g es (accepted f n st.slot) ∙ ap (λ l. l ++ sent_by g (accepted f n st.slot)) (c.order g)
            ∙ append_assoc (delivered P g es) (chain P st [] g) (sent_by g (accepted f n st.slot))
            ∙ ap₂ (λ a b. a ++ b) (sym (append-nil (delivered P g es)) ∙ sym (delivered_push P g es (accepted f n st.slot)))
            (sym (chain_offer P st f n (fine P kept f told'.known).some (c.dry f 0 (fine P kept f told'.known).first) g));
        timely = All-push (Timely P t) es (accepted f n st.slot) c.timely tt;
      }

  -- a call that neither accepts nor hands over anything
  calm_quiet : (es : List Event) (st : State) (e : Event) → ((f : ℕ) → sent_by f e ≡ []) → ((f : ℕ) → delivered_by P f e ≡ []) → Timely P t e
      → Calm P t es st → Calm P t (es ++ e ∷ []) st
  calm_quiet es st e none gone fair c =
      record {
        world = c.world;
        shows = c.shows;
        settled = c.settled;
        dry = c.dry;
        order = λ f. sent_push f es e ∙ ap (λ l. sent f es ++ l) (none f) ∙ append-nil (sent f es) ∙ c.order f
            ∙ ap (λ l. l ++ chain P st [] f) (sym (delivered_push P f es e ∙ ap (λ l. delivered P f es ++ l) (gone f) ∙ append-nil (delivered P f es)));
        timely = All-push (Timely P t) es e c.timely fair;
      }

  calm_end : (es : List Event) (st : State) (taken rest : ℕ → List Frame) → Calm P t es st → st.slot < 1000000000000 → Handed P st taken rest
      → Calm P t (es ++ ended st.slot (tray P taken) (slot_end P taken rest st).lost ∷ []) (slot_end P taken rest st).state
  calm_end es st taken rest c early hd = risen_on (turn P t kept ok st c.world c.shows c.settled taken rest early hd)
    where
      facts : (p : ℕ) → AllByRecursion (Fact P t st p) (st.line p)
      facts = line_facts st (pend st.waiting []) c.world c.shows

      of_taken : (A : ℕ → Frame → Type 0) → ((p : ℕ) (x : Frame) → Fact P t st p x → A p x) → (p : ℕ) → AllByRecursion (A p) (taken p)
      of_taken A h p = all_front (A p) (taken p) (rest p) (subst (AllByRecursion (A p)) (hd.split p) (All-weaker _ _ (h p) (st.line p) (facts p)))

      stays : AllByRecursion (λ x. st.slot ≤ x.entry + delay P t (route P x.flow x.hop)) (tray P taken)
      stays = gather_all _ taken (of_taken (λ _ x. st.slot ≤ x.entry + delay P t (route P x.flow x.hop))
          (λ p x a. omega (arith, a.stay, ap (delay P t) a.here))) P.size.ports

      risen_on : (w' : World) × Shows P t (risen P rest st) (pend st.waiting (tray P taken)) w'
          → Calm P t (es ++ ended st.slot (tray P taken) (slot_end P taken rest st).lost ∷ []) (slot_end P taken rest st).state
      risen_on (w', sh) = passed_on (passes_all P t kept ok (λ f. sent f es) (tray P taken) (risen P rest st) (λ f. delivered P f es) (record {
        world = w';
        shows = sh;
        dry = c.dry;
        fine = gather_all _ taken (of_taken (λ _ x. suc x.hop ≤ hops_of P x.flow) (λ p x a. a.along)) P.size.ports;
        order = λ f. c.order f ∙ ap (λ l. delivered P f es ++ l)
            (chain_take P st taken rest hd.split (λ p. All-weaker _ _ (λ x a. a.here) (st.line p) (facts p)) f
            (λ k h. (sound P t kept ok).placed f k h));
      }))
        where
          passed_on : (st₁ : State) × (passes P (tray P taken) (lossless (risen P rest st)) ≡ lossless st₁)
              × Mid P t (λ f. sent f es) st₁ [] (λ f. delivered P f es ++ map told (at_hop f (hops_of P f - 1) (tray P taken))) →
              Calm P t (es ++ ended st.slot (tray P taken) (slot_end P taken rest st).lost ∷ []) (slot_end P taken rest st).state
          passed_on (st₁, e₁, m₁) = last (end_all P t kept ok (λ f. sent f es)
              (λ f. delivered P f es ++ map told (at_hop f (hops_of P f - 1) (tray P taken))) st₁ m₁)
            where
              last : Ended P t kept ok (λ f. sent f es) (λ f. delivered P f es ++ map told (at_hop f (hops_of P f - 1) (tray P taken)))
                  (releases P P.size.flows (lossless st₁)) →
                  Calm P t (es ++ ended st.slot (tray P taken) (slot_end P taken rest st).lost ∷ []) (slot_end P taken rest st).state
              last r = subst (λ (v : Ending). Calm P t (es ++ ended st.slot (tray P taken) v.lost ∷ []) v.state)
                  (sym (ap (releases P P.size.flows) e₁ ∙ r.same)) (record {
                    world = r.mid.world;
                    shows = r.mid.shows;
                    settled = r.settled;
                    dry = r.mid.dry;
                    order = λ f. sent_push f es (ended st.slot (tray P taken) 0) ∙ append-nil (sent f es) ∙ r.mid.order f
                        ∙ ap (λ l. l ++ chain P r.after [] f) (sym (delivered_push P f es (ended st.slot (tray P taken) 0)));
                    timely = All-push (Timely P t) es (ended st.slot (tray P taken) 0) c.timely (stays, refl);
                  })

  pub run_calm : (es : List Event) (st : State) → Run P es st → Calm P t es st
  run_calm es st begun = calm_start
  run_calm es st (accepts {es = ds} {st = s} f n r e) = calm_offer ds s f n (run_calm ds s r) e
  run_calm es st (refuses {es = ds} f n r e) = calm_quiet ds st (refused f n) (λ g. refl) (λ g. refl) tt (run_calm ds st r)
  run_calm es st (goes_on {es = ds} r) = calm_quiet ds st unended (λ g. refl) (λ g. refl) tt (run_calm ds st r)
  run_calm es st (asks {es = ds} r) = calm_quiet ds st asked (λ g. refl) (λ g. refl) tt (run_calm ds st r)
  run_calm es st (ends {es = ds} {st = s} taken rest r early hd) = calm_end ds s taken rest (run_calm ds s r) early hd
