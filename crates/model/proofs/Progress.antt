-- Along a line the due slots rise, and each frame has stayed m when it is due: so a slot can always end.
use Rattle.std.proofs.Common.{◌≡◌, ℕ, zero, suc, ◌+◌, ◌*◌, ◌<◌, ◌≤◌, Bool, true, false, cond, ◌&&◌, ltb, leb, List, [], ◌∷◌, ◌++◌, map, length, sym, refl, ap, ◌∙◌, subst, arith}
use native.Mathlib.Decide.{dec_lt, ℕ_discrete}
use Rattle.std.proofs.ByRecursion.{All-push, All-weaker}
use Rattle.std.proofs.lemmas.List.{get_or_past}
use Rattle.std.proofs.lemmas.Bool.{leb-false, leb-true}
use Rattle.std.proofs.lemmas.Bool.Decides.{nat_tests}
use Rattle.std.specs.List.{AllByRecursion}
use Rattle.rounding.proofs.Ceilings.{up_rises, up_shifts}
use Rattle.rounding.specs.Quotients.{up}
use Rattle.draft.specs.Plans.{flow_at, port_at}
use Rattle.draft.specs.declared.parts.Parts.{Parts}
use Rattle.plan.specs.Limits.{Kept, PortKept}
use Rattle.service.specs.declared.frame.Frame.{Frame}
use Rattle.calculus.specs.Systems.{Port, idle}
use Rattle.model.proofs.Calm.{Calm, run_calm}
use Rattle.model.proofs.Cells.{with_at_other, with_at_same}
use Rattle.model.proofs.Picks.{all_back, erase}
use Rattle.model.proofs.Plans.{fine}
use Rattle.model.proofs.Shows.{inv_of, pend}
use Rattle.model.specs.Networks.{Ending, State, finish_with, gated, hops_of, join, let_out, lets_in, new_frame, next, offers, owed, pass, passes, placed, put, regulators, release, releases, risen, route, spare, spend, stamped, tray, wait}
use Rattle.model.specs.Promises.{NeverStuck}
use Rattle.model.specs.Runs.{Event, Run, accepts, asks, begun, ends, goes_on, refuses}

abbrev Rises : List Frame → Type 0
Rises [] = Unit {0}
Rises (x ∷ xs) = AllByRecursion (λ y. x.due ≤ y.due) xs × Rises xs

rises_push : (xs : List Frame) (y : Frame) → Rises xs → AllByRecursion (λ x. x.due ≤ y.due) xs → Rises (xs ++ y ∷ [])
rises_push [] y h k = (tt, tt)
rises_push (x ∷ xs) y h k = (All-push (λ z. x.due ≤ z.due) xs y h.0 k.0, rises_push xs y h.1 k.1)

rises_back : (xs ys : List Frame) → Rises (xs ++ ys) → Rises ys
rises_back [] ys h = h
rises_back (x ∷ xs) ys h = rises_back xs ys h.1

-- one port's line, with the port's finish
record Fair (P : Parts) (p F : ℕ) (xs : List Frame) : Type 0 where
  rises : Rises xs
  last : AllByRecursion (λ x. x.due ≤ up F (port_at P p).rate + (port_at P p).latency) xs
  late : AllByRecursion (λ x. x.entry + (port_at P p).stay ≤ x.due) xs

abbrev Fairs : Parts → State → Type 0
Fairs P st = (p : ℕ) → p < P.size.ports → Fair P p (st.finish p) (st.line p)

-- a frame of at least the port's shortest length enters
enter_fair : (P : Parts) (st : State) (x : Frame) → Kept P → (port_at P (route P x.flow x.hop)).shortest ≤ x.len → Fairs P st → Fairs P (placed P st x)
enter_fair P st x kept long h p inn =
    elim (ℕ_discrete p q) [
      | yes e ↦ subst (λ p. Fair P p ((placed P st x).finish p) ((placed P st x).line p)) (sym e)
          (subst (λ F. Fair P q F ((placed P st x).line q)) (sym (with_at_same q (finish_with P st q x.len) st.finish))
          (subst (Fair P q (finish_with P st q x.len)) (sym (with_at_same q (st.line q ++ stamped P st x ∷ []) st.line))
          (here (subst (λ p. p < P.size.ports) e inn))))
      | no e ↦ subst (λ F. Fair P p F ((placed P st x).line p)) (sym (with_at_other q (finish_with P st q x.len) st.finish p e))
          (subst (Fair P p (st.finish p)) (sym (with_at_other q (st.line q ++ stamped P st x ∷ []) st.line p e)) (h p inn))
    ]
  where
    q : ℕ
    q = route P x.flow x.hop

    R : ℕ
    R = (port_at P q).rate

    F : ℕ
    F = finish_with P st q x.len

    here : q < P.size.ports → Fair P q F (st.line q ++ stamped P st x ∷ [])
    here l = record {
      rises = rises_push (st.line q) (stamped P st x) old.rises grown;
      last = All-push (λ y. y.due ≤ up F R + (port_at P q).latency) (st.line q) (stamped P st x) grown (omega arith);
      late = All-push (λ y. y.entry + (port_at P q).stay ≤ y.due) (st.line q) (stamped P st x) old.late
          (omega (
            arith,
            figures.stay_most,
            up_rises (st.slot * R + (port_at P q).shortest) F R (omega (arith, long)),
            up_shifts st.slot (port_at P q).shortest R figures.rate_least,
          ));
    }
      where
        figures : PortKept (port_at P q)
        figures = kept.ports q l

        old : Fair P q (st.finish q) (st.line q)
        old = h q l

        grown : AllByRecursion (λ y. y.due ≤ up F R + (port_at P q).latency) (st.line q)
        grown = All-weaker _ _ (λ y a. omega (arith, a, up_rises (st.finish q) F R (omega arith))) (st.line q) old.last

lets_long : (p c n F l s : ℕ) → (ltb p c && ((leb l s && leb s 100000) && (ltb n 32 && leb F 20000000000000000))) ≡ true → l ≤ s
lets_long p c n F l s h = grind (arith, nat_tests)

offers_known : (P : Parts) (st : State) (f n : ℕ) → offers P st f n ≡ true → (f < P.size.flows) × ((flow_at P f).shortest ≤ n)
offers_known P st f n e = (grind (arith, nat_tests), grind (arith, nat_tests))

module _ (P : Parts) (kept : Kept P) where
  put_fair : (x : Frame) (w : Ending) → Fairs P w.state → Fairs P (put P x w).state
  put_fair x w h = go (lets_in P w.state (route P x.flow x.hop) x.len) refl
    where
      go : (b : Bool) → lets_in P w.state (route P x.flow x.hop) x.len ≡ b
          → Fairs P (cond {A = Ending} b (record { state = placed P w.state x; lost = w.lost })
          (record { state = w.state; lost = w.lost + 1 })).state
      go true e = enter_fair P w.state x kept
          (lets_long (route P x.flow x.hop) P.size.ports (length (w.state.line (route P x.flow x.hop)))
          (finish_with P w.state (route P x.flow x.hop) x.len) (port_at P (route P x.flow x.hop)).shortest x.len e) h
      go false e = h

  join_fair : (x : Frame) (w : Ending) → Fairs P w.state → Fairs P (join x w).state
  join_fair x w h = go (ltb (length (w.state.waiting x.flow (suc x.hop))) 16)
    where
      go : (b : Bool) → Fairs P (cond {A = Ending} b
          (record { state = wait x.flow (suc x.hop) (w.state.waiting x.flow (suc x.hop) ++ x ∷ []) w.state; lost = w.lost })
          (record { state = w.state; lost = w.lost + 1 })).state
      go true = h
      go false = h

  pass_fair : (x : Frame) (w : Ending) → Fairs P w.state → Fairs P (pass P x w).state
  pass_fair x w h = go (ltb (suc x.hop) (hops_of P x.flow)) (gated P x.flow (suc x.hop))
    where
      go : (b d : Bool) → Fairs P (cond b (cond d (join x w) (put P (next x) w)) w).state
      go false d = h
      go true true = join_fair x w h
      go true false = put_fair (next x) w h

  passes_fair : (xs : List Frame) (w : Ending) → Fairs P w.state → Fairs P (passes P xs w).state
  passes_fair [] w h = h
  passes_fair (x ∷ xs) w h = passes_fair xs (pass P x w) (pass_fair x w h)

  release_fair : (f k : ℕ) (xs : List Frame) (w : Ending) → Fairs P w.state → Fairs P (release P f k xs w).state
  release_fair f k [] w h = h
  release_fair f k (x ∷ xs) w h = go (leb x.len (w.state.level f k))
      (release_fair f k xs (put P (next x) (let_out f k x xs w)) (put_fair (next x) (let_out f k x xs w) h))
    where
      go : (b : Bool) → Fairs P (release P f k xs (put P (next x) (let_out f k x xs w))).state
          → Fairs P (cond b (release P f k xs (put P (next x) (let_out f k x xs w))) w).state
      go true ih = ih
      go false ih = h

  regulators_fair : (f k : ℕ) (w : Ending) → Fairs P w.state → Fairs P (regulators P f k w).state
  regulators_fair f zero w h = h
  regulators_fair f (suc k) w h = go (gated P f k) (regulators_fair f k w h)
    where
      v : Ending
      v = regulators P f k w

      go : (b : Bool) → Fairs P (regulators P f k w).state
          → Fairs P (cond b (release P f k ((regulators P f k w).state.waiting f k) (regulators P f k w)) (regulators P f k w)).state
      go true ih = release_fair f k ((regulators P f k w).state.waiting f k) (regulators P f k w) ih
      go false ih = ih

  releases_fair : (f : ℕ) (w : Ending) → Fairs P w.state → Fairs P (releases P f w).state
  releases_fair zero w h = h
  releases_fair (suc f) w h = regulators_fair f (hops_of P f) (releases P f w) (releases_fair f w h)

  run_fair : (es : List Event) (st : State) → Run P es st → Fairs P st
  run_fair es st begun = λ p l. record { rises = tt; last = tt; late = tt }
  run_fair es st (accepts {es = ds} {st = s} f n r e) = enter_fair P (spend f 0 n s) (new_frame s f n) kept
      (omega (arith, (fine P kept f (offers_known P s f n e).0).long 0 (fine P kept f (offers_known P s f n e).0).some, (offers_known P s f n e).1))
      (run_fair ds s r)
  run_fair es st (refuses {es = ds} f n r e) = run_fair ds st r
  run_fair es st (goes_on {es = ds} r) = run_fair ds st r
  run_fair es st (asks {es = ds} r) = run_fair ds st r
  run_fair es st (ends {es = ds} {st = s} taken rest r early hd) =
      releases_fair P.size.flows _ (passes_fair (tray P taken) (record { state = risen P rest s; lost = 0 }) (cut (run_fair ds s r)))
    where
      cut : Fairs P s → Fairs P (risen P rest s)
      cut h p l = record {
        rises = rises_back (taken p) (rest p) (subst Rises (hd.split p) (h p l).rises);
        last = all_back _ (taken p) (rest p) (subst (AllByRecursion (λ x. x.due ≤ up (s.finish p) (port_at P p).rate + (port_at P p).latency)) (hd.split p) (h p l).last);
        late = all_back _ (taken p) (rest p) (subst (AllByRecursion (λ x. x.entry + (port_at P p).stay ≤ x.due)) (hd.split p) (h p l).late);
      }

parts : (s : ℕ) (xs : List Frame) → xs ≡ owed s xs ++ spare s xs
parts s [] = refl
parts s (x ∷ xs) = go (leb x.due s) (parts s xs)
  where
    go : (b : Bool) → xs ≡ owed s xs ++ spare s xs → x ∷ xs ≡ cond b (x ∷ owed s xs) [] ++ cond b (spare s xs) (x ∷ xs)
    go true ih = ap (λ l. x ∷ l) ih
    go false ih = refl

owed_old : (s m : ℕ) (xs : List Frame) → AllByRecursion (λ x. x.entry + m ≤ x.due) xs → AllByRecursion (λ x. x.entry + m ≤ s) (owed s xs)
owed_old s m [] h = tt
owed_old s m (x ∷ xs) h = go (leb x.due s) refl (owed_old s m xs h.1)
  where
    go : (b : Bool) → leb x.due s ≡ b → AllByRecursion (λ x. x.entry + m ≤ s) (owed s xs) → AllByRecursion (λ x. x.entry + m ≤ s) (cond b (x ∷ owed s xs) [])
    go true e ih = (omega (arith, h.0, leb-true x.due s e), ih)
    go false e ih = tt

spare_young : (s : ℕ) (xs : List Frame) → Rises xs → AllByRecursion (λ x. s < x.due) (spare s xs)
spare_young s [] h = tt
spare_young s (x ∷ xs) h = go (leb x.due s) refl (spare_young s xs h.1)
  where
    go : (b : Bool) → leb x.due s ≡ b → AllByRecursion (λ x. s < x.due) (spare s xs) → AllByRecursion (λ x. s < x.due) (cond b (spare s xs) (x ∷ xs))
    go true e ih = ih
    go false e ih = (leb-false x.due s e, All-weaker _ _ (λ y a. omega (arith, a, leb-false x.due s e)) xs h.0)

pub never_stuck : NeverStuck
never_stuck P kept t ok es st r =
    record {
      split = λ p. parts st.slot (st.line p);
      stayed = λ p. elim (dec_lt p P.size.ports) [
        | yes l ↦ owed_old st.slot (port_at P p).stay (st.line p) (fair p l).late
        | no l ↦ subst
            (λ xs. AllByRecursion (λ x. x.entry + (port_at P p).stay ≤ st.slot) (owed st.slot xs)) (sym (none p (omega arith))) tt
      ];
      kept = λ p. elim (dec_lt p P.size.ports) [
        | yes l ↦ spare_young st.slot (st.line p) (fair p l).rises
        | no l ↦ subst
            (λ xs. AllByRecursion (λ x. st.slot < x.due) (spare st.slot xs)) (sym (none p (omega arith))) tt
      ];
    }
  where
    fair : Fairs P st
    fair = run_fair P kept es st r

    calm : Calm P t es st
    calm = run_calm P t kept ok es st r

    none : (p : ℕ) → P.size.ports ≤ p → st.line p ≡ []
    none p h = sym (calm.shows.line p) ∙ ap (λ (q : Port). map erase q.line)
        (get_or_past calm.world.ports p idle (omega (arith, (inv_of P t kept ok st (pend st.waiting []) calm.world calm.shows).size)))
