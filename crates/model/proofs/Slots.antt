-- A slot end, frame by frame: each move is one of the calculus, loses nothing and leaves the order as it is.
use Rattle.std.proofs.Common.{◌≡◌, ℕ, zero, suc, ◌+◌, ◌-◌, ◌<◌, ◌≤◌, Bool, true, false, cond, ◌&&◌, eqb, ltb, leb, List, [], ◌∷◌, ◌++◌, map, length, sym, refl, ap, ◌∙◌, subst, ap₂, append_assoc, append-nil, arith}
use native.Mathlib.Decide.{ℕ_discrete}
use Rattle.std.proofs.lemmas.List.Elements.{filter-append}
use Rattle.std.proofs.lemmas.List.{length-append, length-map, map-append}
use Rattle.std.proofs.lemmas.Bool.{cond-false, cond-true, le-ltb, leb-false, leb-true, lt-ltb}
use Rattle.std.specs.List.{AllByRecursion}
use Rattle.draft.specs.declared.parts.Parts.{Parts}
use Rattle.draft.specs.declared.table.Table.{Table}
use Rattle.plan.specs.Limits.{Kept}
use Rattle.table.specs.Accepts.{Accepted}
use Rattle.service.specs.declared.frame.Frame.{Frame}
use Rattle.calculus.specs.Systems.{World}
use Rattle.model.proofs.Bounds.{held_few}
use Rattle.model.proofs.Cells.{dec_both, with_cell_other, with_cell_same}
use Rattle.model.proofs.Chain.{chain, chain_join, chain_out, chain_put, chain_release}
use Rattle.model.proofs.Moves.{Stuck}
use Rattle.model.proofs.Picks.{Found, Uncons, at_hop_no, at_hop_yes, erase, find, loose_at, uncons}
use Rattle.model.proofs.Plans.{clash}
use Rattle.model.proofs.Shows.{Shows, enters, let_in, pend, with_level}
use Rattle.model.specs.Networks.{Ending, State, gated, hops_of, join, let_out, next, pass, passes, placed, put, release, spend, wait, with_cell}
use Rattle.model.specs.Runs.{Sent, at_hop, told}

-- a slot end under way that has lost nothing
abbrev pub lossless : State → Ending
lossless st = record { state = st; lost = 0 }

-- what a flow has sent is what is gone and what is inside, in order
pub record Mid (P : Parts) (t : Table) (sends : ℕ → List Sent) (st : State) (ts : List Frame) (gone : ℕ → List Sent) : Type 0 where
  pub world : World
  pub shows : Shows P t st (pend st.waiting ts) world
  pub dry : (f k : ℕ) → gated P f k ≡ false → st.waiting f k ≡ []
  pub fine : AllByRecursion (λ x. suc x.hop ≤ hops_of P x.flow) ts
  pub order : (f : ℕ) → sends f ≡ gone f ++ chain P st ts f

-- the same theory state, with other waiting frames shown
reshow : (P : Parts) (t : Table) (st : State) (waiting' : ℕ → ℕ → List Frame) (p p' : ℕ → ℕ → List Frame) (w : World)
    → ((f k : ℕ) → suc k < hops_of P f → p f (suc k) ≡ p' f (suc k)) → Shows P t st p w → Shows P t (with_level st st.level waiting') p' w
reshow P t st waiting' p p' w e sh = record {
  run = sh.run;
  slot = sh.slot;
  soon = sh.soon;
  finish = sh.finish;
  line = sh.line;
  level =
      sh.level;
  loose = λ f k h. sh.loose f k h ∙ e f k h;
  sized = sh.sized;
  prompt = sh.prompt;
}

-- whose frame stands first before a hop
who : (P : Parts) (t : Table) (st : State) (p : ℕ → ℕ → List Frame) (w : World) → Shows P t st p w → (f k : ℕ) (x : Frame) (rest : List Frame)
    → suc k < hops_of P f → p f (suc k) ≡ x ∷ rest → (x.flow ≡ f) × (x.hop ≡ k)
who P t st p w sh f k x rest room e = go (uncons (loose_at f (suc k) w.loose) x rest (sh.loose f k room ∙ e))
  where
    go : Uncons (loose_at f (suc k) w.loose) x rest → (x.flow ≡ f) × (x.hop ≡ k)
    go u = (sym (ap Frame.flow u.first) ∙ r.flow, sym (ap Frame.hop u.first) ∙ omega (arith, r.made))
      where
        r : Found f (suc k) w.loose u.head u.tail
        r = find f (suc k) w.loose u.head u.tail u.whole

module _ (P : Parts) (t : Table) (kept : Kept P) (ok : Accepted P t) (sends : ℕ → List Sent) where
  abbrev pub plus : (ℕ → List Sent) → List Frame → ℕ → List Sent
  plus gone ts f = gone f ++ map told (at_hop f (hops_of P f - 1) ts)

  -- a frame that is not at its last hop adds nothing to what is gone
  on_way : (gone : ℕ → List Sent) (x : Frame) → suc x.hop < hops_of P x.flow → (f : ℕ) → gone f ≡ plus gone (x ∷ []) f
  on_way gone x room f = sym (append-nil (gone f))
      ∙ ap (λ l. gone f ++ map told l) (sym (at_hop_no f (hops_of P f - 1) x [] (λ a b. omega (arith, ap (hops_of P) a))))

  pass_one : (x : Frame) (ts : List Frame) (st : State) (gone : ℕ → List Sent) → Mid P t sends st (x ∷ ts) gone
      → (st' : State) × (pass P x (lossless st) ≡ lossless st') × Mid P t sends st' ts (plus gone (x ∷ []))
  pass_one x ts st gone m = go (ℕ_discrete (suc x.hop) (hops_of P x.flow)) (gated P x.flow (suc x.hop)) refl
    where
      go : Dec (suc x.hop ≡ hops_of P x.flow) → (b : Bool) → gated P x.flow (suc x.hop) ≡ b
          → (st' : State) × (pass P x (lossless st) ≡ lossless st') × Mid P t sends st' ts (plus gone (x ∷ []))
      go (yes last) b e = (
        st,
        cond-false (ltb (suc x.hop) (hops_of P x.flow))
            (cond (gated P x.flow (suc x.hop)) (join x (lossless st)) (put P (next x) (lossless st))) (lossless st)
            (le-ltb (suc x.hop) (hops_of P x.flow) (omega arith)),
        record {
          world = m.world;
          shows = reshow P t st st.waiting (pend st.waiting (x ∷ ts)) (pend st.waiting ts) m.world
              (λ f k h. ap (λ l. st.waiting f (suc k) ++ l) (at_hop_no f k x ts (λ a b. omega (arith, ap (hops_of P) a)))) m.shows;
          dry = m.dry;
          fine = m.fine.1;
          order = λ f. m.order f ∙ ap (λ l. gone f ++ l) (chain_out P st x ts last f)
              ∙ sym (append_assoc (gone f) (map told (at_hop f (hops_of P f - 1) (x ∷ []))) (chain P st ts f));
        },
      )
      go (no far) true e = (
        wait x.flow (suc x.hop) W st,
        passed
            ∙ ap (λ (b : Bool). cond b (join x (lossless st)) (put P (next x) (lossless st))) e
            ∙ ap (λ (b : Bool). cond b (lossless (wait x.flow (suc x.hop) W st)) (record { state = st; lost = 0 + 1 })) room16,
        record {
          world = m.world;
          shows = reshow P t st (with_cell x.flow (suc x.hop) W st.waiting) (pend st.waiting (x ∷ ts))
              (pend (with_cell x.flow (suc x.hop) W st.waiting) ts) m.world same m.shows;
          dry = λ f k q. elim (dec_both f x.flow k (suc x.hop)) [
            | yes z ↦ clash (sym e ∙ sym (ap₂ (gated P) z.0 z.1) ∙ q)
            | no z ↦ with_cell_other x.flow (suc x.hop) W st.waiting f k (λ a b. z (a, b)) ∙ m.dry f k q
          ];
          fine = m.fine.1;
          order = λ f. m.order f ∙ ap₂ (λ a b. a ++ b) (on_way gone x room f) (chain_join P st x ts room f);
        },
      )
        where
          W : List Frame
          W = st.waiting x.flow (suc x.hop) ++ x ∷ []

          room : suc x.hop < hops_of P x.flow
          room = omega (arith, m.fine.0, far)

          passed : pass P x (lossless st) ≡ cond (gated P x.flow (suc x.hop)) (join x (lossless st)) (put P (next x) (lossless st))
          passed = cond-true (ltb (suc x.hop) (hops_of P x.flow))
              (cond (gated P x.flow (suc x.hop)) (join x (lossless st)) (put P (next x) (lossless st))) (lossless st)
              (lt-ltb (suc x.hop) (hops_of P x.flow) room)

          room16 : ltb (length (st.waiting x.flow (suc x.hop))) 16 ≡ true
          room16 = lt-ltb (length (st.waiting x.flow (suc x.hop))) 16
              (omega (
                arith,
                held_few P t kept ok m.world m.shows.run x.flow x.hop room e m.shows.sized,
                length-map (loose_at x.flow (suc x.hop) m.world.loose) erase,
                ap length (m.shows.loose x.flow x.hop room),
                length-append (st.waiting x.flow (suc x.hop)) (at_hop x.flow x.hop (x ∷ ts)),
                ap length (at_hop_yes x.flow x.hop x ts refl refl),
              ))

          same : (f k : ℕ) → suc k < hops_of P f
              → st.waiting f (suc k) ++ at_hop f k (x ∷ ts) ≡ with_cell x.flow (suc x.hop) W st.waiting f (suc k) ++ at_hop f k ts
          same f k h =
              elim (dec_both f x.flow k x.hop) [
                | yes z ↦ subst (λ f. st.waiting f (suc k) ++ at_hop f k (x ∷ ts) ≡ with_cell x.flow (suc x.hop) W st.waiting f (suc k)
                    ++ at_hop f k ts) (sym z.0)
                    (subst (λ k. st.waiting x.flow (suc k)
                    ++ at_hop x.flow k (x ∷ ts) ≡ with_cell x.flow (suc x.hop) W st.waiting x.flow (suc k) ++ at_hop x.flow k ts)
                    (sym z.1)
                    (ap (λ l. st.waiting x.flow (suc x.hop) ++ l) (at_hop_yes x.flow x.hop x ts refl refl)
                    ∙ sym (append_assoc (st.waiting x.flow (suc x.hop)) (x ∷ []) (at_hop x.flow x.hop ts))
                    ∙ ap (λ l. l ++ at_hop x.flow x.hop ts) (sym (with_cell_same x.flow (suc x.hop) W st.waiting))))
                | no z ↦ ap₂ (λ a b. a ++ b) (sym (with_cell_other x.flow (suc x.hop) W st.waiting f (suc k) (λ a b. z (a, omega arith))))
                    (at_hop_no f k x ts (λ a b. z (sym a, sym b)))
              ]
      go (no far) false e = done (enters P t kept ok st (pend st.waiting (x ∷ ts)) m.world m.shows x.flow x.hop x
          (at_hop x.flow x.hop ts) st.level st.waiting (pend st.waiting ts) room
          (ap (λ l. l ++ at_hop x.flow x.hop (x ∷ ts)) free ∙ at_hop_yes x.flow x.hop x ts refl refl)
          (λ g. clash (sym g ∙ e)) (λ g. clash (sym g ∙ e)) (λ g j h. refl)
          (ap (λ l. l ++ at_hop x.flow x.hop ts) free) others)
        where
          room : suc x.hop < hops_of P x.flow
          room = omega (arith, m.fine.0, far)

          free : st.waiting x.flow (suc x.hop) ≡ []
          free = m.dry x.flow (suc x.hop) e

          others : (g j : ℕ) → (g ≡ x.flow → j ≡ suc x.hop → ⊥) → pend st.waiting ts g j ≡ pend st.waiting (x ∷ ts) g j
          others g zero h = refl
          others g (suc j) h = ap (λ l. st.waiting g (suc j) ++ l) (sym (at_hop_no g j x ts (λ a b. h (sym a) (ap suc (sym b)))))

          passed : pass P x (lossless st) ≡ put P (next x) (lossless st)
          passed = cond-true (ltb (suc x.hop) (hops_of P x.flow))
              (cond (gated P x.flow (suc x.hop)) (join x (lossless st)) (put P (next x) (lossless st))) (lossless st)
              (lt-ltb (suc x.hop) (hops_of P x.flow) room)
              ∙ ap (λ (b : Bool). cond b (join x (lossless st)) (put P (next x) (lossless st))) e

          done : (w' : World) × Shows P t (placed P st (next x)) (pend st.waiting ts) w'
              → (st' : State) × (pass P x (lossless st) ≡ lossless st') × Mid P t sends st' ts (plus gone (x ∷ []))
          done (w', sh) = (
            placed P st (next x),
            passed
                ∙ ap (λ (b : Bool). cond b (lossless (placed P st (next x))) (record { state = st; lost = 0 + 1 }))
                (let_in P t kept ok st (pend st.waiting ts) w' (next x) sh room),
            record {
              world = w';
              shows = sh;
              dry = m.dry;
              fine = m.fine.1;
              order = λ f. m.order f ∙ ap₂ (λ a b. a ++ b) (on_way gone x room f) (chain_put P st x ts room free f);
            },
          )

  pub passes_all : (ts : List Frame) (st : State) (gone : ℕ → List Sent) → Mid P t sends st ts gone
      → (st' : State) × (passes P ts (lossless st) ≡ lossless st') × Mid P t sends st' [] (plus gone ts)
  passes_all [] st gone m = (
    st,
    refl,
    record {
      world = m.world;
      shows = m.shows;
      dry = m.dry;
      fine = tt;
      order = λ f. m.order f
          ∙ ap (λ l. l ++ chain P st [] f) (sym (append-nil (gone f)));
    },
  )
  passes_all (x ∷ ts) st gone m = first (pass_one x ts st gone m) (λ st₁ m₁. passes_all ts st₁ (plus gone (x ∷ [])) m₁)
    where
      first : (st' : State) × (pass P x (lossless st) ≡ lossless st') × Mid P t sends st' ts (plus gone (x ∷ [])) →
          ((st₁ : State) → Mid P t sends st₁ ts (plus gone (x ∷ []))
          → (st' : State) × (passes P ts (lossless st₁) ≡ lossless st') × Mid P t sends st' [] (plus (plus gone (x ∷ [])) ts)) →
          (st' : State) × (passes P ts (pass P x (lossless st)) ≡ lossless st') × Mid P t sends st' [] (plus gone (x ∷ ts))
      first (st₁, e₁, m₁) ih = second (ih st₁ m₁)
        where
          second : (st' : State) × (passes P ts (lossless st₁) ≡ lossless st') × Mid P t sends st' [] (plus (plus gone (x ∷ [])) ts)
              → (st' : State) × (passes P ts (pass P x (lossless st)) ≡ lossless st') × Mid P t sends st' [] (plus gone (x ∷ ts))
          second (st₂, e₂, m₂) = (
            st₂,
            ap (passes P ts) e₁ ∙ e₂,
            record {
              world = m₂.world;
              shows = m₂.shows;
              dry = m₂.dry;
              fine = tt;
              order = λ f. m₂.order f ∙ ap (λ l. l ++ chain P st₂ [] f)
                  (append_assoc (gone f) (map told (at_hop f (hops_of P f - 1) (x ∷ []))) (map told (at_hop f (hops_of P f - 1) ts))
                  ∙ ap (λ l. gone f ++ l) (sym (map-append told (at_hop f (hops_of P f - 1) (x ∷ [])) (at_hop f (hops_of P f - 1) ts))
                  ∙ ap (map told) (sym (filter-append (λ y. eqb y.flow f && eqb y.hop (hops_of P f - 1)) (x ∷ []) ts))));
            },
          )

  -- the regulator before the hop k + 1 of the flow f has let out what it can
  pub record Let (gone : ℕ → List Sent) (st : State) (f k : ℕ) (v : Ending) : Type 0 where
    pub after : State
    pub same : v ≡ lossless after
    pub mid : Mid P t sends after [] gone
    pub stuck : Stuck P after f k (after.waiting f k)
    pub others : (g j : ℕ) → (g ≡ f → j ≡ k → ⊥) → (after.waiting g j ≡ st.waiting g j) × (after.level g j ≡ st.level g j)

  pub lets_out : (gone : ℕ → List Sent) (f k : ℕ) → suc k < hops_of P f → gated P f (suc k) ≡ true → (xs : List Frame) (st : State)
      → Mid P t sends st [] gone → st.waiting f (suc k) ≡ xs → Let gone st f (suc k) (release P f (suc k) xs (lossless st))
  lets_out gone f k room g [] st m e = record { after = st; same = refl; mid = m; stuck = subst (Stuck P st f (suc k)) (sym e) tt; others = λ g j h. (refl, refl) }
  lets_out gone f k room g (x ∷ xs) st m e = go (leb x.len (st.level f (suc k))) refl (λ st₁ m₁ e₁. lets_out gone f k room g xs st₁ m₁ e₁)
    where
      st₁ : State
      st₁ = wait f (suc k) xs (spend f (suc k) x.len st)

      first : st.waiting f (suc k) ++ [] ≡ x ∷ (xs ++ [])
      first = ap (λ l. l ++ []) e

      whose : (x.flow ≡ f) × (x.hop ≡ k)
      whose = who P t st (pend st.waiting []) m.world m.shows f k x (xs ++ []) room first

      go : (b : Bool) → leb x.len (st.level f (suc k)) ≡ b
          → ((st₁ : State) → Mid P t sends st₁ [] gone → st₁.waiting f (suc k) ≡ xs
          → Let gone st₁ f (suc k) (release P f (suc k) xs (lossless st₁))) →
          Let gone st f (suc k) (cond b (release P f (suc k) xs (put P (next x) (let_out f (suc k) x xs (lossless st)))) (lossless st))
      go false q ih = record {
        after = st;
        same = refl;
        mid = m;
        stuck =
            subst (Stuck P st f (suc k)) (sym e) (g, leb-false x.len (st.level f (suc k)) q);
        others = λ g j h. (refl, refl);
      }
      go true q ih = done (enters P t kept ok st (pend st.waiting []) m.world m.shows f k x (xs ++ []) st₁.level st₁.waiting
          (pend st₁.waiting []) room first
          (λ _. leb-true x.len (st.level f (suc k)) q) (λ _. with_cell_same f (suc k) (st.level f (suc k) - x.len) st.level)
          (λ g j h. with_cell_other f (suc k) (st.level f (suc k) - x.len) st.level g j h)
          (ap (λ l. l ++ []) (with_cell_same f (suc k) xs st.waiting)) others)
        where
          others : (g j : ℕ) → (g ≡ f → j ≡ suc k → ⊥) → pend st₁.waiting [] g j ≡ pend st.waiting [] g j
          others g zero h = with_cell_other f (suc k) xs st.waiting g zero h
          others g (suc j) h = ap (λ l. l ++ []) (with_cell_other f (suc k) xs st.waiting g (suc j) h)

          room' : suc x.hop < hops_of P x.flow
          room' = subst (λ g. suc x.hop < hops_of P g) (sym whose.0) (omega (arith, whose.1))

          done : (w' : World) × Shows P t (placed P st₁ (next x)) (pend st₁.waiting []) w'
              → Let gone st f (suc k) (release P f (suc k) xs (put P (next x) (let_out f (suc k) x xs (lossless st))))
          done (w', sh) = finish (ih st₂ mid₂ (with_cell_same f (suc k) xs st.waiting))
            where
              st₂ : State
              st₂ = placed P st₁ (next x)

              mid₂ : Mid P t sends st₂ [] gone
              mid₂ = record {
                world = w';
                shows = sh;
                dry = λ h j q. elim (dec_both h f j (suc k)) [
                  | yes z ↦ clash (sym g ∙ sym (ap₂ (gated P) z.0 z.1) ∙ q)
                  | no z ↦ with_cell_other f (suc k) xs st.waiting h j (λ a b. z (a, b)) ∙ m.dry h j q
                ];
                fine = tt;
                order = λ h. m.order h ∙ ap (λ l. gone h ++ l) (chain_release P st f (suc k) x xs e whose.0 (ap suc whose.1) h);
              }

              fits : put P (next x) (let_out f (suc k) x xs (lossless st)) ≡ lossless st₂
              fits = ap (λ (b : Bool). cond b (lossless st₂) (record { state = st₁; lost = 0 + 1 }))
                  (let_in P t kept ok st₁ (pend st₁.waiting []) w' (next x) sh room')

              finish : Let gone st₂ f (suc k) (release P f (suc k) xs (lossless st₂))
                  → Let gone st f (suc k) (release P f (suc k) xs (put P (next x) (let_out f (suc k) x xs (lossless st))))
              finish r = record {
                after = r.after;
                same = ap (release P f (suc k) xs) fits ∙ r.same;
                mid = r.mid;
                stuck = r.stuck;
                others = λ h j z. (
                  (r.others h j z).0 ∙ with_cell_other f (suc k) xs st.waiting h j z,
                  (r.others h j z).1
                      ∙ with_cell_other f (suc k) (st.level f (suc k) - x.len) st.level h j z,
                );
              }
