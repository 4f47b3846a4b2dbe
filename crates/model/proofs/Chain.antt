-- The frames of a flow in order, from the last hop back, and how each move leaves the order as it is.
use Rattle.std.proofs.Common.{◌≡◌, ℕ, zero, suc, ◌-◌, ◌<◌, ◌≤◌, Bool, cond, eqb, List, [], ◌∷◌, ◌++◌, map, sym, refl, ap, ◌∙◌, subst, ap₂, append_assoc, append-nil, arith}
use native.Mathlib.Decide.{ℕ_discrete}
use Rattle.std.proofs.lemmas.List.Elements.{filter-append}
use Rattle.std.proofs.lemmas.List.{map-append}
use Rattle.std.proofs.lemmas.Bool.{eq-eqb, ne_eqb}
use Rattle.std.specs.List.{AllByRecursion}
use Rattle.draft.specs.declared.parts.Parts.{Parts}
use Rattle.service.specs.declared.frame.Frame.{Frame}
use Rattle.model.proofs.Cells.{dec_both, with_at_other, with_at_same, with_cell_other, with_cell_same}
use Rattle.model.proofs.Picks.{all_front, at_hop_no, at_hop_yes}
use Rattle.model.specs.Networks.{State, gather, hops_of, new_frame, next, offered, placed, risen, route, spend, stamped, tray, wait}
use Rattle.model.specs.Runs.{Event, Sent, at_hop, delivered, delivered_by, inside_to, of_flow, sent, sent_by, told}

abbrev pub blocks : (ℕ → List Sent) → ℕ → List Sent
blocks b zero = []
blocks b (suc k) = b k ++ blocks b k

pub blocks_same : (b c : ℕ → List Sent) (n : ℕ) → ((j : ℕ) → j < n → b j ≡ c j) → blocks b n ≡ blocks c n
blocks_same b c zero h = refl
blocks_same b c (suc n) h = ap₂ (λ x y. x ++ y) (h n (omega arith)) (blocks_same b c n (λ j l. h j (omega arith)))

pub blocks_move : (b c : ℕ → List Sent) (k n : ℕ) (x : Sent) → suc k < n → b k ≡ x ∷ c k → c (suc k) ≡ b (suc k) ++ x ∷ []
    → ((j : ℕ) → (j ≡ k → ⊥) → (j ≡ suc k → ⊥) → b j ≡ c j) → blocks b n ≡ blocks c n
blocks_move b c k zero x h p q same = absurd (omega arith)
blocks_move b c k (suc m) x h p q same =
    elim (ℕ_discrete m (suc k)) [
      | yes e ↦ subst (λ m. blocks b (suc m) ≡ blocks c (suc m)) (sym e)
          (ap (λ l. b (suc k) ++ (l ++ blocks b k)) p
          ∙ ap (λ l. b (suc k) ++ (x ∷ (c k ++ l))) (blocks_same b c k (λ j l. same j (λ z. omega arith) (λ z. omega arith)))
          ∙ sym (append_assoc (b (suc k)) (x ∷ []) (c k ++ blocks c k)) ∙ ap (λ l. l ++ (c k ++ blocks c k)) (sym q))
      | no e ↦ ap₂ (λ y z. y ++ z) (same m (λ z. omega arith) e) (blocks_move b c k m x (omega arith) p q same)
    ]

pub blocks_push : (b c : ℕ → List Sent) (n : ℕ) (x : Sent) → 0 < n → c 0 ≡ b 0 ++ x ∷ [] → ((j : ℕ) → 0 < j → c j ≡ b j) → blocks c n ≡ blocks b n ++ x ∷ []
blocks_push b c zero x h p same = absurd (omega arith)
blocks_push b c (suc zero) x h p same = append-nil (c 0) ∙ p ∙ ap (λ l. l ++ x ∷ []) (sym (append-nil (b 0)))
blocks_push b c (suc (suc m)) x h p same = ap₂ (λ y z. y ++ z) (same (suc m) (omega arith)) (blocks_push b c (suc m) x (omega arith) p same)
    ∙ sym (append_assoc (b (suc m)) (blocks b (suc m)) (x ∷ []))

pub blocks_pop : (b c : ℕ → List Sent) (n : ℕ) (x : Sent) (m : ℕ) → n ≡ suc m → b m ≡ x ∷ c m → ((j : ℕ) → j < m → b j ≡ c j) → blocks b n ≡ x ∷ blocks c n
blocks_pop b c n x m e p same = subst (λ n. blocks b n ≡ x ∷ blocks c n) (sym e) (ap₂ (λ y z. y ++ z) p (blocks_same b c m same))

-- a row: the tray's, the line's and the regulator's frames
abbrev pub row3 : List Frame → List Frame → List Frame → List Sent
row3 a b c = map told (a ++ (b ++ c))

row3_shift : (a b c : List Frame) (x s : Frame) → told s ≡ told x → row3 a b (x ∷ c) ≡ row3 a (b ++ s ∷ []) c
row3_shift [] [] c x s e = ap (λ y. y ∷ map told c) (sym e)
row3_shift [] (y ∷ b) c x s e = ap (λ l. told y ∷ l) (row3_shift [] b c x s e)
row3_shift (y ∷ a) b c x s e = ap (λ l. told y ∷ l) (row3_shift a b c x s e)

row3_behind : (a b c : List Frame) (x : Frame) → row3 a b (c ++ x ∷ []) ≡ row3 a b c ++ told x ∷ []
row3_behind [] [] c x = map-append told c (x ∷ [])
row3_behind [] (y ∷ b) c x = ap (λ l. told y ∷ l) (row3_behind [] b c x)
row3_behind (y ∷ a) b c x = ap (λ l. told y ∷ l) (row3_behind a b c x)

row3_eq : (a a' b b' c c' : List Frame) → a ≡ a' → b ≡ b' → c ≡ c' → row3 a b c ≡ row3 a' b' c'
row3_eq a a' b b' c c' p q r = λ i. row3 (p i) (q i) (r i)

keep : (a : List Frame) → a ≡ a
keep a = refl

abbrev pub row : Parts → State → List Frame → ℕ → ℕ → List Sent
row P st ts f k = row3 (at_hop f k ts) (at_hop f k (st.line (route P f k))) (st.waiting f k)

abbrev pub chain : Parts → State → List Frame → ℕ → List Sent
chain P st ts f = blocks (row P st ts f) (hops_of P f)

-- a frame that enters a port
placed_here : (P : Parts) (st : State) (x : Frame) (f k : ℕ) → x.flow ≡ f → x.hop ≡ k
    → at_hop f k ((placed P st x).line (route P f k)) ≡ at_hop f k (st.line (route P f k)) ++ stamped P st x ∷ []
placed_here P st x f k e q =
    subst (λ n. at_hop f n ((placed P st x).line (route P f n)) ≡ at_hop f n (st.line (route P f n)) ++ stamped P st x ∷ []) q
    (subst (λ g. at_hop g x.hop ((placed P st x).line (route P g x.hop)) ≡ at_hop g x.hop (st.line (route P g x.hop)) ++ stamped P st x ∷ []) e
    (ap (at_hop x.flow x.hop) (with_at_same r (st.line r ++ stamped P st x ∷ []) st.line)
    ∙ filter-append _ (st.line r) (stamped P st x ∷ [])
    ∙ ap (λ l. at_hop x.flow x.hop (st.line r) ++ l) (at_hop_yes x.flow x.hop (stamped P st x) [] refl refl)))
  where
    r : ℕ
    r = route P x.flow x.hop

placed_other : (P : Parts) (st : State) (x : Frame) (f k : ℕ) → (x.flow ≡ f → x.hop ≡ k → ⊥)
    → at_hop f k ((placed P st x).line (route P f k)) ≡ at_hop f k (st.line (route P f k))
placed_other P st x f k h =
    elim (ℕ_discrete (route P f k) r) [
      | yes e ↦ ap (λ p. at_hop f k ((placed P st x).line p)) e ∙ ap (at_hop f k) (with_at_same r (st.line r ++ stamped P st x ∷ []) st.line)
          ∙ filter-append _ (st.line r) (stamped P st x ∷ [])
          ∙ ap (λ l. at_hop f k (st.line r) ++ l) (at_hop_no f k (stamped P st x) [] h) ∙ append-nil (at_hop f k (st.line r))
          ∙ ap (λ p. at_hop f k (st.line p)) (sym e)
      | no e ↦ ap (at_hop f k) (with_at_other r (st.line r ++ stamped P st x ∷ []) st.line (route P f k) e)
    ]
  where
    r : ℕ
    r = route P x.flow x.hop

-- the first of the tray enters the port of its next hop, before which no frame waits
pub chain_put : (P : Parts) (st : State) (x : Frame) (ts : List Frame) → suc x.hop < hops_of P x.flow
    → st.waiting x.flow (suc x.hop) ≡ [] → (f : ℕ) → chain P st (x ∷ ts) f ≡ chain P (placed P st (next x)) ts f
chain_put P st x ts room free f =
    elim (ℕ_discrete x.flow f) [
      | yes e ↦ subst (λ f. chain P st (x ∷ ts) f ≡ chain P (placed P st (next x)) ts f) e
          (blocks_move (row P st (x ∷ ts) x.flow) (row P (placed P st (next x)) ts x.flow) x.hop (hops_of P x.flow) (told x) room
          (row3_eq _ _ _ _ _ _ (at_hop_yes x.flow x.hop x ts refl refl) (sym (placed_other P st (next x) x.flow x.hop (λ a b. omega arith))) refl)
          (row3_eq _ _ _ _ _ _ (sym (at_hop_no x.flow (suc x.hop) x ts (λ a b. omega arith)))
          (placed_here P st (next x) x.flow (suc x.hop) refl refl) free
          ∙ sym (row3_shift (at_hop x.flow (suc x.hop) (x ∷ ts))
          (at_hop x.flow (suc x.hop) (st.line (route P x.flow (suc x.hop)))) [] x (stamped P st (next x)) refl)
          ∙ row3_behind (at_hop x.flow (suc x.hop) (x ∷ ts)) (at_hop x.flow (suc x.hop) (st.line (route P x.flow (suc x.hop)))) [] x
          ∙ ap (λ l. l ++ told x ∷ []) (row3_eq _ _ _ _ _ _ (keep (at_hop x.flow (suc x.hop) (x ∷ ts)))
          (keep (at_hop x.flow (suc x.hop) (st.line (route P x.flow (suc x.hop))))) (sym free)))
          (λ j a b. row3_eq _ _ _ _ _ _ (at_hop_no x.flow j x ts (λ _ z. a (sym z))) (sym (placed_other P st (next x) x.flow j (λ _ z. b (sym z)))) refl))
      | no e ↦ blocks_same (row P st (x ∷ ts) f) (row P (placed P st (next x)) ts f) (hops_of P f)
          (λ j l. row3_eq _ _ _ _ _ _ (at_hop_no f j x ts (λ a _. e a)) (sym (placed_other P st (next x) f j (λ a _. e a))) refl)
    ]

-- or joins the regulator before it
pub chain_join : (P : Parts) (st : State) (x : Frame) (ts : List Frame) → suc x.hop < hops_of P x.flow → (f : ℕ) →
    chain P st (x ∷ ts) f ≡ chain P (wait x.flow (suc x.hop) (st.waiting x.flow (suc x.hop) ++ x ∷ []) st) ts f
chain_join P st x ts room f =
    elim (ℕ_discrete x.flow f) [
      | yes e ↦ subst (λ f. chain P st (x ∷ ts) f ≡ chain P st' ts f) e
          (blocks_move (row P st (x ∷ ts) x.flow) (row P st' ts x.flow) x.hop (hops_of P x.flow) (told x) room
          (row3_eq _ _ _ _ _ _ (at_hop_yes x.flow x.hop x ts refl refl) refl
          (sym (with_cell_other x.flow (suc x.hop) W st.waiting x.flow x.hop (λ a b. omega arith))))
          (row3_eq _ _ _ _ _ _ (sym (at_hop_no x.flow (suc x.hop) x ts (λ a b. omega arith))) refl (with_cell_same x.flow (suc x.hop) W st.waiting)
          ∙ row3_behind (at_hop x.flow (suc x.hop) (x ∷ ts)) (at_hop x.flow (suc x.hop) (st.line (route P x.flow (suc x.hop))))
          (st.waiting x.flow (suc x.hop)) x)
          (λ j a b. row3_eq _ _ _ _ _ _ (at_hop_no x.flow j x ts (λ _ z. a (sym z))) refl
          (sym (with_cell_other x.flow (suc x.hop) W st.waiting x.flow j (λ _ z. b z)))))
      | no e ↦ blocks_same (row P st (x ∷ ts) f) (row P st' ts f) (hops_of P f)
          (λ j l. row3_eq _ _ _ _ _ _ (at_hop_no f j x ts (λ a _. e a)) refl
          (sym (with_cell_other x.flow (suc x.hop) W st.waiting f j (λ a _. e (sym a)))))
    ]
  where
    W : List Frame
    W = st.waiting x.flow (suc x.hop) ++ x ∷ []

    st' : State
    st' = wait x.flow (suc x.hop) (st.waiting x.flow (suc x.hop) ++ x ∷ []) st

-- or is delivered
pub chain_out : (P : Parts) (st : State) (x : Frame) (ts : List Frame) → suc x.hop ≡ hops_of P x.flow → (f : ℕ)
    → chain P st (x ∷ ts) f ≡ map told (at_hop f (hops_of P f - 1) (x ∷ [])) ++ chain P st ts f
chain_out P st x ts last f =
    elim (ℕ_discrete x.flow f) [
      | yes e ↦ subst (λ f. chain P st (x ∷ ts) f ≡ map told (at_hop f (hops_of P f - 1) (x ∷ [])) ++ chain P st ts f) e
          (blocks_pop (row P st (x ∷ ts) x.flow) (row P st ts x.flow) (hops_of P x.flow) (told x) x.hop (sym last)
          (row3_eq _ _ _ _ _ _ (at_hop_yes x.flow x.hop x ts refl refl)
          (keep (at_hop x.flow x.hop (st.line (route P x.flow x.hop)))) (keep (st.waiting x.flow x.hop)))
          (λ j l. row3_eq _ _ _ _ _ _ (at_hop_no x.flow j x ts (λ _ z. omega arith)) (keep (at_hop x.flow j (st.line (route P x.flow j))))
          (keep (st.waiting x.flow j)))
          ∙ ap (λ l. map told l ++ chain P st ts x.flow) (sym (at_hop_yes x.flow (hops_of P x.flow - 1) x [] refl (omega arith))))
      | no e ↦ blocks_same (row P st (x ∷ ts) f) (row P st ts f) (hops_of P f)
          (λ j l. row3_eq _ _ _ _ _ _ (at_hop_no f j x ts (λ a _. e a)) (keep (at_hop f j (st.line (route P f j)))) (keep (st.waiting f j)))
          ∙ ap (λ l. map told l ++ chain P st ts f) (sym (at_hop_no f (hops_of P f - 1) x [] (λ a _. e a)))
    ]

-- a regulator lets its first frame out
pub chain_release : (P : Parts) (st : State) (f k : ℕ) (x : Frame) (xs : List Frame) → st.waiting f k ≡ x ∷ xs → x.flow ≡ f → suc x.hop ≡ k → (g : ℕ) →
    chain P st [] g ≡ chain P (placed P (wait f k xs (spend f k x.len st)) (next x)) [] g
chain_release P st f k x xs e fl hp g = blocks_same (row P st [] g) (row P st' [] g) (hops_of P g) each
  where
    st₁ : State
    st₁ = wait f k xs (spend f k x.len st)

    st' : State
    st' = placed P (wait f k xs (spend f k x.len st)) (next x)

    each : (j : ℕ) → j < hops_of P g → row P st [] g j ≡ row P st' [] g j
    each j l =
        elim (dec_both g f j k) [
          | yes z ↦ subst (λ g. row P st [] g j ≡ row P st' [] g j) (sym z.0) (subst (λ j. row P st [] f j ≡ row P st' [] f j) (sym z.1)
              (row3_eq _ _ _ _ _ _ (keep []) (keep (at_hop f k (st.line (route P f k)))) e
              ∙ row3_shift [] (at_hop f k (st.line (route P f k))) xs x (stamped P st₁ (next x)) refl
              ∙ row3_eq _ _ _ _ _ _ (keep []) (sym (placed_here P st₁ (next x) f k fl hp)) (sym (with_cell_same f k xs st.waiting))))
          | no z ↦ row3_eq _ _ _ _ _ _ (keep []) (sym (placed_other P st₁ (next x) g j (λ a b. z (sym a ∙ fl, sym b ∙ hp))))
              (sym (with_cell_other f k xs st.waiting g j (λ a b. z (a, b))))
        ]

-- what the ports hand over
at_hop_none : (P : Parts) (p f k : ℕ) (xs : List Frame) → AllByRecursion (λ x. route P x.flow x.hop ≡ p) xs → (route P f k ≡ p → ⊥) → at_hop f k xs ≡ []
at_hop_none P p f k [] h n = refl
at_hop_none P p f k (x ∷ xs) h n = at_hop_no f k x xs (λ a b. n (ap₂ (route P) (sym a) (sym b) ∙ h.0)) ∙ at_hop_none P p f k xs h.1 n

gather_none : (P : Parts) (taken : ℕ → List Frame) → ((p : ℕ) → AllByRecursion (λ x. route P x.flow x.hop ≡ p) (taken p)) → (f k n : ℕ) → n ≤ route P f k
    → at_hop f k (gather n taken) ≡ []
gather_none P taken h f k zero l = refl
gather_none P taken h f k (suc n) l = filter-append _ (gather n taken) (taken n)
    ∙ ap₂ (λ a b. a ++ b) (gather_none P taken h f k n (omega arith)) (at_hop_none P n f k (taken n) (h n) (λ e. omega arith))

gather_at_hop : (P : Parts) (taken : ℕ → List Frame) → ((p : ℕ) → AllByRecursion (λ x. route P x.flow x.hop ≡ p) (taken p)) → (f k n : ℕ) → route P f k < n
    → at_hop f k (gather n taken) ≡ at_hop f k (taken (route P f k))
gather_at_hop P taken h f k zero l = absurd (omega arith)
gather_at_hop P taken h f k (suc n) l = filter-append _ (gather n taken) (taken n) ∙
    elim (ℕ_discrete (route P f k) n) [
      | yes e ↦ ap₂ (λ a b. a ++ b) (gather_none P taken h f k n (omega arith)) (ap (λ p. at_hop f k (taken p)) (sym e))
      | no e ↦ ap₂ (λ a b. a ++ b) (gather_at_hop P taken h f k n (omega arith)) (at_hop_none P n f k (taken n) (h n) e) ∙ append-nil _
    ]

pub chain_take : (P : Parts) (st : State) (taken rest : ℕ → List Frame) → ((p : ℕ) → st.line p ≡ taken p ++ rest p)
    → ((p : ℕ) → AllByRecursion (λ x. route P x.flow x.hop ≡ p) (st.line p)) → (f : ℕ) →
    ((k : ℕ) → k < hops_of P f → route P f k < P.size.ports) → chain P st [] f ≡ chain P (risen P rest st) (tray P taken) f
chain_take P st taken rest split here f inn = blocks_same (row P st [] f) (row P (risen P rest st) (tray P taken) f) (hops_of P f) each
  where
    here' : (p : ℕ) → AllByRecursion (λ x. route P x.flow x.hop ≡ p) (taken p)
    here' p = all_front _ (taken p) (rest p) (subst (AllByRecursion (λ x. route P x.flow x.hop ≡ p)) (split p) (here p))

    each : (j : ℕ) → j < hops_of P f → row P st [] f j ≡ row P (risen P rest st) (tray P taken) f j
    each j l =
        ap (λ m. map told (at_hop f j m ++ st.waiting f j)) (split (route P f j))
        ∙ ap (λ m. map told (m ++ st.waiting f j)) (filter-append _ (taken (route P f j)) (rest (route P f j)))
        ∙ ap (map told) (append_assoc (at_hop f j (taken (route P f j))) (at_hop f j (rest (route P f j))) (st.waiting f j))
        ∙ ap (λ m. map told (m ++ (at_hop f j (rest (route P f j)) ++ st.waiting f j))) (sym (gather_at_hop P taken here' f j P.size.ports (inn j l)))

-- an offer
pub chain_offer : (P : Parts) (st : State) (f n : ℕ) → 0 < hops_of P f → st.waiting f 0 ≡ [] → (g : ℕ)
    → chain P (offered P st f n) [] g ≡ chain P st [] g ++ cond (eqb f g) (record { len = n; origin = st.slot } ∷ []) []
chain_offer P st f n some free g =
    elim (ℕ_discrete f g) [
      | yes e ↦ subst (λ g. chain P (offered P st f n) [] g ≡ chain P st [] g ++ cond (eqb f g) (record { len = n; origin = st.slot } ∷ []) []) e
          (blocks_push (row P st [] f) (row P (offered P st f n) [] f) (hops_of P f) (record { len = n; origin = st.slot }) some
          (row3_eq _ _ _ _ _ _ (keep []) (placed_here P (spend f 0 n st) (new_frame st f n) f 0 refl refl) free
          ∙ sym (row3_shift [] (at_hop f 0 (st.line (route P f 0))) [] s s refl) ∙ row3_behind [] (at_hop f 0 (st.line (route P f 0))) [] s
          ∙ ap (λ l. l ++ told s ∷ []) (row3_eq _ _ _ _ _ _ (keep []) (keep (at_hop f 0 (st.line (route P f 0)))) (sym free)))
          (λ j l. row3_eq _ _ _ _ _ _ (keep []) (placed_other P (spend f 0 n st) (new_frame st f n) f j (λ _ z. omega arith)) (keep (st.waiting f j)))
          ∙ ap (λ (b : Bool). chain P st [] f ++ cond b (record { len = n; origin = st.slot } ∷ []) []) (sym (eq-eqb f f refl)))
      | no e ↦ blocks_same (row P (offered P st f n) [] g) (row P st [] g) (hops_of P g)
          (λ j l. row3_eq _ _ _ _ _ _ (keep []) (placed_other P (spend f 0 n st) (new_frame st f n) g j (λ a _. e a)) (keep (st.waiting g j)))
          ∙ sym (append-nil (chain P st [] g)) ∙ ap (λ (b : Bool). chain P st [] g ++ cond b (record { len = n; origin = st.slot } ∷ []) []) (sym (ne_eqb f g e))
    ]
  where
    s : Frame
    s = stamped P (spend f 0 n st) (new_frame st f n)

-- events
pub sent_push : (f : ℕ) (es : List Event) (e : Event) → sent f (es ++ e ∷ []) ≡ sent f es ++ sent_by f e
sent_push f [] e = append-nil (sent_by f e)
sent_push f (d ∷ es) e = ap (λ l. sent_by f d ++ l) (sent_push f es e) ∙ sym (append_assoc (sent_by f d) (sent f es) (sent_by f e))

pub delivered_push : (P : Parts) (f : ℕ) (es : List Event) (e : Event) → delivered P f (es ++ e ∷ []) ≡ delivered P f es ++ delivered_by P f e
delivered_push P f [] e = append-nil (delivered_by P f e)
delivered_push P f (d ∷ es) e = ap (λ l. delivered_by P f d ++ l) (delivered_push P f es e)
    ∙ sym (append_assoc (delivered_by P f d) (delivered P f es) (delivered_by P f e))

-- a flow's frames in a line are those at the hop that is there
pub flow_at_hop : (P : Parts) (f k p : ℕ) (xs : List Frame) → AllByRecursion (λ x. x.flow ≡ f → x.hop ≡ k) xs → of_flow f xs ≡ at_hop f k xs
flow_at_hop P f k p [] h = refl
flow_at_hop P f k p (x ∷ xs) h =
    elim (ℕ_discrete x.flow f) [
      | yes e ↦ ap (λ (b : Bool). cond b (x ∷ of_flow f xs) (of_flow f xs)) (eq-eqb x.flow f e) ∙ ap (λ l. x ∷ l) (flow_at_hop P f k p xs h.1)
          ∙ sym (at_hop_yes f k x xs e (h.0 e))
      | no e ↦ ap (λ (b : Bool). cond b (x ∷ of_flow f xs) (of_flow f xs)) (ne_eqb x.flow f e) ∙ flow_at_hop P f k p xs h.1
          ∙ sym (at_hop_no f k x xs (λ a _. e a))
    ]

pub chain_inside : (P : Parts) (st : State) (f n : ℕ) → ((k : ℕ) → k < n → of_flow f (st.line (route P f k)) ≡ at_hop f k (st.line (route P f k)))
    → map told (inside_to P st f n) ≡ blocks (row P st [] f) n
chain_inside P st f zero h = refl
chain_inside P st f (suc k) h =
    ap (map told) (ap (λ l. l ++ (st.waiting f k ++ inside_to P st f k)) (h k (omega arith))
    ∙ sym (append_assoc (at_hop f k (st.line (route P f k))) (st.waiting f k) (inside_to P st f k)))
    ∙ map-append told (at_hop f k (st.line (route P f k)) ++ st.waiting f k) (inside_to P st f k)
    ∙ ap (λ l. map told (at_hop f k (st.line (route P f k)) ++ st.waiting f k) ++ l) (chain_inside P st f k (λ j l. h j (omega arith)))
