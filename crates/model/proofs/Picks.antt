-- Frames with their history and without it, and the frames of a flow at a hop.
use Rattle.std.proofs.Common.{◌≡◌, ℕ, suc, ◌+◌, ◌-◌, ◌<◌, Bool, true, false, cond, ◌&&◌, eqb, List, [], ◌∷◌, ◌++◌, map, length, get_or, filter, sym, refl, ap, ◌∙◌, subst, ap₂, arith}
use Rattle.std.proofs.lemmas.List.Elements.{filter-append}
use Rattle.std.specs.List.{AllByRecursion}
use Rattle.service.specs.declared.frame.Frame.{Frame}
use Rattle.calculus.specs.Systems.{Apart, Traced}
use Rattle.calculus.specs.Windows.{total}
use Rattle.model.proofs.Cells.{both_no, both_yes, dec_both}
use Rattle.model.specs.Runs.{at_hop}

-- a frame without its history
abbrev pub erase : Traced → Frame
erase x = record {
  flow = x.flow;
  hop = length x.past - 1;
  len = x.len;
  origin = get_or x.past 0 0;
  entry =
      get_or x.past (length x.past - 1) 0;
  due = x.due;
}

-- the frames of flow f that have made n entries
abbrev pub loose_at : ℕ → ℕ → List Traced → List Traced
loose_at f n = filter (λ x. eqb x.flow f && eqb (length x.past) n)

-- lists
pub nil_cons : {X A : Type 0} (x : X) (xs : List X) → ◌≡◌ {A = List X} [] (x ∷ xs) → A
nil_cons x xs e = absurd (let z : ◌≡◌ {A = ℕ} 0 1 = cc in omega arith)

abbrev head_or : {X : Type 0} → X → List X → X
head_or d [] = d
head_or d (x ∷ xs) = x

abbrev tail_of : {X : Type 0} → List X → List X
tail_of [] = []
tail_of (x ∷ xs) = xs

pub same_head : {X : Type 0} (x y : X) (xs ys : List X) → x ∷ xs ≡ y ∷ ys → x ≡ y
same_head x y xs ys e = ap (head_or x) e

pub same_tail : {X : Type 0} (x y : X) (xs ys : List X) → x ∷ xs ≡ y ∷ ys → xs ≡ ys
same_tail x y xs ys e = ap tail_of e

pub record Uncons (xs : List Traced) (y : Frame) (ys : List Frame) : Type 0 where
  pub head : Traced
  pub tail : List Traced
  pub whole : xs ≡ head ∷ tail
  pub first : erase head ≡ y
  pub rest : map erase tail ≡ ys

pub uncons : (xs : List Traced) (y : Frame) (ys : List Frame) → map erase xs ≡ y ∷ ys → Uncons xs y ys
uncons [] y ys e = nil_cons y ys e
uncons (x ∷ xs) y ys e = record {
  head = x;
  tail = xs;
  whole = refl;
  first = same_head (erase x) y (map erase xs) ys e;
  rest =
      same_tail (erase x) y (map erase xs) ys e;
}

pub record Split (xs : List Traced) (ys zs : List Frame) : Type 0 where
  pub front : List Traced
  pub back : List Traced
  pub whole : xs ≡ front ++ back
  pub fronts : map erase front ≡ ys
  pub backs : map erase back ≡ zs

pub splits : (xs : List Traced) (ys zs : List Frame) → map erase xs ≡ ys ++ zs → Split xs ys zs
splits xs [] zs e = record { front = []; back = xs; whole = refl; fronts = refl; backs = e }
splits [] (y ∷ ys) zs e = nil_cons y (ys ++ zs) e
splits (x ∷ xs) (y ∷ ys) zs e = more (splits xs ys zs (same_tail (erase x) y (map erase xs) (ys ++ zs) e))
  where
    more : Split xs ys zs → Split (x ∷ xs) (y ∷ ys) zs
    more r = record {
      front = x ∷ r.front;
      back = r.back;
      whole = ap (λ l. x ∷ l) r.whole;
      fronts =
          ap₂ (λ a l. a ∷ l) (same_head (erase x) y (map erase xs) (ys ++ zs) e) r.fronts;
      backs = r.backs;
    }

pub all_unmap : {X Y : Type 0} (A : Y → Type 0) (g : X → Y) (xs : List X) → AllByRecursion A (map g xs) → AllByRecursion (λ x. A (g x)) xs
all_unmap A g [] h = tt
all_unmap A g (x ∷ xs) h = (h.0, all_unmap A g xs h.1)

pub all_front : {X : Type 0} (A : X → Type 0) (xs ys : List X) → AllByRecursion A (xs ++ ys) → AllByRecursion A xs
all_front A [] ys h = tt
all_front A (x ∷ xs) ys h = (h.0, all_front A xs ys h.1)

pub all_back : {X : Type 0} (A : X → Type 0) (xs ys : List X) → AllByRecursion A (xs ++ ys) → AllByRecursion A ys
all_back A [] ys h = h
all_back A (x ∷ xs) ys h = all_back A xs ys h.1

pub total_erase : (xs : List Traced) → total (λ (x : Frame). x.len) (map erase xs) ≡ total (λ (x : Traced). x.len) xs
total_erase [] = refl
total_erase (x ∷ xs) = ap (λ n. x.len + n) (total_erase xs)

-- the frames of a flow at a hop, frame by frame
pub at_hop_yes : (f k : ℕ) (x : Frame) (xs : List Frame) → x.flow ≡ f → x.hop ≡ k → at_hop f k (x ∷ xs) ≡ x ∷ at_hop f k xs
at_hop_yes f k x xs e q = ap (λ (b : Bool). cond b (x ∷ at_hop f k xs) (at_hop f k xs)) (both_yes x.flow f x.hop k e q)

pub at_hop_no : (f k : ℕ) (x : Frame) (xs : List Frame) → (x.flow ≡ f → x.hop ≡ k → ⊥) → at_hop f k (x ∷ xs) ≡ at_hop f k xs
at_hop_no f k x xs h = ap (λ (b : Bool). cond b (x ∷ at_hop f k xs) (at_hop f k xs)) (both_no x.flow f x.hop k h)

pub loose_yes : (f n : ℕ) (x : Traced) (xs : List Traced) → x.flow ≡ f → length x.past ≡ n → loose_at f n (x ∷ xs) ≡ x ∷ loose_at f n xs
loose_yes f n x xs e q = ap (λ (b : Bool). cond b (x ∷ loose_at f n xs) (loose_at f n xs)) (both_yes x.flow f (length x.past) n e q)

pub loose_no : (f n : ℕ) (x : Traced) (xs : List Traced) → (x.flow ≡ f → length x.past ≡ n → ⊥) → loose_at f n (x ∷ xs) ≡ loose_at f n xs
loose_no f n x xs h = ap (λ (b : Bool). cond b (x ∷ loose_at f n xs) (loose_at f n xs)) (both_no x.flow f (length x.past) n h)

-- the frames of a flow that have made k + 1 entries are those whose hop is k
pub loose_erase : (f k : ℕ) (xs : List Traced) → AllByRecursion (λ x. 0 < length x.past) xs → map erase (loose_at f (suc k) xs) ≡ at_hop f k (map erase xs)
loose_erase f k [] h = refl
loose_erase f k (x ∷ xs) h =
    elim (dec_both x.flow f (length x.past) (suc k)) [
      | yes e ↦ ap (map erase) (loose_yes f (suc k) x xs e.0 e.1) ∙ ap (λ l. erase x ∷ l) (loose_erase f k xs h.1)
          ∙ sym (at_hop_yes f k (erase x) (map erase xs) e.0 (omega (arith, e.1)))
      | no e ↦ ap (map erase) (loose_no f (suc k) x xs (λ p q. e (p, q))) ∙ loose_erase f k xs h.1
          ∙ sym (at_hop_no f k (erase x) (map erase xs) (λ p q. e (p, omega (arith, h.0))))
    ]

-- the first frame of a flow that has made n entries, wherever it stands
pub record Found (f n : ℕ) (xs : List Traced) (y : Traced) (rest : List Traced) : Type 0 where
  pub us : List Traced
  pub vs : List Traced
  pub split : xs ≡ us ++ y ∷ vs
  pub apart : AllByRecursion (Apart y) us
  pub flow : y.flow ≡ f
  pub made : length y.past ≡ n
  pub left : loose_at f n (us ++ vs) ≡ rest
  pub others : (g m : ℕ) → (g ≡ f → m ≡ n → ⊥) → loose_at g m (us ++ vs) ≡ loose_at g m xs

pub find : (f n : ℕ) (xs : List Traced) (y : Traced) (rest : List Traced) → loose_at f n xs ≡ y ∷ rest → Found f n xs y rest
find f n [] y rest e = nil_cons y rest e
find f n (x ∷ xs) y rest e = go (dec_both x.flow f (length x.past) n) (λ q. find f n xs y rest q)
  where
    go : Dec ((x.flow ≡ f) × (length x.past ≡ n)) → (loose_at f n xs ≡ y ∷ rest → Found f n xs y rest) → Found f n (x ∷ xs) y rest
    go (yes p) ih = subst (λ y. Found f n (x ∷ xs) y rest) (same_head x y (loose_at f n xs) rest q)
        (record {
          us = [];
          vs = xs;
          split = refl;
          apart = tt;
          flow = p.0;
          made = p.1;
          left = same_tail x y (loose_at f n xs) rest q;
          others = λ g m h. sym (loose_no g m x xs (λ a b. h (sym a ∙ p.0) (sym b ∙ p.1)));
        })
      where
        q : x ∷ loose_at f n xs ≡ y ∷ rest
        q = sym (loose_yes f n x xs p.0 p.1) ∙ e
    go (no p) ih = more (ih (sym (loose_no f n x xs (λ a b. p (a, b))) ∙ e))
      where
        more : Found f n xs y rest → Found f n (x ∷ xs) y rest
        more r = record {
          us = x ∷ r.us;
          vs = r.vs;
          split = ap (λ l. x ∷ l) r.split;
          apart =
              ((λ a b. p (sym a ∙ r.flow, sym b ∙ r.made)), r.apart);
          flow = r.flow;
          made = r.made;
          left = loose_no f n x (r.us ++ r.vs) (λ a b. p (a, b)) ∙ r.left;
          others = λ g m h. cong g m (eqb x.flow g && eqb (length x.past) m) (r.others g m h);
        }
          where
            cong : (g m : ℕ) (b : Bool) → loose_at g m (r.us ++ r.vs) ≡ loose_at g m xs
                → cond b (x ∷ loose_at g m (r.us ++ r.vs)) (loose_at g m (r.us ++ r.vs)) ≡ cond b (x ∷ loose_at g m xs) (loose_at g m xs)
            cong g m true z = ap (λ l. x ∷ l) z
            cong g m false z = z

-- a frame in a list is among its flow's at its count of entries; the first one stands first there
pub among : (us : List Traced) (y : Traced) (vs : List Traced) (f n : ℕ) → y.flow ≡ f → length y.past ≡ n → AllByRecursion (Apart y) us
    → loose_at f n (us ++ y ∷ vs) ≡ y ∷ loose_at f n vs
among [] y vs f n e q h = loose_yes f n y vs e q
among (u ∷ us) y vs f n e q h = loose_no f n u (us ++ y ∷ vs) (λ a b. h.0 (e ∙ sym a) (q ∙ sym b)) ∙ among us y vs f n e q h.1

pub some_there : (us : List Traced) (y : Traced) (vs : List Traced) → loose_at y.flow (length y.past) (us ++ y ∷ vs) ≡ [] → ⊥
some_there us y vs e = go (loose_at y.flow (length y.past) us)
    (sym e ∙ filter-append _ us (y ∷ vs)
    ∙ ap (λ l. loose_at y.flow (length y.past) us ++ l) (loose_yes y.flow (length y.past) y vs refl refl))
  where
    go : (ws : List Traced) → ◌≡◌ {A = List Traced} [] (ws ++ y ∷ loose_at y.flow (length y.past) vs) → ⊥
    go [] q = nil_cons _ _ q
    go (a ∷ ws) q = nil_cons _ _ q
