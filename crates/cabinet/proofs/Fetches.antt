-- Takes one after the other: a prefix of the line comes out, whatever the cabinet's make.
use Rattle.std.proofs.Common.{◌≡◌, ℕ, zero, suc, ◌+◌, ◌<◌, ◌≤◌, false, List, [], ◌∷◌, length, get_or, drop, sym, refl, ap, ◌∙◌, subst, ⊎_elim, arith}
use Rattle.std.proofs.ByRecursion.{All-more}
use Rattle.std.proofs.lemmas.List.{drop-drop, get_or-drop, get_or_past, get_or-set_same, length-drop, set-get_or, set_past, set-set}
use Rattle.std.proofs.lemmas.Bool.{cases_lt}
use Rattle.service.specs.declared.frame.Frame.{Frame}
use Rattle.cabinet.specs.Advances.{has_due}
use Rattle.cabinet.specs.Drains.{Drained, Fetched}
use Rattle.cabinet.specs.Model.{Model, PortModel, cut, port_in, vacant, with_port}
use Rattle.cabinet.specs.Takes.{Handed, Held, Stayed}
use Rattle.cabinet.specs.Wells.{Well}

drop_nil : (n : ℕ) → drop {A = Frame} n [] ≡ []
drop_nil zero = refl
drop_nil (suc n) = refl

abbrev with_line : PortModel → List Frame → PortModel
with_line q l = record { figures = q.figures; finish = q.finish; line = l }

cut_vacant : (n : ℕ) → cut n vacant ≡ vacant
cut_vacant n = ap (with_line vacant) (drop_nil n)

cut_cut : (n k : ℕ) (q : PortModel) → cut k (cut n q) ≡ cut (n + k) q
cut_cut n k q = ap (with_line q) (drop-drop k n q.line)

at_cut : (m : Model) (p n : ℕ) → port_in (with_port m p (cut n (port_in m p))) p ≡ cut n (port_in m p)
at_cut m p n = ⊎_elim
    (λ (h : p < length m.ports). get_or-set_same m.ports p (cut n (port_in m p)) vacant h)
    (λ (h : length m.ports ≤ p).
    let e : port_in m p ≡ vacant = get_or_past m.ports p vacant h in
    ap (λ (l : List PortModel). get_or l p vacant) (set_past m.ports p (cut n (port_in m p)) h) ∙ e ∙ sym (cut_vacant n) ∙ ap (cut n) (sym e))
    (cases_lt p (length m.ports))

-- nothing taken yet
pub fetched_none : (m : Model) (p : ℕ) → Fetched m p 0 m
fetched_none m p =
    record {
      within = omega arith;
      stayed = tt;
      after = ap (λ (l : List PortModel). record { slot = m.slot; ports = l }) (sym (set-get_or m.ports p vacant));
    }

module _ (m x y : Model) (p n : ℕ) (f d : Frame) (a : Fetched m p n x) (b : Handed x p f y) where
  at : port_in x p ≡ cut n (port_in m p)
  at = ap (λ (z : Model). port_in z p) a.after ∙ at_cut m p n

  front : drop n (port_in m p).line ≡ f ∷ drop 1 (drop n (port_in m p).line)
  front = subst (λ (z : PortModel). z.line ≡ f ∷ drop 1 z.line) at b.first

  -- a frame came, so one was left
  pub fetched_room : n < length (port_in m p).line
  fetched_room = let e = ap length front in let k = length-drop n (port_in m p).line in omega arith

  -- and it is the next of the line
  pub fetched_is : f ≡ get_or (port_in m p).line n d
  fetched_is = sym (ap (λ (l : List Frame). get_or l 0 d) front) ∙ get_or-drop n (port_in m p).line 0 d ∙ ap (λ (k : ℕ). get_or (port_in m p).line k d) (omega arith)

  pub fetched_more : Fetched m p (n + 1) y
  fetched_more =
      let s : x.slot ≡ m.slot = ap (λ (z : Model). z.slot) a.after in
      let st : f.entry + (port_in m p).figures.stay ≤ m.slot = subst (λ (k : ℕ). f.entry + (port_in m p).figures.stay ≤ k) s (subst (λ (z : PortModel). f.entry + z.figures.stay ≤ x.slot) at b.stayed) in
      record {
        within = (let r = fetched_room in omega arith);
        stayed = All-more (Stayed m.slot (port_in m p)) (port_in m p).line n d fetched_room a.stayed (subst (Stayed m.slot (port_in m p)) fetched_is st);
        after = b.after ∙ ap (λ (z : PortModel). with_port x p (cut 1 z)) at ∙ ap (λ (z : Model). with_port z p (cut 1 (cut n (port_in m p)))) a.after
            ∙ ap (λ (l : List PortModel). record { slot = m.slot; ports = l }) (set-set m.ports p (cut n (port_in m p)) (cut 1 (cut n (port_in m p))))
            ∙ ap (with_port m p) (cut_cut n 1 (port_in m p));
      }

-- none is said, so none that is left is due
pub fetched_all : (m x y : Model) (p n : ℕ) → Fetched m p n x → Held x p y → Drained m p n y
fetched_all m x y p n a h =
    let at : port_in x p ≡ cut n (port_in m p) = ap (λ (z : Model). port_in z p) a.after ∙ at_cut m p n in
    let s : x.slot ≡ m.slot = ap (λ (z : Model). z.slot) a.after in
    record {
      fetched = subst (Fetched m p n) (sym h.after) a;
      none_due = subst (λ (k : ℕ). has_due k (drop n (port_in m p).line) ≡ false) s (subst (λ (z : PortModel). has_due x.slot z.line ≡ false) at h.none_due);
    }

-- at most 32 frames wait, at a port that is lacking none
pub line_few : (m : Model) (p : ℕ) → Well m → length (port_in m p).line ≤ 32
line_few m p w = ⊎_elim
    (λ (h : p < length m.ports). (w.ports p h).line_most)
    (λ (h : length m.ports ≤ p). rw (get_or_past m.ports p vacant h) (omega arith))
    (cases_lt p (length m.ports))
