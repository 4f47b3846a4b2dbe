-- A cabinet that decides in time keeps the rule of take.
use Rattle.std.proofs.Common.{◌≡◌, ℕ, Bool, true, false, leb, List, [], ◌∷◌, drop, Some, None, Option, sym, refl, ap, ◌∙◌, arith}
use Rattle.std.proofs.lemmas.Bool.{lt-leb}
use Rattle.service.specs.declared.frame.Frame.{Frame}
use Rattle.cabinet.specs.Advances.{has_due}
use Rattle.cabinet.specs.Model.{Model, PortModel, frame_in, port_in}
use Rattle.cabinet.specs.Takes.{InTime, Taken, Timely, hand_answer, take_after}

-- the first frame leads the line
pub front : (xs : List Frame) (x : Frame) → Some x ≡ frame_in xs 0 → xs ≡ x ∷ drop 1 xs
front [] x e = absurd (let z : ◌≡◌ {A = ℕ} 0 1 = cc in omega arith)
front (y ∷ xs) x e = let q : y ≡ x = cc in ap (λ (z : Frame). z ∷ xs) q

has_due_none : (s : ℕ) (xs : List Frame) → None ≡ frame_in xs 0 → has_due s xs ≡ false
has_due_none s [] e = refl
has_due_none s (x ∷ xs) e = absurd (let z : ◌≡◌ {A = ℕ} 0 1 = cc in omega arith)

pub timely_taken : (m n : Model) (p : ℕ) (ready : Bool) (r : Option Frame) → r ≡ hand_answer ready m p → n ≡ take_after m p r → Timely m.slot (port_in m p) ready → Taken m p r n
timely_taken m n p true (Some x) e a t =
    record { first = front (port_in m p).line x e; stayed = t.stayed x e refl; after = a }
timely_taken m n p true None e a t = record { none_due = has_due_none m.slot (port_in m p).line e; after = a }
timely_taken m n p false (Some x) e a t = absurd (let z : ◌≡◌ {A = ℕ} 0 1 = cc in omega arith)
timely_taken m n p false None e a t = record { none_due = t.none_due refl; after = a }

same_first : (xs : List Frame) (x y : Frame) → Some x ≡ frame_in xs 0 → Some y ≡ frame_in xs 0 → x ≡ y
same_first xs x y a b = let q : ◌≡◌ {A = Option Frame} (Some x) (Some y) = a ∙ sym b in cc

-- the first frame is x, and it is the one that tells whether any is due: so is whoever decides by it
pub timely_by : (slot : ℕ) (q : PortModel) (x : Frame) (ready : Bool) → Some x ≡ frame_in q.line 0 → has_due slot q.line ≡ leb x.due slot → InTime slot q x ready → Timely slot q ready
timely_by slot q x ready e d t =
    record {
      stayed = λ y f r. rw (← same_first q.line x y e f) (t.stayed r);
      none_due = λ r. d ∙ lt-leb x.due slot (t.later r);
    }

-- no frame waits
pub timely_none : (slot : ℕ) (q : PortModel) → None ≡ frame_in q.line 0 → Timely slot q false
timely_none slot q e =
    record {
      stayed = λ x f r. absurd (let z : ◌≡◌ {A = ℕ} 0 1 = cc in omega arith);
      none_due = λ r. has_due_none slot q.line e;
    }
