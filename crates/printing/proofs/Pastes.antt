-- What is printed one after the other stands one behind the other.
use Rattle.std.proofs.Common.{◌≡◌, ℕ, ◌+◌, ◌*◌, ◌<◌, ◌≤◌, List, [], ◌∷◌, ◌++◌, length, set, Ok, Err, Result, sym, refl, ap, ◌∙◌, subst, add-one, arith, length-append, length-set}
use native.Mathlib.Nat.{mul-suc}
use lib.Seq.{paste}
use Rattle.std.proofs.lemmas.List.{drop-set, take-append-drop, take-set}
use Rattle.std.proofs.lemmas.List.Edits.{paste-paste}
use Rattle.std.proofs.lemmas.Bool.Decides.{nat_tests}
use Rattle.std.proofs.lemmas.Grind.{common_steps}
use Rattle.line.specs.Queues.{Pushed, memory, room}
use Rattle.line.specs.Ring.{placed}
use Rattle.printing.specs.Prints.{Printed, HasRoom}
use Rattle.printing.specs.Sheets.{lines_of}
use Rattle.line.specs.declared.queue.Queue.{Queue}

placed_flat : (n k : ℕ) → k < n → placed n 0 k ≡ k
placed_flat n k h = grind (arith, nat_tests)

paste_one : (xs : List ℕ) (at : ℕ) (v : ℕ) → at < length xs → set xs at v ≡ paste xs at (v ∷ []) 1
paste_one xs at v h = grind (arith, common_steps, take-append-drop at (set xs at v), take-set, drop-set)

-- a byte pushed is printed
pub pushed_prints : (q p : Queue ℕ) (v : ℕ) (r : Result (Unit {0}) ℕ) → p.places.ghost_name ≡ q.places.ghost_name → Pushed q v r p → Printed q (v ∷ []) p
pushed_prints q p v (Ok _) o e =
    let here : q.first ≡ 0 → placed (room q) q.first q.count ≡ q.count = λ z.
    ap (λ i. placed (room q) i q.count) z ∙ placed_flat (room q) q.count e.0 in
    record {
      owner = o;
      room = ap length e.4 ∙ length-set (memory q) (placed (room q) q.first q.count) v;
      first = e.2;
      count = λ _. e.3;
      memory = λ h. e.4 ∙ (ap (λ i. set (memory q) i v) (here h.first) ∙ paste_one (memory q) q.count v e.0);
    }
pushed_prints q p v (Err w) o e =
    record {
      owner = o;
      room = ap length e.2.2;
      first = e.2.0;
      count = λ h. absurd (omega (arith, h.fits, e.1));
      memory = λ h. absurd (omega (arith, h.fits, e.1));
    }

-- first these bytes, then those
pub printed_then : (q p r : Queue ℕ) (cs bs : List ℕ) → Printed q cs p → Printed p bs r → Printed q (cs ++ bs) r
printed_then q p r cs bs a b =
    let m = memory q in
    let front : HasRoom q (cs ++ bs) → HasRoom q cs = λ h.
    record { first = h.first; fits = omega (arith, h.fits, length-append cs bs) } in
    let back : HasRoom q (cs ++ bs) → HasRoom p bs = λ h.
    record { first = a.first ∙ h.first; fits = omega (arith, h.fits, length-append cs bs, a.room, a.count (front h)) } in
    record {
      owner = b.owner ∙ a.owner;
      room = b.room ∙ a.room;
      first = b.first ∙ a.first;
      count = λ h. omega (arith, a.count (front h), b.count (back h), length-append cs bs);
      memory = λ h.
          b.memory (back h)
          ∙ (ap (λ xs. paste xs p.count bs (length bs)) (a.memory (front h))
          ∙ (ap (λ i. paste (paste m q.count cs (length cs)) i bs (length bs)) (a.count (front h))
          ∙ (paste-paste m q.count cs bs (length cs) (length bs) refl refl q.fits
          ∙ ap (λ k. paste m q.count (cs ++ bs) k) (sym (length-append cs bs)))));
    }

-- the first n of these lines are printed, and none is longer than k bytes
pub record FirstLines (q : Queue ℕ) (l : ℕ → List ℕ) (k n : ℕ) (p : Queue ℕ) : Type 0 where
  pub printed : Printed q (lines_of l n) p
  pub short : length (lines_of l n) ≤ k * n

-- and one line more
pub first_lines_more : (q p r : Queue ℕ) (l : ℕ → List ℕ) (k n m : ℕ) (bs : List ℕ) → m ≡ n + 1 → bs ≡ l n → length bs ≤ k → FirstLines q l k n p → Printed p bs r → FirstLines q l k m r
first_lines_more q p r l k n m bs s e w a b =
    let P : List ℕ → Type 0 = λ cs. Printed p cs r in
    let Q : ℕ → Type 0 = λ i. FirstLines q l k i r in
    subst Q (sym (s ∙ add-one n)) (record {
      printed = printed_then q p r (lines_of l n) (l n) a.printed (subst P e b);
      short = omega (arith, length-append (lines_of l n) (l n), ap length e, w, a.short, mul-suc k n);
    })
