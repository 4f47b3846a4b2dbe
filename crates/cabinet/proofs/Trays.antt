-- Elements laid into a queue one after the other.
use Rattle.std.proofs.Common.{◌≡◌, ℕ, ◌+◌, ◌<◌, List, [], ◌∷◌, ◌++◌, length, set, Ok, Err, Result, sym, refl, ap, ◌∙◌, add-zero, arith}
use Rattle.std.proofs.lemmas.List.{append_assoc, append-nil, length-append, length-set}
use Rattle.line.specs.Queues.{Pushed, contents, memory, room}
use Rattle.line.specs.Ring.{placed}
use Rattle.line.specs.declared.queue.Queue.{Queue}
use Rattle.cabinet.specs.Drains.{Laid, laid}

length_laid : {X : Type 0} (ms : List X) (f c : ℕ) (xs : List X) → length (laid ms f c xs) ≡ length ms
length_laid ms f c [] = refl
length_laid ms f c (x ∷ xs) =
    length_laid (set ms (placed (length ms) f c) x) f (c + 1) xs ∙ length-set ms (placed (length ms) f c) x

-- the last one goes into the next place
laid_more : {X : Type 0} (ms : List X) (f c : ℕ) (xs : List X) (v : X) → laid ms f c (xs ++ v ∷ []) ≡ set (laid ms f c xs) (placed (length ms) f (c + length xs)) v
laid_more ms f c [] v = ap (λ i. set ms (placed (length ms) f i) v) (sym (add-zero c))
laid_more ms f c (x ∷ xs) v =
    let at = placed (length ms) f c in
    let k : c + 1 + length xs ≡ c + length (x ∷ xs) = omega arith in
    laid_more (set ms at x) f (c + 1) xs v
    ∙ (ap (λ n. set (laid (set ms at x) f (c + 1) xs) (placed n f (c + 1 + length xs)) v) (length-set ms at x)
    ∙ ap (λ i. set (laid (set ms at x) f (c + 1) xs) (placed (length ms) f i) v) k)

pub laid_none : {X : Type 0} (t : Queue X) → Laid t [] t
laid_none t = record { first = refl; count = sym (add-zero t.count); items = sym (append-nil (contents t)); memory = refl }

-- one more is pushed, and there was room for it
pub laid_push : {X : Type 0} (t u w : Queue X) (xs : List X) (v : X) (r : Result (Unit {0}) X) → t.count + length xs < room t → Laid t xs u → Pushed u v r w → Laid t (xs ++ v ∷ []) w
laid_push t u w xs v (Ok tt) h a b =
    let n : room u ≡ room t = ap length a.memory ∙ length_laid (memory t) t.first t.count xs in
    record {
      first = b.2 ∙ a.first;
      count = omega (arith, b.3, a.count, length-append xs (v ∷ []));
      items = b.1 ∙ (ap (λ l. l ++ v ∷ []) a.items ∙ append_assoc (contents t) xs (v ∷ []));
      memory = b.4
          ∙ (ap (λ l. set l (placed (room u) u.first u.count) v) a.memory
          ∙ (ap (λ k. set (laid (memory t) t.first t.count xs) (placed k u.first u.count) v) n
          ∙ (ap (λ k. set (laid (memory t) t.first t.count xs) (placed (room t) k u.count) v) a.first
          ∙ (ap (λ k. set (laid (memory t) t.first t.count xs) (placed (room t) t.first k) v) a.count
          ∙ sym (laid_more (memory t) t.first t.count xs v)))));
    }
laid_push t u w xs v (Err z) h a b =
    absurd (omega (arith, b.1, a.count, ap length a.memory ∙ length_laid (memory t) t.first t.count xs))
