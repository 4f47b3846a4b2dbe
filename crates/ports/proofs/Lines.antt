-- Lines whose due slots rise: the first frame tells whether any is due.
use Rattle.std.proofs.Common.{◌≡◌, ℕ, ◌+◌, ◌<◌, ◌≤◌, true, false, ◌&&◌, ◌||◌, leb, List, [], ◌∷◌, ◌++◌, drop, refl, arith}
use Rattle.std.proofs.lemmas.Bool.{and_from, and_parts, le-leb, leb-false, leb-true, lt-leb}
use Rattle.service.specs.declared.frame.Frame.{Frame}
use Rattle.cabinet.specs.Advances.{has_due}
use Rattle.cabinet.specs.Model.{PortModel, frame_in}
use Rattle.cabinet.specs.Takes.{passes}
use Rattle.ports.specs.Lanes.{rising}
use Rattle.ports.specs.Kinds.{first_stays}

rising_parts : (stay low : ℕ) (x : Frame) (xs : List Frame) (top : ℕ) → rising stay low (x ∷ xs) top ≡ true → (low ≤ x.due) × (x.entry + stay ≤ x.due) × (rising stay x.due xs top ≡ true)
rising_parts stay low x xs top r =
    let a = and_parts (leb low x.due) (leb (x.entry + stay) x.due && rising stay x.due xs top) r in
    let b = and_parts (leb (x.entry + stay) x.due) (rising stay x.due xs top) a.1 in
    (leb-true low x.due a.0, leb-true (x.entry + stay) x.due b.0, b.1)

rising_from : (stay low : ℕ) (x : Frame) (xs : List Frame) (top : ℕ) → low ≤ x.due → x.entry + stay ≤ x.due → rising stay x.due xs top ≡ true → rising stay low (x ∷ xs) top ≡ true
rising_from stay low x xs top a b r =
    and_from (leb low x.due) (leb (x.entry + stay) x.due && rising stay x.due xs top) (le-leb low x.due a)
    (and_from (leb (x.entry + stay) x.due) (rising stay x.due xs top) (le-leb (x.entry + stay) x.due b) r)

-- a line that rises from above s has none due at s
none_due : (stay low : ℕ) (xs : List Frame) (top s : ℕ) → rising stay low xs top ≡ true → s < low → has_due s xs ≡ false
none_due stay low [] top s r h = refl
none_due stay low (x ∷ xs) top s r h =
    let a = rising_parts stay low x xs top r in
    let later : s < x.due = omega arith in
    rw (lt-leb x.due s later) (none_due stay x.due xs top s a.2 later)

-- the first frame decides
pub first_decides : (stay low : ℕ) (xs : List Frame) (top s : ℕ) → rising stay low xs top ≡ true → has_due s xs ≡ passes (λ x. leb x.due s) (frame_in xs 0)
first_decides stay low [] top s r = refl
first_decides stay low (x ∷ xs) top s r =
    let a = rising_parts stay low x xs top r in
    elim (leb x.due s) as (λ v. leb x.due s ≡ v → v || has_due s xs ≡ v) [
      | true ↦ λ e. refl
      | false ↦ λ e. none_due stay x.due xs top s a.2 (leb-false x.due s e)
    ] refl

-- and is not due before its least stay
pub first_patient : (q : PortModel) (low top : ℕ) → rising q.figures.stay low q.line top ≡ true → first_stays q (frame_in q.line 0)
first_patient q low top = patient q.line
  where
    patient : (xs : List Frame) → rising q.figures.stay low xs top ≡ true → first_stays q (frame_in xs 0)
    patient [] r = tt
    patient (x ∷ xs) r = (rising_parts q.figures.stay low x xs top r).1

rising_lower : (stay low : ℕ) (xs : List Frame) (top less : ℕ) → rising stay low xs top ≡ true → less ≤ low → rising stay less xs top ≡ true
rising_lower stay low [] top less r h = let e = leb-true low top r in le-leb less top (omega arith)
rising_lower stay low (x ∷ xs) top less r h =
    let a = rising_parts stay low x xs top r in
    rising_from stay less x xs top (omega arith) a.1 a.2

-- without its first frame it rises too
pub rising_rest : (stay : ℕ) (xs : List Frame) (top : ℕ) → rising stay 0 xs top ≡ true → rising stay 0 (drop 1 xs) top ≡ true
rising_rest stay [] top r = r
rising_rest stay (x ∷ xs) top r =
    rising_lower stay x.due xs top 0 (rising_parts stay 0 x xs top r).2 (omega arith)

-- one more at the end, due no earlier than the line's top
pub rising_push : (stay low : ℕ) (xs : List Frame) (was : ℕ) (x : Frame) → rising stay low xs was ≡ true → was ≤ x.due → x.entry + stay ≤ x.due → rising stay low (xs ++ x ∷ []) x.due ≡ true
rising_push stay low [] was x r c e =
    let h = leb-true low was r in
    rising_from stay low x [] x.due (omega arith) e (le-leb x.due x.due (omega arith))
rising_push stay low (y ∷ xs) was x r c e =
    let a = rising_parts stay low y xs was r in
    rising_from stay low y (xs ++ x ∷ []) x.due a.0 a.1 (rising_push stay y.due xs was x a.2 c e)
