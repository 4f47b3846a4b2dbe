-- A wire that is no slower than its port: what it has sent, and when it is through.
use Rattle.std.proofs.Common.{◌≡◌, ℕ, ◌+◌, ◌*◌, ◌<◌, ◌≤◌, max, true, leb, List, [], ◌∷◌, ◌++◌, refl, mul-le-mul_right, mul-le-mul_left, le_of_mul-le-mul_right, arith}
use native.Mathlib.Decide.{dec_le}
use Rattle.std.proofs.lemmas.Bool.{and_from, and_parts, le-leb}
use Rattle.rounding.proofs.Ceilings.{up_covers, up_least}
use Rattle.rounding.specs.Quotients.{up}
use Rattle.service.specs.declared.frame.Frame.{Frame}
use Rattle.prompt.specs.Wires.{own_after, own_finish, through}

-- g/C at most finish/R stays so when n bits more enter both in this slot
pub pace_kept : (g f r c slot n : ℕ) → r ≤ c → g * r ≤ f * c → (max g (slot * c) + n) * r ≤ (max f (slot * r) + n) * c
pace_kept g f r c slot n h e =
    let top = max f (slot * r) in
    let a : f * c ≤ top * c = mul-le-mul_right {m = f} {n = top} c (omega arith) in
    let b : slot * r * c ≤ top * c = mul-le-mul_right {m = slot * r} {n = top} c (omega arith) in
    let d : n * r ≤ n * c = mul-le-mul_left {m = r} {n = c} n h in
    elim (dec_le g (slot * c)) [
      | yes l ↦ let m : max g (slot * c) ≡ slot * c = omega arith in rw m (omega arith)
      | no l ↦ let m : max g (slot * c) ≡ g = omega arith in rw m (omega arith)
    ]

-- and then the wire is through by the slot in which the port is done
pub pace_through : (g f r c : ℕ) → 0 < r → 0 < c → g * r ≤ f * c → up g c ≤ up f r
pace_through g f r c hr hc e =
    let a : f * c ≤ up f r * r * c = mul-le-mul_right {m = f} {n = up f r * r} c (up_covers f r hr) in
    let b : g * r ≤ up f r * c * r = omega arith in
    up_least g c (up f r) hc (le_of_mul-le-mul_right {k = r} b hr)

-- one frame more at the end of the line
pub own_finish_push : (c g : ℕ) (xs : List Frame) (y : Frame) → own_finish c g (xs ++ y ∷ []) ≡ own_after c (own_finish c g xs) y
own_finish_push c g [] y = refl
own_finish_push c g (x ∷ xs) y = own_finish_push c (own_after c g x) xs y

pub through_push : (c u g : ℕ) (xs : List Frame) (y : Frame) → through c u g xs ≡ true → up (own_after c (own_finish c g xs) y) c + u ≤ y.due → through c u g (xs ++ y ∷ []) ≡ true
through_push c u g [] y t h = and_from (leb (up (own_after c g y) c + u) y.due) true (le-leb (up (own_after c g y) c + u) y.due h) refl
through_push c u g (x ∷ xs) y t h =
    let a = and_parts (leb (up (own_after c g x) c + u) x.due) (through c u (own_after c g x) xs) t in
    and_from (leb (up (own_after c g x) c + u) x.due) (through c u (own_after c g x) (xs ++ y ∷ [])) a.0 (through_push c u (own_after c g x) xs y a.1 h)

-- the own finish only grows along a line
pub own_finish_rises : (c g : ℕ) (xs : List Frame) → g ≤ own_finish c g xs
own_finish_rises c g [] = omega arith
own_finish_rises c g (x ∷ xs) = let a = own_finish_rises c (own_after c g x) xs in omega arith
