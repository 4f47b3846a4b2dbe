-- The gathering kind: which periods a port may have, and when a frame is handed over, which is in time.
use Rattle.std.specs.Prelude.{◌≡◌, ℕ, ◌+◌, ◌%◌, ◌≤◌, Bool, true, false, ◌&&◌, ◌||◌, ◌⊎◌, ◌==◌, nat_le}
use Rattle.std.proofs.Common.{inl, inr, leb, ⊎_elim, refl, arith}
use Rattle.std.proofs.lemmas.Bool.{leb-false, leb-true}
use Rattle.draft.specs.declared.port.Port.{Port}
use Rattle.rounding.specs.Quotients.{up}
use Rattle.service.specs.Entries.{has_stayed}
use Rattle.service.specs.declared.frame.Frame.{Frame}
use Rattle.cabinet.specs.Model.{PortModel}
use Rattle.cabinet.specs.Takes.{InTime}

-- 1 or more, with m + G - 1 ≤ T + up(l/R): a slot divisible by G falls between the least stay and the due slot of every frame
abbrev pub period_fits : Port → ℕ → Bool
period_fits q period = nat_le 1 period && nat_le (q.stay + period) (q.latency + up q.shortest q.rate + 1)

-- handed over in this slot: gathered, once it has stayed, in a slot divisible by the period; or due
abbrev pub gathered : ℕ → ℕ → ℕ → Frame → Bool
gathered slot period stay x = (slot % period == 0 && has_stayed stay slot x) || nat_le x.due slot

either : (a b c : Bool) → (a && b) || c ≡ true → (b ≡ true) ⊎ (c ≡ true)
either true true c e = inl refl
either true false c e = inr e
either false b c e = inr e

neither : (a c : Bool) → a || c ≡ false → c ≡ false
neither true c e = absurd (let z : ◌≡◌ {A = ℕ} 0 1 = cc in omega arith)
neither false c e = e

pub gathered_in_time : (slot period : ℕ) (q : PortModel) (x : Frame) → x.entry + q.figures.stay ≤ x.due → InTime slot q x (gathered slot period q.figures.stay x)
gathered_in_time slot period q x h =
    record {
      stayed = λ r. ⊎_elim
          (λ (s : has_stayed q.figures.stay slot x ≡ true). leb-true (x.entry + q.figures.stay) slot s)
          (λ (d : leb x.due slot ≡ true). let l : x.due ≤ slot = leb-true x.due slot d in omega arith)
          (either (slot % period == 0) (has_stayed q.figures.stay slot x) (leb x.due slot) r);
      later = λ r. leb-false x.due slot (neither (slot % period == 0 && has_stayed q.figures.stay slot x) (leb x.due slot) r);
    }
