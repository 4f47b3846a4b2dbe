-- What put and take make of a lane.
use Rattle.std.proofs.Common.{◌≡◌, ℕ, ◌+◌, ◌-◌, ◌*◌, ◌<◌, ◌≤◌, true, leb, [], ◌∷◌, ◌++◌, length, get_or, drop, set, Some, Ok, Err, sym, ap, ◌∙◌, subst, arith}
use Rattle.std.proofs.lemmas.Option.{slice_get-get_or}
use Rattle.std.proofs.lemmas.Bool.{and_parts, le-leb, le-ltb, leb-true, lt-leb, lt-ltb}
use Rattle.rounding.proofs.Ceilings.{up_rises, up_shifts}
use Rattle.draft.specs.declared.port.Port.{Port}
use Rattle.line.proofs.Turns.{get_or_turned, turned_push, turned_take}
use Rattle.line.specs.Ring.{placed, turned}
use Rattle.plan.specs.Limits.{PortKept}
use Rattle.service.specs.Entries.{due_by, finish_after, length_fits}
use Rattle.service.specs.declared.frame.Frame.{Frame}
use Rattle.cabinet.specs.Model.{PortModel, frame_in}
use Rattle.cabinet.specs.Puts.{line_answer}
use Rattle.cabinet.specs.declared.fault.CabinetFault.TheVariants.{Finish, Full}
use Rattle.ports.specs.Laws.{lane_kept, line_long}
use Rattle.ports.specs.Lanes.{Filled, Rises, Sound, pushed, rising, lane_port, stamped}
use Rattle.ports.specs.declared.lane.Lane.{Lane}
use Rattle.ports.proofs.Lines.{rising_push, rising_rest}

-- the port is done with a frame that enters no earlier than its least stay after the entry slot
due_patient : (q : Port) (slot finish n : ℕ) → PortKept q → q.shortest ≤ n → slot + q.stay ≤ due_by q (finish_after q slot finish n)
due_patient q slot finish n k h =
    let a = up_shifts slot q.shortest q.rate k.rate_least in
    let b = up_rises (slot * q.rate + q.shortest) (finish_after q slot finish n) q.rate (omega arith) in
    omega (arith, a, b, k.stay_most)

-- and no earlier than with the frames before it
due_rises : (q : Port) (slot finish n : ℕ) → due_by q finish ≤ due_by q (finish_after q slot finish n)
due_rises q slot finish n = let a = up_rises finish (finish_after q slot finish n) q.rate (omega arith) in omega arith

-- the i-th frame stands at its place
pub line_at : (w : Lane) (i : ℕ) (d : Frame) → Filled w → i < w.waiting → frame_in (lane_port w).line i ≡ Some (get_or w.frames (placed 32 w.first i) d)
line_at w i d h l =
    slice_get-get_or (lane_port w).line i d (rw (line_long w h) l)
    ∙ ap Some (get_or_turned w.frames w.first w.waiting i d (omega arith) l (omega arith) ∙ ap (λ n. get_or w.frames (placed n w.first i) d) h.3)

-- one frame more, written at the place behind the last
pub line_push : (w : Lane) (x : Frame) (at : ℕ) → Filled w → w.waiting < 32 → at ≡ placed 32 w.first w.waiting → turned (set w.frames at x) w.first (w.waiting + 1) ≡ (lane_port w).line ++ x ∷ []
line_push w x at h l e =
    let p : at ≡ placed (length w.frames) w.first w.waiting = e ∙ ap (λ n. placed n w.first w.waiting) (sym h.3) in
    ap (λ i. turned (set w.frames i x) w.first (w.waiting + 1)) p ∙ turned_push w.frames w.first w.waiting x (omega arith) (omega arith)

-- the first frame gone: the others lie behind its place
pub line_rest : (w : Lane) (at : ℕ) → Filled w → 0 < w.waiting → at ≡ placed 32 w.first 0 → (d : Frame) → drop 1 (lane_port w).line ≡ turned w.frames (at + 1) (w.waiting - 1)
line_rest w at h l e d =
    let p : placed (length w.frames) w.first 0 ≡ at = ap (λ n. placed n w.first 0) h.3 ∙ sym e in
    ap (drop 1) (turned_take w.frames w.first w.waiting d (omega arith) l (omega arith))
    ∙ ap (λ i. turned w.frames (i + 1) (w.waiting - 1)) p

-- a frame that entered keeps the line rising
pub put_rises : (w v : Lane) (slot finish : ℕ) (x : Frame) → Sound w → length_fits w.figures x.len ≡ true → finish ≡ finish_after w.figures slot w.finish x.len
    → lane_port v ≡ pushed finish (stamped w.figures slot finish x) (lane_port w) → Rises v
put_rises w v slot finish x o h e q =
    let k = lane_kept w o.figures in
    let n : w.figures.shortest ≤ x.len = leb-true w.figures.shortest x.len (and_parts (leb w.figures.shortest x.len) (leb x.len 100000) h).0 in
    let r = rising_push w.figures.stay 0 (lane_port w).line (due_by w.figures w.finish) (stamped w.figures slot finish x) o.rises
    (rw e (due_rises w.figures slot w.finish x.len)) (rw e (due_patient w.figures slot w.finish x.len k n)) in
    subst (λ (z : PortModel). rising z.figures.stay 0 z.line (due_by z.figures z.finish) ≡ true) (sym q) r

-- so does the first frame that leaves
pub take_rises : (w v : Lane) → Rises w → v.figures ≡ w.figures → v.finish ≡ w.finish → (lane_port v).line ≡ drop 1 (lane_port w).line → Rises v
take_rises w v r a b e =
    rw (a, b, e) (rising_rest w.figures.stay (lane_port w).line (due_by w.figures w.finish) r)

-- the answers of a port: full, past its finish, and none of these
module _ (slot p : ℕ) (q : PortModel) (x : Frame) (fits : length_fits q.figures x.len ≡ true) where
  pub said_full : 32 ≤ length q.line → Err (Full p) ≡ line_answer slot p q x
  said_full h = rw (fits, le-ltb (length q.line) 32 h)

  pub said_finish : length q.line < 32 → 20000000000000000 < finish_after q.figures slot q.finish x.len → Err (Finish p) ≡ line_answer slot p q x
  said_finish h l = rw (fits, lt-ltb (length q.line) 32 h, lt-leb (finish_after q.figures slot q.finish x.len) 20000000000000000 l)

  pub said_ok : length q.line < 32 → finish_after q.figures slot q.finish x.len ≤ 20000000000000000 → Ok tt ≡ line_answer slot p q x
  said_ok h l = rw (fits, lt-ltb (length q.line) 32 h, le-leb (finish_after q.figures slot q.finish x.len) 20000000000000000 l)
