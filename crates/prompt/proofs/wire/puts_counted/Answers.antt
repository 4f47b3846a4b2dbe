use Rattle.std.proofs.Common.{◌≡◌, ℕ, ◌+◌, ◌*◌, ◌<◌, ◌≤◌, max, Bool, true, false, cond, length, is_ok, refl, ap, ◌∙◌, ⊎_elim}
use Rattle.std.proofs.lemmas.Bool.{cases_lt, le-ltb}
use Rattle.std.proofs.lemmas.List.{get_or-set_same}
use Rattle.service.specs.Entries.{entered}
use Rattle.service.specs.declared.frame.Frame.{Frame}
use Rattle.cabinet.specs.Model.{Model, PortModel, port_in, vacant, with_port}
use Rattle.cabinet.specs.Puts.{lined, put_after, put_answer}
use Rattle.prompt.specs.Paces.{own_finish_push}
use Rattle.prompt.specs.Wires.{PutsCounted, own_of, own_put}
use Rattle.prompt.specs.declared.wire.Wire.{Wire}
use Rattle.prompt.proofs.wire.puts_counted.Goals as goal

counted : PutsCounted
counted w m p x = ⊎_elim
    (λ (l : p < length m.ports). either l (is_ok (put_answer m p x)))
    (λ (l : length m.ports ≤ p). rw (le-ltb p (length m.ports) l))
    (cases_lt p (length m.ports))
  where
    either : p < length m.ports → (b : Bool) → own_of w (port_in (cond b (with_port m p (lined m.slot (port_in m p) x)) m) p)
        ≡ cond b (max (own_of w (port_in m p)) (m.slot * w.speed) + x.len) (own_of w (port_in m p))
    either l true =
        ap (own_of w) (get_or-set_same m.ports p (lined m.slot (port_in m p) x) vacant l)
        ∙ own_finish_push w.speed w.sent (port_in m p).line (entered (port_in m p).figures m.slot (port_in m p).finish x)
    either l false = refl

pub returns : goal.returns
returns c = counted
