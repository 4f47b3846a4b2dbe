use Rattle.std.proofs.Common.{◌≡◌, ◌≤◌}
use Rattle.draft.specs.Masks.{bits_below}
use Rattle.draft.proofs.mask.Mask.before.Given as goal

abbrev pub invariant-loop-hop : goal.invariant-loop-hop
invariant-loop-hop l = (l.n ≡ bits_below l.self.bits l.hop) × (l.n ≤ l.hop)
