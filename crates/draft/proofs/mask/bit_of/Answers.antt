use Rattle.std.proofs.Common.{◌/◌, ◌^◌}
use Rattle.std.proofs.lemmas.Nat.{and_le_r, and_mask}
use Rattle.draft.proofs.mask.bit_of.Goals as goal

pub returns : goal.returns
returns c =
    let shifted = c.args.bits / 2 ^ c.args.hop in record { value = and_mask shifted 1; small = and_le_r shifted 1 }
