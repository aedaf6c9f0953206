use Rattle.bit_lists.proofs.decoder.+decoded.Given as goal

-- proposed from what the function passes where it calls itself
abbrev pub decreases-decoded : goal.decreases-decoded
decreases-decoded g l = l.count
