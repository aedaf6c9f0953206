use Rattle.std.proofs.Common.{length, map}
use Rattle.std.specs.String.{string_bytes}
use Rattle.class_text.proofs.Reading.{AreRead}
use Rattle.class_text.proofs.listing.read_list.Given as goal

-- the names so far, and what stands behind them
abbrev pub invariant-names : goal.invariant-names
invariant-names l = AreRead l.text (map string_bytes l.names.items) l.rest

abbrev pub decreases-names : goal.decreases-names
decreases-names l = length l.rest
