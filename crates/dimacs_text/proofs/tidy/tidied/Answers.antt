use Rattle.std.proofs.Common.{◌∙◌, sym}
use Rattle.dimacs_text.proofs.Distinct.{kept_whole, no_both}
use Rattle.dimacs_text.proofs.tidy.tidied.Goals as goal

pub returns : goal.returns
returns c =
    let lits = c.args.lits.now in
    let distinct = sym c.in_ok-are_distinct.ensures ∙ c.if-not-branch.false in
    (no_both lits distinct, c.new.ensures ∙ c.in_ok-whole.ensures.ok ∙ sym (kept_whole lits distinct))
