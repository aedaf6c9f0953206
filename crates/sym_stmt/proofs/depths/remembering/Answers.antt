use Rattle.std.proofs.Common.{◌≡◌, ◌∙◌, sym}
use Rattle.std.proofs.lemmas.Result.{IfOk-weaker}
use Rattle.sym_calls.proofs.Pairs.{paired_parts}
use Rattle.sym_calls.proofs.Within.{done_as}
use Rattle.sym_stmt.proofs.depths.remembering.Given.{Over}
use Rattle.sym_stmt.proofs.depths.remembering.Goals as goal

-- the reference of the memory is still the one that was lent, so the logic is as the memory left it
left : (g : Over) (c : goal.After-g-1 g)
    → c.g-1.given.0 ≡ c.at_depth-outcome.new.g.logic.now
left g c =
    let parts = paired_parts _ _ _ _ c.at_depth-outcome.ensures.extends.variables in
    let lent = c.into_logic.ensures.same_reference ∙ parts.1 ∙ c.new-memory.ensures.same_reference in
    c.g-1.given.1 (sym lent) ∙ c.keep.ensures ∙ c.into_logic.ensures.value

pub returns-clause-extends : goal.returns-clause-extends
returns-clause-extends g c =
    let over = c.at_depth-outcome.ensures.extends in
    let parts = paired_parts _ _ _ _ over.variables in
    rw (left g c, sym c.new-memory.ensures.value) (record { kept = over.kept; same = over.same; variables = parts.0 })

pub returns-clause-made : goal.returns-clause-made
returns-clause-made g c =
    rw (left g c) (IfOk-weaker c.at_depth-outcome.result _ _ (λ r made. done_as (λ b h. h) made) c.at_depth-outcome.ensures.made)

pub returns-clause-value : goal.returns-clause-value
returns-clause-value g c = rw (left g c, sym c.new-memory.ensures.value) c.at_depth-outcome.ensures.value
