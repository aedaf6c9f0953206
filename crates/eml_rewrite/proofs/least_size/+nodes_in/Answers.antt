use Rattle.std.proofs.Common.{◌+◌, arith}
use Rattle.mpy_tree.specs.Shapes.{shape}
use Rattle.mpy_tree.specs.View.{term_of}
use Rattle.choice_tree.specs.Drafts.{draft_of}
use Rattle.eml_match.proofs.HeadParts.{parts_counted}
use Rattle.eml_match.proofs.Places.{is_place}
use Rattle.eml_match.specs.Parts.{parts}
use Rattle.eml_rewrite.specs.LeastSizes.{draft_least}
use Rattle.eml_rewrite.proofs.LeastSizes.{one_more, stands_counted}
use Rattle.eml_rewrite.proofs.Nodes.{part_less_deep}
use Rattle.eml_rewrite.proofs.least_size.+nodes_in.Goals as goal

pub returns-in-None : goal.returns-in-None
returns-in-None t c = λ least.
    let e = term_of c.args.e.now in
    let front = c.parts.invariant least in
    stands_counted least (shape e) c.parts.nodes (parts_counted e) (omega arith)

pub nodes_in-requires : goal.nodes_in-requires
nodes_in-requires t c =
    let less =
    part_less_deep (shape (term_of c.args.e.now)) (shape (term_of c.in-Some.d.now)) c.parts.i
    c.in-Some.ensures.part in
    (omega (arith, less), tt)

pub parts-smaller : goal.parts-smaller
parts-smaller t c =
    let below =
    is_place (parts (shape (term_of c.args.e.now))) c.parts.i (shape (term_of c.in-Some.d.now))
    c.in-Some.ensures.part in
    omega (arith, below)

pub parts-preserved : goal.parts-preserved
parts-preserved t c = λ least.
    one_more (λ u. draft_least least (draft_of u)) (parts (shape (term_of c.args.e.now)))
    c.parts.i (c.parts.i + 1) (shape (term_of c.in-Some.d.now)) c.parts.nodes c.nodes_in.result
    c.saturating_add-nodes.result _ (omega arith) c.in-Some.ensures.part
    (c.nodes_in.ensures least) (omega arith) (c.parts.invariant least)
