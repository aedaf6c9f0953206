use Rattle.std.proofs.Common.{◌≡◌, ◌-◌, ◌≤◌, sym, subst, arith}
use Rattle.std.proofs.lemmas.List.Elements.{All-get_or}
use Rattle.mpy_tree.specs.Shapes.{shape}
use Rattle.mpy_tree.specs.View.{term_of}
use Rattle.eml_match.specs.Parts.{seen}
use Rattle.eml_rewrite.proofs.LeastSizes.{term_root}
use Rattle.eml_rewrite.proofs.Sizes.{shape_is_term}
use Rattle.eml_rewrite.proofs.least_size.nodes_of.Goals as goal

pub returns-then-same_expr : goal.returns-then-same_expr
returns-then-same_expr c = λ least h.
    let x = c.index-counted-i.result in
    let same : term_of x.e.now ≡ term_of c.args.e.now = c.same_expr.ensures.0 c.if-same_expr.true in
    let within = c.loop-i.invariant in
    let test = c.loop-i-test.true in
    subst (λ t. x.nodes ≤ least (shape t)) same
    (subst (λ y. y.nodes ≤ least (seen y.e)) (sym c.index-counted-i.is)
    (All-get_or (λ y. y.nodes ≤ least (seen y.e)) c.args.counted.now (c.loop-i.i - 1) x (omega
    arith)
    h.each))

pub returns : goal.returns
returns c = λ least h.
    let t = term_of c.args.e.now in h.some (shape t) (term_root (shape t) (shape_is_term t))
