use Rattle.std.proofs.Common.{◌≡◌, ◌∙◌, ap, refl, sym, not, []}
use Rattle.bit_graph.specs.Gates.{reading, source_reads, source_of, values_after}
use Rattle.bit_graph.proofs.ConjunctionLaws.{left_over, right_over, shortened_left, shortened_right, shortened_whole}
use Rattle.bit_graph.proofs.graph.Graph.shorten.Goals as goal

pub returns-then-is_never-clause-value : goal.returns-then-is_never-clause-value
returns-then-is_never-clause-value c vs =
    let g = c.args.self.now in
    let whole : reading g vs c.args.b ≡ not (source_reads vs (values_after vs [] g.gates) (source_of c.args.b)) = rw c.if-b.false refl in
    let value = whole ∙ ap not (c.in-Some.ensures.value vs) in
    let apart = rw (c.not-left.ensures.value vs) at (c.if-is_never.ensures.value refl vs) in
    rw (c.not-right.ensures.value vs) (left_over (reading g vs c.args.a) (reading g vs c.in-Some.x.left) (reading g vs c.in-Some.x.right) (reading g vs c.args.b) value apart)

pub returns-then-is_never-2-clause-value : goal.returns-then-is_never-2-clause-value
returns-then-is_never-2-clause-value c vs =
    let g = c.args.self.now in
    let whole : reading g vs c.args.b ≡ not (source_reads vs (values_after vs [] g.gates) (source_of c.args.b)) = rw c.if-b.false refl in
    let value = whole ∙ ap not (c.in-Some.ensures.value vs) in
    let apart = rw (c.not-right.ensures.value vs) at (c.if-is_never-2.ensures.value refl vs) in
    rw (c.not-left.ensures.value vs) (right_over (reading g vs c.args.a) (reading g vs c.in-Some.x.left) (reading g vs c.in-Some.x.right) (reading g vs c.args.b) value apart)

pub returns-then-is_never-clause-exact : goal.returns-then-is_never-clause-exact
returns-then-is_never-clause-exact c =
    shortened_right c.args.self.now c.args.a c.args.b c.not-left.result c.not-right.result c.in-Some.x c.if-b.false (sym c.parts.ensures.exact ∙ c.in-Some.is) c.not-left.ensures.exact c.not-right.ensures.exact
    (c.if-is_never.ensures.exact.0 refl)

pub returns-then-is_never-2-clause-exact : goal.returns-then-is_never-2-clause-exact
returns-then-is_never-2-clause-exact c =
    shortened_left c.args.self.now c.args.a c.args.b c.not-left.result c.not-right.result c.in-Some.x c.if-b.false (sym c.parts.ensures.exact ∙ c.in-Some.is) c.not-left.ensures.exact c.not-right.ensures.exact
    (λ k. let f = c.if-is_never.ensures.exact.1 k in cc) (c.if-is_never-2.ensures.exact.0 refl)

pub returns-clause-exact : goal.returns-clause-exact
returns-clause-exact c =
    shortened_whole c.args.self.now c.args.a c.args.b c.not-left.result c.not-right.result c.in-Some.x c.if-b.false (sym c.parts.ensures.exact ∙ c.in-Some.is) c.not-left.ensures.exact c.not-right.ensures.exact
    (λ k. let f = c.if-is_never.ensures.exact.1 k in cc) (λ k. let f = c.if-is_never-2.ensures.exact.1 k in cc)
