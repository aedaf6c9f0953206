use Rattle.std.proofs.Common.{◌+◌, sym, subst, arith}
use Rattle.mpy_tree.specs.Shapes.{shape}
use Rattle.mpy_tree.specs.View.{term_of}
use Rattle.eml_match.proofs.HeadParts.{parts_counted}
use Rattle.eml_match.proofs.Places.{is_place}
use Rattle.eml_match.specs.Parts.{parts}
use Rattle.eml_rewrite.specs.LeastSizes.{AreCounted, kept_least, least_size}
use Rattle.eml_rewrite.specs.Spots.{context_at, setting_at}
use Rattle.eml_rewrite.proofs.LeastSizes.{one_more, term_counted, term_root}
use Rattle.eml_rewrite.proofs.Nodes.{part_less_deep}
use Rattle.eml_rewrite.proofs.Sizes.{shape_is_term}
use Rattle.eml_rewrite.proofs.least_size.+count_expr.Goals as goal

pub count_node-returns-then-kept-gt-MOST-clause-nodes :
    goal.count_node-returns-then-kept-gt-MOST-clause-nodes
count_node-returns-then-kept-gt-MOST-clause-nodes g t c =
    let e = term_of c.args.e.now in
    let kept = c.in_ok-kept.ensures.nodes in
    let all =
    term_counted (setting_at c.args.spot.now) c.requires.keep_primes (context_at c.args.spot.now)
    (shape e) (term_root (shape e) (shape_is_term e)) (parts_counted e) in
    omega arith

pub count_node-returns-clause-nodes : goal.count_node-returns-clause-nodes
count_node-returns-clause-nodes g t c =
    let e = term_of c.args.e.now in
    let least =
    least_size (setting_at c.args.spot.now) (context_at c.args.spot.now).scope in
    let kept = c.in_ok-kept.ensures.nodes in
    let others = c.in_ok-others.ensures least
    (subst (AreCounted least) (sym c.as_slice.ensures.value) c.in_ok-kept.ensures.counted) in
    let all =
    term_counted (setting_at c.args.spot.now) c.requires.keep_primes (context_at c.args.spot.now)
    (shape e) (term_root (shape e) (shape_is_term e)) (parts_counted e) in
    omega arith

pub count_parts-count_expr-requires : goal.count_parts-count_expr-requires
count_parts-count_expr-requires g t c κs within =
    let less =
    part_less_deep (shape (term_of c.args.e.now)) (shape (term_of c.in-Some.d.now)) c.parts.i
    c.in-Some.ensures.part in (
      omega (arith, less),
      (within, (c.requires.keep_primes, c.parts.invariant.counted)),
    )

pub count_parts-parts-smaller : goal.count_parts-parts-smaller
count_parts-parts-smaller g t c =
    let below =
    is_place (parts (shape (term_of c.args.e.now))) c.parts.i (shape (term_of c.in-Some.d.now))
    c.in-Some.ensures.part in
    omega (arith, below)

pub count_parts-parts-preserved : goal.count_parts-parts-preserved
count_parts-parts-preserved g t c =
    let least =
    least_size (setting_at c.args.spot.now) (context_at c.args.spot.now).scope in
    let e = shape (term_of c.args.e.now) in
    record {
      front =
          one_more least (parts e) c.parts.i (c.parts.i + 1) (shape (term_of c.in-Some.d.now))
          c.parts.nodes c.in_ok-more-in-Some.more c.saturating_add-nodes.result
          (kept_least least e) (omega arith) c.in-Some.ensures.part
          c.in_ok-more-in-Some.ensures.nodes (omega arith) c.parts.invariant.front;
      some = let before = c.parts.invariant.some in omega arith;
      counted = c.in_ok-more-in-Some.ensures.counted;
    }
