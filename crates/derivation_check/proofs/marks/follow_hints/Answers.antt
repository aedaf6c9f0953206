use Rattle.std.proofs.Common.{◌≡◌, ◌∙◌, not, sym, ◌∷◌, filter, ◌+◌, ◌-◌, drop, subst, ℕ, false}
use Rattle.std.proofs.lemmas.Bool.{not-true}
use Rattle.clause_base.specs.declared.lit.Lit.{Lit}
use Rattle.derivation_check.specs.Marks.{mark_true, Covers}
use Rattle.clause_base.specs.Follows.{follow, hinted, is_false}
use Rattle.clause_base.specs.Literals.{opposite}
use Rattle.derivation_check.proofs.Agreement.{closed_open, many_open, one_open, one_of, filter_one, covers_one, agrees_set, before_set}
use Rattle.derivation_check.proofs.Turns.{turn}
use Rattle.derivation_check.proofs.marks.follow_hints.Goals as goal

pub returns-in-Closed-clause-answer : goal.returns-in-Closed-clause-answer
returns-in-Closed-clause-answer c assumed agrees =
    let now = c.loop-i.invariant.answer assumed agrees in
    let clause = c.at-clause.result.now in
    let p = λ (l : Lit). not (mark_true c.loop-i.marks c.args.stamp (opposite l)) in
    let covers = subst (λ (n : ℕ). Covers n clause.lits) (sym c.loop-i.auto.marks) (c.requires.covered.each _ _ c.at-clause.ensures) in
    let found = rw c.as_slice.ensures at c.in-Closed.ensures in
    let rest = λ (l : Lit). follow (l ∷ now.0) (c.loop-i.i + 1 + 1) (drop (c.loop-i.i + 1) (hinted c.args.known.now c.args.hints.now)) in
    turn c.loop-i.marks c.args.stamp c.args.known.now c.args.hints.now c.loop-i.i clause now.0 _ c.loop-i-test.true c.at-clause.ensures covers now.1.0
    (closed_open (filter p clause.lits) (c.loop-i.i + 1) rest found) ∙ now.1.1

pub returns-in-Many-clause-answer : goal.returns-in-Many-clause-answer
returns-in-Many-clause-answer c assumed agrees =
    let now = c.loop-i.invariant.answer assumed agrees in
    let clause = c.at-clause.result.now in
    let p = λ (l : Lit). not (mark_true c.loop-i.marks c.args.stamp (opposite l)) in
    let covers = subst (λ (n : ℕ). Covers n clause.lits) (sym c.loop-i.auto.marks) (c.requires.covered.each _ _ c.at-clause.ensures) in
    let found = rw c.as_slice.ensures at c.in-Many.ensures in
    let rest = λ (l : Lit). follow (l ∷ now.0) (c.loop-i.i + 1 + 1) (drop (c.loop-i.i + 1) (hinted c.args.known.now c.args.hints.now)) in
    turn c.loop-i.marks c.args.stamp c.args.known.now c.args.hints.now c.loop-i.i clause now.0 _ c.loop-i-test.true c.at-clause.ensures covers now.1.0
    (many_open (filter p clause.lits) (c.loop-i.i + 1) rest found) ∙ now.1.1

pub set_true-requires-clause-some : goal.set_true-requires-clause-some
set_true-requires-clause-some c =
    let clause = c.at-clause.result.now in
    let p = λ (l : Lit). not (mark_true c.loop-i.marks c.args.stamp (opposite l)) in
    let found = rw c.as_slice.ensures at c.in-One.ensures in
    (covers_one p _ clause.lits c.in-One.lit (c.requires.covered.each _ _ c.at-clause.ensures) (one_of (filter p clause.lits) c.in-One.lit found)).0

pub set_true-requires-clause-within : goal.set_true-requires-clause-within
set_true-requires-clause-within c =
    let clause = c.at-clause.result.now in
    let p = λ (l : Lit). not (mark_true c.loop-i.marks c.args.stamp (opposite l)) in
    let found = rw c.as_slice.ensures at c.in-One.ensures in
    rw c.loop-i.auto.marks (covers_one p _ clause.lits c.in-One.lit (c.requires.covered.each _ _ c.at-clause.ensures) (one_of (filter p clause.lits) c.in-One.lit found)).1

pub loop-i-preserved : goal.loop-i-preserved
loop-i-preserved c =
    let clause = c.at-clause.result.now in
    let p = λ (l : Lit). not (mark_true c.loop-i.marks c.args.stamp (opposite l)) in
    let covers = subst (λ (n : ℕ). Covers n clause.lits) (sym c.loop-i.auto.marks) (c.requires.covered.each _ _ c.at-clause.ensures) in
    let found = rw c.as_slice.ensures at c.in-One.ensures in
    let one = one_of (filter p clause.lits) c.in-One.lit found in
    let range = covers_one p _ clause.lits c.in-One.lit covers one in
    let lit = c.in-One.lit in
    rw c.set_true.ensures (record {
      upto = before_set c.loop-i.marks c.args.stamp (lit.var - 1) lit.positive c.loop-i.invariant.upto;
      answer = λ assumed agrees.
          let now = c.loop-i.invariant.answer assumed agrees in
          let rest = λ (l : Lit). follow (l ∷ now.0) (c.loop-i.i + 1 + 1) (drop (c.loop-i.i + 1) (hinted c.args.known.now c.args.hints.now)) in
          let not_false : is_false now.0 lit ≡ false = sym (now.1.0.each (opposite lit) range.0 range.1) ∙ not-true (mark_true c.loop-i.marks c.args.stamp (opposite lit)) (filter_one p clause.lits lit one) in (
            lit ∷ now.0,
            (
              agrees_set c.loop-i.marks c.args.stamp now.0 lit now.1.0 range.0 range.1 not_false,
              turn c.loop-i.marks c.args.stamp c.args.known.now c.args.hints.now c.loop-i.i clause now.0 _ c.loop-i-test.true c.at-clause.ensures covers now.1.0
                  (one_open (filter p clause.lits) (c.loop-i.i + 1) rest lit found) ∙ now.1.1,
            ),
          );
    })
