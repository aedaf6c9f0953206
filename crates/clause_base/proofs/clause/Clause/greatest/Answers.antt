use Rattle.std.proofs.Common.{get_or, subst, sym, take, ◌+◌, ℕ, refl, false}
use Rattle.clause_base.specs.declared.lit.Lit.{Lit}
use Rattle.clause_base.specs.Literals.{IsGreatest}
use Rattle.clause_base.proofs.Greatest.{greatest_here, greatest_stays}
use Rattle.clause_base.proofs.clause.Clause.greatest.Goals as goal
use Rattle.clause_base.proofs.clause.Clause.greatest.Goals.{then-most-lit, else-most-lit}

pub loop-lit-preserved : goal.loop-lit-preserved
loop-lit-preserved c =
    let lits = c.as_slice-lit-items.result.now in
    let i = c.loop-lit.lit-index in
    let none : Lit = record { var = 0; positive = false } in
    let P : ℕ → Type 0 = λ v. IsGreatest v (take (i + 1) lits) in
    elim c.if-most-lit.branch [
      | then-most-lit w ↦ subst P (sym w.most-is) (greatest_here c.loop-lit.most lits i none (get_or lits i none) c.loop-lit-test.true refl w.if-most-lit.true c.loop-lit.invariant)
      | else-most-lit w ↦ subst P (sym w.most-is) (greatest_stays c.loop-lit.most lits i none (get_or lits i none) c.loop-lit-test.true refl w.if-most-lit.false c.loop-lit.invariant)
    ]
