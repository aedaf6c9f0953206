use Rattle.std.proofs.Common.{◌≡◌, ◌∙◌, ◌-◌, ap, inl}
use Rattle.clause_base.specs.declared.lit.Lit.{Lit}
use Rattle.sat_watch.specs.Searching.{all_of}
use Rattle.sat_watch.specs.Trails.{literals_of}
use Rattle.sat_watch.proofs.Ordered.{consistent}
use Rattle.sat_watch.proofs.Quiet.{quiet_other}
use Rattle.sat_watch.proofs.Visiting.{FindsNone, quiet_at, scan_quiet}
use Rattle.sat_watch.proofs.propagate.look_at.Goals as goal

pub returns-in-Some-clause-answer : goal.returns-in-Some-clause-answer
returns-in-Some-clause-answer c =
    let v = c.args.var in
    let es = c.args.trail.now.entries in
    let lits = c.as_slice-lits.result.now in
    quiet_at (all_of c.args.known.now) (c.args.number - 1) v c.at-clause.result.now (literals_of es) lits c.at-clause.ensures.value c.as_slice-lits.ensures
    (λ distinct. quiet_other v (literals_of es) lits (λ k h. consistent c.args.trail.now.vars es k c.entries-entries.ensures.ordered h) c.requires.unset distinct (inl c.in-Some.ensures))

pub returns-else-lit-var-clause-answer : goal.returns-else-lit-var-clause-answer
returns-else-lit-var-clause-answer c =
    let v = c.args.var in
    let es = c.args.trail.now.entries in
    let lits = c.as_slice-lits.result.now in
    let none : FindsNone v c.look_over.result = λ l is same. let here = c.in-One.is in let which : c.in-One.lit ≡ l = cc in c.if-lit-var.false (ap (λ (k : Lit). k.var) which ∙ same) in
    quiet_at (all_of c.args.known.now) (c.args.number - 1) v c.at-clause.result.now (literals_of es) lits c.at-clause.ensures.value c.as_slice-lits.ensures
    (λ distinct. scan_quiet c.args.trail.now.vars v es lits c.look_over.result c.entries-entries.ensures.ordered c.requires.unset distinct c.look_over.ensures none)

pub returns-in_default-look_over-clause-answer : goal.returns-in_default-look_over-clause-answer
returns-in_default-look_over-clause-answer c =
    let v = c.args.var in
    let es = c.args.trail.now.entries in
    let lits = c.as_slice-lits.result.now in
    let none : FindsNone v c.look_over.result = λ l is same. c.in_default-look_over.not-One l is in
    quiet_at (all_of c.args.known.now) (c.args.number - 1) v c.at-clause.result.now (literals_of es) lits c.at-clause.ensures.value c.as_slice-lits.ensures
    (λ distinct. scan_quiet c.args.trail.now.vars v es lits c.look_over.result c.entries-entries.ensures.ordered c.requires.unset distinct c.look_over.ensures none)
