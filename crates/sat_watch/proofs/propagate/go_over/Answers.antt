use Rattle.std.proofs.Common.{◌≡◌, ◌∙◌, ◌*◌, ◌≤◌, ap, arith, length, subst, sym}
use Rattle.sat_watch.specs.Searching.{Grows, IsSearch, all_of}
use Rattle.sat_watch.specs.Trails.{Path}
use Rattle.sat_watch.specs.Watching.{Sizes}
use Rattle.sat_watch.proofs.Growing.{grows_on}
use Rattle.sat_watch.proofs.propagate.go_over.Goals as goal
use Rattle.sat_watch.proofs.propagate.go_over.Goals.{then-is_true, else-is_true+in-Implied, else-is_true+in-Other}

pub returns-in-Closed-clause-grows : goal.returns-in-Closed-clause-grows
returns-in-Closed-clause-grows c = grows_on c.args.trail.now.entries c.loop-count.trail.entries c.visit.new.trail.entries c.loop-count.invariant.grows c.visit.ensures.grows

pub loop-count-preserved : goal.loop-count-preserved
loop-count-preserved c =
    let inv = c.loop-count.invariant in
    let base = c.args.known.now in
    let start = c.args.trail.now in
    let IsKept : Path → Type 0 = λ p. (p.vars ≡ start.vars) × Grows start.entries p.entries × IsSearch (record { base = base; entries = p.entries }) in
    let trail : IsKept c.if-is_true.trail = elim c.if-is_true.branch [
      | then-is_true w ↦ subst IsKept (sym w.trail-is) (inv.vars, inv.grows, inv.search)
      | else-is_true+in-Implied w ↦ subst IsKept (sym w.trail-is)
          (w.visit.ensures.vars ∙ inv.vars, grows_on start.entries c.loop-count.trail.entries w.visit.new.trail.entries inv.grows w.visit.ensures.grows, w.visit.ensures.search)
      | else-is_true+in-Other w ↦ subst IsKept (sym w.trail-is)
          (w.visit.ensures.vars ∙ inv.vars, grows_on start.entries c.loop-count.trail.entries w.visit.new.trail.entries inv.grows w.visit.ensures.grows, w.visit.ensures.search)
    ] in
    let watches : c.if-is_true.watches ≡ c.args.watches.now = elim c.if-is_true.branch [
      | then-is_true w ↦ w.watches-is ∙ inv.watches
      | else-is_true+in-Implied w ↦ w.watches-is ∙ inv.watches
      | else-is_true+in-Other w ↦ w.watches-is ∙ w.rewatch.ensures ∙ inv.watches
    ] in
    let within : c.loop-count.item ≤ 2 * length (all_of base) = inv.within in
    let earlier : c.loop-count.before ≤ 2 * length (all_of base) = inv.before in
    let before : c.if-is_true.before ≤ 2 * length (all_of base) = elim c.if-is_true.branch [
      | then-is_true w ↦ let is = w.before-is in omega arith
      | else-is_true+in-Implied w ↦ let is = w.before-is in omega arith
      | else-is_true+in-Other w ↦ let is = w.before-is in omega arith
    ] in
    let many : c.loop-count.watches.clauses ≡ length (all_of base) = ap (λ (z : Sizes). z.clauses) (inv.watches ∙ c.requires.watches) in
    record {
      watches = watches;
      vars = trail.0;
      grows = trail.1;
      search = trail.2;
      before = before;
      within = omega (arith, c.next-next.ensures, many);
    }
