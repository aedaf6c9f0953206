use Rattle.std.proofs.Common.{◌≡◌, ◌∙◌, ◌+◌, ◌<◌, List, [], ◌∷◌, ap, arith, length, map, refl, Some, subst, sym}
use Rattle.std.proofs.lemmas.List.{length_push}
use Rattle.clause_base.specs.declared.log.Step.{Step}
use Rattle.clause_base.specs.Literals.{opposite}
use Rattle.clause_base.specs.Logs.{Refutes}
use Rattle.sat_plain.specs.declared.trail.Entry.{Entry}
use Rattle.sat_plain.specs.Trails.{IsOrdered, Path, decided}
use Rattle.sat_plain.specs.Searching.{GoesOn, IsSearch, NoneRefutes, State}
use Rattle.sat_plain.proofs.Logged.{refutes_push}
use Rattle.sat_plain.proofs.Taking.{IsStep, Laws, empty_of, filled_of, goes_on, search_refuted, search_taken}
use Rattle.sat_plain.proofs.search.Search.take_back.Goals as goal

pub invariant_of-self-then-refuted : goal.invariant_of-self-then-refuted
invariant_of-self-then-refuted c =
    let inside = c.self.inside in
    let s : State = record { vars = inside.f.now.vars; clauses = inside.f.now.clauses; index = inside.occurrences; steps = inside.steps; entries = inside.trail.entries } in
    let step : Step = c.in_ok-step.step in
    let room : length inside.f.now.clauses + length inside.steps < 2147483647 = omega (arith, c.if-number-gt-MOST_CLAUSES.false, c.len.ensures, c.len-2.ensures) in
    let is : IsStep s step = record {
      room = room;
      lits = c.in_ok-step.ensures.clause ∙ ap (λ (es : List Entry). map opposite (decided es)) c.entries-entries.ensures.value;
      follows = c.in_ok-step.ensures.follows;
      ordered = subst (λ v. IsOrdered v inside.trail.entries) c.self.invariant.0 c.entries-entries.ensures.ordered;
      going = subst (λ (t : State). NoneRefutes t.steps) (sym c.self.view_is) c.requires.going;
    } in
    let laws : Laws = record { known = c.what_is_known.ensures.pushed; counted = c.what_is_known.ensures.counted; follows = c.one_step_more.ensures.follows; fresh = c.one_step_more.ensures.fresh } in
    let empty = sym c.as_slice.ensures ∙ empty_of c.as_slice.result.now (sym c.is_empty-refuted.ensures ∙ c.if-refuted.true) in
    (c.self.invariant.0, subst (λ (ss : List Step). IsSearch (record s { steps = ss })) (sym c.in_ok-push.ensures.ok) (search_refuted laws s step c.self.invariant.1 is empty))

pub returns-then-refuted : goal.returns-then-refuted
returns-then-refuted c =
    let inside = c.self.inside in
    let step : Step = c.in_ok-step.step in
    let empty = sym c.as_slice.ensures ∙ empty_of c.as_slice.result.now (sym c.is_empty-refuted.ensures ∙ c.if-refuted.true) in
    record {
      vars = ap (λ (t : State). t.vars) c.self.view_is;
      clauses = ap (λ (t : State). t.clauses) c.self.view_is;
      many = ap length c.in_ok-push.ensures.ok ∙ length_push inside.steps step ∙ ap (λ (t : State). length t.steps + 1) c.self.view_is;
      answer = subst Refutes (sym c.in_ok-push.ensures.ok) (refutes_push inside.steps step empty);
    }

pub invariant_of-self-2 : goal.invariant_of-self-2
invariant_of-self-2 c =
    let inside = c.self.inside in
    let s : State = record { vars = inside.f.now.vars; clauses = inside.f.now.clauses; index = inside.occurrences; steps = inside.steps; entries = inside.trail.entries } in
    let step : Step = c.in_ok-step.step in
    let room : length inside.f.now.clauses + length inside.steps < 2147483647 = omega (arith, c.if-number-gt-MOST_CLAUSES.false, c.len.ensures, c.len-2.ensures) in
    let is : IsStep s step = record {
      room = room;
      lits = c.in_ok-step.ensures.clause ∙ ap (λ (es : List Entry). map opposite (decided es)) c.entries-entries.ensures.value;
      follows = c.in_ok-step.ensures.follows;
      ordered = subst (λ v. IsOrdered v inside.trail.entries) c.self.invariant.0 c.entries-entries.ensures.ordered;
      going = subst (λ (t : State). NoneRefutes t.steps) (sym c.self.view_is) c.requires.going;
    } in
    let laws : Laws = record { known = c.what_is_known.ensures.pushed; counted = c.what_is_known.ensures.counted; follows = c.one_step_more.ensures.follows; fresh = c.one_step_more.ensures.fresh } in
    let path : inside.trail ≡ record { vars = inside.f.now.vars; entries = inside.trail.entries } = ap (λ v. record { vars = v; entries = inside.trail.entries }) c.self.invariant.0 in
    let new = rw (c.opposite.ensures, c.len.ensures, c.len-2.ensures) at c.push-2.ensures in
    let taken = search_taken laws s step inside.trail c.undo.new.trail c.in-Some.lit c.self.invariant.1 is path c.in-Some.ensures in (
      ap (λ (p : Path). p.vars) c.push-2.ensures ∙ c.in-Some.ensures.vars ∙ c.self.invariant.0,
      subst (λ (p : Path). IsSearch (record s { steps = c.push.new.self; entries = p.entries })) (sym new)
          (subst (λ (ss : List Step). IsSearch (record s { steps = ss; entries = (record { lit = opposite c.in-Some.lit; reason = Some (length inside.f.now.clauses + length inside.steps + 1) }) ∷ c.undo.new.trail.entries })) (sym c.in_ok-push.ensures.ok) taken),
    )

pub returns : goal.returns
returns c =
    let inside = c.self.inside in
    let s : State = record { vars = inside.f.now.vars; clauses = inside.f.now.clauses; index = inside.occurrences; steps = inside.steps; entries = inside.trail.entries } in
    let step : Step = c.in_ok-step.step in
    let room : length inside.f.now.clauses + length inside.steps < 2147483647 = omega (arith, c.if-number-gt-MOST_CLAUSES.false, c.len.ensures, c.len-2.ensures) in
    let is : IsStep s step = record {
      room = room;
      lits = c.in_ok-step.ensures.clause ∙ ap (λ (es : List Entry). map opposite (decided es)) c.entries-entries.ensures.value;
      follows = c.in_ok-step.ensures.follows;
      ordered = subst (λ v. IsOrdered v inside.trail.entries) c.self.invariant.0 c.entries-entries.ensures.ordered;
      going = subst (λ (t : State). NoneRefutes t.steps) (sym c.self.view_is) c.requires.going;
    } in
    let filled = λ (none : step.clause.lits ≡ []). filled_of c.as_slice.result.now (sym c.is_empty-refuted.ensures ∙ c.if-refuted.false) (c.as_slice.ensures ∙ none) in
    let path : inside.trail ≡ record { vars = inside.f.now.vars; entries = inside.trail.entries } = ap (λ v. record { vars = v; entries = inside.trail.entries }) c.self.invariant.0 in
    let new = rw (c.opposite.ensures, c.len.ensures, c.len-2.ensures) at c.push-2.ensures in
    let after : State = record s { steps = c.push.new.self; entries = c.push-2.new.self.entries } in
    record {
      vars = ap (λ (t : State). t.vars) c.self.view_is;
      clauses = ap (λ (t : State). t.clauses) c.self.view_is;
      many = ap length c.in_ok-push.ensures.ok ∙ length_push inside.steps step ∙ ap (λ (t : State). length t.steps + 1) c.self.view_is;
      answer = subst (GoesOn after) (sym c.len-place.ensures.count)
          (goes_on s step inside.trail c.undo.new.trail c.in-Some.lit _ after c.self.invariant.1 is path c.in-Some.ensures refl c.in_ok-push.ensures.ok (ap (λ (p : Path). p.entries) new) filled);
    }
