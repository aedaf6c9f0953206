use Rattle.std.proofs.Common.{◌≡◌, ◌∙◌, ◌<◌, ◌≤◌, ◌*◌, ◌+◌, false, arith, drop, get_or, length, subst, sym, take}
use Rattle.clause_base.specs.declared.lit.Lit.{Lit}
use Rattle.clause_base.specs.Literals.{IsCovered}
use Rattle.sat_plain.specs.Places.{list_of}
use Rattle.sat_plain.proofs.Covered.{covered_at}
use Rattle.sat_plain.proofs.Filling.{among_more, filled, filling_begin, filling_lits, filling_more, filling_start, filling_todo, free_place}
use Rattle.sat_plain.proofs.occurrences.fill.Goals as goal

pub loop-place-init : goal.loop-place-init
loop-place-init c = filling_start c.args.f.now.clauses c.args.starts.now c.args.places.now c.requires.empty

pub loop-lit-init : goal.loop-lit-init
loop-lit-init c = filling_begin c.args.f.now.clauses c.loop-place.starts c.loop-place.places c.loop-place.place c.at.result.now c.as_slice-lit-items.result.now c.at.ensures c.as_slice-lit-items.ensures c.loop-place.invariant

pub list-requires : goal.list-requires
list-requires c =
    let f = c.args.f.now in
    let lits = c.as_slice-lit-items.result.now in
    let i = c.loop-lit.lit-index in
    let none : Lit = record { var = 0; positive = false } in
    let l : Lit = get_or lits i none in
    let covered = subst (IsCovered f.vars) (sym c.as_slice-lit-items.ensures) (covered_at f.vars f.clauses c.loop-place.place c.at.result.now c.at.ensures f.in_range) in
    let bounds = covered.each i none c.loop-lit-test.true in
    bounds.0

pub put-requires-clause-number : goal.put-requires-clause-number
put-requires-clause-number c =
    let f = c.args.f.now in
    let lits = c.as_slice-lit-items.result.now in
    let i = c.loop-lit.lit-index in
    let none : Lit = record { var = 0; positive = false } in
    let l : Lit = get_or lits i none in
    let covered = subst (IsCovered f.vars) (sym c.as_slice-lit-items.ensures) (covered_at f.vars f.clauses c.loop-place.place c.at.result.now c.at.ensures f.in_range) in
    let bounds = covered.each i none c.loop-lit-test.true in
    let most : l.var ≤ f.vars = bounds.1 in
    let long : length c.loop-lit.starts ≡ 2 * f.vars + 1 = c.loop-lit.auto.starts ∙ c.loop-place.auto.starts ∙ c.requires.many in
    let under : c.list.result < 2 * l.var = c.list.ensures.under in
    let inside : c.list.result < length c.loop-lit.starts = omega arith in
    inside

pub put-requires-clause-some : goal.put-requires-clause-some
put-requires-clause-some c =
    let f = c.args.f.now in
    let lits = c.as_slice-lit-items.result.now in
    let i = c.loop-lit.lit-index in
    let none : Lit = record { var = 0; positive = false } in
    let l : Lit = get_or lits i none in
    let covered = subst (IsCovered f.vars) (sym c.as_slice-lit-items.ensures) (covered_at f.vars f.clauses c.loop-place.place c.at.result.now c.at.ensures f.in_range) in
    let bounds = covered.each i none c.loop-lit-test.true in
    let most : l.var ≤ f.vars = bounds.1 in
    let long : length c.loop-lit.starts ≡ 2 * f.vars + 1 = c.loop-lit.auto.starts ∙ c.loop-place.auto.starts ∙ c.requires.many in
    let under : c.list.result < 2 * l.var = c.list.ensures.under in
    let inside : c.list.result < length c.loop-lit.starts = omega arith in
    let fits : list_of l < length c.loop-lit.starts = subst (λ n. n < length c.loop-lit.starts) c.list.ensures.value inside in
    let rest = drop (c.loop-place.place + 1) f.clauses in
    let todo = filling_todo f.clauses c.loop-lit.starts c.loop-lit.places c.loop-place.place lits i none rest c.loop-lit-test.true c.loop-lit.invariant in
    let free = free_place f.clauses c.loop-lit.starts c.loop-lit.places c.loop-place.place (take i lits) (drop (i + 1) lits) rest l fits todo in
    rw c.list.ensures.value free.0

pub put-requires-clause-room : goal.put-requires-clause-room
put-requires-clause-room c =
    let f = c.args.f.now in
    let lits = c.as_slice-lit-items.result.now in
    let i = c.loop-lit.lit-index in
    let none : Lit = record { var = 0; positive = false } in
    let l : Lit = get_or lits i none in
    let covered = subst (IsCovered f.vars) (sym c.as_slice-lit-items.ensures) (covered_at f.vars f.clauses c.loop-place.place c.at.result.now c.at.ensures f.in_range) in
    let bounds = covered.each i none c.loop-lit-test.true in
    let most : l.var ≤ f.vars = bounds.1 in
    let long : length c.loop-lit.starts ≡ 2 * f.vars + 1 = c.loop-lit.auto.starts ∙ c.loop-place.auto.starts ∙ c.requires.many in
    let under : c.list.result < 2 * l.var = c.list.ensures.under in
    let inside : c.list.result < length c.loop-lit.starts = omega arith in
    let fits : list_of l < length c.loop-lit.starts = subst (λ n. n < length c.loop-lit.starts) c.list.ensures.value inside in
    let rest = drop (c.loop-place.place + 1) f.clauses in
    let todo = filling_todo f.clauses c.loop-lit.starts c.loop-lit.places c.loop-place.place lits i none rest c.loop-lit-test.true c.loop-lit.invariant in
    let free = free_place f.clauses c.loop-lit.starts c.loop-lit.places c.loop-place.place (take i lits) (drop (i + 1) lits) rest l fits todo in
    rw c.list.ensures.value free.1

pub loop-lit-preserved : goal.loop-lit-preserved
loop-lit-preserved c =
    let f = c.args.f.now in
    let lits = c.as_slice-lit-items.result.now in
    let i = c.loop-lit.lit-index in
    let none : Lit = record { var = 0; positive = false } in
    let l : Lit = get_or lits i none in
    let covered = subst (IsCovered f.vars) (sym c.as_slice-lit-items.ensures) (covered_at f.vars f.clauses c.loop-place.place c.at.result.now c.at.ensures f.in_range) in
    let bounds = covered.each i none c.loop-lit-test.true in
    let most : l.var ≤ f.vars = bounds.1 in
    let long : length c.loop-lit.starts ≡ 2 * f.vars + 1 = c.loop-lit.auto.starts ∙ c.loop-place.auto.starts ∙ c.requires.many in
    let under : c.list.result < 2 * l.var = c.list.ensures.under in
    let inside : c.list.result < length c.loop-lit.starts = omega arith in
    let fits : list_of l < length c.loop-lit.starts = subst (λ n. n < length c.loop-lit.starts) c.list.ensures.value inside in
    let rest = drop (c.loop-place.place + 1) f.clauses in
    let todo = filling_todo f.clauses c.loop-lit.starts c.loop-lit.places c.loop-place.place lits i none rest c.loop-lit-test.true c.loop-lit.invariant in
    rw (c.put.ensures.starts, c.put.ensures.places, c.list.ensures.value)
    (filling_more f.clauses c.loop-lit.starts c.loop-lit.places c.loop-place.place (take i lits) (take (i + 1) lits) (drop (i + 1) lits) rest l fits (omega (arith, c.loop-place-test.true, c.len-place-end.ensures))
    (λ m has. among_more lits i none m c.loop-lit-test.true has) todo)

pub loop-place-preserved : goal.loop-place-preserved
loop-place-preserved c =
    let clauses = c.args.f.now.clauses in
    filling_lits clauses c.loop-lit.starts c.loop-lit.places c.loop-place.place c.as_slice-lit-items.result.now c.loop-lit.lit-index c.at.result.now (drop (c.loop-place.place + 1) clauses) c.loop-lit-test.false c.as_slice-lit-items.ensures c.at.ensures c.loop-lit.invariant

pub returns : goal.returns
returns c =
    let f = c.args.f.now in
    filled f.vars f.clauses c.loop-place.starts c.loop-place.places c.loop-place.place (c.loop-place.auto.starts ∙ c.requires.many) (omega (arith, c.loop-place-test.false, c.len-place-end.ensures)) f.in_range c.loop-place.invariant
