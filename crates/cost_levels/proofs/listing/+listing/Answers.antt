use Rattle.std.proofs.Common.{◌≡◌, ◌∙◌, ◌+◌, ◌-◌, suc, List, [], ◌∷◌, ◌++◌, drop, length}
use Rattle.std.proofs.Common.{sym, ap, subst, arith}
use Rattle.std.specs.Prelude.{slice_index_or}
use Rattle.std.proofs.lemmas.List.{append-nil, drop_more}
use Rattle.choice_tree.specs.declared.selection.Choice.{Choice}
use Rattle.choice_tree.proofs.EditLaws.{on_ok}
use Rattle.cost_levels.specs.declared.rows.Way.{Way}
use Rattle.cost_levels.specs.Plans.{listed, listed_by, no_ways, way_and}
use Rattle.cost_levels.proofs.Walked.{Going, base_before, behind, ends_so, few_members, going_first}
use Rattle.cost_levels.proofs.Walked.{going_last, going_next, listed_within, next_before, row_there}
use Rattle.cost_levels.proofs.listing.+listing.Goals as goal

pub push_chosen-returns-clause-listed : goal.push_chosen-returns-clause-listed
push_chosen-returns-clause-listed t c p shows =
    let x = c.args.choice in
    let made = c.args.chosen.now.items in
    let out = c.args.out.now.items in
    let left = c.args.left in
    let cost = c.args.way.cost in
    let pushed : c.push.new.self.items ≡ made ++ x ∷ [] = c.in_ok-push.ensures.items in
    c.in_ok-push_listed.ensures.listed p shows
    ∙ ap (λ (chosen : List Choice). out ++ behind chosen (listed p (left - cost))) pushed
    ∙ ap (λ ss. out ++ ss) (listed_within cost p x left made c.if-left-way.false)

pub push_listed-returns-then-entry-eq0-clause-listed :
    goal.push_listed-returns-then-entry-eq0-clause-listed
push_listed-returns-then-entry-eq0-clause-listed t c =
    on_ok c.push_end.result
    (λ h p shows. h
    ∙ ap (λ q. c.args.out.now.items ++ behind c.args.chosen.now.items (listed q c.args.left))
    (sym (ends_so c.args.walk.now.rows.now p c.args.entry shows c.if-entry-eq0.true)))
    c.push_end.ensures

pub push_listed-returns-then-has_none-clause-listed :
    goal.push_listed-returns-then-has_none-clause-listed
push_listed-returns-then-has_none-clause-listed t c p shows =
    let out = c.args.out.now.items in
    sym (ap (λ ss. out ++ behind c.args.chosen.now.items ss)
    (c.has_none.ensures c.if-has_none.true p shows) ∙ append-nil out)

pub push_listed-row_at-row-requires : goal.push_listed-row_at-row-requires
push_listed-row_at-row-requires t c =
    let some = c.if-entry-eq0.false in
    row_there c.args.walk.now.rows.now c.args.entry c.requires.entry.0 c.requires.entry.1 (omega (arith, some))

pub push_listed-push_listed-requires : goal.push_listed-push_listed-requires
push_listed-push_listed-requires t c =
    let some = c.if-entry-eq0.false in
    let b =
    base_before c.args.walk.now.rows.now c.args.entry (c.args.entry - 1) c.row_at-row.result.now c.requires.entry.0
    (omega (arith, some)) c.row_at-row.ensures c.requires.entry.1 in
    let less = b.0 in
    (omega (arith, less), (b.1, c.requires.counts))

pub push_listed-loop-i-init : goal.push_listed-loop-i-init
push_listed-loop-i-init t c =
    let some = c.if-entry-eq0.false in
    let row = c.row_at-row.result.now in
    record {
      chosen = c.in_ok-push_listed.ensures.chosen;
      going = λ p shows.
          subst (λ (vs : List Way). Going c.args.walk.now.rows.now row.number (c.args.entry - 1) vs 0
          c.args.left c.args.chosen.now.items c.args.out.now.items c.push_listed.new.out.items p)
          (sym c.deref-way-items.ensures.value)
          (going_first c.args.walk.now.rows.now c.args.entry (c.args.entry - 1) row c.args.left
          c.args.chosen.now.items c.args.out.now.items c.push_listed.new.out.items p
          (omega (arith, some)) c.row_at-row.ensures c.in_ok-push_listed.ensures.listed shows);
    }

pub push_listed-overflow_cast-choice : goal.push_listed-overflow_cast-choice
push_listed-overflow_cast-choice t c =
    let some = c.if-entry-eq0.false in
    let few =
    few_members c.args.walk.now.rows.now c.args.entry (c.args.entry - 1) c.row_at-row.result.now
    c.requires.entry.0 (omega (arith, some)) c.row_at-row.ensures c.requires.entry.1 in
    let same = ap length c.deref-way-items.ensures.value in
    let below = c.loop-i-test.true in
    omega (arith, few, same, below)

pub push_listed-overflow_add-choice : goal.push_listed-overflow_add-choice
push_listed-overflow_add-choice t c =
    let some = c.if-entry-eq0.false in
    let few =
    few_members c.args.walk.now.rows.now c.args.entry (c.args.entry - 1) c.row_at-row.result.now
    c.requires.entry.0 (omega (arith, some)) c.row_at-row.ensures c.requires.entry.1 in
    let same = ap length c.deref-way-items.ensures.value in
    let below = c.loop-i-test.true in
    omega (arith, few, same, below)

pub push_listed-push_chosen-requires : goal.push_listed-push_chosen-requires
push_listed-push_chosen-requires t c =
    let some = c.if-entry-eq0.false in
    let items = c.deref-way-items.result.now in
    let i = c.loop-i.i in
    let v = slice_index_or items i (record { cost = 0; next = 0 }) in
    let same : i + 1 ≡ suc i = omega arith in
    let next : drop i items ≡ v ∷ drop (suc i) items =
    drop_more items i (record { cost = 0; next = 0 }) c.loop-i-test.true
    ∙ ap (λ n. v ∷ drop n items) same in
    let b =
    next_before c.args.walk.now.rows.now c.row_at-row.result.now.number (c.args.entry - 1) items i
    c.args.left c.args.chosen.now.items c.args.out.now.items c.loop-i.out.items c.requires.entry.0 v next
    (c.loop-i.invariant.going c.requires.entry.0 c.requires.entry.1) in
    let less = b.0 in
    (omega (arith, less, some), (b.1, c.requires.counts))

pub push_listed-loop-i-preserved : goal.push_listed-loop-i-preserved
push_listed-loop-i-preserved t c =
    let items = c.deref-way-items.result.now in
    let i = c.loop-i.i in
    let number = c.row_at-row.result.now.number in
    let v = slice_index_or items i (record { cost = 0; next = 0 }) in
    let same : i + 1 ≡ suc i = omega arith in
    let next : drop i items ≡ v ∷ drop (suc i) items =
    drop_more items i (record { cost = 0; next = 0 }) c.loop-i-test.true
    ∙ ap (λ n. v ∷ drop n items) same in
    let made = c.args.chosen.now.items in
    let out = c.loop-i.out.items in
    let left = c.args.left in
    record {
      chosen = c.in_ok-push_chosen.ensures.chosen ∙ c.loop-i.invariant.chosen;
      going = λ p shows.
          subst (λ n. Going c.args.walk.now.rows.now number (c.args.entry - 1) items n left made
          c.args.out.now.items c.push_chosen.new.out.items p) (sym same)
          (going_next c.args.walk.now.rows.now number (c.args.entry - 1) items i left made
          c.args.out.now.items out c.push_chosen.new.out.items p v next
          (λ q there. c.in_ok-push_chosen.ensures.listed q there
          ∙ ap (λ (chosen : List Choice). out
          ++ behind chosen (listed_by (way_and v.cost q no_ways) number (i + 1) left))
          c.loop-i.invariant.chosen
          ∙ ap (λ n. out ++ behind made (listed_by (way_and v.cost q no_ways) number n left)) same)
          (c.loop-i.invariant.going p shows));
    }

pub push_listed-returns-clause-listed : goal.push_listed-returns-clause-listed
push_listed-returns-clause-listed t c p shows =
    going_last c.args.walk.now.rows.now c.row_at-row.result.now.number (c.args.entry - 1)
    c.deref-way-items.result.now c.loop-i.i c.args.left c.args.chosen.now.items
    c.args.out.now.items c.loop-i.out.items p c.loop-i-test.false
    (c.loop-i.invariant.going p shows)
