use Rattle.std.proofs.Common.{sym, ◌∙◌, ◌++◌, ◌∷◌, ap, map, Some, option_map, length, ◌<◌, IfSome, subst, arith}
use Rattle.mpy_tree.specs.Options.{◌>>=◌}
use Rattle.mpy_expressions.specs.Reading.{reading, with_joints, with_suffixes, some_elements}
use Rattle.mpy_expressions.specs.Views.{suffix_of, link_of}
use Rattle.mpy_expressions.proofs.Shorter.{pass_comma}
use Rattle.mpy_expressions.proofs.Readings.{joint_turn, suffix_turn, last_element, next_element, no_element}
use Rattle.mpy_expressions.proofs.Elements.{map-push, pushed}
use Rattle.mpy_expressions.proofs.expressions.+expression.Goals as goal

pub chain-loop-link-preserved : goal.chain-loop-link-preserved
chain-loop-link-preserved g t c =
    let forms = g.T.Forms.forms in
    let plain = g.T.Forms.plain in
    record {
      whole = c.loop-link.invariant.whole ∙ ap Some (
          joint_turn forms c.args.level (plain c.loop-link.left) c.loop-link.rest.now (link_of forms g.T.Forms.operation c.in-Some-2.link) (plain c.in-Some-2.right) c.in-Some-2.ts.now
          (sym c.in_ok-link.ensures.same ∙ ap (option_map (λ x. (link_of forms g.T.Forms.operation x.0, plain x.1, x.2.now))) c.in-Some-2.is)
          ∙ ap (λ e. with_joints forms (reading forms) c.args.level (length c.in-Some-2.ts.now) (e, c.in-Some-2.ts.now)) (sym c.in_ok-left.ensures));
      short = let h = subst (λ o. IfSome o (λ x. length x.2.now < length c.loop-link.rest.now)) c.in-Some-2.is c.in_ok-link.ensures.shorter in omega arith;
    }

pub postfix-loop-behind-preserved : goal.postfix-loop-behind-preserved
postfix-loop-behind-preserved g t c =
    let forms = g.T.Forms.forms in
    let plain = g.T.Forms.plain in
    record {
      whole = c.loop-behind.invariant.whole ∙ ap Some (
          suffix_turn forms (plain c.loop-behind.value) c.loop-behind.rest.now (suffix_of plain c.in-Some-2.behind) c.in-Some-2.ts.now
          (sym c.in_ok-behind.ensures.same ∙ ap (option_map (λ x. (suffix_of plain x.0, x.1.now))) c.in-Some-2.is)
          ∙ ap (λ e. with_suffixes forms (reading forms) (length c.in-Some-2.ts.now) (e, c.in-Some-2.ts.now)) (sym c.in_ok-value.ensures));
      short = let h = subst (λ o. IfSome o (λ x. length x.1.now < length c.loop-behind.rest.now)) c.in-Some-2.is c.in_ok-behind.ensures.shorter in omega arith;
    }

pub elements-returns-in-Some-behind_closing-clause-same : goal.elements-returns-in-Some-behind_closing-clause-same
elements-returns-in-Some-behind_closing-clause-same g t c =
    let forms = g.T.Forms.forms in
    let plain = g.T.Forms.plain in
    let e = last_element forms c.args.bracket c.loop-items.ts.now (plain c.in-Some-2.e) c.in-Some-2.behind.now c.in-Some-behind_closing.rest.now
    (sym c.in_ok-e.ensures.same ∙ ap (option_map (λ x. (plain x.0, x.1.now))) c.in-Some-2.is)
    (sym c.behind_closing-in-Some-2.ensures ∙ ap (option_map (λ x. x.now)) c.in-Some-behind_closing.is) in
    sym (c.loop-items.invariant.whole
    ∙ ap (λ o. o >>= λ es. Some (map plain c.loop-items.items.items ++ es.0, es.1)) e
    ∙ ap (λ es. Some (es, c.in-Some-behind_closing.rest.now)) (sym (ap (map plain) c.in_ok-push.ensures.items ∙ map-push plain c.loop-items.items.items c.in-Some-2.e)))

pub elements-loop-items-preserved : goal.elements-loop-items-preserved
elements-loop-items-preserved g t c =
    let forms = g.T.Forms.forms in
    let plain = g.T.Forms.plain in
    let comma = sym c.behind_comma.ensures ∙ ap (option_map (λ x. x.now)) c.in-Some-behind_comma.is in
    let e = next_element forms c.args.bracket c.loop-items.ts.now (plain c.in-Some-2.e) c.in-Some-2.behind.now
    (sym c.in_ok-e.ensures.same ∙ ap (option_map (λ x. (plain x.0, x.1.now))) c.in-Some-2.is)
    (sym c.behind_closing-in-Some-2.ensures ∙ ap (option_map (λ x. x.now)) c.in_default-behind_closing.is)
    ∙ ap (λ o. o >>= λ next. some_elements (reading forms) c.args.bracket (length next) next >>= λ es. Some (plain c.in-Some-2.e ∷ es.0, es.1)) comma in
    let shorter = subst (λ o. IfSome o (λ x. length x.1.now < length c.loop-items.ts.now)) c.in-Some-2.is c.in_ok-e.ensures.shorter in
    let passed = subst (λ o. IfSome o (λ x. length x < length c.in-Some-2.behind.now)) comma (pass_comma c.in-Some-2.behind.now) in
    record {
      whole = c.loop-items.invariant.whole
          ∙ ap (λ o. o >>= λ es. Some (map plain c.loop-items.items.items ++ es.0, es.1)) e
          ∙ pushed plain (some_elements (reading forms) c.args.bracket (length c.in-Some-behind_comma.next.now) c.in-Some-behind_comma.next.now) c.loop-items.items.items c.in-Some-2.e
          ∙ ap (λ xs. some_elements (reading forms) c.args.bracket (length c.in-Some-behind_comma.next.now) c.in-Some-behind_comma.next.now >>= λ es. Some (map plain xs ++ es.0, es.1)) (sym c.in_ok-push.ensures.items);
      short = omega arith;
    }

-- neither closed nor followed by a comma, and no expression there
pub elements-returns-in_default-behind_comma-clause-same : goal.elements-returns-in_default-behind_comma-clause-same
elements-returns-in_default-behind_comma-clause-same g t c =
    let forms = g.T.Forms.forms in
    let plain = g.T.Forms.plain in
    let comma = sym c.behind_comma.ensures ∙ ap (option_map (λ x. x.now)) c.in_default-behind_comma.is in
    let e = next_element forms c.args.bracket c.loop-items.ts.now (plain c.in-Some-2.e) c.in-Some-2.behind.now
    (sym c.in_ok-e.ensures.same ∙ ap (option_map (λ x. (plain x.0, x.1.now))) c.in-Some-2.is)
    (sym c.behind_closing-in-Some-2.ensures ∙ ap (option_map (λ x. x.now)) c.in_default-behind_closing.is)
    ∙ ap (λ o. o >>= λ next. some_elements (reading forms) c.args.bracket (length next) next >>= λ es. Some (plain c.in-Some-2.e ∷ es.0, es.1)) comma in
    sym (c.loop-items.invariant.whole ∙ ap (λ o. o >>= λ es. Some (map plain c.loop-items.items.items ++ es.0, es.1)) e)

pub elements-returns-clause-same : goal.elements-returns-clause-same
elements-returns-clause-same g t c =
    let forms = g.T.Forms.forms in
    let plain = g.T.Forms.plain in
    let e = no_element forms c.args.bracket c.loop-items.ts.now
    (sym c.in_ok-e.ensures.same ∙ ap (option_map (λ x. (plain x.0, x.1.now))) c.in_default-2.is) in
    sym (c.loop-items.invariant.whole ∙ ap (λ o. o >>= λ es. Some (map plain c.loop-items.items.items ++ es.0, es.1)) e)
