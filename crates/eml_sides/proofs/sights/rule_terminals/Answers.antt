use Rattle.std.proofs.Common.{◌≡◌, ◌++◌, ◌∷◌, [], length, Some, None, option_map, ap, sym, ◌∙◌}
use Rattle.std.proofs.Common.{append_assoc, append-nil}
use Rattle.eml_sides.specs.RuleTerminals.{terminal_at, terminals_within, rule_terminals}
use Rattle.eml_sides.proofs.OneByOne.{next_terminal, no_terminal, shorter_behind}
use Rattle.eml_sides.proofs.sights.rule_terminals.Goals as goal

pub loop-seen-preserved : goal.loop-seen-preserved
loop-seen-preserved c =
    let ts = c.loop-seen.rest.now in
    let t = c.in-Some.terminal in
    let us = c.in-Some.behind.now in
    let seen : terminal_at ts ≡ Some (t, us) = sym c.in_ok-terminal.ensures.same
    ∙ ap (option_map (λ x. (x.0, x.1.now))) c.in-Some.is in
    c.loop-seen.invariant
    ∙ ap (λ l. c.loop-seen.seen.items ++ l) (next_terminal ts (t, us) seen)
    ∙ sym (append_assoc c.loop-seen.seen.items (t ∷ []) (terminals_within (length us) us))
    ∙ ap (λ l. l ++ terminals_within (length us) us) (sym c.in_ok-push.ensures.items)

pub loop-seen-smaller : goal.loop-seen-smaller
loop-seen-smaller c =
    let ts = c.loop-seen.rest.now in
    let t = c.in-Some.terminal in
    let us = c.in-Some.behind.now in
    let seen : terminal_at ts ≡ Some (t, us) = sym c.in_ok-terminal.ensures.same
    ∙ ap (option_map (λ x. (x.0, x.1.now))) c.in-Some.is in
    shorter_behind ts (t, us) seen

pub returns : goal.returns
unfolding rule_terminals
returns c =
    let ts = c.loop-seen.rest.now in
    let over : terminal_at ts ≡ None = sym c.in_ok-terminal.ensures.same
    ∙ ap (option_map (λ x. (x.0, x.1.now))) c.in_default.is in
    sym (c.loop-seen.invariant ∙ ap (λ l. c.loop-seen.seen.items ++ l) (no_terminal ts over)
    ∙ append-nil c.loop-seen.seen.items)
