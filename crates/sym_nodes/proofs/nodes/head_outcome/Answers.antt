use Rattle.std.proofs.Common.{◌≡◌, length, Some, IsSome, ap, sym, ◌∙◌, subst, refl, is_some}
use Rattle.std.specs.declared.result.Result.{Result}
use Rattle.mpy_tree.specs.declared.typing.Ty.TheVariants as ty
use Rattle.mpy_tree.specs.declared.value.Value.{Value}
use Rattle.mpy_tree.specs.declared.outcome.Halted.{Halted}
use Rattle.choice_tree.specs.declared.head.Head.{Head}
use Rattle.choice_tree.specs.Heads.{HasParts, head_kind}
use Rattle.choice_tree.specs.Typing.{node_type}
use Rattle.sym_values.specs.Forms.{form_for}
use Rattle.sym_values.specs.Reading.{OutcomeReads}
use Rattle.sym_nodes.specs.Environments.{scope_of}
use Rattle.sym_nodes.specs.Nodes.{and_result, cond_result, node_result, or_result}
use Rattle.sym_nodes.specs.Operands.{types_of}
use Rattle.sym_nodes.specs.Views.{env_of}
use Rattle.sym_nodes.proofs.HeadRules.{choice_triple, part_as, strict_node, strict_type, three_in, three_read, truth_pair, two_in, two_read}
use Rattle.sym_nodes.proofs.Outcomes.{read_on_line}
use Rattle.sym_nodes.proofs.TypeRules.{some_type}
use Rattle.sym_nodes.proofs.nodes.head_outcome.Goals as goal

pub local-requires-clause-typed : goal.local-requires-clause-typed
local-requires-clause-typed g c =
    subst (λ (h : Head). IsSome (node_type (scope_of (env_of c.args.view.now)) (head_kind h) (types_of c.args.parts.now))) c.in-Name.is c.requires.typed

pub returns-in_ok-value-in-Name-clause-made : goal.returns-in_ok-value-in-Name-clause-made
returns-in_ok-value-in-Name-clause-made g c t e =
    c.in_ok-value-in-Name.ensures.made t (subst (λ (h : Head). node_type (scope_of (env_of c.args.view.now)) (head_kind h) (types_of c.args.parts.now) ≡ Some t) c.in-Name.is e)

pub returns-in_ok-value-in-Name-clause-value : goal.returns-in_ok-value-in-Name-clause-value
returns-in_ok-value-in-Name-clause-value g c vs s calls line rs k h =
    let value = c.in_ok-value-in-Name in
    subst (λ (d : Head). OutcomeReads (g.L.Logic.reads c.args.g.now vs) value.value (node_result (env_of c.args.view.now).limits calls s line (head_kind d) rs)) (sym c.in-Name.is)
    (read_on_line (g.L.Logic.reads c.args.g.now vs) value.value line _ (value.ensures.value vs s k))

pub two_parts-two-requires : goal.two_parts-two-requires
two_parts-two-requires g c = subst (λ (h : Head). HasParts (head_kind h) (length c.args.parts.now)) c.in-And.is c.requires.many

pub and_outcome-requires : goal.and_outcome-requires
and_outcome-requires g c =
    let l = (env_of c.args.view.now).limits in
    let parts = c.args.parts.now in
    let two = c.two_parts-two in
    let both = two_in l parts two.result.first.now two.result.second.now c.requires.parts two.ensures in
    let typed = some_type _ (subst (λ (h : Head). IsSome (node_type (scope_of (env_of c.args.view.now)) (head_kind h) (types_of parts))) c.in-And.is c.requires.typed) in
    let truths = truth_pair parts two.result.first.now two.result.second.now typed.0 two.ensures typed.1 in
    record { left = part_as l ty.Bool two.result.first.now both.0 truths.0; right = part_as l ty.Bool two.result.second.now both.1 truths.1 }

pub returns-in_ok-truth-in-And-clause-made : goal.returns-in_ok-truth-in-And-clause-made
returns-in_ok-truth-in-And-clause-made g c t e =
    let two = c.two_parts-two in
    let parts = c.args.parts.now in
    let made = c.in_ok-truth-in-And.ensures.made in
    let typed = subst (λ (h : Head). node_type (scope_of (env_of c.args.view.now)) (head_kind h) (types_of parts) ≡ Some t) c.in-And.is e in
    let truths = truth_pair parts two.result.first.now two.result.second.now t two.ensures typed in
    record { owned = made.owned; owned_fault = made.owned_fault; form = made.form ∙ ap (form_for (env_of c.args.view.now).limits) (sym truths.2) }

pub returns-in_ok-truth-in-And-clause-value : goal.returns-in_ok-truth-in-And-clause-value
returns-in_ok-truth-in-And-clause-value g c vs s calls line rs k h =
    let reads = g.L.Logic.reads in
    let two = c.two_parts-two in
    let truth = c.in_ok-truth-in-And in
    subst (λ (d : Head). OutcomeReads (reads c.and_outcome.new.g vs) truth.truth (node_result (env_of c.args.view.now).limits calls s line (head_kind d) rs)) (sym c.in-And.is)
    (two_read (reads c.args.g.now vs) (reads c.and_outcome.new.g vs) truth.truth line c.args.parts.now two.result.first.now two.result.second.now (and_result line) two.ensures
    (λ x y. truth.ensures.value vs line x y) rs h)

pub two_parts-two-requires-in-Or : goal.two_parts-two-requires-in-Or
two_parts-two-requires-in-Or g c = subst (λ (h : Head). HasParts (head_kind h) (length c.args.parts.now)) c.in-Or.is c.requires.many

pub or_outcome-requires : goal.or_outcome-requires
or_outcome-requires g c =
    let l = (env_of c.args.view.now).limits in
    let parts = c.args.parts.now in
    let two = c.two_parts-two-in-Or in
    let both = two_in l parts two.result.first.now two.result.second.now c.requires.parts two.ensures in
    let typed = some_type _ (subst (λ (h : Head). IsSome (node_type (scope_of (env_of c.args.view.now)) (head_kind h) (types_of parts))) c.in-Or.is c.requires.typed) in
    let truths = truth_pair parts two.result.first.now two.result.second.now typed.0 two.ensures typed.1 in
    record { left = part_as l ty.Bool two.result.first.now both.0 truths.0; right = part_as l ty.Bool two.result.second.now both.1 truths.1 }

pub returns-in_ok-truth-in-Or-clause-made : goal.returns-in_ok-truth-in-Or-clause-made
returns-in_ok-truth-in-Or-clause-made g c t e =
    let two = c.two_parts-two-in-Or in
    let parts = c.args.parts.now in
    let made = c.in_ok-truth-in-Or.ensures.made in
    let typed = subst (λ (h : Head). node_type (scope_of (env_of c.args.view.now)) (head_kind h) (types_of parts) ≡ Some t) c.in-Or.is e in
    let truths = truth_pair parts two.result.first.now two.result.second.now t two.ensures typed in
    record { owned = made.owned; owned_fault = made.owned_fault; form = made.form ∙ ap (form_for (env_of c.args.view.now).limits) (sym truths.2) }

pub returns-in_ok-truth-in-Or-clause-value : goal.returns-in_ok-truth-in-Or-clause-value
returns-in_ok-truth-in-Or-clause-value g c vs s calls line rs k h =
    let reads = g.L.Logic.reads in
    let two = c.two_parts-two-in-Or in
    let truth = c.in_ok-truth-in-Or in
    subst (λ (d : Head). OutcomeReads (reads c.or_outcome.new.g vs) truth.truth (node_result (env_of c.args.view.now).limits calls s line (head_kind d) rs)) (sym c.in-Or.is)
    (two_read (reads c.args.g.now vs) (reads c.or_outcome.new.g vs) truth.truth line c.args.parts.now two.result.first.now two.result.second.now (or_result line) two.ensures
    (λ x y. truth.ensures.value vs line x y) rs h)

pub three_parts-three-requires : goal.three_parts-three-requires
three_parts-three-requires g c = subst (λ (h : Head). HasParts (head_kind h) (length c.args.parts.now)) c.in-Cond.is c.requires.many

pub cond_outcome-requires : goal.cond_outcome-requires
cond_outcome-requires g c =
    let l = (env_of c.args.view.now).limits in
    let parts = c.args.parts.now in
    let three = c.three_parts-three in
    let all = three_in l parts three.result.first.now three.result.second.now three.result.third.now c.requires.parts three.ensures in
    let typed = some_type _ (subst (λ (h : Head). IsSome (node_type (scope_of (env_of c.args.view.now)) (head_kind h) (types_of parts))) c.in-Cond.is c.requires.typed) in
    let same = choice_triple parts three.result.first.now three.result.second.now three.result.third.now typed.0 three.ensures typed.1 in
    record {
      test = record { owned = all.1.owned; owned_fault = all.1.owned_fault; form = refl };
      yes = record { owned = all.0.owned; owned_fault = all.0.owned_fault; form = refl };
      no = record { owned = all.2.owned; owned_fault = all.2.owned_fault; form = all.2.form ∙ ap (form_for l) same.0 ∙ sym all.0.form };
    }

pub returns-in_ok-chosen-in-Cond-clause-made : goal.returns-in_ok-chosen-in-Cond-clause-made
returns-in_ok-chosen-in-Cond-clause-made g c t e =
    let l = (env_of c.args.view.now).limits in
    let parts = c.args.parts.now in
    let three = c.three_parts-three in
    let all = three_in l parts three.result.first.now three.result.second.now three.result.third.now c.requires.parts three.ensures in
    let typed = subst (λ (h : Head). node_type (scope_of (env_of c.args.view.now)) (head_kind h) (types_of parts) ≡ Some t) c.in-Cond.is e in
    let same = choice_triple parts three.result.first.now three.result.second.now three.result.third.now t three.ensures typed in
    let made = c.in_ok-chosen-in-Cond.ensures.made in
    record { owned = made.owned; owned_fault = made.owned_fault; form = made.form ∙ all.0.form ∙ ap (form_for l) (sym same.1) }

pub returns-in_ok-chosen-in-Cond-clause-value : goal.returns-in_ok-chosen-in-Cond-clause-value
returns-in_ok-chosen-in-Cond-clause-value g c vs s calls line rs k h =
    let reads = g.L.Logic.reads in
    let three = c.three_parts-three in
    let chosen = c.in_ok-chosen-in-Cond in
    subst (λ (d : Head). OutcomeReads (reads c.cond_outcome.new.g vs) chosen.chosen (node_result (env_of c.args.view.now).limits calls s line (head_kind d) rs)) (sym c.in-Cond.is)
    (three_read (reads c.args.g.now vs) (reads c.cond_outcome.new.g vs) chosen.chosen line c.args.parts.now three.result.first.now three.result.second.now three.result.third.now (λ a t b. cond_result t a b) three.ensures
    (λ x y z p q r. chosen.ensures.value vs y x z q p r) rs h)

pub strict_outcome-requires-clause-typed : goal.strict_outcome-requires-clause-typed
strict_outcome-requires-clause-typed g c =
    let typed = some_type _ c.requires.typed in
    ap is_some (strict_type (env_of c.args.view.now) c.args.head (types_of c.args.parts.now) typed.0 c.in_default.not-Name c.in_default.not-And c.in_default.not-Or c.in_default.not-Cond typed.1)

pub returns-in_ok-given-in_default-clause-made : goal.returns-in_ok-given-in_default-clause-made
returns-in_ok-given-in_default-clause-made g c t e =
    c.in_ok-given-in_default.ensures.made t (strict_type (env_of c.args.view.now) c.args.head (types_of c.args.parts.now) t c.in_default.not-Name c.in_default.not-And c.in_default.not-Or c.in_default.not-Cond e)

pub returns-in_ok-given-in_default-clause-value : goal.returns-in_ok-given-in_default-clause-value
returns-in_ok-given-in_default-clause-value g c vs s calls line rs k h =
    let l = (env_of c.args.view.now).limits in
    let given = c.in_ok-given-in_default in
    let typed = some_type _ c.requires.typed in
    let strict = strict_type (env_of c.args.view.now) c.args.head (types_of c.args.parts.now) typed.0 c.in_default.not-Name c.in_default.not-And c.in_default.not-Or c.in_default.not-Cond typed.1 in
    subst (λ (r : Result Value Halted). OutcomeReads (g.L.Logic.reads c.strict_outcome.new.g vs) given.given r) (strict_node l calls s line (head_kind c.args.head) (types_of c.args.parts.now) typed.0 rs strict)
    (given.ensures.value vs line rs h)
