use Rattle.std.proofs.Common.{◌≡◌, ◌∙◌, ◌++◌, ◌∷◌, [], Some, ap, is_some, subst, sym}
use Rattle.std.proofs.lemmas.List.Elements.{All-cons, All-nil}
use Rattle.mpy_tree.specs.declared.typing.Ty.TheVariants as ty
use Rattle.bit_graph.specs.Gates.{Owns}
use Rattle.bit_words.specs.Logic.{extends_keeps}
use Rattle.choice_tree.specs.WeightedViews.{weighted_of}
use Rattle.sym_values.specs.Later.{outcome_in_later}
use Rattle.sym_nodes.specs.Environments.{scope_of}
use Rattle.sym_nodes.specs.Later.{env_later}
use Rattle.sym_nodes.specs.Members.{common_type}
use Rattle.sym_nodes.specs.Operands.{ArePartsIn, IsPartIn, types_of}
use Rattle.sym_nodes.specs.Plain.{root_type, type_of}
use Rattle.sym_nodes.proofs.Typed.{type_is, typed_as}
use Rattle.variable_tests.proofs.ExpressionTypes.{choice_typed, quotient_typed, sum_typed, x_typed}
use Rattle.variable_tests.proofs.expressions.variable_outcomes.Goals as goal

pub sym_expr-requires-clause-typed : goal.sym_expr-requires-clause-typed
sym_expr-requires-clause-typed c =
    let made = c.in_ok-env.ensures in
    let scope = scope_of c.in_ok-env.env in
    ap is_some (ap (type_of scope) c.in_ok-e.ensures
    ∙ choice_typed scope (x_typed c.in_ok-env.env made.names made.types))

pub sym_expr-requires-2-clause-env : goal.sym_expr-requires-2-clause-env
sym_expr-requires-2-clause-env c =
    env_later (extends_keeps c.sym_expr.ensures.extends) c.in_ok-env.ensures.made

pub sym_expr-requires-2-clause-typed : goal.sym_expr-requires-2-clause-typed
sym_expr-requires-2-clause-typed c =
    let made = c.in_ok-env.ensures in
    let scope = scope_of c.in_ok-env.env in
    ap is_some (ap (type_of scope) c.in_ok-first.ensures
    ∙ sum_typed scope (x_typed c.in_ok-env.env made.names made.types))

pub sym_expr-requires-3-clause-env : goal.sym_expr-requires-3-clause-env
sym_expr-requires-3-clause-env c =
    env_later (extends_keeps c.sym_expr-2.ensures.extends)
    (env_later (extends_keeps c.sym_expr.ensures.extends) c.in_ok-env.ensures.made)

pub sym_expr-requires-3-clause-typed : goal.sym_expr-requires-3-clause-typed
sym_expr-requires-3-clause-typed c =
    let made = c.in_ok-env.ensures in
    let scope = scope_of c.in_ok-env.env in
    ap is_some (ap (type_of scope) c.in_ok-second.ensures
    ∙ quotient_typed scope (x_typed c.in_ok-env.env made.names made.types))

pub sym_node-requires-clause-env : goal.sym_node-requires-clause-env
sym_node-requires-clause-env c =
    env_later (extends_keeps c.sym_expr-3.ensures.extends)
    (env_later (extends_keeps c.sym_expr-2.ensures.extends)
    (env_later (extends_keeps c.sym_expr.ensures.extends) c.in_ok-env.ensures.made))

pub sym_node-requires-clause-parts : goal.sym_node-requires-clause-parts
sym_node-requires-clause-parts c =
    let made = c.in_ok-env.ensures in
    let limits = c.in_ok-env.env.limits in
    let scope = scope_of c.in_ok-env.env in
    let is = x_typed c.in_ok-env.env made.names made.types in
    let a = c.in_ok-base.base in
    let b = c.in_ok-other.other in
    let last = c.sym_expr-3.new.g in
    let P = IsPartIn Owns last limits in
    let first = outcome_in_later (extends_keeps c.sym_expr-3.ensures.extends)
    (c.in_ok-base.ensures.made ty.Int
    (ap (type_of scope) c.in_ok-first.ensures ∙ sum_typed scope is)) in
    let second = c.in_ok-other.ensures.made ty.Int
    (ap (type_of scope) c.in_ok-second.ensures ∙ quotient_typed scope is) in
    let all : c.push-2.new.self.items ≡ a ∷ b ∷ [] =
    c.in_ok-push-2.ensures.items ∙ ap (λ xs. xs ++ b ∷ []) (c.in_ok-push.ensures.items
    ∙ ap (λ xs. xs ++ a ∷ []) c.new-parts.ensures.items) in
    subst (λ ps. ArePartsIn Owns last limits ps) (sym all) (record {
      each = All-cons P a (b ∷ []) (typed_as limits ty.Int a first)
          (All-cons P b [] (typed_as limits ty.Int b second) (All-nil P));
    })

pub sym_node-requires-clause-typed : goal.sym_node-requires-clause-typed
sym_node-requires-clause-typed c =
    let made = c.in_ok-env.ensures in
    let limits = c.in_ok-env.env.limits in
    let scope = scope_of c.in_ok-env.env in
    let is = x_typed c.in_ok-env.env made.names made.types in
    let a = c.in_ok-base.base in
    let b = c.in_ok-other.other in
    let first = c.in_ok-base.ensures.made ty.Int
    (ap (type_of scope) c.in_ok-first.ensures ∙ sum_typed scope is) in
    let second = c.in_ok-other.ensures.made ty.Int
    (ap (type_of scope) c.in_ok-second.ensures ∙ quotient_typed scope is) in
    let one = type_is limits ty.Int a.value first.form in
    let two = type_is limits ty.Int b.value second.form in
    let all : c.push-2.new.self.items ≡ a ∷ b ∷ [] =
    c.in_ok-push-2.ensures.items ∙ ap (λ xs. xs ++ b ∷ []) (c.in_ok-push.ensures.items
    ∙ ap (λ xs. xs ++ a ∷ []) c.new-parts.ensures.items) in
    ap is_some (ap (λ ps. root_type scope (weighted_of c.in_ok-e.e) (types_of ps)) all
    ∙ ap (λ w. root_type scope w (types_of (a ∷ b ∷ []))) c.in_ok-e.ensures
    ∙ (λ i. common_type (Some (one i) ∷ Some (two i) ∷ [])))
