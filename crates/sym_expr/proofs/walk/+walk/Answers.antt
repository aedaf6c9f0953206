use Rattle.std.proofs.Common.{◌≡◌, ◌∙◌, ◌<◌, ℕ, Bool, List, Option, Some, IfSome, is_some, length, ap, sym, subst, refl, arith, slice_get}
use Rattle.std.specs.Prelude.{◌||◌, if◌then◌else◌}
use Rattle.std.proofs.lemmas.List.{length-map}
use Rattle.mpy_tree.specs.declared.typing.Ty.TheVariants as ty
use Rattle.mpy_tree.specs.Expressions.{value_of}
use Rattle.bit_words.specs.Logic.{OwnsAll, extends_keeps, extends_trans}
use Rattle.bit_words.specs.Words.{nat_read}
use Rattle.choice_tree.specs.WeightedTrees.{Weighted, children}
use Rattle.choice_tree.specs.WeightedViews.{weighted_of}
use Rattle.choice_tree.proofs.Walking.{child_smaller, is_place}
use Rattle.sym_values.specs.Forms.{form_for}
use Rattle.sym_values.specs.Later.{outcome_in_later, outcome_later}
use Rattle.sym_values.specs.Owned.{owns_one}
use Rattle.sym_nodes.specs.Views.{env_of}
use Rattle.sym_expr.specs.Signatures.{scope_at}
use Rattle.sym_nodes.specs.Members.{place_chosen}
use Rattle.sym_nodes.specs.Later.{env_later, parts_later, picks_later, plain_later, state_later}
use Rattle.sym_nodes.specs.Plain.{root_type, type_of}
use Rattle.sym_nodes.proofs.Arguments.{many_types}
use Rattle.sym_expr.proofs.Settling.{cond_known, cond_plain, pick_known, side_plain, side_settled}
use Rattle.sym_nodes.proofs.TreeTypes.{arms_typed, child_picks, child_typed, cond_kids, member_typed, own_pick, root_typed, side_kids, sides_typed}
use Rattle.sym_nodes.proofs.TypeRules.{some_type}
use Rattle.sym_nodes.proofs.Typed.{typed_as}
use Rattle.sym_expr.proofs.Walks.{arm_at, arm_type, kid_at, no_kid, own_type, parts_push, plain_more, types_more}
use Rattle.sym_expr.proofs.walk.+walk.Goals as goal

pub eval_whole-node_outcome-requires : goal.eval_whole-node_outcome-requires
eval_whole-node_outcome-requires g t c =
    let env = env_of c.args.view.now in
    let σ = scope_at (g.C.Functions.signatures c.args.functions.now) env in
    let w = weighted_of c.args.e.now in
    let parts = c.in_ok-parts in
    let typed = some_type _ c.requires.typed in
    record {
      env = env_later (extends_keeps c.eval_children.ensures.extends) c.requires.env;
      parts = parts.ensures.made;
      many = c.requires.many;
      all = sym (many_types parts.parts.items) ∙ ap length parts.ensures.types ∙ length-map (children w) (type_of σ);
      typed = ap is_some (ap (root_type σ w) parts.ensures.types ∙ root_typed σ w typed.0 typed.1);
      pick = own_pick env.picks w c.requires.picks;
    }

pub eval_whole-returns-clause-made : goal.eval_whole-returns-clause-made
eval_whole-returns-clause-made g t c u e =
    let σ = scope_at (g.C.Functions.signatures c.args.functions.now) (env_of c.args.view.now) in
    let w = weighted_of c.args.e.now in
    c.in_ok-outcome.ensures.made u (ap (root_type σ w) c.in_ok-parts.ensures.types ∙ root_typed σ w u e)

pub eval_whole-returns-clause-value : goal.eval_whole-returns-clause-value
eval_whole-returns-clause-value g t c vs s m calls line a k p =
    let one = extends_keeps c.eval_children.ensures.extends in
    c.in_ok-outcome.ensures.value vs s m calls line a (state_later one c.requires.env vs s k) (picks_later one c.requires.env vs m p) (c.in_ok-parts.ensures.value vs s m calls line a k p)

pub eval_children-eval-requires : goal.eval_children-eval-requires
eval_children-eval-requires g t c κs h =
    let env = env_of c.args.view.now in
    let w = weighted_of c.args.e.now in
    let kid = weighted_of c.in-Some.part.now in
    let i = c.parts.i in
    let at : slice_get (children w) i ≡ Some kid = sym c.in-Some.ensures.tree in
    let less = child_smaller w kid i c.in-Some.ensures.tree in
    (omega (arith, less), (h.0, (h.1.0, (h.1.1, (env_later (extends_keeps c.parts.invariant.extends) c.requires.env, (child_typed (scope_at (g.C.Functions.signatures c.args.functions.now) env) w kid i c.requires.typed at, (child_picks env.picks w kid i c.requires.picks at, c.requires.many)))))))

pub eval_children-parts-preserved : goal.eval_children-parts-preserved
eval_children-parts-preserved g t c =
    let env = env_of c.args.view.now in
    let l = env.limits in
    let σ = scope_at (g.C.Functions.signatures c.args.functions.now) env in
    let w = weighted_of c.args.e.now in
    let kids = children w in
    let i = c.parts.i in
    let kid = weighted_of c.in-Some.part.now in
    let before = c.parts.invariant in
    let at : slice_get kids i ≡ Some kid = sym c.in-Some.ensures.tree in
    let below = is_place kids i kid c.in-Some.ensures.tree in
    let one = c.eval.ensures.extends in
    let later = extends_keeps one in
    let so_far = extends_keeps before.extends in
    let outcome = c.in_ok-outcome in
    let typed = some_type _ (child_typed σ w kid i c.requires.typed at) in
    let made = outcome.ensures.made typed.0 typed.1 in
    let push = c.in_ok-push.ensures.items in
    record {
      extends = extends_trans before.extends one;
      within = omega arith;
      made = parts_push c.parts.made.items _ outcome.outcome (parts_later later before.made) (typed_as l typed.0 outcome.outcome made) push;
      types = types_more (type_of σ) kids i kid c.parts.made.items _ outcome.outcome at (own_type l typed.0 (type_of σ kid) outcome.outcome typed.1 made) before.types push;
      value = λ vs s m calls line a k p.
          let value = value_of l calls s line in
          let old = plain_later l later vs value m c.parts.made.items _ before.made (before.value vs s m calls line a k p) in
          let now = outcome.ensures.value vs s m calls line a (state_later so_far c.requires.env vs s k) (picks_later so_far c.requires.env vs m p) in
          plain_more (g.L.Logic.reads c.eval.new.g vs) value m kids i kid c.parts.made.items _ outcome.outcome at old now push;
    }

pub eval_child-unreachable-requires : goal.eval_child-unreachable-requires
eval_child-unreachable-requires g t c = no_kid (children (weighted_of c.args.e.now)) c.args.i c.in-None.ensures.tree c.requires.place

pub eval_child-eval-requires : goal.eval_child-eval-requires
eval_child-eval-requires g t c κs h =
    let env = env_of c.args.view.now in
    let w = weighted_of c.args.e.now in
    let kid = weighted_of c.in-Some.part.now in
    let i = c.args.i in
    let at : slice_get (children w) i ≡ Some kid = sym c.in-Some.ensures.tree in
    let less = child_smaller w kid i c.in-Some.ensures.tree in
    (omega (arith, less), (h.0, (h.1.0, (h.1.1, (c.requires.env, (child_typed (scope_at (g.C.Functions.signatures c.args.functions.now) env) w kid i c.requires.typed at, (child_picks env.picks w kid i c.requires.picks at, c.requires.many)))))))

-- `and` and `or`
pub eval_sides-settles-requires : goal.eval_sides-settles-requires
eval_sides-settles-requires g t c =
    let w = weighted_of c.args.e.now in
    let kids = side_kids c.args.stop w c.requires.node in
    let typed = some_type _ c.requires.typed in
    let types = sides_typed (scope_at (g.C.Functions.signatures c.args.functions.now) (env_of c.args.view.now)) c.args.stop w kids.0 kids.1 typed.0 c.requires.node.kind kids.2 typed.1 in
    c.in_ok-left.ensures.made kids.0 (ap (λ (ws : List Weighted). slice_get ws 0) kids.2) ty.Bool types.0

pub eval_sides-returns-then-settles-clause-made : goal.eval_sides-returns-then-settles-clause-made
eval_sides-returns-then-settles-clause-made g t c u e =
    let l = (env_of c.args.view.now).limits in
    let w = weighted_of c.args.e.now in
    let kids = side_kids c.args.stop w c.requires.node in
    let types = sides_typed (scope_at (g.C.Functions.signatures c.args.functions.now) (env_of c.args.view.now)) c.args.stop w kids.0 kids.1 u c.requires.node.kind kids.2 e in
    let made = c.in_ok-left.ensures.made kids.0 (ap (λ (ws : List Weighted). slice_get ws 0) kids.2) ty.Bool types.0 in
    record { owned = made.owned; owned_fault = made.owned_fault; form = made.form ∙ ap (form_for l) (sym types.2) }

pub eval_sides-returns-then-settles-clause-value : goal.eval_sides-returns-then-settles-clause-value
eval_sides-returns-then-settles-clause-value g t c vs s m calls line a k p =
    let w = weighted_of c.args.e.now in
    let kids = side_kids c.args.stop w c.requires.node in
    let left = c.in_ok-left.ensures.value kids.0 (ap (λ (ws : List Weighted). slice_get ws 0) kids.2) vs s m calls line a k p in
    side_settled (g.L.Logic.reads c.eval_child.new.g vs) (env_of c.args.view.now).limits calls s line m c.args.stop w kids.0 kids.1 c.in_ok-left.left c.requires.node.kind kids.2 (c.if-settles.ensures refl vs) left

pub eval_sides-side_outcome-requires-clause-left : goal.eval_sides-side_outcome-requires-clause-left
eval_sides-side_outcome-requires-clause-left g t c =
    let w = weighted_of c.args.e.now in
    let kids = side_kids c.args.stop w c.requires.node in
    let typed = some_type _ c.requires.typed in
    let types = sides_typed (scope_at (g.C.Functions.signatures c.args.functions.now) (env_of c.args.view.now)) c.args.stop w kids.0 kids.1 typed.0 c.requires.node.kind kids.2 typed.1 in
    outcome_in_later (extends_keeps c.eval_child-2.ensures.extends) (c.in_ok-left.ensures.made kids.0 (ap (λ (ws : List Weighted). slice_get ws 0) kids.2) ty.Bool types.0)

pub eval_sides-side_outcome-requires-clause-right : goal.eval_sides-side_outcome-requires-clause-right
eval_sides-side_outcome-requires-clause-right g t c =
    let w = weighted_of c.args.e.now in
    let kids = side_kids c.args.stop w c.requires.node in
    let typed = some_type _ c.requires.typed in
    let types = sides_typed (scope_at (g.C.Functions.signatures c.args.functions.now) (env_of c.args.view.now)) c.args.stop w kids.0 kids.1 typed.0 c.requires.node.kind kids.2 typed.1 in
    c.in_ok-right.ensures.made kids.1 (ap (λ (ws : List Weighted). slice_get ws 1) kids.2) ty.Bool types.1

pub eval_sides-returns-clause-value : goal.eval_sides-returns-clause-value
eval_sides-returns-clause-value g t c vs s m calls line a k p =
    let env = env_of c.args.view.now in
    let l = env.limits in
    let w = weighted_of c.args.e.now in
    let kids = side_kids c.args.stop w c.requires.node in
    let typed = some_type _ c.requires.typed in
    let types = sides_typed (scope_at (g.C.Functions.signatures c.args.functions.now) env) c.args.stop w kids.0 kids.1 typed.0 c.requires.node.kind kids.2 typed.1 in
    let one = extends_keeps c.eval_child.ensures.extends in
    let two = extends_keeps c.eval_child-2.ensures.extends in
    let at0 = ap (λ (ws : List Weighted). slice_get ws 0) kids.2 in
    let at1 = ap (λ (ws : List Weighted). slice_get ws 1) kids.2 in
    let made = c.in_ok-left.ensures.made kids.0 at0 ty.Bool types.0 in
    let left = c.in_ok-left.ensures.value kids.0 at0 vs s m calls line a k p in
    let right = c.in_ok-right.ensures.value kids.1 at1 vs s m calls line a (state_later one c.requires.env vs s k) (picks_later one c.requires.env vs m p) in
    side_plain (g.L.Logic.reads c.side_outcome.new.g vs) l calls s line m c.args.stop w kids.0 kids.1 c.in_ok-both.both c.requires.node.kind kids.2 (λ u v q r.
    let x = value_of l calls s line u in
    let y = value_of l calls s line v in
    c.in_ok-both.ensures.value vs line x y (outcome_later c.in_ok-left.left two made vs x (left u q)) (right v r))

-- the conditional
pub eval_cond-test_bit-requires : goal.eval_cond-test_bit-requires
eval_cond-test_bit-requires g t c =
    let w = weighted_of c.args.e.now in
    let kids = cond_kids w c.requires.node in
    let at = ap (λ (ws : List Weighted). slice_get ws 1) kids.3 in
    let typed = some_type _ (child_typed (scope_at (g.C.Functions.signatures c.args.functions.now) (env_of c.args.view.now)) w kids.1 1 c.requires.typed at) in
    (c.in_ok-test.ensures.made kids.1 at typed.0 typed.1).owned

pub eval_cond-or-requires-clause-left : goal.eval_cond-or-requires-clause-left
eval_cond-or-requires-clause-left g t c =
    let w = weighted_of c.args.e.now in
    let kids = cond_kids w c.requires.node in
    let at = ap (λ (ws : List Weighted). slice_get ws 1) kids.3 in
    let typed = some_type _ (child_typed (scope_at (g.C.Functions.signatures c.args.functions.now) (env_of c.args.view.now)) w kids.1 1 c.requires.typed at) in
    let made = c.in_ok-test.ensures.made kids.1 at typed.0 typed.1 in
    (extends_trans c.test_bit.ensures.extends c.eval_child-in-Some.ensures.extends).kept c.in_ok-test.test.fault made.owned_fault

pub eval_cond-or-requires-clause-right : goal.eval_cond-or-requires-clause-right
eval_cond-or-requires-clause-right g t c =
    let w = weighted_of c.args.e.now in
    let σ = scope_at (g.C.Functions.signatures c.args.functions.now) (env_of c.args.view.now) in
    let kids = cond_kids w c.requires.node in
    let known = c.in-Some.known in
    let typed = some_type _ c.requires.typed in
    let types = arms_typed σ w kids.0 kids.1 kids.2 typed.0 c.requires.node.kind kids.3 typed.1 in
    let at = arm_at known (children w) kids.0 kids.1 kids.2 c.arm.result kids.3 c.arm.ensures in
    (c.in_ok-chosen-in-Some.ensures.made (if known then kids.0 else kids.2) at typed.0 (arm_type (type_of σ) known kids.0 kids.2 typed.0 types.0 types.1)).owned_fault

pub eval_cond-returns-in-Some-clause-made : goal.eval_cond-returns-in-Some-clause-made
eval_cond-returns-in-Some-clause-made g t c u e =
    let w = weighted_of c.args.e.now in
    let σ = scope_at (g.C.Functions.signatures c.args.functions.now) (env_of c.args.view.now) in
    let kids = cond_kids w c.requires.node in
    let known = c.in-Some.known in
    let types = arms_typed σ w kids.0 kids.1 kids.2 u c.requires.node.kind kids.3 e in
    let at = arm_at known (children w) kids.0 kids.1 kids.2 c.arm.result kids.3 c.arm.ensures in
    let made = c.in_ok-chosen-in-Some.ensures.made (if known then kids.0 else kids.2) at u (arm_type (type_of σ) known kids.0 kids.2 u types.0 types.1) in
    let later = outcome_in_later (extends_keeps c.or.ensures.extends) made in
    record { owned = later.owned; owned_fault = c.in_ok-fault-in-Some.ensures.owned; form = later.form }

pub eval_cond-returns-in-Some-clause-value : goal.eval_cond-returns-in-Some-clause-value
eval_cond-returns-in-Some-clause-value g t c vs s m calls line a k p =
    let reads = g.L.Logic.reads in
    let env = env_of c.args.view.now in
    let l = env.limits in
    let w = weighted_of c.args.e.now in
    let σ = scope_at (g.C.Functions.signatures c.args.functions.now) env in
    let kids = cond_kids w c.requires.node in
    let known = c.in-Some.known in
    let at1 = ap (λ (ws : List Weighted). slice_get ws 1) kids.3 in
    let tested = some_type _ (child_typed σ w kids.1 1 c.requires.typed at1) in
    let test = c.in_ok-test.ensures.made kids.1 at1 tested.0 tested.1 in
    let typed = some_type _ c.requires.typed in
    let types = arms_typed σ w kids.0 kids.1 kids.2 typed.0 c.requires.node.kind kids.3 typed.1 in
    let at = arm_at known (children w) kids.0 kids.1 kids.2 c.arm.result kids.3 c.arm.ensures in
    let made = c.in_ok-chosen-in-Some.ensures.made (if known then kids.0 else kids.2) at typed.0 (arm_type (type_of σ) known kids.0 kids.2 typed.0 types.0 types.1) in
    let one = c.eval_child.ensures.extends in
    let two = c.test_bit.ensures.extends in
    let three = c.eval_child-in-Some.ensures.extends in
    let four = c.or.ensures.extends in
    let until = extends_keeps (extends_trans one two) in
    let arm = c.in_ok-chosen-in-Some.chosen in
    let armed = c.in_ok-chosen-in-Some.ensures.value (if known then kids.0 else kids.2) at vs s m calls line a (state_later until c.requires.env vs s k) (picks_later until c.requires.env vs m p) in
    let first = (extends_trans two three).same c.in_ok-test.test.fault test.owned_fault vs in
    let second = sym (four.same arm.fault made.owned_fault vs) in
    cond_known (reads c.eval_child.new.g vs) (reads c.or.new.g vs) l calls s line m w kids.0 kids.1 kids.2 known c.in_ok-test.test arm (record { value = arm.value; fault = c.in_ok-fault-in-Some.fault })
    c.requires.node.kind kids.3
    (c.in_ok-test.ensures.value kids.1 at1 vs s m calls line a k p)
    (λ v is. sym (c.in_ok-holds.ensures.value vs v is) ∙ c.in-Some.ensures vs)
    (λ u q. outcome_later arm (extends_keeps four) made vs (value_of l calls s line u) (armed u q))
    (c.in_ok-fault-in-Some.ensures.value vs ∙ (λ i. first i || second i))
    refl

pub eval_cond-cond_outcome-requires-clause-test : goal.eval_cond-cond_outcome-requires-clause-test
eval_cond-cond_outcome-requires-clause-test g t c =
    let w = weighted_of c.args.e.now in
    let kids = cond_kids w c.requires.node in
    let at = ap (λ (ws : List Weighted). slice_get ws 1) kids.3 in
    let typed = some_type _ (child_typed (scope_at (g.C.Functions.signatures c.args.functions.now) (env_of c.args.view.now)) w kids.1 1 c.requires.typed at) in
    let made = c.in_ok-test.ensures.made kids.1 at typed.0 typed.1 in
    let until = extends_keeps (extends_trans c.test_bit.ensures.extends (extends_trans c.eval_child-in-None.ensures.extends c.eval_child-in-None-2.ensures.extends)) in
    let later = outcome_in_later until made in
    record { owned = later.owned; owned_fault = later.owned_fault; form = refl }

pub eval_cond-cond_outcome-requires-clause-yes : goal.eval_cond-cond_outcome-requires-clause-yes
eval_cond-cond_outcome-requires-clause-yes g t c =
    let w = weighted_of c.args.e.now in
    let kids = cond_kids w c.requires.node in
    let typed = some_type _ c.requires.typed in
    let types = arms_typed (scope_at (g.C.Functions.signatures c.args.functions.now) (env_of c.args.view.now)) w kids.0 kids.1 kids.2 typed.0 c.requires.node.kind kids.3 typed.1 in
    let made = c.in_ok-yes-in-None.ensures.made kids.0 (ap (λ (ws : List Weighted). slice_get ws 0) kids.3) typed.0 types.0 in
    let later = outcome_in_later (extends_keeps c.eval_child-in-None-2.ensures.extends) made in
    record { owned = later.owned; owned_fault = later.owned_fault; form = refl }

pub eval_cond-cond_outcome-requires-clause-no : goal.eval_cond-cond_outcome-requires-clause-no
eval_cond-cond_outcome-requires-clause-no g t c =
    let w = weighted_of c.args.e.now in
    let kids = cond_kids w c.requires.node in
    let typed = some_type _ c.requires.typed in
    let types = arms_typed (scope_at (g.C.Functions.signatures c.args.functions.now) (env_of c.args.view.now)) w kids.0 kids.1 kids.2 typed.0 c.requires.node.kind kids.3 typed.1 in
    let first = c.in_ok-yes-in-None.ensures.made kids.0 (ap (λ (ws : List Weighted). slice_get ws 0) kids.3) typed.0 types.0 in
    let other = c.in_ok-no-in-None.ensures.made kids.2 (ap (λ (ws : List Weighted). slice_get ws 2) kids.3) typed.0 types.1 in
    record { owned = other.owned; owned_fault = other.owned_fault; form = other.form ∙ sym first.form }

pub eval_cond-returns-clause-made : goal.eval_cond-returns-clause-made
eval_cond-returns-clause-made g t c u e =
    let w = weighted_of c.args.e.now in
    let kids = cond_kids w c.requires.node in
    let types = arms_typed (scope_at (g.C.Functions.signatures c.args.functions.now) (env_of c.args.view.now)) w kids.0 kids.1 kids.2 u c.requires.node.kind kids.3 e in
    let first = c.in_ok-yes-in-None.ensures.made kids.0 (ap (λ (ws : List Weighted). slice_get ws 0) kids.3) u types.0 in
    let made = c.in_ok-joined-in-None.ensures.made in
    record { owned = made.owned; owned_fault = made.owned_fault; form = made.form ∙ first.form }

pub eval_cond-returns-clause-value : goal.eval_cond-returns-clause-value
eval_cond-returns-clause-value g t c vs s m calls line a k p =
    let reads = g.L.Logic.reads in
    let env = env_of c.args.view.now in
    let l = env.limits in
    let w = weighted_of c.args.e.now in
    let σ = scope_at (g.C.Functions.signatures c.args.functions.now) env in
    let kids = cond_kids w c.requires.node in
    let at0 = ap (λ (ws : List Weighted). slice_get ws 0) kids.3 in
    let at1 = ap (λ (ws : List Weighted). slice_get ws 1) kids.3 in
    let at2 = ap (λ (ws : List Weighted). slice_get ws 2) kids.3 in
    let tested = some_type _ (child_typed σ w kids.1 1 c.requires.typed at1) in
    let test = c.in_ok-test.ensures.made kids.1 at1 tested.0 tested.1 in
    let typed = some_type _ c.requires.typed in
    let types = arms_typed σ w kids.0 kids.1 kids.2 typed.0 c.requires.node.kind kids.3 typed.1 in
    let first = c.in_ok-yes-in-None.ensures.made kids.0 at0 typed.0 types.0 in
    let one = c.eval_child.ensures.extends in
    let two = c.test_bit.ensures.extends in
    let three = c.eval_child-in-None.ensures.extends in
    let four = c.eval_child-in-None-2.ensures.extends in
    let mid = extends_keeps (extends_trans one two) in
    let late = extends_keeps (extends_trans one (extends_trans two three)) in
    let left = c.in_ok-test.ensures.value kids.1 at1 vs s m calls line a k p in
    let yes_read = c.in_ok-yes-in-None.ensures.value kids.0 at0 vs s m calls line a (state_later mid c.requires.env vs s k) (picks_later mid c.requires.env vs m p) in
    let no_read = c.in_ok-no-in-None.ensures.value kids.2 at2 vs s m calls line a (state_later late c.requires.env vs s k) (picks_later late c.requires.env vs m p) in
    cond_plain (reads c.cond_outcome.new.g vs) l calls s line m w kids.0 kids.1 kids.2 c.in_ok-joined-in-None.joined c.requires.node.kind kids.3 (λ u v z q r o.
    let x = value_of l calls s line u in
    let y = value_of l calls s line v in
    let n = value_of l calls s line z in
    c.in_ok-joined-in-None.ensures.value vs y x n
    (outcome_later c.in_ok-test.test (extends_keeps (extends_trans two (extends_trans three four))) test vs y (left v r))
    (outcome_later c.in_ok-yes-in-None.yes (extends_keeps four) first vs x (yes_read u q))
    (no_read z o))

-- picks
pub eval_pick-known_member-requires-clause-member : goal.eval_pick-known_member-requires-clause-member
eval_pick-known_member-requires-clause-member g t c =
    subst (OwnsAll g.L.Logic.owns c.args.g.now) (sym c.as_slice.ensures) (owns_one (λ w. w) (env_of c.args.view.now).picks c.args.number c.at-member.result.now c.requires.env.picks c.at-member.ensures)

pub eval_pick-returns-in_ok-outcome-in-Some-clause-made : goal.eval_pick-returns-in_ok-outcome-in-Some-clause-made
eval_pick-returns-in_ok-outcome-in-Some-clause-made g t c u e =
    let w = weighted_of c.args.e.now in
    let i = c.in-Some.i in
    let within = subst (λ (o : Option ℕ). IfSome o (λ j. j < c.members.result)) c.in-Some.is c.in_ok-i.ensures.within in
    let kid = kid_at (children w) i (subst (λ (n : ℕ). i < n) c.members.ensures within) in
    c.in_ok-outcome-in-Some.ensures.made kid.0 kid.1 u (member_typed (scope_at (g.C.Functions.signatures c.args.functions.now) (env_of c.args.view.now)) c.args.number w kid.0 i u c.requires.pick kid.1 e)

pub eval_pick-returns-in_ok-outcome-in-Some-clause-value : goal.eval_pick-returns-in_ok-outcome-in-Some-clause-value
eval_pick-returns-in_ok-outcome-in-Some-clause-value g t c vs s m calls line a k p =
    let reads = g.L.Logic.reads in
    let env = env_of c.args.view.now in
    let w = weighted_of c.args.e.now in
    let i = c.in-Some.i in
    let member = c.at-member.result.now in
    let within = subst (λ (o : Option ℕ). IfSome o (λ j. j < c.members.result)) c.in-Some.is c.in_ok-i.ensures.within in
    let kid = kid_at (children w) i (subst (λ (n : ℕ). i < n) c.members.ensures within) in
    let place = subst (λ (o : Option ℕ). IfSome o (λ j. (us : List Bool) → place_chosen (nat_read reads c.args.g.now us c.as_slice.result.now) c.members.result ≡ j)) c.in-Some.is c.in_ok-i.ensures.value in
    let slice = sym c.as_slice.ensures in
    let many = sym c.members.ensures in
    let here : place_chosen (nat_read reads c.args.g.now vs member) (length (children w)) ≡ i =
    (λ j. place_chosen (nat_read reads c.args.g.now vs (slice j)) (many j)) ∙ place vs in
    let one = extends_keeps c.known_member.ensures.extends in
    let read = c.in_ok-outcome-in-Some.ensures.value kid.0 kid.1 vs s m calls line a (state_later one c.requires.env vs s k) (picks_later one c.requires.env vs m p) in
    pick_known (reads c.eval_child.new.g vs) (value_of env.limits calls s line) m c.args.number (nat_read reads c.args.g.now vs member) w kid.0 c.in_ok-outcome-in-Some.outcome c.requires.pick
    (p.member c.args.number member c.at-member.ensures) (ap (slice_get (children w)) here ∙ kid.1) read

pub eval_pick-returns-in_ok-outcome-in-None-clause-value : goal.eval_pick-returns-in_ok-outcome-in-None-clause-value
eval_pick-returns-in_ok-outcome-in-None-clause-value g t c vs s m calls line a k p =
    let one = extends_keeps c.known_member.ensures.extends in
    c.in_ok-outcome-in-None.ensures.value vs s m calls line a (state_later one c.requires.env vs s k) (picks_later one c.requires.env vs m p)
