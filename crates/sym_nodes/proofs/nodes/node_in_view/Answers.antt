use Rattle.std.proofs.Common.{List, Option, IsSome, length, ap, sym, ◌∙◌, subst}
use Rattle.mpy_tree.specs.declared.typing.Ty.{Ty}
use Rattle.mpy_tree.specs.Expressions.{value_of}
use Rattle.choice_tree.specs.Heads.{HasParts, head_kind}
use Rattle.choice_tree.specs.Typing.{node_type}
use Rattle.choice_tree.specs.WeightedTrees.{children}
use Rattle.choice_tree.specs.WeightedViews.{weighted_of}
use Rattle.sym_values.specs.declared.value.SymOutcome.{SymOutcome}
use Rattle.sym_values.specs.Owned.{owns_one}
use Rattle.sym_nodes.specs.Environments.{scope_of}
use Rattle.sym_nodes.specs.Members.{common_type}
use Rattle.sym_nodes.specs.Operands.{ArePartsIn, PartsRead, types_of}
use Rattle.sym_nodes.specs.Plain.{AllReadAsPlain}
use Rattle.sym_nodes.specs.Views.{env_of}
use Rattle.sym_nodes.proofs.Members.{node_plain, pick_plain}
use Rattle.sym_nodes.proofs.TreeTypes.{node_root, pick_root, pick_there}
use Rattle.sym_nodes.proofs.nodes.node_in_view.Goals as goal

pub head_outcome-requires : goal.head_outcome-requires
head_outcome-requires g c =
    let σ = scope_of (env_of c.args.view.now) in
    let w = weighted_of c.args.e.now in
    let node = c.in-Node.ensures in
    let slice = c.as_slice.ensures.value in
    let parts = c.args.parts.now.items in
    record {
      env = c.requires.env;
      parts = subst (ArePartsIn g.L.Logic.owns c.args.g.now (env_of c.args.view.now).limits) (sym slice) c.requires.parts;
      many = subst (HasParts (head_kind c.in-Node.head)) (sym (ap length slice ∙ c.requires.many)) node.parts;
      typed = subst (λ (os : List (SymOutcome _)). IsSome (node_type σ (head_kind c.in-Node.head) (types_of os))) (sym slice)
          (subst (λ (o : Option Ty). IsSome o) (node_root σ (head_kind c.in-Node.head) w (types_of parts) node.kind) c.requires.typed);
    }

pub returns-in_ok-outcome-in-Node-clause-made : goal.returns-in_ok-outcome-in-Node-clause-made
returns-in_ok-outcome-in-Node-clause-made g c t e =
    let σ = scope_of (env_of c.args.view.now) in
    let k = head_kind c.in-Node.head in
    let slice = c.as_slice.ensures.value in
    c.in_ok-outcome-in-Node.ensures.made t (ap (λ (os : List (SymOutcome _)). node_type σ k (types_of os)) slice ∙ sym (node_root σ k (weighted_of c.args.e.now) (types_of c.args.parts.now.items) c.in-Node.ensures.kind) ∙ e)

pub returns-in_ok-outcome-in-Node-clause-value : goal.returns-in_ok-outcome-in-Node-clause-value
returns-in_ok-outcome-in-Node-clause-value g c vs s m calls line k p all =
    let reads = g.L.Logic.reads in
    let outcome = c.in_ok-outcome-in-Node in
    let slice = c.as_slice.ensures.value in
    node_plain (reads c.args.g.now vs) (reads c.head_outcome.new.g vs) (env_of c.args.view.now).limits calls s line m (head_kind c.in-Node.head) (weighted_of c.args.e.now) c.args.parts.now.items outcome.outcome
    c.in-Node.ensures.kind
    (λ rs h. outcome.ensures.value vs s calls line rs k (subst (λ (os : List (SymOutcome _)). PartsRead (reads c.args.g.now vs) os rs) (sym slice) h)) all

pub at-member-requires : goal.at-member-requires
at-member-requires g c = pick_there (env_of c.args.view.now).picks c.in-Pick.number (weighted_of c.args.e.now) c.requires.pick c.in-Pick.ensures

pub chosen_outcome-requires : goal.chosen_outcome-requires
chosen_outcome-requires g c =
    let σ = scope_of (env_of c.args.view.now) in
    let slice = c.as_slice-in-Pick.ensures.value in
    let parts = c.args.parts.now.items in
    record {
      member = owns_one (λ w. w) (env_of c.args.view.now).picks c.in-Pick.number c.at-member.result.now c.requires.env.picks c.at-member.ensures;
      parts = subst (ArePartsIn g.L.Logic.owns c.args.g.now (env_of c.args.view.now).limits) (sym slice) c.requires.parts;
      typed = subst (λ (os : List (SymOutcome _)). IsSome (common_type (types_of os))) (sym slice)
          (subst (λ (o : Option Ty). IsSome o) (pick_root σ c.in-Pick.number (weighted_of c.args.e.now) (types_of parts) c.in-Pick.ensures) c.requires.typed);
    }

pub returns-in_ok-outcome-in-Pick-clause-made : goal.returns-in_ok-outcome-in-Pick-clause-made
returns-in_ok-outcome-in-Pick-clause-made g c t e =
    let σ = scope_of (env_of c.args.view.now) in
    let slice = c.as_slice-in-Pick.ensures.value in
    c.in_ok-outcome-in-Pick.ensures.made t (ap (λ (os : List (SymOutcome _)). common_type (types_of os)) slice ∙ sym (pick_root σ c.in-Pick.number (weighted_of c.args.e.now) (types_of c.args.parts.now.items) c.in-Pick.ensures) ∙ e)

pub returns-in_ok-outcome-in-Pick-clause-value : goal.returns-in_ok-outcome-in-Pick-clause-value
returns-in_ok-outcome-in-Pick-clause-value g c vs s m calls line k p all =
    let reads = g.L.Logic.reads in
    let outcome = c.in_ok-outcome-in-Pick in
    let slice = c.as_slice-in-Pick.ensures.value in
    let value = value_of (env_of c.args.view.now).limits calls s line in
    pick_plain (reads c.args.g.now vs) (reads c.chosen_outcome.new.g vs) value m c.in-Pick.number _ (weighted_of c.args.e.now) c.as_slice-in-Pick.result.now outcome.outcome c.in-Pick.ensures
    (p.member c.in-Pick.number c.at-member.result.now c.at-member.ensures)
    (λ o x. outcome.ensures.value vs o x)
    (subst (λ (os : List (SymOutcome _)). AllReadAsPlain (reads c.args.g.now vs) value m os (children (weighted_of c.args.e.now))) (sym slice) all)
