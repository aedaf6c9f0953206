use Rattle.std.proofs.Common.{◌≡◌, All, Bool, List, Some, IsSome, ap, is_some, map, sym, subst, ◌∙◌}
use Rattle.std.specs.Prelude.{◌||◌}
use Rattle.bit_words.specs.Logic.{OwnsAll, extends_keeps, extends_trans}
use Rattle.bit_words.specs.Later.{owned_later, read_later}
use Rattle.sym_values.specs.declared.value.SymOutcome.{SymOutcome}
use Rattle.sym_values.specs.declared.value.SymValue.{SymValue}
use Rattle.sym_values.specs.Forms.{form_for}
use Rattle.sym_values.specs.Later.{value_later}
use Rattle.sym_values.specs.Reading.{IsOutcome, Reading, read, spelled}
use Rattle.sym_nodes.specs.Later.{parts_later, picks_later}
use Rattle.sym_nodes.specs.Operands.{IsTypedIn, any_true, faults_of, types_of}
use Rattle.sym_nodes.proofs.Choosing.{faults_owned}
use Rattle.sym_nodes.proofs.Outcomes.{faulty_is, joined_is}
use Rattle.sym_nodes.proofs.TypeRules.{some_type}
use Rattle.sym_nodes.proofs.Typed.{values_typed}
use Rattle.sym_expr.specs.Signatures.{given_type, value_types}
use Rattle.sym_expr.proofs.Calling.{parts_read_later}
use Rattle.sym_expr.proofs.Faults.{given_result}
use Rattle.sym_expr.proofs.calls.call_outcome.Goals as goal

pub any_fault-requires : goal.any_fault-requires
any_fault-requires g c =
    subst (λ (os : List (SymOutcome _)). OwnsAll g.L.Logic.owns c.args.g.now (faults_of os)) (sym c.as_slice.ensures.value)
    (faults_owned c.args.parts.items c.requires.parts)

pub result_type-requires : goal.result_type-requires
result_type-requires g c =
    let called = g.C.Functions.signatures c.args.functions.now in
    let typed = some_type _ c.requires.typed in
    ap is_some (given_result called c.args.f.now (types_of c.args.parts.items) typed.0 typed.1)

-- where an argument is known to be a fault
pub returns-in-Some-true-clause-made : goal.returns-in-Some-true-clause-made
returns-in-Some-true-clause-made g c t e =
    let called = g.C.Functions.signatures c.args.functions.now in
    let given = given_result called c.args.f.now (types_of c.args.parts.items) t e in
    let same : Some c.result_type.result ≡ Some t = sym c.result_type.ensures ∙ given in
    let is : c.result_type.result ≡ t = cc in
    let made = c.in_ok-value.ensures.made in
    record { owned = made.owned; owned_fault = c.in_ok-early.ensures.owned; form = made.form ∙ ap (form_for c.args.view.now.limits.now) is }

pub returns-in-Some-true-clause-value : goal.returns-in-Some-true-clause-value
returns-in-Some-true-clause-value g c vs m calls line rs a p h =
    let start = g.L.Logic.reads c.args.g.now vs in
    let first = g.L.Logic.reads c.any_fault.new.g vs in
    let early = c.in_ok-early.ensures.value vs ∙ ap (λ (os : List (SymOutcome _)). any_true (map start (faults_of os))) c.as_slice.ensures.value in
    let fault = c.in-Some-true.ensures vs ∙ c.in-Some-true.field-0-test in
    faulty_is start c.args.parts.items rs (first c.in_ok-early.early) _ (λ ws. calls c.args.f.now ws line) h (sym early ∙ fault) fault

-- the call
pub call-requires : goal.call-requires
call-requires g c =
    let called = g.C.Functions.signatures c.args.functions.now in
    let l = c.args.view.now.limits.now in
    let later = extends_keeps c.any_fault.ensures.extends in
    let args = sym c.in_ok-args.ensures in
    record {
      picks = owned_later later c.requires.env.picks;
      many = c.requires.many;
      args = record { each = subst (All (IsTypedIn g.L.Logic.owns c.any_fault.new.g l)) args (values_typed l c.args.parts.items (parts_later later c.requires.parts)) };
      typed = subst (λ (xs : List (SymValue _)). IsSome (given_type called c.args.f.now (value_types xs))) args c.requires.typed;
    }

pub or-requires-clause-left : goal.or-requires-clause-left
or-requires-clause-left g c = c.call.ensures.extends.kept _ c.in_ok-early.ensures.owned

pub or-requires-clause-right : goal.or-requires-clause-right
or-requires-clause-right g c =
    let called = g.C.Functions.signatures c.args.functions.now in
    let typed = some_type _ c.requires.typed in
    let args = c.in_ok-args.ensures in
    (c.in_ok-given.ensures.made typed.0 (ap (λ (xs : List (SymValue _)). given_type called c.args.f.now (value_types xs)) args ∙ typed.1)).owned_fault

pub returns-clause-extends : goal.returns-clause-extends
returns-clause-extends g c = extends_trans c.any_fault.ensures.extends (extends_trans c.call.ensures.extends c.or.ensures.extends)

pub returns-clause-made : goal.returns-clause-made
returns-clause-made g c t e =
    let called = g.C.Functions.signatures c.args.functions.now in
    let args = c.in_ok-args.ensures in
    let made = c.in_ok-given.ensures.made t (ap (λ (xs : List (SymValue _)). given_type called c.args.f.now (value_types xs)) args ∙ e) in
    record { owned = owned_later (extends_keeps c.or.ensures.extends) made.owned; owned_fault = c.in_ok-fault.ensures.owned; form = made.form }

pub returns-clause-value : goal.returns-clause-value
returns-clause-value g c vs m calls line rs a p h =
    let reads = g.L.Logic.reads in
    let start = reads c.args.g.now vs in
    let first = reads c.any_fault.new.g vs in
    let mid = reads c.call.new.g vs in
    let last = reads c.or.new.g vs in
    let l = c.args.view.now.limits.now in
    let called = g.C.Functions.signatures c.args.functions.now in
    let parts = c.args.parts.items in
    let args = c.in_ok-args.ensures in
    let given = c.in_ok-given in
    let typed = some_type _ c.requires.typed in
    let made = given.ensures.made typed.0 (ap (λ (xs : List (SymValue _)). given_type called c.args.f.now (value_types xs)) args ∙ typed.1) in
    let one = extends_keeps c.any_fault.ensures.extends in
    let early = c.in_ok-early.ensures.value vs ∙ ap (λ (os : List (SymOutcome _)). any_true (map start (faults_of os))) c.as_slice.ensures.value in
    let then = sym (ap any_true (read_later one (faults_owned parts c.requires.parts) vs)) in
    let kept = c.call.ensures.extends.same c.in_ok-early.early c.in_ok-early.ensures.owned vs in
    let fault = c.in_ok-fault.ensures.value vs ∙ ap (λ (b : Bool). b || mid given.given.fault) (kept ∙ early ∙ then) in
    let same = ap spelled (value_later (extends_keeps c.or.ensures.extends) given.given.value made.owned vs) in
    joined_is first parts rs (mid given.given.fault) (last c.in_ok-fault.fault) (read last given.given.value) (λ ws. calls c.args.f.now ws line)
    (parts_read_later l one vs parts rs c.requires.parts h)
    (λ ws e. subst (λ (r : Reading). IsOutcome (mid given.given.fault) r (calls c.args.f.now ws line)) (sym same)
    (given.ensures.value vs m calls ws line a (picks_later one c.requires.env vs m p) (ap (map (read first)) args ∙ e))) fault
