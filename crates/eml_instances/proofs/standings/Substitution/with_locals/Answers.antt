use Rattle.std.proofs.Common.{◌≡◌, ◌+◌, ◌≤◌, ◌++◌, map, length, refl, ap, sym, ◌∙◌, subst, arith}
use Rattle.std.proofs.lemmas.List.{append-nil}
use Rattle.eml_match.specs.MatchViews.{bindings_of}
use Rattle.eml_match.specs.MatchViews.{bound_seen}
use Rattle.eml_match.specs.Resolutions.{bound_locals, locals_for}
use Rattle.eml_instances.specs.Scopes.{scope_of}
use Rattle.eml_instances.specs.Substitutions.{kept, locals_kept, standings_bindings}
use Rattle.eml_instances.specs.declared.standings.Standing.{Standing}
use Rattle.mpy_scopes.specs.Seen.{name_of}
use Rattle.choice_tree.specs.Drafts.{term_in}
use Rattle.eml_instances.proofs.AlternativeLists.{none_left}
use Rattle.eml_instances.proofs.FittingLocals.{Fit, locals_fit, one_bound, one_fits}
use Rattle.eml_instances.proofs.standings.Substitution.with_locals.Goals as goal

pub loop-b-init : goal.loop-b-init
loop-b-init g c =
    let σ =
    scope_of (g.K.Known.gives c.args.scope.now.known.now) c.args.scope.now.scopes.now.funcs.now
    c.args.scope.now.number in
    let none = sym c.new-items.ensures.items in
    record {
      bindings = ap (λ xs. standings_bindings xs ++ bindings_of c.args.bindings.now) none;
      fit = subst (Fit c.args.all σ) none tt;
    }

pub loop-b-preserved : goal.loop-b-preserved
loop-b-preserved g c =
    let σ =
    scope_of (g.K.Known.gives c.args.scope.now.known.now) c.args.scope.now.scopes.now.funcs.now
    c.args.scope.now.number in
    let put = c.in_ok-push.ensures.items in
    let s : Standing = record { binding = c.b-item.result; locals = c.kept.result } in
    let own : map name_of c.kept.result.items
    ≡ kept c.args.all (bound_locals σ (term_in (bound_seen c.b-item.result.bound))) =
    c.kept.ensures ∙ ap (kept c.args.all) c.in_ok-locals.ensures in
    record {
      bindings = one_bound c.args.bindings.now c.loop-b.items.items c.push.new.self.items s
          c.loop-b.b-index (c.loop-b.b-index + 1) c.b-item.result (omega arith)
          (omega (arith, c.loop-b-test.true)) c.b-item.is refl put c.loop-b.invariant.bindings;
      fit = subst (Fit c.args.all σ) (sym put)
          (one_fits c.args.all σ c.loop-b.items.items s c.loop-b.invariant.fit own);
    }

pub returns-clause-locals : goal.returns-clause-locals
returns-clause-locals g c =
    let σ =
    scope_of (g.K.Known.gives c.args.scope.now.known.now) c.args.scope.now.scopes.now.funcs.now
    c.args.scope.now.number in
    let xs = c.loop-b.items.items in
    let ended : length c.args.bindings.now ≤ c.loop-b.b-index = omega arith in
    let all : bindings_of c.args.bindings.now ≡ standings_bindings xs =
    c.loop-b.invariant.bindings
    ∙ ap (λ bs. standings_bindings xs ++ bindings_of bs)
    (none_left c.args.bindings.now c.loop-b.b-index ended)
    ∙ append-nil (standings_bindings xs) in
    locals_fit c.args.all σ xs c.loop-b.invariant.fit
    ∙ ap (λ bs. locals_kept c.args.all (locals_for σ bs)) (sym all)
