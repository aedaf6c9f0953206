use Rattle.std.proofs.Common.{◌≡◌, ap, sym, ◌∙◌, subst, refl, length, is_some}
use Rattle.std.proofs.lemmas.Option.{slice_get_read}
use Rattle.mpy_tree.specs.declared.limits.Limits.{Limits}
use Rattle.mpy_tree.specs.Rules.{single}
use Rattle.mpy_tree.specs.Typings.{set_of}
use Rattle.choice_tree.specs.StatementViews.{weighted_body}
use Rattle.sym_values.specs.Forms.{form_for}
use Rattle.sym_values.specs.Reading.{read, sure}
use Rattle.sym_values.specs.Results.{IsOutcomeIn}
use Rattle.sym_expr.specs.Signatures.{Signatures, given_type, value_types}
use Rattle.sym_blocks.specs.Bodies.{body_scope}
use Rattle.typed_trees.specs.TypedStatements.{IsTyped}
use Rattle.sym_stmt.specs.Programs.{functions_of, signatures_of}
use Rattle.sym_calls.proofs.Owning.{arguments_owned}
use Rattle.sym_stmt.proofs.Arguments.{arguments_are, arguments_begin, read_each, same_many}
use Rattle.sym_stmt.proofs.Calls.{call_reads, given_at, given_nowhere, some_type}
use Rattle.sym_stmt.proofs.Headers.{found_at, picks_of}
use Rattle.sym_stmt.proofs.Scopes.{body_typed}
use Rattle.sym_stmt.proofs.levels.LevelFunctions.call.Goals as goal

pub unreachable-requires : goal.unreachable-requires
unreachable-requires g c =
    let program = c.args.self.now.program in
    given_nowhere program.tree.now program.types.now.facts c.args.f.now (value_types c.args.args)
    (sym c.number.ensures.first ∙ c.in-None.is) c.requires.typed

pub slots_of-requires-clause-place : goal.slots_of-requires-clause-place
slots_of-requires-clause-place g c =
    let fs = functions_of c.args.self.now.program.tree.now in
    slice_get_read fs (length fs) c.in-Some.i c.index-func.result.now refl c.in-Some.ensures.within
    c.index-func.ensures

pub entered-requires-clause-typed : goal.entered-requires-clause-typed
entered-requires-clause-typed g c =
    let program = c.args.self.now.program in
    let w = program.tree.now in
    let T = program.types.now.facts in
    let fs = functions_of w in
    let i = c.in-Some.i in
    let func = c.index-func.result.now in
    let slots = c.in_ok-slots-in-Some.slots in
    let place = slice_get_read fs (length fs) i func refl c.in-Some.ensures.within c.index-func.ensures in
    let typed = c.requires.many.typed.typed i func place in
    subst (λ (s : Signatures). IsTyped (body_scope s slots) (weighted_body func.body))
    (sym c.requires.many.same)
    (body_typed w T i func.params c.args.view.now.limits.now 0 slots c.in_ok-slots-in-Some.ensures func typed.body)

pub entered-requires-clause-result : goal.entered-requires-clause-result
entered-requires-clause-result g c =
    let program = c.args.self.now.program in
    let w = program.tree.now in
    let T = program.types.now.facts in
    let fs = functions_of w in
    let i = c.in-Some.i in
    let func = c.index-func.result.now in
    let args = c.args.args in
    let place = slice_get_read fs (length fs) i func refl c.in-Some.ensures.within c.index-func.ensures in
    let t = some_type (given_type (signatures_of w T) c.args.f.now (value_types args)) c.requires.typed in
    let given = given_at w T c.args.f.now (value_types args) i func t.0 (sym c.number.ensures.first ∙ c.in-Some.is) place t.1 in
    ap is_some (sym c.in_ok-slots-in-Some.ensures.result ∙ given.1)

pub entered-requires-clause-dropped : goal.entered-requires-clause-dropped
entered-requires-clause-dropped g c = c.in_ok-slots-in-Some.ensures.prints

pub entered-requires-clause-picks : goal.entered-requires-clause-picks
entered-requires-clause-picks g c =
    let w = c.args.self.now.program.tree.now in
    let fs = functions_of w in
    let func = c.index-func.result.now in
    let place = slice_get_read fs (length fs) c.in-Some.i func refl c.in-Some.ensures.within c.index-func.ensures in
    picks_of c.args.view.now.picks.now w c.in-Some.i func c.requires.many.many place

pub entered-requires-clause-count : goal.entered-requires-clause-count
entered-requires-clause-count g c =
    let program = c.args.self.now.program in
    let w = program.tree.now in
    let T = program.types.now.facts in
    let fs = functions_of w in
    let i = c.in-Some.i in
    let func = c.index-func.result.now in
    let args = c.args.args in
    let place = slice_get_read fs (length fs) i func refl c.in-Some.ensures.within c.index-func.ensures in
    let t = some_type (given_type (signatures_of w T) c.args.f.now (value_types args)) c.requires.typed in
    let given = given_at w T c.args.f.now (value_types args) i func t.0 (sym c.number.ensures.first ∙ c.in-Some.is) place t.1 in
    same_many _ _ func.params args (arguments_are (single (set_of T)) i func.params args given.0)

pub entered-requires-clause-args : goal.entered-requires-clause-args
entered-requires-clause-args g c =
    arguments_owned c.args.view.now.limits.now c.args.args c.requires.args.each

pub entered-requires-clause-forms : goal.entered-requires-clause-forms
entered-requires-clause-forms g c =
    let program = c.args.self.now.program in
    let w = program.tree.now in
    let T = program.types.now.facts in
    let fs = functions_of w in
    let i = c.in-Some.i in
    let func = c.index-func.result.now in
    let args = c.args.args in
    let place = slice_get_read fs (length fs) i func refl c.in-Some.ensures.within c.index-func.ensures in
    let t = some_type (given_type (signatures_of w T) c.args.f.now (value_types args)) c.requires.typed in
    let given = given_at w T c.args.f.now (value_types args) i func t.0 (sym c.number.ensures.first ∙ c.in-Some.is) place t.1 in
    arguments_begin c.args.view.now.limits.now (single (set_of T)) i func.params 0 c.in_ok-slots-in-Some.slots args
    c.in_ok-slots-in-Some.ensures c.requires.args.each (arguments_are (single (set_of T)) i func.params args given.0)

pub returns-clause-made : goal.returns-clause-made
returns-clause-made g c t e =
    let program = c.args.self.now.program in
    let w = program.tree.now in
    let T = program.types.now.facts in
    let fs = functions_of w in
    let i = c.in-Some.i in
    let func = c.index-func.result.now in
    let slots = c.in_ok-slots-in-Some.slots in
    let h = c.in_ok-slots-in-Some.ensures in
    let place = slice_get_read fs (length fs) i func refl c.in-Some.ensures.within c.index-func.ensures in
    let given = given_at w T c.args.f.now (value_types c.args.args) i func t (sym c.number.ensures.first ∙ c.in-Some.is) place e in
    subst (λ (l : Limits). IsOutcomeIn g.L.Logic.owns c.entered.new.g (form_for l t) c.in_ok-outcome-in-Some.outcome) h.limits
    (c.in_ok-outcome-in-Some.ensures.made t (sym h.result ∙ given.1))

pub returns-clause-value : goal.returns-clause-value
returns-clause-value g c vs m calls values line deeper picks reads =
    let program = c.args.self.now.program in
    let w = program.tree.now in
    let T = program.types.now.facts in
    let fs = functions_of w in
    let i = c.in-Some.i in
    let func = c.index-func.result.now in
    let args = c.args.args in
    let f = c.args.f.now in
    let slots = c.in_ok-slots-in-Some.slots in
    let h = c.in_ok-slots-in-Some.ensures in
    let old = g.L.Logic.reads c.args.g.now vs in
    let number = sym c.number.ensures.first ∙ c.in-Some.is in
    let place = slice_get_read fs (length fs) i func refl c.in-Some.ensures.within c.index-func.ensures in
    let t = some_type (given_type (signatures_of w T) f (value_types args)) c.requires.typed in
    let given = given_at w T f (value_types args) i func t.0 number place t.1 in
    let count = same_many _ _ func.params args (arguments_are (single (set_of T)) i func.params args given.0) in
    let there = found_at f m deeper.program w i func deeper.chosen number place in
    let r = there.0 in
    let shape = there.2 in
    let params : func.params ≡ r.params = cc in
    let many = sym (same_many (read old) sure args values reads) ∙ sym count ∙ ap length params in
    let below = subst (λ (l : Limits). g.C.Functions.are_calls c.args.self.now.below l m deeper.below) (sym h.limits) deeper.are_below in
    call_reads (g.L.Logic.reads c.entered.new.g vs) c.in_ok-outcome-in-Some.outcome slots.limits c.args.view.now.limits.now
    calls deeper.below deeper.program f r values line (deeper.entered f values line) there.1 many h.limits
    (c.in_ok-outcome-in-Some.ensures.value vs m deeper.below r values (record { members = picks; called = below }) shape (read_each old args values reads))
