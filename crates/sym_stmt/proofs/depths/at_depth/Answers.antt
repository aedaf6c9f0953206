use Rattle.std.proofs.Common.{◌≡◌, ◌∙◌, ◌-◌, ℕ, IsSome, Some, ap, arith, inr, length, map, min, not, refl, subst, sym}
use Rattle.std.proofs.Math.Nat.{min-eq_right}
use Rattle.std.proofs.lemmas.Option.{slice_get_read}
use Rattle.std.specs.Prelude.{◌==◌, option_map}
use Rattle.mpy_tree.specs.declared.limits.Limits.{Limits}
use Rattle.mpy_tree.specs.Rules.{single}
use Rattle.mpy_tree.specs.Running.{calls_below}
use Rattle.mpy_tree.specs.Typings.{set_of}
use Rattle.sym_values.specs.Forms.{form_for}
use Rattle.sym_values.specs.Printed.{IsDoneIn}
use Rattle.sym_values.specs.Reading.{read, sure}
use Rattle.sym_nodes.specs.Operands.{ty_of}
use Rattle.sym_calls.proofs.Owning.{arguments_owned}
use Rattle.sym_stmt.specs.Programs.{end_form, functions_of}
use Rattle.sym_stmt.proofs.Arguments.{arguments_begin, read_each, same_many, slots_many}
use Rattle.sym_stmt.proofs.CallLevels.{calls_at, first_level, next_level}
use Rattle.sym_stmt.proofs.Calls.{arguments_taken, result_at, run_reads, takes_nowhere}
use Rattle.sym_stmt.proofs.Headers.{found_at, picks_of}
use Rattle.sym_stmt.proofs.Scopes.{body_typed}
use Rattle.sym_stmt.proofs.depths.at_depth.Goals as goal

pub unreachable-requires : goal.unreachable-requires
unreachable-requires g c =
    let program = c.args.program.now in
    takes_nowhere program.tree.now program.types.now.facts c.args.entry.now
    (map (λ t. Some t) (map (λ x. ty_of x) c.args.args)) (sym c.number.ensures.first ∙ c.in-None.is)
    c.requires.typed.takes_them

pub slots_of-requires-clause-place : goal.slots_of-requires-clause-place
slots_of-requires-clause-place g c =
    let fs = functions_of c.args.program.now.tree.now in
    slice_get_read fs (length fs) c.in-Some.i c.index-func.result.now refl c.in-Some.ensures.within
    c.index-func.ensures

pub begun-requires-clause-run : goal.begun-requires-clause-run
begun-requires-clause-run g c =
    let program = c.args.program.now in
    let T = program.types.now.facts in
    let l = c.args.view.now.limits.now in
    let most = l.depth - 1 in
    let h = c.in_ok-slots-in-Some.ensures in
    let slots = c.in_ok-slots-in-Some.slots in
    let fixes = c.requires.fixed in
    let typed = c.requires.typed.functions in
    let many = c.requires.many in
    let one = first_level fixes typed many most in
    let two = next_level fixes typed many most 1 _ one in
    let three = next_level fixes typed many most 2 _ two in
    let four = next_level fixes typed many most 3 _ three in
    let five = next_level fixes typed many most 4 _ four in
    let six = next_level fixes typed many most 5 _ five in
    record {
      differ = h.differ;
      types = slots_many (single (set_of T)) c.in-Some.i c.index-func.result.now.params l l.prints slots h;
      keeps = inr (h.prints ∙ sym (ap (λ (k : Limits). k.prints) h.limits));
      owned = c.requires.picks;
      many = next_level fixes typed many most 6 _ six;
    }

pub begun-requires-clause-keeps : goal.begun-requires-clause-keeps
begun-requires-clause-keeps g c =
    let h = c.in_ok-slots-in-Some.ensures in
    h.prints ∙ sym (ap (λ (k : Limits). k.prints) h.limits)

pub begun-requires-clause-gives : goal.begun-requires-clause-gives
begun-requires-clause-gives g c none =
    let program = c.args.program.now in
    let h = c.in_ok-slots-in-Some.ensures in
    let w = program.tree.now in
    let T = program.types.now.facts in
    let keeps : c.args.view.now.limits.now.prints ≡ 0 = sym h.prints ∙ none in
    let there = c.requires.typed.gives (ap (λ (n : ℕ). not (n == 0)) keeps) in
    let type = result_at w T c.args.entry.now c.in-Some.i (sym c.number.ensures.first ∙ c.in-Some.is) in
    subst IsSome (type ∙ h.result) there

pub begun-requires-clause-typed : goal.begun-requires-clause-typed
begun-requires-clause-typed g c =
    let fs = functions_of c.args.program.now.tree.now in
    let place = slice_get_read fs (length fs) c.in-Some.i c.index-func.result.now refl
    c.in-Some.ensures.within c.index-func.ensures in
    let program = c.args.program.now in
    let w = program.tree.now in
    let T = program.types.now.facts in
    let i = c.in-Some.i in
    let l = c.args.view.now.limits.now in
    let func = c.index-func.result.now in
    let slots = c.in_ok-slots-in-Some.slots in
    let typed = c.requires.typed.functions.typed i func place in
    body_typed w T i func.params l l.prints slots c.in_ok-slots-in-Some.ensures func typed.body

pub begun-requires-clause-picks : goal.begun-requires-clause-picks
begun-requires-clause-picks g c =
    let fs = functions_of c.args.program.now.tree.now in
    let place = slice_get_read fs (length fs) c.in-Some.i c.index-func.result.now refl
    c.in-Some.ensures.within c.index-func.ensures in
    picks_of c.args.view.now.picks.now c.args.program.now.tree.now c.in-Some.i
    c.index-func.result.now c.requires.many place

pub begun-requires-clause-count : goal.begun-requires-clause-count
begun-requires-clause-count g c =
    let program = c.args.program.now in
    let w = program.tree.now in
    let T = program.types.now.facts in
    let fs = functions_of c.args.program.now.tree.now in
    let place = slice_get_read fs (length fs) c.in-Some.i c.index-func.result.now refl
    c.in-Some.ensures.within c.index-func.ensures in
    let taken = arguments_taken w T c.args.entry.now c.args.args c.in-Some.i c.index-func.result.now
    (sym c.number.ensures.first ∙ c.in-Some.is) place c.requires.typed.takes_them in
    same_many _ _ c.index-func.result.now.params c.args.args taken

pub begun-requires-clause-args : goal.begun-requires-clause-args
begun-requires-clause-args g c =
    arguments_owned c.args.view.now.limits.now c.args.args c.requires.args.each

pub begun-requires-clause-forms : goal.begun-requires-clause-forms
begun-requires-clause-forms g c =
    let program = c.args.program.now in
    let w = program.tree.now in
    let T = program.types.now.facts in
    let fs = functions_of c.args.program.now.tree.now in
    let place = slice_get_read fs (length fs) c.in-Some.i c.index-func.result.now refl
    c.in-Some.ensures.within c.index-func.ensures in
    let taken = arguments_taken w T c.args.entry.now c.args.args c.in-Some.i c.index-func.result.now
    (sym c.number.ensures.first ∙ c.in-Some.is) place c.requires.typed.takes_them in
    let l = c.args.view.now.limits.now in
    arguments_begin l (single (set_of T)) c.in-Some.i c.index-func.result.now.params l.prints
    c.in_ok-slots-in-Some.slots c.args.args c.in_ok-slots-in-Some.ensures c.requires.args.each
    taken

pub returns-clause-made : goal.returns-clause-made
returns-clause-made g c =
    let program = c.args.program.now in
    let w = program.tree.now in
    let T = program.types.now.facts in
    let slots = c.in_ok-slots-in-Some.slots in
    let h = c.in_ok-slots-in-Some.ensures in
    let done = c.in_ok-done-in-Some.done in
    let type = result_at w T c.args.entry.now c.in-Some.i (sym c.number.ensures.first ∙ c.in-Some.is) in
    subst (λ (k : Limits). IsDoneIn (λ s b. g.L.Logic.owns s.logic.now b) c.begun.new.g k
    (end_form k w T c.args.entry.now) done) h.limits
    (subst (λ o. IsDoneIn (λ s b. g.L.Logic.owns s.logic.now b) c.begun.new.g slots.limits (option_map (form_for slots.limits) o) done)
    (sym h.result ∙ sym type) c.in_ok-done-in-Some.ensures.made)

pub returns-clause-value : goal.returns-clause-value
returns-clause-value g c vs m values p picks reads chosen =
    let program = c.args.program.now in
    let w = program.tree.now in
    let T = program.types.now.facts in
    let fs = functions_of c.args.program.now.tree.now in
    let place = slice_get_read fs (length fs) c.in-Some.i c.index-func.result.now refl
    c.in-Some.ensures.within c.index-func.ensures in
    let taken = arguments_taken w T c.args.entry.now c.args.args c.in-Some.i c.index-func.result.now
    (sym c.number.ensures.first ∙ c.in-Some.is) place c.requires.typed.takes_them in
    let l = c.args.view.now.limits.now in
    let most = l.depth - 1 in
    let i = c.in-Some.i in
    let func = c.index-func.result.now in
    let args = c.args.args in
    let f = c.args.entry.now in
    let slots = c.in_ok-slots-in-Some.slots in
    let h = c.in_ok-slots-in-Some.ensures in
    let old = g.L.Logic.reads c.args.g.now.logic.now vs in
    let number = sym c.number.ensures.first ∙ c.in-Some.is in
    let count = same_many _ _ func.params args taken in
    let there = found_at f m p w i func chosen number place in
    let r = there.0 in
    let shape = there.2 in
    let params : func.params ≡ r.params = cc in
    let many = sym (same_many (read old) sure args values reads) ∙ sym count ∙ ap length params in
    let calls = calls_below l p most in
    let deepest : min 7 most ≡ most = min-eq_right (omega (arith, l.depth_range.1)) in
    let called = c.requires.fixed.of_calls most l m calls (calls_at w l m p chosen most) in
    let within = subst (λ n. g.K.Setting.fixed.are_calls n l m calls) (sym deepest) called in
    let below = subst (λ (k : Limits). g.K.Setting.fixed.are_calls (min 7 most) k m calls)
    (sym h.limits) within in
    run_reads (g.L.Logic.reads c.begun.new.g.logic.now vs) c.in_ok-done-in-Some.done slots.limits l
    calls p f r values 1 there.1 many h.limits
    (c.in_ok-done-in-Some.ensures.value vs m calls r values (record { members = picks; called = below })
    shape (read_each old args values reads))
