use Rattle.std.proofs.Common.{◌≡◌, ◌∙◌, ap, Some, [], ◌∷◌}
use Rattle.std.specs.Prelude.{option_to_list}
use Rattle.bit_words.specs.Logic.{extends_keeps, extends_trans}
use Rattle.mpy_tree.specs.Statements.{value_at}
use Rattle.mpy_tree.specs.Values.{State}
use Rattle.sym_values.specs.Reading.{read}
use Rattle.sym_paths.specs.Later.{path_later}
use Rattle.sym_paths.specs.Paths.{gone_way, reached, way, ways}
use Rattle.sym_paths.specs.Sides.{leads_no, leads_yes}
use Rattle.sym_blocks.proofs.Laters.{leads_later}
use Rattle.sym_blocks.proofs.TypedParts.{some_of}
use Rattle.sym_blocks.proofs.Tests.{test_is}
use Rattle.sym_blocks.proofs.evaluation.tested.Goals as goal

pub test_bit-requires : goal.test_bit-requires
test_bit-requires g c = let typed = some_of _ c.requires.typed in (c.in_ok-outcome.ensures.made typed.0 typed.1).owned

pub split-requires : goal.split-requires
split-requires g c =
    let typed = some_of _ c.requires.typed in
    let both = extends_trans c.eval_on.ensures.extends c.test_bit.ensures.extends in
    record {
      held = path_later (extends_keeps both) c.requires.path;
      fault = c.test_bit.ensures.extends.kept _ (c.in_ok-outcome.ensures.made typed.0 typed.1).owned_fault;
      test = c.in_ok-holds.ensures.owned;
    }

pub returns-clause-extends : goal.returns-clause-extends
returns-clause-extends g c = extends_trans c.eval_on.ensures.extends (extends_trans c.test_bit.ensures.extends c.split.ensures.extends)

pub returns-clause-yes : goal.returns-clause-yes
returns-clause-yes g c vs m calls o line t chosen at plain =
    let reads = g.L.Logic.reads in
    let slots = c.args.run.now.slots.now in
    let path = c.args.path in
    let outcome = c.in_ok-outcome.outcome in
    let typed = some_of _ c.requires.typed in
    let made = c.in_ok-outcome.ensures.made typed.0 typed.1 in
    let mid = reads c.eval_on.new.g vs in
    let late = reads c.test_bit.new.g vs in
    let both = extends_trans c.eval_on.ensures.extends c.test_bit.ensures.extends in
    let here = leads_later slots vs (extends_keeps both) c.requires.path at in
    let fault = c.test_bit.ensures.extends.same _ made.owned_fault vs in
    let value = λ (s : State). value_at slots.limits calls s line t in
    let test = λ (s : State) (e : o ≡ Some s).
    test_is (mid outcome.fault) (late outcome.fault) (late c.in_ok-holds.holds) (read mid outcome.value) (value s) fault
    (c.in_ok-holds.ensures.value vs) (c.in_ok-outcome.ensures.value vs m calls s line t chosen (at ∙ ap reached e) plain) in
    leads_yes (gone_way slots (ways (reads c.split.new.g vs) (option_to_list c.in_ok-sides.sides.yes))) (gone_way slots (way late path ∷ [])) o (late outcome.fault) (late c.in_ok-holds.holds) value here test (c.in_ok-sides.ensures.yes vs)

pub returns-clause-no : goal.returns-clause-no
returns-clause-no g c vs m calls o line t chosen at plain =
    let reads = g.L.Logic.reads in
    let slots = c.args.run.now.slots.now in
    let path = c.args.path in
    let outcome = c.in_ok-outcome.outcome in
    let typed = some_of _ c.requires.typed in
    let made = c.in_ok-outcome.ensures.made typed.0 typed.1 in
    let mid = reads c.eval_on.new.g vs in
    let late = reads c.test_bit.new.g vs in
    let both = extends_trans c.eval_on.ensures.extends c.test_bit.ensures.extends in
    let here = leads_later slots vs (extends_keeps both) c.requires.path at in
    let fault = c.test_bit.ensures.extends.same _ made.owned_fault vs in
    let value = λ (s : State). value_at slots.limits calls s line t in
    let test = λ (s : State) (e : o ≡ Some s).
    test_is (mid outcome.fault) (late outcome.fault) (late c.in_ok-holds.holds) (read mid outcome.value) (value s) fault
    (c.in_ok-holds.ensures.value vs) (c.in_ok-outcome.ensures.value vs m calls s line t chosen (at ∙ ap reached e) plain) in
    leads_no (gone_way slots (ways (reads c.split.new.g vs) (option_to_list c.in_ok-sides.sides.no))) (gone_way slots (way late path ∷ [])) o (late outcome.fault) (late c.in_ok-holds.holds) value here test (c.in_ok-sides.ensures.no vs)
