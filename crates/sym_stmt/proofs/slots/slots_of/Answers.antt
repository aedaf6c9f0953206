use Rattle.std.proofs.Common.{ap, sym, ◌∙◌, subst, refl, map, IsSome}
use Rattle.std.specs.Prelude.{All}
use Rattle.std.specs.List.{flat_map}
use Rattle.mpy_tree.specs.declared.typing.Slot.TheVariants as slot
use Rattle.mpy_tree.specs.Locals.{is_among}
use Rattle.mpy_tree.specs.Names.{has_twice}
use Rattle.mpy_tree.specs.Rules.{single}
use Rattle.mpy_tree.specs.TypeSets.{only}
use Rattle.mpy_tree.specs.Typings.{set_of}
use Rattle.sym_paths.specs.Places.{Begins}
use Rattle.sym_stmt.specs.FactSlots.{local_names, named_by}
use Rattle.sym_stmt.proofs.LocalNames.{locals_typed, new_begin, new_differ, others_none}
use Rattle.sym_stmt.proofs.slots.slots_of.Goals as goal

pub local_types-requires : goal.local_types-requires
local_types-requires c =
    let T = c.args.program.now.types.now.facts in
    let i = c.args.number in
    let params = c.args.func.now.params in
    let typed = c.requires.typed.typed i c.args.func.now c.requires.place in
    let names = c.in_ok-names.ensures ∙ ap (local_names i params) c.items-facts.ensures in
    let all = locals_typed T i params c.requires.typed.alone typed.params in
    subst (λ fs. All (λ x. IsSome (single (set_of fs) i (slot.Local x))) c.in_ok-names.names)
    (sym c.items-facts.ensures)
    (subst (All (λ x. IsSome (single (set_of T) i (slot.Local x)))) (sym names) all)

pub returns : goal.returns
returns c =
    let T = c.args.program.now.types.now.facts in
    let i = c.args.number in
    let params = c.args.func.now.params in
    let typed = c.requires.typed.typed i c.args.func.now c.requires.place in
    let names = c.in_ok-names.ensures ∙ ap (local_names i params) c.items-facts.ensures in
    record {
      limits = refl;
      begins = subst (Begins params) (sym names) (new_begin params (flat_map (named_by i) T));
      differ = ap has_twice names ∙ new_differ params (flat_map (named_by i) T) typed.differ;
      typed = c.in_ok-types.ensures
          ∙ ap (λ fs. map (λ x. single (set_of fs) i (slot.Local x)) c.in_ok-names.names)
          c.items-facts.ensures;
      others = λ x e. others_none T i params x (ap (λ ns. is_among ns x) (sym names) ∙ e);
      result = ap (λ fs. only (set_of fs i slot.Result)) (sym c.facts.ensures)
          ∙ ap only (sym c.result.ensures) ∙ sym c.only.ensures;
      prints = refl;
    }
