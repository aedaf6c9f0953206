-- Facts that type a program type every rewriting of it.
use Rattle.std.proofs.Common.{◌≡◌, ℕ, List, [], ◌∷◌, length, Option, None, refl, ap, ◌∙◌}
use Rattle.std.proofs.Common.{subst, sym}
use Rattle.mpy_tree.specs.declared.typing.Fact.{Fact}
use Rattle.mpy_tree.specs.Builtins.{builtin_of}
use Rattle.mpy_tree.specs.declared.typing.TypeError.{TypeError}
use Rattle.mpy_tree.specs.Entries.{Entry}
use Rattle.mpy_tree.specs.Faults.{broken_from, earlier, entry_fault, fault_on, free_function}
use Rattle.mpy_tree.specs.Faults.{names_fault, nodes_fault, or_fault, slots, slots_fault}
use Rattle.mpy_tree.specs.Flows.{Keeps, entry_flows, flows, flows_from}
use Rattle.mpy_tree.specs.Leasts.{least}
use Rattle.mpy_tree.specs.Names.{arity_lines, name_lines}
use Rattle.mpy_tree.specs.Rules.{single}
use Rattle.mpy_tree.specs.Running.{found}
use Rattle.mpy_tree.specs.SetTypes.{FactSet, called}
use Rattle.mpy_tree.specs.Syntax.{Routine}
use Rattle.mpy_tree.specs.Typings.{AreTypes, set_of}
use Rattle.mpy_types.proofs.Every.{Every, all_of, every_both, every_front, every_of, every_rest}
use Rattle.choice_tree.specs.Contexts.{Setting}
use Rattle.choice_tree.specs.Rewriting.{Edit, IsRewriting}
use Rattle.choice_tree.specs.Templates.{Correction}
use Rattle.typed_trees.specs.TypingLaws.{setting_by}
use Rattle.rewriting_laws.proofs.FromTrees.{rewritings_alike}
use Rattle.rewriting_laws.proofs.OwnNames.{OwnNames, no_name_lines, own_names}
use Rattle.rewriting_laws.proofs.Slots.{SameHeads, alone, alone_alike, facts_stand, faultless_from}
use Rattle.rewriting_laws.proofs.Slots.{neither, settled_alike, settled_from}
use Rattle.rewriting_laws.proofs.TypedFunctions.{all_keep, entry_keeps, fine_from}
use Rattle.rewriting_laws.proofs.TypedFunctions.{heads_alike, none_broken, none_miscounted}
use Rattle.rewriting_laws.proofs.TypedFunctions.{none_named, same_entry_fault, same_entry_flows}
use Rattle.rewriting_laws.proofs.TypedFunctions.{same_free}
use Rattle.mpy_tree.proofs.Leasts.{none_least}
use Rattle.mpy_type_laws.proofs.Nothing.{none_both, not_on}

own_alike : (rs qs : List Routine) → SameHeads rs qs → OwnNames rs → OwnNames qs
own_alike [] [] h own = tt
own_alike [] (q ∷ qs) h own = absurd h
own_alike (r ∷ rs) [] h own = absurd h
own_alike (r ∷ rs) (q ∷ qs) h own =
    (ap builtin_of h.0.name ∙ own.0, own_alike rs qs h.1 own.1)

least_of_none : least [] ≡ None
unfolding least
least_of_none = refl

none_earlier : (xs ys : List ℕ) → xs ≡ [] → ys ≡ [] → earlier (least xs) (least ys) ≡ None
none_earlier xs ys h k =
    (λ i. earlier (least (h i)) (least (k i))) ∙ (λ i. earlier (least_of_none i) (least_of_none i))

none_on : (xs : List ℕ) → xs ≡ [] → fault_on (least xs) ≡ None
none_on xs h = ap (λ ys. fault_on (least ys)) h ∙ ap fault_on least_of_none

module _ (rules : List Correction) (T : List Fact) (s p : List Routine) (entry : Entry)
    (types : AreTypes T s entry) where
  abbrev F : FactSet
  F = set_of T

  abbrev g : Setting
  g = setting_by rules s T

  -- the faults of a program's slots, of its slots and nodes, and of its entry, too
  abbrev slots_at : List Routine → Option TypeError
  slots_at q = slots_fault (free_function q entry) F (slots q)

  abbrev typed : List Routine → Option TypeError
  typed q = or_fault (slots_at q) (nodes_fault (single F) q)

  abbrev entered : List Routine → Option TypeError
  entered q = entry_fault (found q entry.name) (length entry.types)

  pub still_types : (n : ℕ) (es : List Edit) → IsRewriting g s p n es → AreTypes T p entry
  still_types n es rewritten =
      let free = free_function s entry in
      let alike = rewritings_alike g s p n es rewritten in
      let heads = heads_alike g 0 s p alike in
      let names = none_both (names_fault s) (or_fault (entered s) (typed s)) types.faultless in
      let entries = none_both (entered s) (typed s) names.1 in
      let both = none_both (slots_at s) (nodes_fault (single F) s) entries.1 in
      let own = own_alike s p heads (own_names s names.0) in
      let settled = settled_alike free F 0 s p heads (settled_from free F 0 s both.0) in
      let others = alone_alike F 0 s p heads (alone s T types.of_slots) in
      let lines = no_name_lines s names.0 in
      let broken = broken_from (single F) s 0 s in
      let flow = every_of (Keeps F s) (flows s entry) types.closed in
      let enters = entry_flows (called s entry.name) entry.types in
      let given = every_front (Keeps F s) enters (flows_from s 0 s) flow in
      let inner = every_rest (Keeps F s) enters (flows_from s 0 s) flow in
      let fine =
      fine_from g free F refl p alike own 0 s p [] alike heads settled others lines
      (none_least broken (not_on (least broken) both.1)) inner in
      let first = entry_keeps F s p (called s entry.name) entry.types given in
      record {
        of_slots = facts_stand s p heads T types.of_slots;
        closed =
            all_of (Keeps F p) (flows p entry)
            (every_both (Keeps F p) (entry_flows (called p entry.name) entry.types)
            (flows_from p 0 p)
            (subst (Every (Keeps F p))
            (sym (same_entry_flows s p entry.name 0 entry.types heads)) first)
            (all_keep g free F refl p alike own 0 p fine));
        faultless =
            neither (names_fault p) (or_fault (entered p) (typed p))
            (none_earlier (name_lines p) (arity_lines p)
            (none_named g free F refl p alike own 0 s p [] heads fine lines)
            (none_miscounted g free F refl p alike own 0 p fine))
            (neither (entered p) (typed p)
            (same_entry_fault s p entry.name (length entry.types) heads ∙ entries.0)
            (neither (slots_at p) (nodes_fault (single F) p)
            (ap (λ o. slots_fault o F (slots p)) (same_free s p entry heads)
            ∙ faultless_from free F 0 p settled)
            (none_on (broken_from (single F) p 0 p)
            (none_broken g free F refl p alike own 0 p fine))));
      }
