-- The least set has facts about slots alone.
use Rattle.std.proofs.Common.{◌≡◌, Bool, true, false, List, [], ◌∷◌, if◌then◌else◌}
use Rattle.mpy_tree.specs.declared.typing.Ty.TheVariants as ty
use Rattle.mpy_tree.specs.Syntax.{Routine}
use Rattle.mpy_tree.specs.Entries.{Entry}
use Rattle.mpy_tree.specs.declared.typing.TypeSet.{TypeSet}
use Rattle.mpy_tree.specs.TypeSets.{no_types, IsWithin}
use Rattle.mpy_tree.specs.SetTypes.{FactSet}
use Rattle.mpy_tree.specs.Flows.{Flow, Keeps, IsLeast, flows}
use Rattle.mpy_tree.specs.Faults.{Place, slots}
use Rattle.mpy_types.proofs.Every.{Every, every_of, all_of}
use Rattle.mpy_types.proofs.Monotone.{sources_within}
use Rattle.mpy_types.proofs.Targets.{stands_among, Lands, flows_land}
use Rattle.mpy_type_laws.proofs.OneAnswer.{same_facts}

-- a set of facts about these slots alone
abbrev pub within_slots : List Place → FactSet → FactSet
within_slots ss F = λ j y. if stands_among ss j y then F j y else no_types

part_of : (b : Bool) (s : TypeSet) → IsWithin (if b then s else no_types) s
part_of true s a h = h
part_of false s ty.Int h = absurd (cc)
part_of false s ty.Bool h = absurd (cc)
part_of false s ty.List h = absurd (cc)
part_of false s ty.Text h = absurd (cc)

whole_of : (b : Bool) (s : TypeSet) → b ≡ true → IsWithin s (if b then s else no_types)
whole_of true s e a h = h
whole_of false s e a h = absurd (cc)

slots_close : (ss : List Place) (F : FactSet) (p : List Routine) (fs : List Flow) → Every (Keeps F p) fs → Every (Lands ss) fs → Every (Keeps (within_slots ss F) p) fs
slots_close ss F p [] h k = tt
slots_close ss F p (f ∷ fs) h k = (
  (λ a m. whole_of (stands_among ss f.func f.slot) (F f.func f.slot) k.0 a (h.0 a (sources_within (within_slots ss F) F (λ j y. part_of (stands_among ss j y) (F j y)) p f.from a m))),
  slots_close ss F p fs h.1 k.1,
)

-- the least set has facts about slots alone
pub least_within_slots : (F : FactSet) (p : List Routine) (entry : Entry) → IsLeast F p entry → F ≡ within_slots (slots p) F
least_within_slots F p entry h =
    same_facts F (within_slots (slots p) F)
    (h.least (within_slots (slots p) F) (all_of (Keeps (within_slots (slots p) F) p) (flows p entry) (slots_close (slots p) F p (flows p entry) (every_of (Keeps F p) (flows p entry) h.closed) (flows_land p entry))))
    (λ j y. part_of (stands_among (slots p) j y) (F j y))
