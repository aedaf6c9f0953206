-- There is one least set, and so one answer.
use Rattle.std.proofs.Common.{◌≡◌, Bool, true, false, List, Option, Some, None, IsTrue, refl, sym, ap, ◌∙◌, length}
use Rattle.mpy_tree.specs.declared.typing.Ty.TheVariants as ty
use Rattle.mpy_tree.specs.declared.typing.Fact.{Fact}
use Rattle.mpy_tree.specs.Running.{found}
use Rattle.mpy_tree.specs.Syntax.{Routine}
use Rattle.mpy_tree.specs.Entries.{Entry}
use Rattle.mpy_tree.specs.declared.typing.TypeSet.{TypeSet}
use Rattle.mpy_tree.specs.declared.typing.TypeError.{TypeError}
use Rattle.mpy_tree.specs.TypeSets.{IsWithin}
use Rattle.mpy_tree.specs.SetTypes.{FactSet}
use Rattle.mpy_tree.specs.Flows.{IsPart, IsLeast}
use Rattle.mpy_tree.specs.Faults.{slots, facts_at, first_fault, free_function, names_fault, entry_fault, slots_fault, nodes_fault, or_fault}
use Rattle.mpy_tree.specs.Rules.{single}
use Rattle.mpy_tree.specs.Typings.{IsTyping, IsFirstFault, IsEarlyFault}

same_bit : (a b : Bool) → (IsTrue a → IsTrue b) → (IsTrue b → IsTrue a) → a ≡ b
same_bit true b f g = sym (f refl)
same_bit false true f g = g refl
same_bit false false f g = refl

same_set : (s t : TypeSet) → IsWithin s t → IsWithin t s → s ≡ t
same_set s t f g = λ i. record {
  int = same_bit s.int t.int (f ty.Int) (g ty.Int) i;
  bool = same_bit s.bool t.bool (f ty.Bool) (g ty.Bool) i;
  list = same_bit s.list t.list (f ty.List) (g ty.List) i;
  text = same_bit s.text t.text (f ty.Text) (g ty.Text) i;
}

pub same_facts : (F G : FactSet) → IsPart F G → IsPart G F → F ≡ G
same_facts F G f g = λ i j x. same_set (F j x) (G j x) (f j x) (g j x) i

-- the least set is one
pub one_least : (F G : FactSet) (p : List Routine) (entry : Entry) → IsLeast F p entry → IsLeast G p entry → F ≡ G
one_least F G p entry f g = same_facts F G (f.least G g.closed) (g.least F f.closed)

-- a typed program has no fault
pub typed_or_not : (T : List Fact) (e : TypeError) (p : List Routine) (entry : Entry) → IsTyping T p entry → IsFirstFault e p entry → ⊥
typed_or_not T e p entry t f =
    let k : t.set ≡ f.set = one_least t.set f.set p entry t.least f.least in
    let h : None ≡ Some e = sym t.faultless ∙ ap (first_fault p entry) k ∙ f.first in
    cc

early_first : (a b c d : Option TypeError) (e : TypeError) → or_fault a b ≡ Some e → or_fault a (or_fault b (or_fault c d)) ≡ Some e
early_first None None c d e h = absurd (cc)
early_first None (Some x) c d e h = h
early_first (Some x) b c d e h = h

pub early_is_first : (e : TypeError) (p : List Routine) (entry : Entry) (F : FactSet) → IsEarlyFault e p entry → first_fault p entry F ≡ Some e
early_is_first e p entry F h = early_first (names_fault p) (entry_fault (found p entry.name) (length entry.types)) (slots_fault (free_function p entry) F (slots p)) (nodes_fault (single F) p) e h

pub typed_or_early : (T : List Fact) (e : TypeError) (p : List Routine) (entry : Entry) → IsTyping T p entry → IsEarlyFault e p entry → ⊥
typed_or_early T e p entry t h =
    let k : None ≡ Some e = sym t.faultless ∙ early_is_first e p entry t.set h in
    cc

-- one typing, and one first fault
pub one_typing : (T U : List Fact) (p : List Routine) (entry : Entry) → IsTyping T p entry → IsTyping U p entry → T ≡ U
one_typing T U p entry t u =
    t.facts ∙ ap (λ F. facts_at F (slots p)) (one_least t.set u.set p entry t.least u.least) ∙ sym u.facts

pub one_fault : (d e : TypeError) (p : List Routine) (entry : Entry) → IsFirstFault d p entry → IsFirstFault e p entry → d ≡ e
one_fault d e p entry f g =
    let h : Some d ≡ Some e = sym f.first ∙ ap (first_fault p entry) (one_least f.set g.set p entry f.least g.least) ∙ g.first in
    cc

pub early_fault : (d e : TypeError) (p : List Routine) (entry : Entry) → IsEarlyFault d p entry → IsFirstFault e p entry → d ≡ e
early_fault d e p entry h f =
    let k : Some d ≡ Some e = sym (early_is_first d p entry f.set h) ∙ f.first in
    cc
