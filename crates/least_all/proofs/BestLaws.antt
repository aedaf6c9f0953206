-- The best programs are in the best list.
use Rattle.std.proofs.Common.{◌≡◌, zero, suc, Bool, true, false, List, [], ◌∷◌, map, refl, sym, ap, ◌∙◌, arith, subst}
use Rattle.std.specs.Prelude.{filter, not}
use Rattle.std.specs.List.{Contains}
use Rattle.mpy_tree.specs.Equality.{without_lines}
use Rattle.mpy_tree.specs.Shapes.{program_shape}
use Rattle.choice_tree.specs.declared.selection.Choice.{Choice}
use Rattle.cost_levels.specs.Levels.{level}
use Rattle.input_space.specs.Agreement.{Agrees}
use Rattle.input_space.specs.Tasks.{Task, tree_of}
use Rattle.input_space.proofs.Elements.{contained_if, first_contained, later_contained}
use Rattle.selection_programs.specs.Programs.{MakesPrograms}
use Rattle.certificate_laws.specs.BestLaws.{Makes}
use Rattle.certificate_laws.proofs.BestRewritings.{selections}
use Rattle.least_all.specs.BestLists.{AreTests, BestProgramsAreListed, SelectionAgrees, Tests, firsts}
use Rattle.least_all.proofs.FirstLaws.{IsTransitive}
use Rattle.least_all.proofs.LiveFits.{levels}
use Rattle.least_all.proofs.Programs.{all_make, one_program, same_transitive}

module _ {A : Type 0} (same : A → A → Bool) (reflexive : (x : A) → same x x ≡ true) (transitive : IsTransitive same) where
  -- one of the firsts is the same
  abbrev HasFirst : List A → A → Type 0
  HasFirst xs x = (y : A) × Contains (firsts same xs) y × (same y x ≡ true)

  behind : (z x : A) (zs : List A) (h : HasFirst zs x) (b : Bool) → same z h.0 ≡ b → HasFirst (z ∷ zs) x
  behind z x zs h true e =
      (z, first_contained z (filter (λ y. not (same z y)) (firsts same zs)), transitive z h.0 x e h.2)
  behind z x zs h false e =
      let kept : not (same z h.0) ≡ true = ap not e in (
        h.0,
        later_contained z h.0 (filter (λ y. not (same z y)) (firsts same zs))
            (contained_if (λ y. not (same z y)) (firsts same zs) h.0 h.1 kept),
        h.2,
      )

  first_same : (xs : List A) (x : A) → Contains xs x → HasFirst xs x
  first_same [] x (i, within, is) = absurd (omega arith)
  first_same (z ∷ zs) x (zero, within, is) =
      (z, first_contained z (filter (λ y. not (same z y)) (firsts same zs)), subst (λ y. same z y ≡ true) is (reflexive z))
  first_same (z ∷ zs) x (suc i, within, is) =
      let h = first_same zs x (i, omega arith, is) in behind z x zs h (same z h.0) refl

same_reflexive : (k : Task) (t : Tests) → AreTests k t → (s : List Choice) → t.same s s ≡ true
same_reflexive k t are s = (are.sameness s s).1 (λ p q mp mq. ap (map without_lines) (one_program k s p q mp mq))

pub best_listed : MakesPrograms → BestProgramsAreListed
best_listed law k w t p n es sound is are best =
    let make = all_make law k w is in
    let given = (selections k sound).selected (program_shape p) n es best.rewriting in
    let s = given.0 in
    let stands = (levels k).each_made s in
    let r = stands.selection in
    let there : Contains (level (tree_of k) n) r =
    subst (λ m. Contains (level (tree_of k) m) r) given.2.cost_is stands.there in
    let made : Makes k r p = sym (stands.tree ∙ given.2.tree) in
    let agrees : SelectionAgrees k r =
    λ q mq. subst (Agrees k.bounds k.reference) (one_program k r p q made mq) best.agrees in
    let among = contained_if t.agrees (level (tree_of k) n) r there ((are.agreement r).1 agrees) in
    let h = first_same t.same (same_reflexive k t are) (same_transitive k make t are) (filter t.agrees (level (tree_of k) n)) r among in
    record {
      selection = h.0;
      among = h.1;
      same = λ q mq. sym ((are.sameness h.0 r).0 h.2 q p mq made);
    }
