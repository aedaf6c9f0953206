-- The best of selections, one selection after the other.
use Rattle.std.proofs.Common.{◌≡◌, ℕ, suc, ◌+◌, ◌<◌, ◌≤◌, Bool, true, false, List, [], ◌∷◌, ◌++◌, length, take, drop, refl, sym, ap, ◌∙◌, arith, subst, append-nil, length-append}
use Rattle.std.specs.Prelude.{All, Any, filter, IsTrue, ◌↔◌, slice_index_or}
use Rattle.std.specs.List.{list_any}
use Rattle.std.proofs.lemmas.List.{map_push, take-append-drop, take-append-le}
use Rattle.std.proofs.lemmas.List.Elements.{filter-append}
use Rattle.mpy_tree.specs.Syntax.{Routine}
use Rattle.mpy_tree.specs.View.{routines_of}
use Rattle.choice_tree.specs.declared.selection.Choice.{Choice}
use Rattle.coding_laws.specs.CodingLaws.{AgreementIsDecided}
use Rattle.input_space.specs.Tasks.{Task}
use Rattle.certificate_laws.specs.BestLaws.{Makes}
use Rattle.least_all.specs.declared.listing.Found.{Found}
use Rattle.least_all.specs.Answers.{IsListed}
use Rattle.least_all.specs.BestLists.{AreSame, AreTests, MakeTheSame, SelectionAgrees, Tests, best_of, firsts}
use Rattle.least_all.specs.Listings.{HasBest, IsFound, selections_in}
use Rattle.least_all.proofs.FirstLaws.{any_map, any_true, firsts_append, firsts_known, firsts_new, is_new, none_true}
use Rattle.least_all.proofs.Programs.{AllMake, are_tests, made_same, same_transitive, tests}

-- a test is off where what it tells isn't so
off : (b : Bool) (P : Type 0) → IsTrue b ↔ P → (P → ⊥) → b ≡ false
off true P iff not = absurd (not (iff.0 refl))
off false P iff not = refl

module _ (k : Task) (t : Tests) (are : AreTests k t) where
  -- a selection that fails is none of the best
  best_without : (done : List (List Choice)) (s : List Choice) → t.agrees s ≡ false
      → best_of t (done ++ s ∷ []) ≡ best_of t done
  best_without done s fails =
      ap (firsts t.same) (filter-append t.agrees done (s ∷ []) ∙ (rw fails (append-nil (filter t.agrees done))))

  best_with : (done : List (List Choice)) (s : List Choice) → t.agrees s ≡ true
      → best_of t (done ++ s ∷ []) ≡ firsts t.same (filter t.agrees done ++ s ∷ [])
  best_with done s agrees = ap (firsts t.same) (filter-append t.agrees done (s ∷ []) ∙ (rw agrees refl))

  -- nor is one whose program is there
  best_known : AllMake k → (done : List (List Choice)) (s : List Choice) (b : Bool) → t.agrees s ≡ b
      → list_any (λ r. t.same r s) (best_of t done) ≡ true → best_of t (done ++ s ∷ []) ≡ best_of t done
  best_known make done s true agrees known =
      best_with done s agrees ∙ firsts_known t.same (same_transitive k make t are) (filter t.agrees done) s known
  best_known make done s false fails known = best_without done s fails

  best_new : AllMake k → (done : List (List Choice)) (s : List Choice) → t.agrees s ≡ true
      → list_any (λ r. t.same r s) (best_of t done) ≡ false
      → best_of t (done ++ s ∷ []) ≡ best_of t done ++ s ∷ []
  best_new make done s agrees new =
      best_with done s agrees ∙ firsts_new t.same (same_transitive k make t are) (filter t.agrees done) s new

  -- the best of the first selections come first
  best_begins : AllMake k → (i : ℕ) (ss : List (List Choice))
      → (more : List (List Choice)) × (best_of t ss ≡ best_of t (take i ss) ++ more)
  best_begins make i ss =
      let front = filter t.agrees (take i ss) in
      let back = filter t.agrees (drop i ss) in
      let split : filter t.agrees ss ≡ front ++ back =
      ap (filter t.agrees) (sym (take-append-drop i ss)) ∙ filter-append t.agrees (take i ss) (drop i ss) in (
        filter (is_new t.same (same_transitive k make t are) (firsts t.same front)) (firsts t.same back),
        ap (firsts t.same) split ∙ firsts_append t.same (same_transitive k make t are) front back,
      )

-- ONE SELECTION MORE

pub has_failing : (k : Task) (done : List (List Choice)) (s : List Choice) (fs : List Found)
    → (SelectionAgrees k s → ⊥) → HasBest k done fs → HasBest k (done ++ s ∷ []) fs
has_failing k done s fs fails best t are =
    best t are ∙ sym (best_without k t are done s (off (t.agrees s) (SelectionAgrees k s) (are.agreement s) fails))

pub has_known : (k : Task) → AllMake k → (done : List (List Choice)) (s : List Choice) (p : List Routine) (fs : List Found)
    → Makes k s p → All (IsFound k) fs → Any (λ f. AreSame (routines_of f.program) p) fs
    → HasBest k done fs → HasBest k (done ++ s ∷ []) fs
has_known k make done s p fs made found (i, f, within, is, same) best t are =
    let own : IsFound k f = subst (IsFound k) is (found i f within) in
    let there : t.same f.selection s ≡ true =
    (are.sameness f.selection s).1 (made_same k f.selection s (routines_of f.program) p own made same) in
    let known : list_any (λ r. t.same r s) (selections_in fs) ≡ true =
    any_map (λ r. t.same r s) (λ (g : Found). g.selection) fs
    ∙ any_true (λ (g : Found). t.same g.selection s) fs i f within is there in
    best t are
    ∙ sym (best_known k t are make done s (t.agrees s) refl (ap (list_any (λ r. t.same r s)) (sym (best t are)) ∙ known))

pub has_more : (k : Task) → AllMake k → (done : List (List Choice)) (s : List Choice) (p : List Routine) (fs : List Found) (f : Found)
    → Makes k s p → All (IsFound k) fs → All (λ g. AreSame (routines_of g.program) p → ⊥) fs → SelectionAgrees k s → f.selection ≡ s
    → HasBest k done fs → HasBest k (done ++ s ∷ []) (fs ++ f ∷ [])
has_more k make done s p fs f made found others agrees is best t are =
    let apart : All (λ (g : Found). t.same g.selection s ≡ false) fs =
    λ i d within.
    let g = slice_index_or fs i d in
    off (t.same g.selection s) (MakeTheSame k g.selection s) (are.sameness g.selection s)
    (λ same. others i d within (same (routines_of g.program) p (found i d within) made)) in
    let new : list_any (λ r. t.same r s) (selections_in fs) ≡ false =
    any_map (λ r. t.same r s) (λ (g : Found). g.selection) fs ∙ none_true (λ (g : Found). t.same g.selection s) fs apart in
    map_push (λ (g : Found). g.selection) fs f ∙ ap (λ r. selections_in fs ++ r ∷ []) is
    ∙ ap (λ rs. rs ++ s ∷ []) (best t are)
    ∙ sym (best_new k t are make done s ((are.agreement s).1 agrees) (ap (list_any (λ r. t.same r s)) (sym (best t are)) ∙ new))

-- at the start
pub has_none : (k : Task) (fs : List Found) → fs ≡ [] → HasBest k [] fs
has_none k fs none t are = ap selections_in none

-- AT THE END

length_selections : (fs : List Found) → length (selections_in fs) ≡ length fs
length_selections [] = refl
length_selections (f ∷ fs) = ap suc (length_selections fs)

pub listed_whole : (k : Task) → AllMake k → AgreementIsDecided → (ss : List (List Choice)) (fs : List Found) (most : ℕ) (picks : List (List Choice))
    → HasBest k ss fs → length fs ≤ most → picks ≡ take most (selections_in fs) → IsListed k ss most picks true
listed_whole k make law ss fs most picks best few are =
    let all = best (tests k make law) (are_tests k make law) in
    let many : length (best_of (tests k make law) ss) ≡ length fs = ap length (sym all) ∙ length_selections fs in
    record {
      tests = tests k make law;
      are = are_tests k make law;
      first = are ∙ ap (take most) all;
      all = (λ e. omega arith, λ h. refl);
    }

pub listed_part : (k : Task) → AllMake k → AgreementIsDecided → (i : ℕ) (ss : List (List Choice)) (fs : List Found) (most : ℕ) (picks : List (List Choice))
    → HasBest k (take i ss) fs → most < length fs → picks ≡ take most (selections_in fs) → IsListed k ss most picks false
listed_part k make law i ss fs most picks best many are =
    let t = tests k make law in
    let here = best t (are_tests k make law) in
    let begins = best_begins k t (are_tests k make law) make i ss in
    let whole : best_of t ss ≡ selections_in fs ++ begins.0 = begins.1 ∙ ap (λ rs. rs ++ begins.0) (sym here) in
    let count : length (best_of t ss) ≡ length (selections_in fs) + length begins.0 = ap length whole ∙ length-append (selections_in fs) begins.0 in
    let own : length (selections_in fs) ≡ length fs = length_selections fs in
    record {
      tests = t;
      are = are_tests k make law;
      first = are ∙ sym (ap (take most) whole ∙ take-append-le most (selections_in fs) begins.0 (omega arith));
      all = (λ e. absurd (let z : ◌≡◌ {A = Bool} false true = e in cc), λ h. absurd (omega arith));
    }
