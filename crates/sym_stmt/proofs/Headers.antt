-- Functions found by their names: the weighted functions of a program, their headers, and the
-- functions of the plain program that is chosen.
use Rattle.std.proofs.Common.{◌≡◌, ℕ, zero, suc, ◌+◌, Bool, true, false, cond, List, [], ◌∷◌, map}
use Rattle.std.proofs.Common.{Option, Some, None, refl, sym, ap, ◌∙◌, subst, slice_get}
use Rattle.std.proofs.Common.{arith}
use Rattle.std.specs.List.{position_from}
use Rattle.std.proofs.lemmas.Iterator.Adapters.{position_from-zero}
use Rattle.mpy_tree.specs.Running.{found}
use Rattle.mpy_tree.specs.SetTypes.{Callee, callee, called, called_from}
use Rattle.mpy_tree.specs.Shapes.{program_shape, routine_shape, routine_shapes}
use Rattle.mpy_tree.specs.Syntax.{Routine}
use Rattle.mpy_tree.specs.Values.{same_bytes}
use Rattle.choice_tree.specs.declared.tree.WFunc.{WFunc}
use Rattle.choice_tree.specs.declared.tree.WProg.{WProg}
use Rattle.choice_tree.specs.Selections.{plain, plains}
use Rattle.choice_tree.specs.StatementViews.{weighted_body, weighted_func, weighted_prog}
use Rattle.choice_tree.specs.WeightedViews.{weighteds}
use Rattle.sym_nodes.specs.Environments.{AllHavePicks, HasPicks}
use Rattle.sym_stmt.specs.Programs.{functions_of, header, number_of}

-- the function at a place is the one that the number says, and its header is called
abbrev IsCalled : ℕ → List WFunc → ℕ → Option Callee → Type 0
IsCalled n fs i c =
    (k : ℕ) × (w : WFunc) × (n + k ≡ i) × (slice_get fs k ≡ Some w)
    × (c ≡ Some (callee i (header w)))

-- the same of a routine that is chosen for it
abbrev IsFound : (ℕ → ℕ) → ℕ → List WFunc → ℕ → Option Routine → Type 0
IsFound m n fs i o =
    (k : ℕ) × (w : WFunc) × (r : Routine) × (n + k ≡ i) × (slice_get fs k ≡ Some w)
    × (o ≡ Some r) × (routine_shape r ≡ plain m (weighted_func w))

called_by : (b : Bool) (n i : ℕ) (w : WFunc) (fs : List WFunc) (o : Option ℕ) (c : Option Callee)
    → (o ≡ Some i → IsCalled (n + 1) fs i c) → cond b (Some n) o ≡ Some i
    → IsCalled n (w ∷ fs) i (cond b (Some (callee n (header w))) c)
called_by true n i w fs o c h e =
    let same : n ≡ i = cc in
    (0, w, omega (arith, same), refl, ap (λ j. Some (callee j (header w))) same)
called_by false n i w fs o c h e =
    let rest = h e in (suc rest.0, rest.1, omega (arith, rest.2), rest.3, rest.4)

uncalled_by : (b : Bool) (n : ℕ) (w : WFunc) (o : Option ℕ) (c : Option Callee)
    → (o ≡ None → c ≡ None) → cond b (Some n) o ≡ None
    → cond b (Some (callee n (header w))) c ≡ None
uncalled_by true n w o c h e = absurd cc
uncalled_by false n w o c h e = h e

module _ (f : List ℕ) where
  abbrev is_named : WFunc → Bool
  is_named w = same_bytes f w.name

  called_among : (fs : List WFunc) (n i : ℕ) → position_from is_named n fs ≡ Some i
      → IsCalled n fs i (called_from (map header fs) f n)
  called_among [] n i e = absurd cc
  called_among (w ∷ fs) n i e =
      called_by (same_bytes f w.name) n i w fs (position_from is_named (n + 1) fs)
      (called_from (map header fs) f (n + 1)) (called_among fs (n + 1) i) e

  not_called : (fs : List WFunc) (n : ℕ) → position_from is_named n fs ≡ None
      → called_from (map header fs) f n ≡ None
  not_called [] n e = refl
  not_called (w ∷ fs) n e =
      uncalled_by (same_bytes f w.name) n w (position_from is_named (n + 1) fs)
      (called_from (map header fs) f (n + 1)) (not_called fs (n + 1)) e

  -- the function that is called, by its number
  pub called_at : (fs : List WFunc) (i : ℕ) (w : WFunc) → number_of fs f ≡ Some i
      → slice_get fs i ≡ Some w → called (map header fs) f ≡ Some (callee i (header w))
  called_at fs i w e is =
      let there = called_among fs 0 i (sym (position_from-zero is_named fs) ∙ e) in
      let place : there.0 ≡ i = omega (arith, there.2) in
      let same : Some there.1 ≡ Some w =
      sym there.3 ∙ ap (λ k. slice_get fs k) place ∙ is in
      let func : there.1 ≡ w = cc in
      there.4 ∙ ap (λ v. Some (callee i (header v))) func

  pub called_there : (fs : List WFunc) (i : ℕ) → number_of fs f ≡ Some i
      → (w : WFunc) × (called (map header fs) f ≡ Some (callee i (header w)))
  called_there fs i e =
      let there = called_among fs 0 i (sym (position_from-zero is_named fs) ∙ e) in
      (there.1, there.4)

  pub called_nowhere : (fs : List WFunc) → number_of fs f ≡ None → called (map header fs) f ≡ None
  called_nowhere fs e = not_called fs 0 (sym (position_from-zero is_named fs) ∙ e)

  found_by : (b c : Bool) (m : ℕ → ℕ) (n i : ℕ) (w : WFunc) (fs : List WFunc) (r : Routine)
      (o : Option ℕ) (q : Option Routine) → c ≡ b → routine_shape r ≡ plain m (weighted_func w)
      → (o ≡ Some i → IsFound m (n + 1) fs i q) → cond b (Some n) o ≡ Some i
      → IsFound m n (w ∷ fs) i (cond c (Some r) q)
  found_by true true m n i w fs r o q d s h e =
      let same : n ≡ i = cc in (0, w, r, omega (arith, same), refl, refl, s)
  found_by true false m n i w fs r o q d s h e = absurd cc
  found_by false true m n i w fs r o q d s h e = absurd cc
  found_by false false m n i w fs r o q d s h e =
      let rest = h e in
      (suc rest.0, rest.1, rest.2, omega (arith, rest.3), rest.4, rest.5, rest.6)

  found_among : (m : ℕ → ℕ) (p : List Routine) (fs : List WFunc) (n i : ℕ)
      → routine_shapes p ≡ plains m (weighteds (map weighted_func fs))
      → position_from is_named n fs ≡ Some i → IsFound m n fs i (found p f)
  found_among m p [] n i s e = absurd cc
  found_among m [] (w ∷ fs) n i s e = absurd cc
  found_among m (r ∷ p) (w ∷ fs) n i s e =
      let head : routine_shape r ≡ plain m (weighted_func w) = cc in
      let tail : routine_shapes p ≡ plains m (weighteds (map weighted_func fs)) = cc in
      let name : r.name ≡ w.name = cc in
      found_by (same_bytes f w.name) (same_bytes f r.name) m n i w fs r
      (position_from is_named (n + 1) fs) (found p f) (ap (same_bytes f) name) head
      (found_among m p fs (n + 1) i tail) e

  -- the routine of the chosen program that is found
  pub found_at : (m : ℕ → ℕ) (p : List Routine) (w : WProg) (i : ℕ) (func : WFunc)
      → program_shape p ≡ plain m (weighted_prog w) → number_of (functions_of w) f ≡ Some i
      → slice_get (functions_of w) i ≡ Some func
      → (r : Routine) × (found p f ≡ Some r) × (routine_shape r ≡ plain m (weighted_func func))
  found_at m p w i func s e is =
      let fs = functions_of w in
      let shapes : routine_shapes p ≡ plains m (weighteds (map weighted_func fs)) = cc in
      let there =
      found_among m p fs 0 i shapes (sym (position_from-zero is_named fs) ∙ e) in
      let place : there.0 ≡ i = omega (arith, there.3) in
      let same : Some there.1 ≡ Some func =
      sym there.4 ∙ ap (λ k. slice_get fs k) place ∙ is in
      let one : there.1 ≡ func = cc in
      (there.2, there.5, there.6 ∙ ap (λ v. plain m (weighted_func v)) one)

-- the picks of a function are those of its program
picks_among : {B : Type 0} (picks : List (List B)) (fs : List WFunc) (i : ℕ) (f : WFunc)
    → AllHavePicks picks (weighteds (map weighted_func fs)) → slice_get fs i ≡ Some f
    → HasPicks picks (weighted_func f)
picks_among picks [] i f h e = absurd cc
picks_among picks (w ∷ fs) zero f h e =
    let same : w ≡ f = cc in subst (λ v. HasPicks picks (weighted_func v)) same h.0
picks_among picks (w ∷ fs) (suc i) f h e = picks_among picks fs i f h.1 e

pub picks_of : {B : Type 0} (picks : List (List B)) (w : WProg) (i : ℕ) (f : WFunc)
    → HasPicks picks (weighted_prog w) → slice_get (functions_of w) i ≡ Some f
    → HasPicks picks (weighted_body f.body)
picks_of picks w i f h e = (picks_among picks (functions_of w) i f h e).0
