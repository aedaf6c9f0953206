-- Where a program fails first.
use Rattle.std.proofs.Common.{◌≡◌, ℕ, ◌+◌, ◌<◌, List, [], ◌∷◌, ◌++◌, sym, subst, arith, refl, inl, inr, length, take}
use Rattle.std.specs.Prelude.{All}
use Rattle.std.proofs.Math.Seq.{take-append-add, take-append_seam}
use Rattle.std.proofs.lemmas.List.{take-append-le}
use Rattle.std.proofs.lemmas.List.Elements.{All-append}
use Rattle.std.proofs.lemmas.Option.{slice_get_within}
use Rattle.mpy_tree.specs.declared.value.Value.{Value}
use Rattle.mpy_tree.specs.Syntax.{Routine}
use Rattle.bounds_reader.specs.declared.bounds.Bounds.{Bounds}
use Rattle.input_space.specs.Agreement.{EndsAlike}
use Rattle.test_picker.specs.Failing.{FailsFirstAt}
use Rattle.test_picker.proofs.Places.{all_at, compared, get_behind, get_front, get_take}

module _ (b : Bounds) (r p : List Routine) where
  -- more inputs behind change nothing
  pub stays : (xs ys : List (List Value)) (k : ℕ) → FailsFirstAt b r p xs k
      → FailsFirstAt b r p (xs ++ ys) k
  stays xs ys k f =
      let within : k < length xs = slice_get_within xs k f.input f.stands in
      record {
        input = f.input;
        stands = get_front xs ys k f.input f.stands;
        fails = f.fails;
        before = subst (All (EndsAlike b r p)) (sym (take-append-le k xs ys (omega (arith, within)))) f.before;
      }

  -- it fails on none of those in front
  pub later : (xs ys : List (List Value)) (k : ℕ) → All (EndsAlike b r p) xs
      → FailsFirstAt b r p ys k → FailsFirstAt b r p (xs ++ ys) (length xs + k)
  later xs ys k all f = record {
    input = f.input;
    stands = get_behind xs ys k (length xs + k) f.input refl f.stands;
    fails = f.fails;
    before = subst (All (EndsAlike b r p)) (sym (take-append-add xs ys k))
        (All-append (EndsAlike b r p) xs (take k ys) all f.before);
  }

  -- the one behind those in front
  pub next : (xs : List (List Value)) (x : List Value) → All (EndsAlike b r p) xs
      → (EndsAlike b r p x → ⊥) → FailsFirstAt b r p (xs ++ x ∷ []) (length xs)
  next xs x all fails = record {
    input = x;
    stands = get_behind xs (x ∷ []) 0 (length xs) x (omega arith) refl;
    fails = fails;
    before = subst (All (EndsAlike b r p)) (sym (take-append_seam xs (x ∷ []))) all;
  }

  not_before : (xs : List (List Value)) (j k : ℕ) → j < k → FailsFirstAt b r p xs j
      → FailsFirstAt b r p xs k → ⊥
  not_before xs j k h f g =
      f.fails (all_at (EndsAlike b r p) (take k xs) j f.input g.before
      (get_take xs j k f.input h f.stands))

  -- it fails first at one place
  pub one_first : (xs : List (List Value)) (j k : ℕ) → FailsFirstAt b r p xs j
      → FailsFirstAt b r p xs k → j ≡ k
  one_first xs j k f g = elim (compared j k) [
    | inl h ↦ absurd (not_before xs j k h f g)
    | inr h ↦ elim h [
      | inl i ↦ absurd (not_before xs k j i g f)
      | inr e ↦ e
    ]
  ]
