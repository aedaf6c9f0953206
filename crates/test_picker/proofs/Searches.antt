-- What is found of programs, block after block.
use Rattle.std.proofs.Common.{◌≡◌, ℕ, zero, suc, ◌+◌, ◌*◌, ◌<◌, ◌≤◌, ◌∙◌, true, false, ◌&&◌, ◌||◌, List, [], ◌∷◌, ◌++◌, Option, Some, None, sym, ap, subst, arith, inl, inr, length, take, drop}
use Rattle.std.specs.Prelude.{is_some, slice_get}
use Rattle.std.specs.List.{list_all}
use Rattle.std.specs.Option.{option_map}
use Rattle.std.proofs.Math.Seq.{take-add}
use Rattle.std.proofs.lemmas.Bool.{and_parts, true≢false}
use Rattle.std.proofs.lemmas.List.{length-map, take-append-drop, take_all}
use Rattle.std.proofs.lemmas.List.Elements.{All-append, All-nil}
use Rattle.std.proofs.lemmas.List.Folds.{list_any-append}
use Rattle.std.proofs.lemmas.Option.{slice_get-map, slice_get_within}
use Rattle.mpy_tree.specs.declared.value.Value.{Value}
use Rattle.mpy_tree.specs.Outcomes.{is_done}
use Rattle.mpy_tree.specs.Syntax.{Routine}
use Rattle.bounds_reader.specs.declared.bounds.Bounds.{Bounds}
use Rattle.input_space.specs.Agreement.{EndsAlike, ends_on}
use Rattle.test_picker.specs.declared.blocks.Block.{Block}
use Rattle.test_picker.specs.declared.blocks.Setting.{Setting}
use Rattle.test_picker.specs.declared.program.Program.{Program}
use Rattle.test_picker.specs.declared.search.Found.{Found}
use Rattle.test_picker.specs.Failing.{IsFirstFailure}
use Rattle.test_picker.specs.Findings.{IsFoundOn, ends_on_some}
use Rattle.test_picker.specs.LaneInputs.{IsBlockOf}
use Rattle.test_picker.specs.Programs.{program_of}
use Rattle.test_picker.specs.Settings.{bounds_of, reference_of, routines_in, typed_in, typed_reference}
use Rattle.test_picker.proofs.Failures.{later, stays}
use Rattle.test_picker.proofs.Places.{get_pushed, there}

-- PROGRAMS BY THEIR PLACES

pub routines_many : (qs : List Program) → length (routines_in qs) ≡ length qs
routines_many qs = length-map (typed_in qs) program_of ∙ length-map qs (λ (q : Program). q.typed.now)

pub typed_at : (qs : List Program) (i : ℕ) (q : Program) → slice_get qs i ≡ Some q
    → slice_get (typed_in qs) i ≡ Some q.typed.now
typed_at qs i q e =
    slice_get-map (λ (z : Program). z.typed.now) qs i ∙ ap (option_map (λ (z : Program). z.typed.now)) e

pub routine_at : (qs : List Program) (i : ℕ) (q : Program) → slice_get qs i ≡ Some q
    → slice_get (routines_in qs) i ≡ Some (program_of q.typed.now)
routine_at qs i q e =
    slice_get-map program_of (typed_in qs) i
    ∙ ap (option_map program_of) (slice_get-map (λ (q : Program). q.typed.now) qs i
    ∙ ap (option_map (λ (q : Program). q.typed.now)) e)

-- NO INPUT

pub record AreNone (firsts : List (Option ℕ)) (i : ℕ) : Type 0 where
  pub many : length firsts ≡ i
  pub each : (k : ℕ) (o : Option ℕ) → slice_get firsts k ≡ Some o → o ≡ None

pub none_more : (firsts new : List (Option ℕ)) (i : ℕ) → AreNone firsts i → new ≡ firsts ++ None ∷ []
    → AreNone new (i + 1)
none_more firsts new i h is = record {
  many = ap length is ∙ pushed_length firsts ∙ ap (λ n. n + 1) h.many;
  each = λ k o e. elim (get_pushed firsts None o k (sym (ap (λ z. slice_get z k) is) ∙ e)) [
    | inl g ↦ h.each k o g
    | inr g ↦ sym g.1
  ];
}
  where
    pushed_length : (xs : List (Option ℕ)) → length (xs ++ None ∷ []) ≡ length xs + 1
    pushed_length [] = omega arith
    pushed_length (x ∷ xs) = omega (arith, pushed_length xs)

pub found_none : (b : Bounds) (r : List Routine) (qs : List Program) (f : Found) (i : ℕ)
    → length qs ≤ i → i ≤ length qs → AreNone f.firsts.items i → f.ended ≡ false
    → IsFoundOn b r (routines_in qs) [] f
found_none b r qs f i h g none ended = record {
  many = none.many ∙ (let same : i ≡ length qs = omega (arith, h, g) in same) ∙ sym (routines_many qs);
  each = λ k p first at first_at.
      subst (λ o. IsFirstFailure b r p [] o) (sym (none.each k first first_at)) (All-nil (EndsAlike b r p));
  ended = ended;
}

-- ONE BLOCK MORE

abbrev pub IsLater : Setting → Block → ℕ → Program → Option ℕ → Option ℕ → Type 0
IsLater s k place q before o =
    (xs ys : List (List Value)) → length xs ≡ place
    → IsBlockOf (bounds_of s) (typed_reference s) ys k
    → IsFirstFailure (bounds_of s) (reference_of s) (program_of q.typed.now) xs before
    → IsFirstFailure (bounds_of s) (reference_of s) (program_of q.typed.now) (xs ++ ys) o

pub kept_first : (s : Setting) (k : Block) (place : ℕ) (q : Program) (n : ℕ) (o : Option ℕ)
    → o ≡ Some n → IsLater s k place q o o
kept_first s k place q n (Some m) e =
    λ xs ys long block first. stays (bounds_of s) (reference_of s) (program_of q.typed.now) xs ys m first
kept_first s k place q n None e = absurd cc

pub new_first : (s : Setting) (k : Block) (place : ℕ) (q : Program) (lane sum : ℕ) → sum ≡ place + lane
    → ((xs : List (List Value)) → IsBlockOf (bounds_of s) (typed_reference s) xs k
    → IsFirstFailure (bounds_of s) (reference_of s) (program_of q.typed.now) xs (Some lane))
    → IsLater s k place q None (Some sum)
new_first s k place q lane sum is first = λ xs ys long block none.
    let same : length xs + lane ≡ sum = omega (arith, long, is) in
    subst (λ n. IsFirstFailure (bounds_of s) (reference_of s) (program_of q.typed.now) (xs ++ ys) (Some n)) same
    (later (bounds_of s) (reference_of s) (program_of q.typed.now) xs ys lane none (first ys block))

pub no_first : (s : Setting) (k : Block) (place : ℕ) (q : Program)
    → ((xs : List (List Value)) → IsBlockOf (bounds_of s) (typed_reference s) xs k
    → IsFirstFailure (bounds_of s) (reference_of s) (program_of q.typed.now) xs None)
    → IsLater s k place q None None
no_first s k place q first = λ xs ys long block none.
    All-append (EndsAlike (bounds_of s) (reference_of s) (program_of q.typed.now)) xs ys none (first ys block)

-- of the first programs
pub record AreLater (s : Setting) (k : Block) (place : ℕ) (qs : List Program)
    (olds news : List (Option ℕ)) (i : ℕ) : Type 0 where
  pub many : length news ≡ i
  pub each : (j : ℕ) (q : Program) (before o : Option ℕ) → slice_get qs j ≡ Some q
      → slice_get olds j ≡ Some before → slice_get news j ≡ Some o → IsLater s k place q before o

same_value : {X : Type 0} (x y : X) → Some x ≡ Some y → x ≡ y
same_value x y e = cc

pub later_more : (s : Setting) (k : Block) (place : ℕ) (qs : List Program) (olds news new : List (Option ℕ))
    (i : ℕ) (q : Program) (before o : Option ℕ) → AreLater s k place qs olds news i
    → slice_get qs i ≡ Some q → slice_get olds i ≡ Some before → new ≡ news ++ o ∷ []
    → IsLater s k place q before o → AreLater s k place qs olds new (i + 1)
later_more s k place qs olds news new i q before o h at old_at is later = record {
  many = ap length is ∙ pushed_length news ∙ ap (λ n. n + 1) h.many;
  each = λ j p was now p_at was_at now_at.
      elim (get_pushed news o now j (sym (ap (λ z. slice_get z j) is) ∙ now_at)) [
        | inl g ↦ h.each j p was now p_at was_at g
        | inr g ↦
            let place_is : j ≡ i = g.0 ∙ h.many in
            let program = same_value q p (sym at ∙ ap (slice_get qs) (sym place_is) ∙ p_at) in
            let first = same_value before was (sym old_at ∙ ap (slice_get olds) (sym place_is) ∙ was_at) in
            subst (λ (z : Program). IsLater s k place z was now) program
            (subst (λ z. IsLater s k place q z now) first
            (subst (λ z. IsLater s k place q before z) g.1 later))
      ];
}
  where
    pushed_length : (xs : List (Option ℕ)) → length (xs ++ o ∷ []) ≡ length xs + 1
    pushed_length [] = omega arith
    pushed_length (x ∷ xs) = omega (arith, pushed_length xs)

program_at : (qs : List Program) (i : ℕ) (p : List Routine) → slice_get (routines_in qs) i ≡ Some p
    → (q : Program) × (slice_get qs i ≡ Some q) × (program_of q.typed.now ≡ p)
program_at qs i p e =
    let within : i < length (routines_in qs) = slice_get_within (routines_in qs) i p e in
    let many = routines_many qs in
    let here = there qs i (omega (arith, within, many)) in
    (here.0, here.1, same_value (program_of here.0.typed.now) p (sym (routine_at qs i here.0 here.1) ∙ e))

pub found_more : (s : Setting) (k : Block) (place : ℕ) (qs : List Program) (f g : Found) (i : ℕ)
    → length qs ≤ i → i ≤ length qs → AreLater s k place qs f.firsts.items g.firsts.items i
    → ((ys : List (List Value)) → IsBlockOf (bounds_of s) (typed_reference s) ys k
    → g.ended ≡ (f.ended || ends_on_some (bounds_of s) (reference_of s) ys))
    → (xs ys : List (List Value)) → length xs ≡ place
    → IsBlockOf (bounds_of s) (typed_reference s) ys k
    → IsFoundOn (bounds_of s) (reference_of s) (routines_in qs) xs f
    → IsFoundOn (bounds_of s) (reference_of s) (routines_in qs) (xs ++ ys) g
found_more s k place qs f g i past within h ended xs ys long block found =
    let many = routines_many qs in
    record {
      many = omega (arith, many, h.many, past, within);
      each = λ j p o at now_at.
          let program = program_at qs j p at in
          let below : j < length f.firsts.items =
          (let inside : j < length (routines_in qs) = slice_get_within (routines_in qs) j p at in
          omega (arith, inside, found.many)) in
          let was = there f.firsts.items j below in
          let before = found.each j (program_of program.0.typed.now) was.0
          (routine_at qs j program.0 program.1) was.1 in
          subst (λ z. IsFirstFailure (bounds_of s) (reference_of s) z (xs ++ ys) o) program.2
          (h.each j program.0 was.0 o program.1 was.1 now_at xs ys long block before);
      ended = ended ys block
          ∙ ap (λ t. t || ends_on_some (bounds_of s) (reference_of s) ys) found.ended
          ∙ sym (list_any-append (λ x. is_done (ends_on (bounds_of s) (reference_of s) x)) xs ys);
    }

-- ALL INPUTS

module _ (b : Bounds) (r : List Routine) (ps : List (List Routine)) where
  pub found_next : (all : List (List Value)) (k n : ℕ) (f : Found) → n ≡ (k + 1) * 64
      → IsFoundOn b r ps (take (k * 64) all ++ take 64 (drop (k * 64) all)) f
      → IsFoundOn b r ps (take n all) f
  found_next all k n f is found =
      let same : n ≡ k * 64 + 64 = omega (arith, is) in
      subst (λ xs. IsFoundOn b r ps xs f) (sym (ap (λ m. take m all) same ∙ take-add (k * 64) 64 all)) found

  pub found_all : (all : List (List Value)) (n : ℕ) (f : Found) → length all ≤ n
      → IsFoundOn b r ps (take n all) f → IsFoundOn b r ps all f
  found_all all n f past found = subst (λ xs. IsFoundOn b r ps xs f) (take_all n all past) found

  all_some : (xs : List (Option ℕ)) (i : ℕ) (o : Option ℕ) → list_all is_some xs ≡ true
      → slice_get xs i ≡ Some o → is_some o ≡ true
  all_some [] i o h e = absurd cc
  all_some (x ∷ xs) zero o h e =
      let parts = and_parts (is_some x) (list_all is_some xs) h in
      ap is_some (same_value o x (sym e)) ∙ parts.0
  all_some (x ∷ xs) (suc i) o h e =
      all_some xs i o (and_parts (is_some x) (list_all is_some xs) h).1 e

  some_stays : (p : List Routine) (xs ys : List (List Value)) (o : Option ℕ) → is_some o ≡ true
      → IsFirstFailure b r p xs o → IsFirstFailure b r p (xs ++ ys) o
  some_stays p xs ys None h first = absurd (true≢false (sym h))
  some_stays p xs ys (Some k) h first = stays b r p xs ys k first

  -- where each program has failed and the reference ended, more inputs change nothing
  pub settled : (all : List (List Value)) (n : ℕ) (f : Found)
      → (f.ended && list_all is_some f.firsts.items) ≡ true → IsFoundOn b r ps (take n all) f
      → IsFoundOn b r ps all f
  settled all n f h found =
      let parts = and_parts f.ended (list_all is_some f.firsts.items) h in
      let whole = take-append-drop n all in
      subst (λ xs. IsFoundOn b r ps xs f) whole (record {
        many = found.many;
        each = λ i p o at first_at. some_stays p (take n all) (drop n all) o
            (all_some f.firsts.items i o parts.1 first_at) (found.each i p o at first_at);
        ended = parts.0 ∙ sym (list_any-append (λ x. is_done (ends_on b r x)) (take n all) (drop n all)
            ∙ ap (λ t. t || ends_on_some b r (drop n all)) (sym found.ended ∙ parts.0));
      })
