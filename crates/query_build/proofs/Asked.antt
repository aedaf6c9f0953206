-- What is asked where picks may be given, and case by case.
use Rattle.std.proofs.Common.{◌≡◌, ◌∙◌, ℕ, zero, suc, ◌+◌, ◌<◌, Bool, true, false, ◌&&◌, ◌||◌}
use Rattle.std.proofs.Common.{List, [], ◌∷◌, Option, Some, None, ap, arith, inl, inr, refl}
use Rattle.std.proofs.Common.{subst, sym, length}
use Rattle.std.specs.Prelude.{IfSome, option_map}
use Rattle.std.specs.List.{AllZip}
use Rattle.std.proofs.lemmas.Bool.{cases_lt, or_left, or_right}
use Rattle.std.proofs.lemmas.List.Folds.{list_any-append}
use Rattle.mpy_tree.specs.declared.value.Value.{Value}
use Rattle.mpy_tree.specs.Operations.{below}
use Rattle.mpy_tree.specs.Syntax.{Routine}
use Rattle.bit_words.specs.Logic.{Keeps}
use Rattle.input_bits.specs.declared.parts.Split.{Split}
use Rattle.input_bits.specs.Cases.{is_in_case}
use Rattle.input_space.specs.Tasks.{Task}
use Rattle.task_bits.specs.Tasks.{ArePicksOf}
use Rattle.task_bits.proofs.Later.{picks_later, picks_read_later}
use Rattle.query_build.specs.Asking.{Choose, MayChoose}
use Rattle.query_build.specs.Inputs.{is_in_cases}

-- PICKS THAT MAY BE GIVEN

module _ {B : Type 0} (rd : B → Bool) (k : Task) where
  pub none_chosen : (o : Option (List (List B))) (p : Option (List Routine)) → o ≡ None
      → MayChoose rd k o p → p ≡ None
  none_chosen o None e h = refl
  none_chosen None (Some p) e h = absurd h
  none_chosen (Some ps) (Some p) e h = absurd cc

  pub some_chosen : (ps : List (List B)) (p : Option (List Routine)) → MayChoose rd k (Some ps) p
      → (q : List Routine) × (p ≡ Some q) × Choose rd k ps q
  some_chosen ps None h = absurd h
  some_chosen ps (Some q) h = (q, refl, h)

module _ {S B A : Type 0} {owns : S → B → Type 0} {reads : S → List Bool → B → Bool} {s t : S}
    (k : Task) (picks_of : A → List (List B)) where
  pub given_later : (o : Option A) → Keeps owns reads s t
      → IfSome o (λ ps. ArePicksOf owns s k (picks_of ps))
      → IfSome o (λ ps. ArePicksOf owns t k (picks_of ps))
  given_later None p h = tt
  given_later (Some ps) p h = picks_later p h

  pub chosen_later : (o : Option A) (p : Option (List Routine)) (vs : List Bool)
      → Keeps owns reads s t → IfSome o (λ ps. ArePicksOf owns s k (picks_of ps))
      → MayChoose (reads s vs) k (option_map picks_of o) p
      → MayChoose (reads t vs) k (option_map picks_of o) p
  chosen_later None None vs later h c = tt
  chosen_later None (Some p) vs later h c = absurd c
  chosen_later (Some ps) None vs later h c = absurd c
  chosen_later (Some ps) (Some p) vs later h c = record {
    members = c.members;
    read = picks_read_later later h vs c.members c.read;
    made = c.made;
  }

-- CASES

-- under a condition alone
pub and_under : (c a b : Bool) → (c ≡ true → a ≡ b) → (c && a) ≡ (c && b)
and_under true a b h = h refl
and_under false a b h = refl

pub or_same : (a b x y : Bool) → a ≡ x → b ≡ y → (a || b) ≡ (x || y)
or_same a b x y e h = λ i. e i || h i

share : (a b c : Bool) → ((a && c) || (b && c)) ≡ ((a || b) && c)
share true true true = refl
share true true false = refl
share true false true = refl
share true false false = refl
share false b c = refl

or_nothing : (b : Bool) → (b || false) ≡ b
or_nothing true = refl
or_nothing false = refl

module _ (ss : List Split) (xs : List Value) where
  in_one_more : (n : ℕ) → is_in_cases ss (suc n) xs ≡ (is_in_cases ss n xs || is_in_case ss n xs)
  in_one_more n =
      list_any-append (λ number. is_in_case ss number xs) (below n) (n ∷ [])
      ∙ ap (λ b. is_in_cases ss n xs || b) (or_nothing (is_in_case ss n xs))

  -- one case more
  pub case_more : (n : ℕ) (asked : Bool)
      → ((is_in_cases ss n xs && asked) || (is_in_case ss n xs && asked))
      ≡ (is_in_cases ss (n + 1) xs && asked)
  case_more n asked =
      let step : suc n ≡ n + 1 = omega arith in
      share (is_in_cases ss n xs) (is_in_case ss n xs) asked
      ∙ ap (λ b. b && asked) (sym (in_one_more n) ∙ ap (λ m. is_in_cases ss m xs) step)

  -- values of one of the cases are in one of them
  pub in_some : (count n : ℕ) → n < count → is_in_case ss n xs ≡ true
      → is_in_cases ss count xs ≡ true
  in_some zero n h e = absurd (omega arith)
  in_some (suc count) n h e =
      in_one_more count
      ∙ elim (cases_lt n count) [
        | inl l ↦ or_left (is_in_cases ss count xs) (is_in_case ss count xs) (in_some count n l e)
        | inr l ↦
            let same : n ≡ count = omega (arith, h, l) in
            or_right (is_in_cases ss count xs) (is_in_case ss count xs)
            (subst (λ m. is_in_case ss m xs ≡ true) same e)
      ]

pub as_long : {A C : Type 0} (R : A → C → Type 0) (xs : List A) (ys : List C) → AllZip R xs ys
    → length xs ≡ length ys
as_long R [] [] h = refl
as_long R [] (y ∷ ys) h = absurd h
as_long R (x ∷ xs) [] h = absurd h
as_long R (x ∷ xs) (y ∷ ys) h = ap suc (as_long R xs ys h.1)
