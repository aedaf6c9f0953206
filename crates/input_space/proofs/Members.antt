-- The values within the ranges of a parameter are those that it may have.
use Rattle.std.proofs.Common.{◌≡◌, ℕ, suc, ◌+◌, ◌-◌, ◌<◌, ◌≤◌, Bool, true, false, ◌&&◌, ◌||◌, ◌==◌, nat_le, ◌⊎◌, inl, inr, List, [], ◌∷◌, map, length, replicate, ℤ, pos, ◌+ℤ◌, ◌-ℤ◌, nat_abs, refl, sym, subst, arith, drop, get_or, ap, ◌∙◌}
use Rattle.std.specs.List.{AllZip, Contains, list_all, list_any}
use Rattle.std.proofs.lemmas.Int.{ints}
use Rattle.std.proofs.lemmas.List.{drop_more}
use Rattle.mpy_tree.specs.declared.value.Value.{Value}
use Rattle.mpy_tree.specs.declared.value.Value.TheVariants as value
use Rattle.mpy_tree.specs.Operations.{below}
use Rattle.bounds_reader.specs.declared.params.Param.{Param}
use Rattle.bounds_reader.specs.declared.params.Param.TheVariants as param
use Rattle.input_space.specs.Inputs.{are_within, has_length, inputs, is_between, is_within, lists_over, numbers, span, tuples, values_of}
use Rattle.input_space.proofs.Membership.{here, there, nowhere, alone, cons_cases, Contains-map, Contains-from_map, Contains-flat_map, Contains-from_flat_map, Contains-tuples, Contains-from_tuples, Contains-below, lt-from_below, from_powers, in_powers, both, two}

-- numbers

between_of : (low high : ℤ) (k : ℕ) → k < span low high → is_between low high (low +ℤ pos k) ≡ true
between_of low high k h = grind (arith, ints)

pub is_between-number : (low high z : ℤ) → Contains (numbers low high) z → is_between low high z ≡ true
is_between-number low high z h =
    let r = Contains-from_map (λ k. low +ℤ pos k) (below (span low high)) z h in
    subst (λ y. is_between low high y ≡ true) r.2 (between_of low high r.0 (lt-from_below (span low high) r.0 r.1))

place : (low high z : ℤ) → is_between low high z ≡ true → (nat_abs (z -ℤ low) < span low high) × (low +ℤ pos (nat_abs (z -ℤ low)) ≡ z)
place low high z h = (grind (arith, ints), grind (arith, ints))

pub number-is_between : (low high z : ℤ) → is_between low high z ≡ true → Contains (numbers low high) z
number-is_between low high z h =
    let r = place low high z h in
    let k = nat_abs (z -ℤ low) in
    subst (Contains (numbers low high)) r.1 (Contains-map (λ k. low +ℤ pos k) (below (span low high)) k (Contains-below (span low high) k r.0))

-- characters

same_number : (d c : ℕ) → (d == c) ≡ true → d ≡ c
same_number d c h = grind arith

either : (a b : Bool) → (a || b) ≡ true → (a ≡ true) ⊎ (b ≡ true)
either true b h = inl refl
either false b h = inr h

in_alphabet : (alphabet : List ℕ) (c : ℕ) → list_any (λ d. d == c) alphabet ≡ true → Contains alphabet c
in_alphabet [] c h = absurd (cc)
in_alphabet (d ∷ ds) c h =
    elim (either (d == c) (list_any (λ e. e == c) ds) h) [
      | inl a ↦ subst (Contains (d ∷ ds)) (same_number d c a) (here d ds)
      | inr b ↦ there d ds c (in_alphabet ds c b)
    ]

of_alphabet : (alphabet : List ℕ) (c : ℕ) → Contains alphabet c → list_any (λ d. d == c) alphabet ≡ true
of_alphabet [] c h = absurd (nowhere c h)
of_alphabet (d ∷ ds) c h =
    elim (cons_cases d ds c h) [
      | inl e ↦ grind arith
      | inr a ↦ let b : list_any (λ e. e == c) ds ≡ true = of_alphabet ds c a in grind arith
    ]

-- lists

has_length_is : {A : Type 0} (least most k : ℕ) (ys : List A) → k < suc most - least → length ys ≡ least + k → has_length least most ys ≡ true
has_length_is least most k ys h e = grind arith

length_in : {A : Type 0} (least most : ℕ) (ys : List A) → has_length least most ys ≡ true → (length ys - least < suc most - least) × (least + (length ys - least) ≡ length ys)
length_in least most ys h =
    let r = both (nat_le least (length ys)) (nat_le (length ys) most) h in
    let low : least ≤ length ys = grind (arith, r.0) in
    let high : length ys ≤ most = grind (arith, r.1) in
    (omega arith, omega arith)

module _ {A : Type 0} (least most : ℕ) (xs : List A) (test : A → Bool) where
  pub from_lists : ((x : A) → Contains xs x → test x ≡ true) → (ys : List A) → Contains (lists_over least most xs) ys → (has_length least most ys && list_all test ys) ≡ true
  from_lists t ys h =
      let r = Contains-from_flat_map (λ k. tuples (replicate (least + k) xs)) (below (suc most - least)) ys h in
      let k = lt-from_below (suc most - least) r.0 r.1 in
      let s = from_powers xs test t (least + r.0) ys (Contains-from_tuples (replicate (least + r.0) xs) ys r.2) in
      two (has_length least most ys) (list_all test ys) (has_length_is least most r.0 ys k s.0) s.1

  pub in_lists : ((x : A) → test x ≡ true → Contains xs x) → (ys : List A) → (has_length least most ys && list_all test ys) ≡ true → Contains (lists_over least most xs) ys
  in_lists t ys h =
      let r = both (has_length least most ys) (list_all test ys) h in
      let s = length_in least most ys r.0 in
      let k = length ys - least in
      let each = Contains-tuples (replicate (length ys) xs) ys (in_powers xs test t ys r.1) in
      Contains-flat_map (λ k. tuples (replicate (least + k) xs)) (below (suc most - least)) k ys
      (Contains-below (suc most - least) k s.0)
      (subst (λ n. Contains (tuples (replicate n xs)) ys) (sym s.1) each)

-- values

pub is_within-value : (p : Param) (v : Value) → Contains (values_of p) v → is_within p v ≡ true
is_within-value (param.Int low high) v h =
    let r = Contains-from_map value.Int (numbers low high) v h in
    subst (λ w. is_within (param.Int low high) w ≡ true) r.2 (is_between-number low high r.0 r.1)
is_within-value param.Bool v h =
    elim (cons_cases (value.Bool false) (value.Bool true ∷ []) v h) [
      | inl e ↦ subst (λ w. is_within param.Bool w ≡ true) e refl
      | inr a ↦ subst (λ w. is_within param.Bool w ≡ true) (alone (value.Bool true) v a) refl
    ]
is_within-value (param.List least most low high) v h =
    let r = Contains-from_map value.List (lists_over least most (numbers low high)) v h in
    subst (λ w. is_within (param.List least most low high) w ≡ true) r.2
    (from_lists least most (numbers low high) (is_between low high) (is_between-number low high) r.0 r.1)
is_within-value (param.Text least most alphabet) v h =
    let r = Contains-from_map value.Text (lists_over least most alphabet) v h in
    subst (λ w. is_within (param.Text least most alphabet) w ≡ true) r.2
    (from_lists least most alphabet (λ c. list_any (λ d. d == c) alphabet) (of_alphabet alphabet) r.0 r.1)

pub value-is_within : (p : Param) (v : Value) → is_within p v ≡ true → Contains (values_of p) v
value-is_within (param.Int low high) (value.Int z) h =
    Contains-map value.Int (numbers low high) z (number-is_between low high z h)
value-is_within param.Bool (value.Bool false) h = here (value.Bool false) (value.Bool true ∷ [])
value-is_within param.Bool (value.Bool true) h = there (value.Bool false) (value.Bool true ∷ []) (value.Bool true) (here (value.Bool true) [])
value-is_within (param.List least most low high) (value.List zs) h =
    Contains-map value.List (lists_over least most (numbers low high)) zs
    (in_lists least most (numbers low high) (is_between low high) (number-is_between low high) zs h)
value-is_within (param.Text least most alphabet) (value.Text cs) h =
    Contains-map value.Text (lists_over least most alphabet) cs
    (in_lists least most alphabet (λ c. list_any (λ d. d == c) alphabet) (in_alphabet alphabet) cs h)
value-is_within _ _ h = absurd (cc)

each_within : (ps : List Param) (vs : List Value) → are_within ps vs ≡ true → AllZip Contains (map values_of ps) vs
each_within [] [] h = tt
each_within [] (v ∷ vs) h = absurd (cc)
each_within (p ∷ ps) [] h = absurd (cc)
each_within (p ∷ ps) (v ∷ vs) h =
    let r = both (is_within p v) (are_within ps vs) h in
    (value-is_within p v r.0, each_within ps vs r.1)

within_each : (ps : List Param) (vs : List Value) → AllZip Contains (map values_of ps) vs → are_within ps vs ≡ true
within_each [] [] h = refl
within_each [] (v ∷ vs) h = absurd h
within_each (p ∷ ps) [] h = absurd h
within_each (p ∷ ps) (v ∷ vs) h =
    two (is_within p v) (are_within ps vs) (is_within-value p v h.0) (within_each ps vs h.1)

pub input-are_within : (ps : List Param) (vs : List Value) → are_within ps vs ≡ true → Contains (inputs ps) vs
input-are_within ps vs h = Contains-tuples (map values_of ps) vs (each_within ps vs h)

pub are_within-input : (ps : List Param) (vs : List Value) → Contains (inputs ps) vs → are_within ps vs ≡ true
are_within-input ps vs h = within_each ps vs (Contains-from_tuples (map values_of ps) vs h)

-- one value that isn't within the ranges
pub not_within : (ps : List Param) (vs : List Value) (i : ℕ) (p : Param) (v : Value) (all : Bool) → i < length ps → i < length vs → p ≡ get_or ps i p → v ≡ get_or vs i v → is_within p v ≡ false → are_within (drop i ps) (drop i vs) ≡ all → false ≡ all
not_within ps vs i p v all h g e f n a =
    let x : drop i ps ≡ p ∷ drop (i + 1) ps = drop_more ps i p h ∙ ap (λ q. q ∷ drop (i + 1) ps) (sym e) in
    let y : drop i vs ≡ v ∷ drop (i + 1) vs = drop_more vs i v g ∙ ap (λ w. w ∷ drop (i + 1) vs) (sym f) in
    sym (ap (λ b. b && are_within (drop (i + 1) ps) (drop (i + 1) vs)) n)
    ∙ sym (ap (λ qs. are_within qs (v ∷ drop (i + 1) vs)) x)
    ∙ sym (ap (are_within (drop i ps)) y)
    ∙ a
