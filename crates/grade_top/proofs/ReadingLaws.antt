-- What the texts and words of `run` are read to, step after step.
use Rattle.std.proofs.Common.{◌≡◌, ◌≢◌, ℕ, suc, ◌+◌, List, [], ◌∷◌, ◌++◌, length, map, get_or, refl, sym, ap, subst, arith, inl, inr, drop, Vec, zero, ◌<◌, ◌≤◌, drop_of_length-le, append-nil}
use Rattle.std.specs.declared.alloc.Global.{Global}
use Rattle.std.proofs.lemmas.List.{append_assoc}
use Rattle.mpy_tree.specs.declared.refusal.Refusal.{Refusal}
use Rattle.mpy_tree.specs.declared.value.Value.{Value}
use Rattle.bounds_reader.specs.declared.params.Param.{Param}
use Rattle.input_space.specs.Cases.{SpellsCase}
use Rattle.input_space.proofs.OneCase.{one_case}
use Rattle.source_files.specs.Views.{texts_of}
use Rattle.grade_top.specs.Decisions.{value_step, values_step}

pub two_texts : (xs : List (Vec ℕ Global)) (a b : Vec ℕ Global) (s t : List ℕ) → length xs ≡ 2
    → a ≡ get_or xs 0 a → b ≡ get_or xs 1 b → s ≡ a.items → t ≡ b.items → s ∷ t ∷ [] ≡ texts_of xs
two_texts (i ∷ j ∷ []) a b s t len ia ib fa fb = cc
two_texts xs a b s t len ia ib fa fb = absurd (omega arith)

-- VALUES

-- a case that isn't one value
pub not_one : (text : List ℕ) (values : List Value) → SpellsCase text values → ((v : Value) → values ≢ v ∷ []) → (v : Value) → SpellsCase text (v ∷ []) → ⊥
not_one text values spells other v one = other v (one_case text values (v ∷ []) spells one)

-- the values so far, and how the others are read after them
pub record ReadsOn (ps : List Param) (ws : List (List ℕ)) (i : ℕ) (vs : List Value) : Type 0 where
  pub gives : (rest : List Value) → (values_step (i + 1) (drop i ps) (drop i ws)).gives rest → (values_step 1 ps ws).gives (vs ++ rest)
  pub refuses : (r : Refusal) → (values_step (i + 1) (drop i ps) (drop i ws)).refuses r → (values_step 1 ps ws).refuses r

-- one value more
pub read_on : (ps : List Param) (ws : List (List ℕ)) (i : ℕ) (vs : List Value) (p : Param) (w : List ℕ) (v : Value) → drop i ps ≡ p ∷ drop (i + 1) ps → drop i ws ≡ w ∷ drop (i + 1) ws
    → (value_step (i + 1) p w).gives v → ReadsOn ps ws i vs → ReadsOn ps ws (i + 1) (vs ++ v ∷ [])
read_on ps ws i vs p w v is word value before =
    let next : i + 1 + 1 ≡ suc (i + 1) = omega arith in
    record {
      gives = λ rest given.
          let here : (values_step (i + 1) (p ∷ drop (i + 1) ps) (w ∷ drop (i + 1) ws)).gives (v ∷ rest) =
          record { first = v; given = value; second = record { first = rest; given = subst (λ n. (values_step n (drop (i + 1) ps) (drop (i + 1) ws)).gives rest) next given; second = refl } } in
          subst (values_step 1 ps ws).gives (sym (append_assoc vs (v ∷ []) rest)) (before.gives (v ∷ rest) (rw (is, word) here));
      refuses = λ r refused.
          let here : (values_step (i + 1) (p ∷ drop (i + 1) ps) (w ∷ drop (i + 1) ws)).refuses r =
          inr (record { first = v; given = value; second = inl (subst (λ n. (values_step n (drop (i + 1) ps) (drop (i + 1) ws)).refuses r) next refused) }) in
          before.refuses r (rw (is, word) here);
    }

pub value_refused : (ps : List Param) (ws : List (List ℕ)) (i : ℕ) (vs : List Value) (p : Param) (w : List ℕ) → drop i ps ≡ p ∷ drop (i + 1) ps → drop i ws ≡ w ∷ drop (i + 1) ws
    → ReadsOn ps ws i vs → (r : Refusal) → (value_step (i + 1) p w).refuses r → (values_step 1 ps ws).refuses r
value_refused ps ws i vs p w is word before r h =
    let here : (values_step (i + 1) (p ∷ drop (i + 1) ps) (w ∷ drop (i + 1) ws)).refuses r = inl h in
    before.refuses r (rw (is, word) here)

pub item_at : {X : Type 0} (xs : List X) (i : ℕ) (x : X) → i < length xs → x ≡ get_or xs i x → drop i xs ≡ x ∷ drop (i + 1) xs
item_at [] i x below is = absurd (omega arith)
item_at (y ∷ xs) zero x below is = ap (λ z. z ∷ xs) (sym is)
item_at (y ∷ xs) (suc i) x below is =
    let rest : drop i xs ≡ x ∷ drop (i + 1) xs = item_at xs i x (omega arith) is in
    let next : suc i + 1 ≡ suc (i + 1) = omega arith in
    rw next rest

pub mapped_at : {X Y : Type 0} (f : X → Y) (xs : List X) (i : ℕ) (x : X) → i < length xs → x ≡ get_or xs i x → drop i (map f xs) ≡ f x ∷ drop (i + 1) (map f xs)
mapped_at f [] i x below is = absurd (omega arith)
mapped_at f (y ∷ xs) zero x below is = ap (λ z. f z ∷ map f xs) (sym is)
mapped_at f (y ∷ xs) (suc i) x below is =
    let rest : drop i (map f xs) ≡ f x ∷ drop (i + 1) (map f xs) = mapped_at f xs i x (omega arith) is in
    let next : suc i + 1 ≡ suc (i + 1) = omega arith in
    rw next rest

pub all_read : (ps : List Param) (ws : List (List ℕ)) (i : ℕ) (vs : List Value) → length ps ≤ i → ReadsOn ps ws i vs → (values_step 1 ps ws).gives vs
all_read ps ws i vs past before =
    let none : drop i ps ≡ [] = drop_of_length-le ps past in
    subst (values_step 1 ps ws).gives (append-nil vs) (before.gives [] (rw none refl))
