-- The submissions of texts, one after the other.
use Rattle.std.proofs.Common.{◌≡◌, ◌∙◌, ℕ, zero, suc, ◌+◌, ◌-◌, ◌<◌, ◌≤◌, List, [], ◌∷◌, ◌++◌, sym, ap, subst, arith, refl, inl, inr, map, length, drop, take, get_or, append_assoc, append-nil, Vec}
use Rattle.std.specs.declared.alloc.Global.{Global}
use Rattle.std.specs.List.{All}
use Rattle.std.proofs.lemmas.List.{get_or-map, length-map, map-append}
use Rattle.mpy_tree.specs.Entries.{Entry}
use Rattle.source_files.specs.Views.{texts_of}
use Rattle.std.proofs.Math.ListN.{drop_of_length-le}
use lib.Seq.{take-length}
use Rattle.mpy_tree.specs.declared.refusal.Refusal.{Refusal}
use Rattle.mpy_tree.specs.declared.refusal.Cause.TheVariants as cause
use Rattle.mpy_tree.specs.declared.refusal.Source.{Source}
use Rattle.mpy_tree.specs.declared.refusal.Source.TheVariants as source
use Rattle.bounds_reader.specs.declared.bounds.Bounds.{Bounds}
use Rattle.input_space.specs.Tasks.{entry_at, entry_line}
use Rattle.task_read.specs.Sources.{Typed, bounds_step, program_step, refusal}
use Rattle.task_read.specs.Steps.{refuse_if}
use Rattle.pick_command.specs.Decisions.{GiveOneType, first_place, parts_step, programs_step, types_step}

pub item_at : {X : Type 0} (xs : List X) (i : ℕ) (x : X) → i < length xs → x ≡ get_or xs i x
    → drop i xs ≡ x ∷ drop (i + 1) xs
item_at [] i x below is = absurd (omega arith)
item_at (y ∷ xs) zero x below is = ap (λ z. z ∷ xs) (sym is)
item_at (y ∷ xs) (suc i) x below is =
    let rest : drop i xs ≡ x ∷ drop (i + 1) xs = item_at xs i x (omega arith) is in
    let next : suc i + 1 ≡ suc (i + 1) = omega arith in
    rw next rest

pub mapped_at : {X Y : Type 0} (f : X → Y) (xs : List X) (i : ℕ) (x : X) → i < length xs
    → x ≡ get_or xs i x → drop i (map f xs) ≡ f x ∷ drop (i + 1) (map f xs)
mapped_at f [] i x below is = absurd (omega arith)
mapped_at f (y ∷ xs) zero x below is = ap (λ z. f z ∷ map f xs) (sym is)
mapped_at f (y ∷ xs) (suc i) x below is =
    let rest : drop i (map f xs) ≡ f x ∷ drop (i + 1) (map f xs) = mapped_at f xs i x (omega arith) is in
    let next : suc i + 1 ≡ suc (i + 1) = omega arith in
    rw next rest

pub mapped_push : {X Y : Type 0} (f : X → Y) (xs ys : List X) (x : X) → ys ≡ xs ++ x ∷ []
    → map f ys ≡ map f xs ++ f x ∷ []
mapped_push f xs ys x is = ap (map f) is ∙ map-append f xs (x ∷ [])

-- one of texts that fit
pub fit_at : (xs : List (Vec ℕ Global)) (most i : ℕ) (x : Vec ℕ Global) (text : List ℕ)
    → All (λ t. length t ≤ most) (texts_of xs) → i < length xs → x ≡ get_or xs i x → text ≡ x.items
    → length text ≤ most
fit_at xs most i x text fit below is text_is =
    let many = length-map xs (λ v. v.items) in
    let here = fit i [] (omega (arith, many, below)) in
    let there : get_or (texts_of xs) i [] ≡ text =
    get_or-map (λ v. v.items) xs i x [] below ∙ ap (λ v. v.items) (sym is) ∙ sym text_is in
    subst (λ t. length t ≤ most) there here

module _ (e : Entry) (texts : List (List ℕ)) where
  -- the submissions so far, and how the others are read after them
  pub record ReadsOn (i : ℕ) (ps : List Typed) : Type 0 where
    pub gives : (rest : List Typed) → (programs_step (first_place + i) (drop i texts) e).gives rest
        → (programs_step first_place texts e).gives (ps ++ rest)
    pub refuses : (r : Refusal) → (programs_step (first_place + i) (drop i texts) e).refuses r
        → (programs_step first_place texts e).refuses r

  pub none_read : ReadsOn 0 []
  none_read = record { gives = λ rest h. h; refuses = λ r h. h }

  pub read_on : (i : ℕ) (ps qs : List Typed) (s : Source) (text : List ℕ) (p : Typed)
      → s ≡ source.Word (first_place + i) → drop i texts ≡ text ∷ drop (i + 1) texts
      → (program_step s text e).gives p → qs ≡ ps ++ p ∷ [] → ReadsOn i ps → ReadsOn (i + 1) qs
  read_on i ps qs s text p named is read added before =
      let next : first_place + (i + 1) ≡ suc (first_place + i) = omega arith in
      let given = subst (λ q. (program_step q text e).gives p) named read in
      subst (ReadsOn (i + 1)) (sym added) (record {
        gives = λ rest h.
            let tail = subst (λ n. (programs_step n (drop (i + 1) texts) e).gives rest) next h in
            let here : (programs_step (first_place + i) (text ∷ drop (i + 1) texts) e).gives (p ∷ rest) =
            record { first = p; given = given; second = record { first = rest; given = tail; second = refl } } in
            subst (programs_step first_place texts e).gives (sym (append_assoc ps (p ∷ []) rest))
            (before.gives (p ∷ rest)
            (subst (λ us. (programs_step (first_place + i) us e).gives (p ∷ rest)) (sym is) here));
        refuses = λ r h.
            let tail = subst (λ n. (programs_step n (drop (i + 1) texts) e).refuses r) next h in
            let here : (programs_step (first_place + i) (text ∷ drop (i + 1) texts) e).refuses r =
            inr (record { first = p; given = given; second = inl tail }) in
            before.refuses r (subst (λ us. (programs_step (first_place + i) us e).refuses r) (sym is) here);
      })

  pub one_refused : (i : ℕ) (ps : List Typed) (s : Source) (text : List ℕ)
      → s ≡ source.Word (first_place + i) → drop i texts ≡ text ∷ drop (i + 1) texts
      → ReadsOn i ps → (r : Refusal) → (program_step s text e).refuses r
      → (programs_step first_place texts e).refuses r
  one_refused i ps s text named is before r h =
      let here : (programs_step (first_place + i) (text ∷ drop (i + 1) texts) e).refuses r =
      inl (subst (λ q. (program_step q text e).refuses r) named h) in
      before.refuses r (subst (λ us. (programs_step (first_place + i) us e).refuses r) (sym is) here)

  pub all_read : (i : ℕ) (ps : List Typed) → length texts ≤ i → ReadsOn i ps
      → (programs_step first_place texts e).gives ps
  all_read i ps past before =
      let none : drop i texts ≡ [] = drop_of_length-le texts past in
      subst (programs_step first_place texts e).gives (append-nil ps)
      (before.gives [] (subst (λ us. (programs_step (first_place + i) us e).gives []) (sym none) refl))

module _ (b : Bounds) (r : Typed) (ps : List Typed) where
  -- the submissions so far give results of the reference's type
  pub record ComparesOn (i : ℕ) : Type 0 where
    pub gives : (u : Unit) → (types_step b r (first_place + i) (drop i ps)).gives u
        → (types_step b r first_place ps).gives u
    pub refuses : (q : Refusal) → (types_step b r (first_place + i) (drop i ps)).refuses q
        → (types_step b r first_place ps).refuses q

  pub none_compared : ComparesOn 0
  none_compared = record { gives = λ u h. h; refuses = λ q h. h }

  pub compare_on : (i : ℕ) (p : Typed) → drop i ps ≡ p ∷ drop (i + 1) ps → GiveOneType b r p
      → ComparesOn i → ComparesOn (i + 1)
  compare_on i p is same before =
      let next : first_place + (i + 1) ≡ suc (first_place + i) = omega arith in
      record {
        gives = λ u h.
            let tail = subst (λ n. (types_step b r n (drop (i + 1) ps)).gives u) next h in
            let here : (types_step b r (first_place + i) (p ∷ drop (i + 1) ps)).gives u =
            record { first = tt; given = λ differ. differ same; second = tail } in
            before.gives u (subst (λ us. (types_step b r (first_place + i) us).gives u) (sym is) here);
        refuses = λ q h.
            let tail = subst (λ n. (types_step b r n (drop (i + 1) ps)).refuses q) next h in
            let here : (types_step b r (first_place + i) (p ∷ drop (i + 1) ps)).refuses q =
            inr (record { first = tt; given = λ differ. differ same; second = tail }) in
            before.refuses q (subst (λ us. (types_step b r (first_place + i) us).refuses q) (sym is) here);
      }

  pub one_differs : (i : ℕ) (p : Typed) (s : Source) → s ≡ source.Word (first_place + i)
      → drop i ps ≡ p ∷ drop (i + 1) ps → ComparesOn i → (q : Refusal)
      → (refuse_if (GiveOneType b r p → ⊥)
      (refusal s cause.ResultType (entry_line b p.program))).refuses q
      → (types_step b r first_place ps).refuses q
  one_differs i p s named is before q h =
      let here : (types_step b r (first_place + i) (p ∷ drop (i + 1) ps)).refuses q =
      inl (h.0, h.1 ∙ ap (λ x. refusal x cause.ResultType (entry_line b p.program)) named) in
      before.refuses q (subst (λ us. (types_step b r (first_place + i) us).refuses q) (sym is) here)

  pub all_compared : (i : ℕ) (u : Unit) → length ps ≤ i → ComparesOn i
      → (types_step b r first_place ps).gives u
  all_compared i tt past before =
      let none : drop i ps ≡ [] = drop_of_length-le ps past in
      before.gives tt (subst (λ us. (types_step b r (first_place + i) us).gives tt) (sym none) refl)

-- the texts of bounds, of a reference, and of submissions
pub two_and_more : (xs : List (Vec ℕ Global)) (a b : Vec ℕ Global) (s t : List ℕ) → 2 ≤ length xs
    → a ≡ get_or xs 0 a → b ≡ get_or xs 1 b → s ≡ a.items → t ≡ b.items
    → texts_of xs ≡ s ∷ t ∷ texts_of (take (length xs - 2) (drop 2 xs))
two_and_more (i ∷ j ∷ xs) a b s t len ia ib fa fb =
    let many : length xs ≡ length (i ∷ j ∷ xs) - 2 = omega arith in
    let rest : texts_of xs ≡ texts_of (take (length (i ∷ j ∷ xs) - 2) xs) =
    ap texts_of (sym (ap (λ k. take k xs) (sym many) ∙ take-length xs)) in
    cc
two_and_more xs a b s t len ia ib fa fb = absurd (omega arith)

-- the texts behind the first two fit too
pub all_behind : (most : ℕ) (all : List (List ℕ)) (s t : List ℕ) (rest : List (List ℕ))
    → all ≡ s ∷ t ∷ rest → All (λ u. length u ≤ most) all → All (λ u. length u ≤ most) rest
all_behind most all s t rest is fit = λ k d below.
    let whole : All (λ u. length u ≤ most) (s ∷ t ∷ rest) =
    subst (λ us. All (λ u. length u ≤ most) us) is fit in
    whole (suc (suc k)) d (omega arith)

-- THE PARTS, step after step

module _ (texts : List (List ℕ)) (bounds reference : List ℕ) (others : List (List ℕ))
    (is : texts ≡ bounds ∷ reference ∷ others) where
  pub at_bounds : (q : Refusal) → (bounds_step bounds).refuses q → (parts_step texts).refuses q
  at_bounds q h = subst (λ ts. (parts_step ts).refuses q) (sym is) (inl h)

  module _ (b : Bounds) (read : (bounds_step bounds).gives b) where
    pub at_program : (q : Refusal) → (program_step source.Reference reference (entry_at b)).refuses q
        → (parts_step texts).refuses q
    at_program q h =
        subst (λ ts. (parts_step ts).refuses q) (sym is)
        (inr (record { first = b; given = read; second = inl h }))

    module _ (r : Typed)
        (first : (program_step source.Reference reference (entry_at b)).gives r) where
      pub at_others : (q : Refusal) → (programs_step first_place others (entry_at b)).refuses q
          → (parts_step texts).refuses q
      at_others q h =
          subst (λ ts. (parts_step ts).refuses q) (sym is)
          (inr (record {
            first = b;
            given = read;
            second = inr (record { first = r; given = first; second = inl h });
          }))

      pub parts_given : (ps : List Typed) → (programs_step first_place others (entry_at b)).gives ps
          → (parts_step texts).gives (record { bounds = b; reference = r; submissions = ps })
      parts_given ps h =
          subst (λ ts. (parts_step ts).gives (record { bounds = b; reference = r; submissions = ps }))
          (sym is)
          (record {
            first = b;
            given = read;
            second = record {
              first = r;
              given = first;
              second = record { first = ps; given = h; second = refl };
            };
          })
