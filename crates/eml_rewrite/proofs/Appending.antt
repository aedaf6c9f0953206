-- Trees that are built one after another.
use Rattle.std.proofs.Common.{◌≡◌, ℕ, suc, ◌+◌, List, [], ◌∷◌, ◌++◌, Result, Ok}
use Rattle.std.proofs.Common.{Err}
use Rattle.std.proofs.Common.{IsErr, IsErrAnd, Some, None, slice_get, drop, refl, ap, sym}
use Rattle.std.proofs.Common.{◌∙◌, arith}
use Rattle.choice_tree.specs.WeightedTrees.{Weighted, Weighteds, no_weighted, weighted_and, size}
use Rattle.choice_tree.specs.WeightedTrees.{sizes, picks, picks_in, numbered, numbered_all}
use Rattle.choice_tree.specs.WeightedViews.{weighteds}
use Rattle.eml_match.proofs.Places.{next_of, no_next}
use Rattle.eml_rewrite.specs.declared.counter.Counter.{Counter}
use Rattle.eml_rewrite.specs.declared.error.RewriteError.{RewriteError}
use Rattle.eml_rewrite.specs.declared.error.RewriteError.TheVariants as stop
use Rattle.eml_rewrite.specs.Building.{Took, Built, BuiltAll}

abbrev pub append_all : Weighteds → Weighteds → Weighteds
append_all no_weighted more = more
append_all (weighted_and w ws) more = weighted_and w (append_all ws more)

append_none : (ws : Weighteds) → append_all ws no_weighted ≡ ws
append_none no_weighted = refl
append_none (weighted_and w ws) = ap (weighted_and w) (append_none ws)

append_push : (xs : List Weighted) (w : Weighted) (more : Weighteds)
    → append_all (weighteds (xs ++ w ∷ [])) more ≡ append_all (weighteds xs) (weighted_and w more)
append_push [] w more = refl
append_push (x ∷ xs) w more = ap (weighted_and x) (append_push xs w more)

-- of all trees some are built, and the others are left
pub record AreBuilt (all left : Weighteds) (built : List Weighted) (start now : Counter)
    : Type 0 where
  pub trees :
      numbered_all all start.next ≡ append_all (weighteds built) (numbered_all left now.next)
  pub next : start.next + picks_in all ≡ now.next + picks_in left
  pub size : start.left + sizes left ≡ now.left + sizes all

pub none_built : (all left : Weighteds) (start : Counter) → all ≡ left
    → AreBuilt all left [] start start
none_built all left start e =
    rw e (record { trees = refl; next = refl; size = refl })

-- one more is built
built_more : (all rest : Weighteds) (w x : Weighted) (built more : List Weighted)
    (start now later : Counter) → AreBuilt all (weighted_and w rest) built start now
    → x ≡ numbered w now.next → Took now later (picks w) (size w) → more ≡ built ++ x ∷ []
    → AreBuilt all rest more start later
built_more all rest w x built more start now later h e b put =
    let next : now.next + picks w ≡ later.next = sym b.next in
    let first = h.next in
    let taken = b.left in
    let left = h.size in
    record {
      trees =
          h.trees
          ∙ (λ i. append_all (weighteds built) (weighted_and (sym e i) (numbered_all rest (next
          i))))
          ∙ sym (append_push built x (numbered_all rest later.next))
          ∙ ap (λ xs. append_all (weighteds xs) (numbered_all rest later.next)) (sym put);
      next = omega arith;
      size = omega arith;
    }

-- all are built
pub all_built : (all : Weighteds) (built : List Weighted) (start now : Counter)
    → AreBuilt all no_weighted built start now
    → (weighteds built ≡ numbered_all all start.next) × Took start now (picks_in all) (sizes all)
all_built all built start now h =
    let next = h.next in
    let left = h.size in (
      sym (h.trees ∙ append_none (weighteds built)),
      record { next = omega arith; left = omega arith },
    )

-- one isn't built, and so the whole isn't
not_built : {A B : Type 0} (seen : A → Weighted) (view : B → Weighteds) (e : RewriteError)
    (all rest : Weighteds) (w : Weighted) (built : List Weighted) (start now later : Counter)
    → AreBuilt all (weighted_and w rest) built start now → Built seen (Err e) w now later
    → BuiltAll view (Err e) all start later
not_built seen view stop.Large all rest w built start now later h b =
    let left = h.size in omega arith
not_built seen view stop.NoMemory all rest w built start now later h b = tt

pub not_built_by : {A B : Type 0} (seen : A → Weighted) (view : B → Weighteds) (r : Result B
    RewriteError)
    (e : RewriteError) (all rest : Weighteds) (w : Weighted) (built : List Weighted)
    (start now later : Counter) → IsErr r × IsErrAnd r (λ y. y ≡ e)
    → AreBuilt all (weighted_and w rest) built start now → Built seen (Err e) w now later
    → BuiltAll view r all start later
not_built_by seen view (Ok a) e all rest w built start now later f h b = absurd (f.1)
not_built_by seen view (Err y) e all rest w built start now later f h b =
    rw f.1 (not_built seen view e all rest w built start now later h b)

-- the trees of the elements of a list, each by its place
abbrev pub each_from : {X : Type 0} → (ℕ → X → Weighted) → ℕ → List X → Weighteds
each_from f i [] = no_weighted
each_from f i (x ∷ xs) = weighted_and (f i x) (each_from f (suc i) xs)

pub each_next : {X : Type 0} (f : ℕ → X → Weighted) (xs : List X) (i : ℕ) (x : X)
    → Some x ≡ slice_get xs i
    → each_from f i (drop i xs) ≡ weighted_and (f i x) (each_from f (suc i) (drop (suc i) xs))
each_next f xs i x h = ap (each_from f i) (next_of xs i x h)

pub each_end : {X : Type 0} (f : ℕ → X → Weighted) (xs : List X) (i : ℕ)
    → None ≡ slice_get xs i → each_from f i (drop i xs) ≡ no_weighted
each_end f xs i h = ap (each_from f i) (no_next xs i h)

-- the trees of a list of which the elements in front are built
abbrev pub FrontBuilt : {X : Type 0} → Weighteds → (ℕ → X → Weighted) → List X → ℕ
    → List Weighted → Counter → Counter → Type 0
FrontBuilt all f xs i built start now = AreBuilt all (each_from f i (drop i xs)) built start now

pub front_next : {X : Type 0} (all : Weighteds) (f : ℕ → X → Weighted) (xs : List X) (i j : ℕ)
    (x : X) (y : Weighted) (built more : List Weighted) (start now later : Counter) → j ≡ suc i
    → Some x ≡ slice_get xs i → FrontBuilt all f xs i built start now
    → y ≡ numbered (f i x) now.next → Took now later (picks (f i x)) (size (f i x))
    → more ≡ built ++ y ∷ [] → FrontBuilt all f xs j more start later
front_next all f xs i j x y built more start now later s h front e b put =
    rw s (built_more all (each_from f (suc i) (drop (suc i) xs)) (f i x) y built more start now
    later
    (rw (each_next f xs i x h) at front) e b put)

pub front_end : {X : Type 0} (all : Weighteds) (f : ℕ → X → Weighted) (xs : List X) (i : ℕ)
    (built : List Weighted) (start now : Counter) → None ≡ slice_get xs i
    → FrontBuilt all f xs i built start now
    → (weighteds built ≡ numbered_all all start.next) × Took start now (picks_in all) (sizes all)
front_end all f xs i built start now h front =
    all_built all built start now (rw (each_end f xs i h) at front)

pub front_stops : {A B X : Type 0} (seen : A → Weighted) (view : B → Weighteds) (r : Result B
    RewriteError)
    (e : RewriteError) (all : Weighteds) (f : ℕ → X → Weighted) (xs : List X) (i : ℕ) (x : X)
    (built : List Weighted) (start now later : Counter) → IsErr r × IsErrAnd r (λ y. y ≡ e)
    → Some x ≡ slice_get xs i → FrontBuilt all f xs i built start now
    → Built seen (Err e) (f i x) now later → BuiltAll view r all start later
front_stops seen view r e all f xs i x built start now later failed h front b =
    not_built_by seen view r e all (each_from f (suc i) (drop (suc i) xs)) (f i x) built start now
    later failed (rw (each_next f xs i x h) at front) b
