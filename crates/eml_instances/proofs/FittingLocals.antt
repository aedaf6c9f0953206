-- The locals beside bindings.
use Rattle.std.proofs.Common.{◌≡◌, ℕ, Bool, true, false, if◌then◌else◌, List, [], ◌∷◌, ◌++◌, map}
use Rattle.std.proofs.Common.{suc, zero, ◌<◌, ◌≤◌, drop, length, take, get_or, refl, sym, ap, ◌∙◌}
use Rattle.std.proofs.Common.{arith}
use Rattle.std.proofs.Common.{append_assoc}
use Rattle.std.specs.Prelude.{⊤}
use Rattle.std.proofs.lemmas.List.{map-append}
use Rattle.mpy_tree.specs.declared.tree.Func.{Func}
use Rattle.mpy_tree.specs.Locals.{locals}
use Rattle.mpy_tree.specs.View.{routine_of}
use Rattle.mpy_scopes.specs.declared.scope.Scope.{Scope as CodeScope}
use denote.Ref.{Bor}
use Rattle.mpy_tree.specs.Trees.{Tree}
use Rattle.mpy_scopes.specs.Seen.{name_of}
use Rattle.choice_tree.specs.declared.rules.Meta.{Meta}
use Rattle.choice_tree.specs.Typing.{Scope, locals_of}
use Rattle.choice_tree.specs.Drafts.{bound_term, same_meta, term_in}
use Rattle.eml_match.specs.declared.bindings.Binding.{Binding}
use Rattle.eml_match.specs.MatchViews.{binding_of, bindings_of, bound_seen}
use Rattle.eml_match.specs.Resolutions.{bound_locals, locals_for}
use Rattle.eml_instances.specs.declared.standings.Standing.{Standing}
use Rattle.eml_instances.specs.Substitutions.{kept, locals_kept, standings_bindings}
use Rattle.eml_instances.specs.Substitutions.{standings_locals}

-- beside each binding stand the locals of the type of its term, or the first of them
abbrev pub Fit : Bool → Scope → List Standing → Type 0
Fit all σ [] = ⊤
Fit all σ (s ∷ rest) =
    (map name_of s.locals.items
    ≡ kept all (bound_locals σ (term_in (bound_seen s.binding.bound))))
    × Fit all σ rest

pub one_fits : (all : Bool) (σ : Scope) (xs : List Standing) (s : Standing) → Fit all σ xs
    → map name_of s.locals.items
    ≡ kept all (bound_locals σ (term_in (bound_seen s.binding.bound)))
    → Fit all σ (xs ++ s ∷ [])
one_fits all σ [] s f h = (h, tt)
one_fits all σ (x ∷ xs) s f h = (f.0, one_fits all σ xs s f.1 h)

either : (all : Bool) (σ : Scope) (b : Bool) (own other : List (List ℕ)) (ts us : List Tree)
    → own ≡ kept all (bound_locals σ ts) → other ≡ kept all (bound_locals σ us)
    → (if b then own else other) ≡ kept all (bound_locals σ (if b then ts else us))
either all σ true own other ts us h k = h
either all σ false own other ts us h k = k

locals_at : (all : Bool) (σ : Scope) (xs : List Standing) → Fit all σ xs → (m : Meta)
    → standings_locals xs m ≡ kept all (locals_for σ (standings_bindings xs) m)
locals_at true σ [] f m = refl
locals_at false σ [] f m = refl
locals_at all σ (s ∷ rest) f m =
    either all σ (same_meta s.binding.meta m) (map name_of s.locals.items)
    (standings_locals rest m) (term_in (bound_seen s.binding.bound))
    (bound_term (standings_bindings rest) m) f.0 (locals_at all σ rest f.1 m)

pub locals_fit : (all : Bool) (σ : Scope) (xs : List Standing) → Fit all σ xs
    → standings_locals xs ≡ locals_kept all (locals_for σ (standings_bindings xs))
locals_fit all σ xs f = λ i m. locals_at all σ xs f m i

pub first_mapped : (xs : List (Bor (List ℕ)))
    → map name_of (take 1 xs) ≡ take 1 (map name_of xs)
first_mapped [] = refl
first_mapped (x ∷ xs) = refl

at_first : (bs : List Binding) (i : ℕ) (b : Binding) → i < length bs → b ≡ get_or bs i b
    → drop i bs ≡ b ∷ drop (suc i) bs
at_first [] i b h e = absurd (omega arith)
at_first (x ∷ bs) zero b h e = ap (λ y. y ∷ bs) (sym e)
at_first (x ∷ bs) (suc i) b h e = at_first bs i b (omega arith) e

-- one binding more
pub one_bound : (bs : List Binding) (now new : List Standing) (s : Standing) (i j : ℕ)
    (b : Binding) → j ≡ suc i → i < length bs → b ≡ get_or bs i b → s.binding ≡ b
    → new ≡ now ++ s ∷ [] → bindings_of bs ≡ standings_bindings now ++ bindings_of (drop i bs)
    → bindings_of bs ≡ standings_bindings new ++ bindings_of (drop j bs)
one_bound bs now new s i j b e h at same put whole =
    let f : Standing → Rattle.choice_tree.specs.Matching.Binding =
    λ (x : Standing). binding_of x.binding in
    let rest = bindings_of (drop j bs) in
    let left : bindings_of (drop i bs) ≡ f s ∷ rest =
    rw e (ap bindings_of (at_first bs i b h at) ∙ ap (λ x. binding_of x ∷ bindings_of (drop (suc i)
    bs)) (sym same)) in
    whole ∙ ap (λ xs. map f now ++ xs) left
    ∙ sym (append_assoc (map f now) (f s ∷ []) rest)
    ∙ ap (λ xs. xs ++ rest) (sym (map-append f now (s ∷ [])) ∙ ap (map f) (sym put))

-- the locals of a function, by its number
pub locals_there : (ss : List CodeScope) (fs : List Func) (i : ℕ) (s : CodeScope)
    → map (λ s. s.func.now) ss ≡ fs → i < length ss → s ≡ get_or ss i s
    → map name_of s.names.names.items ≡ locals_of (map routine_of fs) i
locals_there [] fs i s e h g = absurd (omega arith)
locals_there (x ∷ ss) [] i s e h g = cc
locals_there (x ∷ ss) (f ∷ fs) zero s e h g =
    let first : x.func.now ≡ f = cc in
    s.named ∙ ap (λ y. locals (routine_of y.func.now)) g ∙ ap (λ y. locals (routine_of y)) first
locals_there (x ∷ ss) (f ∷ fs) (suc i) s e h g =
    let rest : map (λ s. s.func.now) ss ≡ fs = cc in
    locals_there ss fs i s rest (omega arith) g

pub no_locals : (ss : List CodeScope) (fs : List Func) (i : ℕ) → map (λ s. s.func.now) ss ≡ fs
    → length ss ≤ i → locals_of (map routine_of fs) i ≡ []
no_locals [] [] i e h = refl
no_locals [] (f ∷ fs) i e h = cc
no_locals (x ∷ ss) [] i e h = refl
no_locals (x ∷ ss) (f ∷ fs) zero e h = absurd (omega arith)
no_locals (x ∷ ss) (f ∷ fs) (suc i) e h =
    let rest : map (λ s. s.func.now) ss ≡ fs = cc in no_locals ss fs i rest (omega arith)
