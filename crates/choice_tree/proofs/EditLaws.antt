-- The edits of a node, from those of its children.
use Rattle.std.proofs.Common.{◌≡◌, ℕ, zero, suc, List, [], ◌∷◌, ◌++◌, map, drop, slice_get, Some}
use Rattle.std.proofs.Common.{None, Option, option_map, Result, Ok, Err, IfOk, OnOk, refl, sym, ap, ◌∙◌}
use Rattle.std.proofs.Common.{append_assoc}
use Rattle.std.specs.Prelude.{flat_map}
use Rattle.std.proofs.lemmas.List.{append-nil}
use Rattle.choice_tree.specs.declared.node.Pick.{Pick}
use Rattle.choice_tree.specs.Contexts.{line_below}
use Rattle.choice_tree.specs.EditViews.{parts_line, edits_of_each, picks_of_each}
use Rattle.choice_tree.specs.Rewriting.{Edit, edit_by}
use Rattle.choice_tree.specs.WeightedTrees.{Weighted, Weighteds, plainly, pick, no_weighted}
use Rattle.choice_tree.specs.WeightedTrees.{weighted_and, children, listed, base_of}
use Rattle.choice_tree.specs.WeightedViews.{Member, members}
use Rattle.choice_tree.specs.Selections.{plain, edits, edits_in, other_edits, edited_picks}
use Rattle.choice_tree.specs.Selections.{picks_in, other_picks, other_at, chosen}
use Rattle.choice_tree.specs.NodeViews.{own_pick, pick_of}
use Rattle.choice_tree.specs.PickViews.{others_seen}
use Rattle.choice_tree.proofs.Walking.{next_of, no_next}

pub on_ok : {A E P Q : Type 0} (r : Result A E) → (P → Q) → OnOk r P → OnOk r Q
on_ok (Ok a) f h = f h
on_ok (Err e) f h = tt

pub if_ok : {A E : Type 0} {P Q : A → Type 0} (r : Result A E) → ((a : A) → P a → Q a)
    → IfOk r P → IfOk r Q
if_ok (Ok a) f h = f a h
if_ok (Err e) f h = tt

map_one : {A X : Type 0} (f : A → X) (xs : List A) (e : A) (ys : List X)
    → map f (xs ++ e ∷ []) ++ ys ≡ map f xs ++ (f e ∷ ys)
map_one f [] e ys = refl
map_one f (x ∷ xs) e ys = ap (λ zs. f x ∷ zs) (map_one f xs e ys)

-- one that was pushed, and what is pushed behind it
pub pushed_one : {A X : Type 0} (f : A → X) (xs new : List A) (e : A) (x : X) (ys : List X)
    → new ≡ xs ++ e ∷ [] → f e ≡ x → map f new ++ ys ≡ map f xs ++ (x ∷ ys)
pushed_one f xs new e x ys put is =
    ap (λ zs. map f zs ++ ys) put ∙ map_one f xs e ys ∙ ap (λ y. map f xs ++ (y ∷ ys)) is

-- what was pushed, and what the children that are left give
pub pushed_next : {X : Type 0} (f : Weighted → List X) (xs : List Weighted) (i j : ℕ)
    (x : Weighted) (all now new : List X) → j ≡ suc i → Some x ≡ slice_get xs i
    → new ≡ now ++ f x → all ≡ now ++ flat_map f (drop i xs)
    → all ≡ new ++ flat_map f (drop j xs)
pushed_next f xs i j x all now new e h push whole =
    let rest = flat_map f (drop (suc i) xs) in
    rw (e, push)
    (whole ∙ ap (λ ys. now ++ flat_map f ys) (next_of xs i x h) ∙ sym (append_assoc now (f x) rest))

pub pushed_all : {X : Type 0} (f : Weighted → List X) (xs : List Weighted) (i : ℕ)
    (all now : List X) → None ≡ slice_get xs i → all ≡ now ++ flat_map f (drop i xs) → now ≡ all
pushed_all f xs i all now h whole =
    sym (whole ∙ ap (λ ys. now ++ flat_map f ys) (no_next xs i h) ∙ append-nil now)

each_edits : (m : ℕ → ℕ) (line : ℕ) (ws : Weighteds)
    → edits_of_each m line (listed ws) ≡ edits_in m ws line
each_edits m line no_weighted = refl
each_edits m line (weighted_and w ws) = ap (λ es. edits m w line ++ es) (each_edits m line ws)

pub parts_edits : (m : ℕ → ℕ) (line : ℕ) (w : Weighted) → None ≡ own_pick w
    → edits_of_each m (parts_line w line) (children w) ≡ edits m w line
parts_edits m line (plainly k ws) h = each_edits m (line_below k line) ws
parts_edits m line (pick number base os) h = cc

each_picks : (m : ℕ → ℕ) (ws : Weighteds) → picks_of_each m (listed ws) ≡ picks_in m ws
each_picks m no_weighted = refl
each_picks m (weighted_and w ws) = ap (λ ps. edited_picks m w ++ ps) (each_picks m ws)

pub parts_picks : (m : ℕ → ℕ) (w : Weighted) → None ≡ own_pick w
    → picks_of_each m (children w) ≡ edited_picks m w
parts_picks m (plainly k ws) h = each_picks m ws
parts_picks m (pick number base os) h = cc

-- the edits of a pick, and the picks of these, by the member that is chosen
abbrev pub edits_by : (ℕ → ℕ) → ℕ → Weighted → Option Member → List Edit
edits_by m line base None = edits m base line
edits_by m line base (Some o) =
    edit_by line o.rule (base_of base) (plain m o.tree) ∷ edits m o.tree line

abbrev pub picks_by : (ℕ → ℕ) → ℕ → Weighted → Option Member → List ℕ
picks_by m number base None = edited_picks m base
picks_by m number base (Some o) = number ∷ edited_picks m o.tree

-- those by a member whose parts were read
pub edits_read : (m : ℕ → ℕ) (line : ℕ) (base : Weighted) (o : Option Member) (rule : ℕ)
    (x : Weighted) → Some rule ≡ option_map (λ y. y.rule) o → Some x ≡ option_map (λ y. y.tree) o
    → edits_by m line base o ≡ edit_by line rule (base_of base) (plain m x) ∷ edits m x line
edits_read m line base None rule x h k = cc
edits_read m line base (Some y) rule x h k =
    let a : rule ≡ y.rule = cc in
    let b : x ≡ y.tree = cc in
    rw (a, b) refl

pub picks_read : (m : ℕ → ℕ) (number : ℕ) (base : Weighted) (o : Option Member) (x : Weighted)
    → Some x ≡ option_map (λ y. y.tree) o
    → picks_by m number base o ≡ number ∷ edited_picks m x
picks_read m number base None x k = cc
picks_read m number base (Some y) x k = let b : x ≡ y.tree = cc in rw b refl

edits_at : (m : ℕ → ℕ) (line : ℕ) (base : Weighted) (ms : List Member) (i : ℕ)
    (o : Option Member) → o ≡ slice_get ms i
    → chosen (suc i) (edits m base line) (other_edits m (members ms) line (base_of base))
    ≡ edits_by m line base o
edits_at m line base [] i o h = rw h refl
edits_at m line base (x ∷ ms) zero o h = rw h refl
edits_at m line base (x ∷ ms) (suc i) o h = edits_at m line base ms i o h

edits_chosen : (m : ℕ → ℕ) (line : ℕ) (base : Weighted) (ms : List Member) (k : ℕ)
    (o : Option Member) → o ≡ other_at k ms
    → chosen k (edits m base line) (other_edits m (members ms) line (base_of base))
    ≡ edits_by m line base o
edits_chosen m line base ms zero o h = rw h refl
edits_chosen m line base ms (suc i) o h = edits_at m line base ms i o h

pub pick_edits : (m : ℕ → ℕ) (line : ℕ) (w : Weighted) (p : Pick) (o : Option Member)
    → Some (pick_of p) ≡ own_pick w → o ≡ other_at (m (pick_of p).number) (others_seen p)
    → edits_by m line (pick_of p).base o ≡ edits m w line
pick_edits m line (plainly k ws) p o h e = cc
pick_edits m line (pick number base os) p o h e =
    let same : pick_of p ≡ record { number = number; base = base; others = os } = cc in
    sym (edits_chosen m line (pick_of p).base (others_seen p) (m (pick_of p).number) o e)
    ∙ ap (λ q. chosen (m q.number) (edits m q.base line)
    (other_edits m q.others line (base_of q.base))) same

picks_at : (m : ℕ → ℕ) (number : ℕ) (base : Weighted) (ms : List Member) (i : ℕ)
    (o : Option Member) → o ≡ slice_get ms i
    → chosen (suc i) (edited_picks m base) (other_picks m (members ms) number)
    ≡ picks_by m number base o
picks_at m number base [] i o h = rw h refl
picks_at m number base (x ∷ ms) zero o h = rw h refl
picks_at m number base (x ∷ ms) (suc i) o h = picks_at m number base ms i o h

picks_chosen : (m : ℕ → ℕ) (number : ℕ) (base : Weighted) (ms : List Member) (k : ℕ)
    (o : Option Member) → o ≡ other_at k ms
    → chosen k (edited_picks m base) (other_picks m (members ms) number)
    ≡ picks_by m number base o
picks_chosen m number base ms zero o h = rw h refl
picks_chosen m number base ms (suc i) o h = picks_at m number base ms i o h

pub pick_picks : (m : ℕ → ℕ) (w : Weighted) (p : Pick) (o : Option Member)
    → Some (pick_of p) ≡ own_pick w → o ≡ other_at (m (pick_of p).number) (others_seen p)
    → picks_by m (pick_of p).number (pick_of p).base o ≡ edited_picks m w
pick_picks m (plainly k ws) p o h e = cc
pick_picks m (pick number base os) p o h e =
    let same : pick_of p ≡ record { number = number; base = base; others = os } = cc in
    sym (picks_chosen m (pick_of p).number (pick_of p).base (others_seen p)
    (m (pick_of p).number) o e)
    ∙ ap (λ q. chosen (m q.number) (edited_picks m q.base) (other_picks m q.others q.number)) same

-- with no pick named each pick is its base
mutual
  pub no_choice : (w : Weighted) → plain (λ p. 0) w ≡ base_of w
  no_choice (plainly k ws) = λ i. Rattle.mpy_tree.specs.Trees.node k (no_choices ws i)
  no_choice (pick number base os) = no_choice base

  no_choices : (ws : Weighteds)
      → Rattle.choice_tree.specs.Selections.plains (λ p. 0) ws
      ≡ Rattle.choice_tree.specs.WeightedTrees.bases_of ws
  no_choices no_weighted = refl
  no_choices (weighted_and w ws) =
      λ i. Rattle.mpy_tree.specs.Trees.tree_and (no_choice w i) (no_choices ws i)
