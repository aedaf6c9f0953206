-- Which members a tree has, by its children.
use Rattle.std.proofs.Common.{◌≡◌, ℕ, suc, Bool, true, false, ◌||◌, ◌&&◌, ◌==◌, nat_le, List, []}
use Rattle.std.proofs.Common.{◌∷◌, drop, length, slice_get, Some, None, refl, sym, ap, ◌∙◌}
use Rattle.choice_tree.specs.declared.node.Pick.{Pick}
use Rattle.choice_tree.specs.WeightedTrees.{Weighted, Weighteds, Others, plainly, pick, no_weighted}
use Rattle.choice_tree.specs.WeightedTrees.{weighted_and, no_others, other_and, children, listed}
use Rattle.choice_tree.specs.WeightedTrees.{other_trees}
use Rattle.choice_tree.specs.WeightedViews.{Member, members}
use Rattle.choice_tree.specs.Selections.{has_member, any_has_member, other_has_member, any_of}
use Rattle.choice_tree.specs.Selections.{fits_from}
use Rattle.std.proofs.lemmas.Bool.{leb-true, le-leb}
use Rattle.choice_tree.specs.Selections.{count_others}
use Rattle.choice_tree.specs.NodeViews.{own_pick, pick_of}
use Rattle.choice_tree.specs.PickViews.{others_seen}
use Rattle.choice_tree.specs.declared.selection.Choice.{Choice}
use Rattle.choice_tree.specs.Choices.{Rises, NamesBy}
use Rattle.choice_tree.proofs.Walking.{next_of, no_next}

pub any_next : (f : Weighted → Bool) (xs : List Weighted) (i j : ℕ) (x : Weighted)
    → j ≡ suc i → Some x ≡ slice_get xs i → f x ≡ false
    → any_of f (drop i xs) ≡ any_of f (drop j xs)
any_next f xs i j x e h out = rw (e, next_of xs i x h, out) refl

pub any_now : (f : Weighted → Bool) (xs : List Weighted) (i : ℕ) (x : Weighted)
    → Some x ≡ slice_get xs i → f x ≡ true → any_of f (drop i xs) ≡ true
any_now f xs i x h now = rw (next_of xs i x h, now) refl

pub any_none : (f : Weighted → Bool) (xs : List Weighted) (i : ℕ)
    → None ≡ slice_get xs i → any_of f (drop i xs) ≡ false
any_none f xs i h = rw (no_next xs i h) refl

any_parts : (p i : ℕ) (ws : Weighteds)
    → any_of (λ w. has_member w p i) (listed ws) ≡ any_has_member ws p i
any_parts p i no_weighted = refl
any_parts p i (weighted_and w ws) = ap (λ b. has_member w p i || b) (any_parts p i ws)

any_others : (p i : ℕ) (os : Others)
    → any_of (λ w. has_member w p i) (other_trees os) ≡ other_has_member os p i
any_others p i no_others = refl
any_others p i (other_and rule cost w os) = ap (λ b. has_member w p i || b) (any_others p i os)

pub parts_have : (p i : ℕ) (w : Weighted) → None ≡ own_pick w
    → any_of (λ w. has_member w p i) (children w) ≡ has_member w p i
parts_have p i (plainly k ws) h = any_parts p i ws
parts_have p i (pick number base os) h = cc

or_nested : (a b c : Bool) → a || (b || c) ≡ (a || b) || c
or_nested true b c = refl
or_nested false b c = refl

pub counted : (ms : List Member) → count_others (members ms) ≡ length ms
counted [] = refl
counted (m ∷ ms) = ap suc (counted ms)

pub pick_has : (p i : ℕ) (w : Weighted) (q : Pick) → Some (pick_of q) ≡ own_pick w
    → ((((pick_of q).number == p) && nat_le i (length (others_seen q)))
    || any_of (λ w. has_member w p i) (children w)) ≡ has_member w p i
pick_has p i (plainly k ws) q h = cc
pick_has p i (pick number base os) q h =
    let same : pick_of q ≡ record { number = number; base = base; others = os } = cc in
    let n : (pick_of q).number ≡ number = ap (λ r. r.number) same in
    let a : members (others_seen q) ≡ os = ap (λ r. r.others) same in
    let c : length (others_seen q) ≡ count_others os =
    sym (counted (others_seen q)) ∙ ap count_others a in
    rw (n, c, any_others p i os)
    (or_nested ((number == p) && nat_le i (count_others os)) (has_member base p i)
    (other_has_member os p i))

all_of : (a b c d : Bool) → a && b && c && d ≡ true
    → (a ≡ true) × (b ≡ true) × (c ≡ true) × (d ≡ true)
all_of true true true true h = (refl, refl, refl, refl)
all_of true true true false h = cc
all_of true true false d h = cc
all_of true false c d h = cc
all_of false b c d h = cc

pub fitting : (w : Weighted) (from : ℕ) (s : List Choice) → fits_from w from s ≡ true
    → Rises from s × NamesBy (has_member w) s
fitting w from [] h = (tt, tt)
fitting w from (c ∷ rest) h =
    let a =
    all_of (nat_le from c.pick) (nat_le 1 c.member) (has_member w c.pick c.member)
    (fits_from w (suc c.pick) rest) h in
    let r = fitting w (suc c.pick) rest a.3 in
    ((leb-true from c.pick a.0, r.0), (leb-true 1 c.member a.1, a.2, r.1))

pub fits_so : (w : Weighted) (from : ℕ) (s : List Choice) → Rises from s
    → NamesBy (has_member w) s → fits_from w from s ≡ true
fits_so w from [] r n = refl
fits_so w from (c ∷ rest) r n =
    rw (le-leb from c.pick r.0, le-leb 1 c.member n.0, n.1, fits_so w (suc c.pick) rest r.1 n.2)
    refl
