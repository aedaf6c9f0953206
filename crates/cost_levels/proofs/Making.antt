-- For each choice of members, one that stands in the level of its cost and makes the same tree.
use Rattle.std.proofs.Common.{◌≡◌, ◌⊎◌, ℕ, zero, suc, ◌+◌, ◌-◌, ◌<◌, true}
use Rattle.std.proofs.Common.{if◌then◌else◌, List, [], ◌∷◌, map, refl, sym, ap, subst}
use Rattle.std.proofs.Common.{◌∙◌, inl, inr, arith}
use Rattle.std.specs.Prelude.{nat_le}
use Rattle.std.specs.List.{Contains}
use Rattle.std.proofs.lemmas.Bool.{le-leb}
use Rattle.std.proofs.lemmas.List.{get_or-map, length-map}
use Rattle.std.proofs.lemmas.List.Elements.{Contains-append_left, Contains-append_right}
use Rattle.mpy_tree.specs.Trees.{Tree, node, tree_and}
use Rattle.choice_tree.specs.declared.selection.Choice.{Choice}
use Rattle.choice_tree.specs.Choices.{member_of, Rises}
use Rattle.choice_tree.specs.WeightedTrees.{Weighted, Weighteds, Others, plainly, pick, no_weighted}
use Rattle.choice_tree.specs.WeightedTrees.{weighted_and, no_others, other_and, picks, picks_in}
use Rattle.choice_tree.specs.WeightedTrees.{picks_in_others, numbered, numbered_all}
use Rattle.choice_tree.specs.WeightedTrees.{numbered_others}
use Rattle.choice_tree.specs.Selections.{chosen, cost, costs, other_costs, plain, plains}
use Rattle.choice_tree.specs.Selections.{other_plains}
use Rattle.choice_tree.proofs.Numbers.{member_before}
use Rattle.cost_levels.specs.Plans.{Plan, Ways, planned, all_planned, ways_by, way_and, listed}
use Rattle.cost_levels.specs.Plans.{listed_by}
use Rattle.cost_levels.proofs.Beginning.{AgreesFrom, rises_earlier, other_pick, this_pick}

map_contains : {X Y : Type 0} (f : X → Y) (xs : List X) (x : X) → Contains xs x
    → Contains (map f xs) (f x)
map_contains f xs x c = (
  c.0,
  subst (λ n. c.0 < n) (sym (length-map xs f)) c.1,
  get_or-map f xs c.0 x (f x) c.1 ∙ ap f c.2,
)

-- choices of a tree's picks, before others that a plan has at the cost that is left
pub record Makes (w : Weighted) (from : ℕ) (m : ℕ → ℕ) (p : Plan) (left : ℕ) (rest : List Choice)
    : Type 0 where
  pub selection : List Choice
  pub rises : Rises (from + picks w) rest → Rises from selection
  pub later : AgreesFrom (from + picks w) (member_of selection) rest
  pub there : Contains (listed (planned (numbered w from) p) (cost m (numbered w from) + left))
      selection
  pub tree : Rises (from + picks w) rest → (m' : ℕ → ℕ) → AgreesFrom from m' selection
      → plain m' (numbered w from) ≡ plain m (numbered w from)

record MakeAll (ws : Weighteds) (from : ℕ) (m : ℕ → ℕ) (p : Plan) (left : ℕ) (rest : List Choice)
    : Type 0 where
  pub selection : List Choice
  pub rises : Rises (from + picks_in ws) rest → Rises from selection
  pub later : AgreesFrom (from + picks_in ws) (member_of selection) rest
  pub there :
      Contains (listed (all_planned (numbered_all ws from) p) (costs m (numbered_all ws from) + left))
      selection
  pub trees : Rises (from + picks_in ws) rest → (m' : ℕ → ℕ) → AgreesFrom from m' selection
      → plains m' (numbered_all ws from) ≡ plains m (numbered_all ws from)

-- none of these members has this number, so the base is chosen
abbrev NoneChosen : Others → ℕ → (ℕ → ℕ) → ℕ → Type 0
NoneChosen os from m k =
    ((d : ℕ) → chosen k d (other_costs m (numbered_others os from)) ≡ d)
    × ((t : Tree) → chosen k t (other_plains m (numbered_others os from)) ≡ t)

-- one of them has
record MakesOther (os : Others) (from : ℕ) (m : ℕ → ℕ) (p : Plan) (number first left : ℕ)
    (rest : List Choice) (k : ℕ) : Type 0 where
  pub index : ℕ
  pub is : k ≡ suc index
  pub tail : List Choice
  pub rises : Rises (from + picks_in_others os) rest → Rises from tail
  pub later : AgreesFrom (from + picks_in_others os) (member_of tail) rest
  pub there : (d : ℕ)
      → Contains (listed_by (ways_by (numbered_others os from) p) number first
      (chosen k d (other_costs m (numbered_others os from)) + left))
      (record { pick = number; member = first + index } ∷ tail)
  pub tree : Rises (from + picks_in_others os) rest → (m' : ℕ → ℕ) → AgreesFrom from m' tail
      → (t u : Tree) → chosen k t (other_plains m' (numbered_others os from))
      ≡ chosen k u (other_plains m (numbered_others os from))

-- a member before what comes after it
member_there : (number i c k left : ℕ) (next : Plan) (ws : Ways) (s : List Choice)
    → Contains (listed next (k + left)) s
    → Contains (listed_by (way_and c next ws) number i ((c + k) + left))
    (record { pick = number; member = i } ∷ s)
member_there number i c k left next ws s at =
    let n = (c + k) + left in
    let put : List Choice → List Choice = λ t. record { pick = number; member = i } ∷ t in
    let within : nat_le c ((c + k) + left) ≡ true = le-leb c ((c + k) + left) (omega arith) in
    let same : ((c + k) + left) - c ≡ k + left = omega arith in
    Contains-append_left
    (if nat_le c n then map put (listed next (n - c)) else []) (listed_by ws number (suc i) n)
    (put s) (rw (within, same) (map_contains put (listed next (k + left)) s at))

make_first : (rule c : ℕ) (w : Weighted) (os : Others) (from : ℕ) (m : ℕ → ℕ) (p : Plan)
    (number first left : ℕ) (rest : List Choice) → Makes w from m p left rest
    → MakesOther (other_and rule c w os) from m p number first left rest 1
make_first rule c w os from m p number first left rest a =
    let to = from + (picks w + picks_in_others os) in
    let w' = numbered w from in
    let ws = ways_by (numbered_others os (from + picks w)) p in
    let one : first ≡ first + 0 = omega arith in
    record {
      index = 0;
      is = refl;
      tail = a.selection;
      rises = λ r. a.rises (rises_earlier rest (from + picks w) to (omega arith) r);
      later = λ q on. a.later q (omega arith);
      there = λ d.
          subst (λ i. Contains (listed_by (way_and c (planned w' p) ws) number first
          ((c + cost m w') + left)) (record { pick = number; member = i } ∷ a.selection)) one
          (member_there number first c (cost m w') left (planned w' p) ws a.selection a.there);
      tree = λ r m' agrees t u.
          a.tree (rises_earlier rest (from + picks w) to (omega arith) r) m' agrees;
    }

make_later : (rule c : ℕ) (w : Weighted) (os : Others) (from : ℕ) (m : ℕ → ℕ) (p : Plan)
    (number first left : ℕ) (rest : List Choice) (k : ℕ)
    → MakesOther os (from + picks w) m p number (suc first) left rest (suc k)
    → MakesOther (other_and rule c w os) from m p number first left rest (suc (suc k))
make_later rule c w os from m p number first left rest k a =
    let mid = from + picks w in
    let to = from + (picks w + picks_in_others os) in
    let same : to ≡ mid + picks_in_others os = omega arith in
    let next : suc first + a.index ≡ first + suc a.index = omega arith in
    let ws = ways_by (numbered_others os mid) p in
    record {
      index = suc a.index;
      is = ap suc a.is;
      tail = a.tail;
      rises = λ r. rises_earlier a.tail from mid (omega arith)
          (a.rises (subst (λ t. Rises t rest) same r));
      later = λ q on. a.later q (omega arith);
      there = λ d.
          let n = chosen (suc k) d (other_costs m (numbered_others os mid)) + left in
          subst (λ i. Contains (listed_by (way_and c (planned (numbered w from) p) ws) number first
          n) (record { pick = number; member = i } ∷ a.tail)) next
          (Contains-append_right _ (listed_by ws number (suc first) n) _ (a.there d));
      tree = λ r m' agrees t u.
          a.tree (subst (λ v. Rises v rest) same r) m' (λ q on. agrees q (omega arith)) t u;
    }

make_base : (number : ℕ) (base : Weighted) (os : Others) (from : ℕ) (m : ℕ → ℕ) (p : Plan)
    (left : ℕ) (rest : List Choice) → NoneChosen os (suc from + picks base) m (m from)
    → Makes base (suc from) m p left rest → Makes (pick number base os) from m p left rest
make_base number base os from m p left rest none a =
    let start = suc from + picks base in
    let to = from + suc (picks base + picks_in_others os) in
    let base' = numbered base (suc from) in
    let os' = numbered_others os start in
    let n = chosen (m from) (cost m base') (other_costs m os') + left in
    record {
      selection = a.selection;
      rises = λ r. rises_earlier a.selection from (suc from) (omega arith)
          (a.rises (rises_earlier rest start to (omega arith) r));
      later = λ q on. a.later q (omega arith);
      there =
          Contains-append_left (listed (planned base' p) n) (listed_by (ways_by os' p) from 1 n)
          a.selection (subst (λ k. Contains (listed (planned base' p) (k + left)) a.selection)
          (sym (none.0 (cost m base'))) a.there);
      tree = λ r m' agrees.
          let rises = rises_earlier rest start to (omega arith) r in
          let here : m' from ≡ 0 =
          agrees from (omega arith)
          ∙ member_before a.selection (suc from) from (a.rises rises) (omega arith) in
          let same = a.tree rises m' (λ q on. agrees q (omega arith)) in
          rw here (same ∙ sym (none.1 (plain m base')));
    }

make_member : (number : ℕ) (base : Weighted) (os : Others) (from : ℕ) (m : ℕ → ℕ) (p : Plan)
    (left : ℕ) (rest : List Choice)
    → MakesOther os (suc from + picks base) m p from 1 left rest (m from)
    → Makes (pick number base os) from m p left rest
make_member number base os from m p left rest a =
    let start = suc from + picks base in
    let to = from + suc (picks base + picks_in_others os) in
    let same : to ≡ start + picks_in_others os = omega arith in
    let base' = numbered base (suc from) in
    let os' = numbered_others os start in
    let n = chosen (m from) (cost m base') (other_costs m os') + left in
    let this : Choice = record { pick = from; member = 1 + a.index } in
    let one : 1 + a.index ≡ suc a.index = omega arith in
    record {
      selection = this ∷ a.tail;
      rises = λ r. (
        omega arith,
        rises_earlier a.tail (suc from) start (omega arith)
            (a.rises (subst (λ t. Rises t rest) same r)),
      );
      later = λ q on. other_pick this a.tail q (omega arith) ∙ a.later q (omega arith);
      there =
          Contains-append_right (listed (planned base' p) n) (listed_by (ways_by os' p) from 1 n)
          (this ∷ a.tail) (a.there (cost m base'));
      tree = λ r m' agrees.
          let here : m' from ≡ m from =
          agrees from (omega arith) ∙ this_pick from (1 + a.index) a.tail ∙ one ∙ sym a.is in
          let inner =
          a.tree (subst (λ t. Rises t rest) same r) m'
          (λ q on. agrees q (omega arith) ∙ other_pick this a.tail q (omega arith))
          (plain m' base') (plain m base') in
          rw here inner;
    }

mutual
  pub makes : (w : Weighted) (from : ℕ) (m : ℕ → ℕ) (p : Plan) (left : ℕ) (rest : List Choice)
      → Contains (listed p left) rest → Makes w from m p left rest
  makes (plainly k ws) from m p left rest at =
      let a = make_all ws from m p left rest at in
      record {
        selection = a.selection;
        rises = a.rises;
        later = a.later;
        there = a.there;
        tree = λ r m' agrees. ap (node k) (a.trees r m' agrees);
      }
  makes (pick number base os) from m p left rest at =
      elim (make_other os (suc from + picks base) m p from 1 left rest (m from) at) [
        | inl none ↦ make_base number base os from m p left rest none
            (makes base (suc from) m p left rest at)
        | inr other ↦ make_member number base os from m p left rest other
      ]

  make_all : (ws : Weighteds) (from : ℕ) (m : ℕ → ℕ) (p : Plan) (left : ℕ) (rest : List Choice)
      → Contains (listed p left) rest → MakeAll ws from m p left rest
  make_all no_weighted from m p left rest at = record {
    selection = rest;
    rises = λ r. rises_earlier rest from (from + 0) (omega arith) r;
    later = λ q on. refl;
    there = subst (λ k. Contains (listed p k) rest) (omega arith) at;
    trees = λ r m' agrees. refl;
  }
  make_all (weighted_and w ws) from m p left rest at =
      let mid = from + picks w in
      let to = from + (picks w + picks_in ws) in
      let same : to ≡ mid + picks_in ws = omega arith in
      let w' = numbered w from in
      let ws' = numbered_all ws mid in
      let next = all_planned ws' p in
      let b = make_all ws mid m p left rest at in
      let a = makes w from m next (costs m ws' + left) b.selection b.there in
      let both : cost m w' + (costs m ws' + left) ≡ (cost m w' + costs m ws') + left =
      omega arith in
      record {
        selection = a.selection;
        rises = λ r. a.rises (b.rises (subst (λ t. Rises t rest) same r));
        later = λ q on. a.later q (omega arith) ∙ b.later q (omega arith);
        there = subst (λ k. Contains (listed (planned w' next) k) a.selection) both a.there;
        trees = λ r m' agrees.
            let r' = subst (λ t. Rises t rest) same r in
            let x = a.tree (b.rises r') m' agrees in
            let y = b.trees r' m' (λ q on. agrees q (omega arith) ∙ a.later q on) in
            λ i. tree_and (x i) (y i);
      }

  make_other : (os : Others) (from : ℕ) (m : ℕ → ℕ) (p : Plan) (number first left : ℕ)
      (rest : List Choice) (k : ℕ) → Contains (listed p left) rest
      → NoneChosen os from m k ⊎ MakesOther os from m p number first left rest k
  make_other os from m p number first left rest zero at = inl (λ d. refl, λ t. refl)
  make_other no_others from m p number first left rest (suc k) at = inl (λ d. refl, λ t. refl)
  make_other (other_and rule c w os) from m p number first left rest (suc zero) at =
      inr (make_first rule c w os from m p number first left rest
      (makes w from m p left rest at))
  make_other (other_and rule c w os) from m p number first left rest (suc (suc k)) at =
      elim (make_other os (from + picks w) m p number (suc first) left rest (suc k) at) [
        | inl none ↦ inl none
        | inr other ↦ inr (make_later rule c w os from m p number first left rest k other)
      ]
