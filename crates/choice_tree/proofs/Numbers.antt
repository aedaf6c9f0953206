-- The selections of a numbered tree are what the tree gives.
use Rattle.std.proofs.Common.{◌≡◌, ◌⊎◌, ◌≢◌, ℕ, zero, suc, ◌+◌, ◌<◌, ◌≤◌, Bool, true, false, ◌||◌}
use Rattle.std.proofs.Common.{◌&&◌, if◌then◌else◌, List, [], ◌∷◌, ◌++◌, refl, sym, ap, ◌∙◌, subst}
use Rattle.std.proofs.Common.{inl, inr, arith}
use Rattle.std.specs.Prelude.{◌==◌, nat_le}
use Rattle.std.proofs.lemmas.Bool.Decides.{nat_tests}
use Rattle.mpy_tree.specs.Trees.{Tree, Trees, node, tree_and}
use Rattle.choice_tree.specs.Contexts.{line_below}
use Rattle.choice_tree.specs.Rewriting.{Edit, edit_by}
use Rattle.choice_tree.specs.WeightedTrees.{Weighted, Weighteds, Others, plainly, pick, no_weighted}
use Rattle.choice_tree.specs.WeightedTrees.{weighted_and, no_others, other_and, base_of, bases_of}
use Rattle.choice_tree.specs.WeightedTrees.{picks, picks_in, picks_in_others, numbered}
use Rattle.choice_tree.specs.WeightedTrees.{numbered_all, numbered_others}
use Rattle.choice_tree.specs.declared.selection.Choice.{Choice}
use Rattle.choice_tree.specs.Choices.{member_of, Rises, NamesBy}
use Rattle.choice_tree.specs.Selections.{chosen, plain, plains, other_plains, cost, costs}
use Rattle.choice_tree.specs.Selections.{other_costs, edits, edits_in, other_edits, count_others}
use Rattle.choice_tree.specs.Selections.{has_member, any_has_member, other_has_member}
use Rattle.choice_tree.proofs.Giving.{Gives, GivesAll, GivesOther}

-- numbers change no base
mutual
  pub base_numbered : (w : Weighted) (from : ℕ) → base_of (numbered w from) ≡ base_of w
  base_numbered (plainly k ws) from = ap (node k) (bases_numbered ws from)
  base_numbered (pick number w os) from = base_numbered w (suc from)

  bases_numbered : (ws : Weighteds) (from : ℕ) → bases_of (numbered_all ws from) ≡ bases_of ws
  bases_numbered no_weighted from = refl
  bases_numbered (weighted_and w ws) from =
      λ i. tree_and (base_numbered w from i) (bases_numbered ws (from + picks w) i)

-- whatever members are chosen, the tree gives it
mutual
  pub choice_given : (w : Weighted) (from : ℕ) (m : ℕ → ℕ) (line : ℕ)
      → Gives w line (plain m (numbered w from)) (cost m (numbered w from))
      (edits m (numbered w from) line)
  choice_given (plainly k ws) from m line =
      (plains m (numbered_all ws from), refl, choices_given ws from m (line_below k line))
  choice_given (pick number w os) from m line =
      let os' = numbered_others os (suc from + picks w) in
      elim (member_given os (suc from + picks w) m line (base_of (numbered w (suc from))) (m from) w
      (plain m (numbered w (suc from))) (cost m (numbered w (suc from)))
      (edits m (numbered w (suc from)) line) (choice_given w (suc from) m line)) [
        | inl base ↦ inl base
        | inr other ↦ inr (subst
            (λ old. GivesOther os line old (plain m (numbered (pick number w os) from))
            (cost m (numbered (pick number w os) from))
            (edits m (numbered (pick number w os) from) line)) (base_numbered w (suc from)) other)
      ]

  choices_given : (ws : Weighteds) (from : ℕ) (m : ℕ → ℕ) (line : ℕ)
      → GivesAll ws line (plains m (numbered_all ws from)) (costs m (numbered_all ws from))
      (edits_in m (numbered_all ws from) line)
  choices_given no_weighted from m line = (refl, refl, refl)
  choices_given (weighted_and w ws) from m line =
      let w' = numbered w from in
      let ws' = numbered_all ws (from + picks w) in (
        record {
          tree = plain m w';
          trees = plains m ws';
          cost = cost m w';
          costs =
              costs m ws';
          edits = edits m w' line;
          more = edits_in m ws' line;
        },
        refl,
        refl,
        refl,
        choice_given w from m line,
        choices_given ws (from + picks w) m line,
      )

  member_given : (os : Others) (from : ℕ) (m : ℕ → ℕ) (line : ℕ) (old : Tree) (i : ℕ)
      (base : Weighted) (t : Tree) (n : ℕ) (es : List Edit) → Gives base line t n es
      → Gives base line (chosen i t (other_plains m (numbered_others os from)))
      (chosen i n (other_costs m (numbered_others os from)))
      (chosen i es (other_edits m (numbered_others os from) line old))
      ⊎ GivesOther os line old (chosen i t (other_plains m (numbered_others os from)))
      (chosen i n (other_costs m (numbered_others os from)))
      (chosen i es (other_edits m (numbered_others os from) line old))
  member_given os from m line old zero b t n es base = inl base
  member_given no_others from m line old (suc i) b t n es base = inl base
  member_given (other_and rule c w os) from m line old (suc zero) b t n es base =
      let w' = numbered w from in
      inr (inl (
        record { cost = cost m w'; edits = edits m w' line },
        refl,
        refl,
        choice_given w
            from m line,
      ))
  member_given (other_and rule c w os) from m line old (suc (suc i)) b t n es base =
      elim (member_given os (from + picks w) m line old (suc i) b t n es base) [
        | inl base ↦ inl base
        | inr other ↦ inr (inr other)
      ]

-- each pick is below a number
abbrev pub Ends : List Choice → ℕ → Type 0
Ends [] to = Unit {0}
Ends (s ∷ rest) to = (s.pick < to) × Ends rest to

-- the members that m gives from one pick up to another are those of the selection
abbrev pub Agrees : (ℕ → ℕ) → List Choice → ℕ → ℕ → Type 0
Agrees m s from to = (p : ℕ) → from ≤ p → p < to → m p ≡ member_of s p

rises_earlier : (s : List Choice) (from mid : ℕ) → from ≤ mid → Rises mid s → Rises from s
rises_earlier [] from mid h r = tt
rises_earlier (x ∷ xs) from mid h r = let first = r.0 in (omega arith, r.1)

rises_append : (s u : List Choice) (from mid : ℕ) → from ≤ mid → Rises from s → Ends s mid
    → Rises mid u → Rises from (s ++ u)
rises_append [] u from mid h r e k = rises_earlier u from mid h k
rises_append (x ∷ xs) u from mid h r e k =
    (r.0, rises_append xs u (suc x.pick) mid (let below = e.0 in omega arith) r.1 e.1 k)

ends_later : (s : List Choice) (mid to : ℕ) → mid ≤ to → Ends s mid → Ends s to
ends_later [] mid to h e = tt
ends_later (x ∷ xs) mid to h e = let below = e.0 in (omega arith, ends_later xs mid to h e.1)

ends_append : (s u : List Choice) (mid to : ℕ) → mid ≤ to → Ends s mid → Ends u to
    → Ends (s ++ u) to
ends_append [] u mid to h e k = k
ends_append (x ∷ xs) u mid to h e k = let below = e.0 in
    (omega arith, ends_append xs u mid to h e.1 k)

names_more : (has has' : ℕ → ℕ → Bool) (s : List Choice)
    → ((p i : ℕ) → has p i ≡ true → has' p i ≡ true) → NamesBy has s → NamesBy has' s
names_more has has' [] h n = tt
names_more has has' (x ∷ xs) h n = (n.0, h x.pick x.member n.1, names_more has has' xs h n.2)

names_append : (has : ℕ → ℕ → Bool) (s u : List Choice) → NamesBy has s → NamesBy has u
    → NamesBy has (s ++ u)
names_append has [] u n k = k
names_append has (x ∷ xs) u n k = (n.0, n.1, names_append has xs u n.2 k)

or_left : (a b : Bool) → a ≡ true → a || b ≡ true
or_left true b h = refl
or_left false b h = cc

or_right : (a b : Bool) → b ≡ true → a || b ≡ true
or_right true b h = refl
or_right false b h = h

-- the member of another pick
other_pick : (x : Choice) (xs : List Choice) (p : ℕ) → x.pick ≢ p
    → member_of (x ∷ xs) p ≡ member_of xs p
other_pick x xs p h = grind (arith, nat_tests)

this_pick : (k i : ℕ) (xs : List Choice) → member_of (record { pick = k; member = i } ∷ xs) k ≡ i
this_pick k i xs = grind (arith, nat_tests)

pub member_before : (s : List Choice) (from p : ℕ) → Rises from s → p < from → member_of s p ≡ 0
member_before [] from p r h = refl
member_before (x ∷ xs) from p r h = let first = r.0 in
    other_pick x xs p (omega arith) ∙ member_before xs (suc x.pick) p r.1 (omega arith)

member_left : (s u : List Choice) (mid p : ℕ) → Rises mid u → p < mid
    → member_of (s ++ u) p ≡ member_of s p
member_left [] u mid p r h = member_before u mid p r h
member_left (x ∷ xs) u mid p r h =
    ap (λ v. if x.pick == p then x.member else v) (member_left xs u mid p r h)

member_right : (s u : List Choice) (mid p : ℕ) → Ends s mid → mid ≤ p
    → member_of (s ++ u) p ≡ member_of u p
member_right [] u mid p e h = refl
member_right (x ∷ xs) u mid p e h = let below = e.0 in
    other_pick x (xs ++ u) p (omega arith) ∙ member_right xs u mid p e.1 h

agrees_left : (m : ℕ → ℕ) (s u : List Choice) (from mid to : ℕ) → mid ≤ to → Rises mid u
    → Agrees m (s ++ u) from to → Agrees m s from mid
agrees_left m s u from mid to h r a = λ p lo hi. a p lo (omega arith) ∙ member_left s u mid p r hi

agrees_right : (m : ℕ → ℕ) (s u : List Choice) (from mid to : ℕ) → from ≤ mid → Ends s mid
    → Agrees m (s ++ u) from to → Agrees m u mid to
agrees_right m s u from mid to h e a = λ p lo hi. a p (omega arith) hi ∙ member_right s u mid p e lo

-- A selection that gives this from the picks of a tree, with whatever members elsewhere.
pub record Selected (w : Weighted) (from line : ℕ) (t : Tree) (n : ℕ) (es : List Edit) : Type 0
  where
    pub selection : List Choice
    pub rises : Rises from selection
    pub ends : Ends selection (from + picks w)
    pub names : NamesBy (has_member (numbered w from)) selection
    pub gives : (m : ℕ → ℕ) → Agrees m selection from (from + picks w)
        → (plain m (numbered w from) ≡ t) × (cost m (numbered w from) ≡ n)
        × (edits m (numbered w from) line ≡ es)

record SelectedAll (ws : Weighteds) (from line : ℕ) (ts : Trees) (n : ℕ) (es : List Edit) : Type 0
  where
    pub selection : List Choice
    pub rises : Rises from selection
    pub ends : Ends selection (from + picks_in ws)
    pub names : NamesBy (any_has_member (numbered_all ws from)) selection
    pub gives : (m : ℕ → ℕ) → Agrees m selection from (from + picks_in ws)
        → (plains m (numbered_all ws from) ≡ ts) × (costs m (numbered_all ws from) ≡ n)
        × (edits_in m (numbered_all ws from) line ≡ es)

-- the same of one of these members, counted from 0
record SelectedOther (os : Others) (from line : ℕ) (old t : Tree) (n : ℕ) (es : List Edit) : Type 0
  where
    pub index : ℕ
    pub there : index < count_others (numbered_others os from)
    pub selection : List Choice
    pub rises : Rises from selection
    pub ends : Ends selection (from + picks_in_others os)
    pub names : NamesBy (other_has_member (numbered_others os from)) selection
    pub gives : (m : ℕ → ℕ) (u : Tree) (k : ℕ) (fs : List Edit)
        → Agrees m selection from (from + picks_in_others os)
        → (chosen (suc index) u (other_plains m (numbered_others os from)) ≡ t)
        × (chosen (suc index) k (other_costs m (numbered_others os from)) ≡ n)
        × (chosen (suc index) fs (other_edits m (numbered_others os from) line old) ≡ es)

-- both parts
joined : (w : Weighted) (ws : Weighteds) (from line : ℕ) (t : Tree) (ts : Trees) (n k : ℕ)
    (es fs : List Edit) → Selected w from line t n es → SelectedAll ws (from + picks w) line ts k fs
    → SelectedAll (weighted_and w ws) from line (tree_and t ts) (n + k) (es ++ fs)
joined w ws from line t ts n k es fs a b =
    let mid = from + picks w in
    let to = from + (picks w + picks_in ws) in
    let here : Ends b.selection to =
    ends_later b.selection (mid + picks_in ws) to (omega arith) b.ends in
    record {
      selection = a.selection ++ b.selection;
      rises = rises_append a.selection b.selection from mid (omega arith) a.rises a.ends b.rises;
      ends = ends_append a.selection b.selection mid to (omega arith) a.ends here;
      names =
          names_append _ a.selection b.selection
          (names_more _ _ a.selection (λ p i h. or_left _ _ h) a.names)
          (names_more _ _ b.selection (λ p i h. or_right _ _ h) b.names);
      gives = λ m agrees.
          let x =
          a.gives m (agrees_left m a.selection b.selection from mid to (omega arith) b.rises
          agrees) in
          let late : Agrees m b.selection mid to =
          agrees_right m a.selection b.selection from mid to (omega arith) a.ends agrees in
          let y = b.gives m (λ p lo hi. late p lo (omega arith)) in
          ((λ i. tree_and (x.0 i) (y.0 i)), (λ i. x.1 i + y.1 i), (λ i. x.2 i ++ y.2 i));
    }

-- the base of a pick
in_base : (number : ℕ) (w : Weighted) (os : Others) (from line : ℕ) (t : Tree) (n : ℕ)
    (es : List Edit) → Selected w (suc from) line t n es
    → Selected (pick number w os) from line t n es
in_base number w os from line t n es a =
    record {
      selection = a.selection;
      rises = rises_earlier a.selection from (suc from) (omega arith) a.rises;
      ends =
          ends_later a.selection (suc from + picks w) (from + suc (picks w + picks_in_others os))
          (omega arith) a.ends;
      names = names_more _ _ a.selection (λ p i h. or_left _ _ (or_right _ _ h)) a.names;
      gives = λ m agrees.
          let none : m from ≡ 0 =
          agrees from (omega arith) (omega arith) ∙ member_before a.selection (suc from) from
          a.rises (omega arith) in
          let x = a.gives m (λ p lo hi. agrees p (omega arith) (omega arith)) in
          rw none x;
    }

has_this : (k i n : ℕ) → i < n → (k == k) && nat_le (suc i) n ≡ true
has_this k i n h = grind (arith, nat_tests)

-- another member of a pick
in_other : (number : ℕ) (w : Weighted) (os : Others) (from line : ℕ) (t : Tree) (n : ℕ)
    (es : List Edit) → SelectedOther os (suc from + picks w) line (base_of w) t n es
    → Selected (pick number w os) from line t n es
in_other number w os from line t n es a =
    let start = suc from + picks w in
    let this : Choice = record { pick = from; member = suc a.index } in
    let to = from + suc (picks w + picks_in_others os) in
    record {
      selection = this ∷ a.selection;
      rises = (omega arith, rises_earlier a.selection (suc from) start (omega arith) a.rises);
      ends = (
        omega arith,
        ends_later a.selection (start + picks_in_others os) to (omega arith)
            a.ends,
      );
      names = (
        omega arith,
        or_left _ _
            (or_left _ _ (has_this from a.index (count_others (numbered_others os start)) a.there)),
        names_more _ _ a.selection (λ p i h. or_right _ _ h) a.names,
      );
      gives = λ m agrees.
          let member : m from ≡ suc a.index =
          agrees from (omega arith) (omega arith) ∙ this_pick from (suc a.index) a.selection in
          let inner : Agrees m a.selection start (start + picks_in_others os) =
          λ p lo hi. agrees p (omega arith) (omega arith) ∙ other_pick this a.selection p
          (omega arith) in
          let x =
          a.gives m (plain m (numbered w (suc from))) (cost m (numbered w (suc from)))
          (edits m (numbered w (suc from)) line) inner in
          rw (member, base_numbered w (suc from)) x;
    }

first_other : (rule c : ℕ) (w : Weighted) (os : Others) (from line : ℕ) (old t : Tree) (n : ℕ)
    (es : List Edit) → Selected w from line t n es
    → SelectedOther (other_and rule c w os) from line old t (c + n) (edit_by line rule old t ∷ es)
first_other rule c w os from line old t n es a =
    record {
      index = 0;
      there = omega arith;
      selection = a.selection;
      rises = a.rises;
      ends =
          ends_later a.selection (from + picks w) (from + (picks w + picks_in_others os))
          (omega arith) a.ends;
      names = names_more _ _ a.selection (λ p i h. or_left _ _ h) a.names;
      gives = λ m u k fs agrees.
          let x = a.gives m (λ p lo hi. agrees p lo (omega arith)) in
          (x.0, (λ i. c + x.1 i), (λ i. edit_by line rule old (x.0 i) ∷ x.2 i));
    }

later_other : (rule c : ℕ) (w : Weighted) (os : Others) (from line : ℕ) (old t : Tree) (n : ℕ)
    (es : List Edit) → SelectedOther os (from + picks w) line old t n es
    → SelectedOther (other_and rule c w os) from line old t n es
later_other rule c w os from line old t n es a =
    record {
      index = suc a.index;
      there = let h = a.there in omega arith;
      selection = a.selection;
      rises = rises_earlier a.selection from (from + picks w) (omega arith) a.rises;
      ends =
          ends_later a.selection (from + picks w + picks_in_others os)
          (from + (picks w + picks_in_others os)) (omega arith) a.ends;
      names = names_more _ _ a.selection (λ p i h. or_right _ _ h) a.names;
      gives = λ m u k fs agrees. a.gives m u k fs (λ p lo hi. agrees p (omega arith) (omega arith));
    }

-- what the tree gives, a selection gives
mutual
  pub selected : (w : Weighted) (from line : ℕ) (t : Tree) (n : ℕ) (es : List Edit)
      → Gives w line t n es → Selected w from line t n es
  selected (plainly k ws) from line t n es h =
      let a = all_selected ws from (line_below k line) h.0 n es h.2 in
      record {
        selection = a.selection;
        rises = a.rises;
        ends = a.ends;
        names = a.names;
        gives = λ m agrees. let x = a.gives m agrees in (ap (node k) x.0 ∙ sym h.1, x.1, x.2);
      }
  selected (pick number w os) from line t n es h = elim h [
    | inl base ↦ in_base number w os from line t n es (selected w (suc from) line t n es base)
    | inr other ↦ in_other number w os from line t n es
        (other_selected os (suc from + picks w) line (base_of w) t n es other)
  ]

  all_selected : (ws : Weighteds) (from line : ℕ) (ts : Trees) (n : ℕ) (es : List Edit)
      → GivesAll ws line ts n es → SelectedAll ws from line ts n es
  all_selected no_weighted from line ts n es h =
      rw (h.0, h.1, h.2) (record
      { selection = []; rises = tt; ends = tt; names = tt; gives = λ m agrees. (refl, refl, refl) })
  all_selected (weighted_and w ws) from line ts n es h =
      let p = h.0 in
      rw (h.1, h.2, h.3) (joined w ws from line p.tree p.trees p.cost p.costs p.edits p.more
      (selected w from line p.tree p.cost p.edits h.4)
      (all_selected ws (from + picks w) line p.trees p.costs p.more h.5))

  other_selected : (os : Others) (from line : ℕ) (old t : Tree) (n : ℕ) (es : List Edit)
      → GivesOther os line old t n es → SelectedOther os from line old t n es
  other_selected no_others from line old t n es h = absurd h
  other_selected (other_and rule c w os) from line old t n es h = elim h [
    | inl this ↦ rw (this.1, this.2)
        (first_other rule c w os from line old t this.0.cost this.0.edits
        (selected w from line t this.0.cost this.0.edits this.3))
    | inr later ↦ later_other rule c w os from line old t n es
        (other_selected os (from + picks w) line old t n es later)
  ]
