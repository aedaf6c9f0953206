-- In a level stand exactly the live selections of its cost.
use Rattle.std.proofs.Common.{◌≡◌, ◌≢◌, inl, inr, ℕ, zero, suc, ◌<◌, ◌≤◌, Bool, true, false}
use Rattle.std.proofs.Common.{if◌then◌else◌, List, [], ◌∷◌, refl, sym, ap, ◌∙◌, subst, arith}
use Rattle.std.specs.Prelude.{◌==◌, All}
use Rattle.std.specs.List.{Contains}
use Rattle.std.proofs.lemmas.Bool.{cases_lt}
use Rattle.std.proofs.lemmas.Bool.Decides.{nat_tests}
use Rattle.std.proofs.lemmas.List.Elements.{All-cons, All-contains, All-head, All-tail}
use Rattle.choice_tree.specs.declared.selection.Choice.{Choice}
use Rattle.choice_tree.specs.Choices.{member_of, Rises, NamesBy}
use Rattle.choice_tree.specs.WeightedTrees.{Weighted, numbered}
use Rattle.choice_tree.specs.Selections.{Fits, has_member}
use Rattle.choice_tree.proofs.Numbers.{member_before}
use Rattle.cost_levels.specs.Levels.{level}
use Rattle.cost_levels.specs.Live.{IsLive, LevelsAreLive, reached}
use Rattle.cost_levels.specs.Plans.{done, planned, listed}
use Rattle.cost_levels.proofs.Beginning.{other_pick, this_pick}
use Rattle.cost_levels.proofs.Followed.{IsFollowed, follow, follow_listed, followed, price, prices}
use Rattle.cost_levels.proofs.Living.{NamesMember, named, names_members, names_reached}
use Rattle.cost_levels.proofs.Rising.{listed_rise, planned_rises}

-- a choice of a selection whose picks rise
later_pick : (s : List Choice) (from : ℕ) (c : Choice) → Rises from s → Contains s c → from ≤ c.pick
later_pick [] from c r (k, below, is) = absurd (omega (arith, below))
later_pick (x ∷ xs) from c r (zero, below, is) =
    let first = r.0 in
    let same = ap (λ (y : Choice). y.pick) is in
    omega (arith, first, same)
later_pick (x ∷ xs) from c r (suc k, below, is) =
    let first = r.0 in
    let later = later_pick xs (suc x.pick) c r.1 (k, omega (arith, below), is) in
    omega (arith, first, later)

member_is : (s : List Choice) (from : ℕ) (c : Choice) → Rises from s → Contains s c
    → member_of s c.pick ≡ c.member
member_is [] from c r (k, below, is) = absurd (omega (arith, below))
member_is (x ∷ xs) from c r (zero, below, is) =
    subst (λ (y : Choice). member_of (x ∷ xs) y.pick ≡ y.member) is (this_pick x.pick x.member xs)
member_is (x ∷ xs) from c r (suc k, below, is) =
    let c_in : Contains xs c = (k, omega (arith, below), is) in
    let later = later_pick xs (suc x.pick) c r.1 c_in in
    other_pick x xs c.pick (omega (arith, later)) ∙ member_is xs (suc x.pick) c r.1 c_in

-- a member that isn't the base is named
named_there : (s : List Choice) (q k : ℕ) → member_of s q ≡ suc k
    → Contains s (record { pick = q; member = suc k })
named_there [] q k h = absurd (omega (arith, h))
named_there (x ∷ xs) q k h =
    by_test (λ rest. named_there xs q k rest) (x.pick == q) refl
  where
    by_test : (member_of xs q ≡ suc k → Contains xs (record { pick = q; member = suc k }))
        → (b : Bool) → (x.pick == q) ≡ b
        → Contains (x ∷ xs) (record { pick = q; member = suc k })
    by_test later true e =
        let same : x.pick ≡ q = grind (arith, nat_tests) in
        let here : x.member ≡ suc k = ap (λ b. if b then x.member else member_of xs q) (sym e) ∙ h in
        (0, omega arith, λ i. record { pick = same i; member = here i })
    by_test later false e =
        let rest = later (ap (λ b. if b then x.member else member_of xs q) (sym e) ∙ h) in
        let within = rest.1 in
        (suc rest.0, omega (arith, within), rest.2)

not_less : (m n : ℕ) → (m < n → ⊥) → n ≤ m
not_less m n h = elim (cases_lt m n) [
  | inl less ↦ absurd (h less)
  | inr more ↦ more
]

rest_same : (x y : Choice) (xs ys : List Choice) → Rises (suc x.pick) xs → Rises (suc y.pick) ys
    → x.pick ≡ y.pick → ((q : ℕ) → member_of (x ∷ xs) q ≡ member_of (y ∷ ys) q)
    → (q : ℕ) → member_of xs q ≡ member_of ys q
rest_same x y xs ys r r' e h q = by_test (x.pick == q) refl
  where
    by_test : (b : Bool) → (x.pick == q) ≡ b → member_of xs q ≡ member_of ys q
    by_test true t =
        let same : x.pick ≡ q = grind (arith, nat_tests) in
        let none = member_before xs (suc x.pick) q r (omega (arith, same)) in
        let none' = member_before ys (suc y.pick) q r' (omega (arith, same, e)) in
        none ∙ sym none'
    by_test false t =
        let apart : x.pick ≢ q = λ same. grind (arith, nat_tests) in
        let apart' : y.pick ≢ q = λ same. apart (e ∙ same) in
        sym (other_pick x xs q apart) ∙ h q ∙ other_pick y ys q apart'

-- one selection alone has these members
pub one_selection : (s t : List Choice) (from : ℕ) → Rises from s → Rises from t
    → All (λ (c : Choice). 1 ≤ c.member) s → All (λ (c : Choice). 1 ≤ c.member) t
    → ((q : ℕ) → member_of s q ≡ member_of t q) → s ≡ t
one_selection [] [] from r r' a b h = refl
one_selection [] (y ∷ ys) from r r' a b h =
    let some = All-head (λ (c : Choice). 1 ≤ c.member) y ys b in
    let this = this_pick y.pick y.member ys in
    let none = h y.pick in
    absurd (omega (arith, some, this, none))
one_selection (x ∷ xs) [] from r r' a b h =
    let some = All-head (λ (c : Choice). 1 ≤ c.member) x xs a in
    let this = this_pick x.pick x.member xs in
    let none = h x.pick in
    absurd (omega (arith, some, this, none))
one_selection (x ∷ xs) (y ∷ ys) from r r' a b h =
    let some = All-head (λ (c : Choice). 1 ≤ c.member) x xs a in
    let any = All-head (λ (c : Choice). 1 ≤ c.member) y ys b in
    let at_x = this_pick x.pick x.member xs in
    let at_y = this_pick y.pick y.member ys in
    let x_same = h x.pick in
    let y_same = h y.pick in
    let not_later : x.pick ≤ y.pick =
    not_less y.pick x.pick (λ less.
    let none = member_before (x ∷ xs) x.pick y.pick (omega arith, r.1) less in
    omega (arith, none, y_same, at_y, any)) in
    let not_before : y.pick ≤ x.pick =
    not_less x.pick y.pick (λ less.
    let none = member_before (y ∷ ys) y.pick x.pick (omega arith, r'.1) less in
    omega (arith, none, x_same, at_x, some)) in
    let pick_same : x.pick ≡ y.pick = omega (arith, not_later, not_before) in
    let member_same : x.member ≡ y.member =
    sym at_x ∙ x_same ∙ ap (λ q. member_of (y ∷ ys) q) pick_same ∙ at_y in
    let rest : xs ≡ ys =
    one_selection xs ys (suc x.pick) r.1 (subst (λ p. Rises (suc p) ys) (sym pick_same) r'.1)
    (All-tail (λ (c : Choice). 1 ≤ c.member) x xs a) (All-tail (λ (c : Choice). 1 ≤ c.member) y ys b)
    (rest_same x y xs ys r.1 r'.1 pick_same h) in
    λ i. record { pick = pick_same i; member = member_same i } ∷ rest i

-- what a selection names, as a selection of the tree has it
named_has : (has : ℕ → ℕ → Bool) (s : List Choice) → NamesBy has s
    → All (λ (c : Choice). (1 ≤ c.member) × (has c.pick c.member ≡ true)) s
named_has has [] n = λ k d within. absurd (omega arith)
named_has has (x ∷ xs) n =
    All-cons (λ (c : Choice). (1 ≤ c.member) × (has c.pick c.member ≡ true)) x xs (n.0, n.1)
    (named_has has xs n.2)

-- a live selection is the one that the plan makes of its members
live_followed : (u : Weighted) (s : List Choice) → IsLive (numbered u 0) s
    → follow (member_of s) (planned (numbered u 0) done) ≡ s
live_followed u s live =
    let m = member_of s in
    let w = numbered u 0 in
    let p = planned w done in
    let t = follow m p in
    let rises : Rises 0 t =
    All-contains (Rises 0) (listed p (price m p)) t
    (listed_rise p 0 (price m p) (planned_rises u 0 done tt)) (follow_listed m p) in
    let made = names_members m p in
    let has = named_has (has_member w) s live.fits.1 in
    let none : (q : ℕ) → m q ≡ 0 → member_of t q ≡ m q =
    λ q e. unnamed t q (member_of t q) refl made e in
    let some : (q k : ℕ) → m q ≡ suc k → member_of t q ≡ m q =
    λ q k e.
    let this : Choice = record { pick = q; member = suc k } in
    let at = named_there s q k e in
    let there = All-contains (λ (c : Choice). Contains (reached m w) c.pick) s this live.live at in
    let holds = (All-contains (λ (c : Choice). (1 ≤ c.member) × (has_member w c.pick c.member ≡ true)) s this has at).1 in
    let a =
    named m u 0 done q there (subst (λ (i : ℕ). has_member w q i ≡ true) (sym e) holds)
    (omega (arith, e)) in
    member_is t 0 (record { pick = q; member = m q }) rises a.there in
    one_selection t s 0 rises live.fits.0
    (λ k d within. (made k d within).1) (λ k d within. (has k d within).0)
    (λ q. by_member (m q) refl (none q) (some q))
  where
    unnamed : (t : List Choice) (q k : ℕ) → member_of t q ≡ k → All (NamesMember (member_of s)) t
        → member_of s q ≡ 0 → member_of t q ≡ member_of s q
    unnamed t q zero e made h = e ∙ sym h
    unnamed t q (suc k) e made h =
        let this : Choice = record { pick = q; member = suc k } in
        let is = (All-contains (NamesMember (member_of s)) t this made (named_there t q k e)).0 in
        absurd (omega (arith, is, h))

    by_member : {q n : ℕ} (k : ℕ) → n ≡ k → (n ≡ 0 → q ≡ n) → ((j : ℕ) → n ≡ suc j → q ≡ n)
        → q ≡ n
    by_member zero e none some = none e
    by_member (suc k) e none some = some k e

pub levels_are_live : ((w : Weighted) (n : ℕ) (s : List Choice) → Contains (level (numbered w 0) n) s
    → Fits (numbered w 0) s) → (u : Weighted) → LevelsAreLive (numbered u 0)
levels_are_live fits u n s =
    let w = numbered u 0 in
    let p = planned w done in
    let m = member_of s in (
      λ at.
          let a = All-contains (IsFollowed p 0 n) (level w n) s (followed p 0 n (planned_rises u 0 done tt)) at in
          let same = a.is m (λ q on. refl) in
          let all = prices m w done in
          let paid = a.costs m (λ q on. refl) in (
            record {
              fits = fits u n s at;
              live =
                  subst (λ t. All (λ (c : Choice). Contains (reached m w) c.pick) t) same
                  (names_reached m w done (Contains (reached m w)) (λ q c. c)
                  (λ k d within. absurd (omega arith)));
            },
            omega (arith, all, paid),
          ),
      λ live.
          let same = live_followed u s live.0 in
          let paid = live.1 in
          let all = prices m w done in
          let whole : price m p ≡ n = omega (arith, all, paid) in
          subst (λ k. Contains (listed p k) s) whole
          (subst (λ t. Contains (listed p (price m p)) t) same (follow_listed m p)),
    )
