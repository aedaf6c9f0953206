-- The order of selections, from their last choices on.
use Rattle.std.proofs.Common.{◌≡◌, ◌≢◌, ℕ, zero, suc, ◌-◌, ◌<◌, ◌≤◌, List, [], ◌∷◌, length, take, get_or, reverse, refl, sym, ap, ◌∙◌, arith, inl, inr}
use Rattle.std.specs.Prelude.{◌⊎◌}
use Rattle.std.proofs.Math.Seq.{take-suc}
use Rattle.std.proofs.lemmas.List.{reverse-append, take_all}
use Rattle.std.proofs.lemmas.Bool.Decides.{nat_tests}
use Rattle.std.proofs.lemmas.Cmp.{lists_total, nat_cmp_total, on_total, then_total}
use Rattle.std.specs.Cmp.{IsTotalOrder}
use Rattle.std.specs.Cmp.Lexicographic.{slice_cmp}
use Rattle.std.specs.Ordering.{nat_cmp, ordering_then}
use Rattle.std.specs.declared.cmp.Ordering.{Ordering}
use Rattle.std.specs.declared.cmp.Ordering.TheVariants.{Equal, Less, Greater}
use Rattle.choice_tree.specs.declared.selection.Choice.{Choice}
use Rattle.cost_levels.specs.Order.{choice_cmp, selection_cmp}

choices_total : IsTotalOrder choice_cmp
choices_total = then_total (on_total (λ (c : Choice). c.pick) nat_cmp_total) (on_total (λ (c : Choice). c.member) nat_cmp_total)

pub reversed_total : IsTotalOrder (slice_cmp choice_cmp)
reversed_total = lists_total choices_total

-- the first i choices of one and the first j of the other
abbrev pub fronts_cmp : List Choice → ℕ → List Choice → ℕ → Ordering
fronts_cmp a i b j = slice_cmp choice_cmp (reverse (take i a)) (reverse (take j b))

pub whole_fronts : (a b : List Choice) → fronts_cmp a (length a) b (length b) ≡ selection_cmp a b
whole_fronts a b = λ k. slice_cmp choice_cmp (reverse (take_all (length a) a (omega arith) k)) (reverse (take_all (length b) b (omega arith) k))

last_first : (a : List Choice) (i : ℕ) (d : Choice) → i < length a → reverse (take (suc i) a) ≡ get_or a i d ∷ reverse (take i a)
last_first a i d h = ap reverse (take-suc a i d h) ∙ reverse-append (take i a) (get_or a i d ∷ [])

none : Choice
none = record { pick = 0; member = 0 }

below : (k : ℕ) → nat_cmp 0 (suc k) ≡ Less
below k = grind (arith, nat_tests)

above : (k : ℕ) → nat_cmp (suc k) 0 ≡ Greater
above k = grind (arith, nat_tests)

nothing_first : (b : List Choice) (j : ℕ) → j ≤ length b → nat_cmp 0 j ≡ slice_cmp choice_cmp [] (reverse (take j b))
nothing_first b zero h = refl
nothing_first b (suc k) h = below k ∙ sym (ap (slice_cmp choice_cmp []) (last_first b k none h))

nothing_second : (a : List Choice) (i : ℕ) → i ≤ length a → nat_cmp i 0 ≡ slice_cmp choice_cmp (reverse (take i a)) []
nothing_second a zero h = refl
nothing_second a (suc k) h = above k ∙ sym (ap (λ s. slice_cmp choice_cmp s []) (last_first a k none h))

-- where one has none left, the longer is the greater
pub ends : (a b : List Choice) (i j : ℕ) → i ≤ length a → j ≤ length b → (i ≡ 0) ⊎ (i ≢ 0) × (j ≡ 0) → nat_cmp i j ≡ fronts_cmp a i b j
ends a b i j h k (inl e) =
    ap (λ n. nat_cmp n j) e ∙ nothing_first b j k ∙ ap (λ n. slice_cmp choice_cmp (reverse (take n a)) (reverse (take j b))) (sym e)
ends a b i j h k (inr (some, e)) =
    ap (nat_cmp i) e ∙ nothing_second a i h ∙ ap (λ n. slice_cmp choice_cmp (reverse (take i a)) (reverse (take n b))) (sym e)

step : (a b : List Choice) (i j : ℕ) (d : Choice) → 0 < i → 0 < j → i ≤ length a → j ≤ length b
    → fronts_cmp a i b j ≡ ordering_then (choice_cmp (get_or a (i - 1) d) (get_or b (j - 1) d)) (fronts_cmp a (i - 1) b (j - 1))
step a b i j d some any h k =
    let first : i ≡ suc (i - 1) = omega arith in
    let second : j ≡ suc (j - 1) = omega arith in
    let left = ap (λ n. reverse (take n a)) first ∙ last_first a (i - 1) d (omega arith) in
    let right = ap (λ n. reverse (take n b)) second ∙ last_first b (j - 1) d (omega arith) in
    λ n. slice_cmp choice_cmp (left n) (right n)

-- a choice that differs decides, and behind one that doesn't those before it
pub go_on : (a b : List Choice) (i j : ℕ) (d : Choice) → 0 < i → 0 < j → i ≤ length a → j ≤ length b → choice_cmp (get_or a (i - 1) d) (get_or b (j - 1) d) ≡ Equal
    → fronts_cmp a (i - 1) b (j - 1) ≡ fronts_cmp a i b j
go_on a b i j d some any h k e = sym (step a b i j d some any h k ∙ ap (λ o. ordering_then o (fronts_cmp a (i - 1) b (j - 1))) e)

first_decides : (o p : Ordering) → (o ≡ Equal → ⊥) → o ≡ ordering_then o p
first_decides Less p h = refl
first_decides Equal p h = absurd (h refl)
first_decides Greater p h = refl

pub decides : (a b : List Choice) (i j : ℕ) (d : Choice) (o : Ordering) → 0 < i → 0 < j → i ≤ length a → j ≤ length b → o ≡ choice_cmp (get_or a (i - 1) d) (get_or b (j - 1) d)
    → (o ≡ Equal → ⊥) → o ≡ fronts_cmp a i b j
decides a b i j d o some any h k e apart =
    first_decides o (fronts_cmp a (i - 1) b (j - 1)) apart ∙ ap (λ q. ordering_then q (fronts_cmp a (i - 1) b (j - 1))) e ∙ sym (step a b i j d some any h k)
