-- Words that ask for a class.
use Rattle.std.proofs.Common.{◌≡◌, ℕ, List, [], ◌∷◌, length, get_or, map, sym, ◌∙◌, arith, None, Some}
use Rattle.std.specs.Prelude.{Option, IfNone}
use Rattle.std.specs.Fmt.{decimal}
use Rattle.std.proofs.lemmas.Fmt.{decimal_injective}
use Rattle.step_lines.specs.Words.{SpellsWithin}
use Rattle.class_core.specs.Words.{Asks, ClassWords, class_words}

-- what a list of five is, from what f gives of each item
pub five_items : {X : Type 0} (f : X → List ℕ) (xs : List X) (a b c d e : X) (s t u v w : List ℕ) → length xs ≡ 5
    → a ≡ get_or xs 0 a → b ≡ get_or xs 1 b → c ≡ get_or xs 2 c → d ≡ get_or xs 3 d → e ≡ get_or xs 4 e
    → s ≡ f a → t ≡ f b → u ≡ f c → v ≡ f d → w ≡ f e → map f xs ≡ s ∷ t ∷ u ∷ v ∷ w ∷ []
five_items f (i ∷ j ∷ k ∷ l ∷ m ∷ []) a b c d e s t u v w len ia ib ic id ie fa fb fc fd fe = cc
five_items f xs a b c d e s t u v w len ia ib ic id ie fa fb fc fd fe = absurd (omega arith)

-- the fifth word spells the budget
pub spelled_budget : (words : List (List ℕ)) (a b c d text : List ℕ) (w : ClassWords) → words ≡ a ∷ b ∷ c ∷ d ∷ text ∷ [] → Asks words w → SpellsWithin 1 200000 text w.budget
spelled_budget words a b c d text w is asks =
    let e : a ∷ b ∷ c ∷ d ∷ text ∷ [] ≡ class_words w = sym is ∙ asks.0 in
    let written : text ≡ decimal w.budget = cc in
    record {
      spelled = record { written = written; kept = omega (arith, asks.1.most) };
      from = asks.1.least;
      to = asks.1.most;
    }

make : (bounds reference rules list : List ℕ) (budget : ℕ) → ClassWords
make bounds reference rules list budget = record { bounds = bounds; reference = reference; rules = rules; list = list; budget = budget }

made : (w v : ClassWords) → class_words w ≡ class_words v → w.budget ≡ v.budget → make w.bounds w.reference w.rules w.list w.budget ≡ make v.bounds v.reference v.rules v.list v.budget
made w v words budget = cc

-- words ask for one class
pub one_asked : (words : List (List ℕ)) (w v : ClassWords) → Asks words w → Asks words v → w ≡ v
unfolding make
one_asked words w v asks other =
    let e : class_words w ≡ class_words v = sym asks.0 ∙ other.0 in
    let text : decimal w.budget ≡ decimal v.budget = cc in
    let budget : w.budget ≡ v.budget = decimal_injective w.budget v.budget (omega (arith, asks.1.most)) (omega (arith, other.1.most)) text in
    made w v e budget

pub where_none : {T P : Type 0} (o : Option T) → P → IfNone o P
where_none None p = p
where_none (Some x) p = tt
