-- A walk over selections, from one to the next.
use Rattle.std.proofs.Common.{◌≡◌, ◌≢◌, ℕ, zero, suc, ◌<◌, ◌+◌, List, [], ◌∷◌, ◌++◌, length, take, drop, get_or, refl, sym, ap, ◌∙◌, arith, subst, inl, inr, Result, Ok, Err, IfOk}
use Rattle.std.specs.Prelude.{AllPairs, Bool, min}
use Rattle.std.specs.List.{Contains}
use Rattle.std.proofs.lemmas.Bool.{cases_lt}
use Rattle.std.proofs.lemmas.List.{get_or-take, length-take, map_more, take-append-drop, take_all, take_more}
use Rattle.std.proofs.lemmas.List.Elements.{All-weaker, Contains-append_left}
use Rattle.choice_tree.specs.declared.selection.Choice.{Choice}
use Rattle.choice_tree.specs.Choices.{member_of}
use Rattle.cost_levels.specs.Live.{Before}
use Rattle.input_space.specs.declared.session.Session.{Session}
use Rattle.input_space.specs.Tasks.{Task}
use Rattle.least_all.specs.declared.listing.Found.{Found}
use Rattle.least_all.specs.declared.answer.Best.{Best}
use Rattle.least_all.specs.declared.answer.Best.TheVariants.{Listed}
use Rattle.least_all.specs.Answers.{IsAnswer, IsListed}
use Rattle.least_all.specs.Listings.{AsksMore, HasAsked, HasBest, selections_in}

-- LISTS

pub next_take : {A : Type 0} (xs : List A) (i : ℕ) (x : A) → i < length xs → x ≡ get_or xs i x
    → take (i + 1) xs ≡ take i xs ++ x ∷ []
next_take xs i x within is = take_more xs i x within ∙ ap (λ y. take i xs ++ y ∷ []) (sym is)

-- an element of a list of different ones doesn't stand before its place
pub fresh_in : {A : Type 0} (xs : List A) (i : ℕ) (x : A) → AllPairs (λ a b. a ≢ b) xs → i < length xs → x ≡ get_or xs i x
    → Contains (take i xs) x → ⊥
fresh_in xs i x different within is (j, below, same) =
    let count : length (take i xs) ≡ min i (length xs) = length-take i xs in
    let low : j < i = omega arith in
    different j i x low within (sym (get_or-take i xs j x low) ∙ same ∙ is)

pub within_all : {A : Type 0} (n : ℕ) (xs : List A) (x : A) → Contains (take n xs) x → Contains xs x
within_all n xs x c = subst (λ ys. Contains ys x) (take-append-drop n xs) (Contains-append_left (take n xs) (drop n xs) x c)

-- as many as are asked for, or all
pub take_least : {A : Type 0} (xs : List A) (count most : ℕ) → count ≡ min (length xs) most → take count xs ≡ take most xs
take_least xs count most is = elim (cases_lt most (length xs)) [
  | inl fewer ↦ (let e : count ≡ most = omega arith in ap (λ n. take n xs) e)
  | inr all ↦ take_all count xs (omega arith) ∙ sym (take_all most xs all)
]

-- WHAT WAS ASKED

pub asked_within : (n : ℕ) (ss : List (List Choice)) (xs : List Session) → HasAsked (take n ss) xs → HasAsked ss xs
asked_within n ss xs has = record {
  asked = has.asked;
  questions = has.questions;
  among = All-weaker (Contains (take n ss)) (Contains ss) (λ s c. within_all n ss s c) has.asked has.among;
  different = has.different;
}

-- one selection more may have been asked about
pub asked_next : (ss : List (List Choice)) (i : ℕ) (s : List Choice) (old new : List Session) → i < length ss → s ≡ get_or ss i s
    → AllPairs (λ a b. a ≢ b) ss → AsksMore s old new → HasAsked (take i ss) old → HasAsked (take (i + 1) ss) new
asked_next ss i s old new within is different more has =
    subst (λ done. HasAsked done new) (sym (next_take ss i s within is)) (more (take i ss) (fresh_in ss i s different within is) has)

-- WHAT WAS FOUND

pub best_next : (k : Task) (ss : List (List Choice)) (i : ℕ) (s : List Choice) (old new : List Found) → i < length ss → s ≡ get_or ss i s
    → ((done : List (List Choice)) → HasBest k done old → HasBest k (done ++ s ∷ []) new) → HasBest k (take i ss) old → HasBest k (take (i + 1) ss) new
best_next k ss i s old new within is more has =
    subst (λ done. HasBest k done new) (sym (next_take ss i s within is)) (more (take i ss) has)

pub if_listed : {E : Type 0} (k : Task) (ss : List (List Choice)) (most budget : ℕ) (picks : List (List Choice)) (whole : Bool) (r : Result Best E)
    → IfOk r (λ b. b ≡ Listed picks whole) → IsListed k ss most picks whole → IfOk r (IsAnswer k ss most budget)
if_listed k ss most budget picks whole (Ok b) is listed = subst (IsAnswer k ss most budget) (sym is) listed
if_listed k ss most budget picks whole (Err e) is listed = tt

-- SELECTIONS IN ORDER

apart : (s t : List Choice) → Before s t → s ≢ t
apart s t before same = let less = before.less in let e : member_of s before.pick ≡ member_of t before.pick = ap (λ r. member_of r before.pick) same in omega arith

pub all_apart : (ss : List (List Choice)) → AllPairs Before ss → AllPairs (λ r s. r ≢ s) ss
all_apart ss rise i j d lt within = apart (get_or ss i d) (get_or ss j d) (rise i j d lt within)

-- the selections of the first that were found
pub take_selections : (n : ℕ) (fs : List Found) → selections_in (take n fs) ≡ take n (selections_in fs)
take_selections zero fs = refl
take_selections (suc n) [] = refl
take_selections (suc n) (f ∷ fs) = ap (λ rs. f.selection ∷ rs) (take_selections n fs)

-- one selection more is copied
pub picks_more : (fs : List Found) (i : ℕ) (f : Found) (picks more : List (List Choice)) (s : List Choice) → i < length fs → f ≡ get_or fs i f
    → picks ≡ selections_in (take i fs) → s ≡ f.selection → more ≡ picks ++ s ∷ [] → more ≡ selections_in (take (i + 1) fs)
picks_more fs i f picks more s within is before copied pushed =
    pushed ∙ ap (λ r. picks ++ r ∷ []) copied ∙ ap (λ rs. rs ++ f.selection ∷ []) before
    ∙ sym (map_more (λ (g : Found). g.selection) fs i f within ∙ ap (λ (g : Found). selections_in (take i fs) ++ g.selection ∷ []) (sym is))
