-- The least line of statements one after another, and names in lists.
use Rattle.std.proofs.Common.{◌≡◌, ℕ, List, [], ◌∷◌, ◌++◌, Bool, true, false, ◌||◌, Option, Some, None, ◌+◌, ◌<◌, length, get_or, map, drop, refl, sym, ap, ◌∙◌}
use Rattle.std.specs.Prelude.{is_some}
use Rattle.std.specs.List.{flat_map, list_any}
use Rattle.std.proofs.lemmas.List.{drop_more}
use Rattle.mpy_tree.specs.declared.tree.Func.{Func}
use Rattle.mpy_tree.specs.View.{routine_of, block_of}
use Rattle.std.proofs.lemmas.List.Concat.{flat_map-append}
use Rattle.mpy_tree.specs.Values.{same_bytes}
use Rattle.mpy_tree.specs.Leasts.{lesser, least}
use Rattle.mpy_tree.specs.Locals.{is_among}
use Rattle.mpy_tree.specs.Rules.{Slots}
use Rattle.mpy_tree.specs.Sites.{Site, does, asks, sites, inside, in_arms, in_last}
use Rattle.mpy_share.specs.Walks.{walk, walk_inside, walk_arms, walk_else}
use Rattle.mpy_tree.specs.Sharing.{some_name, changed_on, changes, on_line_if, has_line, shared_on, shared_from, is_called}
use Rattle.mpy_tree.specs.Syntax.{at, Action, Block, end, step, MaybeBlock, no_block, a_block, arm, Branches, no_arms, arm_and}
use Rattle.mpy_tree.specs.Syntax as ast
use Rattle.mpy_tree.specs.Syntax.{Routine}
use Rattle.mpy_tree.proofs.Leasts.{lesser_of_nil, none_least}
use Rattle.mpy_scopes.proofs.Soonest.{lesser_assoc, least_append}

pub parts_more : {A : Type 0} (g : A → List ℕ) (xs ys : List A) → least (flat_map g (xs ++ ys)) ≡ lesser (least (flat_map g xs)) (least (flat_map g ys))
parts_more g xs ys = ap least (flat_map-append g xs ys) ∙ least_append (flat_map g xs) (flat_map g ys)

module _ (g : Site → List ℕ) where
  abbrev all : List Site → Option ℕ
  all ss = least (flat_map g ss)

  two : (xs ys : List Site) (first : Option ℕ) → lesser (lesser first (all xs)) (all ys) ≡ lesser first (all (xs ++ ys))
  two xs ys first = lesser_assoc first (all xs) (all ys) ∙ ap (lesser first) (sym (parts_more g xs ys))

  three : (s : Site) (xs ys : List Site) (first : Option ℕ) → lesser (lesser (lesser first (least (g s))) (all xs)) (all ys) ≡ lesser first (all (s ∷ (xs ++ ys)))
  three s xs ys first =
      two xs ys (lesser first (least (g s)))
      ∙ lesser_assoc first (least (g s)) (all (xs ++ ys))
      ∙ ap (lesser first) (sym (least_append (g s) (flat_map g (xs ++ ys))))

  mutual
    -- the walk finds the least line of all statements
    pub walk_is : (b : Block) (first : Option ℕ) → walk g first b ≡ lesser first (all (sites b))
    walk_is end first = sym (lesser_of_nil first)
    walk_is (step (at line act) rest) first =
        walk_is rest (walk_inside g (lesser first (least (g (does line act)))) act)
        ∙ ap (λ m. lesser m (all (sites rest))) (inside_is act (lesser first (least (g (does line act)))))
        ∙ three (does line act) (inside act) (sites rest) first

    inside_is : (act : Action) (first : Option ℕ) → walk_inside g first act ≡ lesser first (all (inside act))
    inside_is (ast.If arms last) first =
        else_is last (walk_arms g first arms)
        ∙ ap (λ m. lesser m (all (in_last last))) (arms_is arms first)
        ∙ two (in_arms arms) (in_last last) first
    inside_is (ast.While e body) first = walk_is body first
    inside_is (ast.For x e body) first = walk_is body first
    inside_is act first = sym (lesser_of_nil first)

    arms_is : (arms : Branches) (first : Option ℕ) → walk_arms g first arms ≡ lesser first (all (in_arms arms))
    arms_is no_arms first = sym (lesser_of_nil first)
    arms_is (arm_and (arm line e body) rest) first =
        arms_is rest (walk g (lesser first (least (g (asks line e)))) body)
        ∙ ap (λ m. lesser m (all (in_arms rest))) (walk_is body (lesser first (least (g (asks line e)))))
        ∙ three (asks line e) (sites body) (in_arms rest) first

    else_is : (last : MaybeBlock) (first : Option ℕ) → walk_else g first last ≡ lesser first (all (in_last last))
    else_is no_block first = sym (lesser_of_nil first)
    else_is (a_block body) first = walk_is body first

either_more : (a b c d : Bool) → b ≡ (c || d) → (a || b) ≡ ((a || c) || d)
either_more true b c d e = refl
either_more false b c d e = e

pub in_either : (xs ys : List (List ℕ)) (x : List ℕ) → is_among (xs ++ ys) x ≡ (is_among xs x || is_among ys x)
in_either [] ys x = refl
in_either (y ∷ xs) ys x = either_more (same_bytes x y) (is_among (xs ++ ys) x) (is_among xs x) (is_among ys x) (in_either xs ys x)

pub some_of_either : (xs ys : List (List ℕ)) → some_name (xs ++ ys) ≡ (some_name xs || some_name ys)
some_of_either [] ys = refl
some_of_either (x ∷ xs) ys = refl

pub any_of_either : {A : Type 0} (test : A → Bool) (xs ys : List A) → list_any test (xs ++ ys) ≡ (list_any test xs || list_any test ys)
any_of_either test [] ys = refl
any_of_either test (x ∷ xs) ys = either_more (test x) (list_any test (xs ++ ys)) (list_any test xs) (list_any test ys) (any_of_either test xs ys)

none_among : (xs : List (List ℕ)) → list_any (is_among []) xs ≡ false
none_among [] = refl
none_among (x ∷ xs) = none_among xs

-- nothing of an expression that is open to no name is changed
pub nothing_changed : (S : Slots) (p : List Routine) (i : ℕ) (ss : List Site) → least (flat_map (changed_on S p i []) ss) ≡ None
unfolding least
nothing_changed S p i [] = refl
nothing_changed S p i (does line act ∷ ss) = ap (λ b. least (on_line_if b line ++ flat_map (changed_on S p i []) ss)) (none_among (changes S p i act)) ∙ nothing_changed S p i ss
nothing_changed S p i (asks line e ∷ ss) = nothing_changed S p i ss

some_sooner : (x : ℕ) (o : Option ℕ) → true ≡ is_some (lesser (Some x) o)
some_sooner x None = refl
some_sooner x (Some y) = refl

pub some_least : (xs : List ℕ) → has_line xs ≡ is_some (least xs)
unfolding least
some_least [] = refl
some_least (x ∷ xs) = some_sooner x (least xs)

-- the answer for a least line
pub nothing_shared : (xs : List ℕ) → None ≡ least xs → xs ≡ []
nothing_shared xs e = none_least xs (sym e)

-- a function more
pub shared_more : (S : Slots) (fs : List Func) (k : ℕ) (f : Func) (first here next : Option ℕ) → k < length fs → f ≡ get_or fs k f → here ≡ least (flat_map (shared_on S (map routine_of fs) k (is_called (map routine_of fs) f.name) f.params) (sites (block_of f.body))) → next ≡ lesser first here → lesser first (least (shared_from S (map routine_of fs) k (map routine_of (drop k fs)))) ≡ lesser next (least (shared_from S (map routine_of fs) (k + 1) (map routine_of (drop (k + 1) fs))))
shared_more S fs k f first here next h e eh en =
    let rest = shared_from S (map routine_of fs) (k + 1) (map routine_of (drop (k + 1) fs)) in
    let lines = flat_map (shared_on S (map routine_of fs) k (is_called (map routine_of fs) f.name) f.params) (sites (block_of f.body)) in
    let d : drop k fs ≡ f ∷ drop (k + 1) fs = drop_more fs k f h ∙ ap (λ g. g ∷ drop (k + 1) fs) (sym e) in
    ap (λ gs. lesser first (least (shared_from S (map routine_of fs) k (map routine_of gs)))) d
    ∙ ap (lesser first) (least_append lines rest)
    ∙ ap (λ m. lesser first (lesser m (least rest))) (sym eh)
    ∙ sym (lesser_assoc first here (least rest))
    ∙ ap (λ m. lesser m (least rest)) (sym en)
