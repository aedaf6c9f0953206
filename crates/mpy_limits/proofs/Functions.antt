-- The least line and the places of all functions.
use Rattle.std.proofs.Common.{◌≡◌, ℕ, zero, suc, ◌+◌, ◌<◌, ◌≤◌, List, [], ◌∷◌, ◌++◌, length, map, drop, take, get_or, slice_get, Option, None, Some, Result, Ok, Err, refl, sym, ap, ◌∙◌, arith}
use Rattle.std.proofs.lemmas.List.{at_drop_more, at_drop_all}
use Rattle.std.proofs.lemmas.List.Concat.{flat_map-cons}
use Rattle.std.specs.List.{flat_map}
use Rattle.mpy_tree.specs.Leasts.{lesser, least}
use Rattle.mpy_tree.specs.declared.tree.Func.{Func}
use Rattle.mpy_tree.specs.Syntax.{Routine}
use Rattle.mpy_tree.specs.View.{block_of, routine_of}
use Rattle.mpy_limits.specs.Limits.{all_statements, limit_lines, nth_or_left, routine_lines, statements}
use Rattle.mpy_tree.proofs.Leasts.{lesser_of_nil, lesser_of_append}
use Rattle.mpy_limits.proofs.Lines.{two_pieces}
use Rattle.mpy_limits.proofs.StatementPlaces.{behind_first, found_in_first}

abbrev pub lines_of_rest : Option ℕ → List Func → Option ℕ
lines_of_rest o fs = lesser o (least (flat_map routine_lines (map routine_of fs)))

-- one function more
pub functions_more : (o p : Option ℕ) (fs : List Func) (i : ℕ) (f : Func) → i < length fs → f ≡ get_or fs i f → p ≡ lesser o (least (routine_lines (routine_of f))) → lines_of_rest o (drop i fs) ≡ lines_of_rest p (drop (i + 1) fs)
functions_more o p fs i f h is e =
    let rest = map routine_of (drop (i + 1) fs) in
    at_drop_more (lines_of_rest o) fs i f h
    ∙ ap (λ q. lines_of_rest o (q ∷ drop (i + 1) fs)) (sym is)
    ∙ ap (λ xs. lesser o (least xs)) (flat_map-cons routine_lines (routine_of f) rest)
    ∙ lesser_of_append o (routine_lines (routine_of f)) (flat_map routine_lines rest)
    ∙ ap (λ q. lines_of_rest q (drop (i + 1) fs)) (sym e)

pub functions_end : (o : Option ℕ) (fs : List Func) (i : ℕ) → length fs ≤ i → lines_of_rest o (drop i fs) ≡ o
functions_end o fs i h = at_drop_all (lines_of_rest o) fs i h ∙ lesser_of_nil o

abbrev pub place_in_rest : List Func → ℕ → Result ℕ ℕ
place_in_rest fs n = nth_or_left (flat_map (λ r. statements r.body) (map routine_of fs)) n

next_function : (fs : List Func) (i : ℕ) (f : Func) (n : ℕ) → i < length fs → f ≡ get_or fs i f → place_in_rest (drop i fs) n ≡ nth_or_left (statements (block_of f.body) ++ flat_map (λ r. statements r.body) (map routine_of (drop (i + 1) fs))) n
next_function fs i f n h is =
    at_drop_more (λ qs. place_in_rest qs n) fs i f h
    ∙ ap (λ q. place_in_rest (q ∷ drop (i + 1) fs) n) (sym is)
    ∙ ap (λ xs. nth_or_left xs n) (flat_map-cons (λ r. statements r.body) (routine_of f) (map routine_of (drop (i + 1) fs)))

pub found_in_next_function : (fs : List Func) (i : ℕ) (f : Func) (n line : ℕ) → i < length fs → f ≡ get_or fs i f → Ok line ≡ nth_or_left (statements (block_of f.body)) n → place_in_rest (drop i fs) n ≡ Ok line
found_in_next_function fs i f n line h is e =
    next_function fs i f n h is
    ∙ sym (found_in_first (statements (block_of f.body)) (flat_map (λ r. statements r.body) (map routine_of (drop (i + 1) fs))) n line e)

pub behind_next_function : (fs : List Func) (i : ℕ) (f : Func) (n left : ℕ) → i < length fs → f ≡ get_or fs i f → Err left ≡ nth_or_left (statements (block_of f.body)) n → place_in_rest (drop i fs) n ≡ place_in_rest (drop (i + 1) fs) left
behind_next_function fs i f n left h is e =
    next_function fs i f n h is
    ∙ behind_first (statements (block_of f.body)) (flat_map (λ r. statements r.body) (map routine_of (drop (i + 1) fs))) n left e

pub behind_all_functions : (fs : List Func) (i n : ℕ) → length fs ≤ i → place_in_rest (drop i fs) n ≡ Err n
behind_all_functions fs i n h = at_drop_all (λ qs. place_in_rest qs n) fs i h

-- a place behind the end is behind all members
pub left_behind : (xs : List ℕ) (n left : ℕ) → Err left ≡ nth_or_left xs n → n ≡ left + length xs
left_behind [] n left e = let same : left ≡ n = cc in omega (arith, same)
left_behind (x ∷ xs) zero left e = cc
left_behind (x ∷ xs) (suc n) left e = omega (arith, left_behind xs n left e)

pub place_within : (xs : List ℕ) (n line : ℕ) → Ok line ≡ nth_or_left xs n → n < length xs
place_within [] n line e = cc
place_within (x ∷ xs) zero line e = omega arith
place_within (x ∷ xs) (suc n) line e = omega (arith, place_within xs n line e)

-- a program within the limits has 200 statements at most
none_left : (xs : List ℕ) (n : ℕ) → take 1 (drop n xs) ≡ [] → length xs ≤ n
none_left [] n e = omega arith
none_left (x ∷ xs) zero e = cc
none_left (x ∷ xs) (suc n) e = omega (arith, none_left xs n e)

no_front : (xs ys : List ℕ) → xs ++ ys ≡ [] → xs ≡ []
no_front [] ys e = refl
no_front (x ∷ xs) ys e = cc

no_back : (xs ys : List ℕ) → xs ++ ys ≡ [] → ys ≡ []
no_back [] ys e = e
no_back (x ∷ xs) ys e = cc

pub few_statements : (rs : List Routine) → limit_lines rs ≡ [] → length (all_statements rs) ≤ 200
few_statements rs small =
    let functions = map (λ r. r.line) (take 1 (drop 8 rs)) in
    let over = take 1 (drop 200 (all_statements rs)) in
    let headers = flat_map routine_lines rs in
    none_left (all_statements rs) 200 (no_back functions over (no_front (functions ++ over) headers small))

-- the member at a place, as a list
pub member_at : (xs : List ℕ) (n line : ℕ) → Ok line ≡ nth_or_left xs n → take 1 (drop n xs) ≡ line ∷ []
member_at [] n line e = cc
member_at (x ∷ xs) zero line e = let same : line ≡ x = cc in ap (λ y. y ∷ []) (sym same)
member_at (x ∷ xs) (suc n) line e = member_at xs n line e

pub no_member_at : (xs : List ℕ) (n left : ℕ) → Err left ≡ nth_or_left xs n → take 1 (drop n xs) ≡ []
no_member_at [] zero left e = refl
no_member_at [] (suc n) left e = refl
no_member_at (x ∷ xs) zero left e = cc
no_member_at (x ∷ xs) (suc n) left e = no_member_at xs n left e

abbrev pub line_at : List Func → ℕ → List ℕ
line_at fs n = map (λ r. r.line) (take 1 (drop n (map routine_of fs)))

pub function_at : (fs : List Func) (n : ℕ) (f : Func) → slice_get fs n ≡ Some f → line_at fs n ≡ f.line ∷ []
function_at [] n f e = cc
function_at (g ∷ fs) zero f e = let same : g ≡ f = cc in ap (λ h. h.line ∷ []) same
function_at (g ∷ fs) (suc n) f e = function_at fs n f e

pub no_function_at : (fs : List Func) (n : ℕ) → slice_get fs n ≡ None → line_at fs n ≡ []
no_function_at [] zero e = refl
no_function_at [] (suc n) e = refl
no_function_at (g ∷ fs) zero e = cc
no_function_at (g ∷ fs) (suc n) e = no_function_at fs n e

-- all limits of a program, one after the other
pub all_limits : (fs : List Func) (o p q : Option ℕ) → o ≡ least (line_at fs 8) → p ≡ lesser o (least (take 1 (drop 200 (flat_map (λ r. statements r.body) (map routine_of fs))))) → q ≡ lines_of_rest p fs → q ≡ least (limit_lines (map routine_of fs))
all_limits fs o p q e f g =
    let statement = take 1 (drop 200 (flat_map (λ r. statements r.body) (map routine_of fs))) in
    two_pieces None p q (line_at fs 8 ++ statement) (flat_map routine_lines (map routine_of fs)) (two_pieces None o p (line_at fs 8) statement e f) g
