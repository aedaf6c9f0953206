-- The least of several lines.
use Rattle.std.proofs.Common.{◌≡◌, ℕ, ◌+◌, ◌<◌, length, get_or, map, drop, Bool, true, false, if◌then◌else◌, min, List, [], ◌∷◌, ◌++◌, Option, Some, None, refl, sym, ap, ◌∙◌, arith}
use Rattle.std.proofs.lemmas.List.{drop_more}
use Rattle.mpy_tree.specs.Syntax.{Routine}
use Rattle.mpy_tree.proofs.Leasts.{lesser-none, lesser_of_append}
use Rattle.mpy_tree.specs.Sites.{sites, Site, line_of}
use Rattle.mpy_tree.specs.Leasts.{lesser, least}
use Rattle.mpy_tree.specs.Names.{lines_of, arity_lines_from, has_arity_fault, has_name_fault, header_lines, name_lines_from}
use Rattle.mpy_tree.specs.Locals.{locals}

pub lesser_assoc : (a b c : Option ℕ) → lesser (lesser a b) c ≡ lesser a (lesser b c)
lesser_assoc None b c = refl
lesser_assoc (Some m) None c = refl
lesser_assoc (Some m) (Some n) None = refl
lesser_assoc (Some m) (Some n) (Some k) = let e : min (min m n) k ≡ min m (min n k) = omega arith in ap Some e

pub lesser_of_none : (a : Option ℕ) → lesser a None ≡ a
lesser_of_none = lesser-none

pub least_append : (xs ys : List ℕ) → least (xs ++ ys) ≡ lesser (least xs) (least ys)
least_append xs ys = lesser_of_append None xs ys

line_if : (b : Bool) (first : Option ℕ) (line : ℕ) (rest : List ℕ) → lesser first (least (if b then line ∷ rest else rest)) ≡ lesser (if b then lesser first (Some line) else first) (least rest)
unfolding least
line_if true first line rest = sym (lesser_assoc first (Some line) (least rest))
line_if false first line rest = refl

-- a statement more
pub lines_more : {A : Type 0} (test : Site → Bool) (g : A → Site) (xs : List A) (k : ℕ) (x : A) (b : Bool) (first next : Option ℕ) → k < length xs → x ≡ get_or xs k x → b ≡ test (g x) → next ≡ (if b then lesser first (Some (line_of (g x))) else first) → lesser first (least (lines_of test (map g (drop k xs)))) ≡ lesser next (least (lines_of test (map g (drop (k + 1) xs))))
lines_more test g xs k x b first next h e eb en =
    let rest = lines_of test (map g (drop (k + 1) xs)) in
    let d : drop k xs ≡ x ∷ drop (k + 1) xs = drop_more xs k x h ∙ ap (λ y. y ∷ drop (k + 1) xs) (sym e) in
    ap (λ ys. lesser first (least (lines_of test (map g ys)))) d
    ∙ ap (λ c. lesser first (least (if c then line_of (g x) ∷ rest else rest))) (sym eb)
    ∙ line_if b first (line_of (g x)) rest
    ∙ ap (λ m. lesser m (least rest)) (sym en)

-- a function more
pub arities_more : {A : Type 0} (g : A → Routine) (p : List Routine) (fs : List A) (k : ℕ) (f : A) (first here next : Option ℕ) → k < length fs → f ≡ get_or fs k f → here ≡ least (lines_of (has_arity_fault p) (sites (g f).body)) → next ≡ lesser first here → lesser first (least (arity_lines_from p (map g (drop k fs)))) ≡ lesser next (least (arity_lines_from p (map g (drop (k + 1) fs))))
arities_more g p fs k f first here next h e eh en =
    let rest = arity_lines_from p (map g (drop (k + 1) fs)) in
    let lines = lines_of (has_arity_fault p) (sites (g f).body) in
    let d : drop k fs ≡ f ∷ drop (k + 1) fs = drop_more fs k f h ∙ ap (λ h. h ∷ drop (k + 1) fs) (sym e) in
    ap (λ gs. lesser first (least (arity_lines_from p (map g gs)))) d
    ∙ ap (lesser first) (least_append lines rest)
    ∙ ap (λ m. lesser first (lesser m (least rest))) (sym eh)
    ∙ sym (lesser_assoc first here (least rest))
    ∙ ap (λ m. lesser m (least rest)) (sym en)

pub names_more : {A : Type 0} (g : A → Routine) (p : List Routine) (fs : List A) (before after : List (List ℕ)) (k : ℕ) (f : A) (first header here next : Option ℕ) → k < length fs → f ≡ get_or fs k f → header ≡ least (header_lines before (g f)) → here ≡ least (lines_of (has_name_fault p (locals (g f))) (sites (g f).body)) → next ≡ lesser (lesser first header) here → after ≡ before ++ (g f).name ∷ [] → lesser first (least (name_lines_from p before (map g (drop k fs)))) ≡ lesser next (least (name_lines_from p after (map g (drop (k + 1) fs))))
names_more g p fs before after k f first header here next h e ed eh en ea =
    let rest = name_lines_from p (before ++ (g f).name ∷ []) (map g (drop (k + 1) fs)) in
    let lines = lines_of (has_name_fault p (locals (g f))) (sites (g f).body) in
    let d : drop k fs ≡ f ∷ drop (k + 1) fs = drop_more fs k f h ∙ ap (λ h. h ∷ drop (k + 1) fs) (sym e) in
    ap (λ gs. lesser first (least (name_lines_from p before (map g gs)))) d
    ∙ ap (lesser first) (least_append (header_lines before (g f) ++ lines) rest ∙ ap (λ m. lesser m (least rest)) (least_append (header_lines before (g f)) lines))
    ∙ ap (λ m. lesser first (lesser (lesser m (least lines)) (least rest))) (sym ed)
    ∙ ap (λ m. lesser first (lesser (lesser header m) (least rest))) (sym eh)
    ∙ sym (lesser_assoc first (lesser header here) (least rest))
    ∙ ap (λ m. lesser m (least rest)) (sym (lesser_assoc first header here) ∙ sym en)
    ∙ ap (λ ns. lesser next (least (name_lines_from p ns (map g (drop (k + 1) fs))))) (sym ea)
