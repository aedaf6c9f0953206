-- The lines of an answer, one after the other.
use Rattle.std.proofs.Common.{◌≡◌, ◌∙◌, ℕ, zero, suc, ◌+◌, ◌<◌, ◌≤◌, List, [], ◌∷◌, ◌++◌, refl, sym, ap, subst, arith, length, drop, take, map, get_or, append_assoc, append-nil}
use Rattle.std.proofs.Math.ListN.{drop_of_length-le}
use Rattle.std.specs.List.{flat_map}
use Rattle.std.proofs.lemmas.List.{length-map, take_all}
use Rattle.pick_command.specs.Texts.{mark_line, mark_lines, mark_text}

-- CASES

module _ {C X : Type 0} (g : C → X) (f : X → List ℕ) where
  mapped_step : (cs : List C) (i : ℕ) (c : C) → i < length cs → c ≡ get_or cs i c
      → flat_map f (take (i + 1) (map g cs)) ≡ flat_map f (take i (map g cs)) ++ f (g c)
  mapped_step [] i c below is = absurd (omega arith)
  mapped_step (d ∷ cs) zero c below is = append-nil (f (g d)) ∙ ap (λ x. f (g x)) (sym is)
  mapped_step (d ∷ cs) (suc i) c below is =
      let rest = mapped_step cs i c (omega arith) is in
      let next : suc i + 1 ≡ suc (i + 1) = omega arith in
      ap (λ n. flat_map f (take n (g d ∷ map g cs))) next
      ∙ ap (λ t. f (g d) ++ t) rest
      ∙ sym (append_assoc (f (g d)) (flat_map f (take i (map g cs))) (f (g c)))

  -- a line more
  pub lines_more : (cs : List C) (i : ℕ) (c : C) (out new : List ℕ) → i < length cs
      → c ≡ get_or cs i c → out ≡ flat_map f (take i (map g cs)) → new ≡ out ++ f (g c)
      → new ≡ flat_map f (take (i + 1) (map g cs))
  lines_more cs i c out new below is before added =
      added ∙ ap (λ t. t ++ f (g c)) before ∙ sym (mapped_step cs i c below is)

  pub all_lines : (cs : List C) (i : ℕ) (out : List ℕ) → length cs ≤ i
      → out ≡ flat_map f (take i (map g cs)) → out ≡ flat_map f (map g cs)
  all_lines cs i out past before =
      let many = length-map cs g in
      before ∙ ap (flat_map f) (take_all i (map g cs) (omega (arith, many, past)))

-- MARKS

pub number_at : (xs : List ℕ) (i : ℕ) → i < length xs
    → drop i xs ≡ get_or xs i 0 ∷ drop (i + 1) xs
number_at [] i below = absurd (omega arith)
number_at (x ∷ xs) zero below = refl
number_at (x ∷ xs) (suc i) below =
    let rest = number_at xs i (omega arith) in
    let next : suc i + 1 ≡ suc (i + 1) = omega arith in
    rest ∙ ap (λ n. get_or xs i 0 ∷ drop n (x ∷ xs)) (sym next)

pub marks_more : (fs : List (List ℕ)) (ms : List ℕ) (i : ℕ) (f : List ℕ) (m : ℕ)
    (out new all : List ℕ) → drop i fs ≡ f ∷ drop (i + 1) fs → drop i ms ≡ m ∷ drop (i + 1) ms
    → out ++ mark_lines (drop i fs) (drop i ms) ≡ all → new ≡ (out ++ f) ++ mark_text m
    → new ++ mark_lines (drop (i + 1) fs) (drop (i + 1) ms) ≡ all
marks_more fs ms i f m out new all file mark before added =
    let rest = mark_lines (drop (i + 1) fs) (drop (i + 1) ms) in
    let here : out ++ mark_lines (f ∷ drop (i + 1) fs) (m ∷ drop (i + 1) ms) ≡ all =
    subst (λ k. out ++ mark_lines (f ∷ drop (i + 1) fs) k ≡ all) mark
    (subst (λ k. out ++ mark_lines k (drop i ms) ≡ all) file before) in
    ap (λ t. t ++ rest) (added ∙ append_assoc out f (mark_text m))
    ∙ append_assoc out (mark_line f m) rest
    ∙ here

pub all_marks : (fs : List (List ℕ)) (ms : List ℕ) (i : ℕ) (out all : List ℕ) → length fs ≤ i
    → out ++ mark_lines (drop i fs) (drop i ms) ≡ all → out ≡ all
all_marks fs ms i out all past before =
    let none : drop i fs ≡ [] = drop_of_length-le fs past in
    sym (append-nil out) ∙ subst (λ k. out ++ mark_lines k (drop i ms) ≡ all) none before
