-- What loops and pushes add.
use Rattle.std.proofs.Common.{◌≡◌, ℕ, suc, ◌+◌, Bool, true, false, not, ◌==◌, List, [], ◌∷◌, ◌++◌, take, drop, length, refl, ap, ◌∙◌, arith, eq-eqb}
use Rattle.std.specs.Cmp.Lexicographic.{pointwise}
use Rattle.std.specs.List.{prefix_len}
use Rattle.std.proofs.Math.Seq.{take-append_seam}
use Rattle.step_lines.specs.Lines.{lacks}
use Rattle.step_lines.specs.Words.{is_at}
use Rattle.step_lines.proofs.Apart.{two}

front_by : (b c : ℕ) (cs : List ℕ) (t : Bool) → not (c == b) ≡ t → lacks b (take (prefix_len (λ d. not (d == b)) cs) cs) ≡ true → lacks b (take (prefix_len (λ d. not (d == b)) (c ∷ cs)) (c ∷ cs)) ≡ true
front_by b c cs true e h =
    let s : 1 + prefix_len (λ d. not (d == b)) cs ≡ suc (prefix_len (λ d. not (d == b)) cs) = omega arith in
    rw (e, s) (two (not (c == b)) (lacks b (take (prefix_len (λ d. not (d == b)) cs) cs)) e h)
front_by b c cs false e h = rw e refl

pub front_lacks : (b : ℕ) (text : List ℕ) → lacks b (take (prefix_len (λ c. not (c == b)) text) text) ≡ true
front_lacks b [] = refl
front_lacks b (c ∷ cs) = front_by b c cs (not (c == b)) refl (front_lacks b cs)

back_by : (b c : ℕ) (cs : List ℕ) (t : Bool) → (c == b) ≡ t → is_at b (drop (prefix_len (λ d. not (d == b)) cs) cs) ≡ true → is_at b (drop (prefix_len (λ d. not (d == b)) (c ∷ cs)) (c ∷ cs)) ≡ true
back_by b c cs true e h = rw e e
back_by b c cs false e h =
    let s : 1 + prefix_len (λ d. not (d == b)) cs ≡ suc (prefix_len (λ d. not (d == b)) cs) = omega arith in
    rw (e, s) h

pub back_at : (b : ℕ) (text : List ℕ) → is_at b (drop (prefix_len (λ c. not (c == b)) text) text) ≡ true
back_at b [] = refl
back_at b (c ∷ cs) = back_by b c cs (c == b) refl (back_at b cs)

pub same_bytes : (xs : List ℕ) → pointwise ◌==◌ xs xs ≡ true
same_bytes [] = refl
same_bytes (x ∷ xs) = two (x == x) (pointwise ◌==◌ xs xs) (eq-eqb x x refl) (same_bytes xs)

pub front_is : (front rest text : List ℕ) → text ≡ front ++ rest → take (length front) text ≡ front
front_is front rest text e = ap (take (length front)) e ∙ take-append_seam front rest
