-- Lists that are told, with more at their ends.
use Rattle.std.proofs.Common.{◌≡◌, ℕ, ◌+◌, List, ◌++◌, ◌-◌, ◌≤◌, length, take, drop, length-drop, take_all, arith, refl, ap, sym, ◌∙◌, append_assoc, None, Some}
use Rattle.std.specs.Prelude.{Option}
use Rattle.std.proofs.Math.Seq.{take-add}
use Rattle.grade_io.specs.Devices.{added}

pub added-added : {A : Type 0} (o : Option (List A)) (xs ys : List A) → added (added o xs) ys ≡ added o (xs ++ ys)
added-added None xs ys = refl
added-added (Some zs) xs ys = ap Some (append_assoc zs xs ys)

-- a slice from d on, as a call is handed it
pub rest : (d : ℕ) (text : List ℕ) → take (length text - d) (drop d text) ≡ drop d text
rest d text = let whole : length (drop d text) ≤ length text - d = omega (arith, length-drop d text) in take_all _ _ whole

-- behind the first d bytes of a text, n bytes more of it
pub put_more : (old mid new : Option (List ℕ)) (text : List ℕ) (d n : ℕ) → mid ≡ added old (take d text) → new ≡ added mid (take n (take (length text - d) (drop d text))) → new ≡ added old (take (d + n) text)
put_more old mid new text d n before now =
    now ∙ ap (λ xs. added mid (take n xs)) (rest d text) ∙ ap (λ o. added o (take n (drop d text))) before ∙ added-added old (take d text) (take n (drop d text)) ∙ ap (λ front. added old front) (sym (take-add d n text))

pub rest_length : (d : ℕ) (text : List ℕ) → length (take (length text - d) (drop d text)) ≡ length text - d
rest_length d text = ap length (rest d text) ∙ length-drop d text
