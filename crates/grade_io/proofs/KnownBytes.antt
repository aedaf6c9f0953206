-- Known bytes that are written in several steps.
use Rattle.std.proofs.Common.{ℕ, ◌+◌, ◌-◌, List, ◌++◌, Option, Some, None, length, take, drop, sym, ap, ◌∙◌, subst, append_assoc}
use Rattle.std.proofs.Math.Seq.{take-add}
use Rattle.std.specs.Io.KnownBytes.{Appends}
use Rattle.grade_io.proofs.Added.{rest}

pub Appends-then : (u v w : Option (List ℕ)) (a b : List ℕ) → Appends u v a → Appends v w b → Appends u w (a ++ b)
Appends-then None v w a b x y = tt
Appends-then (Some xs) None w a b x y = absurd x
Appends-then (Some xs) (Some ys) None a b x y = absurd y
Appends-then (Some xs) (Some ys) (Some zs) a b x y = y ∙ ap (λ (t : List ℕ). t ++ b) x ∙ append_assoc xs a b

-- behind the first d bytes of a text, n bytes more of it
pub Appends-more : (u v w : Option (List ℕ)) (text : List ℕ) (d n : ℕ) → Appends u v (take d text) → Appends v w (take n (take (length text - d) (drop d text))) → Appends u w (take (d + n) text)
Appends-more u v w text d n before now =
    subst (Appends u w) (ap (λ xs. take d text ++ take n xs) (rest d text) ∙ sym (take-add d n text)) (Appends-then u v w (take d text) _ before now)
