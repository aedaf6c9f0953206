use Rattle.std.proofs.Common.{◌≡◌, ◌≤◌, ◌+◌, ◌∙◌, ℕ, Bool, false, List, [], ◌∷◌, ◌++◌, All, ap, arith, drop, length, map, replicate, subst, sym, take, length-append}
use Rattle.std.proofs.lemmas.List.{drop-append-le, take-append-le}
use Rattle.std.proofs.lemmas.List.Elements.{All-push}
use Rattle.bit_lists.proofs.Held.{words_push}
use Rattle.list_values.proofs.literals.padded.Goals as goal

-- one word of zeros more
zeros_more : {B : Type 0} (f : B → Bool) (n width : ℕ) (xs ys : List (List B)) (x : List B) → ys ≡ xs ++ x ∷ [] → n ≤ length xs
    → All (λ w. map f w ≡ replicate width false) (drop n xs) → map f x ≡ replicate width false
    → All (λ w. map f w ≡ replicate width false) (drop n ys)
zeros_more {B} f n width xs ys x e h before zero =
    let IsZero : List B → Type 0 = λ w. map f w ≡ replicate width false in
    let more : drop n ys ≡ drop n xs ++ x ∷ [] = ap (drop n) e ∙ drop-append-le n xs (x ∷ []) h in
    subst (All IsZero) (sym more) (All-push IsZero (drop n xs) x before zero)

pub loop-preserved : goal.loop-preserved
loop-preserved g c =
    let before = c.loop.invariant in
    let push = c.in_ok-push.ensures.ok in
    let many : length c.push.new.self ≡ length c.loop.padded + 1 = ap length push ∙ simp length-append (omega arith) in
    record {
      made = words_push before.made c.in_ok-nothing.ensures.made push;
      many = omega (arith, many, before.many);
      least = omega (arith, many, before.least);
      front = ap (take (length c.args.words)) push ∙ take-append-le (length c.args.words) c.loop.padded _ before.least ∙ before.front;
      zeros = λ vs. zeros_more (g.L.Logic.reads c.args.g.now vs) (length c.args.words) c.args.width _ _ _ push before.least (before.zeros vs) (c.in_ok-nothing.ensures.value vs);
    }
