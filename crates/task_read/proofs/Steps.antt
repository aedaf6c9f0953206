-- Steps that give one thing, or refuse once, one after another.
use Rattle.std.proofs.Common.{◌≡◌, refl, sym, subst, ◌∙◌, inl, inr}
use Rattle.mpy_tree.specs.declared.refusal.Refusal.{Refusal}
use Rattle.task_read.specs.Steps.{Step, Both, ◌>>=◌, done, refuse_if, IsOne}

same_first : {A B C : Type 0} (s : Step A) (Q : A → B → Type 0) (R : A → C → Type 0) (b : B) (c : C) → IsOne s → (x : Both s.gives Q b) (y : Both s.gives R c) → x.first ≡ y.first
same_first s Q R b c one x y = one.gives x.first y.first x.given y.given

pub one_then : {A B : Type 0} (s : Step A) (f : A → Step B) → IsOne s → ((a : A) → IsOne (f a)) → IsOne (s >>= f)
one_then s f one ones = record {
  gives = λ a b x y. (ones y.first).gives a b (subst (λ z. (f z).gives a) (same_first s _ _ a b one x y) x.second) y.second;
  refuses = λ q r x y. elim x [
    | inl p ↦ elim y [
      | inl p' ↦ one.refuses q r p p'
      | inr y' ↦ absurd (one.not_both y'.first q y'.given p)
    ]
    | inr x' ↦ elim y [
      | inl p' ↦ absurd (one.not_both x'.first r x'.given p')
      | inr y' ↦ (ones y'.first).refuses q r (subst (λ z. (f z).refuses q) (same_first s _ _ q r one x' y') x'.second) y'.second
    ]
  ];
  not_both = λ a r x y. elim y [
    | inl p ↦ one.not_both x.first r x.given p
    | inr y' ↦ (ones y'.first).not_both a r (subst (λ z. (f z).gives a) (same_first s _ _ a r one x y') x.second) y'.second
  ];
}

pub one_done : {A : Type 0} (a : A) → IsOne (done a)
one_done a = record {
  gives = λ x y p q. p ∙ sym q;
  refuses = λ q r x y. absurd x;
  not_both = λ x r p q. q;
}

pub one_refuse : (P : Type 0) (q : Refusal) → IsOne (refuse_if P q)
one_refuse P q = record {
  gives = λ x y p r. refl;
  refuses = λ x y p r. p.1 ∙ sym r.1;
  not_both = λ x r p h. p h.0;
}
