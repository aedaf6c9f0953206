-- Chosen cases and marks.
use Rattle.std.proofs.Common.{◌≡◌, ◌∙◌, ◌↔◌, ℕ, zero, suc, ◌+◌, List, [], ◌∷◌, ◌++◌, Some, sym, ap, subst, refl, length, append_assoc, append-nil}
use Rattle.std.specs.Prelude.{All, slice_get}
use Rattle.std.proofs.lemmas.List.Elements.{All-append, All-cons, All-nil}
use Rattle.mpy_tree.specs.declared.value.Value.{Value}
use Rattle.mpy_tree.specs.Syntax.{Routine}
use Rattle.bounds_reader.specs.declared.bounds.Bounds.{Bounds}
use Rattle.input_space.specs.Agreement.{Agrees, EndsAlike, IsInput}
use Rattle.input_space.specs.Inputs.{inputs}
use Rattle.test_picker.specs.Choosing.{Adds, agrees, by_case, by_input, Chooses, none, more}
use Rattle.test_picker.specs.Failing.{FailsFirstAt}
use Rattle.test_picker.specs.PickLaws.{IsMark, MarksStay, OneChoice}
use Rattle.test_picker.proofs.Failures.{next, one_first, stays}
use Rattle.test_picker.proofs.Places.{all_at, contains_at}

same_value : {X : Type 0} (x y : X) → Some x ≡ Some y → x ≡ y
same_value x y e = cc

module _ (b : Bounds) (r : List Routine) where
  -- a program that fails on an input doesn't agree
  no_agreement : (p : List Routine) (x : List Value) → Agrees b r p → IsInput b x
      → (EndsAlike b r p x → ⊥) → ⊥
  no_agreement p x a is fails = fails (a x is)

  -- ONE CHOICE

  adds_one : (p : List Routine) (cs n m : List (List Value)) (i j : ℕ) → All (IsInput b) cs
      → Adds b r p cs n i → Adds b r p cs m j → (n ≡ m) × (i ≡ j)
  adds_one p cs n m i j all (agrees a) (agrees d) = (refl, refl)
  adds_one p cs n m i j all (agrees a) (by_case k f) =
      absurd (no_agreement p f.input a (all_at (IsInput b) cs k f.input all f.stands) f.fails)
  adds_one p cs n m i j all (agrees a) (by_input k x alike f e) =
      absurd (no_agreement p f.input a (contains_at (inputs b.params) k f.input f.stands) f.fails)
  adds_one p cs n m i j all (by_case k f) (agrees a) =
      absurd (no_agreement p f.input a (all_at (IsInput b) cs k f.input all f.stands) f.fails)
  adds_one p cs n m i j all (by_case k f) (by_case l g) =
      (refl, ap suc (one_first b r p cs k l f g))
  adds_one p cs n m i j all (by_case k f) (by_input l x alike g e) =
      absurd (f.fails (all_at (EndsAlike b r p) cs k f.input alike f.stands))
  adds_one p cs n m i j all (by_input k x alike f e) (agrees a) =
      absurd (no_agreement p f.input a (contains_at (inputs b.params) k f.input f.stands) f.fails)
  adds_one p cs n m i j all (by_input k x alike f e) (by_case l g) =
      absurd (g.fails (all_at (EndsAlike b r p) cs l g.input alike g.stands))
  adds_one p cs n m i j all (by_input k x alike f e) (by_input l y other g h) =
      let place = one_first b r p (inputs b.params) k l f g in
      let same = same_value x y (sym e ∙ ap (slice_get (inputs b.params)) place ∙ h) in
      (ap (λ z. cs ++ z ∷ []) same, refl)

  adds_inputs : (p : List Routine) (cs n : List (List Value)) (i : ℕ) → All (IsInput b) cs
      → Adds b r p cs n i → All (IsInput b) n
  adds_inputs p cs n i all (agrees a) = all
  adds_inputs p cs n i all (by_case k f) = all
  adds_inputs p cs n i all (by_input k x alike f e) =
      All-append (IsInput b) cs (x ∷ []) all
      (All-cons (IsInput b) x [] (contains_at (inputs b.params) k x e) (All-nil (IsInput b)))

  chooses_one : (cs : List (List Value)) (ps : List (List Routine)) (xs ys : List (List Value))
      (ms ns : List ℕ) → All (IsInput b) cs → Chooses b r cs ps xs ms → Chooses b r cs ps ys ns
      → (xs ≡ ys) × (ms ≡ ns)
  chooses_one cs ps xs ys ms ns all (none c) (none d) = (refl, refl)
  chooses_one cs ps xs ys ms ns all (more c n e p qs m marks adds rest) (more d o f q rs k others gives last) =
      let same = adds_one p cs n o m k all adds gives in
      let rest_from : Chooses b r o qs xs marks = subst (λ z. Chooses b r z qs xs marks) same.0 rest in
      let tail = chooses_one o qs xs ys marks others
      (subst (All (IsInput b)) same.0 (adds_inputs p cs n m all adds)) rest_from last in
      (tail.0, λ i. same.1 i ∷ tail.1 i)

  -- MARKS STAY

  -- the cases at the end begin with those there are
  record Begins (cs end : List (List Value)) : Type 0 where
    behind : List (List Value)
    is : end ≡ cs ++ behind

  adds_behind : (p : List Routine) (cs n : List (List Value)) (i : ℕ) → Adds b r p cs n i
      → Begins cs n
  adds_behind p cs n i (agrees a) = record { behind = []; is = sym (append-nil cs) }
  adds_behind p cs n i (by_case k f) = record { behind = []; is = sym (append-nil cs) }
  adds_behind p cs n i (by_input k x alike f e) = record { behind = x ∷ []; is = refl }

  begins_more : (cs n end : List (List Value)) → Begins cs n → Begins n end → Begins cs end
  begins_more cs n end h g = record {
    behind = h.behind ++ g.behind;
    is = g.is ∙ ap (λ z. z ++ g.behind) h.is ∙ append_assoc cs h.behind g.behind;
  }

  chooses_behind : (cs : List (List Value)) (ps : List (List Routine)) (end : List (List Value))
      (ms : List ℕ) → Chooses b r cs ps end ms → Begins cs end
  chooses_behind cs ps end ms (none c) = record { behind = []; is = sym (append-nil cs) }
  chooses_behind cs ps end ms (more c n e p qs m marks adds rest) =
      begins_more cs n end (adds_behind p cs n m adds) (chooses_behind n qs end marks rest)

  chooses_inputs : (cs : List (List Value)) (ps : List (List Routine)) (end : List (List Value))
      (ms : List ℕ) → All (IsInput b) cs → Chooses b r cs ps end ms → All (IsInput b) end
  chooses_inputs cs ps end ms all (none c) = all
  chooses_inputs cs ps end ms all (more c n e p qs m marks adds rest) =
      chooses_inputs n qs end marks (adds_inputs p cs n m all adds) rest

  first_stays : (p : List Routine) (cs end : List (List Value)) (k : ℕ) → Begins cs end
      → FailsFirstAt b r p cs k → FailsFirstAt b r p end k
  first_stays p cs end k begins f =
      subst (λ z. FailsFirstAt b r p z k) (sym begins.is) (stays b r p cs begins.behind k f)

  -- the mark of a program, beside the cases at the end
  mark_stays : (p : List Routine) (cs n end : List (List Value)) (m : ℕ) → Adds b r p cs n m
      → Begins n end → IsMark b r end p m
  mark_stays p cs n end m (agrees a) begins = a
  mark_stays p cs n end m (by_case k f) begins = first_stays p cs end k begins f
  mark_stays p cs n end m (by_input k x alike f e) begins =
      let same = same_value f.input x (sym f.stands ∙ e) in
      first_stays p (cs ++ x ∷ []) end (length cs) begins
      (next b r p cs x alike (subst (λ z. EndsAlike b r p z → ⊥) same f.fails))

  -- only a program that agrees is marked 0
  zero_mark : (p : List Routine) (end : List (List Value)) (m : ℕ) → All (IsInput b) end
      → IsMark b r end p m → (m ≡ 0) ↔ Agrees b r p
  zero_mark p end zero all mark = (λ e. mark, λ a. refl)
  zero_mark p end (suc k) all mark = (
    λ e. absurd (let no : suc k ≡ 0 = e in cc),
    λ a. absurd (no_agreement p mark.input a (all_at (IsInput b) end k mark.input all mark.stands) mark.fails),
  )

  chooses_marks : (cs : List (List Value)) (ps : List (List Routine)) (end : List (List Value))
      (ms : List ℕ) → Chooses b r cs ps end ms → (i : ℕ) (p : List Routine) (m : ℕ)
      → slice_get ps i ≡ Some p → slice_get ms i ≡ Some m → IsMark b r end p m
  chooses_marks cs ps end ms (none c) i p m at mark_at = cc
  chooses_marks cs ps end ms (more c n e q qs k marks adds rest) zero p m at mark_at =
      let head = mark_stays q cs n end k adds (chooses_behind n qs end marks rest) in
      let program = same_value q p at in
      let mark = same_value k m mark_at in
      subst (λ z. IsMark b r end z m) program (subst (IsMark b r end q) mark head)
  chooses_marks cs ps end ms (more c n e q qs k marks adds rest) (suc i) p m at mark_at =
      chooses_marks n qs end marks rest i p m at mark_at

  chooses_many : (cs : List (List Value)) (ps : List (List Routine)) (end : List (List Value))
      (ms : List ℕ) → Chooses b r cs ps end ms → length ms ≡ length ps
  chooses_many cs ps end ms (none c) = refl
  chooses_many cs ps end ms (more c n e q qs k marks adds rest) =
      ap suc (chooses_many n qs end marks rest)

  -- ONE PROGRAM MORE AT THE END

  pub chooses_more : (cs : List (List Value)) (ps : List (List Routine)) (end n : List (List Value))
      (ms : List ℕ) (p : List Routine) (m : ℕ) → Chooses b r cs ps end ms → Adds b r p end n m
      → Chooses b r cs (ps ++ p ∷ []) n (ms ++ m ∷ [])
  chooses_more cs ps end n ms p m (none c) adds = more cs n n p [] m [] adds (none n)
  chooses_more cs ps end n ms p m (more c o e q qs k marks first rest) adds =
      more cs o n q (qs ++ p ∷ []) k (marks ++ m ∷ []) first
      (chooses_more o qs end n marks p m rest adds)

pub one_choice : OneChoice
one_choice b r ps xs ys ms ns h g = chooses_one b r [] ps xs ys ms ns (All-nil (IsInput b)) h g

pub marks_stay : MarksStay
marks_stay b r ps cases marks h =
    let inputs = chooses_inputs b r [] ps cases marks (All-nil (IsInput b)) h in
    record {
      many = chooses_many b r [] ps cases marks h;
      each = chooses_marks b r [] ps cases marks h;
      zero = λ i p m at mark_at.
          zero_mark b r p cases m inputs (chooses_marks b r [] ps cases marks h i p m at mark_at);
      inputs = inputs;
    }
