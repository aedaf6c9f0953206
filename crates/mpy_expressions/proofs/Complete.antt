-- What is spelled at the front is read, at least so far, and exactly so far where nothing behind it goes on with it.
use Rattle.std.proofs.Common.{◌≡◌, ℕ, ◌≤◌, Bool, true, false, List, [], ◌∷◌, ◌++◌, length, Option, Some, None, refl, ap, sym, ◌∙◌, subst, append_assoc, append-nil, arith}
use Rattle.mpy_tree.specs.declared.operators.ArithOp.{ArithOp}
use Rattle.mpy_tree.specs.declared.operators.ArithOp.TheVariants.{Add, Sub, Mul, Floor, Rem, Power}
use Rattle.mpy_tree.specs.declared.operators.CmpOp.{CmpOp}
use Rattle.mpy_tree.specs.declared.operators.CmpOp.TheVariants.{Eq, Ne, Lt, Le, Gt, Ge, Member, NotMember}
use Rattle.mpy_tree.specs.declared.levels.Level.{Level}
use Rattle.mpy_tree.specs.declared.levels.Level.TheVariants as level
use Rattle.mpy_expressions.specs.Forms.{Forms}
use Rattle.mpy_expressions.specs.declared.joints.Joint.TheVariants as joint
use Rattle.mpy_expressions.specs.declared.words.Word.{Word}
use Rattle.mpy_expressions.specs.declared.words.Word.TheVariants as word
use Rattle.mpy_expressions.specs.declared.terminals.Terminal.{Terminal}
use Rattle.mpy_expressions.specs.declared.terminals.Terminal.TheVariants as terminal
use Rattle.mpy_expressions.specs.declared.terms.Bracket.{Bracket}
use Rattle.mpy_expressions.specs.declared.terms.Bracket.TheVariants as bracket
use Rattle.mpy_tree.specs.Levels.{above, operator_level, left_level, right_level}
use Rattle.mpy_expressions.specs.Joints.{IsChain, arith_word}
use Rattle.mpy_expressions.specs.Grammar.{set as set_of, Spells, SpellsEnd, SpellsAll, conditional, disjunction, conjunction, negation, compared, arithmetic, operated, likened, minus, index, slice, number, quoted, truth, name, call, hole, items, parenthesized, higher, missing, given, none, one, more, comparison, truth_word}
use Rattle.mpy_tree.specs.Options.{◌>>=◌}
use Rattle.mpy_expressions.specs.Reading.{behind_not, behind_minus, behind_closing_bracket, behind_colon, comparator_at, joint_before, joined, conditional_tail, with_conditional_tail, joint_tail, with_joints, comparison_tail, with_comparison, power_tail, with_power, Suffix, by_index, by_ends, suffixed, second_end, last_end, behind_index, in_brackets, with_suffixes, closed, some_elements, elements, name_or_call, prefixed, reading}
use Rattle.mpy_expressions.proofs.Shorter.{with_conditional_tail_short, with_joints_short, with_comparison_short, with_power_short, with_suffixes_short, name_or_call_short}
use Rattle.mpy_expressions.proofs.Readings.{reading_short, reading_step, joint_turn, suffix_turn, last_element, next_element}
use Rattle.mpy_expressions.proofs.Sound.{closing, IsSome_terms}
use Rattle.mpy_expressions.proofs.Stopping.{Stops, Stops-above, Stops-unary, no_if, no_more_joints, no_comparator, no_power, no_more_suffixes, no_arguments, not_first, never_not, never_minus, never_colon, never_closing_bracket, never_closed}

-- what is read at the front: at least what is spelled there, and exactly that where it stops
abbrev pub Found : {X T : Type 0} (forms : Forms X T) → Level → List (Terminal X) → T → List (Terminal X) → Type 0
Found {X} {T} forms k front e rest = (x : T × List (Terminal X)) × (reading forms k (front ++ rest) ≡ Some x) × (length x.1 ≤ length rest) × (Stops k rest → x ≡ (e, rest))

abbrev pub AllFound : {X T : Type 0} (forms : Forms X T) → Level → List (Terminal X) → T → Type 0
AllFound {X} {T} forms k front e = (rest : List (Terminal X)) → Found forms k front e rest

-- at a level of joints what is spelled is read, and then joined further
abbrev pub Goes : {X T : Type 0} (forms : Forms X T) → Level → List (Terminal X) → T → Type 0
Goes {X} {T} forms k front e = (rest : List (Terminal X)) → Stops (above k) rest → reading forms k (front ++ rest) ≡ Some (with_joints forms (reading forms) k (length rest) (e, rest))

abbrev pub GoesOn : {X T : Type 0} (forms : Forms X T) → Level → List (Terminal X) → T → Type 0
GoesOn {X} {T} forms level.Disjunction front e = Goes forms level.Disjunction front e
GoesOn {X} {T} forms level.Conjunction front e = Goes forms level.Conjunction front e
GoesOn {X} {T} forms level.Sum front e = Goes forms level.Sum front e
GoesOn {X} {T} forms level.Product front e = Goes forms level.Product front e
GoesOn {X} {T} forms level.Postfix front e = (rest : List (Terminal X)) → Stops level.Atom rest → reading forms level.Postfix (front ++ rest) ≡ Some (with_suffixes forms (reading forms) (length rest) (e, rest))
GoesOn {X} {T} forms _ front e = Unit {0}

exact : {X T : Type 0} (forms : Forms X T) → (k : Level) (front : List (Terminal X)) (e : T) (rest : List (Terminal X)) → Found forms k front e rest → Stops k rest → reading forms k (front ++ rest) ≡ Some (e, rest)
exact forms k front e rest f h = f.1 ∙ ap Some (f.3 h)

conditional_tail_reads : {X T : Type 0} (forms : Forms X T) → (ts us : List (Terminal X)) (t : T) (x : T × List (Terminal X)) → reading forms level.Disjunction (ts ++ (terminal.Word word.Else ∷ us)) ≡ Some (t, terminal.Word word.Else ∷ us) → reading forms level.Conditional us ≡ Some x → conditional_tail (reading forms) (terminal.Word word.If ∷ (ts ++ (terminal.Word word.Else ∷ us))) ≡ Some (t, x.0, x.1)
conditional_tail_reads forms ts us t x p q = rw (p, q)

found_conditional : {X T : Type 0} (forms : Forms X T) → (xs ts ys : List (Terminal X)) (a t b : T) → AllFound forms level.Disjunction xs a → AllFound forms level.Disjunction ts t → AllFound forms level.Conditional ys b → AllFound forms level.Conditional ((xs ++ (terminal.Word word.If ∷ ts)) ++ (terminal.Word word.Else ∷ ys)) (forms.Cond t a b)
found_conditional forms xs ts ys a t b f g h rest =
    let after_test = terminal.Word word.Else ∷ (ys ++ rest) in
    let after_yes = terminal.Word word.If ∷ (ts ++ after_test) in
    let last = h rest in
    let p = exact forms level.Disjunction xs a after_yes (f after_yes) (omega arith) in
    let q = exact forms level.Disjunction ts t after_test (g after_test) tt in
    let regroup : ((xs ++ (terminal.Word word.If ∷ ts)) ++ (terminal.Word word.Else ∷ ys)) ++ rest ≡ xs ++ after_yes = simp append_assoc in
    let tail = conditional_tail_reads forms ts (ys ++ rest) t last.0 q last.1 in (
      (forms.Cond t a last.0.0, last.0.1),
      ap (reading forms level.Conditional) regroup ∙ reading_step forms level.Conditional (xs ++ after_yes) ∙ rw (p, tail),
      last.2,
      λ stops. ap (λ x. (forms.Cond t a x.0, x.1)) (last.3 stops),
    )

-- what is read at the level above, and the tail that there is not
no_conditional_tail : {X T : Type 0} (forms : Forms X T) → (e : T) (ts : List (Terminal X)) → Stops level.Conditional ts → with_conditional_tail forms (reading forms) (e, ts) ≡ (e, ts)
no_conditional_tail forms e ts h = let p = no_if ts h in rw p

found_higher_conditional : {X T : Type 0} (forms : Forms X T) → (xs : List (Terminal X)) (e : T) → AllFound forms level.Disjunction xs e → AllFound forms level.Conditional xs e
found_higher_conditional forms xs e h rest =
    let f = h rest in
    let short = with_conditional_tail_short forms (reading forms) (reading_short forms) f.0 in (
      (with_conditional_tail forms) (reading forms) f.0,
      (reading_step forms) level.Conditional (xs ++ rest) ∙ rw f.1,
      omega arith,
      λ stops. ap (with_conditional_tail forms (reading forms)) (f.3 (Stops-above level.Conditional rest stops)) ∙ no_conditional_tail forms e rest stops,
    )

-- levels of joints
chain_step : {X T : Type 0} (forms : Forms X T) → (k : Level) → IsChain k → (ts : List (Terminal X)) → reading forms k ts ≡ (reading forms (above k) ts >>= λ a. Some (with_joints forms (reading forms) k (length a.1) a))
chain_step forms level.Disjunction c ts = reading_step forms level.Disjunction ts
chain_step forms level.Conjunction c ts = reading_step forms level.Conjunction ts
chain_step forms level.Sum c ts = reading_step forms level.Sum ts
chain_step forms level.Product c ts = reading_step forms level.Product ts
chain_step forms level.Conditional c ts = absurd c
chain_step forms level.Negation c ts = absurd c
chain_step forms level.Comparison c ts = absurd c
chain_step forms level.Unary c ts = absurd c
chain_step forms level.Power c ts = absurd c
chain_step forms level.Postfix c ts = absurd c
chain_step forms level.Atom c ts = absurd c

found_higher_chain : {X T : Type 0} (forms : Forms X T) → (k : Level) → IsChain k → (xs : List (Terminal X)) (e : T) → AllFound forms (above k) xs e → AllFound forms k xs e
found_higher_chain forms k c xs e h rest =
    let f = h rest in
    let short = with_joints_short forms (reading forms) (reading_short forms) k (length f.0.1) f.0 in (
      (with_joints forms) (reading forms) k (length f.0.1) f.0,
      (chain_step forms) k c (xs ++ rest) ∙ rw f.1,
      omega arith,
      λ stops. ap (λ x. with_joints forms (reading forms) k (length x.1) x) (f.3 (Stops-above k rest stops)) ∙ no_more_joints forms k (length rest) e rest stops,
    )

goes_higher : {X T : Type 0} (forms : Forms X T) → (k : Level) → IsChain k → (xs : List (Terminal X)) (e : T) → AllFound forms (above k) xs e → Goes forms k xs e
goes_higher forms k c xs e h rest stops = let p = exact forms (above k) xs e rest (h rest) stops in chain_step forms k c (xs ++ rest) ∙ rw p

-- a terminal that joins at the level, whatever follows, and with which nothing of the level above goes on
abbrev IsRead : {X T : Type 0} (forms : Forms X T) → Level → Terminal X → (T → T → T) → Type 0
IsRead {X} {T} forms k t f = (us : List (Terminal X)) → joint_before forms k (t ∷ us) ≡ Some (f, us)

abbrev StopsAt : {X : Type 0} → Level → Terminal X → Type 0
StopsAt {X} k t = (us : List (Terminal X)) → Stops k (t ∷ us)

joint_tail_reads : {X T : Type 0} (forms : Forms X T) → (k : Level) (t : Terminal X) (f : T → T → T) (us : List (Terminal X)) (x : T × List (Terminal X)) → joint_before forms k (t ∷ us) ≡ Some (f, us) → reading forms (above k) us ≡ Some x → joint_tail forms (reading forms) k (t ∷ us) ≡ Some (f, x.0, x.1)
joint_tail_reads forms k t f us x p q = ap (λ o. o >>= λ j. reading forms (above k) j.1 >>= λ b. Some (j.0, b.0, b.1)) p ∙ ap (λ o. o >>= λ b. Some (f, b.0, b.1)) q

regroup_at : {X : Type 0} → (xs ys rest : List (Terminal X)) (t : Terminal X) → (xs ++ (t ∷ ys)) ++ rest ≡ xs ++ (t ∷ (ys ++ rest))
regroup_at xs ys rest t = append_assoc xs (t ∷ ys) rest

regroup_two : {X : Type 0} → (xs ys rest : List (Terminal X)) (w : Word) → (xs ++ (terminal.Word w ∷ ys)) ++ rest ≡ xs ++ (terminal.Word w ∷ (ys ++ rest))
regroup_two xs ys rest w = regroup_at xs ys rest (terminal.Word w)

found_joint : {X T : Type 0} (forms : Forms X T) → (k : Level) (t : Terminal X) (j : T → T → T) → IsRead forms k t j → StopsAt (above k) t → (xs ys : List (Terminal X)) (a b : T) → Goes forms k xs a → AllFound forms (above k) ys b → AllFound forms k (xs ++ (t ∷ ys)) (j a b)
found_joint forms k t j is stop xs ys a b g h rest =
    let f = h rest in
    let turn = joint_turn forms k a (t ∷ (ys ++ rest)) j f.0.0 f.0.1 (joint_tail_reads forms k t j (ys ++ rest) f.0 (is (ys ++ rest)) f.1) in
    let short = with_joints_short forms (reading forms) (reading_short forms) k (length f.0.1) (j a f.0.0, f.0.1) in (
      (with_joints forms) (reading forms) k (length f.0.1) (j a f.0.0, f.0.1),
      ap (reading forms k) (regroup_at xs ys rest t) ∙ g (t ∷ (ys ++ rest)) (stop (ys ++ rest)) ∙ ap Some turn,
      omega arith,
      λ stops. ap (λ x. with_joints forms (reading forms) k (length x.1) (j a x.0, x.1)) (f.3 (Stops-above k rest stops)) ∙ no_more_joints forms k (length rest) (j a b) rest stops,
    )

goes_joint : {X T : Type 0} (forms : Forms X T) → (k : Level) (t : Terminal X) (j : T → T → T) → IsRead forms k t j → StopsAt (above k) t → (xs ys : List (Terminal X)) (a b : T) → Goes forms k xs a → AllFound forms (above k) ys b → Goes forms k (xs ++ (t ∷ ys)) (j a b)
goes_joint forms k t j is stop xs ys a b g h rest stops =
    let f = h rest in
    let turn = joint_turn forms k a (t ∷ (ys ++ rest)) j f.0.0 f.0.1 (joint_tail_reads forms k t j (ys ++ rest) f.0 (is (ys ++ rest)) f.1) in
    ap (reading forms k) (regroup_at xs ys rest t) ∙ g (t ∷ (ys ++ rest)) (stop (ys ++ rest))
    ∙ ap Some (turn ∙ ap (λ x. with_joints forms (reading forms) k (length x.1) (j a x.0, x.1)) (f.3 stops))

-- operators before their parts
found_negation : {X T : Type 0} (forms : Forms X T) → (xs : List (Terminal X)) (a : T) → AllFound forms level.Negation xs a → AllFound forms level.Negation (terminal.Word word.Not ∷ xs) (forms.Not a)
found_negation forms xs a h rest =
    let f = h rest in
    ((forms.Not f.0.0, f.0.1), (reading_step forms) level.Negation (terminal.Word word.Not ∷ (xs ++ rest)) ∙ rw f.1, f.2, λ stops. ap (λ x. (forms.Not x.0, x.1)) (f.3 stops))

found_minus : {X T : Type 0} (forms : Forms X T) → (xs : List (Terminal X)) (a : T) → AllFound forms level.Unary xs a → AllFound forms level.Unary (terminal.Word word.Minus ∷ xs) (forms.Neg a)
found_minus forms xs a h rest =
    let f = h rest in
    ((forms.Neg f.0.0, f.0.1), (reading_step forms) level.Unary (terminal.Word word.Minus ∷ (xs ++ rest)) ∙ rw f.1, f.2, λ stops. ap (λ x. (forms.Neg x.0, x.1)) (f.3 stops))

without_operator : {X T : Type 0} (forms : Forms X T) → (k : Level) (b : List (Terminal X) → Option (List (Terminal X))) (f : T → T) (ts : List (Terminal X)) → b ts ≡ None → prefixed (reading forms) k b f ts ≡ reading forms (above k) ts
without_operator {X} {T} forms k b f ts h = ap (λ o. elim o as (λ _. Option (T × List (Terminal X))) [ Some rest ↦ (reading forms k rest >>= λ e. Some (f e.0, e.1)) | None ↦ reading forms (above k) ts ]) h

found_higher_negation : {X T : Type 0} (forms : Forms X T) → (xs : List (Terminal X)) (e : T) → AllFound forms level.Comparison xs e → AllFound forms level.Negation xs e
found_higher_negation forms xs e h rest =
    let f = h rest in
    let no = not_first forms behind_not level.Comparison (xs ++ rest) f.0 (never_not forms (xs ++ rest)) f.1 in
    (f.0, (reading_step forms) level.Negation (xs ++ rest) ∙ without_operator forms level.Negation behind_not forms.Not (xs ++ rest) no ∙ f.1, f.2, λ stops. f.3 (Stops-above level.Negation rest stops))

found_higher_unary : {X T : Type 0} (forms : Forms X T) → (xs : List (Terminal X)) (e : T) → AllFound forms level.Power xs e → AllFound forms level.Unary xs e
found_higher_unary forms xs e h rest =
    let f = h rest in
    let no = not_first forms behind_minus level.Power (xs ++ rest) f.0 (never_minus forms (xs ++ rest)) f.1 in
    (f.0, (reading_step forms) level.Unary (xs ++ rest) ∙ without_operator forms level.Unary behind_minus forms.Neg (xs ++ rest) no ∙ f.1, f.2, λ stops. f.3 (Stops-above level.Unary rest stops))

-- comparisons
comparison_is : {X T : Type 0} (forms : Forms X T) → (op : CmpOp) (us : List (Terminal X)) → comparator_at forms (comparison op ++ us) ≡ Some (forms.Cmp op, us)
comparison_is forms Eq us = refl
comparison_is forms Ne us = refl
comparison_is forms Lt us = refl
comparison_is forms Le us = refl
comparison_is forms Gt us = refl
comparison_is forms Ge us = refl
comparison_is forms Member us = refl
comparison_is forms NotMember us = refl

comparison_stops : {X : Type 0} → (op : CmpOp) (us : List (Terminal X)) → Stops level.Sum (comparison op ++ us)
comparison_stops Eq us = omega arith
comparison_stops Ne us = omega arith
comparison_stops Lt us = omega arith
comparison_stops Le us = omega arith
comparison_stops Gt us = omega arith
comparison_stops Ge us = omega arith
comparison_stops Member us = omega arith
comparison_stops NotMember us = omega arith

comparison_tail_reads : {X T : Type 0} (forms : Forms X T) → (ts us : List (Terminal X)) (f : T → T → T) (x : T × List (Terminal X)) → comparator_at forms ts ≡ Some (f, us) → reading forms level.Sum us ≡ Some x → comparison_tail forms (reading forms) ts ≡ Some (f, x.0, x.1)
comparison_tail_reads forms ts us f x p q = ap (λ o. o >>= λ c. reading forms level.Sum c.1 >>= λ b. Some (c.0, b.0, b.1)) p ∙ ap (λ o. o >>= λ b. Some (f, b.0, b.1)) q

-- what is compared by these terminals, whatever follows
found_likened : {X T : Type 0} (forms : Forms X T) → (os : List (Terminal X)) (j : T → T → T) → ((us : List (Terminal X)) → comparator_at forms (os ++ us) ≡ Some (j, us)) → ((us : List (Terminal X)) → Stops level.Sum (os ++ us)) → (xs ys : List (Terminal X)) (a b : T) → AllFound forms level.Sum xs a → AllFound forms level.Sum ys b → AllFound forms level.Comparison ((xs ++ os) ++ ys) (j a b)
found_likened forms os j is stop xs ys a b f g rest =
    let after = os ++ (ys ++ rest) in
    let last = g rest in
    let p = exact forms level.Sum xs a after (f after) (stop (ys ++ rest)) in
    let regroup : ((xs ++ os) ++ ys) ++ rest ≡ xs ++ after = simp append_assoc in
    let tail = comparison_tail_reads forms after (ys ++ rest) j last.0 (is (ys ++ rest)) last.1 in (
      (j a last.0.0, last.0.1),
      ap (reading forms level.Comparison) regroup ∙ reading_step forms level.Comparison (xs ++ after) ∙ rw (p, tail),
      last.2,
      λ stops. ap (λ x. (j a x.0, x.1)) (last.3 (Stops-above level.Comparison rest stops)),
    )

found_compared : {X T : Type 0} (forms : Forms X T) → (op : CmpOp) (xs ys : List (Terminal X)) (a b : T) → AllFound forms level.Sum xs a → AllFound forms level.Sum ys b → AllFound forms level.Comparison ((xs ++ comparison op) ++ ys) (forms.Cmp op a b)
found_compared forms op = found_likened forms (comparison op) (forms.Cmp op) (comparison_is forms op) (comparison_stops op)

found_by_comparator : {X T : Type 0} (forms : Forms X T) → (x : X) (j : T → T → T) → forms.Comparator x ≡ Some j → (xs ys : List (Terminal X)) (a b : T) → AllFound forms level.Sum xs a → AllFound forms level.Sum ys b → AllFound forms level.Comparison (xs ++ (terminal.Comparator x ∷ ys)) (j a b)
found_by_comparator forms x j h xs ys a b f g =
    subst (λ l. AllFound forms level.Comparison l (j a b)) (append_assoc xs (terminal.Comparator x ∷ []) ys)
    (found_likened forms (terminal.Comparator x ∷ []) j (λ us. ap (λ o. o >>= λ k. Some (k, us)) h) (λ us. omega arith) xs ys a b f g)

no_comparison_tail : {X T : Type 0} (forms : Forms X T) → (e : T) (ts : List (Terminal X)) → Stops level.Comparison ts → with_comparison forms (reading forms) (e, ts) ≡ (e, ts)
no_comparison_tail forms e ts h = let p = no_comparator forms ts h in rw p

found_higher_comparison : {X T : Type 0} (forms : Forms X T) → (xs : List (Terminal X)) (e : T) → AllFound forms level.Sum xs e → AllFound forms level.Comparison xs e
found_higher_comparison forms xs e h rest =
    let f = h rest in
    let short = with_comparison_short forms (reading forms) (reading_short forms) f.0 in (
      (with_comparison forms) (reading forms) f.0,
      (reading_step forms) level.Comparison (xs ++ rest) ∙ rw f.1,
      omega arith,
      λ stops. ap (with_comparison forms (reading forms)) (f.3 (Stops-above level.Comparison rest stops)) ∙ no_comparison_tail forms e rest stops,
    )

-- powers
power_tail_reads : {X T : Type 0} (forms : Forms X T) → (us : List (Terminal X)) (x : T × List (Terminal X)) → reading forms level.Unary us ≡ Some x → power_tail (reading forms) (terminal.Word word.DoubleStar ∷ us) ≡ Some x
power_tail_reads forms us x q = q

found_power : {X T : Type 0} (forms : Forms X T) → (xs ys : List (Terminal X)) (a b : T) → AllFound forms level.Postfix xs a → AllFound forms level.Unary ys b → AllFound forms level.Power (xs ++ (terminal.Word word.DoubleStar ∷ ys)) (forms.Arith Power a b)
found_power forms xs ys a b f g rest =
    let after = terminal.Word word.DoubleStar ∷ (ys ++ rest) in
    let last = g rest in
    let p = exact forms level.Postfix xs a after (f after) (omega arith) in
    let tail = power_tail_reads forms (ys ++ rest) last.0 last.1 in (
      (forms.Arith Power a last.0.0, last.0.1),
      ap (reading forms level.Power) (regroup_two xs ys rest word.DoubleStar) ∙ reading_step forms level.Power (xs ++ after) ∙ rw (p, tail),
      last.2,
      λ stops. ap (λ x. (forms.Arith Power a x.0, x.1)) (last.3 (Stops-unary rest stops)),
    )

no_power_tail : {X T : Type 0} (forms : Forms X T) → (e : T) (ts : List (Terminal X)) → Stops level.Power ts → with_power forms (reading forms) (e, ts) ≡ (e, ts)
no_power_tail forms e ts h = let p = no_power ts h in rw p

found_higher_power : {X T : Type 0} (forms : Forms X T) → (xs : List (Terminal X)) (e : T) → AllFound forms level.Postfix xs e → AllFound forms level.Power xs e
found_higher_power forms xs e h rest =
    let f = h rest in
    let short = with_power_short forms (reading forms) (reading_short forms) f.0 in (
      (with_power forms) (reading forms) f.0,
      (reading_step forms) level.Power (xs ++ rest) ∙ rw f.1,
      omega arith,
      λ stops. ap (with_power forms (reading forms)) (f.3 (Stops-above level.Power rest stops)) ∙ no_power_tail forms e rest stops,
    )

-- suffixes
in_brackets_without : {X T : Type 0} (forms : Forms X T) → (ts : List (Terminal X)) → behind_colon ts ≡ None → in_brackets (reading forms) ts ≡ (reading forms level.Conditional ts >>= λ i. behind_index (reading forms) i.0 i.1)
in_brackets_without {X} {T} forms ts h = ap (λ o. elim o as (λ _. Option ((Suffix T) × List (Terminal X))) [ Some at_end ↦ last_end (reading forms) None at_end | None ↦ (reading forms level.Conditional ts >>= λ i. behind_index (reading forms) i.0 i.1) ]) h

second_end_without : {X T : Type 0} (forms : Forms X T) → (ts : List (Terminal X)) → behind_closing_bracket ts ≡ None → second_end (reading forms) ts ≡ (reading forms level.Conditional ts >>= λ e. behind_closing_bracket e.1 >>= λ rest. Some ((Some e.0), rest))
second_end_without {X} {T} forms ts h = ap (λ o. elim o as (λ _. Option (Option T × List (Terminal X))) [ Some rest ↦ Some (None, rest) | None ↦ (reading forms level.Conditional ts >>= λ e. behind_closing_bracket e.1 >>= λ rest. Some ((Some e.0), rest)) ]) h

-- an end of a slice is read, as the first of its brackets and as the last
abbrev pub IsFirstEnd : {X T : Type 0} (forms : Forms X T) → List (Terminal X) → Option T → Type 0
IsFirstEnd {X} {T} forms ys from = (us : List (Terminal X)) → in_brackets (reading forms) (ys ++ (terminal.Word word.Colon ∷ us)) ≡ last_end (reading forms) from us

abbrev pub IsLastRead : {X T : Type 0} (forms : Forms X T) → List (Terminal X) → Option T → Type 0
IsLastRead {X} {T} forms zs to = (from : Option T) (rest : List (Terminal X)) → last_end (reading forms) from (zs ++ (terminal.Word word.RightBracket ∷ rest)) ≡ Some (by_ends from to, rest)

first_end : {X T : Type 0} (forms : Forms X T) → (ys : List (Terminal X)) (e : T) → AllFound forms level.Conditional ys e → IsFirstEnd forms ys ((Some e))
first_end forms ys e h us =
    let ts = ys ++ (terminal.Word word.Colon ∷ us) in
    let f = h (terminal.Word word.Colon ∷ us) in
    let no = not_first forms behind_colon level.Conditional ts f.0 (never_colon forms ts) f.1 in
    let p = exact forms level.Conditional ys e (terminal.Word word.Colon ∷ us) f tt in
    (in_brackets_without forms) ts no ∙ rw p

last_read : {X T : Type 0} (forms : Forms X T) → (zs : List (Terminal X)) (e : T) → AllFound forms level.Conditional zs e → IsLastRead forms zs ((Some e))
last_read forms zs e h from rest =
    let ts = zs ++ (terminal.Word word.RightBracket ∷ rest) in
    let f = h (terminal.Word word.RightBracket ∷ rest) in
    let no = not_first forms behind_closing_bracket level.Conditional ts f.0 (never_closing_bracket forms ts) f.1 in
    let p = exact forms level.Conditional zs e (terminal.Word word.RightBracket ∷ rest) f tt in
    let q : second_end (reading forms) ts ≡ Some ((Some e), rest) = second_end_without forms ts no ∙ rw p in
    ap (λ o. o >>= λ to. Some (by_ends from to.0, to.1)) q

-- what stands in brackets is read, whatever follows
abbrev pub IsSuffixRead : {X T : Type 0} (forms : Forms X T) → List (Terminal X) → (Suffix T) → Type 0
IsSuffixRead {X} {T} forms us s = (rest : List (Terminal X)) → in_brackets (reading forms) (us ++ rest) ≡ Some (s, rest)

index_read : {X T : Type 0} (forms : Forms X T) → (ys : List (Terminal X)) (i : T) → AllFound forms level.Conditional ys i → IsSuffixRead forms (ys ++ (terminal.Word word.RightBracket ∷ [])) (by_index i)
index_read forms ys i h rest =
    let ts = ys ++ (terminal.Word word.RightBracket ∷ rest) in
    let f = h (terminal.Word word.RightBracket ∷ rest) in
    let no = not_first forms behind_colon level.Conditional ts f.0 (never_colon forms ts) f.1 in
    let p = exact forms level.Conditional ys i (terminal.Word word.RightBracket ∷ rest) f tt in
    ap (in_brackets (reading forms)) (append_assoc ys (terminal.Word word.RightBracket ∷ []) rest) ∙ in_brackets_without forms ts no ∙ rw p

slice_read : {X T : Type 0} (forms : Forms X T) → (ys zs : List (Terminal X)) (from to : Option T) → IsFirstEnd forms ys from → IsLastRead forms zs to → IsSuffixRead forms ((ys ++ (terminal.Word word.Colon ∷ zs)) ++ (terminal.Word word.RightBracket ∷ [])) (by_ends from to)
slice_read forms ys zs from to f g rest =
    let regroup : ((ys ++ (terminal.Word word.Colon ∷ zs)) ++ (terminal.Word word.RightBracket ∷ [])) ++ rest ≡ ys ++ (terminal.Word word.Colon ∷ (zs ++ (terminal.Word word.RightBracket ∷ rest))) = simp append_assoc in
    ap (in_brackets (reading forms)) regroup ∙ f (zs ++ (terminal.Word word.RightBracket ∷ rest)) ∙ g from rest

abbrev pub GoesPostfix : {X T : Type 0} (forms : Forms X T) → List (Terminal X) → T → Type 0
GoesPostfix {X} {T} forms xs v = (rest : List (Terminal X)) → Stops level.Atom rest → reading forms level.Postfix (xs ++ rest) ≡ Some (with_suffixes forms (reading forms) (length rest) (v, rest))

goes_suffix : {X T : Type 0} (forms : Forms X T) → (xs us : List (Terminal X)) (v : T) (s : (Suffix T)) → GoesPostfix forms xs v → IsSuffixRead forms us s → (rest : List (Terminal X)) → reading forms level.Postfix ((xs ++ (terminal.Word word.LeftBracket ∷ us)) ++ rest) ≡ Some (with_suffixes forms (reading forms) (length rest) (suffixed forms v s, rest))
goes_suffix forms xs us v s g h rest = ap (reading forms level.Postfix) (regroup_two xs us rest word.LeftBracket) ∙ g (terminal.Word word.LeftBracket ∷ (us ++ rest)) (omega arith) ∙ ap Some (suffix_turn forms v (terminal.Word word.LeftBracket ∷ (us ++ rest)) s rest (h rest))

found_suffix : {X T : Type 0} (forms : Forms X T) → (xs us : List (Terminal X)) (v : T) (s : (Suffix T)) → GoesPostfix forms xs v → IsSuffixRead forms us s → AllFound forms level.Postfix (xs ++ (terminal.Word word.LeftBracket ∷ us)) (suffixed forms v s)
found_suffix forms xs us v s g h rest =
    let short = with_suffixes_short forms (reading forms) (reading_short forms) (length rest) (suffixed forms v s, rest) in
    (with_suffixes forms (reading forms) (length rest) (suffixed forms v s, rest), (goes_suffix forms) xs us v s g h rest, short, λ stops. no_more_suffixes forms (length rest) (suffixed forms v s) rest stops)

found_higher_postfix : {X T : Type 0} (forms : Forms X T) → (xs : List (Terminal X)) (e : T) → AllFound forms level.Atom xs e → AllFound forms level.Postfix xs e
found_higher_postfix forms xs e h rest =
    let f = h rest in
    let short = with_suffixes_short forms (reading forms) (reading_short forms) (length f.0.1) f.0 in (
      (with_suffixes forms) (reading forms) (length f.0.1) f.0,
      (reading_step forms) level.Postfix (xs ++ rest) ∙ rw f.1,
      omega arith,
      λ stops. ap (λ x. with_suffixes forms (reading forms) (length x.1) x) (f.3 (Stops-above level.Postfix rest stops)) ∙ no_more_suffixes forms (length rest) e rest stops,
    )

goes_higher_postfix : {X T : Type 0} (forms : Forms X T) → (xs : List (Terminal X)) (e : T) → AllFound forms level.Atom xs e → GoesPostfix forms xs e
goes_higher_postfix forms xs e h rest stops = let p = exact forms level.Atom xs e rest (h rest) stops in reading_step forms level.Postfix (xs ++ rest) ∙ rw p

-- elements
stops_closing : {X : Type 0} → (b : Bracket) (rest : List (Terminal X)) → Stops level.Conditional (terminal.Word (closing b) ∷ rest)
stops_closing bracket.Round rest = tt
stops_closing bracket.Square rest = tt
stops_closing bracket.Curly rest = tt

closed_closing : {X : Type 0} → (b : Bracket) (rest : List (Terminal X)) → closed b (terminal.Word (closing b) ∷ rest) ≡ Some rest
closed_closing bracket.Round rest = refl
closed_closing bracket.Square rest = refl
closed_closing bracket.Curly rest = refl

closed_comma : {X : Type 0} → (b : Bracket) (rest : List (Terminal X)) → closed b (terminal.Word word.Comma ∷ rest) ≡ None
closed_comma bracket.Round rest = refl
closed_comma bracket.Square rest = refl
closed_comma bracket.Curly rest = refl

-- elements, and what closes them, are read
abbrev pub AreSomeRead : {X T : Type 0} (forms : Forms X T) → Bracket → List (Terminal X) → List T → Type 0
AreSomeRead {X} {T} forms b xs es = (rest : List (Terminal X)) → some_elements (reading forms) b (length (xs ++ (terminal.Word (closing b) ∷ rest))) (xs ++ (terminal.Word (closing b) ∷ rest)) ≡ Some (es, rest)

abbrev pub AreRead : {X T : Type 0} (forms : Forms X T) → Bracket → List (Terminal X) → List T → Type 0
AreRead {X} {T} forms b xs es = (rest : List (Terminal X)) → elements (reading forms) b (xs ++ (terminal.Word (closing b) ∷ rest)) ≡ Some (es, rest)

none_read : {X T : Type 0} (forms : Forms X T) → (b : Bracket) → AreRead forms b [] []
none_read forms bracket.Round rest = refl
none_read forms bracket.Square rest = refl
none_read forms bracket.Curly rest = refl

one_read : {X T : Type 0} (forms : Forms X T) → (b : Bracket) (xs : List (Terminal X)) (e : T) → AllFound forms level.Conditional xs e → AreSomeRead forms b xs ((e ∷ []))
one_read forms b xs e h rest = last_element forms b (xs ++ (terminal.Word (closing b) ∷ rest)) e (terminal.Word (closing b) ∷ rest) rest (exact forms level.Conditional xs e (terminal.Word (closing b) ∷ rest) (h (terminal.Word (closing b) ∷ rest)) (stops_closing b rest)) (closed_closing b rest)

more_read : {X T : Type 0} (forms : Forms X T) → (b : Bracket) (xs ys : List (Terminal X)) (e : T) (es : List T) → AllFound forms level.Conditional xs e → AreSomeRead forms b ys es → AreSomeRead forms b (xs ++ (terminal.Word word.Comma ∷ ys)) ((e ∷ es))
more_read forms b xs ys e es h g rest =
    let us = ys ++ (terminal.Word (closing b) ∷ rest) in
    let p = exact forms level.Conditional xs e (terminal.Word word.Comma ∷ us) (h (terminal.Word word.Comma ∷ us)) tt in
    let q = g rest in
    ap (λ ts. some_elements (reading forms) b (length ts) ts) (regroup_two xs ys (terminal.Word (closing b) ∷ rest) word.Comma)
    ∙ next_element forms b (xs ++ (terminal.Word word.Comma ∷ us)) e (terminal.Word word.Comma ∷ us) p (closed_comma b us)
    ∙ rw q

elements_without : {X T : Type 0} (forms : Forms X T) → (b : Bracket) (ts : List (Terminal X)) → closed b ts ≡ None → elements (reading forms) b ts ≡ some_elements (reading forms) b (length ts) ts
elements_without {X} {T} forms b ts h = ap (λ o. elim o as (λ _. Option (List T × List (Terminal X))) [ Some rest ↦ Some ([], rest) | None ↦ some_elements (reading forms) b (length ts) ts ]) h

-- elements that begin with an expression
some_read : {X T : Type 0} (forms : Forms X T) → (b : Bracket) (xs ys : List (Terminal X)) (e : T) (es : List T) → AllFound forms level.Conditional xs e → AreSomeRead forms b (xs ++ ys) es → AreRead forms b (xs ++ ys) es
some_read forms b xs ys e es h g rest =
    let ts = (xs ++ ys) ++ (terminal.Word (closing b) ∷ rest) in
    let f = h (ys ++ (terminal.Word (closing b) ∷ rest)) in
    let p : (reading forms) level.Conditional ts ≡ Some f.0 = ap (reading forms level.Conditional) (append_assoc xs ys (terminal.Word (closing b) ∷ rest)) ∙ f.1 in
    (elements_without forms) b ts (not_first forms (closed b) level.Conditional ts f.0 (never_closed forms b ts) p) ∙ g rest

-- atoms
found_number : {X T : Type 0} (forms : Forms X T) → (n : ℕ) → AllFound forms level.Atom (terminal.Number n ∷ []) (forms.Int n)
found_number forms n rest = ((forms.Int n, rest), (reading_step forms) level.Atom (terminal.Number n ∷ rest), omega arith, λ stops. refl)

found_quoted : {X T : Type 0} (forms : Forms X T) → (cs : List ℕ) → AllFound forms level.Atom (terminal.Text cs ∷ []) (forms.Text cs)
found_quoted forms cs rest = ((forms.Text cs, rest), (reading_step forms) level.Atom (terminal.Text cs ∷ rest), omega arith, λ stops. refl)

found_truth : {X T : Type 0} (forms : Forms X T) → (b : Bool) → AllFound forms level.Atom (terminal.Word (truth_word b) ∷ []) (forms.Bool b)
found_truth forms true rest = ((forms.Bool true, rest), (reading_step forms) level.Atom (terminal.Word word.True ∷ rest), omega arith, λ stops. refl)
found_truth forms false rest = ((forms.Bool false, rest), (reading_step forms) level.Atom (terminal.Word word.False ∷ rest), omega arith, λ stops. refl)

no_call : {X T : Type 0} (forms : Forms X T) → (x : List ℕ) (ts : List (Terminal X)) → Stops level.Atom ts → name_or_call forms (reading forms) x ts ≡ (forms.Name x, ts)
no_call forms x ts h = let p = no_arguments forms ts h in rw p

found_name : {X T : Type 0} (forms : Forms X T) → (x : List ℕ) → AllFound forms level.Atom (terminal.Name x ∷ []) (forms.Name x)
found_name forms x rest =
    let short = name_or_call_short forms (reading forms) (reading_short forms) x rest in
    (name_or_call forms (reading forms) x rest, (reading_step forms) level.Atom (terminal.Name x ∷ rest), short, λ stops. no_call forms x rest stops)

found_hole : {X T : Type 0} (forms : Forms X T) → (x : X) (e : T) → forms.Hole x ≡ Some e → AllFound forms level.Atom (terminal.Special x ∷ []) e
found_hole forms x e h rest = ((e, rest), reading_step forms level.Atom (terminal.Special x ∷ rest) ∙ ap (λ o. o >>= λ a. Some (a, rest)) h, omega arith, λ stops. refl)

found_call : {X T : Type 0} (forms : Forms X T) → (f : List ℕ) (xs : List (Terminal X)) (es : List T) → AreRead forms bracket.Round xs es → AllFound forms level.Atom ((terminal.Name f ∷ terminal.Word word.LeftParen ∷ xs) ++ (terminal.Word word.RightParen ∷ [])) (forms.Call f es)
found_call forms f xs es h rest =
    let p : elements (reading forms) bracket.Round ((xs ++ (terminal.Word word.RightParen ∷ [])) ++ rest) ≡ Some (es, rest) = ap (elements (reading forms) bracket.Round) (append_assoc xs (terminal.Word word.RightParen ∷ []) rest) ∙ h rest in
    ((forms.Call f es, rest), (reading_step forms) level.Atom (terminal.Name f ∷ terminal.Word word.LeftParen ∷ ((xs ++ (terminal.Word word.RightParen ∷ [])) ++ rest)) ∙ rw p, omega arith, λ stops. refl)

found_items : {X T : Type 0} (forms : Forms X T) → (xs : List (Terminal X)) (es : List T) → AreRead forms bracket.Square xs es → AllFound forms level.Atom ((terminal.Word word.LeftBracket ∷ xs) ++ (terminal.Word word.RightBracket ∷ [])) (forms.List es)
found_items forms xs es h rest =
    let p : elements (reading forms) bracket.Square ((xs ++ (terminal.Word word.RightBracket ∷ [])) ++ rest) ≡ Some (es, rest) = ap (elements (reading forms) bracket.Square) (append_assoc xs (terminal.Word word.RightBracket ∷ []) rest) ∙ h rest in
    ((forms.List es, rest), (reading_step forms) level.Atom (terminal.Word word.LeftBracket ∷ ((xs ++ (terminal.Word word.RightBracket ∷ [])) ++ rest)) ∙ rw p, omega arith, λ stops. refl)

found_set : {X T : Type 0} (forms : Forms X T) → (xs : List (Terminal X)) (es : List T) (e : T) → forms.Set es ≡ Some e → AreRead forms bracket.Curly xs es → AllFound forms level.Atom ((terminal.Word word.LeftBrace ∷ xs) ++ (terminal.Word word.RightBrace ∷ [])) e
found_set forms xs es e is h rest =
    let p : elements (reading forms) bracket.Curly ((xs ++ (terminal.Word word.RightBrace ∷ [])) ++ rest) ≡ Some (es, rest) = ap (elements (reading forms) bracket.Curly) (append_assoc xs (terminal.Word word.RightBrace ∷ []) rest) ∙ h rest in (
      (e, rest),
      reading_step forms level.Atom (terminal.Word word.LeftBrace ∷ ((xs ++ (terminal.Word word.RightBrace ∷ [])) ++ rest))
          ∙ ap (λ o. o >>= λ fs. forms.Set fs.0 >>= λ d. Some (d, fs.1)) p ∙ ap (λ o. o >>= λ d. Some (d, rest)) is,
      omega arith,
      λ stops. refl,
    )

found_parenthesized : {X T : Type 0} (forms : Forms X T) → (xs : List (Terminal X)) (e : T) → AllFound forms level.Conditional xs e → AllFound forms level.Atom ((terminal.Word word.LeftParen ∷ xs) ++ (terminal.Word word.RightParen ∷ [])) e
found_parenthesized forms xs e h rest =
    let p = ap (reading forms level.Conditional) (append_assoc xs (terminal.Word word.RightParen ∷ []) rest) ∙ exact forms level.Conditional xs e (terminal.Word word.RightParen ∷ rest) (h (terminal.Word word.RightParen ∷ rest)) tt in
    ((e, rest), (reading_step forms) level.Atom (terminal.Word word.LeftParen ∷ ((xs ++ (terminal.Word word.RightParen ∷ [])) ++ rest)) ∙ rw p, omega arith, λ stops. refl)

abbrev pub Complete : {X T : Type 0} (forms : Forms X T) → Level → List (Terminal X) → T → Type 0
Complete forms k front e = AllFound forms k front e × GoesOn forms k front e

complete_higher : {X T : Type 0} (forms : Forms X T) → (k : Level) (xs : List (Terminal X)) (e : T) → Complete forms (above k) xs e → Complete forms k xs e
complete_higher forms level.Conditional xs e h = (found_higher_conditional forms xs e h.0, tt)
complete_higher forms level.Disjunction xs e h = (found_higher_chain forms level.Disjunction tt xs e h.0, (goes_higher forms) level.Disjunction tt xs e h.0)
complete_higher forms level.Conjunction xs e h = (found_higher_chain forms level.Conjunction tt xs e h.0, (goes_higher forms) level.Conjunction tt xs e h.0)
complete_higher forms level.Negation xs e h = (found_higher_negation forms xs e h.0, tt)
complete_higher forms level.Comparison xs e h = (found_higher_comparison forms xs e h.0, tt)
complete_higher forms level.Sum xs e h = (found_higher_chain forms level.Sum tt xs e h.0, (goes_higher forms) level.Sum tt xs e h.0)
complete_higher forms level.Product xs e h = (found_higher_chain forms level.Product tt xs e h.0, (goes_higher forms) level.Product tt xs e h.0)
complete_higher forms level.Unary xs e h = (found_higher_unary forms xs e h.0, tt)
complete_higher forms level.Power xs e h = (found_higher_power forms xs e h.0, tt)
complete_higher forms level.Postfix xs e h = (found_higher_postfix forms xs e h.0, (goes_higher_postfix forms) xs e h.0)
complete_higher forms level.Atom xs e h = h

complete_arithmetic : {X T : Type 0} (forms : Forms X T) → (op : ArithOp) (xs ys : List (Terminal X)) (a b : T) → Complete forms (left_level op) xs a → Complete forms (right_level op) ys b → Complete forms (operator_level op) (xs ++ (terminal.Word (arith_word op) ∷ ys)) (forms.Arith op a b)
complete_arithmetic forms Add xs ys a b f g = (found_joint forms level.Sum (terminal.Word word.Plus) (joined forms (joint.Arith Add)) (λ us. refl) (λ us. omega arith) xs ys a b f.1 g.0, (goes_joint forms) level.Sum (terminal.Word word.Plus) (joined forms (joint.Arith Add)) (λ us. refl) (λ us. omega arith) xs ys a b f.1 g.0)
complete_arithmetic forms Sub xs ys a b f g = (found_joint forms level.Sum (terminal.Word word.Minus) (joined forms (joint.Arith Sub)) (λ us. refl) (λ us. omega arith) xs ys a b f.1 g.0, (goes_joint forms) level.Sum (terminal.Word word.Minus) (joined forms (joint.Arith Sub)) (λ us. refl) (λ us. omega arith) xs ys a b f.1 g.0)
complete_arithmetic forms Mul xs ys a b f g = (found_joint forms level.Product (terminal.Word word.Star) (joined forms (joint.Arith Mul)) (λ us. refl) (λ us. omega arith) xs ys a b f.1 g.0, (goes_joint forms) level.Product (terminal.Word word.Star) (joined forms (joint.Arith Mul)) (λ us. refl) (λ us. omega arith) xs ys a b f.1 g.0)
complete_arithmetic forms Floor xs ys a b f g = (found_joint forms level.Product (terminal.Word word.DoubleSlash) (joined forms (joint.Arith Floor)) (λ us. refl) (λ us. omega arith) xs ys a b f.1 g.0, (goes_joint forms) level.Product (terminal.Word word.DoubleSlash) (joined forms (joint.Arith Floor)) (λ us. refl) (λ us. omega arith) xs ys a b f.1 g.0)
complete_arithmetic forms Rem xs ys a b f g = (found_joint forms level.Product (terminal.Word word.Percent) (joined forms (joint.Arith Rem)) (λ us. refl) (λ us. omega arith) xs ys a b f.1 g.0, (goes_joint forms) level.Product (terminal.Word word.Percent) (joined forms (joint.Arith Rem)) (λ us. refl) (λ us. omega arith) xs ys a b f.1 g.0)
complete_arithmetic forms Power xs ys a b f g = (found_power forms xs ys a b f.0 g.0, tt)

complete_suffix : {X T : Type 0} (forms : Forms X T) → (xs us : List (Terminal X)) (v : T) (s : (Suffix T)) → GoesPostfix forms xs v → IsSuffixRead forms us s → Complete forms level.Postfix (xs ++ (terminal.Word word.LeftBracket ∷ us)) (suffixed forms v s)
complete_suffix forms xs us v s g h = (found_suffix forms xs us v s g h, λ rest stops. goes_suffix forms xs us v s g h rest)

-- what the elements are read as: all of them, and, where there is one, from the first on
abbrev pub CompleteAll : {X T : Type 0} (forms : Forms X T) → List (Terminal X) → List T → Type 0
CompleteAll forms xs es = ((b : Bracket) → AreRead forms b xs es) × ((b : Bracket) → IsSome_terms es → AreSomeRead forms b xs es)

mutual
  complete : {X T : Type 0} (forms : Forms X T) → (k : Level) (front : List (Terminal X)) (e : T) → Spells forms k front e → Complete forms k front e
  complete forms k front e (conditional {xs} {ts} {ys} {a} {t} {b} s u v) = (found_conditional forms xs ts ys a t b (complete forms level.Disjunction xs a s).0 (complete forms level.Disjunction ts t u).0 (complete forms level.Conditional ys b v).0, tt)
  complete forms k front e (disjunction {xs} {ys} {a} {b} s t) = let f = complete forms level.Disjunction xs a s in let g = complete forms level.Conjunction ys b t in
      (found_joint forms level.Disjunction (terminal.Word word.Or) (joined forms joint.Or) (λ us. refl) (λ us. omega arith) xs ys a b f.1 g.0, (goes_joint forms) level.Disjunction (terminal.Word word.Or) (joined forms joint.Or) (λ us. refl) (λ us. omega arith) xs ys a b f.1 g.0)
  complete forms k front e (conjunction {xs} {ys} {a} {b} s t) = let f = complete forms level.Conjunction xs a s in let g = complete forms level.Negation ys b t in
      (found_joint forms level.Conjunction (terminal.Word word.And) (joined forms joint.And) (λ us. refl) (λ us. omega arith) xs ys a b f.1 g.0, (goes_joint forms) level.Conjunction (terminal.Word word.And) (joined forms joint.And) (λ us. refl) (λ us. omega arith) xs ys a b f.1 g.0)
  complete forms k front e (negation {xs} {a} s) = (found_negation forms xs a (complete forms level.Negation xs a s).0, tt)
  complete forms k front e (compared {xs} {ys} {a} {b} op s t) = (found_compared forms op xs ys a b (complete forms level.Sum xs a s).0 (complete forms level.Sum ys b t).0, tt)
  complete forms k front e (arithmetic {xs} {ys} {a} {b} op s t) = complete_arithmetic forms op xs ys a b (complete forms (left_level op) xs a s) (complete forms (right_level op) ys b t)
  complete forms k front e (operated {xs} {ys} {a} {b} x {f = j} h s t) = let f = complete forms level.Sum xs a s in let g = complete forms level.Product ys b t in
      (found_joint forms level.Sum (terminal.Operator x) j (λ us. ap (λ o. o >>= λ i. Some (i, us)) h) (λ us. omega arith) xs ys a b f.1 g.0, (goes_joint forms) level.Sum (terminal.Operator x) j (λ us. ap (λ o. o >>= λ i. Some (i, us)) h) (λ us. omega arith) xs ys a b f.1 g.0)
  complete forms k front e (likened {xs} {ys} {a} {b} x {f = j} h s t) = (found_by_comparator forms x j h xs ys a b (complete forms level.Sum xs a s).0 (complete forms level.Sum ys b t).0, tt)
  complete forms k front e (minus {xs} {a} s) = (found_minus forms xs a (complete forms level.Unary xs a s).0, tt)
  complete forms k front e (index {xs} {ys} {v} {i} s t) =
      subst (λ l. Complete forms level.Postfix l (forms.Index v i)) (sym (append_assoc xs (terminal.Word word.LeftBracket ∷ ys) (terminal.Word word.RightBracket ∷ [])))
      (complete_suffix forms xs (ys ++ (terminal.Word word.RightBracket ∷ [])) v (by_index i) (complete forms level.Postfix xs v s).1 (index_read forms ys i (complete forms level.Conditional ys i t).0))
  complete forms k front e (slice {xs} {ys} {zs} {v} {from} {to} s f t) =
      let regroup : ((xs ++ (terminal.Word word.LeftBracket ∷ ys)) ++ (terminal.Word word.Colon ∷ zs)) ++ (terminal.Word word.RightBracket ∷ []) ≡ xs ++ (terminal.Word word.LeftBracket ∷ ((ys ++ (terminal.Word word.Colon ∷ zs)) ++ (terminal.Word word.RightBracket ∷ []))) = simp append_assoc in
      subst (λ l. Complete forms level.Postfix l (forms.Slice v from to)) (sym regroup)
      (complete_suffix forms xs ((ys ++ (terminal.Word word.Colon ∷ zs)) ++ (terminal.Word word.RightBracket ∷ [])) v (by_ends from to) (complete forms level.Postfix xs v s).1 (slice_read forms ys zs from to (complete_end forms ys from f).0 (complete_end forms zs to t).1))
  complete forms k front e (number n) = (found_number forms n, tt)
  complete forms k front e (quoted cs) = (found_quoted forms cs, tt)
  complete forms k front e (truth b) = (found_truth forms b, tt)
  complete forms k front e (hole x h) = (found_hole forms x e h, tt)
  complete forms k front e (name x) = (found_name forms x, tt)
  complete forms k front e (call f {xs} {es} s) = (found_call forms f xs es ((complete_all forms xs es s).0 bracket.Round), tt)
  complete forms k front e (items {xs} {es} s) = (found_items forms xs es ((complete_all forms xs es s).0 bracket.Square), tt)
  complete forms k front e (set_of {xs} {es} h s) = (found_set forms xs es e h ((complete_all forms xs es s).0 bracket.Curly), tt)
  complete forms k front e (parenthesized {xs} s) = (found_parenthesized forms xs e (complete forms level.Conditional xs e s).0, tt)
  complete forms k front e (higher s) = complete_higher forms k front e (complete forms (above k) front e s)

  complete_end : {X T : Type 0} (forms : Forms X T) → (ys : List (Terminal X)) (m : Option T) → SpellsEnd forms ys m → IsFirstEnd forms ys m × IsLastRead forms ys m
  complete_end forms ys m missing = (λ us. refl, λ from rest. refl)
  complete_end forms ys m (given {e = e} s) = let f = (complete forms level.Conditional ys e s).0 in (first_end forms ys e f, (last_read forms) ys e f)

  complete_all : {X T : Type 0} (forms : Forms X T) → (xs : List (Terminal X)) (es : List T) → SpellsAll forms xs es → CompleteAll forms xs es
  complete_all forms xs es none = ((none_read forms), λ b h. absurd h)
  complete_all forms xs es (one {e = e} s) =
      let f = (complete forms level.Conditional xs e s).0 in
      let some : (b : Bracket) → AreSomeRead forms b xs ((e ∷ [])) = λ b. one_read forms b xs e f in
      (λ b. subst (λ l. AreRead forms b l ((e ∷ []))) (append-nil xs) (some_read forms b xs [] e ((e ∷ [])) f (subst (λ l. AreSomeRead forms b l ((e ∷ []))) (sym (append-nil xs)) (some b))), λ b h. some b)
  complete_all forms xs es (more {xs = us} {ys = ys} {e = e} {f = g} {es = gs} s t) =
      let f = (complete forms level.Conditional us e s).0 in
      let rest = complete_all forms ys ((g ∷ gs)) t in
      let some : (b : Bracket) → AreSomeRead forms b (us ++ (terminal.Word word.Comma ∷ ys)) ((e ∷ ((g ∷ gs)))) = λ b. more_read forms b us ys e ((g ∷ gs)) f (rest.1 b tt) in
      (λ b. some_read forms b us (terminal.Word word.Comma ∷ ys) e ((e ∷ ((g ∷ gs)))) f (some b), λ b h. some b)

-- what is spelled at the front is read at least so far
pub reading_longest : {X T : Type 0} (forms : Forms X T) → (k : Level) (front : List (Terminal X)) (e : T) (rest : List (Terminal X)) → Spells forms k front e → Found forms k front e rest
reading_longest forms k front e rest s = (complete forms k front e s).0 rest

-- and exactly so far, where nothing behind it goes on with it
pub reading_exact : {X T : Type 0} (forms : Forms X T) → (k : Level) (front : List (Terminal X)) (e : T) (rest : List (Terminal X)) → Spells forms k front e → Stops k rest → reading forms k (front ++ rest) ≡ Some (e, rest)
reading_exact forms k front e rest s stops = exact forms k front e rest (reading_longest forms k front e rest s) stops

-- the expression that was read, or another
abbrev pub read_or : {X T : Type 0} → T → Option (T × List (Terminal X)) → T
read_or d None = d
read_or d (Some x) = x.0

-- terminals spell one expression at most
pub one_expression : {X T : Type 0} (forms : Forms X T) → (k : Level) (ts : List (Terminal X)) (e f : T) → Spells forms k ts e → Spells forms k ts f → e ≡ f
one_expression forms k ts e f s t = ap (read_or e) (sym (reading_exact forms k ts e [] s tt) ∙ reading_exact forms k ts f [] t tt)
