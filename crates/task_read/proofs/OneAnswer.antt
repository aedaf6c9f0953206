-- A text spells one typed program at most, or is refused for one cause at one line.
use Rattle.std.proofs.Common.{◌≡◌, ℕ, List, [], Option, Some, None, refl, sym, ap, subst, ◌∙◌, inl, inr}
use Rattle.mpy_tree.specs.declared.refusal.Cause.{Cause}
use Rattle.mpy_tree.specs.declared.typing.Ty.{Ty}
use Rattle.mpy_tree.specs.declared.typing.Fact.{Fact}
use Rattle.mpy_tree.specs.declared.typing.TypeError.{TypeError}
use Rattle.mpy_tree.specs.declared.typing.TypeError.TheVariants.{Fault, Conflict}
use Rattle.mpy_tree.specs.Entries.{Entry}
use Rattle.mpy_tree.specs.Leasts.{least}
use Rattle.mpy_tree.specs.Syntax.{Routine}
use Rattle.mpy_tree.specs.Typings.{IsTyping}
use Rattle.mpy_parser.specs.Programs.{IsProgram}
use Rattle.mpy_parser.proofs.OneAnswer.{one_program as one_reading, not_refused, one_refusal as one_text_refusal}
use Rattle.mpy_parser.proofs.Steps.{laws}
use Rattle.mpy_type_laws.proofs.OneAnswer.{typed_or_not, typed_or_early, one_fault, early_fault}
use Rattle.mpy_type_laws.proofs.OneAnswer.{one_typing as one_typing_of}
use Rattle.task_read.specs.TypedPrograms.{IsTypedProgram, IsFaultOf, IsTypingRefused, by_fault, by_conflict}
use Rattle.task_read.specs.TypedPrograms.{IsProgramRefused, by_text, by_typing, by_sharing, IsSharedOn, shared_lines}

one_program : (bytes : List ℕ) (p q : List Routine) → IsProgram bytes p → IsProgram bytes q → p ≡ q
one_program bytes p q a b = one_reading laws bytes p q a.reads b.reads

one_typing : (e : Entry) (p q : List Routine) (T U : List Fact) → p ≡ q → IsTyping T p e → IsTyping U q e → T ≡ U
one_typing e p q T U same t u = one_typing_of T U q e (subst (λ r. IsTyping T r e) same t) u

pub one_typed_program : (bytes : List ℕ) (e : Entry) (p q : List Routine) (T U : List Fact) → IsTypedProgram bytes e p T → IsTypedProgram bytes e q U → (p ≡ q) × (T ≡ U)
one_typed_program bytes e p q T U a b =
    let same = one_program bytes p q a.read b.read in
    (same, one_typing e p q T U same a.typing b.typing)

no_fault : (T : List Fact) (p : List Routine) (e : Entry) (f : TypeError) → IsTyping T p e → IsFaultOf f p e → ⊥
no_fault T p e f t (inl early) = typed_or_early T f p e t early
no_fault T p e f t (inr first) = typed_or_not T f p e t first

no_typing_refusal : (T : List Fact) (p : List Routine) (e : Entry) (c : Cause) (line : ℕ) → IsTyping T p e → IsTypingRefused p e c line → ⊥
no_typing_refusal T p e c line t (by_fault d m f) = no_fault T p e (Fault d m) t f
no_typing_refusal T p e c line t (by_conflict m one other f) = no_fault T p e (Conflict m one other) t f

typed_not_refused : (bytes : List ℕ) (T : List Fact) (p q : List Routine) (e : Entry) (c : Cause) (line : ℕ) → IsProgram bytes p → IsTyping T p e → IsProgram bytes q → IsTypingRefused q e c line → ⊥
typed_not_refused bytes T p q e c line a t b r =
    no_typing_refusal T q e c line (subst (λ s. IsTyping T s e) (one_program bytes p q a b) t) r

least_of_none : (line : ℕ) (ns : List ℕ) → ns ≡ [] → least ns ≡ Some line → ⊥
unfolding least
least_of_none line ns none some =
    let no : None ≡ Some line = sym (ap least none) ∙ some in cc

pub not_typed_and_refused : (bytes : List ℕ) (e : Entry) (p : List Routine) (T : List Fact) (c : Cause) (line : ℕ) → IsTypedProgram bytes e p T → IsProgramRefused bytes e c line → ⊥
not_typed_and_refused bytes e p T c line t (by_text d m r) = not_refused laws bytes p d m t.read r
not_typed_and_refused bytes e p T c line t (by_typing q d m b r) = typed_not_refused bytes T p q e d m t.read t.typing b r
not_typed_and_refused bytes e p T c line t (by_sharing q U d m b u s) =
    let same = one_program bytes p q t.read b in
    let facts = one_typing e p q T U same t.typing u in
    least_of_none m (shared_lines U q) (ap (shared_lines U) (sym same) ∙ ap (λ F. shared_lines F p) (sym facts) ∙ t.unshared) s.1

-- ONE REFUSAL

some_fault : (f g : TypeError) (o : Option TypeError) → o ≡ Some f → o ≡ Some g → f ≡ g
some_fault f g o a b = let both : Some f ≡ Some g = sym a ∙ b in cc

one_fault_of : (p : List Routine) (e : Entry) (f g : TypeError) → IsFaultOf f p e → IsFaultOf g p e → f ≡ g
one_fault_of p e f g (inl a) (inl b) = some_fault f g _ a b
one_fault_of p e f g (inl a) (inr b) = early_fault f g p e a b
one_fault_of p e f g (inr a) (inl b) = sym (early_fault g f p e b a)
one_fault_of p e f g (inr a) (inr b) = one_fault f g p e a b

abbrev Same : Cause → Cause → ℕ → ℕ → Type 0
Same c d m n = (c ≡ d) × (m ≡ n)

same_fault : (c d : Cause) (m n : ℕ) → Fault c m ≡ Fault d n → Same c d m n
same_fault c d m n h = let cs : c ≡ d = cc in let ls : m ≡ n = cc in (cs, ls)

no_conflict : {A : Type 0} (c : Cause) (m n : ℕ) (one other : Ty) → Fault c m ≡ Conflict n one other → A
no_conflict c m n one other h = let no : ⊥ = cc in absurd no

same_conflict : (m n : ℕ) (one other first second : Ty) → Conflict m one other ≡ Conflict n first second → m ≡ n
same_conflict m n one other first second h = cc

one_typing_refusal : (p : List Routine) (e : Entry) (c d : Cause) (m n : ℕ) → IsTypingRefused p e c m → IsTypingRefused p e d n → Same c d m n
one_typing_refusal p e c d m n (by_fault x k f) (by_fault y l g) = same_fault x y k l (one_fault_of p e (Fault x k) (Fault y l) f g)
one_typing_refusal p e c d m n (by_fault x k f) (by_conflict l one other g) = no_conflict x k l one other (one_fault_of p e (Fault x k) (Conflict l one other) f g)
one_typing_refusal p e c d m n (by_conflict k one other f) (by_fault y l g) = no_conflict y l k one other (one_fault_of p e (Fault y l) (Conflict k one other) g f)
one_typing_refusal p e c d m n (by_conflict k one other f) (by_conflict l first second g) =
    (refl, same_conflict k l one other first second (one_fault_of p e (Conflict k one other) (Conflict l first second) f g))

same_least : (m n : ℕ) (o : Option ℕ) → o ≡ Some m → o ≡ Some n → m ≡ n
same_least m n o a b = let both : Some m ≡ Some n = sym a ∙ b in cc

one_sharing : (c d : Cause) (m n : ℕ) (T U : List Fact) (p q : List Routine) → p ≡ q → T ≡ U → IsSharedOn T p c m → IsSharedOn U q d n → Same c d m n
one_sharing c d m n T U p q same facts a b =
    (a.0 ∙ sym b.0, same_least m n (least (shared_lines U q)) (ap (λ F. least (shared_lines F q)) (sym facts) ∙ ap (λ r. least (shared_lines T r)) (sym same) ∙ a.1) b.1)

pub one_refusal : (bytes : List ℕ) (e : Entry) (c d : Cause) (m n : ℕ) → IsProgramRefused bytes e c m → IsProgramRefused bytes e d n → Same c d m n
one_refusal bytes e c d m n (by_text x k a) (by_text y l b) = one_text_refusal laws bytes x y k l a b
one_refusal bytes e c d m n (by_text x k a) (by_typing q y l b r) = absurd (not_refused laws bytes q x k b a)
one_refusal bytes e c d m n (by_text x k a) (by_sharing q U y l b u s) = absurd (not_refused laws bytes q x k b a)
one_refusal bytes e c d m n (by_typing p x k a f) (by_text y l b) = absurd (not_refused laws bytes p y l a b)
one_refusal bytes e c d m n (by_typing p x k a f) (by_typing q y l b g) =
    one_typing_refusal q e x y k l (subst (λ r. IsTypingRefused r e x k) (one_program bytes p q a b) f) g
one_refusal bytes e c d m n (by_typing p x k a f) (by_sharing q U y l b u s) = absurd (typed_not_refused bytes U q p e x k b u a f)
one_refusal bytes e c d m n (by_sharing p T x k a t s) (by_text y l b) = absurd (not_refused laws bytes p y l a b)
one_refusal bytes e c d m n (by_sharing p T x k a t s) (by_typing q y l b g) = absurd (typed_not_refused bytes T p q e y l a t b g)
one_refusal bytes e c d m n (by_sharing p T x k a t s) (by_sharing q U y l b u z) =
    let same = one_program bytes p q a b in
    one_sharing x y k l T U p q same (one_typing e p q T U same t u) s z
