-- Laws of the values of a graph's gates.
use Rattle.std.proofs.Common.{◌≡◌, ℕ, zero, suc, ◌<◌, ◌+◌, Bool, false, not, ◌&&◌, List, [], ◌∷◌}
use Rattle.std.proofs.Common.{◌++◌, length, get_or, Some, refl, sym, ap, ◌∙◌, subst, arith}
use Rattle.std.proofs.Common.{length-append}
use Rattle.std.specs.Prelude.{slice_get, if◌then◌else◌}
use Rattle.std.proofs.lemmas.List.{get_or_append_left, get_or_push}
use Rattle.bit_graph.specs.declared.gate.Source.{Source}
use Rattle.bit_graph.specs.declared.gate.Source.TheVariants.{Constant, Variable, Made}
use Rattle.bit_graph.specs.declared.gate.GraphBit.{GraphBit}
use Rattle.bit_graph.specs.declared.gate.Gate.{Gate}
use Rattle.bit_graph.specs.Gates.{AreGates, IsBelow, bit_reads, gate_reads, source_reads}
use Rattle.bit_graph.specs.Gates.{values_after}

-- two lists of gates in turn
pub values_after_append : (vs made : List Bool) (xs ys : List Gate)
    → values_after vs made (xs ++ ys) ≡ values_after vs (values_after vs made xs) ys
values_after_append vs made [] ys = refl
values_after_append vs made (x ∷ xs) ys =
    values_after_append vs (made ++ gate_reads vs made x ∷ []) xs ys

-- values that are there stay
values_before : (vs made : List Bool) (xs : List Gate) (k : ℕ) → k < length made
    → get_or (values_after vs made xs) k false ≡ get_or made k false
values_before vs made [] k h = refl
values_before vs made (x ∷ xs) k h =
    let v = gate_reads vs made x in
    values_before vs (made ++ v ∷ []) xs k (omega (arith, length-append made (v ∷ [])))
    ∙ get_or_append_left made (v ∷ []) false k h

source_before : (n : ℕ) (vs made : List Bool) (xs : List Gate) (s : Source)
    → IsBelow n (length made) s
    → source_reads vs (values_after vs made xs) s ≡ source_reads vs made s
source_before n vs made xs Constant h = refl
source_before n vs made xs (Variable i) h = refl
source_before n vs made xs (Made k) h = values_before vs made xs k h

-- so a bit of the gates before reads as with those alone
pub bit_before : (n : ℕ) (vs made : List Bool) (xs : List Gate) (b : GraphBit)
    → IsBelow n (length made) b.source
    → bit_reads vs (values_after vs made xs) b ≡ bit_reads vs made b
bit_before n vs made xs b h =
    ap (λ v. if b.positive then v else not v) (source_before n vs made xs b.source h)

-- each gate has a value
pub length-values_after : (vs made : List Bool) (xs : List Gate)
    → length (values_after vs made xs) ≡ length made + length xs
length-values_after vs made [] = omega arith
length-values_after vs made (x ∷ xs) =
    let v = gate_reads vs made x in
    let e : length (values_after vs (made ++ v ∷ []) xs) ≡ length (made ++ v ∷ []) + length xs =
    length-values_after vs (made ++ v ∷ []) xs in
    omega (arith, length-append made (v ∷ []))

at_gate : (n : ℕ) (vs made : List Bool) (xs : List Gate) (k : ℕ) (x : Gate)
    → slice_get xs k ≡ Some x
    → IsBelow n (length made + k) x.left.source → IsBelow n (length made + k) x.right.source
    → get_or (values_after vs made xs) (length made + k) false
    ≡ gate_reads vs (values_after vs made xs) x
at_gate n vs made [] k x e l r = cc
at_gate n vs made (y ∷ xs) zero x e l r =
    let same : y ≡ x = cc in
    let v = gate_reads vs made y in
    let all = values_after vs made (y ∷ xs) in
    let here : get_or (values_after vs (made ++ v ∷ []) xs) (length made) false ≡ v =
    values_before vs (made ++ v ∷ []) xs (length made) (omega (arith, length-append made (v ∷ [])))
    ∙ get_or_push made v false (length made) refl in
    let n0 : length made + 0 ≡ length made = omega arith in
    let left : bit_reads vs all x.left ≡ bit_reads vs made x.left =
    bit_before n vs made (y ∷ xs) x.left (subst (λ j. IsBelow n j x.left.source) n0 l) in
    let right : bit_reads vs all x.right ≡ bit_reads vs made x.right =
    bit_before n vs made (y ∷ xs) x.right (subst (λ j. IsBelow n j x.right.source) n0 r) in
    ap (λ j. get_or (values_after vs (made ++ v ∷ []) xs) j false) n0 ∙ here
    ∙ ap (gate_reads vs made) same
    ∙ sym (ap (λ b. b && bit_reads vs all x.right) left
    ∙ ap (λ b. bit_reads vs made x.left && b) right)
at_gate n vs made (y ∷ xs) (suc k) x e l r =
    let v = gate_reads vs made y in
    let next : length made + suc k ≡ length (made ++ v ∷ []) + k =
    omega (arith, length-append made (v ∷ [])) in
    ap (λ j. get_or (values_after vs (made ++ v ∷ []) xs) j false) next
    ∙ at_gate n vs (made ++ v ∷ []) xs k x e (subst (λ j. IsBelow n j x.left.source) next l)
    (subst (λ j. IsBelow n j x.right.source) next r)

-- the value of a gate is that of its parts
pub made_reads : (n : ℕ) (vs : List Bool) (xs : List Gate) (k : ℕ) (x : Gate)
    → AreGates n xs → slice_get xs k ≡ Some x
    → get_or (values_after vs [] xs) k false ≡ gate_reads vs (values_after vs [] xs) x
made_reads n vs xs k x all e =
    let at = all.each k x e in
    let z : 0 + k ≡ k = omega arith in
    let value = values_after vs [] xs in
    subst (λ j. get_or value j false ≡ gate_reads vs value x) z
    (at_gate n vs [] xs k x e (subst (λ j. IsBelow n j x.left.source) (sym z) at.left)
    (subst (λ j. IsBelow n j x.right.source) (sym z) at.right))
