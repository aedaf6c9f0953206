-- Names among names.
use Rattle.std.proofs.Common.{◌≡◌, ◌<◌, ℕ, Bool, List, [], length, not, slice_get, sym, ap, ◌∙◌, Option, Some, None, option_map}
use Rattle.std.proofs.lemmas.List.Quantifiers.{position-Some}
use Rattle.std.proofs.lemmas.Option.{slice_get-get_or}
use Rattle.std.proofs.lemmas.Slice.Eq.{bytes_eq-Decides}
use Rattle.mpy_tree.specs.declared.typing.Ty.{Ty}
use Rattle.mpy_tree.specs.declared.value.Value.{Value}
use Rattle.mpy_tree.specs.Locals.{place_of}
use Rattle.mpy_tree.specs.Values.{same_bytes, set_or_fault}
use Rattle.sym_values.specs.declared.value.SymValue.{SymValue}
use Rattle.sym_values.specs.Reading.{IsOutcome, Reading}
use Rattle.sym_nodes.specs.Environments.{LocalReads, type_at}
use Rattle.sym_nodes.specs.Operands.{ty_of}

-- at its place stands the name
pub found_below : (names : List (List ℕ)) (x : List ℕ) (i : ℕ) → Some i ≡ place_of names x → i < length names
found_below names x i e = (position-Some (λ y. same_bytes x y) names i [] (sym e)).0

pub found_at : (names : List (List ℕ)) (x : List ℕ) (i : ℕ) → Some i ≡ place_of names x → slice_get names i ≡ Some x
found_at names x i e =
    let p = position-Some (λ y. same_bytes x y) names i [] (sym e) in
    slice_get-get_or names i [] p.0 ∙ ap Some (sym ((bytes_eq-Decides x _).0 p.1))

-- the type of the value there
pub type_there : {B : Type 0} (values : List (SymValue B)) (o : Option ℕ) (i : ℕ) (held : SymValue B) (t : Ty) → Some i ≡ o → slice_get values i ≡ Some held → type_at values o ≡ Some t → ty_of held ≡ t
type_there values o i held t e at is =
    let one : type_at values (Some i) ≡ Some t = ap (type_at values) e ∙ is in
    let two : Some (ty_of held) ≡ Some t = sym (ap (option_map ty_of) at) ∙ one in
    cc

-- a local whose bit isn't true is Unset
pub local_is : (set fault : Bool) (reading : Reading) (o : Option Value) → fault ≡ not set → LocalReads set reading o → IsOutcome fault reading (set_or_fault o)
local_is set fault reading None e h = e ∙ ap not h
local_is set fault reading (Some v) e h = (e ∙ ap not h.0, h.1)
