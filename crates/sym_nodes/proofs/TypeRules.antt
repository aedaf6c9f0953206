-- What the typing rules say of the types of operands.
use Rattle.std.proofs.Common.{◌≡◌, ◌≢◌, refl, Option, Some, None, IsSome, ◌⊎◌, inl, inr}
use Rattle.mpy_tree.specs.declared.operators.ArithOp.{ArithOp}
use Rattle.mpy_tree.specs.declared.operators.ArithOp.TheVariants.{Add, Sub, Mul, Floor, Rem, Power}
use Rattle.mpy_tree.specs.declared.typing.Ty.{Ty}
use Rattle.mpy_tree.specs.declared.typing.Ty.TheVariants as ty
use Rattle.mpy_tree.specs.Rules.{arith_type, both_are, negative_type, order_type, equal_type, member_type, index_type, member_of, slice_type, choice_type}

-- a list or a text
abbrev pub IsSequenceType : Ty → Type 0
IsSequenceType t = IsSome (member_of t)

-- a type that is there
pub some_type : (o : Option Ty) → IsSome o → (t : Ty) × (o ≡ Some t)
some_type None h = absurd cc
some_type (Some t) h = (t, refl)

pub number_type : (op : ArithOp) (t : Ty) → arith_type op ty.Int ty.Int ≡ Some t → t ≡ ty.Int
number_type Add t e = cc
number_type Sub t e = cc
number_type Mul t e = cc
number_type Floor t e = cc
number_type Rem t e = cc
number_type Power t e = cc

-- `*` is the one operator that takes a number behind what is no number
pub repeated_type : (op : ArithOp) (s t : Ty) → s ≢ ty.Int → arith_type op s ty.Int ≡ Some t → (op ≡ Mul) × (t ≡ s) × IsSequenceType s
repeated_type Add ty.Int t apart e = absurd (apart refl)
repeated_type Add ty.Bool t apart e = absurd cc
repeated_type Add ty.List t apart e = absurd cc
repeated_type Add ty.Text t apart e = absurd cc
repeated_type Sub ty.Int t apart e = absurd (apart refl)
repeated_type Sub ty.Bool t apart e = absurd cc
repeated_type Sub ty.List t apart e = absurd cc
repeated_type Sub ty.Text t apart e = absurd cc
repeated_type Mul ty.Int t apart e = absurd (apart refl)
repeated_type Mul ty.Bool t apart e = absurd cc
repeated_type Mul ty.List t apart e = (refl, cc, refl)
repeated_type Mul ty.Text t apart e = (refl, cc, refl)
repeated_type Floor ty.Int t apart e = absurd (apart refl)
repeated_type Floor ty.Bool t apart e = absurd cc
repeated_type Floor ty.List t apart e = absurd cc
repeated_type Floor ty.Text t apart e = absurd cc
repeated_type Rem ty.Int t apart e = absurd (apart refl)
repeated_type Rem ty.Bool t apart e = absurd cc
repeated_type Rem ty.List t apart e = absurd cc
repeated_type Rem ty.Text t apart e = absurd cc
repeated_type Power ty.Int t apart e = absurd (apart refl)
repeated_type Power ty.Bool t apart e = absurd cc
repeated_type Power ty.List t apart e = absurd cc
repeated_type Power ty.Text t apart e = absurd cc

-- `+` is the one that takes what is no number behind another
pub joined_type : (op : ArithOp) (s u t : Ty) → u ≢ ty.Int → arith_type op s u ≡ Some t → (op ≡ Add) × (u ≡ s) × (t ≡ s) × IsSequenceType s
joined_type Add ty.Int ty.Int t apart e = absurd (apart refl)
joined_type Add ty.Int ty.Bool t apart e = absurd cc
joined_type Add ty.Int ty.List t apart e = absurd cc
joined_type Add ty.Int ty.Text t apart e = absurd cc
joined_type Add ty.Bool ty.Int t apart e = absurd (apart refl)
joined_type Add ty.Bool ty.Bool t apart e = absurd cc
joined_type Add ty.Bool ty.List t apart e = absurd cc
joined_type Add ty.Bool ty.Text t apart e = absurd cc
joined_type Add ty.List ty.Int t apart e = absurd (apart refl)
joined_type Add ty.List ty.Bool t apart e = absurd cc
joined_type Add ty.List ty.List t apart e = (refl, refl, cc, refl)
joined_type Add ty.List ty.Text t apart e = absurd cc
joined_type Add ty.Text ty.Int t apart e = absurd (apart refl)
joined_type Add ty.Text ty.Bool t apart e = absurd cc
joined_type Add ty.Text ty.List t apart e = absurd cc
joined_type Add ty.Text ty.Text t apart e = (refl, refl, cc, refl)
joined_type Sub ty.Int ty.Int t apart e = absurd (apart refl)
joined_type Sub ty.Int ty.Bool t apart e = absurd cc
joined_type Sub ty.Int ty.List t apart e = absurd cc
joined_type Sub ty.Int ty.Text t apart e = absurd cc
joined_type Sub ty.Bool ty.Int t apart e = absurd (apart refl)
joined_type Sub ty.Bool ty.Bool t apart e = absurd cc
joined_type Sub ty.Bool ty.List t apart e = absurd cc
joined_type Sub ty.Bool ty.Text t apart e = absurd cc
joined_type Sub ty.List ty.Int t apart e = absurd (apart refl)
joined_type Sub ty.List ty.Bool t apart e = absurd cc
joined_type Sub ty.List ty.List t apart e = absurd cc
joined_type Sub ty.List ty.Text t apart e = absurd cc
joined_type Sub ty.Text ty.Int t apart e = absurd (apart refl)
joined_type Sub ty.Text ty.Bool t apart e = absurd cc
joined_type Sub ty.Text ty.List t apart e = absurd cc
joined_type Sub ty.Text ty.Text t apart e = absurd cc
joined_type Mul ty.Int ty.Int t apart e = absurd (apart refl)
joined_type Mul ty.Int ty.Bool t apart e = absurd cc
joined_type Mul ty.Int ty.List t apart e = absurd cc
joined_type Mul ty.Int ty.Text t apart e = absurd cc
joined_type Mul ty.Bool ty.Int t apart e = absurd (apart refl)
joined_type Mul ty.Bool ty.Bool t apart e = absurd cc
joined_type Mul ty.Bool ty.List t apart e = absurd cc
joined_type Mul ty.Bool ty.Text t apart e = absurd cc
joined_type Mul ty.List ty.Int t apart e = absurd (apart refl)
joined_type Mul ty.List ty.Bool t apart e = absurd cc
joined_type Mul ty.List ty.List t apart e = absurd cc
joined_type Mul ty.List ty.Text t apart e = absurd cc
joined_type Mul ty.Text ty.Int t apart e = absurd (apart refl)
joined_type Mul ty.Text ty.Bool t apart e = absurd cc
joined_type Mul ty.Text ty.List t apart e = absurd cc
joined_type Mul ty.Text ty.Text t apart e = absurd cc
joined_type Floor ty.Int ty.Int t apart e = absurd (apart refl)
joined_type Floor ty.Int ty.Bool t apart e = absurd cc
joined_type Floor ty.Int ty.List t apart e = absurd cc
joined_type Floor ty.Int ty.Text t apart e = absurd cc
joined_type Floor ty.Bool ty.Int t apart e = absurd (apart refl)
joined_type Floor ty.Bool ty.Bool t apart e = absurd cc
joined_type Floor ty.Bool ty.List t apart e = absurd cc
joined_type Floor ty.Bool ty.Text t apart e = absurd cc
joined_type Floor ty.List ty.Int t apart e = absurd (apart refl)
joined_type Floor ty.List ty.Bool t apart e = absurd cc
joined_type Floor ty.List ty.List t apart e = absurd cc
joined_type Floor ty.List ty.Text t apart e = absurd cc
joined_type Floor ty.Text ty.Int t apart e = absurd (apart refl)
joined_type Floor ty.Text ty.Bool t apart e = absurd cc
joined_type Floor ty.Text ty.List t apart e = absurd cc
joined_type Floor ty.Text ty.Text t apart e = absurd cc
joined_type Rem ty.Int ty.Int t apart e = absurd (apart refl)
joined_type Rem ty.Int ty.Bool t apart e = absurd cc
joined_type Rem ty.Int ty.List t apart e = absurd cc
joined_type Rem ty.Int ty.Text t apart e = absurd cc
joined_type Rem ty.Bool ty.Int t apart e = absurd (apart refl)
joined_type Rem ty.Bool ty.Bool t apart e = absurd cc
joined_type Rem ty.Bool ty.List t apart e = absurd cc
joined_type Rem ty.Bool ty.Text t apart e = absurd cc
joined_type Rem ty.List ty.Int t apart e = absurd (apart refl)
joined_type Rem ty.List ty.Bool t apart e = absurd cc
joined_type Rem ty.List ty.List t apart e = absurd cc
joined_type Rem ty.List ty.Text t apart e = absurd cc
joined_type Rem ty.Text ty.Int t apart e = absurd (apart refl)
joined_type Rem ty.Text ty.Bool t apart e = absurd cc
joined_type Rem ty.Text ty.List t apart e = absurd cc
joined_type Rem ty.Text ty.Text t apart e = absurd cc
joined_type Power ty.Int ty.Int t apart e = absurd (apart refl)
joined_type Power ty.Int ty.Bool t apart e = absurd cc
joined_type Power ty.Int ty.List t apart e = absurd cc
joined_type Power ty.Int ty.Text t apart e = absurd cc
joined_type Power ty.Bool ty.Int t apart e = absurd (apart refl)
joined_type Power ty.Bool ty.Bool t apart e = absurd cc
joined_type Power ty.Bool ty.List t apart e = absurd cc
joined_type Power ty.Bool ty.Text t apart e = absurd cc
joined_type Power ty.List ty.Int t apart e = absurd (apart refl)
joined_type Power ty.List ty.Bool t apart e = absurd cc
joined_type Power ty.List ty.List t apart e = absurd cc
joined_type Power ty.List ty.Text t apart e = absurd cc
joined_type Power ty.Text ty.Int t apart e = absurd (apart refl)
joined_type Power ty.Text ty.Bool t apart e = absurd cc
joined_type Power ty.Text ty.List t apart e = absurd cc
joined_type Power ty.Text ty.Text t apart e = absurd cc

pub negative_is : (s : Ty) → IsSome (negative_type s) → s ≡ ty.Int
negative_is ty.Int h = refl
negative_is ty.Bool h = absurd cc
negative_is ty.List h = absurd cc
negative_is ty.Text h = absurd cc

pub order_is : (s u : Ty) → IsSome (order_type s u) → (s ≡ ty.Int) × (u ≡ ty.Int)
order_is ty.Int ty.Int h = (refl, refl)
order_is ty.Int ty.Bool h = absurd cc
order_is ty.Int ty.List h = absurd cc
order_is ty.Int ty.Text h = absurd cc
order_is ty.Bool ty.Int h = absurd cc
order_is ty.Bool ty.Bool h = absurd cc
order_is ty.Bool ty.List h = absurd cc
order_is ty.Bool ty.Text h = absurd cc
order_is ty.List ty.Int h = absurd cc
order_is ty.List ty.Bool h = absurd cc
order_is ty.List ty.List h = absurd cc
order_is ty.List ty.Text h = absurd cc
order_is ty.Text ty.Int h = absurd cc
order_is ty.Text ty.Bool h = absurd cc
order_is ty.Text ty.List h = absurd cc
order_is ty.Text ty.Text h = absurd cc

pub equal_is : (s u : Ty) → IsSome (equal_type s u) → u ≡ s
equal_is ty.Int ty.Int h = refl
equal_is ty.Int ty.Bool h = absurd cc
equal_is ty.Int ty.List h = absurd cc
equal_is ty.Int ty.Text h = absurd cc
equal_is ty.Bool ty.Int h = absurd cc
equal_is ty.Bool ty.Bool h = refl
equal_is ty.Bool ty.List h = absurd cc
equal_is ty.Bool ty.Text h = absurd cc
equal_is ty.List ty.Int h = absurd cc
equal_is ty.List ty.Bool h = absurd cc
equal_is ty.List ty.List h = refl
equal_is ty.List ty.Text h = absurd cc
equal_is ty.Text ty.Int h = absurd cc
equal_is ty.Text ty.Bool h = absurd cc
equal_is ty.Text ty.List h = absurd cc
equal_is ty.Text ty.Text h = refl

pub member_is : (s u : Ty) → IsSome (member_type s u) → (s ≡ ty.Int) × (u ≡ ty.List) ⊎ (s ≡ ty.Text) × (u ≡ ty.Text)
member_is ty.Int ty.Int h = absurd cc
member_is ty.Int ty.Bool h = absurd cc
member_is ty.Int ty.List h = inl (refl, refl)
member_is ty.Int ty.Text h = absurd cc
member_is ty.Bool ty.Int h = absurd cc
member_is ty.Bool ty.Bool h = absurd cc
member_is ty.Bool ty.List h = absurd cc
member_is ty.Bool ty.Text h = absurd cc
member_is ty.List ty.Int h = absurd cc
member_is ty.List ty.Bool h = absurd cc
member_is ty.List ty.List h = absurd cc
member_is ty.List ty.Text h = absurd cc
member_is ty.Text ty.Int h = absurd cc
member_is ty.Text ty.Bool h = absurd cc
member_is ty.Text ty.List h = absurd cc
member_is ty.Text ty.Text h = inr (refl, refl)

pub index_is : (s u t : Ty) → index_type s u ≡ Some t → (u ≡ ty.Int) × (member_of s ≡ Some t)
index_is s ty.Int t e = (refl, e)
index_is s ty.Bool t e = absurd cc
index_is s ty.List t e = absurd cc
index_is s ty.Text t e = absurd cc

pub slice_is : (s t : Ty) → slice_type s ≡ Some t → (t ≡ s) × IsSequenceType s
slice_is ty.Int t e = absurd cc
slice_is ty.Bool t e = absurd cc
slice_is ty.List t e = (cc, refl)
slice_is ty.Text t e = (cc, refl)

pub both_truth : (s u t : Ty) → both_are ty.Bool s u ≡ Some t → (s ≡ ty.Bool) × (u ≡ ty.Bool) × (t ≡ ty.Bool)
both_truth ty.Int ty.Int t e = absurd cc
both_truth ty.Int ty.Bool t e = absurd cc
both_truth ty.Int ty.List t e = absurd cc
both_truth ty.Int ty.Text t e = absurd cc
both_truth ty.Bool ty.Int t e = absurd cc
both_truth ty.Bool ty.Bool t e = (refl, refl, cc)
both_truth ty.Bool ty.List t e = absurd cc
both_truth ty.Bool ty.Text t e = absurd cc
both_truth ty.List ty.Int t e = absurd cc
both_truth ty.List ty.Bool t e = absurd cc
both_truth ty.List ty.List t e = absurd cc
both_truth ty.List ty.Text t e = absurd cc
both_truth ty.Text ty.Int t e = absurd cc
both_truth ty.Text ty.Bool t e = absurd cc
both_truth ty.Text ty.List t e = absurd cc
both_truth ty.Text ty.Text t e = absurd cc

pub choice_is : (s u t : Ty) → choice_type s u ≡ Some t → (u ≡ s) × (t ≡ s)
choice_is ty.Int ty.Int t e = (refl, cc)
choice_is ty.Int ty.Bool t e = absurd cc
choice_is ty.Int ty.List t e = absurd cc
choice_is ty.Int ty.Text t e = absurd cc
choice_is ty.Bool ty.Int t e = absurd cc
choice_is ty.Bool ty.Bool t e = (refl, cc)
choice_is ty.Bool ty.List t e = absurd cc
choice_is ty.Bool ty.Text t e = absurd cc
choice_is ty.List ty.Int t e = absurd cc
choice_is ty.List ty.Bool t e = absurd cc
choice_is ty.List ty.List t e = (refl, cc)
choice_is ty.List ty.Text t e = absurd cc
choice_is ty.Text ty.Int t e = absurd cc
choice_is ty.Text ty.Bool t e = absurd cc
choice_is ty.Text ty.List t e = absurd cc
choice_is ty.Text ty.Text t e = (refl, cc)

pub member_sequence : (s u : Ty) → IsSome (member_type s u) → IsSequenceType u
member_sequence ty.Int ty.Int h = absurd cc
member_sequence ty.Int ty.Bool h = absurd cc
member_sequence ty.Int ty.List h = refl
member_sequence ty.Int ty.Text h = absurd cc
member_sequence ty.Bool ty.Int h = absurd cc
member_sequence ty.Bool ty.Bool h = absurd cc
member_sequence ty.Bool ty.List h = absurd cc
member_sequence ty.Bool ty.Text h = absurd cc
member_sequence ty.List ty.Int h = absurd cc
member_sequence ty.List ty.Bool h = absurd cc
member_sequence ty.List ty.List h = absurd cc
member_sequence ty.List ty.Text h = absurd cc
member_sequence ty.Text ty.Int h = absurd cc
member_sequence ty.Text ty.Bool h = absurd cc
member_sequence ty.Text ty.List h = absurd cc
member_sequence ty.Text ty.Text h = refl
