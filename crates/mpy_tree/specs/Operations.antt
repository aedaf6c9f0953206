-- What each operator gives. Numbers have no limit here; a result is compared with the width.
use Rattle.std.specs.Prelude.{ℕ, zero, suc, ◌+◌, ◌-◌, ◌/◌, ◌^◌, min, Bool, true, false, not, ◌&&◌}
use Rattle.std.specs.Prelude.{◌||◌, ◌==◌, List, [], ◌∷◌, ◌++◌, length, map, take, drop, slice_get}
use Rattle.std.specs.Prelude.{slice_set, Option, Some, None, nat_lt, nat_le, if◌then◌else◌, ℤ, pos}
use Rattle.std.specs.Prelude.{negsuc, ◌+ℤ◌, ◌-ℤ◌, ◌*ℤ◌, neg_ℤ, nat_abs, int_lt, int_le}
use Rattle.std.specs.Cmp.Lexicographic.{pointwise}
use Rattle.std.specs.Ordering.{int_eq}
use Rattle.std.specs.Int.{int_min, int_max, int_pow}
use Rattle.std.specs.declared.result.Result.{Result}
use Rattle.std.specs.declared.result.Result.TheVariants.{Ok, Err}
use Rattle.mpy_tree.specs.declared.limits.Limits.{Limits}
use Rattle.mpy_tree.specs.declared.value.Value.{Value}
use Rattle.mpy_tree.specs.declared.value.Value.TheVariants.{Int, Bool as Truth, List as Items, Text}
use Rattle.mpy_tree.specs.declared.operators.ArithOp.{ArithOp}
use Rattle.mpy_tree.specs.declared.operators.ArithOp.TheVariants.{Add, Sub, Mul, Floor, Rem, Power}
use Rattle.mpy_tree.specs.declared.operators.CmpOp.{CmpOp}
use Rattle.mpy_tree.specs.declared.operators.CmpOp.TheVariants.{Eq, Ne, Lt, Le, Gt, Ge, Member}
use Rattle.mpy_tree.specs.declared.operators.CmpOp.TheVariants.{NotMember}
use Rattle.mpy_tree.specs.declared.outcome.FaultKind.TheVariants as fault
use Rattle.mpy_tree.specs.declared.outcome.Halt.{Halt}
use Rattle.mpy_tree.specs.declared.outcome.Halt.TheVariants.{Fault, Stuck}
use Rattle.mpy_tree.specs.Values.{◌>>=◌, same_bytes}

-- whether a number is from -2^(width-1) to 2^(width-1) - 1
abbrev pub fits_width : ℕ → ℤ → Bool
fits_width width (pos n) = nat_lt n (2 ^ (width - 1))
fits_width width (negsuc n) = nat_lt n (2 ^ (width - 1))

abbrev pub fits : Limits → ℤ → Bool
fits l = fits_width l.width

abbrev pub number : Limits → ℤ → Result Value Halt
number l z = if fits l z then Ok (Int z) else Err (Fault fault.Overflow)

-- at most `cap` numbers or characters
abbrev pub list_within : Limits → List ℤ → Result Value Halt
list_within l xs = if nat_le (length xs) l.cap then Ok (Items xs) else Err (Fault fault.Length)

abbrev pub text_within : Limits → List ℕ → Result Value Halt
text_within l cs = if nat_le (length cs) l.cap then Ok (Text cs) else Err (Fault fault.Length)

-- the quotient, rounded towards minus infinity
abbrev pub floor : ℤ → ℤ → ℤ
floor (pos a) (pos b) = pos (a / b)
floor (negsuc a) (pos b) = negsuc (a / b)
floor (pos zero) (negsuc b) = pos 0
floor (pos (suc a)) (negsuc b) = negsuc (a / suc b)
floor (negsuc a) (negsuc b) = pos (suc a / suc b)

abbrev pub is_zero : ℤ → Bool
is_zero (pos zero) = true
is_zero (pos (suc n)) = false
is_zero (negsuc n) = false

abbrev pub quotient : Limits → ℤ → ℤ → Result Value Halt
quotient l a b = if is_zero b then Err (Fault fault.Divisor) else number l (floor a b)

abbrev pub remainder : Limits → ℤ → ℤ → Result Value Halt
remainder l a b = if is_zero b then Err (Fault fault.Divisor) else number l (a -ℤ (b *ℤ floor a b))

abbrev pub power : Limits → ℤ → ℤ → Result Value Halt
power l a (pos n) = number l (int_pow a n)
power l a (negsuc n) = Err (Fault fault.Power)

-- so many copies; a repetition makes none for a number below 1
abbrev pub copies : {A : Type 0} → ℕ → List A → List A
copies zero xs = []
copies (suc n) xs = xs ++ copies n xs

abbrev pub copy_count : ℤ → ℕ
copy_count (pos n) = n
copy_count (negsuc n) = 0

abbrev pub repeated : {A : Type 0} → List A → ℤ → List A
repeated xs n = copies (copy_count n) xs

-- an operator that takes numbers alone
abbrev pub on_numbers : (ℤ → ℤ → Result Value Halt) → Value → Value → Result Value Halt
on_numbers f (Int a) (Int b) = f a b
on_numbers f _ _ = Err Stuck

abbrev pub sum : Limits → Value → Value → Result Value Halt
sum l (Int a) (Int b) = number l (a +ℤ b)
sum l (Items xs) (Items ys) = list_within l (xs ++ ys)
sum l (Text cs) (Text ds) = text_within l (cs ++ ds)
sum l _ _ = Err Stuck

abbrev pub product : Limits → Value → Value → Result Value Halt
product l (Int a) (Int b) = number l (a *ℤ b)
product l (Items xs) (Int n) = list_within l (repeated xs n)
product l (Text cs) (Int n) = text_within l (repeated cs n)
product l _ _ = Err Stuck

abbrev pub arith : Limits → ArithOp → Value → Value → Result Value Halt
arith l Add = sum l
arith l Sub = on_numbers (λ a b. number l (a -ℤ b))
arith l Mul = product l
arith l Floor = on_numbers (quotient l)
arith l Rem = on_numbers (remainder l)
arith l Power = on_numbers (power l)

abbrev pub negative : Limits → Value → Result Value Halt
negative l (Int a) = number l (neg_ℤ a)
negative l _ = Err Stuck

abbrev pub absolute : Limits → Value → Result Value Halt
absolute l (Int a) = number l (pos (nat_abs a))
absolute l _ = Err Stuck

-- 0, False and what is empty are false as a test
abbrev pub is_empty : {A : Type 0} → List A → Bool
is_empty [] = true
is_empty (x ∷ xs) = false

abbrev pub holds : Value → Bool
holds (Int z) = not (is_zero z)
holds (Truth b) = b
holds (Items xs) = not (is_empty xs)
holds (Text cs) = not (is_empty cs)

abbrev pub same_truth : Bool → Bool → Bool
same_truth true b = b
same_truth false b = not b

abbrev pub equal : Value → Value → Result Bool Halt
equal (Int a) (Int b) = Ok (int_eq a b)
equal (Truth a) (Truth b) = Ok (same_truth a b)
equal (Items a) (Items b) = Ok (pointwise int_eq a b)
equal (Text a) (Text b) = Ok (same_bytes a b)
equal _ _ = Err Stuck

abbrev pub ordered : (ℤ → ℤ → Bool) → Value → Value → Result Bool Halt
ordered f (Int a) (Int b) = Ok (f a b)
ordered f _ _ = Err Stuck

abbrev pub has_number : ℤ → List ℤ → Bool
has_number z [] = false
has_number z (x ∷ xs) = int_eq z x || has_number z xs

-- cs stands at the front of ds
abbrev pub is_front : List ℕ → List ℕ → Bool
is_front [] ds = true
is_front (c ∷ cs) [] = false
is_front (c ∷ cs) (d ∷ ds) = (c == d) && is_front cs ds

-- cs stands somewhere in ds
abbrev pub is_part : List ℕ → List ℕ → Bool
is_part cs [] = is_empty cs
is_part cs (d ∷ ds) = is_front cs (d ∷ ds) || is_part cs ds

abbrev pub member : Value → Value → Result Bool Halt
member (Int z) (Items xs) = Ok (has_number z xs)
member (Text cs) (Text ds) = Ok (is_part cs ds)
member _ _ = Err Stuck

abbrev pub opposite : Result Bool Halt → Result Bool Halt
opposite r = r >>= λ b. Ok (not b)

abbrev pub compare : CmpOp → Value → Value → Result Bool Halt
compare Eq x y = equal x y
compare Ne x y = opposite (equal x y)
compare Lt x y = ordered int_lt x y
compare Le x y = ordered int_le x y
compare Gt x y = ordered int_lt y x
compare Ge x y = ordered int_le y x
compare Member x y = member x y
compare NotMember x y = opposite (member x y)

abbrev pub truth : Result Bool Halt → Result Value Halt
truth r = r >>= λ b. Ok (Truth b)

-- the place of the index i among n elements
abbrev pub index_in : ℤ → ℕ → Option ℕ
index_in (pos i) n = if nat_lt i n then Some i else None
index_in (negsuc i) n = if nat_lt i n then Some (n - suc i) else None

abbrev pub element_or_fault : {A : Type 0} → Option A → Result A Halt
element_or_fault None = Err (Fault fault.Index)
element_or_fault (Some x) = Ok x

abbrev pub element : {A : Type 0} → Option ℕ → List A → Result A Halt
element None xs = Err (Fault fault.Index)
element (Some k) xs = element_or_fault (slice_get xs k)

abbrev pub index : Value → Value → Result Value Halt
index (Items xs) (Int i) = element (index_in i (length xs)) xs >>= λ z. Ok (Int z)
index (Text cs) (Int i) = element (index_in i (length cs)) cs >>= λ c. Ok (Text (c ∷ []))
index _ _ = Err Stuck

-- an end of a slice of a list of length n
abbrev pub cut_at : ℤ → ℕ → ℕ
cut_at (pos i) n = min i n
cut_at (negsuc i) n = n - suc i

abbrev pub end_or : ℕ → Option ℤ → ℕ → ℕ
end_or d None n = d
end_or d (Some i) n = cut_at i n

abbrev pub cut : {A : Type 0} → List A → Option ℤ → Option ℤ → List A
cut xs a b =
    let n = length xs in
    let from = end_or 0 a n in
    take (end_or n b n - from) (drop from xs)

abbrev pub slice : Value → Option ℤ → Option ℤ → Result Value Halt
slice (Items xs) a b = Ok (Items (cut xs a b))
slice (Text cs) a b = Ok (Text (cut cs a b))
slice _ a b = Err Stuck

-- a number as an end of a slice or a range, or as an index
abbrev pub whole : Value → Result ℤ Halt
whole (Int z) = Ok z
whole _ = Err Stuck

abbrev pub length_of : Limits → Value → Result Value Halt
length_of l (Items xs) = number l (pos (length xs))
length_of l (Text cs) = number l (pos (length cs))
length_of l _ = Err Stuck

-- a stands before the end b for the step c
abbrev pub before : ℤ → ℤ → ℤ → Bool
before (pos c) a b = int_lt a b
before (negsuc c) a b = int_lt b a

-- how far the end b lies ahead of a for the step c; 0 where it doesn't
abbrev pub ahead : ℤ → ℤ → ℤ → ℕ
ahead a b c = if before c a b then nat_abs (b -ℤ a) else 0

-- how many of a, a + c, .. stand before b: the distance by the step, rounded up
abbrev pub range_count : ℤ → ℤ → ℤ → ℕ
range_count a b c = (ahead a b c + (nat_abs c - 1)) / nat_abs c

-- the numbers from 0 below n
abbrev pub below : ℕ → List ℕ
below zero = []
below (suc n) = below n ++ n ∷ []

-- the first n of a, a + c, ..: the one at the place k is a + c * k
abbrev pub progression : ℤ → ℤ → ℕ → List ℤ
progression a c n = map (λ k. a +ℤ (c *ℤ pos k)) (below n)

abbrev pub range : Limits → ℤ → ℤ → ℤ → Result Value Halt
range l a b c =
    let n = range_count a b c in
    if is_zero c then Err (Fault fault.Step)
    else if nat_le n l.cap then Ok (Items (progression a c n))
    else Err (Fault fault.Length)

-- a list with one number replaced, or one more
abbrev pub replaced : List ℤ → Value → Option ℕ → Result Value Halt
replaced xs v None = Err (Fault fault.Index)
replaced xs v (Some k) = whole v >>= λ z. Ok (Items (slice_set xs k z))

abbrev pub put : Value → Value → Value → Result Value Halt
put (Items xs) (Int i) v = replaced xs v (index_in i (length xs))
put _ _ _ = Err Stuck

abbrev pub append : Limits → Value → Value → Result Value Halt
append l (Items xs) (Int z) = list_within l (xs ++ z ∷ [])
append l _ _ = Err Stuck

-- the members that a `for` goes over
abbrev pub numbers : List ℤ → List Value
numbers = map Int

abbrev pub character : ℕ → Value
character c = Text (c ∷ [])

abbrev pub characters : List ℕ → List Value
characters = map character

abbrev pub members : Value → Result (List Value) Halt
members (Items xs) = Ok (numbers xs)
members (Text cs) = Ok (characters cs)
members _ = Err Stuck

-- `min` and `max`
abbrev pub least : Value → Value → Result Value Halt
least = on_numbers (λ a b. Ok (Int (int_min a b)))

abbrev pub greatest : Value → Value → Result Value Halt
greatest = on_numbers (λ a b. Ok (Int (int_max a b)))
