-- Division that rounds towards minus infinity, by what std's methods give.
use Rattle.std.proofs.Common.{◌≡◌, ℕ, zero, suc, refl, true, false, arith, ℤ, pos, negsuc, ◌-ℤ◌, ◌*ℤ◌, neg_ℤ}
use Rattle.std.proofs.lemmas.Int.{ints}
use Rattle.std.specs.Prelude.{int_lt}
use Rattle.std.specs.Int.{int_rem_euclid}
use Rattle.mpy_tree.specs.Operations.{floor}

rest_negative : (a : ℤ) (n : ℕ) → neg_ℤ (int_rem_euclid (neg_ℤ a) (pos (suc n))) ≡ a -ℤ (negsuc n *ℤ floor a (negsuc n))
rest_negative (pos zero) n = grind (arith, ints)
rest_negative (pos (suc k)) n = grind (arith, ints)
rest_negative (negsuc k) n = grind (arith, ints)

-- the remainder for a divisor below zero
pub rest_below : (a b : ℤ) → int_lt (pos 0) b ≡ false → (b ≡ pos 0 → ⊥) → neg_ℤ (int_rem_euclid (neg_ℤ a) (neg_ℤ b)) ≡ a -ℤ (b *ℤ floor a b)
rest_below a (pos zero) below nonzero = absurd (nonzero refl)
rest_below a (pos (suc n)) below nonzero = grind (arith, ints)
rest_below a (negsuc n) below nonzero = rest_negative a n

-- the remainder for a divisor above zero
pub rest_above : (a b : ℤ) → int_lt (pos 0) b ≡ true → int_rem_euclid a b ≡ a -ℤ (b *ℤ floor a b)
rest_above a (pos zero) above = grind (arith, ints)
rest_above (pos k) (pos (suc n)) above = grind (arith, ints)
rest_above (negsuc k) (pos (suc n)) above = grind (arith, ints)
rest_above a (negsuc n) above = grind (arith, ints)
