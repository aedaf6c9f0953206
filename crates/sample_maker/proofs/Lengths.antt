-- The texts of a sample are short.
use Rattle.std.specs.Prelude.{◌≡◌, ◌≤◌, ◌<◌, ◌^◌, ℕ, zero, suc, ◌+◌, ◌*◌, ◌%◌, List, ◌++◌, length, codes, if◌then◌else◌, true, false, ℤ, pos, ◌-ℤ◌, Bool}
use Rattle.std.specs.Fmt.{decimal, signed_decimal}
use Rattle.std.proofs.Common.{arith, length-append, ap}
use lib.Signed.{mag}
use Rattle.std.proofs.lemmas.Fmt.{length-decimal-le, length_signed_le}
use Rattle.sample_maker.specs.Samples.{amount_at, block_text, blocks_text, bounds_text, is_wrong, limit_at, program_text, reference_text, rules_text, submission_text}

-- a limit has two characters at most
small_limit : (n : ℕ) → n < 9 → mag (pos n -ℤ pos 4) + 1 < 10 ^ 2
small_limit zero h = omega arith
small_limit (suc zero) h = omega arith
small_limit (suc (suc zero)) h = omega arith
small_limit (suc (suc (suc zero))) h = omega arith
small_limit (suc (suc (suc (suc zero)))) h = omega arith
small_limit (suc (suc (suc (suc (suc zero))))) h = omega arith
small_limit (suc (suc (suc (suc (suc (suc zero)))))) h = omega arith
small_limit (suc (suc (suc (suc (suc (suc (suc zero))))))) h = omega arith
small_limit (suc (suc (suc (suc (suc (suc (suc (suc zero)))))))) h = omega arith
small_limit (suc (suc (suc (suc (suc (suc (suc (suc (suc n))))))))) h = absurd (omega arith)

limit_short : (number i : ℕ) → length (signed_decimal (limit_at number i)) ≤ 3
limit_short number i =
    let small = small_limit ((7 * i + number) % 9) (omega arith) in
    length_signed_le 2 (limit_at number i) small (omega (arith, small))

amount_short : (number i : ℕ) → length (decimal (amount_at number i)) ≤ 1
amount_short number i = length-decimal-le 1 (amount_at number i) (omega arith) (omega arith) (omega arith)

block_short : (operator : List ℕ) (number i : ℕ) → length operator ≤ 2 → length (block_text operator number i) ≤ 60
block_short operator number i short =
    let limit = signed_decimal (limit_at number i) in
    let amount = decimal (amount_at number i) in
    let a = operator ++ codes " " in
    let b = a ++ limit in
    let c = b ++ codes ":\n" in
    let d = c ++ codes "        t = t + " in
    let e = d ++ amount in
    omega (
      arith,
      short,
      limit_short number i,
      amount_short number i,
      length-append operator (codes " "),
      length-append a limit,
      length-append b (codes ":\n"),
      length-append c (codes "        t = t + "),
      length-append d amount,
      length-append e (codes "\n"),
    )

blocks_short : (operator : ℕ → List ℕ) (number k : ℕ) → ((i : ℕ) → length (operator i) ≤ 2) → length (blocks_text operator number k) ≤ 60 * k
unfolding blocks_text
blocks_short operator number zero short = omega arith
blocks_short operator number (suc k) short =
    omega (arith, blocks_short operator number k short, block_short (operator k) number k (short k), length-append (blocks_text operator number k) (block_text (operator k) number k))

program_short : (operator : ℕ → List ℕ) (number : ℕ) → ((i : ℕ) → length (operator i) ≤ 2) → length (program_text operator number) ≤ 65536
program_short operator number short =
    let blocks = blocks_text operator number 40 in
    omega (
      arith,
      blocks_short operator number 40 short,
      length-append blocks (codes "    return t\n"),
    )

pub reference_short : (number : ℕ) → length (reference_text number) ≤ 65536
reference_short number = program_short (λ i. codes "<") number (λ i. omega arith)

either_short : (wrong : Bool) → length (if wrong then codes "<=" else codes "<") ≤ 2
either_short true = omega arith
either_short false = omega arith

pub submission_short : (number : ℕ) → length (submission_text number) ≤ 65536
submission_short number = program_short (λ i. if is_wrong number i then codes "<=" else codes "<") number (λ i. either_short (is_wrong number i))

pub bounds_short : length bounds_text ≤ 65536
bounds_short = omega arith

pub rules_short : length rules_text ≤ 65536
rules_short = omega arith
