-- The four texts of a sample, by its number.
use Rattle.std.specs.Prelude.{ℕ, zero, suc, ◌+◌, ◌*◌, ◌/◌, ◌%◌, ◌==◌, Bool, ◌&&◌}
use Rattle.std.specs.Prelude.{if◌then◌else◌, List, [], ◌++◌, ℤ, pos, ◌-ℤ◌, codes}
use Rattle.std.specs.Fmt.{decimal, signed_decimal}
use Rattle.std.specs.Int.{bit_at}

abbrev pub bounds_text : List ℕ
bounds_text =
    codes "width 9\nturns 1\ndepth 1\ncap 1\n"
    ++ codes "entry f\nparam x int -8..7\n"

abbrev pub rules_text : List ℕ
rules_text = codes "rule side: $a0 <= $a1 => $a0 < $a1\n"

-- with what a block of a program compares x, and what it adds
abbrev pub limit_at : ℕ → ℕ → ℤ
limit_at number i = pos ((7 * i + number) % 9) -ℤ pos 4

abbrev pub amount_at : ℕ → ℕ → ℕ
amount_at number i = 1 + (3 * i + number) % 5

-- the text of a block
abbrev pub block_text : List ℕ → ℕ → ℕ → List ℕ
block_text operator number i =
    codes "    if x " ++ operator ++ codes " " ++ signed_decimal (limit_at number i) ++ codes ":\n"
    ++ codes "        t = t + " ++ decimal (amount_at number i) ++ codes "\n"

-- the texts of the first k blocks, each with its operator
unfoldable pub blocks_text : (ℕ → List ℕ) → ℕ → ℕ → List ℕ
blocks_text operator number zero = []
blocks_text operator number (suc k) =
    blocks_text operator number k ++ block_text (operator k) number k

-- 40 blocks, and their sum is returned
abbrev pub program_text : (ℕ → List ℕ) → ℕ → List ℕ
program_text operator number =
    codes "def f(x):\n    t = 0\n" ++ blocks_text operator number 40 ++ codes "    return t\n"

abbrev pub reference_text : ℕ → List ℕ
reference_text number = program_text (λ i. codes "<") number

-- the block 5 * j + 4 is wrong where bit j of the number is 1, the lowest bit being bit 0
abbrev pub is_wrong : ℕ → ℕ → Bool
is_wrong number i = i % 5 == 4 && bit_at number (i / 5) == 1

abbrev pub submission_text : ℕ → List ℕ
submission_text number =
    program_text (λ i. if is_wrong number i then codes "<=" else codes "<") number
