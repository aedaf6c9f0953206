use Rattle.std.proofs.Common.{◌≡◌, ◌<◌, ◌≤◌, ◌∙◌, ◌-◌, ◌^◌, ℕ, ap, sym, List, Bool, length, map, true, not, arith, subst, refl}
use Rattle.std.specs.Prelude.{pos, ◌+ℤ◌}
use Rattle.std.specs.Int.RustNames.{unsigned_abs}
use Rattle.std.proofs.lemmas.List.{length-map}
use Rattle.bit_words.specs.Bits.{differ}
use Rattle.bit_words.specs.Logic.{extends_trans}
use Rattle.bit_words.specs.Words.{bit_value, int_of, int_read, nat_of, is_within, is_negative}
use Rattle.bit_words.specs.Operations.{by_positive, floor_remainder}
use Rattle.bit_words.proofs.Kept.{reads_kept, owns_kept}
use Rattle.bit_words.proofs.Floors.{abs_half, own_fits, remainder_fits, remainder_is, some_abs, small_int, complemented, int_masked, zero_tests}
use Rattle.bit_words.proofs.floor.rem.Given as given
use Rattle.bit_words.proofs.floor.rem.Goals as goal

fits_width : (g : given.Over) (c : goal.After-drop-divided-3 g) (vs : List Bool) →
    is_within (2 ^ (length c.args.a.now - 1)) (floor_remainder (int_read g.L.Logic.reads c.args.g.now vs c.args.a.now) (int_read g.L.Logic.reads c.args.g.now vs c.args.b.now)) ≡ true
fits_width g c vs =
    let first = g.L.Logic.reads c.args.g.now vs in
    let more = c.in_ok-divided.ensures in
    let left : length (map first c.args.a.now) ≡ length c.args.a.now = simp length-map refl in
    let right : length (map first c.args.b.now) ≡ length c.args.a.now = simp length-map c.requires.alike in
    let own = subst (λ (k : ℕ). is_within (2 ^ (k - 1)) (int_of (map first c.args.a.now)) ≡ true) left (own_fits (map first c.args.a.now) (rw left c.requires.long)) in
    let half = subst (λ (k : ℕ). unsigned_abs (int_of (map first c.args.b.now)) ≤ 2 ^ (k - 1)) right (abs_half (map first c.args.b.now) (rw right c.requires.long)) in
    remainder_fits (2 ^ (length c.args.a.now - 1)) (int_of (map first c.args.a.now)) (int_of (map first c.args.b.now)) _ _ own half (more.rest vs) (more.quotient vs)

pub returns-clause-none : goal.returns-clause-none
returns-clause-none g c vs =
    let steps = extends_trans c.xor.ensures.extends (extends_trans c.mask.ensures.extends (extends_trans c.flip_where.ensures.extends c.signed_sum.ensures.extends)) in
    steps.same _ c.in_ok-divided.ensures.owned_none vs ∙ c.in_ok-divided.ensures.none vs ∙ zero_tests (int_read g.L.Logic.reads c.args.g.now vs c.args.b.now)

pub returns-clause-over : goal.returns-clause-over
returns-clause-over g c vs = c.constant-over.ensures.value vs ∙ ap not (sym (fits_width g c vs))

pub returns-clause-value : goal.returns-clause-value
returns-clause-value g c vs nonzero =
    let reads = g.L.Logic.reads in
    let first = reads c.args.g.now vs in
    let a = int_of (map first c.args.a.now) in
    let b = int_of (map first c.args.b.now) in
    let more = c.in_ok-divided.ensures in
    let divided = c.in_ok-divided.divided in
    let some = some_abs b nonzero in
    let d = more.rest vs some in
    let one = c.divide_folded.ensures.extends in
    let two = c.xor.ensures.extends in
    let three = c.mask.ensures.extends in
    let four = c.flip_where.ensures.extends in
    let sign = more.sign vs in
    let divisor = reads_kept one c.requires.right vs in
    let below = c.sign_of-below.ensures.value vs ∙ ap (λ v. is_negative (int_of v)) divisor in
    let turn = rw (sign, below) at (c.in_ok-turn.ensures.value vs) in
    let sign_kept = two.same _ more.owned_sign vs ∙ sign in
    let divisor_kept = reads_kept (extends_trans one two) c.requires.right vs in
    let part = ap int_of (rw (sign_kept, divisor_kept) at (c.in_ok-part.ensures.value vs)) ∙ int_masked (is_negative (by_positive a b)) (map first c.args.b.now) in
    let part_kept = ap int_of (reads_kept four c.in_ok-part.ensures.made.owned vs) ∙ part in
    let turn_kept = three.same _ c.in_ok-turn.ensures.owned vs ∙ turn in
    let rest = map (reads c.divide_folded.new.g vs) divided.rest in
    let rest_kept = reads_kept (extends_trans two three) more.owned_rest vs in
    let long : length rest ≡ length c.args.a.now = simp length-map more.width_rest in
    let width : length (map first c.args.b.now) ≡ length rest = simp length-map (c.requires.alike ∙ sym more.width_rest) in
    let half = subst (λ (k : ℕ). unsigned_abs b ≤ 2 ^ (k - 1)) width (abs_half (map first c.args.b.now) (rw (width, long) c.requires.long)) in
    let small : nat_of rest < 2 ^ (length rest - 1) = omega (arith, d.below, half) in
    let number = small_int rest (rw long c.requires.long) small in
    let flipped = ap int_of (rw (turn_kept, rest_kept) at (c.in_ok-flipped.ensures.value vs)) ∙ complemented (differ (is_negative (by_positive a b)) (is_negative b)) rest (nat_of rest) (rw long c.requires.long) number in
    let below_kept = (extends_trans two (extends_trans three four)).same _ c.sign_of-below.ensures.owned vs ∙ below in
    let z : int_read reads c.flip_where.new.g vs c.in_ok-part.part +ℤ int_read reads c.flip_where.new.g vs c.in_ok-flipped.flipped +ℤ pos (bit_value (reads c.flip_where.new.g vs c.sign_of-below.result)) ≡ floor_remainder a b
    = rw (part_kept, flipped, below_kept) (remainder_is a b (nat_of (map (reads c.divide_folded.new.g vs) divided.quotient)) (nat_of rest) (more.quotient vs) d) in
    let size : length c.in_ok-part.part ≡ length c.args.a.now = c.in_ok-part.ensures.made.width ∙ c.requires.alike in
    c.in_ok-number.ensures.value vs (rw (size, z) (fits_width g c vs)) ∙ z

pub sign_of-below-requires : goal.sign_of-below-requires
sign_of-below-requires g c = record { some = omega arith; word = owns_kept c.divide_folded.ensures.extends c.requires.right }

pub xor-requires : goal.xor-requires
xor-requires g c = record { left = c.in_ok-divided.ensures.owned_sign; right = c.sign_of-below.ensures.owned }

pub returns-in_err-turn-clause-extends : goal.returns-in_err-turn-clause-extends
returns-in_err-turn-clause-extends g c = extends_trans c.divide_folded.ensures.extends c.xor.ensures.extends

pub mask-requires : goal.mask-requires
mask-requires g c = record { test = c.xor.ensures.extends.kept _ c.in_ok-divided.ensures.owned_sign; word = owns_kept (extends_trans c.divide_folded.ensures.extends c.xor.ensures.extends) c.requires.right }

pub returns-in_err-part-clause-extends : goal.returns-in_err-part-clause-extends
returns-in_err-part-clause-extends g c = extends_trans c.divide_folded.ensures.extends (extends_trans c.xor.ensures.extends c.mask.ensures.extends)

pub flip_where-requires : goal.flip_where-requires
flip_where-requires g c = record { test = c.mask.ensures.extends.kept _ c.in_ok-turn.ensures.owned; word = owns_kept (extends_trans c.xor.ensures.extends c.mask.ensures.extends) c.in_ok-divided.ensures.owned_rest }

pub returns-in_err-flipped-clause-extends : goal.returns-in_err-flipped-clause-extends
returns-in_err-flipped-clause-extends g c = extends_trans c.divide_folded.ensures.extends (extends_trans c.xor.ensures.extends (extends_trans c.mask.ensures.extends c.flip_where.ensures.extends))

pub signed_sum-requires : goal.signed_sum-requires
signed_sum-requires g c = record { some = omega (arith, c.in_ok-part.ensures.made.width); alike = omega (arith, c.in_ok-part.ensures.made.width, c.in_ok-flipped.ensures.made.width, c.in_ok-divided.ensures.width_rest); left = owns_kept c.flip_where.ensures.extends c.in_ok-part.ensures.made.owned; right = c.in_ok-flipped.ensures.made.owned; carry = (extends_trans c.xor.ensures.extends (extends_trans c.mask.ensures.extends c.flip_where.ensures.extends)).kept _ c.sign_of-below.ensures.owned }

pub returns-in_err-number-clause-extends : goal.returns-in_err-number-clause-extends
returns-in_err-number-clause-extends g c = extends_trans c.divide_folded.ensures.extends (extends_trans c.xor.ensures.extends (extends_trans c.mask.ensures.extends (extends_trans c.flip_where.ensures.extends c.signed_sum.ensures.extends)))

pub returns-clause-extends : goal.returns-clause-extends
returns-clause-extends g c = extends_trans c.divide_folded.ensures.extends (extends_trans c.xor.ensures.extends (extends_trans c.mask.ensures.extends (extends_trans c.flip_where.ensures.extends c.signed_sum.ensures.extends)))

pub returns-clause-made : goal.returns-clause-made
returns-clause-made g c = record {
  owned = c.in_ok-number.ensures.made.owned;
  owned_over = c.constant-over.ensures.owned;
  owned_fault = (extends_trans c.xor.ensures.extends (extends_trans c.mask.ensures.extends (extends_trans c.flip_where.ensures.extends c.signed_sum.ensures.extends))).kept _ c.in_ok-divided.ensures.owned_none;
  width = c.in_ok-number.ensures.made.width ∙ c.in_ok-part.ensures.made.width ∙ c.requires.alike;
}
