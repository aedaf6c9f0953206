use Rattle.std.proofs.Common.{◌≡◌, ◌≤◌, ◌∙◌, ◌-◌, ◌^◌, ℕ, suc, eqb, Bool, List, ap, sym, length, map, take, arith, subst, length-take}
use Rattle.std.specs.Int.RustNames.{unsigned_abs}
use Rattle.std.proofs.lemmas.List.{length-map, take-map}
use Rattle.bit_words.specs.Logic.{OwnsAll, extends_trans}
use Rattle.bit_words.specs.Words.{nat_of, int_of, nat_read, int_read, is_negative}
use Rattle.bit_words.specs.Operations.{by_positive, folded}
use Rattle.bit_words.proofs.Kept.{reads_kept, owns_taken, owns_kept}
use Rattle.bit_words.proofs.Floors.{abs_half, turned_is, folded_nat}
use Rattle.bit_words.proofs.floor.divide_folded.Given as given
use Rattle.bit_words.proofs.floor.divide_folded.Goals as goal

pub divide-requires-clause-half : goal.divide-requires-clause-half
divide-requires-clause-half g c vs =
    let first = g.L.Logic.reads c.args.g.now vs in
    let steps = extends_trans c.negate_where.ensures.extends (extends_trans c.flip_where.ensures.extends c.is_zero.ensures.extends) in
    let size = ap nat_of (reads_kept steps c.in_ok-size.ensures.made.owned vs) ∙ c.in_ok-size.ensures.value vs in
    let bits = map first c.args.b.now in
    let long : length bits ≡ length c.in_ok-size.size = simp length-map (omega (arith, c.in_ok-size.ensures.made.width)) in
    rw size (subst (λ (k : ℕ). unsigned_abs (int_of bits) ≤ 2 ^ (k - 1)) long (abs_half bits (rw long (omega (arith, c.in_ok-size.ensures.made.width)))))

turned_is_by : (g : given.Over) (c : goal.After-drop-size-inside-2 g) (vs : List Bool) →
    int_read g.L.Logic.reads c.negate_where.new.g vs c.in_ok-turned.turned ≡ by_positive (int_read g.L.Logic.reads c.args.g.now vs c.args.a.now) (int_read g.L.Logic.reads c.args.g.now vs c.args.b.now)
turned_is_by g c vs =
    let one = c.magnitude.ensures.extends in
    let below = one.same _ c.sign_of-below.ensures.owned vs ∙ c.sign_of-below.ensures.value vs in
    let a = reads_kept one c.requires.left vs in
    rw (below, a) at (c.in_ok-turned.ensures.value vs) ∙ turned_is (int_read g.L.Logic.reads c.args.g.now vs c.args.a.now) (int_read g.L.Logic.reads c.args.g.now vs c.args.b.now)

sign_is_by : (g : given.Over) (c : goal.After-drop-size-inside-2 g) (vs : List Bool) →
    g.L.Logic.reads c.negate_where.new.g vs c.sign_of-sign.result ≡ is_negative (by_positive (int_read g.L.Logic.reads c.args.g.now vs c.args.a.now) (int_read g.L.Logic.reads c.args.g.now vs c.args.b.now))
sign_is_by g c vs = c.sign_of-sign.ensures.value vs ∙ ap is_negative (turned_is_by g c vs)

number_is : (g : given.Over) (c : goal.After-drop-size-inside-2 g) (vs : List Bool) →
    nat_read g.L.Logic.reads c.is_zero.new.g vs c.in_ok-number.number ≡ folded (by_positive (int_read g.L.Logic.reads c.args.g.now vs c.args.a.now) (int_read g.L.Logic.reads c.args.g.now vs c.args.b.now))
number_is g c vs =
    let reads = g.L.Logic.reads in
    let turned = reads c.negate_where.new.g vs in
    let flipped = reads c.flip_where.new.g vs in
    let width = c.len-width.result in
    let number = c.in_ok-number.ensures in
    let owned = subst (OwnsAll g.L.Logic.owns c.flip_where.new.g) (sym number) (owns_taken width c.in_ok-complement.ensures.made.owned) in
    let long : length (map turned c.in_ok-turned.turned) ≡ suc width = simp length-map (omega (arith, c.in_ok-turned.ensures.made.width)) in
    ap nat_of (reads_kept c.is_zero.ensures.extends owned vs) ∙ ap (λ w. nat_of (map flipped w)) number ∙ ap nat_of (sym (take-map flipped width c.in_ok-complement.complement))
    ∙ ap (λ (v : List Bool). nat_of (take width v)) (c.in_ok-complement.ensures.value vs)
    ∙ folded_nat (map turned c.in_ok-turned.turned) (turned c.sign_of-sign.result) width long (c.sign_of-sign.ensures.value vs)
    ∙ ap folded (turned_is_by g c vs)

size_is : (g : given.Over) (c : goal.After-drop-size-inside-2 g) (vs : List Bool) → nat_read g.L.Logic.reads c.is_zero.new.g vs c.in_ok-size.size ≡ unsigned_abs (int_read g.L.Logic.reads c.args.g.now vs c.args.b.now)
size_is g c vs =
    let steps = extends_trans c.negate_where.ensures.extends (extends_trans c.flip_where.ensures.extends c.is_zero.ensures.extends) in
    ap nat_of (reads_kept steps c.in_ok-size.ensures.made.owned vs) ∙ c.in_ok-size.ensures.value vs

pub returns-clause-sign : goal.returns-clause-sign
returns-clause-sign g c vs =
    let steps = extends_trans c.flip_where.ensures.extends (extends_trans c.is_zero.ensures.extends c.divide.ensures.extends) in
    steps.same _ c.sign_of-sign.ensures.owned vs ∙ sign_is_by g c vs

pub returns-clause-none : goal.returns-clause-none
returns-clause-none g c vs =
    let steps = extends_trans c.negate_where.ensures.extends c.flip_where.ensures.extends in
    let size = ap nat_of (reads_kept steps c.in_ok-size.ensures.made.owned vs) ∙ c.in_ok-size.ensures.value vs in
    c.divide.ensures.extends.same _ c.in_ok-none.ensures.owned vs ∙ c.in_ok-none.ensures.value vs ∙ ap (λ (n : ℕ). eqb n 0) size

pub returns-clause-quotient : goal.returns-clause-quotient
returns-clause-quotient g c vs = rw (number_is g c vs, size_is g c vs) at (c.in_ok-quotient.ensures.quotient vs)

pub returns-clause-rest : goal.returns-clause-rest
returns-clause-rest g c vs some =
    let size = size_is g c vs in
    rw (number_is g c vs, size) at (c.in_ok-quotient.ensures.rest vs (rw size some))

pub negate_where-requires : goal.negate_where-requires
negate_where-requires g c = record { some = c.requires.long; test = c.magnitude.ensures.extends.kept _ c.sign_of-below.ensures.owned; word = owns_kept c.magnitude.ensures.extends c.requires.left }

pub returns-in_err-turned-clause-extends : goal.returns-in_err-turned-clause-extends
returns-in_err-turned-clause-extends g c = extends_trans c.magnitude.ensures.extends c.negate_where.ensures.extends

pub sign_of-sign-requires : goal.sign_of-sign-requires
sign_of-sign-requires g c = record { some = omega (arith, c.in_ok-turned.ensures.made.width); word = c.in_ok-turned.ensures.made.owned }

pub flip_where-requires : goal.flip_where-requires
flip_where-requires g c = record { test = c.sign_of-sign.ensures.owned; word = c.in_ok-turned.ensures.made.owned }

pub returns-in_err-complement-clause-extends : goal.returns-in_err-complement-clause-extends
returns-in_err-complement-clause-extends g c = extends_trans c.magnitude.ensures.extends (extends_trans c.negate_where.ensures.extends c.flip_where.ensures.extends)

pub returns-in_err-number-clause-extends : goal.returns-in_err-number-clause-extends
returns-in_err-number-clause-extends g c = extends_trans c.magnitude.ensures.extends (extends_trans c.negate_where.ensures.extends c.flip_where.ensures.extends)

pub is_zero-requires : goal.is_zero-requires
is_zero-requires g c = record { word = owns_kept (extends_trans c.negate_where.ensures.extends c.flip_where.ensures.extends) c.in_ok-size.ensures.made.owned }

pub returns-in_err-none-clause-extends : goal.returns-in_err-none-clause-extends
returns-in_err-none-clause-extends g c = extends_trans c.magnitude.ensures.extends (extends_trans c.negate_where.ensures.extends (extends_trans c.flip_where.ensures.extends c.is_zero.ensures.extends))

pub divide-requires-clause-left : goal.divide-requires-clause-left
divide-requires-clause-left g c = owns_kept c.is_zero.ensures.extends (subst (OwnsAll g.L.Logic.owns c.flip_where.new.g) (sym c.in_ok-number.ensures) (owns_taken c.len-width.result c.in_ok-complement.ensures.made.owned))

pub divide-requires-clause-right : goal.divide-requires-clause-right
divide-requires-clause-right g c = owns_kept (extends_trans c.negate_where.ensures.extends (extends_trans c.flip_where.ensures.extends c.is_zero.ensures.extends)) c.in_ok-size.ensures.made.owned

pub returns-in_err-quotient-clause-extends : goal.returns-in_err-quotient-clause-extends
returns-in_err-quotient-clause-extends g c = extends_trans c.magnitude.ensures.extends (extends_trans c.negate_where.ensures.extends (extends_trans c.flip_where.ensures.extends (extends_trans c.is_zero.ensures.extends c.divide.ensures.extends)))

pub returns-clause-extends : goal.returns-clause-extends
returns-clause-extends g c = extends_trans c.magnitude.ensures.extends (extends_trans c.negate_where.ensures.extends (extends_trans c.flip_where.ensures.extends (extends_trans c.is_zero.ensures.extends c.divide.ensures.extends)))

pub returns-clause-owned : goal.returns-clause-owned
returns-clause-owned g c = c.in_ok-quotient.ensures.owned

pub returns-clause-owned_rest : goal.returns-clause-owned_rest
returns-clause-owned_rest g c = c.in_ok-quotient.ensures.owned_rest

pub returns-clause-owned_sign : goal.returns-clause-owned_sign
returns-clause-owned_sign g c = (extends_trans c.flip_where.ensures.extends (extends_trans c.is_zero.ensures.extends c.divide.ensures.extends)).kept _ c.sign_of-sign.ensures.owned

pub returns-clause-owned_none : goal.returns-clause-owned_none
returns-clause-owned_none g c = c.divide.ensures.extends.kept _ c.in_ok-none.ensures.owned

pub low_bits-requires : goal.low_bits-requires
low_bits-requires g c = omega (arith, c.in_ok-complement.ensures.made.width, c.in_ok-turned.ensures.made.width)

pub divide-requires-clause-long : goal.divide-requires-clause-long
divide-requires-clause-long g c = omega (arith, ap length c.in_ok-number.ensures, length-take c.len-width.result c.in_ok-complement.complement, c.in_ok-complement.ensures.made.width, c.in_ok-turned.ensures.made.width)

pub divide-requires-clause-alike : goal.divide-requires-clause-alike
divide-requires-clause-alike g c = omega (arith, ap length c.in_ok-number.ensures, length-take c.len-width.result c.in_ok-complement.complement, c.in_ok-complement.ensures.made.width, c.in_ok-turned.ensures.made.width, c.in_ok-size.ensures.made.width)

pub returns-clause-width : goal.returns-clause-width
returns-clause-width g c = omega (arith, c.in_ok-quotient.ensures.width, ap length c.in_ok-number.ensures, length-take c.len-width.result c.in_ok-complement.complement, c.in_ok-complement.ensures.made.width, c.in_ok-turned.ensures.made.width)

pub returns-clause-width_rest : goal.returns-clause-width_rest
returns-clause-width_rest g c = omega (arith, c.in_ok-quotient.ensures.width_rest, ap length c.in_ok-number.ensures, length-take c.len-width.result c.in_ok-complement.complement, c.in_ok-complement.ensures.made.width, c.in_ok-turned.ensures.made.width)
