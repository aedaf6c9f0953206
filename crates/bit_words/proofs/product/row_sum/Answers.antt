use Rattle.std.proofs.Common.{◌≡◌, ◌∙◌, ◌+◌, ap, length, map, arith, length-take, cond, List, Bool, subst, sym, ◌∷◌}
use Rattle.std.proofs.lemmas.List.{take_all}
use Rattle.bit_words.specs.Words.{bit_value, nat_of}
use Rattle.bit_words.proofs.Kept.{reads_kept, owns_kept, owns_low_push, owns_taken}
use Rattle.bit_words.proofs.Products.{nat_masked}
use Rattle.bit_words.specs.Logic.{OwnsAll, extends_trans}
use Rattle.bit_words.proofs.product.row_sum.Goals as goal

pub returns-clause-total : goal.returns-clause-total
returns-clause-total g c vs =
    let reads = g.L.Logic.reads in
    let first = reads c.args.g.now vs in
    let next = reads c.mask.new.g vs in
    let left = take_all c.args.width c.in_ok-row.row (omega (arith, c.in_ok-row.ensures.made.width, ap length c.in_ok-low.ensures, length-take c.args.width c.args.a.now)) in
    let doubled = c.in_ok-push_low.ensures.ok in
    let right = take_all c.args.width c.push_low.new.self (omega (arith, ap length doubled, ap length c.in_ok-doubled.ensures)) in
    let row = ap nat_of (c.in_ok-row.ensures.value vs) ∙ nat_masked (first c.args.digit) (map first c.in_ok-low.low) ∙ ap (λ w. cond (first c.args.digit) (nat_of (map first w)) 0) c.in_ok-low.ensures in
    let no = c.constant-no.ensures.value vs in
    let twice : nat_of (map next c.push_low.new.self) ≡ nat_of (map first c.args.higher.now) + nat_of (map first c.args.higher.now)
    = ap (λ w. nat_of (map next w)) doubled ∙ ap (λ (b : Bool). bit_value b + (nat_of (map next c.in_ok-doubled.doubled) + nat_of (map next c.in_ok-doubled.doubled))) no
    ∙ ap (λ w. 0 + (nat_of (map next w) + nat_of (map next w))) c.in_ok-doubled.ensures
    ∙ ap (λ (v : List Bool). 0 + (nat_of v + nat_of v)) (reads_kept c.mask.ensures.extends c.requires.higher vs) ∙ omega arith in
    rw (left, right, row, twice, no) at (c.in_ok-sum.ensures.total vs) ∙ omega arith

pub mask-requires : goal.mask-requires
mask-requires g c = record { test = c.requires.digit; word = subst (OwnsAll g.L.Logic.owns c.args.g.now) (sym c.in_ok-low.ensures) (owns_taken c.args.width c.requires.factor) }

pub returns-in_err-row-clause-extends : goal.returns-in_err-row-clause-extends
returns-in_err-row-clause-extends g c = c.mask.ensures.extends

pub returns-in_err-doubled-clause-extends : goal.returns-in_err-doubled-clause-extends
returns-in_err-doubled-clause-extends g c = c.mask.ensures.extends

pub returns-in_err-push_low-clause-extends : goal.returns-in_err-push_low-clause-extends
returns-in_err-push_low-clause-extends g c = c.mask.ensures.extends

pub carry_sum-requires-clause-left : goal.carry_sum-requires-clause-left
carry_sum-requires-clause-left g c = c.in_ok-row.ensures.made.owned

pub carry_sum-requires-clause-right : goal.carry_sum-requires-clause-right
carry_sum-requires-clause-right g c = owns_low_push c.constant-no.ensures.owned (owns_kept c.mask.ensures.extends c.requires.higher) (c.in_ok-push_low.ensures.ok ∙ ap (λ w. c.constant-no.result ∷ w) c.in_ok-doubled.ensures)

pub carry_sum-requires-clause-carry : goal.carry_sum-requires-clause-carry
carry_sum-requires-clause-carry g c = c.constant-no.ensures.owned

pub returns-in_err-sum-clause-extends : goal.returns-in_err-sum-clause-extends
returns-in_err-sum-clause-extends g c = extends_trans c.mask.ensures.extends c.carry_sum.ensures.extends

pub returns-clause-extends : goal.returns-clause-extends
returns-clause-extends g c = extends_trans c.mask.ensures.extends c.carry_sum.ensures.extends

pub returns-clause-owned : goal.returns-clause-owned
returns-clause-owned g c = c.in_ok-sum.ensures.owned

pub returns-clause-owned_carry : goal.returns-clause-owned_carry
returns-clause-owned_carry g c = c.in_ok-sum.ensures.owned_carry

pub returns-clause-width : goal.returns-clause-width
returns-clause-width g c = c.in_ok-sum.ensures.width
