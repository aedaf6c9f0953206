use Rattle.std.proofs.Common.{◌+◌, ◌-◌, length, arith, refl}
use Rattle.std.proofs.lemmas.Option.{slice_get-get_or}
use Rattle.input_space.proofs.Orders.{elements_first, elements_left, elements_next, elements_last}
use Rattle.input_space.proofs.places.characters_at.Goals as goal

pub loop-k-init : goal.loop-k-init
loop-k-init c =
    rw c.new-found.ensures.items
    (elements_first 1000000000000 c.args.alphabet.now c.args.len _ _ c.args.i refl (omega arith) c.requires.within c.requires.counted)

pub split-parts-requires : goal.split-parts-requires
split-parts-requires c =
    let r = elements_left 1000000000000 _ _ _ c.args.alphabet.now _ (length c.args.alphabet.now) _ refl c.loop-k.invariant in
    record { some = omega arith; within = r.within; counted = r.few }

pub loop-k-preserved : goal.loop-k-preserved
loop-k-preserved c =
    let place = c.split-parts.ensures in
    rw c.in_ok-push.ensures.items
    (elements_next 1000000000000 _ _ _ c.args.alphabet.now (c.args.len - c.loop-k.k) (c.args.len - c.loop-k.k - 1) (c.args.len - (c.loop-k.k + 1)) (length c.args.alphabet.now) _ _ _ _ (omega arith) (omega arith) refl c.loop-k.invariant
    (slice_get-get_or c.args.alphabet.now c.split-parts.result.first 0 place.first) place.others place.place)

pub returns : goal.returns
returns c =
    elements_last 1000000000000 _ _ _ c.args.alphabet.now (c.args.len - c.loop-k.k) _ (omega arith) c.loop-k.invariant
