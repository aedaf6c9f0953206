use Rattle.std.proofs.Common.{◌≡◌, ◌∙◌, ◌∷◌, [], ◌++◌, ap, sym, arith, map, length, replicate}
use Rattle.std.proofs.lemmas.List.{append-nil, append_assoc, length_push, map_push}
use Rattle.std.proofs.lemmas.List.{replicate-append-replicate}
use Rattle.bit_words.proofs.Kept.{owns_push}
use Rattle.sym_paths.proofs.entry.with_constants.Goals as goal

pub loop-init : goal.loop-init
loop-init g c = record {
  owned = c.requires;
  width = omega arith;
  value = λ vs. sym (append-nil (map (g.L.Logic.reads c.args.g.now vs) c.args.bits));
}

pub loop-preserved : goal.loop-preserved
loop-preserved g c =
    let before = c.loop.invariant in
    let all = c.loop.all in
    let n = c.loop.counter in
    let bit = c.constant-bit.result in
    let truth = c.args.truth in
    let pushed = c.in_ok-push.ensures.ok in
    let long = ap length pushed ∙ length_push all bit in
    record {
      owned = owns_push before.owned c.constant-bit.ensures.owned pushed;
      width = omega (arith, long, before.width);
      value = λ vs.
          let rd = g.L.Logic.reads c.args.g.now vs in
          let first = map rd c.args.bits in
          let one = ap (λ b. replicate n truth ++ b ∷ []) (c.constant-bit.ensures.value vs) in
          ap (map rd) pushed ∙ map_push rd all bit
          ∙ ap (λ w. w ++ rd bit ∷ []) (before.value vs)
          ∙ append_assoc first (replicate n truth) (rd bit ∷ [])
          ∙ ap (λ w. first ++ w) (one ∙ replicate-append-replicate n 1 truth);
    }

pub returns-clause-width : goal.returns-clause-width
returns-clause-width g c =
    let end : c.loop.counter ≡ c.args.count = omega arith in
    rw end at c.loop.invariant.width

pub returns-clause-value : goal.returns-clause-value
returns-clause-value g c vs =
    let end : c.loop.counter ≡ c.args.count = omega arith in
    rw end at (c.loop.invariant.value vs)
