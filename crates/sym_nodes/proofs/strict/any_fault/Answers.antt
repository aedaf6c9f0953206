use Rattle.std.proofs.Common.{◌∙◌, sym, arith}
use Rattle.bit_words.specs.Logic.{extends_trans}
use Rattle.sym_nodes.proofs.Choosing.{fault_owned, faults_more}
use Rattle.sym_nodes.proofs.strict.any_fault.Goals as goal

pub or-requires-clause-right : goal.or-requires-clause-right
or-requires-clause-right g c =
    c.loop-part.invariant.extends.kept _ (fault_owned c.args.parts.now c.loop-part.part-index c.part-item.result c.requires (omega arith) c.part-item.is)

pub loop-part-preserved : goal.loop-part-preserved
loop-part-preserved g c =
    let reads = g.L.Logic.reads in
    let before = c.loop-part.invariant in
    let parts = c.args.parts.now in
    let i = c.loop-part.part-index in
    let part = c.part-item.result in
    let owned = fault_owned parts i part c.requires (omega arith) c.part-item.is in
    record {
      extends = extends_trans before.extends c.or.ensures.extends;
      owned = c.in_ok-fault.ensures.owned;
      value = λ vs.
          let first = reads c.args.g.now vs in
          let so_far = before.value vs in
          let same = before.extends.same part.fault owned vs in
          let now = rw (so_far, same) at (c.in_ok-fault.ensures.value vs) in
          now ∙ sym (faults_more first parts i part (omega arith) c.part-item.is);
    }
