-- The field says only that a proof exists that the calls gave what they give. An entailment is a
-- proposition, so the proof may be opened in front of the walk that Rattle made.
use seplogic.Bi.Basic.{Entails-prop}
use mathlib.Core.Logic.{∥∥₁_elim}
use base.Logic.{via, mono_r}
use denote.Triple.Entry.{on_entry}
use borrow.Fn.Kinds.{sig_of}
use contract.Monad.{fact_mono}
use Rattle.sym_calls.specs.Remembered.{AreRight}
use Rattle.sym_calls.proofs.remembering.Remembering.reveal.Statement.{statement}
use Rattle.sym_calls.proofs.remembering.Remembering.reveal.Lts as lts
use Rattle.sym_calls.proofs.remembering.Remembering.reveal.Reads as reads
use Rattle.sym_calls.proofs.remembering.Remembering.reveal.Tie as tie

pub reveal_spec : {M : Type 1} → statement M
reveal_spec {M} =
    tie.close (λ L K B LL LK LB CB lo lod cl cld ks ksd w b1 b2 b3 𝓤 𝓛 𝓣 y.
    ∥∥₁_elim y.0.3.0.now.right (Entails-prop 𝓤.op _ _) (λ right.
    via 𝓤 _ (mono_r 𝓤 (on_entry 𝓛 (sig_of 5 (lts.ps L K B LL LK LB CB lo lod cl cld ks ksd) (lts.r L K B LL LK LB CB lo lod cl cld ks ksd)) y.0.0 y.0.1 y.0.3 y.0.4) (fact_mono 𝓤 _ (AreRight lo.owns lo.reads ks.fixed y.0.3.0.now.logic.now y.0.3.0.now.made.items) (λ _. right)))
    (lts.spec L K B LL LK LB CB lo lod cl cld ks ksd (λ κs a. AreRight lo.owns lo.reads ks.fixed a.0.now.logic.now a.0.now.made.items) (reads.Post L K B LL LK LB CB lo lod cl cld ks ksd) (λ c. c.requires) 𝓤 𝓛 𝓣 y)))
