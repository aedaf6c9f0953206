use Rattle.std.proofs.Common.{◌≡◌, ◌∙◌, ◌<◌, ℕ, List, ap, arith, get_or, length, sym, subst}
use Rattle.std.proofs.lemmas.List.{get_or-replicate}
use Rattle.sat_plain.specs.Places.{AreSums, AreTotals, sum_of}
use Rattle.sat_plain.proofs.Filling.{none_placed, take_front}
use Rattle.sat_plain.proofs.occurrences.Occurrences.new.Goals as goal

pub fill-requires-clause-empty : goal.fill-requires-clause-empty
fill-requires-clause-empty c =
    let clauses = c.args.f.now.clauses in
    let counts = c.deref_mut-2.result.now in
    let places = c.deref_mut-4.result.now in
    let counted : c.in_ok-starts.starts.len ≡ length c.count_all.new.counts = omega (arith, c.count_all.auto.counts, c.deref_mut.ensures.len) in
    let summed : c.in_ok-starts.starts.len ≡ length c.sum_up.new.counts = omega (arith, c.sum_up.auto.counts, c.deref_mut-2.ensures.len) in
    let two = c.deref_mut-2.ensures.value ∙ take_front c.in_ok-starts.starts.len c.count_all.new.counts _ counted in
    let three = c.deref_mut-3.ensures.value ∙ take_front c.in_ok-starts.starts.len c.sum_up.new.counts _ summed in
    let totals = subst (AreTotals clauses) (sym two) c.in_ok-count_all.ensures in
    let zeros = c.deref_mut-4.ensures.value ∙ c.in_ok-places.ensures.items_if_clones_equal (λ y e. e) in
    let room : length places ≡ sum_of (length counts) counts = c.deref_mut-4.ensures.len ∙ c.in_ok-places.ensures.len ∙ c.in_ok-total.ensures.total in
    record {
      counts = counts;
      totals = totals;
      are = subst (AreSums counts) (sym three) c.in_ok-total.ensures.sums;
      room = room;
      within = none_placed clauses counts places totals room (λ k d inside.
          let long : length places ≡ c.in_ok-total.total = c.deref_mut-4.ensures.len ∙ c.in_ok-places.ensures.len in
          let below : k < c.in_ok-total.total = omega arith in
          ap (λ (xs : List ℕ). get_or xs k d) zeros ∙ get_or-replicate c.in_ok-total.total k 0 d below);
    }
