use Rattle.std.proofs.Common.{◌≡◌, ℕ, ◌≤◌, ◌∙◌, List, ◌∷◌, [], ◌++◌, ap, sym, refl, arith, map}
use Rattle.std.proofs.Common.{length, drop, take}
use Rattle.std.specs.Prelude.{option_map}
use Rattle.std.proofs.lemmas.List.{append-nil, append_assoc, length-map, map-append, map_push}
use Rattle.std.proofs.lemmas.List.{take_all, take_at}
use Rattle.std.proofs.lemmas.Option.{slice_get-map}
use Rattle.std.proofs.Math.Seq.{drop-append_seam}
use Rattle.sym_values.specs.declared.value.SymValue.{SymValue}
use Rattle.sym_values.specs.Forms.{bits_of, form_for, form_of, forms_of}
use Rattle.sym_values.specs.Owned.{owns_one_more}
use Rattle.sym_values.specs.Reading.{Reading, map_bits}
use Rattle.sym_values.proofs.Held.{take_read}
use Rattle.sym_paths.specs.declared.slots.Slots.{Slots}
use Rattle.sym_paths.specs.Paths.{are_proper, kept_proper, printed_in}
use Rattle.sym_paths.specs.Slots.{local_forms}
use Rattle.sym_paths.proofs.Entering.{owns_behind, proper_behind, proper_push}
use Rattle.sym_paths.proofs.entry.with_zeros.Goals as goal

pub loop-i-init : goal.loop-i-init
loop-i-init g c =
    let args = c.args.args in
    let typed = c.requires.typed in
    let fs = forms_of args in
    record {
      owned = c.requires.owned;
      forms = sym (ap (take c.len-i.result) typed.1
          ∙ take_at fs typed.0 c.len-i.result (length-map args form_of ∙ sym c.len-i.ensures));
      begins = ([], sym (append-nil args));
      proper = λ vs. refl;
    }

pub loop-i-preserved : goal.loop-i-preserved
loop-i-preserved g c =
    let before = c.loop-i.invariant in
    let slots = c.args.slots.now in
    let args = c.args.args in
    let values = c.loop-i.values in
    let i = c.loop-i.i in
    let zero = c.in_ok-zero.zero in
    let made = c.in_ok-zero.ensures.made in
    let pushed = c.in_ok-push.ensures.ok in
    let ty = c.type_at-ty.result in
    let fs = local_forms slots in
    let form = form_for slots.limits in
    let there = slice_get-map form slots.types i ∙ ap (option_map form) c.type_at-ty.ensures in
    record {
      owned = owns_one_more bits_of values _ zero before.owned made.owned pushed;
      forms = ap forms_of pushed ∙ map_push form_of values zero
          ∙ ap (λ w. w ++ form_of zero ∷ []) before.forms
          ∙ ap (λ f. take i fs ++ f ∷ []) made.form
          ∙ sym (take_read fs i (form ty) there);
      begins = (
        before.begins.0 ++ zero ∷ [],
        pushed ∙ ap (λ w. w ++ zero ∷ []) before.begins.1
            ∙ append_assoc args before.begins.0 (zero ∷ []),
      );
      proper = λ vs.
          let rd = map_bits (g.L.Logic.reads c.args.g.now vs) in
          let proper = ap (λ (r : Reading). r.proper) (c.in_ok-zero.ensures.value vs) in
          ap (λ l. are_proper (map rd l)) pushed
          ∙ ap are_proper (map_push rd values zero)
          ∙ proper_push (map rd values) (rd zero) proper
          ∙ before.proper vs;
    }

pub returns-clause-owned : goal.returns-clause-owned
returns-clause-owned g c =
    let all = c.in_ok-all.ensures in
    rw all.behind (owns_behind c.loop-i.values all.kept c.loop-i.invariant.owned all.held.owned)

pub returns-clause-forms : goal.returns-clause-forms
returns-clause-forms g c =
    let slots = c.args.slots.now in
    let fs = local_forms slots in
    let values = c.loop-i.values in
    let all = c.in_ok-all.ensures in
    let end : length fs ≤ c.loop-i.i =
    omega (arith, length-map slots.types (form_for slots.limits)) in
    let locals = c.loop-i.invariant.forms ∙ take_all c.loop-i.i fs end in
    ap forms_of all.behind
    ∙ map-append form_of values all.kept
    ∙ ap (λ w. w ++ forms_of all.kept) locals
    ∙ ap (λ w. fs ++ w) all.held.forms_are

pub returns-clause-begins : goal.returns-clause-begins
returns-clause-begins g c =
    let before = c.loop-i.invariant in
    let all = c.in_ok-all.ensures in (
      before.begins.0 ++ all.kept,
      all.behind ∙ ap (λ w. w ++ all.kept) before.begins.1
          ∙ append_assoc c.args.args before.begins.0 all.kept,
    )

pub returns-clause-proper : goal.returns-clause-proper
returns-clause-proper g c vs =
    let slots = c.args.slots.now in
    let rd = g.L.Logic.reads c.args.g.now vs in
    let all = c.in_ok-all.ensures in
    ap (λ l. are_proper (map (map_bits rd) l)) all.behind
    ∙ proper_behind rd slots.limits slots.prints c.loop-i.values all.kept all.held.forms_are
    ∙ c.loop-i.invariant.proper vs

-- what stands behind as many values as there are locals
behind : {B : Type 0} (slots : Slots) (values kept all : List (SymValue B)) (i : ℕ)
    → all ≡ values ++ kept → forms_of values ≡ take i (local_forms slots)
    → length slots.types ≤ i → drop (length slots.types) all ≡ kept
behind slots values kept all i e f h =
    let fs = local_forms slots in
    let form = form_for slots.limits in
    let end : length fs ≤ i = omega (arith, length-map slots.types form) in
    let same = ap length (f ∙ take_all i fs end) in
    let long : length slots.types ≡ length values =
    omega (arith, same, length-map slots.types form, length-map values form_of) in
    ap (drop (length slots.types)) e
    ∙ ap (λ n. drop n (values ++ kept)) long
    ∙ drop-append_seam values kept

pub returns-clause-kept : goal.returns-clause-kept
returns-clause-kept g c vs =
    let slots = c.args.slots.now in
    let rd = g.L.Logic.reads c.args.g.now vs in
    let all = c.in_ok-all.ensures in
    let end : length slots.types ≤ c.loop-i.i = omega arith in
    ap (λ l. printed_in slots.limits (map (map_bits rd) l))
    (behind slots c.loop-i.values all.kept _ c.loop-i.i all.behind c.loop-i.invariant.forms end)
    ∙ all.reads_as vs

pub returns-clause-kept_proper : goal.returns-clause-kept_proper
returns-clause-kept_proper g c vs =
    let slots = c.args.slots.now in
    let rd = g.L.Logic.reads c.args.g.now vs in
    let all = c.in_ok-all.ensures in
    let end : length slots.types ≤ c.loop-i.i = omega arith in
    ap (λ l. kept_proper slots.limits (map (map_bits rd) l))
    (behind slots c.loop-i.values all.kept _ c.loop-i.i all.behind c.loop-i.invariant.forms end)
    ∙ all.proper vs
