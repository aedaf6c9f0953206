use Rattle.std.proofs.Common.{◌≡◌, map, drop}
use Rattle.mpy_tree.specs.View.{term_of, terms, terms_of, routine_of}
use Rattle.mpy_tree.specs.Rules.{single, all_types, all_numbers, all_sequences, are_arguments}
use Rattle.mpy_types.proofs.rules.+type_in.Given as goal

-- all those so far are numbers
abbrev pub invariant-are_numbers-loop-e : goal.invariant-are_numbers-loop-e
invariant-are_numbers-loop-e g l =
    all_numbers (all_types (single (g.K.Known.gives l.known)) (map routine_of l.funcs) l.func (terms_of l.es))
    ≡ all_numbers (all_types (single (g.K.Known.gives l.known)) (map routine_of l.funcs) l.func (terms (map term_of (drop l.e-index l.es.items.items))))

-- all those so far are lists or texts
abbrev pub invariant-are_sequences-loop-e : goal.invariant-are_sequences-loop-e
invariant-are_sequences-loop-e g l =
    all_sequences (all_types (single (g.K.Known.gives l.known)) (map routine_of l.funcs) l.func (terms_of l.es))
    ≡ all_sequences (all_types (single (g.K.Known.gives l.known)) (map routine_of l.funcs) l.func (terms (map term_of (drop l.e-index l.es.items.items))))

-- those so far have the types of their parameters
abbrev pub invariant-are_arguments-loop-k : goal.invariant-are_arguments-loop-k
invariant-are_arguments-loop-k g l =
    are_arguments (single (g.K.Known.gives l.known)) l.g.number l.g.func.now.params (all_types (single (g.K.Known.gives l.known)) (map routine_of l.funcs) l.func (terms_of l.es))
    ≡ are_arguments (single (g.K.Known.gives l.known)) l.g.number (drop l.k l.g.func.now.params) (all_types (single (g.K.Known.gives l.known)) (map routine_of l.funcs) l.func (terms (map term_of (drop l.k l.es.items.items))))
