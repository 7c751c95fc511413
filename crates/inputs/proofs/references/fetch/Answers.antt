-- `inputs::references::fetch` meets its contract. By the code, with what each kind of reference gives. Assumes nothing.
use Prim.Native.Nat.{ℕ, min}
use mathlib.Core.Path.{refl, ap₂, ◌∙◌}
use mathlib.Core.List.{List}
use Rattle.dictionary.specs.Naming.{named, numbered}
use Rattle.grammar.specs.Tree.{field, parameter, parameter2}
use Rattle.surroundings.specs.Bindings.{bound_around}
use Rattle.values.specs.Values.{lent_in}
use Rattle.inputs.proofs.references.fetch.Goals as goal

pub returns-in-Field : goal.returns-in-Field
unfolding bound_around
returns-in-Field c = let lent' = lent_in c.args.m in
    let around' = bound_around c.args.dictionary.now c.args.parameters.now (min c.args.rows 256)
    c.args.m.images.now c.args.m.records.now c.args.m.runs.now c.args.bindings.now in
    rw c.in-Field.is (c.by_name.ensures lent' refl refl ∙
    ap₂ (λ (n : ℕ) (x : List ℕ). around' (field n (named x))) c.byte_at-n.ensures c.name_at.ensures)

pub returns-in-Fid : goal.returns-in-Fid
unfolding bound_around
returns-in-Fid c = let lent' = lent_in c.args.m in
    let around' = bound_around c.args.dictionary.now c.args.parameters.now (min c.args.rows 256)
    c.args.m.images.now c.args.m.records.now c.args.m.runs.now c.args.bindings.now in
    rw c.in-Fid.is (c.by_id.ensures lent' refl refl ∙
    ap₂ (λ (n : ℕ) (i : ℕ). around' (field n (numbered i))) c.byte_at-n.ensures c.word_at-word.ensures.0)

pub returns-in-Parameter : goal.returns-in-Parameter
unfolding bound_around
returns-in-Parameter c = let lent' = lent_in c.args.m in
    let around' = bound_around c.args.dictionary.now c.args.parameters.now (min c.args.rows 256)
    c.args.m.images.now c.args.m.records.now c.args.m.runs.now c.args.bindings.now in
    rw c.in-Parameter.is (c.plain.ensures lent' refl ∙
    ap₂ (λ (n : ℕ) (i : ℕ). around' (parameter n i)) c.byte_at-n.ensures c.word_at-word.ensures.0)

pub returns-in-Parameter2 : goal.returns-in-Parameter2
unfolding bound_around
returns-in-Parameter2 c = let lent' = lent_in c.args.m in
    let around' = bound_around c.args.dictionary.now c.args.parameters.now (min c.args.rows 256)
    c.args.m.images.now c.args.m.records.now c.args.m.runs.now c.args.bindings.now in
    rw c.in-Parameter2.is (c.with_flag.ensures lent' refl ∙
    (λ i. around' (parameter2 (c.byte_at-n.ensures i) (c.word_at-word.ensures.0 i) (c.word_at-flag.ensures.0 i))))
