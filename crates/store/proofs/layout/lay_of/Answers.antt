use Rattle.dictionary.specs.Internal.Walk.{relation_at}
use Rattle.records.proofs.Offsets.{found, above}
use Rattle.records.specs.Record.{record_length}
use Rattle.store.proofs.Layouts.{laid-short, laid-long}
use mathlib.Core.Path.{refl, sym, ◌∙◌}
use native.Mathlib.Omega.{arith}
use Rattle.store.proofs.layout.lay_of.Goals as goal

pub lay_out-requires : goal.lay_out-requires
lay_out-requires c = let r = relation_at c.args.d.now c.args.relation in
    let k = found 4096 (record_length r) c.in-Some.n (sym c.in-Some.is ∙ c.record_length.ensures) in
    omega (arith, k.0, k.1)

pub returns-in-Some : goal.returns-in-Some
returns-in-Some c = let r = relation_at c.args.d.now c.args.relation in
    laid-short r c.args.table.now _ c.described.result c.in-Some.n
    (found 4096 (record_length r) c.in-Some.n (sym c.in-Some.is ∙ c.record_length.ensures)) c.lay_out.ensures
    c.described.ensures

pub returns-in-None : goal.returns-in-None
returns-in-None c = let r = relation_at c.args.d.now c.args.relation in
    laid-long r c.args.table.now c.args.table.now c.described-in-None.result
    (above 4096 (record_length r) (sym c.in-None.is ∙ c.record_length.ensures)) refl c.described-in-None.ensures
