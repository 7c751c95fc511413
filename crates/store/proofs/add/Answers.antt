-- `store::add` meets its contract. By opening the store. Assumes nothing.
use Rattle.store.proofs.Called.{refused-called, is-ready, add-called}
use Rattle.store.specs.Listing.{Octets}
use mathlib.Core.Path.{sym, ap, ◌∙◌}
use native.Mathlib.Omega.{arith}
use Rattle.std.specs.Prelude.{Err}
use Rattle.std.proofs.lemmas.Result.{err_from_is_err_and}
use Rattle.store.proofs.add.Goals as goal

pub add_to-requires : goal.add_to-requires
add_to-requires c = let octets : Octets c.args.buffer.now = λ p. omega (arith, c.slice_known-1.given p) in
    is-ready c.args.dictionary.now c.args.buffer.now c.in_ok-s.s (sym c.in_ok-s.was ∙ c.open_store.ensures.opened) octets

pub returns-in_err-s : goal.returns-in_err-s
returns-in_err-s c = let e = err_from_is_err_and c.from_residual.result c.from_residual.ensures.1 in
    refused-called c.args.dictionary.now c.args.buffer.now c.in_err-s.field-0.0 (sym c.in_err-s.was ∙ c.open_store.ensures.opened) _ c.from_residual.result (e.1 ∙ ap Err e.2)

pub returns : goal.returns
returns c = let octets : Octets c.args.buffer.now = λ p. omega (arith, c.slice_known-1.given p) in
    let entry-octets : Octets c.args.entry.now = λ p. omega (arith, c.type_inv.entry p) in
    add-called c.args.dictionary.now c.args.buffer.now c.in_ok-s.s (sym c.in_ok-s.was ∙ c.open_store.ensures.opened) octets _ c.args.entry.now _ _ c.open_store.ensures.laid entry-octets c.add_to.ensures
