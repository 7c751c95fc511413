-- `store::find` meets its contract. By opening the store. Assumes nothing.
use Rattle.store.proofs.Called.{refused-find, are-numbers, find-is}
use Rattle.store.specs.Listing.{Octets}
use mathlib.Core.Path.{sym, ap, ◌∙◌}
use native.Mathlib.Omega.{arith}
use Rattle.std.specs.Prelude.{Err}
use Rattle.std.proofs.lemmas.Result.{err_from_is_err_and}
use Rattle.store.proofs.find.Goals as goal

pub place_in-requires : goal.place_in-requires
place_in-requires c = let octets : Octets c.args.buffer.now = λ p. omega (arith, c.type_inv.buffer p) in
    are-numbers c.args.dictionary.now c.args.buffer.now c.in_ok-s.s (sym c.in_ok-s.was ∙ c.open_store.ensures.opened) octets

pub returns-in_err-s : goal.returns-in_err-s
returns-in_err-s c = let e = err_from_is_err_and c.from_residual.result c.from_residual.ensures.1 in
    e.1 ∙ ap Err e.2 ∙ refused-find c.args.dictionary.now c.args.buffer.now c.in_err-s.field-0.0 (sym c.in_err-s.was ∙ c.open_store.ensures.opened) c.args.position

pub returns : goal.returns
returns c = let octets : Octets c.args.buffer.now = λ p. omega (arith, c.type_inv.buffer p) in
    c.place_in.ensures ∙ find-is c.args.dictionary.now c.args.buffer.now c.in_ok-s.s (sym c.in_ok-s.was ∙ c.open_store.ensures.opened) octets c.args.position
