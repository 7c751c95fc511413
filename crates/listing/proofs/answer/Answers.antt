use native.Mathlib.Omega.{arith}
use mathlib.Core.Path.{sym, ◌∙◌}
use Rattle.input.proofs.Inside.{request-inside}
use Rattle.listing.proofs.answer.Goals as goal

-- the dictionary and the request stand inside the input
pub slice_bounds-list-count : goal.slice_bounds-list-count
slice_bounds-list-count c = let inside = request-inside c.args.s.now _ (sym c.in-Some.is ∙ c.request_entry.ensures) in omega arith

pub slice_bounds-list-start : goal.slice_bounds-list-start
slice_bounds-list-start c = let inside = request-inside c.args.s.now _ (sym c.in-Some.is ∙ c.request_entry.ensures) in omega arith

pub slice_bounds-list-end : goal.slice_bounds-list-end
slice_bounds-list-end c = let inside = request-inside c.args.s.now _ (sym c.in-Some.is ∙ c.request_entry.ensures) in omega arith

pub overflow_add-at : goal.overflow_add-at
overflow_add-at c = let inside = request-inside c.args.s.now _ (sym c.in-Some.is ∙ c.request_entry.ensures) in omega arith

pub slice_bounds-list-count-in-Some : goal.slice_bounds-list-count-in-Some
slice_bounds-list-count-in-Some c = let inside = request-inside c.args.s.now _ (sym c.in-Some.is ∙ c.request_entry.ensures) in omega arith

pub slice_bounds-list-start-in-Some : goal.slice_bounds-list-start-in-Some
slice_bounds-list-start-in-Some c = let inside = request-inside c.args.s.now _ (sym c.in-Some.is ∙ c.request_entry.ensures) in omega arith
